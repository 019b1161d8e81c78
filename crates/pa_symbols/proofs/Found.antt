-- Entries that stand, with strings that end after the last name, are those of the marks that they tell.
use Rattle.std.proofs.Common.{◌≡◌, ◌≢◌, ℕ, zero, suc, ◌+◌, ◌-◌, ◌*◌, ◌/◌, ◌%◌, ◌≤◌, ◌<◌, eqb, leb, ltb, Bool, true, false, not, ◌&&◌, ◌||◌, List, [], ◌∷◌, ◌++◌, length, drop, get_or, map, None, refl, sym, ap, subst, inl, inr, ◌∙◌, arith, drop-cons}
use Rattle.std.specs.Prelude.{All}
use Rattle.std.specs.List.{IsDistinct, AllByRecursion, before_first, after_first}
use Rattle.std.specs.Str.{bytes_eq}
use Rattle.std.proofs.lemmas.Bool.{cases_eq, ne_eqb, eqb-true, eq-eqb, and_parts, or_parts, not-true, leb-true, le-leb, ltb-true}
use Rattle.std.proofs.lemmas.List.{append-nil, drop-drop, drop_all}
use Rattle.std.proofs.lemmas.List.Elements.{All-nil, All-cons}
use Rattle.pa_num.specs.declared.fault.ImageRule.TheVariants.{H5}
use Rattle.pa_layout.specs.declared.field.FileField.{FileField}
use Rattle.pa_layout.specs.Fields.{spelled, size_of, AllFit, wrong_from, IsAt}
use Rattle.pa_layout.specs.Flaws.{first, flaw_of}
use Rattle.pa_layout.specs.Names.{is_zero, name_length, has_end, cut, behind, ended, are_names}
use Rattle.pa_layout.proofs.Facts.{then_none, holds_true}
use Rattle.pa_layout.proofs.Laws.{IsBytes, IsAt-append, IsAt-nil, IsAt-whole, stand-spelled, spelled-append, length-spelled}
use Rattle.pa_layout.proofs.NameLaws.{HaveEnds, length-before_first, are_names-cut, ended-cut}
use Rattle.pa_object.specs.declared.object.Mark.{Mark}
use Rattle.pa_object.specs.Linkable.{Ascends}
use Rattle.pa_symbols.specs.declared.places.TextAt.{TextAt}
use Rattle.pa_symbols.specs.declared.places.SymbolsAt.{SymbolsAt}
use Rattle.pa_symbols.specs.Symbols.{Text, kind_of, entry_of, entries, names_of, public_names, symbols_of, AreMarks}
use Rattle.pa_symbols.specs.Reading.{place_in, kind_in, description_in, address_in, is_public, text_in, name_in, is_kind, is_of_word, mark_in, marks_from, due_place, public_before, entry_stands, entry_checks, count_in, strings_check, symbols_flaw}
use Rattle.pa_symbols.proofs.Steps.{stands_parts, place_due}

-- ---- entries that stand

-- n entries from entry k on
abbrev pub EachStands : TextAt → List ℕ → List ℕ → (k n : ℕ) → Type 0
EachStands text symbols strings k zero = Unit {0}
EachStands text symbols strings k (suc n) = (entry_stands text symbols strings k ≡ true) × EachStands text symbols strings (suc k) n

pub each_stands : (text : TextAt) (at : SymbolsAt) (symbols strings : List ℕ) (k n : ℕ) → first (entry_checks text at symbols strings k n) symbols ≡ None → EachStands text symbols strings k n
each_stands text at symbols strings k zero e = tt
each_stands text at symbols strings k (suc n) e =
    let a = then_none _ (first (entry_checks text at symbols strings (suc k) n) symbols) e in
    (holds_true H5 _ _ symbols a.0, each_stands text at symbols strings (suc k) n a.1)

kind_cases : (b c : Bool) (kind : ℕ) → eqb kind (kind_of true) ≡ b → eqb kind (kind_of false) ≡ c → (b || c) ≡ true → kind ≡ kind_of b
kind_cases true c kind e f h = eqb-true _ _ e
kind_cases false true kind e f h = eqb-true _ _ f
kind_cases false false kind e f h = absurd cc

kind_is : (kind : ℕ) → is_kind kind ≡ true → kind ≡ kind_of (eqb kind (kind_of true))
kind_is kind h = kind_cases (eqb kind (kind_of true)) (eqb kind (kind_of false)) kind refl refl h

-- an address of a word, and the word's number
record IsWord (text : TextAt) (address : ℕ) : Type 0 where
  pub again : text.address + 4 * ((address - text.address) / 4) ≡ address
  pub inside : (address - text.address) / 4 < text.words

word_is : (text : TextAt) (address : ℕ) → is_of_word text address ≡ true → IsWord text address
word_is text address h =
    let a = and_parts (leb text.address address) (eqb ((address - text.address) % 4) 0 && ltb ((address - text.address) / 4) text.words) h in
    let b = and_parts (eqb ((address - text.address) % 4) 0) (ltb ((address - text.address) / 4) text.words) a.1 in
    let le : text.address ≤ address = leb-true _ _ a.0 in
    let whole : (address - text.address) % 4 ≡ 0 = eqb-true _ _ b.0 in
    record { again = omega arith; inside = ltb-true _ _ b.1 }

-- ---- the symbols

entry_right : (text : TextAt) (symbols strings : List ℕ) (k : ℕ) → 16 * k + 16 ≤ length symbols → entry_stands text symbols strings k ≡ true
    → wrong_from (16 * k) (entry_of (due_place symbols strings k) text.address (mark_in text symbols strings k)) symbols ≡ None
entry_right text symbols strings k le e =
    let s = stands_parts text symbols strings k e in
    let six : 16 * k + 4 + 2 ≡ 16 * k + 6 = omega arith in
    let eight : 16 * k + 6 + 2 ≡ 16 * k + 8 = omega arith in
    let i4 : leb (16 * k + 4) (length symbols) ≡ true = le-leb _ _ (omega arith) in
    let i6 : leb (16 * k + 6) (length symbols) ≡ true = le-leb _ _ (omega arith) in
    let i8 : leb (16 * k + 8) (length symbols) ≡ true = le-leb _ _ (omega arith) in
    let i16 : leb (16 * k + 8 + 8) (length symbols) ≡ true = le-leb _ _ (omega arith) in
    let place : eqb (place_in symbols k) (due_place symbols strings k) ≡ true = eq-eqb _ _ (place_due text symbols strings k e) in
    let kind : eqb (kind_in symbols k) (kind_of (is_public symbols k)) ≡ true = eq-eqb _ _ (kind_is (kind_in symbols k) s.kind) in
    let description : eqb (description_in symbols k) 0 ≡ true = eq-eqb _ _ s.description in
    let address : eqb (address_in symbols k) (text.address + 4 * ((address_in symbols k - text.address) / 4)) ≡ true = eq-eqb _ _ (sym (word_is text (address_in symbols k) s.word).again) in
    rw (six, eight, i4, i6, i8, i16, place, kind, description, address) refl

pub AllFit-append : (xs ys : List FileField) → AllFit xs → AllFit ys → AllFit (xs ++ ys)
AllFit-append [] ys a b = b
AllFit-append (x ∷ xs) ys a b = (a.0, a.1, AllFit-append xs ys a.2 b)

due_next : (text : TextAt) (symbols strings : List ℕ) (k : ℕ) → entry_stands text symbols strings k ≡ true → due_place symbols strings (suc k) ≡ due_place symbols strings k + (length (name_in symbols strings k) + 1)
due_next text symbols strings k e = omega (arith, place_due text symbols strings k e, length-before_first (text_in symbols strings k))

symbols_at : (text : TextAt) (symbols strings : List ℕ) (k n : ℕ) → IsBytes symbols → 16 * (k + n) ≤ length symbols → EachStands text symbols strings k n
    → IsAt symbols (16 * k) (spelled (entries (due_place symbols strings k) text.address (marks_from text symbols strings k n))) × AllFit (entries (due_place symbols strings k) text.address (marks_from text symbols strings k n))
symbols_at text symbols strings k zero bytes le h = (IsAt-nil symbols (16 * k) (omega arith), tt)
symbols_at text symbols strings k (suc n) bytes le h =
    let entry = entry_of (due_place symbols strings k) text.address (mark_in text symbols strings k) in
    let more = entries (due_place symbols strings k + (length (name_in symbols strings k) + 1)) text.address (marks_from text symbols strings (suc k) n) in
    let here : IsAt symbols (16 * k) (spelled entry) × AllFit entry = stand-spelled (16 * k) entry symbols bytes (omega arith) (entry_right text symbols strings k (omega arith) h.0) in
    let there : IsAt symbols (16 * suc k) (spelled more) × AllFit more =
    subst (λ (p : ℕ). IsAt symbols (16 * suc k) (spelled (entries p text.address (marks_from text symbols strings (suc k) n))) × AllFit (entries p text.address (marks_from text symbols strings (suc k) n))) (due_next text symbols strings k h.0)
    (symbols_at text symbols strings (suc k) n bytes (omega arith) h.1) in
    (subst (IsAt symbols (16 * k)) (sym (spelled-append entry more)) (IsAt-append symbols (16 * k) (spelled entry) (spelled more) (16 * suc k) (omega arith) here.0 there.0), AllFit-append entry more here.1 there.1)

-- ---- the strings

-- the names that n entries from entry k on tell are the first n of the text from where the first is due
record AreCut (text : TextAt) (symbols strings : List ℕ) (k n last : ℕ) : Type 0 where
  pub names : names_of (marks_from text symbols strings k n) ≡ cut n (drop (due_place symbols strings k) strings)
  pub ends : HaveEnds n (drop (due_place symbols strings k) strings)
  pub rest : behind n (drop (due_place symbols strings k) strings) ≡ drop (due_place symbols strings last) strings

cut_next : (text : TextAt) (symbols strings whole : List ℕ) (k n last : ℕ) → whole ≡ text_in symbols strings k → drop (due_place symbols strings (suc k)) strings ≡ after_first is_zero whole → name_length whole < length whole
    → AreCut text symbols strings (suc k) n last → drop (due_place symbols strings k) strings ≡ whole → AreCut text symbols strings k (suc n) last
cut_next text symbols strings whole k n last e next lt c due = record {
  names = ap (λ (l : List ℕ). before_first is_zero l ∷ names_of (marks_from text symbols strings (suc k) n)) (sym e) ∙ ap (λ (l : List Text). before_first is_zero whole ∷ l) (c.names ∙ ap (cut n) next) ∙ ap (cut (suc n)) (sym due);
  ends = subst (HaveEnds (suc n)) (sym due) (lt, subst (HaveEnds n) next c.ends);
  rest = ap (behind (suc n)) due ∙ ap (behind n) (sym next) ∙ c.rest;
}

names_cut : (text : TextAt) (symbols strings : List ℕ) (k n last : ℕ) → k + n ≡ last → EachStands text symbols strings k n → AreCut text symbols strings k n last
names_cut text symbols strings k zero last e h =
    let same : k ≡ last = omega arith in
    record { names = refl; ends = tt; rest = ap (λ (j : ℕ). drop (due_place symbols strings j) strings) same }
names_cut text symbols strings k (suc n) last e h =
    let whole = text_in symbols strings k in
    let s = stands_parts text symbols strings k h.0 in
    let a = and_parts (eqb (place_in symbols k) (due_place symbols strings k)) (not (eqb (name_length whole) 0) && has_end whole) s.name in
    let b = and_parts (not (eqb (name_length whole) 0)) (has_end whole) a.1 in
    let due : drop (due_place symbols strings k) strings ≡ whole = ap (λ (p : ℕ). drop p strings) (sym (place_due text symbols strings k h.0)) in
    let next : drop (due_place symbols strings (suc k)) strings ≡ after_first is_zero whole = sym (drop-drop (name_length whole + 1) (place_in symbols k) strings) in
    cut_next text symbols strings whole k n last refl next (ltb-true _ _ b.1) (names_cut text symbols strings (suc k) n last (omega arith) h.1) due

-- ---- legality

pub length_from_some : (name : Text) → name ≢ [] → eqb (length name) 0 ≡ false
length_from_some [] some = absurd (some refl)
length_from_some (byte ∷ name) some = ne_eqb _ _ (λ e. omega arith)

marks_ascend : (text : TextAt) (symbols strings : List ℕ) (k n : ℕ) → EachStands text symbols strings k n → Ascends (map (λ mark. mark.at) (marks_from text symbols strings k n))
unfolding Ascends
marks_ascend text symbols strings k zero h = tt
marks_ascend text symbols strings k (suc zero) h = tt
marks_ascend text symbols strings k (suc (suc n)) h =
    let here = word_is text (address_in symbols k) (stands_parts text symbols strings k h.0).word in
    let s = stands_parts text symbols strings (suc k) h.1.0 in
    let next = word_is text (address_in symbols (suc k)) s.word in
    let above : address_in symbols k < address_in symbols (suc k) = ltb-true _ _ s.ascends in
    (omega (arith, here.again, next.again, above), marks_ascend text symbols strings (suc k) (suc n) h.1)

marks_inside : (text : TextAt) (symbols strings : List ℕ) (k n : ℕ) → EachStands text symbols strings k n → All (λ mark. mark.at < text.words) (marks_from text symbols strings k n)
marks_inside text symbols strings k zero h = All-nil {X = Mark} (λ mark. mark.at < text.words)
marks_inside text symbols strings k (suc n) h =
    All-cons (λ (mark : Mark). mark.at < text.words) (mark_in text symbols strings k) (marks_from text symbols strings (suc k) n) (word_is text (address_in symbols k) (stands_parts text symbols strings k h.0).word).inside
    (marks_inside text symbols strings (suc k) n h.1)

name_some : (text : TextAt) (symbols strings : List ℕ) (k : ℕ) → entry_stands text symbols strings k ≡ true → name_in symbols strings k ≢ []
name_some text symbols strings k h =
    let whole = text_in symbols strings k in
    let s = stands_parts text symbols strings k h in
    let a = and_parts (eqb (place_in symbols k) (due_place symbols strings k)) (not (eqb (name_length whole) 0) && has_end whole) s.name in
    let b = and_parts (not (eqb (name_length whole) 0)) (has_end whole) a.1 in
    λ none.
    let zero_long : name_length whole ≡ 0 = sym (length-before_first whole) ∙ ap length none in
    let t = eq-eqb _ _ zero_long in
    let f = not-true _ b.0 in
    cc

names_some : (text : TextAt) (symbols strings : List ℕ) (k n : ℕ) → EachStands text symbols strings k n → All (λ name. name ≢ []) (names_of (marks_from text symbols strings k n))
names_some text symbols strings k zero h = All-nil {X = Text} (λ name. name ≢ [])
names_some text symbols strings k (suc n) h =
    All-cons (λ (name : Text). name ≢ []) (name_in symbols strings k) (names_of (marks_from text symbols strings (suc k) n)) (name_some text symbols strings k h.0) (names_some text symbols strings (suc k) n h.1)

-- ---- public names

pub public_here : (mark : Mark) (marks : List Mark) → mark.public ≡ true → public_names (mark ∷ marks) ≡ mark.name ∷ public_names marks
public_here mark marks e = rw e refl

pub public_not_here : (mark : Mark) (marks : List Mark) → mark.public ≡ false → public_names (mark ∷ marks) ≡ public_names marks
public_not_here mark marks e = rw e refl

pub and_second : (a b : Bool) → a ≡ true → (a && b) ≡ false → b ≡ false
and_second true b e h = h
and_second false b e h = absurd cc

-- a name that no public entry before has is another one than that of each of them
other_name : (symbols strings : List ℕ) (k j : ℕ) (name : Text) → public_before symbols strings k name ≡ false → j < k → is_public symbols j ≡ true → bytes_eq (name_in symbols strings j) name ≡ false
other_name symbols strings zero j name e lt p = absurd (omega arith)
other_name symbols strings (suc k) j name e lt p =
    let a = or_parts (is_public symbols k && bytes_eq (name_in symbols strings k) name) (public_before symbols strings k name) e in
    elim (cases_eq j k) [
      | inl same ↦ subst (λ (i : ℕ). bytes_eq (name_in symbols strings i) name ≡ false) (sym same)
          (and_second (is_public symbols k) (bytes_eq (name_in symbols strings k) name) (subst (λ (i : ℕ). is_public symbols i ≡ true) same p) a.0)
      | inr other ↦ other_name symbols strings k j name a.1 (omega arith) p
    ]

-- a public entry that stands is the first with its name
first_here : (text : TextAt) (symbols strings : List ℕ) (k : ℕ) → entry_stands text symbols strings k ≡ true → is_public symbols k ≡ true → public_before symbols strings k (name_in symbols strings k) ≡ false
first_here text symbols strings k h p = and_second (is_public symbols k) (public_before symbols strings k (name_in symbols strings k)) p (not-true _ (stands_parts text symbols strings k h).distinct)

others_step : (b : Bool) (text : TextAt) (symbols strings : List ℕ) (j k n : ℕ) → is_public symbols k ≡ b → j < k → is_public symbols j ≡ true → entry_stands text symbols strings k ≡ true
    → AllByRecursion (λ name. bytes_eq (name_in symbols strings j) name ≡ false) (public_names (marks_from text symbols strings (suc k) n))
    → AllByRecursion (λ name. bytes_eq (name_in symbols strings j) name ≡ false) (public_names (marks_from text symbols strings k (suc n)))
others_step true text symbols strings j k n e lt p h rest =
    rw (public_here (mark_in text symbols strings k) (marks_from text symbols strings (suc k) n) e) (other_name symbols strings k j (name_in symbols strings k) (first_here text symbols strings k h e) lt p, rest)
others_step false text symbols strings j k n e lt p h rest = rw (public_not_here (mark_in text symbols strings k) (marks_from text symbols strings (suc k) n) e) rest

-- the public names after a public entry are others than its own
others_behind : (text : TextAt) (symbols strings : List ℕ) (j k n : ℕ) → j < k → is_public symbols j ≡ true → EachStands text symbols strings k n
    → AllByRecursion (λ name. bytes_eq (name_in symbols strings j) name ≡ false) (public_names (marks_from text symbols strings k n))
others_behind text symbols strings j k zero lt p h = tt
others_behind text symbols strings j k (suc n) lt p h =
    others_step (is_public symbols k) text symbols strings j k n refl lt p h.0 (others_behind text symbols strings j (suc k) n (omega arith) p h.1)

distinct_step : (b : Bool) (text : TextAt) (symbols strings : List ℕ) (k n : ℕ) → is_public symbols k ≡ b → EachStands text symbols strings (suc k) n → IsDistinct bytes_eq (public_names (marks_from text symbols strings (suc k) n))
    → IsDistinct bytes_eq (public_names (marks_from text symbols strings k (suc n)))
unfolding IsDistinct
distinct_step true text symbols strings k n e h rest =
    rw (public_here (mark_in text symbols strings k) (marks_from text symbols strings (suc k) n) e) (others_behind text symbols strings k (suc k) n (omega arith) e h, rest)
distinct_step false text symbols strings k n e h rest = rw (public_not_here (mark_in text symbols strings k) (marks_from text symbols strings (suc k) n) e) rest

names_distinct : (text : TextAt) (symbols strings : List ℕ) (k n : ℕ) → EachStands text symbols strings k n → IsDistinct bytes_eq (public_names (marks_from text symbols strings k n))
unfolding IsDistinct
names_distinct text symbols strings k zero h = tt
names_distinct text symbols strings k (suc n) h = distinct_step (is_public symbols k) text symbols strings k n refl h.1 (names_distinct text symbols strings (suc k) n h.1)

-- ---- the whole tables

due_some : (symbols strings : List ℕ) (k : ℕ) → 0 < due_place symbols strings k
due_some symbols strings zero = omega arith
due_some symbols strings (suc k) = omega arith

pub size_of-entries : (place address : ℕ) (marks : List Mark) → size_of (entries place address marks) ≡ 16 * length marks
size_of-entries place address [] = refl
size_of-entries place address (mark ∷ marks) = omega (arith, size_of-entries (place + (length mark.name + 1)) address marks)

length-marks_from : (text : TextAt) (symbols strings : List ℕ) (k n : ℕ) → length (marks_from text symbols strings k n) ≡ n
length-marks_from text symbols strings k zero = refl
length-marks_from text symbols strings k (suc n) = ap suc (length-marks_from text symbols strings (suc k) n)

pub tables_found : (text : TextAt) (at : SymbolsAt) (symbols strings : List ℕ) → length symbols % 16 ≡ 0 → IsBytes symbols → symbols_flaw text at symbols strings ≡ None
    → AreMarks text (marks_from text symbols strings 0 (count_in symbols)) symbols strings
unfolding symbols_flaw
tables_found text at symbols strings whole bytes e =
    let count = count_in symbols in
    let marks = marks_from text symbols strings 0 count in
    let a = then_none (first (entry_checks text at symbols strings 0 count) symbols) (flaw_of (strings_check at symbols strings) symbols) e in
    let h = each_stands text at symbols strings 0 count a.0 in
    let b = and_parts (eqb (get_or strings 0 0) 0) (eqb (due_place symbols strings count) (length strings)) (holds_true H5 at.strings _ symbols a.1) in
    let front : get_or strings 0 0 ≡ 0 = eqb-true _ _ b.0 in
    let end : due_place symbols strings count ≡ length strings = eqb-true _ _ b.1 in
    let size : 16 * count ≡ length symbols = omega arith in
    let table = symbols_at text symbols strings 0 count bytes (omega arith) h in
    let cuts = names_cut text symbols strings 0 count count (omega arith) h in
    let none : behind count (drop 1 strings) ≡ [] = cuts.rest ∙ ap (λ (p : ℕ). drop p strings) end ∙ drop_all (length strings) strings (omega arith) in
    let rest : drop 1 strings ≡ ended (names_of marks) =
    ended-cut count (drop 1 strings) cuts.ends ∙ ap (λ (l : List ℕ). ended (cut count (drop 1 strings)) ++ l) none ∙ append-nil (ended (cut count (drop 1 strings))) ∙ ap ended (sym cuts.names) in
    let some : 0 < length strings = omega (arith, due_some symbols strings count) in
    let len : length (symbols_of text marks) ≡ length symbols = length-spelled (entries 1 text.address marks) ∙ size_of-entries 1 text.address marks ∙ omega (arith, length-marks_from text symbols strings 0 count) in
    record {
      symbols_are = IsAt-whole symbols (symbols_of text marks) table.0 len;
      strings_are = drop-cons strings 0 0 some ∙ ap (λ (byte : ℕ). byte ∷ drop 1 strings) front ∙ ap (λ (l : List ℕ). 0 ∷ l) rest;
      legal =
          record {
            ascend = marks_ascend text symbols strings 0 count h;
            in_text = marks_inside text symbols strings 0 count h;
            some = names_some text symbols strings 0 count h;
            no_zeros = ap are_names cuts.names ∙ are_names-cut count (drop 1 strings);
            distinct = names_distinct text symbols strings 0 count h;
            fit = table.1;
          };
    }
