-- The bytes of legal marks have no flaw, and are read as these marks alone.
use Rattle.std.proofs.Common.{◌≡◌, ◌≢◌, ℕ, zero, suc, ◌+◌, ◌-◌, ◌*◌, ◌/◌, ◌%◌, ◌<◌, eqb, leb, ltb, Bool, true, false, not, ◌&&◌, ◌||◌, List, [], ◌∷◌, ◌++◌, length, drop, get_or, map, None, Result, Ok, Err, refl, sym, ap, subst, ◌∙◌, arith}
use Rattle.std.specs.Prelude.{All, IfOk}
use Rattle.std.specs.List.{IsDistinct, AllByRecursion, before_first}
use Rattle.std.specs.Str.{bytes_eq}
use Rattle.std.proofs.lemmas.Bool.{eq-eqb, and_parts, and_from, not_from_false, le-leb, lt-ltb}
use Rattle.std.proofs.lemmas.List.{length-append, drop-drop}
use Rattle.std.proofs.lemmas.List.Elements.{All-head, All-tail}
use Rattle.pa_num.specs.declared.fault.ImageRule.{ImageRule}
use Rattle.pa_num.specs.declared.fault.Fault.{Fault}
use Rattle.pa_num.specs.declared.fault.Fault.TheVariants.{Refused, Memory}
use Rattle.pa_layout.specs.Fields.{number, spelled, AllFit, IsAt}
use Rattle.pa_layout.specs.Flaws.{first, flaw_of, AnswersOrMemory, GivesOrMemory}
use Rattle.pa_layout.specs.Names.{is_zero, is_name, are_names, ended, name_length, has_end}
use Rattle.pa_layout.proofs.Facts.{none_then}
use Rattle.pa_layout.proofs.Laws.{IsBytes, IsAt-second, IsAt-itself, spelled-append, length-spelled, values_at}
use Rattle.pa_layout.proofs.NameLaws.{begins}
use Rattle.pa_object.specs.declared.object.Mark.{Mark}
use Rattle.pa_object.specs.Linkable.{Ascends}
use Rattle.pa_symbols.specs.declared.places.TextAt.{TextAt}
use Rattle.pa_symbols.specs.declared.places.SymbolsAt.{SymbolsAt}
use Rattle.pa_symbols.specs.Symbols.{Text, kind_of, entry_of, entries, names_of, public_names, AreMarks}
use Rattle.pa_symbols.specs.Reading.{place_in, kind_in, description_in, address_in, is_public, text_in, name_in, is_kind, is_of_word, ascends_at, name_stands, is_first_public, mark_in, marks_from, due_place, public_before, entry_stands, entry_checks, count_in, strings_check, symbols_flaw}
use Rattle.pa_symbols.proofs.Steps.{checks_on}
use Rattle.pa_symbols.proofs.Found.{EachStands, length_from_some, public_here, public_not_here, size_of-entries, tables_found}

-- ---- what an entry tells

record Tells (symbols : List ℕ) (k place address : ℕ) (mark : Mark) : Type 0 where
  pub place_is : place_in symbols k ≡ place
  pub kind_is : kind_in symbols k ≡ kind_of mark.public
  pub description_is : description_in symbols k ≡ 0
  pub address_is : address_in symbols k ≡ address + 4 * mark.at

tells : (symbols : List ℕ) (k place address : ℕ) (mark : Mark) (marks : List Mark) → IsAt symbols (16 * k) (spelled (entries place address (mark ∷ marks))) → AllFit (entries place address (mark ∷ marks)) → Tells symbols k place address mark
tells symbols k place address mark marks p fit =
    let v = values_at (16 * k) (entries place address (mark ∷ marks)) symbols (p, fit) in
    let six : 16 * k + 6 ≡ 16 * k + 4 + 2 = omega arith in
    let eight : 16 * k + 8 ≡ 16 * k + 4 + 2 + 2 = omega arith in
    record {
      place_is = v.0;
      kind_is = v.1.0;
      description_is = ap (λ (at : ℕ). number 2 at symbols) six ∙ v.1.1.0;
      address_is = ap (λ (at : ℕ). number 8 at symbols) eight ∙ v.1.1.1.0;
    }

-- the entries after it
behind_entry : (symbols : List ℕ) (k place address : ℕ) (mark : Mark) (marks : List Mark) → IsAt symbols (16 * k) (spelled (entries place address (mark ∷ marks)))
    → IsAt symbols (16 * suc k) (spelled (entries (place + (length mark.name + 1)) address marks))
behind_entry symbols k place address mark marks p =
    let entry = entry_of place address mark in
    let more = entries (place + (length mark.name + 1)) address marks in
    let q = IsAt-second symbols (16 * k) (spelled entry) (spelled more) (subst (IsAt symbols (16 * k)) (spelled-append entry more) p) in
    subst (λ (at : ℕ). IsAt symbols at (spelled more)) (omega (arith, length-spelled entry)) q

-- ---- it stands

abbrev made : Text → ℕ → Bool → Mark
made name at public = record { name = name; at = at; public = public }

is_kind-kind_of : (public : Bool) → is_kind (kind_of public) ≡ true
is_kind-kind_of true = refl
is_kind-kind_of false = refl

public_back : (public : Bool) → eqb (kind_of public) (kind_of true) ≡ public
public_back true = refl
public_back false = refl

word_stands : (text : TextAt) (at : ℕ) → at < text.words → is_of_word text (text.address + 4 * at) ≡ true
word_stands text at lt =
    let a = text.address + 4 * at in
    let number : (a - text.address) / 4 ≡ at = omega arith in
    and_from (leb text.address a) (eqb ((a - text.address) % 4) 0 && ltb ((a - text.address) / 4) text.words) (le-leb _ _ (omega arith))
    (and_from (eqb ((a - text.address) % 4) 0) (ltb ((a - text.address) / 4) text.words) (eq-eqb _ _ (omega arith)) (lt-ltb _ _ (omega arith)))

-- the first of the marks is above the entry before
abbrev Above : TextAt → List ℕ → ℕ → List Mark → Type 0
Above text symbols zero marks = Unit {0}
Above text symbols (suc k) [] = Unit {0}
Above text symbols (suc k) (mark ∷ marks) = address_in symbols k < text.address + 4 * mark.at

ascends_above : (text : TextAt) (symbols : List ℕ) (k : ℕ) (mark : Mark) (marks : List Mark) → Above text symbols k (mark ∷ marks) → address_in symbols k ≡ text.address + 4 * mark.at → ascends_at symbols k ≡ true
ascends_above text symbols zero mark marks above e = refl
ascends_above text symbols (suc k) mark marks above e = lt-ltb _ _ (omega (arith, above, e))

above_next : (text : TextAt) (symbols : List ℕ) (k : ℕ) (mark : Mark) (marks : List Mark) → Ascends (map (λ m. m.at) (mark ∷ marks)) → address_in symbols k ≡ text.address + 4 * mark.at → Above text symbols (suc k) marks
unfolding Ascends
above_next text symbols k mark [] a e = tt
above_next text symbols k mark (next ∷ marks) a e = omega (arith, a.0, e)

ascends_next : (mark : Mark) (marks : List Mark) → Ascends (map (λ m. m.at) (mark ∷ marks)) → Ascends (map (λ m. m.at) marks)
unfolding Ascends
ascends_next mark [] a = tt
ascends_next mark (next ∷ marks) a = a.1

-- ---- public names

-- none of the names is that of a public entry before entry k
abbrev AreFresh : List ℕ → List ℕ → ℕ → List Text → Type 0
AreFresh symbols strings k names = AllByRecursion (λ name. public_before symbols strings k name ≡ false) names

none_before : (names : List Text) (symbols strings : List ℕ) → AreFresh symbols strings 0 names
none_before [] symbols strings = tt
none_before (name ∷ names) symbols strings = (refl, none_before names symbols strings)

neither : (a b c : Bool) → b ≡ false → c ≡ false → ((a && b) || c) ≡ false
neither true b c e f = rw (e, f) refl
neither false b c e f = f

skipped : (a b c : Bool) → a ≡ false → c ≡ false → ((a && b) || c) ≡ false
skipped a b c e f = rw e f

fresh_others : (names : List Text) (symbols strings : List ℕ) (k : ℕ) (own : Text) → name_in symbols strings k ≡ own → AllByRecursion (λ name. bytes_eq own name ≡ false) names → AreFresh symbols strings k names → AreFresh symbols strings (suc k) names
fresh_others [] symbols strings k own e d f = tt
fresh_others (name ∷ names) symbols strings k own e d f =
    (neither (is_public symbols k) (bytes_eq (name_in symbols strings k) name) (public_before symbols strings k name) (ap (λ (t : Text). bytes_eq t name) e ∙ d.0) f.0, fresh_others names symbols strings k own e d.1 f.1)

fresh_same : (names : List Text) (symbols strings : List ℕ) (k : ℕ) → is_public symbols k ≡ false → AreFresh symbols strings k names → AreFresh symbols strings (suc k) names
fresh_same [] symbols strings k e f = tt
fresh_same (name ∷ names) symbols strings k e f =
    (skipped (is_public symbols k) (bytes_eq (name_in symbols strings k) name) (public_before symbols strings k name) e f.0, fresh_same names symbols strings k e f.1)

record Public (symbols strings : List ℕ) (k : ℕ) (marks : List Mark) : Type 0 where
  pub distinct : IsDistinct bytes_eq (public_names marks)
  pub fresh : AreFresh symbols strings k (public_names marks)

public_next : (public : Bool) (symbols strings : List ℕ) (k : ℕ) (mark : Mark) (marks : List Mark) → mark.public ≡ public → is_public symbols k ≡ mark.public → name_in symbols strings k ≡ mark.name → Public symbols strings k (mark ∷ marks) → Public symbols strings (suc k) marks
unfolding IsDistinct
public_next true symbols strings k mark marks e p n h =
    let d = subst (IsDistinct bytes_eq) (public_here mark marks e) h.distinct in
    let f = subst (AreFresh symbols strings k) (public_here mark marks e) h.fresh in
    record { distinct = d.1; fresh = fresh_others (public_names marks) symbols strings k mark.name n d.0 f.1 }
public_next false symbols strings k mark marks e p n h = record {
  distinct = subst (IsDistinct bytes_eq) (public_not_here mark marks e) h.distinct;
  fresh = fresh_same (public_names marks) symbols strings k (p ∙ e) (subst (AreFresh symbols strings k) (public_not_here mark marks e) h.fresh);
}

first_stands : (public : Bool) (symbols strings : List ℕ) (k : ℕ) (mark : Mark) (marks : List Mark) → mark.public ≡ public → is_public symbols k ≡ mark.public → name_in symbols strings k ≡ mark.name → Public symbols strings k (mark ∷ marks) → is_first_public symbols strings k ≡ true
first_stands true symbols strings k mark marks e p n h =
    let f = subst (AreFresh symbols strings k) (public_here mark marks e) h.fresh in
    let t : is_public symbols k ≡ true = p ∙ e in
    let none : public_before symbols strings k (name_in symbols strings k) ≡ false = ap (public_before symbols strings k) n ∙ f.0 in
    rw (t, none) refl
first_stands false symbols strings k mark marks e p n h = let t : is_public symbols k ≡ false = p ∙ e in rw t refl

-- ---- one mark after the other

record Due (text : TextAt) (symbols strings : List ℕ) (k place : ℕ) (marks : List Mark) : Type 0 where
  pub at : IsAt symbols (16 * k) (spelled (entries place text.address marks))
  pub fit : AllFit (entries place text.address marks)
  pub due : place ≡ due_place symbols strings k
  pub rest : drop place strings ≡ ended (names_of marks)
  pub ascend : Ascends (map (λ mark. mark.at) marks)
  pub above : Above text symbols k marks
  pub in_text : All (λ mark. mark.at < text.words) marks
  pub some : All (λ name. name ≢ []) (names_of marks)
  pub no_zeros : are_names (names_of marks) ≡ true
  pub public : Public symbols strings k marks

-- entry k is that of the mark
record IsEntry (text : TextAt) (symbols strings : List ℕ) (k : ℕ) (mark : Mark) : Type 0 where
  pub stands : entry_stands text symbols strings k ≡ true
  pub mark_is : mark_in text symbols strings k ≡ mark
  pub place_is : place_in symbols k ≡ due_place symbols strings k
  pub length_is : name_length (text_in symbols strings k) ≡ length mark.name
  pub name_is : name_in symbols strings k ≡ mark.name
  pub public_is : is_public symbols k ≡ mark.public
  pub address_is : address_in symbols k ≡ text.address + 4 * mark.at

entry_is : (text : TextAt) (symbols strings : List ℕ) (k place : ℕ) (mark : Mark) (marks : List Mark) → Due text symbols strings k place (mark ∷ marks) → IsEntry text symbols strings k mark
unfolding entry_stands
entry_is text symbols strings k place mark marks d =
    let v = tells symbols k place text.address mark marks d.at d.fit in
    let whole = text_in symbols strings k in
    let more = ended (names_of marks) in
    let is_text : whole ≡ mark.name ++ (0 ∷ more) = ap (λ (p : ℕ). drop p strings) v.place_is ∙ d.rest in
    let z = and_parts (is_name mark.name) (are_names (names_of marks)) d.no_zeros in
    let b = begins mark.name more z.0 in
    let name : name_in symbols strings k ≡ mark.name = ap (before_first is_zero) is_text ∙ b.name_is in
    let len : name_length whole ≡ length mark.name = ap name_length is_text ∙ b.length_is in
    let ends : name_length whole < length whole = subst (λ (l : List ℕ). name_length l < length l) (sym is_text) b.ends in
    let public : is_public symbols k ≡ mark.public = ap (λ (n : ℕ). eqb n (kind_of true)) v.kind_is ∙ public_back mark.public in
    let inside = All-head (λ (m : Mark). m.at < text.words) mark marks d.in_text in
    let number : (address_in symbols k - text.address) / 4 ≡ mark.at = omega (arith, v.address_is) in
    let due : place_in symbols k ≡ due_place symbols strings k = v.place_is ∙ d.due in
    let some : eqb (name_length whole) 0 ≡ false = ap (λ (n : ℕ). eqb n 0) len ∙ length_from_some mark.name (All-head (λ (n : Text). n ≢ []) mark.name (names_of marks) d.some) in
    record {
      stands =
          and_from (is_kind (kind_in symbols k) && (eqb (description_in symbols k) 0 && is_of_word text (address_in symbols k))) (ascends_at symbols k && (name_stands symbols strings k && is_first_public symbols strings k))
          (and_from (is_kind (kind_in symbols k)) (eqb (description_in symbols k) 0 && is_of_word text (address_in symbols k)) (ap is_kind v.kind_is ∙ is_kind-kind_of mark.public)
          (and_from (eqb (description_in symbols k) 0) (is_of_word text (address_in symbols k)) (eq-eqb _ _ v.description_is) (ap (is_of_word text) v.address_is ∙ word_stands text mark.at inside)))
          (and_from (ascends_at symbols k) (name_stands symbols strings k && is_first_public symbols strings k) (ascends_above text symbols k mark marks d.above v.address_is)
          (and_from (name_stands symbols strings k) (is_first_public symbols strings k)
          (and_from (eqb (place_in symbols k) (due_place symbols strings k)) (not (eqb (name_length whole) 0) && has_end whole) (eq-eqb _ _ due)
          (and_from (not (eqb (name_length whole) 0)) (has_end whole) (not_from_false _ some) (lt-ltb _ _ ends)))
          (first_stands mark.public symbols strings k mark marks refl public name d.public)));
      mark_is =
          ap (λ (n : Text). made n ((address_in symbols k - text.address) / 4) (is_public symbols k)) name
          ∙ ap (λ (n : ℕ). made mark.name n (is_public symbols k)) number
          ∙ ap (made mark.name mark.at) public;
      place_is = due;
      length_is = len;
      name_is = name;
      public_is = public;
      address_is = v.address_is;
    }

due_on : (text : TextAt) (symbols strings : List ℕ) (k place : ℕ) (mark : Mark) (marks : List Mark) → Due text symbols strings k place (mark ∷ marks) → IsEntry text symbols strings k mark → Due text symbols strings (suc k) (place + (length mark.name + 1)) marks
due_on text symbols strings k place mark marks d i =
    let z = and_parts (is_name mark.name) (are_names (names_of marks)) d.no_zeros in
    let b = begins mark.name (ended (names_of marks)) z.0 in
    record {
      at = behind_entry symbols k place text.address mark marks d.at;
      fit = d.fit.2.2.2.2;
      due = omega (arith, d.due, i.place_is, i.length_is);
      rest = sym (drop-drop (length mark.name + 1) place strings) ∙ ap (drop (length mark.name + 1)) d.rest ∙ ap (λ (n : ℕ). drop (n + 1) (mark.name ++ (0 ∷ ended (names_of marks)))) (sym b.length_is) ∙ b.rest_is;
      ascend = ascends_next mark marks d.ascend;
      above = above_next text symbols k mark marks d.ascend i.address_is;
      in_text = All-tail (λ (m : Mark). m.at < text.words) mark marks d.in_text;
      some = All-tail (λ (n : Text). n ≢ []) mark.name (names_of marks) d.some;
      no_zeros = z.1;
      public = public_next mark.public symbols strings k mark marks refl i.public_is i.name_is d.public;
    }

record AreRead (text : TextAt) (symbols strings : List ℕ) (k place : ℕ) (marks : List Mark) : Type 0 where
  pub stand : EachStands text symbols strings k (length marks)
  pub marks_are : marks_from text symbols strings k (length marks) ≡ marks
  pub end : due_place symbols strings (k + length marks) ≡ place + length (ended (names_of marks))

are_read : (marks : List Mark) (text : TextAt) (symbols strings : List ℕ) (k place : ℕ) → Due text symbols strings k place marks → AreRead text symbols strings k place marks
are_read [] text symbols strings k place d =
    let same : k + 0 ≡ k = omega arith in
    let none : place + 0 ≡ place = omega arith in
    record { stand = tt; marks_are = refl; end = ap (due_place symbols strings) same ∙ sym d.due ∙ sym none }
are_read (mark ∷ marks) text symbols strings k place d =
    let i = entry_is text symbols strings k place mark marks d in
    let r = are_read marks text symbols strings (suc k) (place + (length mark.name + 1)) (due_on text symbols strings k place mark marks d i) in
    let next : k + suc (length marks) ≡ suc k + length marks = omega arith in
    record {
      stand = (i.stands, r.stand);
      marks_are = ap (λ (m : Mark). m ∷ marks_from text symbols strings (suc k) (length marks)) i.mark_is ∙ ap (λ (l : List Mark). mark ∷ l) r.marks_are;
      end = ap (due_place symbols strings) next ∙ r.end ∙ omega (arith, length-append mark.name (0 ∷ ended (names_of marks)));
    }

-- ---- the whole tables

none_found : (text : TextAt) (at : SymbolsAt) (symbols strings : List ℕ) (k n : ℕ) → EachStands text symbols strings k n → first (entry_checks text at symbols strings k n) symbols ≡ None
none_found text at symbols strings k zero h = refl
none_found text at symbols strings k (suc n) h = checks_on text at symbols strings k n h.0 ∙ none_found text at symbols strings (suc k) n h.1

due_first : (text : TextAt) (marks : List Mark) (symbols strings : List ℕ) → AreMarks text marks symbols strings → Due text symbols strings 0 1 marks
due_first text marks symbols strings m = record {
  at = subst (IsAt symbols 0) m.symbols_are (IsAt-itself symbols);
  fit = m.legal.fit;
  due = refl;
  rest = ap (drop 1) m.strings_are;
  ascend = m.legal.ascend;
  above = tt;
  in_text = m.legal.in_text;
  some = m.legal.some;
  no_zeros = m.legal.no_zeros;
  public = record { distinct = m.legal.distinct; fresh = none_before (public_names marks) symbols strings };
}

pub tables_only : (text : TextAt) (at : SymbolsAt) (marks : List Mark) (symbols strings : List ℕ) → AreMarks text marks symbols strings
    → (symbols_flaw text at symbols strings ≡ None) × (marks_from text symbols strings 0 (count_in symbols) ≡ marks)
unfolding symbols_flaw flaw_of
tables_only text at marks symbols strings m =
    let r = are_read marks text symbols strings 0 1 (due_first text marks symbols strings m) in
    let size : length symbols ≡ 16 * length marks = ap length m.symbols_are ∙ length-spelled (entries 1 text.address marks) ∙ size_of-entries 1 text.address marks in
    let count : count_in symbols ≡ length marks = omega arith in
    let zero_more : 0 + length marks ≡ length marks = omega arith in
    let end : due_place symbols strings (count_in symbols) ≡ length strings = ap (due_place symbols strings) (count ∙ sym zero_more) ∙ r.end ∙ omega (arith, ap length m.strings_are) in
    let front : eqb (get_or strings 0 0) 0 ≡ true = eq-eqb _ _ (ap (λ (l : List ℕ). get_or l 0 0) m.strings_are) in
    let last : eqb (due_place symbols strings (count_in symbols)) (length strings) ≡ true = eq-eqb _ _ end in
    let checks : first (entry_checks text at symbols strings 0 (count_in symbols)) symbols ≡ None = none_found text at symbols strings 0 (count_in symbols) (subst (EachStands text symbols strings 0) (sym count) r.stand) in
    let whole : flaw_of (strings_check at symbols strings) symbols ≡ None = rw (front, last) refl in
    (none_then (first (entry_checks text at symbols strings 0 (count_in symbols)) symbols) (flaw_of (strings_check at symbols strings) symbols) checks whole, ap (marks_from text symbols strings 0) count ∙ r.marks_are)

-- ---- answers

pub is_found : (text : TextAt) (at : SymbolsAt) (symbols strings : List ℕ) (result : Result (List Mark) (Fault ImageRule)) → length symbols % 16 ≡ 0 → IsBytes symbols
    → IfOk result (λ marks. marks ≡ marks_from text symbols strings 0 (count_in symbols)) → AnswersOrMemory result (symbols_flaw text at symbols strings) → IfOk result (λ marks. AreMarks text marks symbols strings)
is_found text at symbols strings (Ok marks) whole bytes v a = subst (λ (m : List Mark). AreMarks text m symbols strings) (sym v) (tables_found text at symbols strings whole bytes a)
is_found text at symbols strings (Err fault) whole bytes v a = tt

pub is_only : (text : TextAt) (at : SymbolsAt) (symbols strings : List ℕ) (result : Result (List Mark) (Fault ImageRule)) → IfOk result (λ marks. marks ≡ marks_from text symbols strings 0 (count_in symbols))
    → AnswersOrMemory result (symbols_flaw text at symbols strings) → (marks : List Mark) → AreMarks text marks symbols strings → GivesOrMemory marks result
is_only text at symbols strings (Ok given) v a marks m = v ∙ (tables_only text at marks symbols strings m).1
is_only text at symbols strings (Err (Refused rule place)) v a marks m = let e = (tables_only text at marks symbols strings m).0 in absurd cc
is_only text at symbols strings (Err Memory) v a marks m = tt
