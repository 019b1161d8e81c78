-- Marks that pass the tests are legal, and legal marks pass them.
use Rattle.std.proofs.Common.{◌≡◌, ◌≢◌, ℕ, suc, ◌+◌, ◌*◌, ◌/◌, ◌%◌, ◌≤◌, ◌<◌, ◌^◌, eqb, leb, ltb, Bool, true, false, not, ◌&&◌, List, [], ◌∷◌, length, get_or, set, map, refl, sym, ap, inl, inr, ◌∙◌, arith, w64, get_or-set_same, get_or-set_other, drop, drop-cons, add-one}
use Rattle.std.specs.Prelude.{All, bit_or}
use Rattle.std.specs.Int.{bit_at}
use Rattle.std.proofs.lemmas.Bool.{cases_eq, eqb-true, eq-eqb, and_parts, and_from, not-true, not_from_false, leb-true, le-leb, lt-ltb, ltb-true}
use Rattle.std.proofs.lemmas.List.Elements.{All-nil, All-cons, All-head, All-tail, All-weaker}
use Rattle.std.proofs.lemmas.Nat.Bits.{bit_at_set_same, bit_at_set_other}
use Rattle.pa_layout.specs.Fields.{AllFit, all_have_room}
use Rattle.pa_layout.specs.Names.{is_name, are_names}
use Rattle.pa_layout.proofs.Laws.{fit_from_room, room_from_fit}
use Rattle.pa_object.specs.declared.object.Mark.{Mark}
use Rattle.pa_object.specs.Linkable.{Ascends}
use Rattle.pa_symbols.specs.declared.places.TextAt.{TextAt}
use Rattle.pa_symbols.specs.Symbols.{Text, entry_of, entries, names_of}
use Rattle.pa_symbols.specs.Legal.{mark_stands, marks_stand, has_bit}
use Rattle.pa_symbols.proofs.Found.{AllFit-append, length_from_some}

-- ---- one mark

pub record MarkFits (text : TextAt) (place least : ℕ) (mark : Mark) : Type 0 where
  pub behind : least ≤ mark.at
  pub inside : mark.at < text.words
  pub some : mark.name ≢ []
  pub no_zero : is_name mark.name ≡ true
  pub fit : AllFit (entry_of place text.address mark)

some_from_length : (name : Text) → eqb (length name) 0 ≡ false → name ≢ []
some_from_length [] e = absurd cc
some_from_length (byte ∷ name) e = λ none. cc

pub mark_fits : (text : TextAt) (place least : ℕ) (mark : Mark) → mark_stands text place least mark ≡ true → MarkFits text place least mark
unfolding mark_stands
mark_fits text place least mark e =
    let a = and_parts (leb least mark.at && ltb mark.at text.words) ((not (eqb (length mark.name) 0) && is_name mark.name) && all_have_room (entry_of place text.address mark)) e in
    let b = and_parts (leb least mark.at) (ltb mark.at text.words) a.0 in
    let c = and_parts (not (eqb (length mark.name) 0) && is_name mark.name) (all_have_room (entry_of place text.address mark)) a.1 in
    let d = and_parts (not (eqb (length mark.name) 0)) (is_name mark.name) c.0 in
    record {
      behind = leb-true _ _ b.0;
      inside = ltb-true _ _ b.1;
      some = some_from_length mark.name (not-true _ d.0);
      no_zero = d.1;
      fit = fit_from_room (entry_of place text.address mark) c.1;
    }

pub fits_mark : (text : TextAt) (place least : ℕ) (mark : Mark) → MarkFits text place least mark → mark_stands text place least mark ≡ true
unfolding mark_stands
fits_mark text place least mark f =
    and_from (leb least mark.at && ltb mark.at text.words) ((not (eqb (length mark.name) 0) && is_name mark.name) && all_have_room (entry_of place text.address mark))
    (and_from (leb least mark.at) (ltb mark.at text.words) (le-leb _ _ f.behind) (lt-ltb _ _ f.inside))
    (and_from (not (eqb (length mark.name) 0) && is_name mark.name) (all_have_room (entry_of place text.address mark))
    (and_from (not (eqb (length mark.name) 0)) (is_name mark.name) (not_from_false _ (length_from_some mark.name f.some)) f.no_zero) (room_from_fit (entry_of place text.address mark) f.fit))

-- the place of its name fits four bytes
pub place_small : (text : TextAt) (place least : ℕ) (mark : Mark) → mark_stands text place least mark ≡ true → place < 2 ^ 32
place_small text place least mark e = let f = mark_fits text place least mark e in f.fit.0

-- ---- all of them

pub record AllStand (text : TextAt) (place least : ℕ) (marks : List Mark) : Type 0 where
  pub behind : All (λ mark. least ≤ mark.at) marks
  pub ascend : Ascends (map (λ mark. mark.at) marks)
  pub in_text : All (λ mark. mark.at < text.words) marks
  pub some : All (λ name. name ≢ []) (names_of marks)
  pub no_zeros : are_names (names_of marks) ≡ true
  pub fit : AllFit (entries place text.address marks)

ascends_cons : (mark : Mark) (marks : List Mark) → All (λ m. mark.at + 1 ≤ m.at) marks → Ascends (map (λ m. m.at) marks) → Ascends (map (λ m. m.at) (mark ∷ marks))
unfolding Ascends
ascends_cons mark [] b a = tt
ascends_cons mark (next ∷ marks) b a = let lt = All-head (λ (m : Mark). mark.at + 1 ≤ m.at) next marks b in (omega (arith, lt), a)

pub all_stand : (marks : List Mark) (text : TextAt) (place least : ℕ) → marks_stand text place least marks ≡ true → AllStand text place least marks
unfolding Ascends
all_stand [] text place least e = record {
  behind = All-nil {X = Mark} (λ mark. least ≤ mark.at);
  ascend = tt;
  in_text = All-nil {X = Mark} (λ mark. mark.at < text.words);
  some = All-nil {X = Text} (λ name. name ≢ []);
  no_zeros = refl;
  fit = tt;
}
all_stand (mark ∷ marks) text place least e =
    let a = and_parts (mark_stands text place least mark) (marks_stand text (place + (length mark.name + 1)) (mark.at + 1) marks) e in
    let f = mark_fits text place least mark a.0 in
    let r = all_stand marks text (place + (length mark.name + 1)) (mark.at + 1) a.1 in
    record {
      behind = All-cons (λ (m : Mark). least ≤ m.at) mark marks f.behind (All-weaker (λ (m : Mark). mark.at + 1 ≤ m.at) (λ (m : Mark). least ≤ m.at) (λ m h. omega (arith, h, f.behind)) marks r.behind);
      ascend = ascends_cons mark marks r.behind r.ascend;
      in_text = All-cons (λ (m : Mark). m.at < text.words) mark marks f.inside r.in_text;
      some = All-cons (λ (n : Text). n ≢ []) mark.name (names_of marks) f.some r.some;
      no_zeros = and_from (is_name mark.name) (are_names (names_of marks)) f.no_zero r.no_zeros;
      fit = AllFit-append (entry_of place text.address mark) (entries (place + (length mark.name + 1)) text.address marks) f.fit r.fit;
    }

-- the first is at the least word or after it
abbrev pub Begins : ℕ → List Mark → Type 0
Begins least [] = Unit {0}
Begins least (mark ∷ marks) = least ≤ mark.at

begins_next : (mark : Mark) (marks : List Mark) → Ascends (map (λ m. m.at) (mark ∷ marks)) → Begins (mark.at + 1) marks × Ascends (map (λ m. m.at) marks)
unfolding Ascends
begins_next mark [] a = (tt, tt)
begins_next mark (next ∷ marks) a = (omega (arith, a.0), a.1)

pub stand_all : (marks : List Mark) (text : TextAt) (place least : ℕ) → Begins least marks → Ascends (map (λ mark. mark.at) marks) → All (λ mark. mark.at < text.words) marks → All (λ name. name ≢ []) (names_of marks)
    → are_names (names_of marks) ≡ true → AllFit (entries place text.address marks) → marks_stand text place least marks ≡ true
stand_all [] text place least b a i s z f = refl
stand_all (mark ∷ marks) text place least b a i s z f =
    let n = begins_next mark marks a in
    let zs = and_parts (is_name mark.name) (are_names (names_of marks)) z in
    and_from (mark_stands text place least mark) (marks_stand text (place + (length mark.name + 1)) (mark.at + 1) marks)
    (fits_mark text place least mark
    (record {
      behind = b;
      inside = All-head (λ (m : Mark). m.at < text.words) mark marks i;
      some = All-head (λ (n : Text). n ≢ []) mark.name (names_of marks) s;
      no_zero = zs.0;
      fit = (f.0, f.1, (f.2.0, f.2.1, (f.2.2.0, f.2.2.1, (f.2.2.2.0, f.2.2.2.1, tt))));
    }))
    (stand_all marks text (place + (length mark.name + 1)) (mark.at + 1) n.0 n.1 (All-tail (λ (m : Mark). m.at < text.words) mark marks i) (All-tail (λ (n : Text). n ≢ []) mark.name (names_of marks) s) zs.1 f.2.2.2.2)

-- ---- bits

abbrev with_bit : ℕ → ℕ → ℕ
with_bit word bit = bit_or word (1 * 2 ^ bit % 2 ^ 64)

pub bit_put : (table : List ℕ) (hash : ℕ) → hash / 64 < length table → has_bit (set table (hash / 64) (with_bit (get_or table (hash / 64) 0) (hash % 64))) hash ≡ true
bit_put table hash lt =
    let word = get_or table (hash / 64) 0 in
    let one = bit_at_set_same w64 word (hash % 64) (omega arith) in
    rw get_or-set_same (eq-eqb _ _ one)

pub bit_kept : (table : List ℕ) (hash other : ℕ) → hash / 64 < length table → has_bit table other ≡ true → has_bit (set table (hash / 64) (with_bit (get_or table (hash / 64) 0) (hash % 64))) other ≡ true
bit_kept table hash other lt h =
    let word = get_or table (hash / 64) 0 in
    let new = with_bit word (hash % 64) in
    elim (cases_eq (other / 64) (hash / 64)) [
      | inl same ↦
          let here : get_or (set table (hash / 64) new) (other / 64) 0 ≡ new = ap (λ (i : ℕ). get_or (set table (hash / 64) new) i 0) same ∙ (rw get_or-set_same refl) in
          let old : bit_at word (other % 64) ≡ 1 = ap (λ (i : ℕ). bit_at (get_or table i 0) (other % 64)) (sym same) ∙ eqb-true _ _ h in
          let bit : bit_at new (other % 64) ≡ 1 =
          elim (cases_eq (other % 64) (hash % 64)) [
            | inl equal ↦ ap (bit_at new) equal ∙ bit_at_set_same w64 word (hash % 64) (omega arith)
            | inr differ ↦ bit_at_set_other w64 word (hash % 64) (omega arith) (other % 64) differ ∙ old
          ] in
          eq-eqb _ _ (ap (λ (w : ℕ). bit_at w (other % 64)) here ∙ bit)
      | inr else_where ↦ rw get_or-set_other h
    ]

-- ---- the loop over the marks

pub marks_on : (marks : List Mark) (k : ℕ) (text : TextAt) (place least : ℕ) (mark : Mark) (whole : Bool) → k < length marks → mark ≡ get_or marks k mark → mark_stands text place least mark ≡ true
    → marks_stand text place least (drop k marks) ≡ whole → marks_stand text (place + (length mark.name + 1)) (mark.at + 1) (drop (k + 1) marks) ≡ whole
marks_on marks k text place least mark whole lt is e h =
    let cons : drop k marks ≡ mark ∷ drop (k + 1) marks = drop-cons marks k mark lt ∙ ap (λ (m : Mark). m ∷ drop (suc k) marks) (sym is) ∙ ap (λ (n : ℕ). mark ∷ drop n marks) (sym (add-one k)) in
    sym (ap (λ (b : Bool). b && marks_stand text (place + (length mark.name + 1)) (mark.at + 1) (drop (k + 1) marks)) e) ∙ ap (marks_stand text place least) (sym cons) ∙ h
