-- One more entry that stands.
use Rattle.std.proofs.Common.{◌≡◌, ℕ, suc, ◌+◌, ◌-◌, ◌*◌, ◌≤◌, ◌<◌, eqb, true, false, ◌&&◌, List, [], ◌∷◌, ◌++◌, length, Some, None, refl, sym, ap, ◌∙◌, arith, append_assoc, add-one}
use Rattle.std.proofs.lemmas.Bool.{eqb-true, and_parts}
use Rattle.std.proofs.lemmas.List.{append-nil}
use denote.Ref.{Bor}
use Rattle.pa_num.specs.declared.fault.ImageRule.TheVariants.{H5}
use Rattle.pa_layout.specs.Flaws.{first, flaw_of, flaw_at}
use Rattle.pa_layout.specs.Names.{name_length}
use Rattle.pa_layout.proofs.NameLaws.{length-before_first}
use Rattle.pa_object.specs.declared.object.Mark.{Mark}
use Rattle.pa_symbols.specs.declared.places.TextAt.{TextAt}
use Rattle.pa_symbols.specs.declared.places.SymbolsAt.{SymbolsAt}
use Rattle.pa_symbols.specs.Symbols.{Text}
use Rattle.pa_symbols.specs.Names.{is_noted}
use Rattle.pa_symbols.specs.Reading.{place_in, kind_in, description_in, address_in, text_in, is_kind, is_of_word, ascends_at, name_stands, is_first_public, mark_in, marks_from, due_place, public_before, entry_stands, entry_checks}

-- ---- the parts of what holds at an entry

pub record Stands (text : TextAt) (symbols strings : List ℕ) (k : ℕ) : Type 0 where
  pub kind : is_kind (kind_in symbols k) ≡ true
  pub description : description_in symbols k ≡ 0
  pub word : is_of_word text (address_in symbols k) ≡ true
  pub ascends : ascends_at symbols k ≡ true
  pub name : name_stands symbols strings k ≡ true
  pub distinct : is_first_public symbols strings k ≡ true

pub stands_parts : (text : TextAt) (symbols strings : List ℕ) (k : ℕ) → entry_stands text symbols strings k ≡ true → Stands text symbols strings k
unfolding entry_stands
stands_parts text symbols strings k e =
    let a = and_parts (is_kind (kind_in symbols k) && (eqb (description_in symbols k) 0 && is_of_word text (address_in symbols k))) (ascends_at symbols k && (name_stands symbols strings k && is_first_public symbols strings k)) e in
    let b = and_parts (is_kind (kind_in symbols k)) (eqb (description_in symbols k) 0 && is_of_word text (address_in symbols k)) a.0 in
    let c = and_parts (eqb (description_in symbols k) 0) (is_of_word text (address_in symbols k)) b.1 in
    let d = and_parts (ascends_at symbols k) (name_stands symbols strings k && is_first_public symbols strings k) a.1 in
    let f = and_parts (name_stands symbols strings k) (is_first_public symbols strings k) d.1 in
    record { kind = b.0; description = eqb-true _ _ c.0; word = c.1; ascends = d.0; name = f.0; distinct = f.1 }

-- an entry that stands tells the place where its name is due
pub place_due : (text : TextAt) (symbols strings : List ℕ) (k : ℕ) → entry_stands text symbols strings k ≡ true → place_in symbols k ≡ due_place symbols strings k
place_due text symbols strings k e = eqb-true _ _ (and_parts _ _ (stands_parts text symbols strings k e).name).0

-- ---- checks

pub checks_on : (text : TextAt) (at : SymbolsAt) (symbols strings : List ℕ) (k n : ℕ) → entry_stands text symbols strings k ≡ true
    → first (entry_checks text at symbols strings k (suc n)) symbols ≡ first (entry_checks text at symbols strings (suc k) n) symbols
unfolding flaw_of
checks_on text at symbols strings k n e = rw e refl

pub checks_stop : (text : TextAt) (at : SymbolsAt) (symbols strings : List ℕ) (k n : ℕ) → entry_stands text symbols strings k ≡ false
    → first (entry_checks text at symbols strings k (suc n)) symbols ≡ Some (flaw_at H5 (at.symbols + 16 * k))
unfolding flaw_of
checks_stop text at symbols strings k n e = rw e refl

-- ---- what the loop over the entries keeps

pub record Read (text : TextAt) (at : SymbolsAt) (symbols strings : List ℕ) (count k due : ℕ) (marks : List Mark) (names : List (Bor Text)) : Type 0 where
  pub due_is : due ≡ due_place symbols strings k
  pub some : 0 < due
  pub small : due ≤ length strings + 1
  pub marks_are : marks ++ marks_from text symbols strings k (count - k) ≡ marks_from text symbols strings 0 count
  pub flaw : first (entry_checks text at symbols strings k (count - k)) symbols ≡ first (entry_checks text at symbols strings 0 count) symbols
  pub known : (name : Text) → is_noted names name ≡ public_before symbols strings k name

pub read_on : (text : TextAt) (at : SymbolsAt) (symbols strings : List ℕ) (count k due : ℕ) (old new : List Mark) (mark : Mark) (before after : List (Bor Text)) → k < count
    → Read text at symbols strings count k due old before → entry_stands text symbols strings k ≡ true → mark ≡ mark_in text symbols strings k → new ≡ old ++ mark ∷ []
    → ((name : Text) → is_noted after name ≡ public_before symbols strings (suc k) name) → due + (length mark.name + 1) ≤ length strings
    → Read text at symbols strings count (k + 1) (due + (length mark.name + 1)) new after
read_on text at symbols strings count k due old new mark before after lt r e m n known within =
    let one : count - k ≡ suc (count - (k + 1)) = omega arith in
    let next : k + 1 ≡ suc k = add-one k in
    let len : length mark.name ≡ name_length (text_in symbols strings k) = ap (λ (x : Mark). length x.name) m ∙ length-before_first (text_in symbols strings k) in
    let place : due ≡ place_in symbols k = r.due_is ∙ sym (place_due text symbols strings k e) in
    record {
      due_is = rw next (omega arith);
      some = omega arith;
      small = omega arith;
      marks_are =
          rw (n, m, next) (append_assoc old (mark_in text symbols strings k ∷ []) (marks_from text symbols strings (suc k) (count - suc k)) ∙ (rw (one, next) at r.marks_are));
      flaw = rw next (sym (checks_on text at symbols strings k (count - suc k) e) ∙ (rw (one, next) at r.flaw));
      known = rw next known;
    }

-- none is left
pub read_done : (text : TextAt) (at : SymbolsAt) (symbols strings : List ℕ) (count k due : ℕ) (marks : List Mark) (names : List (Bor Text)) → k ≡ count → Read text at symbols strings count k due marks names
    → (marks ≡ marks_from text symbols strings 0 count) × (due ≡ due_place symbols strings count) × (first (entry_checks text at symbols strings 0 count) symbols ≡ None)
read_done text at symbols strings count k due marks names e r =
    let none : count - k ≡ 0 = omega arith in
    (sym (append-nil marks) ∙ (rw none at r.marks_are), r.due_is ∙ ap (due_place symbols strings) e, sym (rw none at r.flaw))

-- one doesn't stand
pub read_stops : (text : TextAt) (at : SymbolsAt) (symbols strings : List ℕ) (count k due : ℕ) (marks : List Mark) (names : List (Bor Text)) → k < count → Read text at symbols strings count k due marks names
    → entry_stands text symbols strings k ≡ false → first (entry_checks text at symbols strings 0 count) symbols ≡ Some (flaw_at H5 (at.symbols + 16 * k))
read_stops text at symbols strings count k due marks names lt r e =
    let one : count - k ≡ suc (count - (k + 1)) = omega arith in
    sym (rw one at r.flaw) ∙ checks_stop text at symbols strings k (count - (k + 1)) e
