-- Objects after one of them changed: a local gets a number of its type, in all bytes of the object that it lies in.
use Rattle.std.proofs.Common.{◌≡◌, ℕ, zero, suc, ◌+◌, ◌<◌, ℤ, Bool, true, false, List, [], ◌∷◌, ◌++◌, length, Option, Some, refl, sym, ap, subst, ◌∙◌, arith}
use Rattle.std.specs.Prelude.{◌==◌, if◌then◌else◌, slice_get, slice_set, unwrap_or, option_map}
use Rattle.std.proofs.lemmas.Bool.{eq-eqb, eqb-true, eqb-false}
use Rattle.std.proofs.lemmas.List.{append-nil, drop_all}
use Rattle.pa_ctype.specs.Values as value
use Rattle.pa_ctype.specs.Values.{Local, Owner, Place, CValue, Cell, same_owner, object_of, cell_at, cell_in, cell_of, with_cell, with_object, with_value, written, is_constant, is_literal}
use Rattle.pa_ctype.proofs.Objects.{changed_object, other_object}
use Rattle.pa_integer.specs.Integers.{residue}
use Rattle.pa_lir.specs.Values as flat
use Rattle.pa_lir.specs.Values.{FlatValue, Byte, octets, overwritten, value_in}
use Rattle.pa_lower.specs.Operations.{bytes_of}
use Rattle.pa_lowered.specs.Objects.{Map, IsOf, IsObject, IsLocal, Has, HasObjects}
use Rattle.pa_lowered.proofs.Octets.{length-octets, octets_hold}

-- ---- lists

pub set_here : {A : Type 0} (xs : List A) (i : ℕ) (x y : A) → slice_get xs i ≡ Some y → slice_get (slice_set xs i x) i ≡ Some x
set_here [] i x y e = cc
set_here (z ∷ xs) zero x y e = refl
set_here (z ∷ xs) (suc i) x y e = set_here xs i x y e

pub set_other : {A : Type 0} (xs : List A) (i j : ℕ) (x : A) → (i ≡ j → ⊥) → slice_get (slice_set xs i x) j ≡ slice_get xs j
set_other [] i j x n = refl
set_other (z ∷ xs) zero zero x n = absurd (n refl)
set_other (z ∷ xs) zero (suc j) x n = refl
set_other (z ∷ xs) (suc i) zero x n = refl
set_other (z ∷ xs) (suc i) (suc j) x n = set_other xs i j x (λ e. n (ap suc e))

pub length-set : {A : Type 0} (xs : List A) (i : ℕ) (x : A) → length (slice_set xs i x) ≡ length xs
length-set [] i x = refl
length-set (z ∷ xs) zero x = refl
length-set (z ∷ xs) (suc i) x = ap suc (length-set xs i x)

length-changed : (change : value.Object → value.Object) (os : value.Objects) (owner : Owner) → length (with_object change os owner) ≡ length os
unfolding with_object
length-changed change [] owner = refl
length-changed change (x ∷ os) owner = by_test (same_owner x.owner owner) (length-changed change os owner)
  where
    by_test : (b : Bool) → length (with_object change os owner) ≡ length os → length (if b then change x ∷ os else x ∷ with_object change os owner) ≡ length (x ∷ os)
    by_test true e = refl
    by_test false e = ap suc e

-- ---- the object

abbrev pub with_number : ℕ → ℤ → value.Object → value.Object
with_number offset z x = record x { cells = with_cell x.cells offset (value.Number z) }

pub all_overwritten : (bs new : List Byte) → length new ≡ length bs → overwritten bs 0 new ≡ new
all_overwritten bs new e = ap (λ l. new ++ l) (drop_all (0 + length new) bs (omega arith)) ∙ append-nil new

one_cell_set : (cell : Cell) (v : CValue) → cell.at ≡ 0 → with_cell (cell ∷ []) 0 v ≡ record cell { value = Some v } ∷ []
unfolding with_cell
one_cell_set cell v e = ap (λ b. if b then record cell { value = Some v } ∷ [] else cell ∷ []) (eq-eqb cell.at 0 e)

-- after the number is stored
changed_is : (m : Map) (x : value.Object) (q : flat.Object) (offset : ℕ) (z : ℤ) (i : IsObject m x q) → offset ≡ 0 → IsOf i.cell.of z → IsObject m (with_number offset z x) (record q { bytes = octets (bytes_of i.cell.of) (residue 64 z) })
changed_is m x q offset z i first is = record {
  alive = i.alive;
  mutable = i.mutable;
  cell = record i.cell { value = Some (value.Number z) };
  only = ap (λ cs. with_cell cs offset (value.Number z)) i.only ∙ ap (λ k. with_cell (i.cell ∷ []) k (value.Number z)) first ∙ one_cell_set i.cell (value.Number z) i.first;
  first = i.first;
  integer = i.integer;
  size = i.size;
  value = (flat.Number (residue 64 z), (is, refl), octets_hold i.cell.of z is);
}

-- ---- all objects

some_number : (p q : ℕ) → Some p ≡ Some q → p ≡ q
some_number p q e = ap (λ o. unwrap_or o p) e

module _ (m : Map) (who : ℕ → Option ℕ) (os : value.Objects) (qs : flat.Objects) (offset o p : ℕ) (z : ℤ) (x : value.Object) (q : flat.Object) where
  abbrev pub after : value.Objects
  after = with_object (with_number offset z) os (Local o)

  abbrev pub flat_after : ℕ → flat.Objects
  flat_after n = slice_set qs p (record q { bytes = octets n (residue 64 z) })

  pub changed_objects : (i : IsObject m x q) → offset ≡ 0 → IsOf i.cell.of z → x.alive ≡ true → HasObjects m who os qs → m o ≡ Some p → IsLocal os o x → slice_get qs p ≡ Some q → HasObjects m who after (flat_after (bytes_of i.cell.of))
  changed_objects i first is alive h lies local flat_is = record { numbers = numbers; mapped = mapped; lies = lies_in }
    where
      n : ℕ
      n = bytes_of i.cell.of

      new : flat.Object
      new = record q { bytes = octets n (residue 64 z) }

      here : IsLocal after o (with_number offset z x)
      here = changed_object (with_number offset z) (λ y. refl) os (Local o) ∙ ap (λ y. option_map (with_number offset z) y) local

      elsewhere : (k : ℕ) → (o == k) ≡ false → object_of after (Local k) ≡ object_of os (Local k)
      elsewhere k e = other_object (with_number offset z) (λ y. refl) os (Local o) (Local k) e

      -- what was there before
      before : (k : ℕ) (y : value.Object) → IsLocal after k y → (y0 : value.Object) × IsLocal os k y0 × (y0.alive ≡ y.alive)
      before k y e = by_test (o == k) refl
        where
          by_test : (b : Bool) → (o == k) ≡ b → (y0 : value.Object) × IsLocal os k y0 × (y0.alive ≡ y.alive)
          by_test true same =
              let is_o : o ≡ k = eqb-true o k same in
              let is_new : with_number offset z x ≡ y = ap (λ w. unwrap_or w y) (sym here ∙ ap (λ j. object_of after (Local j)) is_o ∙ e) in
              (x, subst (λ j. IsLocal os j x) is_o local, ap (λ (w : value.Object). w.alive) is_new)
          by_test false other = (y, sym (elsewhere k other) ∙ e, refl)

      numbers : (k : ℕ) (y : value.Object) → IsLocal after k y → k < length after
      numbers k y e = let b = before k y e in let low = h.numbers k b.0 b.1 in let same = length-changed (with_number offset z) os (Local o) in omega arith

      lies_in : (k r : ℕ) (y : value.Object) → IsLocal after k y → y.alive ≡ true → m k ≡ Some r → who r ≡ Some k
      lies_in k r y e lives at = let b = before k y e in h.lies k r b.0 b.1 (b.2 ∙ lives) at

      new_size : length new.bytes ≡ x.size
      new_size = length-octets n (residue 64 z) ∙ sym i.size

      x_size : length q.bytes ≡ x.size
      x_size =
          let had = h.mapped o p lies in
          let is_x : had.object ≡ x = ap (λ w. unwrap_or w x) (sym had.is ∙ local) in
          let is_q : had.flat ≡ q = ap (λ w. unwrap_or w q) (sym had.flat_is ∙ flat_is) in
          ap (λ (w : flat.Object). length w.bytes) (sym is_q) ∙ had.size ∙ ap (λ (w : value.Object). w.size) is_x

      mapped : (k r : ℕ) → m k ≡ Some r → Has m after (flat_after n) k r
      mapped k r at = by_test (o == k) refl
        where
          by_test : (b : Bool) → (o == k) ≡ b → Has m after (flat_after n) k r
          by_test true same =
              let is_o : o ≡ k = eqb-true o k same in
              let is_p : p ≡ r = some_number p r (sym lies ∙ ap m is_o ∙ at) in
              record {
                object = with_number offset z x;
                flat = new;
                is = subst (λ j. IsLocal after j (with_number offset z x)) is_o here;
                flat_is = subst (λ j. slice_get (flat_after n) j ≡ Some new) is_p (set_here qs p new q flat_is);
                size = new_size;
                living = λ e. changed_is m x q offset z i first is;
              }
          by_test false other = let had = h.mapped k r at in at_flat had (p == r) refl
            where
              at_flat : Has m os qs k r → (b : Bool) → (p == r) ≡ b → Has m after (flat_after n) k r
              at_flat had true same =
                  let is_p : p ≡ r = eqb-true p r same in
                  let is_q : q ≡ had.flat = ap (λ w. unwrap_or w q) (sym flat_is ∙ ap (λ j. slice_get qs j) is_p ∙ had.flat_is) in
                  record {
                    object = had.object;
                    flat = new;
                    is = elsewhere k other ∙ had.is;
                    flat_is = subst (λ j. slice_get (flat_after n) j ≡ Some new) is_p (set_here qs p new q flat_is);
                    size = new_size ∙ sym x_size ∙ ap (λ (w : flat.Object). length w.bytes) is_q ∙ had.size;
                    living = λ e. absurd (eqb-false o k other (some_number o k (sym (h.lies o p x local alive lies) ∙ ap who is_p ∙ h.lies k r had.object had.is e at)));
                  }
              at_flat had false apart = record {
                object = had.object;
                flat = had.flat;
                is = elsewhere k other ∙ had.is;
                flat_is = set_other qs p r new (eqb-false p r apart) ∙ had.flat_is;
                size = had.size;
                living = had.living;
              }
