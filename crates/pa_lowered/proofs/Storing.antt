-- Assignments (C11 6.5.16).
use Rattle.std.proofs.Common.{◌≡◌, ℕ, ◌+◌, ℤ, Bool, true, false, IsTrue, List, length, Option, Some, None, refl, sym, ap, subst, ◌∙◌, arith}
use Rattle.std.specs.Prelude.{◌==◌, ◌&&◌, ◌||◌, not, nat_le, if◌then◌else◌, slice_get, slice_set, unwrap_or, option_map, option_and_then}
use Rattle.std.proofs.lemmas.Bool.Decides.{nat_tests}
use Rattle.std.proofs.lemmas.Bool.{eqb-true, eqb-false}
use Rattle.pa_ctype.specs.Types.{TypeTree}
use Rattle.pa_ctype.specs.Values as value
use Rattle.pa_ctype.specs.Values.{Local, Place, CValue, Cell, object_of, cell_in, cell_of, with_cell, with_object, with_value, written, is_constant, is_literal}
use Rattle.pa_integer.specs.Integers.{residue}
use Rattle.pa_cmean.specs.State.{World, with_objects}
use Rattle.pa_lir.specs.Values as flat
use Rattle.pa_lir.specs.Values.{FlatValue, octets, overwritten}
use Rattle.pa_lir.specs.Meaning.{Changes, stores}
use Rattle.pa_lower.specs.Operations.{bytes_of}
use Rattle.pa_lower.specs.Programs.{is_integer}
use Rattle.pa_lowered.specs.Objects.{Map, IsOf, IsPlace, IsObject, HasObjects}
use Rattle.pa_lowered.specs.Calls.{Entered, room_of, room_at, Sees}
use Rattle.pa_lowered.proofs.Types.{same_bytes, of_same_back}
use Rattle.pa_lowered.proofs.Octets.{length-octets}
use Rattle.pa_lowered.proofs.Loading.{cell_is}
use Rattle.pa_lowered.proofs.Changing.{set_here, set_other, length-set, all_overwritten, with_number, changed_objects}

-- ---- flat code stores all bytes of a living object

store_whole : (qs : flat.Objects) (p n y : ℕ) (q : flat.Object) → slice_get qs p ≡ Some q → q.alive ≡ true → q.constant ≡ false → n ≡ length q.bytes → stores qs n (flat.At p 0) (flat.Number y) ≡ Some (Changes p (record q { bytes = octets n y }))
store_whole qs p n y q here alive mutable e =
    let count = length-octets n y in
    let within : nat_le (0 + length (octets n y)) (length q.bytes) ≡ true = grind (arith, nat_tests) in
    ap (λ o. option_map (Changes p) (option_and_then (flat.written 0 (octets n y)) o)) here
    ∙ ap (λ b. option_map (Changes p) (if b && (not q.constant && nat_le (0 + length (octets n y)) (length q.bytes)) then Some (record q { bytes = overwritten q.bytes 0 (octets n y) }) else None)) alive
    ∙ ap (λ b. option_map (Changes p) (if not b && nat_le (0 + length (octets n y)) (length q.bytes) then Some (record q { bytes = overwritten q.bytes 0 (octets n y) }) else None)) mutable
    ∙ ap (λ b. option_map (Changes p) (if b then Some (record q { bytes = overwritten q.bytes 0 (octets n y) }) else None)) within
    ∙ ap (λ bs. Some (Changes p (record q { bytes = bs }))) (all_overwritten q.bytes (octets n y) (count ∙ e))

-- what a number is stored by: an object of flat code becomes another one of its size
pub record IsStored (m : Map) (who : ℕ → Option ℕ) (new : value.Objects) (qs : flat.Objects) (at : FlatValue) (t : TypeTree) (z : ℤ) : Type 0 where
  pub number : ℕ
  pub old : flat.Object
  pub now : flat.Object
  pub here : slice_get qs number ≡ Some old
  pub room : room_of now ≡ room_of old
  pub does : stores qs (bytes_of t) at (flat.Number (residue 64 z)) ≡ Some (Changes number now)
  pub objects : HasObjects m who new (slice_set qs number now)

some_objects : (a b : value.Objects) → Some a ≡ Some b → a ≡ b
some_objects a b e = ap (λ o. unwrap_or o a) e

pub written_is : (m : Map) (who : ℕ → Option ℕ) (os new : value.Objects) (qs : flat.Objects) (place : Place) (at : FlatValue) (t : TypeTree) (z : ℤ) → HasObjects m who os qs → IsPlace m place at → IsTrue (is_integer t) → IsOf t z → written os place t (value.Number z) ≡ Some new → IsStored m who new qs at t z
written_is m who os new qs place at t z objects is_place is_int is_z e =
    let has = objects.mapped is_place.number is_place.within is_place.lies in
    let found : object_of os place.owner ≡ Some has.object = ap (object_of os) is_place.owner ∙ has.is in
    by_cell has.object has.flat has.living has.size has.is has.flat_is (cell_in place.offset t has.object) refl (ap (λ o. option_and_then change (option_and_then (cell_in place.offset t) o)) (sym found) ∙ e)
  where
    change : Cell → Option value.Objects
    change cell = if is_constant cell.of || is_literal place.owner then None else Some (with_value os place (value.Number z))

    by_cell : (x : value.Object) (q : flat.Object) → (x.alive ≡ true → IsObject m x q) → length q.bytes ≡ x.size → object_of os (Local is_place.number) ≡ Some x → slice_get qs is_place.within ≡ Some q → (o : Option Cell) → cell_in place.offset t x ≡ o → option_and_then change o ≡ Some new → IsStored m who new qs at t z
    by_cell x q living size is flat_is None h k = cc
    by_cell x q living size is flat_is (Some cell) h k = by_test (is_constant cell.of || is_literal place.owner) k
      where
        by_test : (b : Bool) → (if b then None else Some (with_value os place (value.Number z))) ≡ Some new → IsStored m who new qs at t z
        by_test true k = cc
        by_test false k =
            let a = cell_is m x q place.offset t cell living is_place.first h in
            let i = a.is in
            let bytes : bytes_of i.cell.of ≡ bytes_of t = same_bytes i.cell.of t i.integer a.typed in
            let count : bytes_of t ≡ length q.bytes = sym (size ∙ i.size ∙ bytes) in
            let of_cell = of_same_back i.cell.of t z i.integer a.typed is_z in
            let is_new : with_object (with_number place.offset z) os (Local is_place.number) ≡ new = ap (λ w. with_object (with_number place.offset z) os w) (sym is_place.owner) ∙ some_objects (with_value os place (value.Number z)) new k in
            record {
              number = is_place.within;
              old = q;
              now = record q { bytes = octets (bytes_of t) (residue 64 z) };
              here = flat_is;
              room = ap (λ n. if q.alive then Some n else None) (length-octets (bytes_of t) (residue 64 z) ∙ count);
              does = ap (λ v. stores qs (bytes_of t) v (flat.Number (residue 64 z))) is_place.is ∙ store_whole qs is_place.within (bytes_of t) (residue 64 z) q flat_is i.alive i.mutable count;
              objects = subst (λ n. HasObjects m who new (slice_set qs is_place.within (record q { bytes = octets n (residue 64 z) }))) bytes
                  (subst (λ w. HasObjects m who w (slice_set qs is_place.within (record q { bytes = octets (bytes_of i.cell.of) (residue 64 z) }))) is_new
                  (changed_objects m who os qs place.offset is_place.number is_place.within z x q i is_place.first of_cell a.alive objects is_place.lies is flat_is));
            }

-- ---- the open call

room_kept : (qs : flat.Objects) (n p : ℕ) (old now : flat.Object) → slice_get qs n ≡ Some old → room_of now ≡ room_of old → room_at (slice_set qs n now) p ≡ room_at qs p
room_kept qs n p old now here room = by_test (n == p) refl
  where
    by_test : (b : Bool) → (n == p) ≡ b → room_at (slice_set qs n now) p ≡ room_at qs p
    by_test true e =
        let is_p : n ≡ p = eqb-true n p e in
        subst (λ j. room_at (slice_set qs n now) j ≡ room_at qs j) is_p (ap (option_and_then room_of) (set_here qs n now old here) ∙ room ∙ sym (ap (option_and_then room_of) here))
    by_test false e = ap (option_and_then room_of) (set_other qs n p now (eqb-false n p e))

pub sees_stored : (w : Entered) (live : List ℕ) (m : Map) (world : World) (qs : flat.Objects) (new : value.Objects) (at : FlatValue) (t : TypeTree) (z : ℤ) (a : Sees w live m world qs) (s : IsStored m a.who new qs at t z) → Sees w live m (with_objects world new) (slice_set qs s.number s.now)
sees_stored w live m world qs new at t z a s = record {
  who = a.who;
  objects = s.objects;
  grown = a.grown;
  locals = a.locals;
  owners = a.owners;
  count = a.count;
  lives = a.lives;
  others = a.others;
  own = a.own;
  rooms = λ x l e. room_kept qs s.number _ s.old s.now s.here s.room ∙ a.rooms x l e;
  first = let same = length-set qs s.number s.now in let low = a.first in omega arith;
  older = a.older;
  older_rooms = λ p low. room_kept qs s.number p s.old s.now s.here s.room ∙ a.older_rooms p low;
}
