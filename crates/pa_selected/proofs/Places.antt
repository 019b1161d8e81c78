-- Operators on places: the word that the instructions make stands for the place or the number that the operator gives.
use Rattle.std.proofs.Common.{◌≡◌, ℕ, ◌+◌, ◌^◌, ◌<◌, Bool, true, false, cond, leb, List, length, Option, Some, None, refl, ap, subst, arith}
use Rattle.std.specs.Prelude.{slice_get, slice_index, unwrap_or}
use Rattle.std.proofs.lemmas.Bool.{leb-true}
use Rattle.pa_num.specs.Arithmetic.{wrap, add64, sub64}
use Rattle.pa_mem.specs.Memory.{Region}
use Rattle.pa_lir.specs.Operators.{place_in, place_if}
use Rattle.pa_lir.specs.Values.{FlatValue, At, Object, Objects}
use Rattle.pa_selected.specs.Values.{Addresses, StandsFor, HasObjects}

-- a place that an operator gives lies in its object, or at the object's end
pub record InObject (addresses : Addresses) (p offset : ℕ) (value : FlatValue) : Type 0 where
  pub same : At p offset ≡ value
  pub low : slice_index addresses p + offset < 2 ^ 63

module _ (addresses : Addresses) (objects : Objects) (memory : List Region) (lie : HasObjects addresses objects memory) where
  in_object : (p offset : ℕ) (value : FlatValue) → place_in objects p offset ≡ Some value → InObject addresses p offset value
  in_object p offset value e = go (slice_get objects p) refl e
    where
      within : (object : Object) → slice_get objects p ≡ Some object → (b : Bool) → leb offset (length object.bytes) ≡ b → cond b (Some (At p offset)) None ≡ Some value → InObject addresses p offset value
      within object q true le e = let inside = leb-true offset (length object.bytes) le in let low = lie.low p object q in record { same = ap (λ o. unwrap_or o (At p offset)) e; low = omega (arith, inside, low) }
      within object q false le e = cc

      go : (object : Option Object) → slice_get objects p ≡ object → place_if p offset object ≡ Some value → InObject addresses p offset value
      go None q e = cc
      go (Some object) q e = within object q (leb offset (length object.bytes)) refl e

  -- a place and a number
  pub sum_stands : (p i n x y : ℕ) (value : FlatValue) → StandsFor addresses (At p i) x → y ≡ n → place_in objects p (add64 i n) ≡ Some value → StandsFor addresses value (add64 x y)
  unfolding add64 wrap
  sum_stands p i n x y value stands is e =
      let h = in_object p (add64 i n) value e in
      subst (λ v. StandsFor addresses v (add64 x y)) h.same (stands.0, omega (arith, h.low, stands.1, is))

  -- and a number less
  pub difference_stands : (p i n x y : ℕ) (value : FlatValue) → y < 2 ^ 64 → StandsFor addresses (At p i) x → y ≡ n → place_in objects p (sub64 i n) ≡ Some value → StandsFor addresses value (sub64 x y)
  unfolding sub64 wrap
  difference_stands p i n x y value fits stands is e =
      let h = in_object p (sub64 i n) value e in
      subst (λ v. StandsFor addresses v (sub64 x y)) h.same (stands.0, omega (arith, h.low, stands.1, is, fits))

  -- how far two places of an object lie from each other
  pub distance_is : (p i j x y : ℕ) → x < 2 ^ 64 → y < 2 ^ 64 → StandsFor addresses (At p i) x → StandsFor addresses (At p j) y → sub64 x y ≡ sub64 i j
  unfolding sub64 wrap
  distance_is p i j x y a b one two = omega (arith, one.1, two.1, a, b)
