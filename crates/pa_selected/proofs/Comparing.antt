-- Operators on any values: the word that the instructions make of the operands' words stands for what the operator gives.
use Rattle.std.proofs.Common.{◌≡◌, ◌≢◌, inl, inr, ◌⊎◌, ℕ, ◌+◌, ◌^◌, ◌≤◌, ◌<◌, Bool, true, false, cond, eqb, leb, ltb, List, length, Option, Some, None, refl, sym, ap, subst, ◌∙◌, arith}
use Rattle.std.specs.Prelude.{◌&&◌, not, slice_get, slice_index, unwrap_or, option_map}
use Rattle.std.proofs.lemmas.Bool.{and_parts, cases_eq, cases_lt, eqb-true, eq-eqb, ne_eqb, lt-ltb, le-ltb, le-leb, lt-leb, ltb-true}
use Rattle.pa_num.specs.Arithmetic.{wrap, add64, sub64}
use Rattle.pa_mem.specs.Memory.{Region}
use Rattle.pa_lir.specs.declared.op.BinOp.{BinOp}
use Rattle.pa_lir.specs.declared.op.BinOp.TheVariants as bin
use Rattle.pa_lir.specs.Operators.{truth, of_numbers, has_byte, is_end, apart, equal_places, equal, as_truth, as_number, in_one, place_in, of_place_and_number, of_number_and_place, of_places, of_others, binary}
use Rattle.pa_lir.specs.Values.{FlatValue, Number, At, Code, Object, Objects}
use Rattle.pa_selected.specs.Values.{Addresses, StandsFor, HasObjects}
use Rattle.pa_selected.proofs.Operating.{computed_by, computed_means}
use Rattle.pa_selected.proofs.Places.{sum_stands, difference_stands, distance_is}

some_bool : (a b : Bool) → Some a ≡ Some b → a ≡ b
some_bool a b e = ap (λ o. unwrap_or o a) e

some_value : (a b : FlatValue) → Some a ≡ Some b → a ≡ b
some_value a b e = ap (λ o. unwrap_or o a) e

add64-comm : (x y : ℕ) → add64 x y ≡ add64 y x
unfolding add64
add64-comm x y = ap wrap (omega arith)

-- a number moved by another one keeps whether it is that one, and which is less
eqb-moved : (a i j : ℕ) → eqb (a + i) (a + j) ≡ eqb i j
eqb-moved a i j = go (cases_eq i j)
  where
    go : ((i ≡ j) ⊎ (i ≢ j)) → eqb (a + i) (a + j) ≡ eqb i j
    go (inl e) = eq-eqb (a + i) (a + j) (ap (λ k. a + k) e) ∙ sym (eq-eqb i j e)
    go (inr ne) = ne_eqb (a + i) (a + j) (λ e. ne (omega (arith, e))) ∙ sym (ne_eqb i j ne)

ltb-moved : (a i j : ℕ) → ltb (a + i) (a + j) ≡ ltb i j
ltb-moved a i j = go (cases_lt i j)
  where
    go : ((i < j) ⊎ (j ≤ i)) → ltb (a + i) (a + j) ≡ ltb i j
    go (inl less) = lt-ltb (a + i) (a + j) (omega (arith, less)) ∙ sym (lt-ltb i j less)
    go (inr more) = le-ltb (a + i) (a + j) (omega (arith, more)) ∙ sym (le-ltb i j more)

leb-moved : (a i j : ℕ) → leb (a + i) (a + j) ≡ leb i j
leb-moved a i j = go (cases_lt j i)
  where
    go : ((j < i) ⊎ (i ≤ j)) → leb (a + i) (a + j) ≡ leb i j
    go (inl less) = lt-leb (a + i) (a + j) (omega (arith, less)) ∙ sym (lt-leb i j less)
    go (inr more) = le-leb (a + i) (a + j) (omega (arith, more)) ∙ sym (le-leb i j more)

-- ---- where bytes of objects lie

record Has (objects : Objects) (o : ℕ) (holds : (size : ℕ) → Type 0) : Type 0 where
  object : Object
  there : slice_get objects o ≡ Some object
  alive : object.alive ≡ true
  inside : holds (length object.bytes)

has_it : (objects : Objects) (o i : ℕ) → has_byte (slice_get objects o) i ≡ true → Has objects o (λ size. i < size)
has_it objects o i e = go (slice_get objects o) refl e
  where
    go : (found : Option Object) → slice_get objects o ≡ found → has_byte found i ≡ true → Has objects o (λ size. i < size)
    go None q e = cc
    go (Some object) q e =
        let both = and_parts object.alive (ltb i (length object.bytes)) e in
        record { object = object; there = q; alive = both.0; inside = ltb-true i (length object.bytes) both.1 }

ends_it : (objects : Objects) (o i : ℕ) → is_end (slice_get objects o) i ≡ true → Has objects o (λ size. (0 < size) × (i ≡ size))
ends_it objects o i e = go (slice_get objects o) refl e
  where
    go : (found : Option Object) → slice_get objects o ≡ found → is_end found i ≡ true → Has objects o (λ size. (0 < size) × (i ≡ size))
    go None q e = cc
    go (Some object) q e =
        let size = length object.bytes in
        let both = and_parts object.alive (ltb 0 size && eqb i size) e in
        let rest = and_parts (ltb 0 size) (eqb i size) both.1 in
        record { object = object; there = q; alive = both.0; inside = (ltb-true 0 size rest.0, eqb-true i size rest.1) }

module _ (addresses : Addresses) (objects : Objects) (memory : List Region) (lie : HasObjects addresses objects memory) where
  differ : (o i p j : ℕ) → o ≢ p → apart objects o i p j ≡ true → slice_index addresses o + i ≢ slice_index addresses p + j
  differ o i p j other e = go (has_byte (slice_get objects o) i) refl e
    where
      go : (b : Bool) → has_byte (slice_get objects o) i ≡ b → cond b (has_byte (slice_get objects p) j) (is_end (slice_get objects o) i && is_end (slice_get objects p) j) ≡ true → slice_index addresses o + i ≢ slice_index addresses p + j
      go true q e same =
          let one = has_it objects o i q in
          let two = has_it objects p j e in
          let off = lie.apart o one.object one.there one.alive p two.object two.there two.alive other in
          omega (arith, off, same, one.inside, two.inside)
      go false q e same =
          let both = and_parts (is_end (slice_get objects o) i) (is_end (slice_get objects p) j) e in
          let one = ends_it objects o i both.0 in
          let two = ends_it objects p j both.1 in
          let off = lie.apart o one.object one.there one.alive p two.object two.there two.alive other in
          omega (arith, off, same, one.inside.0, one.inside.1, two.inside.0, two.inside.1)

  -- ---- equality

  equal_at : (o i p j : ℕ) (b : Bool) → equal_places objects o i p j ≡ Some b → eqb (slice_index addresses o + i) (slice_index addresses p + j) ≡ b
  equal_at o i p j b e = go (eqb o p) refl e
    where
      other : eqb o p ≡ false → (c : Bool) → apart objects o i p j ≡ c → cond c (Some false) None ≡ Some b → eqb (slice_index addresses o + i) (slice_index addresses p + j) ≡ b
      other q true r e =
          ne_eqb (slice_index addresses o + i) (slice_index addresses p + j) (differ o i p j (λ same. not_both (sym (eq-eqb o p same) ∙ q)) r) ∙ some_bool false b e
        where
          not_both : true ≡ false → ⊥
          not_both h = cc
      other q false r e = cc

      go : (c : Bool) → eqb o p ≡ c → cond c (Some (eqb i j)) (cond (apart objects o i p j) (Some false) None) ≡ Some b → eqb (slice_index addresses o + i) (slice_index addresses p + j) ≡ b
      go true q e = ap (λ k. eqb (slice_index addresses o + i) (slice_index addresses k + j)) (sym (eqb-true o p q)) ∙ (eqb-moved (slice_index addresses o) i j ∙ some_bool (eqb i j) b e)
      go false q e = other q (apart objects o i p j) refl e

  not_null : (x o i : ℕ) (b : Bool) → o < length addresses → cond (eqb x 0) (Some false) None ≡ Some b → (x ≢ slice_index addresses o + i) × (b ≡ false)
  not_null x o i b low e = go (eqb x 0) refl e
    where
      go : (c : Bool) → eqb x 0 ≡ c → cond c (Some false) None ≡ Some b → (x ≢ slice_index addresses o + i) × (b ≡ false)
      go true q e = (λ same. let count = lie.count in let some = lie.some o (omega (arith, low, count)) in let none = eqb-true x 0 q in omega (arith, same, some, none), sym (some_bool false b e))
      go false q e = cc

  equal_words : (u v : FlatValue) (x y : ℕ) (b : Bool) → StandsFor addresses u x → StandsFor addresses v y → equal objects u v ≡ Some b → eqb x y ≡ b
  equal_words (Number m) (Number n) x y b s t e = ap (λ k. eqb k y) s ∙ (ap (eqb m) t ∙ some_bool (eqb m n) b e)
  equal_words (Number m) (At p j) x y b s t e =
      let h = not_null m p j b t.0 e in
      ne_eqb x y (λ same. h.0 (sym s ∙ (same ∙ t.1))) ∙ sym h.1
  equal_words (At o i) (Number n) x y b s t e =
      let h = not_null n o i b s.0 e in
      ne_eqb x y (λ same. h.0 (sym t ∙ (sym same ∙ s.1))) ∙ sym h.1
  equal_words (At o i) (At p j) x y b s t e = ap (λ k. eqb k y) s.1 ∙ (ap (eqb (slice_index addresses o + i)) t.1 ∙ equal_at o i p j b e)
  equal_words (Code f schema) v x y b s t e = absurd s
  equal_words (Number m) (Code g schema) x y b s t e = absurd t
  equal_words (At o i) (Code g schema) x y b s t e = absurd t

  -- ---- what stands for the result

  truth_stands : (b : Option Bool) (value : FlatValue) (c : Bool) → ((d : Bool) → b ≡ Some d → c ≡ d) → as_truth b ≡ Some value → StandsFor addresses value (truth c)
  truth_stands None value c h e = cc
  truth_stands (Some d) value c h e = subst (λ v. StandsFor addresses v (truth c)) (some_value (Number (truth d)) value e) (ap truth (h d refl))

  not_stands : (b : Option Bool) (value : FlatValue) (c : Bool) → ((d : Bool) → b ≡ Some d → c ≡ d) → as_truth (option_map not b) ≡ Some value → StandsFor addresses value (truth (not c))
  not_stands None value c h e = cc
  not_stands (Some d) value c h e = subst (λ v. StandsFor addresses v (truth (not c))) (some_value (Number (truth (not d))) value e) (ap (λ c. truth (not c)) (h d refl))

  number_stands : (operator : BinOp) (a b x y : ℕ) (value : FlatValue) → x ≡ a → y ≡ b → as_number (of_numbers operator a b) ≡ Some value → StandsFor addresses value (computed_by operator x y)
  number_stands operator a b x y value s t e = go (of_numbers operator a b) refl e
    where
      go : (z : Option ℕ) → of_numbers operator a b ≡ z → as_number z ≡ Some value → StandsFor addresses value (computed_by operator x y)
      go None q e = cc
      go (Some z) q e = subst (λ v. StandsFor addresses v (computed_by operator x y)) (some_value (Number z) value e)
          (ap (λ k. computed_by operator k y) s ∙ (ap (computed_by operator a) t ∙ sym (computed_means operator a b z q)))

  -- of two places of one object
  one_stands : (o p i j word z : ℕ) (value : FlatValue) → (o ≡ p → word ≡ z) → in_one o p z ≡ Some value → StandsFor addresses value word
  one_stands o p i j word z value same e = go (eqb o p) refl e
    where
      go : (b : Bool) → eqb o p ≡ b → cond b (Some (Number z)) None ≡ Some value → StandsFor addresses value word
      go true q e = subst (λ v. StandsFor addresses v word) (some_value (Number z) value e) (same (eqb-true o p q))
      go false q e = cc

  module _ (x y : ℕ) (x_fits : x < 2 ^ 64) (y_fits : y < 2 ^ 64) where
    places_stand : (operator : BinOp) (o i p j : ℕ) (value : FlatValue) → StandsFor addresses (At o i) x → StandsFor addresses (At p j) y → of_places objects operator o i p j ≡ Some value → StandsFor addresses value (computed_by operator x y)
    places_stand bin.Sub o i p j value s t e =
        one_stands o p i j _ (sub64 i j) value (λ same. distance_is addresses objects memory lie o i j x y x_fits y_fits s (subst (λ k. StandsFor addresses (At k j) y) (sym same) t)) e
    places_stand bin.Eq o i p j value s t e = truth_stands (equal_places objects o i p j) value (eqb x y) (λ d q. equal_words (At o i) (At p j) x y d s t q) e
    places_stand bin.Ne o i p j value s t e = not_stands (equal_places objects o i p j) value (eqb x y) (λ d q. equal_words (At o i) (At p j) x y d s t q) e
    places_stand bin.ULt o i p j value s t e =
        one_stands o p i j _ (truth (ltb i j)) value (λ same. ap truth (ap (λ k. ltb k y) s.1 ∙ (ap (ltb (slice_index addresses o + i)) (t.1 ∙ ap (λ k. slice_index addresses k + j) (sym same)) ∙ ltb-moved (slice_index addresses o) i j))) e
    places_stand bin.ULe o i p j value s t e =
        one_stands o p i j _ (truth (leb i j)) value (λ same. ap truth (ap (λ k. leb k y) s.1 ∙ (ap (leb (slice_index addresses o + i)) (t.1 ∙ ap (λ k. slice_index addresses k + j) (sym same)) ∙ leb-moved (slice_index addresses o) i j))) e
    places_stand _ o i p j value s t e = cc

    place_and_number : (operator : BinOp) (o i n : ℕ) (value : FlatValue) → StandsFor addresses (At o i) x → y ≡ n → of_place_and_number objects operator o i n ≡ Some value → StandsFor addresses value (computed_by operator x y)
    place_and_number bin.Add o i n value s t e = sum_stands addresses objects memory lie o i n x y value s t e
    place_and_number bin.Sub o i n value s t e = difference_stands addresses objects memory lie o i n x y value y_fits s t e
    place_and_number bin.Eq o i n value s t e = truth_stands (equal objects (At o i) (Number n)) value (eqb x y) (λ d q. equal_words (At o i) (Number n) x y d s t q) e
    place_and_number bin.Ne o i n value s t e = not_stands (equal objects (At o i) (Number n)) value (eqb x y) (λ d q. equal_words (At o i) (Number n) x y d s t q) e
    place_and_number _ o i n value s t e = cc

    number_and_place : (operator : BinOp) (n p j : ℕ) (value : FlatValue) → x ≡ n → StandsFor addresses (At p j) y → of_number_and_place objects operator n p j ≡ Some value → StandsFor addresses value (computed_by operator x y)
    number_and_place bin.Add n p j value s t e = subst (StandsFor addresses value) (add64-comm y x) (sum_stands addresses objects memory lie p j n y x value t s e)
    number_and_place bin.Eq n p j value s t e = truth_stands (equal objects (Number n) (At p j)) value (eqb x y) (λ d q. equal_words (Number n) (At p j) x y d s t q) e
    number_and_place bin.Ne n p j value s t e = not_stands (equal objects (Number n) (At p j)) value (eqb x y) (λ d q. equal_words (Number n) (At p j) x y d s t q) e
    number_and_place _ n p j value s t e = cc

    pub binary_stands : (operator : BinOp) (u v value : FlatValue) → StandsFor addresses u x → StandsFor addresses v y → binary objects operator u v ≡ Some value → StandsFor addresses value (computed_by operator x y)
    binary_stands operator (Number a) (Number b) value s t e = number_stands operator a b x y value s t e
    binary_stands operator (Number a) (At p j) value s t e = number_and_place operator a p j value s t e
    binary_stands operator (At o i) (Number b) value s t e = place_and_number operator o i b value s t e
    binary_stands operator (At o i) (At p j) value s t e = places_stand operator o i p j value s t e
    binary_stands operator (Code f schema) v value s t e = absurd s
    binary_stands operator (Number a) (Code g schema) value s t e = absurd t
    binary_stands operator (At o i) (Code g schema) value s t e = absurd t
