-- What is loaded from bytes of flat code in memory, and the bytes that are stored.
use Rattle.std.proofs.Common.{◌≡◌, ℕ, zero, suc, ◌+◌, ◌-◌, ◌*◌, ◌/◌, ◌%◌, ◌^◌, ◌≤◌, ◌<◌, Bool, true, false, cond, eqb, List, [], ◌∷◌, length, Option, Some, None, refl, sym, ap, subst, ◌∙◌, arith}
use Rattle.std.specs.Prelude.{◌&&◌, unwrap_or, option_and_then}
use Rattle.std.proofs.lemmas.Bool.{and_parts, eqb-true}
use Rattle.std.proofs.Math.Nat.{div-div-eq-div-mul, pow-succ'}
use Rattle.pa_mem.specs.Memory.{Region, IsBytes, byte_at, load}
use Rattle.pa_mem.proofs.Ranges.{load-of_bytes}
use Rattle.pa_selected.proofs.Operating.{whole_signed}
use Rattle.pa_lir.specs.Values.{FlatValue, Number, At, Code, Byte, Unset, Octet, Part, same_value, octets, parts, octet_before, number_in, are_parts, pointer_in, if_movable, value_or, value_in, extended}
use Rattle.pa_selected.specs.Values.{Addresses, StandsFor, IsPart, IsByte, HasBytes}

some_number : (x y : ℕ) → Some x ≡ Some y → x ≡ y
some_number x y e = ap (λ o. unwrap_or o x) e

some_value : (x y : FlatValue) → Some x ≡ Some y → x ≡ y
some_value x y e = ap (λ o. unwrap_or o x) e

module _ (addresses : Addresses) (memory : List Region) where
  -- ---- numbers

  -- bytes of a number alone: it is what is loaded
  pub number_loaded : (at : ℕ) (bytes : List Byte) (x : ℕ) → number_in bytes ≡ Some x → HasBytes addresses memory at bytes → load (length bytes) memory at ≡ x
  unfolding HasBytes number_in load
  number_loaded at [] x e h = some_number 0 x e
  number_loaded at (b ∷ bs) x e h = go b (number_in bs) (λ y q. number_loaded (at + 1) bs y q h.1) refl h.0 e
    where
      go : (b : Byte) (rest : Option ℕ) → ((y : ℕ) → number_in bs ≡ Some y → load (length bs) memory (at + 1) ≡ y) → number_in bs ≡ rest → IsByte addresses b (byte_at memory at) → octet_before b rest ≡ Some x
          → byte_at memory at + 256 * load (length bs) memory (at + 1) ≡ x
      go (Octet n) (Some y) ih q here e = let is = ih y q in let same = some_number (n + 256 * y) x e in omega (arith, is, same, here)
      go (Octet n) None ih q here e = cc
      go Unset rest ih q here e = cc
      go (Part p index) rest ih q here e = cc

  -- ---- pointers

  -- a value has one word
  pub one_word : (value : FlatValue) (x y : ℕ) → StandsFor addresses value x → StandsFor addresses value y → x ≡ y
  one_word (Number n) x y a b = a ∙ sym b
  one_word (At o offset) x y a b = a.1 ∙ sym b.1
  one_word (Code name schema) x y a b = absurd a

  -- equal pointers stand for the same
  same_stands : (p q : FlatValue) (word : ℕ) → same_value p q ≡ true → StandsFor addresses q word → StandsFor addresses p word
  same_stands (Number x) (Number y) word e h = h ∙ sym (eqb-true x y e)
  same_stands (At o i) (At p j) word e h =
      let both = and_parts (eqb o p) (eqb i j) e in
      let one = eqb-true o p both.0 in
      let two = eqb-true i j both.1 in
      subst (λ k. StandsFor addresses (At k i) word) (sym one) (subst (λ k. StandsFor addresses (At p k) word) (sym two) h)
  same_stands p (Code name schema) word e h = absurd h
  same_stands (Number x) (At p j) word e h = cc
  same_stands (At o i) (Number y) word e h = cc
  same_stands (Code name schema) (Number y) word e h = cc
  same_stands (Code name schema) (At p j) word e h = cc

  -- the last bytes of a pointer are those of its word
  parts_are : (pointer : FlatValue) (word at : ℕ) (bytes : List Byte) → StandsFor addresses pointer word → length bytes ≤ 8 → are_parts pointer bytes ≡ true → HasBytes addresses memory at bytes
      → (i : ℕ) → i < length bytes → byte_at memory (at + i) ≡ word / 256 ^ (8 - length bytes + i) % 256
  unfolding HasBytes are_parts
  parts_are pointer word at [] stands few e h i low = absurd (omega arith)
  parts_are pointer word at (Unset ∷ bs) stands few e h i low = cc
  parts_are pointer word at (Octet n ∷ bs) stands few e h i low = cc
  parts_are pointer word at (Part p index ∷ bs) stands few e h i low =
      let both = and_parts (same_value pointer p && eqb index (8 - suc (length bs))) (are_parts pointer bs) e in
      let own = and_parts (same_value pointer p) (eqb index (8 - suc (length bs))) both.0 in
      go own.0 (eqb-true index (8 - suc (length bs)) own.1) (λ j below. parts_are pointer word (at + 1) bs stands (omega arith) both.1 h.1 j below) h.0 i low
    where
      go : same_value pointer p ≡ true → index ≡ 8 - suc (length bs) → ((j : ℕ) → j < length bs → byte_at memory (at + 1 + j) ≡ word / 256 ^ (8 - length bs + j) % 256) → IsPart addresses p index (byte_at memory at)
          → (i : ℕ) → i < suc (length bs) → byte_at memory (at + i) ≡ word / 256 ^ (8 - suc (length bs) + i) % 256
      go same is ih part zero low =
          let there : at + 0 ≡ at = omega arith in
          let first : index ≡ 8 - suc (length bs) + 0 = omega (arith, is) in
          let words = one_word pointer part.word word (same_stands pointer p part.word same part.stands) stands in
          ap (byte_at memory) there ∙ (part.same ∙ (ap (λ n. part.word / 256 ^ n % 256) first ∙ ap (λ v. v / 256 ^ (8 - suc (length bs) + 0) % 256) words))
      go same is ih part (suc j) low =
          let there : at + suc j ≡ at + 1 + j = omega arith in
          let next : 8 - length bs + j ≡ 8 - suc (length bs) + suc j = omega (arith, few) in
          ap (byte_at memory) there ∙ (ih j (omega arith) ∙ ap (λ n. word / 256 ^ n % 256) next)

  -- ---- what is loaded

  whole_word : (signed : Bool) (x : ℕ) → x < 2 ^ 64 → extended 64 signed x ≡ x
  whole_word true x h = whole_signed x h
  whole_word false x h = omega arith

  pointer_loaded : (at : ℕ) (signed : Bool) (pointer : FlatValue) (index : ℕ) (bs : List Byte) → IsBytes memory → HasBytes addresses memory at (Part pointer index ∷ bs) → length (Part pointer index ∷ bs) ≡ 8
      → are_parts pointer (Part pointer index ∷ bs) ≡ true → StandsFor addresses pointer (extended (8 * length (Part pointer index ∷ bs)) signed (load (length (Part pointer index ∷ bs)) memory at))
  unfolding HasBytes
  pointer_loaded at signed pointer index bs octets h eight all =
      let word = h.0.word in
      let fits = h.0.fits in
      let bytes = parts_are pointer word at (Part pointer index ∷ bs) h.0.stands (omega arith) all h in
      let each : (i : ℕ) → i < 8 → byte_at memory (at + i) ≡ word / 256 ^ i % 256 = λ i low. bytes i (omega arith) ∙ ap (λ n. word / 256 ^ n % 256) (omega (arith, eight)) in
      let whole : load 8 memory at ≡ word = load-of_bytes 8 memory at word each ∙ omega arith in
      subst (λ n. StandsFor addresses pointer (extended (8 * n) signed (load n memory at))) (sym eight)
      (subst (StandsFor addresses pointer) (sym (ap (extended 64 signed) whole ∙ whole_word signed word fits)) h.0.stands)

  pub value_loaded : (at : ℕ) (signed : Bool) (bytes : List Byte) (value : FlatValue) → value_in signed bytes ≡ Some value → IsBytes memory → HasBytes addresses memory at bytes
      → StandsFor addresses value (extended (8 * length bytes) signed (load (length bytes) memory at))
  value_loaded at signed bytes value e octets h = go (number_in bytes) refl e
    where
      movable : (pointer : FlatValue) (word : ℕ) → StandsFor addresses pointer word → if_movable pointer ≡ Some value → StandsFor addresses value word
      movable (Number x) word s e = subst (λ v. StandsFor addresses v word) (some_value (Number x) value e) s
      movable (At o offset) word s e = subst (λ v. StandsFor addresses v word) (some_value (At o offset) value e) s
      movable (Code name schema) word s e = absurd s

      checked : (pointer : FlatValue) (index : ℕ) (bs : List Byte) → HasBytes addresses memory at (Part pointer index ∷ bs) → (b : Bool) → (eqb (length (Part pointer index ∷ bs)) 8 && are_parts pointer (Part pointer index ∷ bs)) ≡ b
          → option_and_then if_movable (cond b (Some pointer) None) ≡ Some value → StandsFor addresses value (extended (8 * length (Part pointer index ∷ bs)) signed (load (length (Part pointer index ∷ bs)) memory at))
      checked pointer index bs h true q e =
          let both = and_parts (eqb (length (Part pointer index ∷ bs)) 8) (are_parts pointer (Part pointer index ∷ bs)) q in
          movable pointer _ (pointer_loaded at signed pointer index bs octets h (eqb-true (length (Part pointer index ∷ bs)) 8 both.0) both.1) e
      checked pointer index bs h false q e = cc

      pointed : (bs : List Byte) → HasBytes addresses memory at bs → option_and_then if_movable (pointer_in bs) ≡ Some value → StandsFor addresses value (extended (8 * length bs) signed (load (length bs) memory at))
      pointed [] h e = cc
      pointed (Unset ∷ bs) h e = cc
      pointed (Octet n ∷ bs) h e = cc
      pointed (Part pointer index ∷ bs) h e = checked pointer index bs h _ refl e

      go : (x : Option ℕ) → number_in bytes ≡ x → value_or x signed bytes ≡ Some value → StandsFor addresses value (extended (8 * length bytes) signed (load (length bytes) memory at))
      go (Some x) q e = subst (λ v. StandsFor addresses v (extended (8 * length bytes) signed (load (length bytes) memory at))) (some_value (Number (extended (8 * length bytes) signed x)) value e)
          (ap (extended (8 * length bytes) signed) (number_loaded at bytes x q h))
      go None q e = pointed bytes h e

  -- ---- what is stored

  pub octets_stored : (n x at : ℕ) → ((i : ℕ) → i < n → byte_at memory (at + i) ≡ x / 256 ^ i % 256) → HasBytes addresses memory at (octets n x)
  unfolding HasBytes octets
  octets_stored zero x at each = tt
  octets_stored (suc n) x at each =
      let first : at + 0 ≡ at = omega arith in
      let whole : x / 256 ^ 0 % 256 ≡ x % 256 = omega arith in (
        ap (byte_at memory) (sym first) ∙ (each 0 (omega arith) ∙ whole),
        octets_stored n (x / 256) (at + 1) (λ i low. ap (byte_at memory) (omega arith) ∙ (each (suc i) (omega arith) ∙ (ap (λ z. x / z % 256) (pow-succ' 256 i) ∙ ap (λ z. z % 256) (sym (div-div-eq-div-mul x 256 (256 ^ i)))))),
      )

  pub parts_stored : (pointer : FlatValue) (word : ℕ) → word < 2 ^ 64 → StandsFor addresses pointer word → (n at : ℕ) → n ≤ 8 → ((i : ℕ) → i < n → byte_at memory (at + i) ≡ word / 256 ^ (8 - n + i) % 256) → HasBytes addresses memory at (parts n pointer)
  unfolding HasBytes parts
  parts_stored pointer word fits stands zero at few each = tt
  parts_stored pointer word fits stands (suc n) at few each =
      let first : at ≡ at + 0 = omega arith in
      let index : 8 - suc n + 0 ≡ 8 - suc n = omega arith in (
        record { word = word; fits = fits; stands = stands; same = ap (byte_at memory) first ∙ (each 0 (omega arith) ∙ ap (λ k. word / 256 ^ k % 256) index) },
        parts_stored pointer word fits stands n (at + 1) (omega arith) (λ i low. ap (byte_at memory) (omega arith) ∙ (each (suc i) (omega arith) ∙ ap (λ k. word / 256 ^ k % 256) (omega arith))),
      )
