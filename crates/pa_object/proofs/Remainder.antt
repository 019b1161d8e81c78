-- MSUB behind SDIV: what the quotient of two integers, cut towards zero, leaves.
use Rattle.std.proofs.Common.{◌≡◌, ◌≢◌, ℕ, zero, suc, ◌+◌, ◌-◌, ◌*◌, ◌/◌, ◌%◌, ◌^◌, ◌<◌, ◌≤◌, pos, neg_ℤ, ap, subst, ◌∙◌, arith, ◌⊎◌, inl, inr}
use Rattle.std.specs.Prelude.{int_div, int_rem}
use Rattle.std.specs.Int.{w64, cast_signed, cast_unsigned}
use Rattle.std.proofs.lemmas.Bool.{ne_eqb, cases_lt}
use Rattle.std.proofs.Math.Nat.{mod-eq-sub-div-mul, div-mul-le_self, div-le_self}
use Rattle.pa_num.specs.Arithmetic.{wrap, sub64, mul64, sdiv64}
use Rattle.pa_object.proofs.Comparing.{cast_low, cast_high}

-- a number taken from 2^64, as a number of 64 bits
negated : (n : ℕ) → n ≤ 2 ^ 64 → cast_unsigned w64 (neg_ℤ (pos n)) ≡ wrap (2 ^ 64 - n)
unfolding wrap
negated zero le = omega arith
negated (suc n) le = omega arith

-- products of such numbers
wrapped_first : (u y : ℕ) → wrap (wrap u * y) ≡ wrap (u * y)
unfolding wrap
wrapped_first u y =
    let split : u ≡ 2 ^ 64 * (u / 2 ^ 64) + u % 2 ^ 64 = omega arith in
    let product = ap (λ z. z * y) split in
    omega (arith, product)

both_negated : (k b : ℕ) → k ≤ 2 ^ 64 → b ≤ 2 ^ 64 → wrap ((2 ^ 64 - k) * (2 ^ 64 - b)) ≡ wrap (k * b)
unfolding wrap
both_negated k b kh bh = go (2 ^ 64 - k) (2 ^ 64 - b) (omega arith) (omega arith)
  where
    go : (u v : ℕ) → k + u ≡ 2 ^ 64 → b + v ≡ 2 ^ 64 → u * v % 2 ^ 64 ≡ k * b % 2 ^ 64
    go u v e f =
        let first = ap (λ z. z * v) e in
        let second = ap (λ z. k * z) f in
        omega (arith, first, second)

one_negated : (k b : ℕ) → k ≤ 2 ^ 64 → k * b ≤ 2 ^ 64 → wrap ((2 ^ 64 - k) * b) ≡ wrap (2 ^ 64 - k * b)
unfolding wrap
one_negated k b kh le = go (2 ^ 64 - k) (omega arith)
  where
    go : (u : ℕ) → k + u ≡ 2 ^ 64 → u * b % 2 ^ 64 ≡ (2 ^ 64 - k * b) % 2 ^ 64
    go u e = let first = ap (λ z. z * b) e in omega (arith, first)

other_negated : (k b : ℕ) → b ≤ 2 ^ 64 → k * b ≤ 2 ^ 64 → wrap (k * (2 ^ 64 - b)) ≡ wrap (2 ^ 64 - k * b)
unfolding wrap
other_negated k b bh le = go (2 ^ 64 - b) (omega arith)
  where
    go : (v : ℕ) → b + v ≡ 2 ^ 64 → k * v % 2 ^ 64 ≡ (2 ^ 64 - k * b) % 2 ^ 64
    go v e = let first = ap (λ z. k * z) e in omega (arith, first)

product_both : (k b : ℕ) → k ≤ 2 ^ 64 → b ≤ 2 ^ 64 → mul64 (cast_unsigned w64 (neg_ℤ (pos k))) (2 ^ 64 - b) ≡ mul64 k b
unfolding mul64
product_both k b kh bh = ap (λ z. wrap (z * (2 ^ 64 - b))) (negated k kh) ∙ wrapped_first (2 ^ 64 - k) (2 ^ 64 - b) ∙ both_negated k b kh bh

product_first : (k b : ℕ) → k ≤ 2 ^ 64 → k * b ≤ 2 ^ 64 → mul64 (cast_unsigned w64 (neg_ℤ (pos k))) b ≡ wrap (2 ^ 64 - k * b)
unfolding mul64
product_first k b kh le = ap (λ z. wrap (z * b)) (negated k kh) ∙ wrapped_first (2 ^ 64 - k) b ∙ one_negated k b kh le

product_second : (k b : ℕ) → b ≤ 2 ^ 64 → k * b ≤ 2 ^ 64 → mul64 k (2 ^ 64 - b) ≡ wrap (2 ^ 64 - k * b)
unfolding mul64
product_second k b bh le = other_negated k b bh le

-- ---- by the signs, over the sizes of the integers

module _ (a b : ℕ) (ah : a ≤ 2 ^ 63) (bh : b ≤ 2 ^ 63) where
  plus_plus : sub64 a (mul64 (a / b) b) ≡ a % b
  unfolding sub64 mul64 wrap
  plus_plus = let low = div-mul-le_self a b in let left = mod-eq-sub-div-mul a b in omega arith

  plus_minus : sub64 a (mul64 (cast_unsigned w64 (neg_ℤ (pos (a / b)))) (2 ^ 64 - b)) ≡ a % b
  plus_minus = let few = div-le_self a b in ap (sub64 a) (product_both (a / b) b (omega arith) (omega arith)) ∙ plus_plus

  left_negated : sub64 (2 ^ 64 - a) (wrap (2 ^ 64 - a / b * b)) ≡ cast_unsigned w64 (neg_ℤ (pos (a % b)))
  unfolding sub64 wrap
  left_negated =
      let low = div-mul-le_self a b in
      let left = mod-eq-sub-div-mul a b in
      let turned = negated (a % b) (omega arith) in
      omega (arith, turned)

  minus_plus : sub64 (2 ^ 64 - a) (mul64 (cast_unsigned w64 (neg_ℤ (pos (a / b)))) b) ≡ cast_unsigned w64 (neg_ℤ (pos (a % b)))
  minus_plus =
      let few = div-le_self a b in
      let low = div-mul-le_self a b in
      ap (sub64 (2 ^ 64 - a)) (product_first (a / b) b (omega arith) (omega arith)) ∙ left_negated

  minus_minus : sub64 (2 ^ 64 - a) (mul64 (a / b) (2 ^ 64 - b)) ≡ cast_unsigned w64 (neg_ℤ (pos (a % b)))
  minus_minus =
      let low = div-mul-le_self a b in
      ap (sub64 (2 ^ 64 - a)) (product_second (a / b) b (omega arith) (omega arith)) ∙ left_negated

-- ---- of numbers of 64 bits

pub remainder_signed : (x y : ℕ) → y ≢ 0 → x < 2 ^ 64 → y < 2 ^ 64 → sub64 x (mul64 (sdiv64 x y) y) ≡ cast_unsigned w64 (int_rem (cast_signed w64 x) (cast_signed w64 y))
unfolding sdiv64
remainder_signed x y some xh yh = rw (ne_eqb y 0 some) (go (cases_lt x (2 ^ 63)) (cases_lt y (2 ^ 63)))
  where
    go : ((x < 2 ^ 63) ⊎ (2 ^ 63 ≤ x)) → ((y < 2 ^ 63) ⊎ (2 ^ 63 ≤ y))
        → sub64 x (mul64 (cast_unsigned w64 (int_div (cast_signed w64 x) (cast_signed w64 y))) y) ≡ cast_unsigned w64 (int_rem (cast_signed w64 x) (cast_signed w64 y))
    go (inl a) (inl b) = rw (cast_low x a, cast_low y b) (plus_plus x y (omega arith) (omega arith))
    go (inl a) (inr b) =
        let c = suc (2 ^ 64 - suc y) in
        let whole : 2 ^ 64 - c ≡ y = omega arith in
        rw (cast_low x a, cast_high y b) (subst (λ z. sub64 x (mul64 (cast_unsigned w64 (neg_ℤ (pos (x / c)))) z) ≡ x % c) whole (plus_minus x c (omega arith) (omega arith)))
    go (inr a) (inl b) =
        let c = suc (2 ^ 64 - suc x) in
        let whole : 2 ^ 64 - c ≡ x = omega arith in
        rw (cast_high x a, cast_low y b) (subst (λ z. sub64 z (mul64 (cast_unsigned w64 (neg_ℤ (pos (c / y)))) y) ≡ cast_unsigned w64 (neg_ℤ (pos (c % y)))) whole (minus_plus c y (omega arith) (omega arith)))
    go (inr a) (inr b) =
        let c = suc (2 ^ 64 - suc x) in
        let d = suc (2 ^ 64 - suc y) in
        let first : 2 ^ 64 - c ≡ x = omega arith in
        let second : 2 ^ 64 - d ≡ y = omega arith in
        rw (cast_high x a, cast_high y b)
        (subst (λ z. sub64 z (mul64 (c / d) y) ≡ cast_unsigned w64 (neg_ℤ (pos (c % d)))) first
        (subst (λ z. sub64 (2 ^ 64 - c) (mul64 (c / d) z) ≡ cast_unsigned w64 (neg_ℤ (pos (c % d)))) second (minus_minus c d (omega arith) (omega arith))))
