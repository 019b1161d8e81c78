-- How large the numbers of the integer types are.
use Rattle.std.proofs.Common.{◌≡◌, ℕ, zero, suc, ◌*◌, ◌/◌, ◌%◌, ◌^◌, ◌-◌, ◌<◌, ◌≤◌, ℤ, pos, negsuc, neg_ℤ, ◌*ℤ◌, Bool, true, false, IsTrue, FitsSigned, of_z, refl, arith}
use Rattle.std.specs.Int.{w128}
use Rattle.std.proofs.lemmas.Bool.Decides.{nat_tests}
use Rattle.std.proofs.Math.Pow.{pow_mono}
use Rattle.std.proofs.Math.Nat.{div-le_self, mod-eq_of_lt}
use Rattle.std.proofs.lemmas.Nat.{mul-le, or_lt, xor_lt}
use Rattle.std.specs.Int.Bits.{and_lt}
use Rattle.std.proofs.lemmas.Int.{fits_signed_mul, fits_signed_from_abs}
use Rattle.std.specs.Int.RustNames.{int_div, int_lt, unsigned_abs}
use Rattle.pa_integer.specs.Integers.{is_width, is_in_range, settled, quotient, shifted_left}

width_bound : (bits : ℕ) → IsTrue (is_width bits) → bits ≤ 64
width_bound bits w = grind (arith, nat_tests)

pub count_bound : (bits : ℕ) → IsTrue (is_width bits) → 2 ^ bits ≤ 2 ^ 64
count_bound bits w = pow_mono (width_bound bits w)

pub half_bound : (bits : ℕ) → IsTrue (is_width bits) → 2 ^ (bits - 1) ≤ 2 ^ 63
half_bound bits w = let b : bits ≤ 64 = width_bound bits w in pow_mono {j = 63} (omega arith)

pub signed_bound : (bits : ℕ) (z : ℤ) → IsTrue (is_width bits) → IsTrue (is_in_range bits true z) → unsigned_abs z ≤ 2 ^ 63
signed_bound bits (pos n) w h = grind (arith, nat_tests, half_bound bits w)
signed_bound bits (negsuc n) w h = grind (arith, nat_tests, half_bound bits w)

pub number_bound : (bits : ℕ) (signed : Bool) (z : ℤ) → IsTrue (is_width bits) → IsTrue (is_in_range bits signed z) → unsigned_abs z < 2 ^ 64
number_bound bits true z w h = omega (arith, signed_bound bits z w h)
number_bound bits false (pos n) w h = grind (arith, nat_tests, count_bound bits w)
number_bound bits false (negsuc n) w h = cc

pub signed_product_fits : (bits : ℕ) (a b : ℤ) → IsTrue (is_width bits) → IsTrue (is_in_range bits true a) → IsTrue (is_in_range bits true b) → FitsSigned w128 (a *ℤ b)
signed_product_fits bits a b w h k = fits_signed_mul w128 a b (2 ^ 63) (2 ^ 63) (signed_bound bits a w h) (signed_bound bits b w k) (omega arith)

abs_neg : (n : ℕ) → unsigned_abs (neg_ℤ (pos n)) ≡ n
abs_neg zero = refl
abs_neg (suc n) = refl

quotient_abs : (a d : ℤ) → unsigned_abs (int_div a d) ≤ unsigned_abs a
quotient_abs (pos a) (pos b) = div-le_self a b
quotient_abs (pos a) (negsuc b) = omega (arith, abs_neg (a / suc b), div-le_self a (suc b))
quotient_abs (negsuc a) (pos b) = omega (arith, abs_neg (suc a / b), div-le_self (suc a) b)
quotient_abs (negsuc a) (negsuc b) = div-le_self (suc a) (suc b)

pub quotient_fits : (bits : ℕ) (signed : Bool) (a d : ℤ) → IsTrue (is_width bits) → IsTrue (is_in_range bits signed a) → FitsSigned w128 (int_div a d)
quotient_fits bits signed a d w h =
    fits_signed_from_abs w128 (int_div a d) (omega (arith, quotient_abs a d, number_bound bits signed a w h))

pub shift_bound : (bits : ℕ) (signed : Bool) (a : ℤ) (by : ℕ) → IsTrue (is_width bits) → IsTrue (is_in_range bits signed a) → by < bits → unsigned_abs a * 2 ^ by < 2 ^ 127
shift_bound bits signed a by w h k =
    let small : unsigned_abs a < 2 ^ 64 = number_bound bits signed a w h in
    let below : bits ≤ 64 = width_bound bits w in
    let power : 2 ^ by ≤ 2 ^ 63 = pow_mono {j = 63} (omega arith) in
    let product : unsigned_abs a * 2 ^ by ≤ (2 ^ 64 - 1) * 2 ^ 63 = mul-le (unsigned_abs a) (2 ^ by) (2 ^ 64 - 1) (2 ^ 63) (omega arith) power in
    omega arith

pub shift_is : (bits : ℕ) (signed : Bool) (a : ℤ) (by : ℕ) → IsTrue (is_width bits) → IsTrue (is_in_range bits signed a) → by < bits → unsigned_abs a * 2 ^ by % 2 ^ 128 ≡ unsigned_abs a * 2 ^ by
shift_is bits signed a by w h k = mod-eq_of_lt (omega (arith, shift_bound bits signed a by w h k))

pub shift_fits : (bits : ℕ) (signed : Bool) (a : ℤ) (by : ℕ) → IsTrue (is_width bits) → IsTrue (is_in_range bits signed a) → by < bits → FitsSigned w128 (pos (unsigned_abs a * 2 ^ by))
shift_fits bits signed a by w h k = record { sfits = shift_bound bits signed a by w h k }

pub shifted_is : (bits : ℕ) (signed : Bool) (a : ℤ) (by : ℕ) → int_lt a (pos 0) ≡ false → settled bits signed (pos (unsigned_abs a * 2 ^ by)) ≡ shifted_left bits signed a by
shifted_is bits signed (pos n) by h = refl
shifted_is bits signed (negsuc n) by h = cc

pub quotient_is : (bits : ℕ) (signed : Bool) (a d : ℤ) → (of_z w128 d ≡ 0 → ⊥) → settled bits signed (int_div a d) ≡ quotient bits signed a d
quotient_is bits signed a (pos zero) h = absurd (h refl)
quotient_is bits signed a (pos (suc n)) h = refl
quotient_is bits signed a (negsuc n) h = refl

-- bits of words that fit
pub ruleset word_bounds = (and_lt, or_lt, xor_lt)
