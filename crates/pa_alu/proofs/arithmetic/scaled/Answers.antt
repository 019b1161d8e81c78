use Rattle.std.proofs.Common.{◌≡◌, ℕ, zero, suc, ◌+◌, ◌-◌, ◌*◌, ◌%◌, ◌^◌, ◌≤◌, ◌<◌, arith, ℤ, pos, negsuc, ap, sym, ◌∙◌, refl}
use Rattle.std.specs.Int.Signed.{mag}
use Rattle.std.specs.Int.{w64, w32, cast_signed, cast_unsigned}
use Rattle.std.specs.Prelude.{FitsSigned}
use Rattle.std.proofs.lemmas.Int.{to_z-of_z}
use Rattle.std.proofs.Math.Nat.{mul-le-mul}
use Rattle.pa_num.specs.Arithmetic.{scaled64, sub64, wrap}
use Rattle.pa_alu.proofs.arithmetic.scaled.Goals as goal

-- d is what s lacks to w
product_of_rest : (m d s w : ℕ) → d + s ≡ w → suc m * s ≤ w → suc m * d ≡ m * w + (w - suc m * s)
product_of_rest m d s w e h = let whole = ap (λ x. suc m * x) e in omega arith

-- a number times a negative one of 32 bits, taken of its 64 bits
scaled_negative : (n k : ℕ) → n ≤ 4096 → suc k ≤ 2 ^ 31 → n * (2 ^ 64 - suc k) % 2 ^ 64 ≡ (0 + (2 ^ 64 - n * suc k)) % 2 ^ 64
scaled_negative zero k p q = omega arith
scaled_negative (suc m) k p q =
    let fits : suc m * suc k ≤ 4096 * 2 ^ 31 = mul-le-mul p q in
    let whole : 2 ^ 64 - suc k + suc k ≡ 2 ^ 64 = omega arith in
    let e = product_of_rest m (2 ^ 64 - suc k) (suc k) (2 ^ 64) whole (omega arith) in
    ap (λ x. x % 2 ^ 64) e ∙ omega arith

scaled_is : (n : ℕ) (z : ℤ) → n ≤ 4096 → mag z < 2 ^ 31 → n * cast_unsigned w64 z % 2 ^ 64 ≡ scaled64 n z
unfolding scaled64 sub64 wrap
scaled_is n (pos k) p q = refl
scaled_is n (negsuc k) p q = scaled_negative n k p q

-- the code's casts leave the number
recast : (z : ℤ) → mag z < 2 ^ 31 → cast_unsigned w64 (cast_signed w64 (cast_unsigned w64 (cast_signed w32 (cast_unsigned w32 z)))) ≡ cast_unsigned w64 z
recast z h =
    let wide : FitsSigned w64 z = record { sfits = omega arith } in
    let narrow : FitsSigned w32 z = record { sfits = h } in
    ap (λ y. cast_unsigned w64 (cast_signed w64 (cast_unsigned w64 y))) (to_z-of_z w32 z narrow) ∙ ap (cast_unsigned w64) (to_z-of_z w64 z wide)

pub returns : goal.returns
returns c =
    let z = c.args.value in
    let e : c.cast_unsigned.result ≡ cast_unsigned w64 z = rw c.from.ensures at c.cast_unsigned.ensures ∙ recast z c.ranges.value.sfits in
    ap (λ x. c.args.scale * x % 2 ^ 64) e ∙ scaled_is c.args.scale z c.requires c.ranges.value.sfits
