use Rattle.std.proofs.Common.{◌≡◌, ℕ, suc, zero, ◌/◌, ◌^◌, ◌<◌, ℤ, pos, negsuc, neg_ℤ, ap, ◌∙◌, arith, lit<, sym}
use Rattle.std.proofs.lemmas.Grind.{common_steps}
use Rattle.std.proofs.Math.Nat.{div-le_self}
use Rattle.std.proofs.lemmas.Int.{of_z-to_z, to_z-of_z}
use Rattle.std.specs.Int.Signed.{mag}
use Rattle.std.specs.Int.{w64, cast_signed, cast_unsigned, int_wrapping_div}
use Rattle.std.specs.Prelude.{int_div, FitsSigned}
use Rattle.pa_num.specs.Arithmetic.{sdiv64}
use Rattle.pa_alu.proofs.arithmetic.sdiv.Goals as goal

negated_fits : (n : ℕ) → cast_unsigned w64 (neg_ℤ (pos n)) < 2 ^ 64
negated_fits zero = lit< tt
negated_fits (suc n) = omega arith

quotient_fits : (x y : ℤ) → mag x < 2 ^ 63 → mag y < 2 ^ 63 → cast_unsigned w64 (int_div x y) < 2 ^ 64
quotient_fits (pos a) (pos b) p q = omega (arith, div-le_self a b)
quotient_fits (pos a) (negsuc b) p q = negated_fits (a / suc b)
quotient_fits (negsuc a) (pos b) p q = negated_fits (suc a / b)
quotient_fits (negsuc a) (negsuc b) p q = omega (arith, div-le_self (suc a) (suc b))

pub returns-then-y-eq0 : goal.returns-then-y-eq0
unfolding sdiv64
returns-then-y-eq0 c = grind (arith, common_steps)

-- what the code's three calls give is the quotient's own number
reread : (x y q : ℤ) → mag x < 2 ^ 63 → mag y < 2 ^ 63 → mag q < 2 ^ 63 → q ≡ int_wrapping_div w64 (cast_signed w64 (cast_unsigned w64 x)) (cast_signed w64 (cast_unsigned w64 y)) → cast_unsigned w64 (cast_signed w64 (cast_unsigned w64 q)) ≡ cast_unsigned w64 (int_div x y)
reread x y q x_fits y_fits q_fits e =
    let same_x = to_z-of_z w64 x (record { sfits = x_fits }) in
    let same_y = to_z-of_z w64 y (record { sfits = y_fits }) in
    let same_q = to_z-of_z w64 q (record { sfits = q_fits }) in
    let whole = of_z-to_z w64 (cast_unsigned w64 (int_div x y)) (quotient_fits x y x_fits y_fits) in
    ap (cast_unsigned w64) same_q
    ∙ ap (cast_unsigned w64) e
    ∙ ap (λ z. cast_unsigned w64 (int_wrapping_div w64 z (cast_signed w64 (cast_unsigned w64 y)))) same_x
    ∙ ap (λ z. cast_unsigned w64 (int_wrapping_div w64 x z)) same_y
    ∙ whole

pub returns : goal.returns
unfolding sdiv64
returns c =
    let x = c.cast_signed.result in
    let y = c.cast_signed-2.result in
    let e : cast_unsigned w64 (cast_signed w64 (cast_unsigned w64 c.wrapping_div.result)) ≡ cast_unsigned w64 (int_div x y) = reread x y c.wrapping_div.result c.cast_signed.type_inv c.cast_signed-2.type_inv c.wrapping_div.type_inv c.wrapping_div.ensures in
    grind (arith, common_steps)
