-- The low bits, and the highest of them in each bit above.
use Rattle.std.proofs.Common.{◌≡◌, ◌+◌, ◌/◌, ◌%◌, ◌^◌, ◌-◌, ◌<◌, ◌≤◌, cond, eq-eqb, ap, sym, ◌∙◌, arith}
use Rattle.std.specs.Int.{bit_at}
use Rattle.std.proofs.lemmas.Nat.{mod_below, pow_pos}
use Rattle.std.proofs.lemmas.Nat.Bits.{shr_and_one}
use Rattle.pa_num.proofs.Bits.{ones_below, within_64, bit_at-signs_below, bit_at-signs_above}
use Rattle.pa_num.proofs.bit_fields.sext.Goals as goal
use Rattle.pa_num.proofs.bit_fields.sext.Goals.{Then-value-bits-eq1}

below : (c : Then-value-bits-eq1) → c.trunc-low.result < 2 ^ c.args.bits
below c =
    let f = mod_below c.args.value (2 ^ c.args.bits) (pow_pos c.args.bits) in
    omega (arith, c.trunc-low.ensures.value)

signs : (c : Then-value-bits-eq1) → c.trunc-low.result + (18446744073709551615 - 18446744073709551615 / 2 ^ (64 - c.args.bits)) ≡ c.trunc-low.result + (2 ^ 64 - 2 ^ c.args.bits)
signs c =
    let some : 1 ≤ 2 ^ c.args.bits = pow_pos c.args.bits in
    omega (arith, ones_below c.args.bits c.requires.within, within_64 c.args.bits c.requires.within)

is_one : (c : Then-value-bits-eq1) → bit_at c.args.value (c.args.bits - 1) ≡ 1
is_one c = sym (shr_and_one c.args.value (c.args.bits - 1)) ∙ c.if-value-bits-eq1.true

pub overflow_add-result : goal.overflow_add-result
overflow_add-result c =
    let most = within_64 c.args.bits c.requires.within in
    let f = below c in
    omega (arith, signs c)

pub returns-then-value-bits-eq1-clause-value : goal.returns-then-value-bits-eq1-clause-value
returns-then-value-bits-eq1-clause-value c =
    signs c
    ∙ (ap (λ z. z + (2 ^ 64 - 2 ^ c.args.bits)) c.trunc-low.ensures.value
    ∙ ap (λ z. cond z (c.args.value % 2 ^ c.args.bits + (2 ^ 64 - 2 ^ c.args.bits)) (c.args.value % 2 ^ c.args.bits)) (sym (eq-eqb _ _ (is_one c))))

pub returns-then-value-bits-eq1-clause-low : goal.returns-then-value-bits-eq1-clause-low
returns-then-value-bits-eq1-clause-low c k h =
    ap (λ z. bit_at z k) (signs c)
    ∙ (bit_at-signs_below c.trunc-low.result c.args.bits k c.requires.within h ∙ c.trunc-low.ensures.low k h)

pub returns-then-value-bits-eq1-clause-high : goal.returns-then-value-bits-eq1-clause-high
returns-then-value-bits-eq1-clause-high c k h l =
    ap (λ z. bit_at z k) (signs c)
    ∙ (bit_at-signs_above c.trunc-low.result c.args.bits k c.requires.within (below c) h l ∙ sym (is_one c))
