-- The mask keeps the lowest bits.
use Rattle.std.proofs.Common.{bit_and, ap, ◌∙◌}
use Rattle.std.specs.Int.{bit_at}
use Rattle.std.proofs.lemmas.Nat.{and_mask}
use Rattle.pa_num.proofs.Bits.{ones_below, bit_at_low, bit_at_low_above}
use Rattle.pa_num.proofs.bit_fields.trunc.Goals as goal

pub returns-clause-value : goal.returns-clause-value
returns-clause-value c = ap (bit_and c.args.value) (ones_below c.args.bits c.requires.within) ∙ and_mask c.args.value c.args.bits

pub returns-clause-low : goal.returns-clause-low
returns-clause-low c k h = ap (λ z. bit_at z k) (returns-clause-value c) ∙ bit_at_low c.args.value c.args.bits k h

pub returns-clause-high : goal.returns-clause-high
returns-clause-high c k h = ap (λ z. bit_at z k) (returns-clause-value c) ∙ bit_at_low_above c.args.value c.args.bits k h
