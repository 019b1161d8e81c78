-- The word has 32 bits, and is read as the instruction.
use Rattle.std.proofs.Common.{◌∙◌, ap, arith}
use Rattle.pa_a64.specs.Decoding.{decoded}
use Rattle.pa_a64.proofs.RoundTrip.{decoded-encoded, encoded-lt}
use Rattle.pa_a64.proofs.encoding.encode.Goals as goal

pub overflow_cast-result : goal.overflow_cast-result
overflow_cast-result c = omega (arith, encoded-lt c.args.instr c.requires, c.with_fields.ensures)

pub returns-clause-back : goal.returns-clause-back
returns-clause-back c = ap decoded c.with_fields.ensures ∙ decoded-encoded c.args.instr c.requires
