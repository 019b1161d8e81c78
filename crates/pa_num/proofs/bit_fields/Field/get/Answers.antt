-- A bit of the moved word is the bit that many places up.
use Rattle.std.proofs.Common.{◌∙◌}
use Rattle.pa_num.proofs.Bits.{bit_at_shifted}
use Rattle.pa_num.proofs.bit_fields.Field.get.Goals as goal

pub returns-clause-bits : goal.returns-clause-bits
returns-clause-bits g c k h = c.trunc.ensures.low k h ∙ bit_at_shifted c.args.word g.row.LO k
