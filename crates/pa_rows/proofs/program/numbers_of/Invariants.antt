use Rattle.std.proofs.Common.{length}
use Rattle.pa_rows.proofs.program.numbers_of.Given as goal

abbrev pub decreases-loop-bytes : goal.decreases-loop-bytes
decreases-loop-bytes l = length l.rest
