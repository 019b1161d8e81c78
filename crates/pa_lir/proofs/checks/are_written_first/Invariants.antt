use Rattle.std.proofs.Common.{◌<◌, ℕ}
use Rattle.pa_lir.specs.Flow.{IsWrittenFirst}
use Rattle.pa_lir.proofs.checks.are_written_first.Given as goal

abbrev pub invariant-loop-temp : goal.invariant-loop-temp
invariant-loop-temp l = (t : ℕ) → t < l.temp → IsWrittenFirst l.code.ops.now t
