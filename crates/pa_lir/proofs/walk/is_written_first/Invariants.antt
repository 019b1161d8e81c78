use Rattle.pa_lir.specs.Walks.{IsWalk, left}
use Rattle.pa_lir.proofs.walk.is_written_first.Given as goal

abbrev pub invariant-places : goal.invariant-places
invariant-places l = IsWalk l.code.ops.now l.temp l.walk

abbrev pub decreases-places : goal.decreases-places
decreases-places l = left l.walk
