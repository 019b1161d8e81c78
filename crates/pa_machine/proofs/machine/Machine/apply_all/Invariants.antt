use Rattle.std.proofs.Common.{length}
use Rattle.pa_machine.proofs.Walks.{Walked}
use Rattle.pa_machine.proofs.machine.Machine.apply_all.Given as goal

abbrev pub invariant-loop-item : goal.invariant-loop-item
invariant-loop-item g l = Walked l.fn.number l.fn.items l.rest l.fn.self l.self

abbrev pub decreases-loop-item : goal.decreases-loop-item
decreases-loop-item g l = length l.rest
