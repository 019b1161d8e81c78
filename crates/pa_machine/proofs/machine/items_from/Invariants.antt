use Rattle.std.proofs.Common.{length}
use Rattle.pa_machine.proofs.Walks.{Skipped}
use Rattle.pa_machine.proofs.machine.items_from.Given as goal

abbrev pub invariant-loop-item : goal.invariant-loop-item
invariant-loop-item l = Skipped l.number l.fn.items l.rest

abbrev pub decreases-loop-item : goal.decreases-loop-item
decreases-loop-item l = length l.rest
