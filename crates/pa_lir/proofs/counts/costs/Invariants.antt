use Rattle.std.proofs.Common.{◌≡◌, ◌+◌, length}
use Rattle.std.specs.List.{sum_by}
use Rattle.pa_lir.specs.Parts.{cost}
use Rattle.pa_lir.proofs.counts.costs.Given as goal

abbrev pub invariant-ops : goal.invariant-ops
invariant-ops l = l.total + sum_by cost l.rest ≡ sum_by cost l.function.ops

abbrev pub decreases-ops : goal.decreases-ops
decreases-ops l = length l.rest
