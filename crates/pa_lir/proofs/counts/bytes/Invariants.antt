use Rattle.std.proofs.Common.{◌≡◌, ◌+◌, length}
use Rattle.std.specs.List.{sum_by}
use Rattle.pa_lir.specs.Parts.{rounded}
use Rattle.pa_lir.proofs.counts.bytes.Given as goal

abbrev pub invariant-locals : goal.invariant-locals
invariant-locals l = l.total + sum_by rounded l.rest ≡ sum_by rounded l.function.locals

abbrev pub decreases-locals : goal.decreases-locals
decreases-locals l = length l.rest
