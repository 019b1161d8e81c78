use Rattle.std.proofs.Common.{◌≡◌, ◌+◌, length}
use Rattle.pa_typed.specs.Counts.{locals_bytes}
use Rattle.pa_typed.proofs.counts.local_bytes.Given as goal

abbrev pub invariant-locals : goal.invariant-locals
invariant-locals l = l.total + locals_bytes l.rest ≡ locals_bytes l.function.locals

abbrev pub decreases-locals : goal.decreases-locals
decreases-locals l = length l.rest
