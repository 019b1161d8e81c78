use Rattle.std.proofs.Common.{◌≡◌, ◌+◌, ◌<◌, ◌^◌, length}
use Rattle.pa_typed.specs.Counts.{locals_bytes}
use Rattle.pa_link.proofs.limits.local_bytes.Given as goal

abbrev pub invariant-locals : goal.invariant-locals
invariant-locals l = record {
  same : l.total + locals_bytes l.rest ≡ locals_bytes l.locals;
  fits : l.total < 2 ^ 64;
}

abbrev pub decreases-locals : goal.decreases-locals
decreases-locals l = length l.rest
