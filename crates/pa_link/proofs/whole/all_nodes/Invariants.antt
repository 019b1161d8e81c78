use Rattle.std.proofs.Common.{◌≡◌, ◌+◌, ◌<◌, ◌^◌, length}
use Rattle.pa_link.specs.Whole.{all_nodes}
use Rattle.pa_link.proofs.whole.all_nodes.Given as goal

abbrev pub invariant-units : goal.invariant-units
invariant-units l = record {
  same : l.total + all_nodes l.rest ≡ all_nodes l.units;
  fits : l.total < 2 ^ 64;
}

abbrev pub decreases-units : goal.decreases-units
decreases-units l = length l.rest
