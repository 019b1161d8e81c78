use Rattle.std.proofs.Common.{◌≡◌, ◌≤◌, ◌^◌, length, max}
use Rattle.pa_lir.specs.Parts.{above_all}
use Rattle.pa_lir.proofs.counts.above_all.Given as goal

abbrev pub invariant-ops : goal.invariant-ops
invariant-ops l = record {
  same : max l.largest (above_all l.rest) ≡ above_all l.fn.ops;
  bound : l.largest ≤ 2 ^ 32;
}

abbrev pub decreases-ops : goal.decreases-ops
decreases-ops l = length l.rest
