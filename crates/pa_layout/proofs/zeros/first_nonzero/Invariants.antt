use Rattle.std.proofs.Common.{◌≡◌, ◌-◌, ◌≤◌}
use Rattle.pa_layout.specs.Fields.{nonzero_in}
use Rattle.pa_layout.proofs.zeros.first_nonzero.Given as goal

abbrev pub invariant-loop-at : goal.invariant-loop-at
invariant-loop-at l = (l.at ≤ l.high) × (nonzero_in l.at (l.high - l.at) l.bytes ≡ nonzero_in l.low (l.high - l.low) l.bytes)

abbrev pub decreases-loop-at : goal.decreases-loop-at
decreases-loop-at l = l.high - l.at

abbrev pub invariant-loop-at-2 : goal.invariant-loop-at-2
invariant-loop-at-2 l = (l.at ≤ l.high) × (nonzero_in l.at (l.high - l.at) l.bytes ≡ nonzero_in l.low (l.high - l.low) l.bytes)

abbrev pub decreases-loop-at-2 : goal.decreases-loop-at-2
decreases-loop-at-2 l = l.high - l.at
