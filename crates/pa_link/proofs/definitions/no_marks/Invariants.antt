use Rattle.std.proofs.Common.{◌≡◌, ◌≤◌, ◌-◌, false, replicate}
use Rattle.pa_link.proofs.definitions.no_marks.Given as goal

abbrev pub invariant-marks : goal.invariant-marks
invariant-marks l = record { within : l.index ≤ l.count; made : l.made ≡ replicate l.index false }

abbrev pub decreases-marks : goal.decreases-marks
decreases-marks l = l.count - l.index
