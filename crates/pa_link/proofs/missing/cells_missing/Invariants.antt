use Rattle.std.proofs.Common.{◌≡◌, length, map}
use Rattle.pa_link.specs.Missing.{earlier, earliest, cell_missing}
use Rattle.pa_link.proofs.missing.cells_missing.Given as goal

abbrev pub invariant-cells : goal.invariant-cells
invariant-cells l = earlier l.least (earliest (map (cell_missing l.defined) l.rest)) ≡ earliest (map (cell_missing l.defined) l.cells)

abbrev pub decreases-cells : goal.decreases-cells
decreases-cells l = length l.rest
