use Rattle.std.proofs.Common.{◌≡◌, ◌++◌, length, map}
use Rattle.pa_link.specs.Numbering.{numbered_cell}
use Rattle.pa_link.proofs.parts.numbered_cells.Given as goal

abbrev pub invariant-cells : goal.invariant-cells
invariant-cells l = l.made ++ map (numbered_cell l.n) l.rest ≡ map (numbered_cell l.n) l.cells

abbrev pub decreases-cells : goal.decreases-cells
decreases-cells l = length l.rest
