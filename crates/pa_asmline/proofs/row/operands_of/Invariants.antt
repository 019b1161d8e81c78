use Rattle.std.proofs.Common.{◌≡◌, ◌+◌, ◌≤◌, length, codes}
use Rattle.pa_asmline.specs.Reading.{operands, onto}
use Rattle.pa_asmline.specs.Shapes.{shown_operands}
use Rattle.pa_asmline.proofs.row.operands_of.Given as goal

abbrev pub invariant-kinds : goal.invariant-kinds
invariant-kinds l = record {
  same : onto (shown_operands l.read.items) (operands l.separator l.ahead l.rest) ≡ operands (codes " ") l.kinds l.text;
  room : length l.read.items + length l.ahead ≤ 4;
}

abbrev pub decreases-kinds : goal.decreases-kinds
decreases-kinds l = length l.ahead
