use Rattle.std.proofs.Common.{◌≡◌, take}
use Rattle.pa_asmline.specs.Shapes.{shown_operands}
use Rattle.pa_asm.specs.Reading.{kept}
use Rattle.pa_asm.specs.Settled.{all_settled}
use Rattle.pa_asm.proofs.settling.all_settled.Given as goal

abbrev pub invariant-loop-operand : goal.invariant-loop-operand
invariant-loop-operand l = l.values.items ≡ all_settled (kept l.labels) l.at (shown_operands (take l.operand-index l.operands))
