use Rattle.std.proofs.Common.{◌≡◌, ◌++◌, take}
use Rattle.pa_asmline.specs.Shapes.{shown_operands}
use Rattle.pa_asm.specs.Reading.{kept}
use Rattle.pa_asm.specs.Settled.{all_refer}
use Rattle.pa_asm.proofs.settling.refer_all.Given as goal

abbrev pub invariant-loop-operand : goal.invariant-loop-operand
invariant-loop-operand l = l.refs ≡ l.fn.refs ++ all_refer (kept l.labels) l.at (shown_operands (take l.operand-index l.operands))
