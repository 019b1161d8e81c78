use Rattle.std.proofs.Common.{◌≡◌, drop}
use Rattle.std.specs.Prelude.{codes}
use Rattle.pa_image.specs.Places.{function_at}
use Rattle.pa_check.proofs.marks.main_of.Given as goal

abbrev pub invariant-loop-mark : goal.invariant-loop-mark
invariant-loop-mark l = function_at 0 l.marks (codes "_main") ≡ function_at 0 (drop l.mark-index l.marks) (codes "_main")
