use Rattle.std.proofs.Common.{◌≡◌}
use Rattle.pa_check.specs.Text.{text_of}
use Rattle.pa_check.specs.Passing.{start_in}
use Rattle.pa_check.specs.Windowed.{flaw_from}
use Rattle.pa_check.proofs.pass.functions_flaw.Given as goal

abbrev pub invariant-loop-i : goal.invariant-loop-i
invariant-loop-i l = flaw_from (text_of l.image) (start_in l.image 0) ≡ flaw_from (text_of l.image) (start_in l.image l.i)
