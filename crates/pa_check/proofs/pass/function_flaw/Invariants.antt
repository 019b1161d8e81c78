use Rattle.std.proofs.Common.{◌≡◌, ◌≤◌, IfSome}
use Rattle.pa_check.specs.Text.{text_of}
use Rattle.pa_check.specs.Passing.{IsPassed}
use Rattle.pa_check.specs.Windowed.{flaw_from}
use Rattle.pa_check.proofs.pass.function_flaw.Given as goal

abbrev pub invariant-loop-k : goal.invariant-loop-k
invariant-loop-k l = record {
  passed : IsPassed (text_of l.image) l.k l.function.first l.current;
  short : IfSome l.current (λ w. w.behind ≤ l.k);
  seen : flaw_from (text_of l.image) l.function.first ≡ flaw_from (text_of l.image) l.k;
}
