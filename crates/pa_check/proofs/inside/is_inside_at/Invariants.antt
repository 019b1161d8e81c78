use Rattle.std.proofs.Common.{◌≤◌, IfSome}
use Rattle.pa_check.specs.Text.{text_of}
use Rattle.pa_check.specs.Passing.{IsPassed}
use Rattle.pa_check.proofs.inside.is_inside_at.Given as goal

abbrev pub invariant-loop-before : goal.invariant-loop-before
invariant-loop-before l = record {
  passed : IsPassed (text_of l.image) l.before l.function.first l.current;
  short : IfSome l.current (λ w. w.behind ≤ l.before);
}
