use Rattle.std.proofs.Common.{◌≤◌}
use Rattle.std.specs.Prelude.{All, IfSome}
use Rattle.pa_check.specs.Text.{text_of}
use Rattle.pa_check.specs.Passing.{IsPassed, IsSettled}
use Rattle.pa_check.proofs.inside.keep_places.Given as goal

abbrev pub invariant-loop-k : goal.invariant-loop-k
invariant-loop-k l = record {
  passed : IsPassed (text_of l.image) l.k l.function.first l.current;
  short : IfSome l.current (λ w. w.behind ≤ l.k);
  kept : All (IsSettled (text_of l.image) l.function.first) l.places.items;
}
