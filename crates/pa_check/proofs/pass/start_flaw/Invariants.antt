use Rattle.std.proofs.Common.{◌≡◌, ◌≤◌}
use Rattle.pa_check.specs.Text.{text_of}
use Rattle.pa_check.specs.Windowed.{flaw_from}
use Rattle.pa_check.proofs.pass.start_flaw.Given as goal

abbrev pub invariant-loop-k : goal.invariant-loop-k
invariant-loop-k l = record {
  seen : flaw_from (text_of l.image) 0 ≡ flaw_from (text_of l.image) l.k;
  behind : l.k ≤ l.first;
}
