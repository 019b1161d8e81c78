use Rattle.std.proofs.Common.{◌≡◌, ◌≤◌, ◌<◌, ◌+◌, ℕ}
use Rattle.std.specs.Prelude.{false}
use Rattle.pa_check.specs.Rows.{may_open}
use Rattle.pa_check.specs.Text.{text_of, word_at}
use Rattle.pa_check.proofs.inside.walked_back.Given as goal

abbrev pub invariant-loop-before : goal.invariant-loop-before
invariant-loop-before l = record {
  from : l.function.first ≤ l.before;
  order : l.before ≤ l.settled;
  to : l.settled ≤ l.k;
  few : l.settled ≤ l.before + 8;
  quiet : (j : ℕ) → l.before ≤ j → j < l.settled → may_open (word_at (text_of l.image) j).instr ≡ false;
}

abbrev pub decreases-loop-before : goal.decreases-loop-before
decreases-loop-before l = l.before
