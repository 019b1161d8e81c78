use Rattle.std.proofs.Common.{◌≤◌, ◌<◌, ◌-◌, length, ℕ}
use Rattle.pa_check.proofs.Words.{mark_at}
use Rattle.pa_check.proofs.marks.is_marked.Given as goal

abbrev pub invariant-loop-low : goal.invariant-loop-low
invariant-loop-low l = record {
  order : l.low ≤ l.high;
  within : l.high ≤ length l.marks;
  under : (i : ℕ) → i < l.low → i < length l.marks → mark_at l.marks i < l.k;
  over : (i : ℕ) → l.high ≤ i → i < length l.marks → l.k ≤ mark_at l.marks i;
}

abbrev pub decreases-loop-low : goal.decreases-loop-low
decreases-loop-low l = l.high - l.low
