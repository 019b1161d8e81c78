use Rattle.std.proofs.Common.{◌≡◌, ◌≤◌, length, replicate, None}
use Rattle.pa_linker.proofs.ByWord.{IsTableFrom}
use Rattle.pa_linker.proofs.references.by_word.Given as goal

abbrev pub invariant-loop : goal.invariant-loop
invariant-loop l = l.table ≡ replicate l.counter None

abbrev pub invariant-loop-left : goal.invariant-loop-left
invariant-loop-left l = record { few : l.left ≤ length l.refs; table : IsTableFrom l.left l.refs l.words l.table }

abbrev pub decreases-loop-left : goal.decreases-loop-left
decreases-loop-left l = l.left
