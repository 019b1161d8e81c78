-- The lines that were read, and what is left.
use Rattle.std.proofs.Common.{length}
use Rattle.pa_straight.proofs.SourceLaws.{HasRead}
use Rattle.pa_straight.proofs.source.read.Given as goal

abbrev pub invariant-loop-number : goal.invariant-loop-number
invariant-loop-number l = HasRead l.bytes l.prints l.rest

abbrev pub decreases-loop-number : goal.decreases-loop-number
decreases-loop-number l = length l.rest
