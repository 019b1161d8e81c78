use Rattle.std.proofs.Common.{length}
use Rattle.pa_lex.proofs.Bodies.{IsReadTo}
use Rattle.pa_lex.proofs.literal.bytes_of.Given as goal

abbrev pub invariant-pieces : goal.invariant-pieces
invariant-pieces l = IsReadTo l.body l.bytes l.rest

abbrev pub decreases-pieces : goal.decreases-pieces
decreases-pieces l = length l.rest
