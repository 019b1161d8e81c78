use Rattle.std.proofs.Common.{length}
use Rattle.pa_lex.proofs.Numbered.{IsNumberedUpTo}
use Rattle.pa_lex.proofs.lexer.lex.Given as goal

abbrev pub invariant-tokens : goal.invariant-tokens
invariant-tokens l = IsNumberedUpTo l.bytes l.tokens l.names l.reader

abbrev pub decreases-tokens : goal.decreases-tokens
decreases-tokens l = length l.reader.ahead
