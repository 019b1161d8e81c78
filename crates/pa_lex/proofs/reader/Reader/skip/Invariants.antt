use Rattle.std.proofs.Common.{length}
use Rattle.pa_lex.proofs.Gaps.{IsBehindGap}
use Rattle.pa_lex.proofs.reader.Reader.skip.Given as goal

abbrev pub invariant-separators : goal.invariant-separators
invariant-separators l = IsBehindGap l.fn.self l.self

abbrev pub decreases-separators : goal.decreases-separators
decreases-separators l = length l.self.ahead
