use Rattle.std.proofs.Common.{map, length}
use Rattle.std.specs.Prelude.{string_bytes}
use Rattle.pa_words.specs.Reading.{Reaches}
use Rattle.pa_words.proofs.spelled.options_and_operands.Given as goal

abbrev pub invariant-words : goal.invariant-words
invariant-words l = Reaches l.name (map string_bytes l.fn.words) l.given l.operands (map string_bytes l.rest)

abbrev pub decreases-words : goal.decreases-words
decreases-words l = length l.rest
