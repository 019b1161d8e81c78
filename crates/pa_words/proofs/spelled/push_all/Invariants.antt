use Rattle.std.proofs.Common.{◌≡◌, ◌++◌, map, length}
use Rattle.std.specs.Prelude.{string_bytes}
use Rattle.pa_words.proofs.spelled.push_all.Given as goal

abbrev pub invariant-words : goal.invariant-words
invariant-words l = l.operands ++ map string_bytes l.rest ≡ l.fn.operands ++ map string_bytes l.fn.words

abbrev pub decreases-words : goal.decreases-words
decreases-words l = length l.rest
