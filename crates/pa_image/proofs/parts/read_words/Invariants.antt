use Rattle.std.proofs.Common.{◌≡◌, ◌+◌, ◌-◌, ◌*◌, ◌++◌}
use Rattle.pa_layout.specs.Fields.{numbers}
use Rattle.pa_image.proofs.parts.read_words.Given as goal

abbrev pub invariant-loop-k : goal.invariant-loop-k
invariant-loop-k l = l.words ++ numbers (l.count - l.k) 4 (l.at + 4 * l.k) l.bytes ≡ numbers l.count 4 l.at l.bytes
