use Rattle.std.proofs.Common.{◌≡◌, ◌*◌, length}
use Rattle.pa_attacks.proofs.program.code.Given as goal

abbrev pub invariant-loop-word : goal.invariant-loop-word
invariant-loop-word l = length l.code ≡ 4 * l.word-index
