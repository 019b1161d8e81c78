-- The words of the instructions so far stand at the end.
use Rattle.std.proofs.Common.{◌≡◌, ◌++◌, map, take}
use Rattle.pa_a64.specs.Decoding.{encoded}
use Rattle.pa_linker.proofs.text.append.Given as goal

abbrev pub invariant-loop-instruction : goal.invariant-loop-instruction
invariant-loop-instruction l = l.out ≡ l.initial.out ++ map encoded (take l.instruction-index l.instructions)
