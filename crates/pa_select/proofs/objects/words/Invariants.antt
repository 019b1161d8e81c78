use Rattle.std.proofs.Common.{◌≡◌, map, take}
use Rattle.pa_a64.specs.Decoding.{encoded}
use Rattle.pa_select.proofs.objects.words.Given as goal

abbrev pub invariant-loop-instr : goal.invariant-loop-instr
invariant-loop-instr l = l.words ≡ map encoded (take l.instr-index l.instrs)
