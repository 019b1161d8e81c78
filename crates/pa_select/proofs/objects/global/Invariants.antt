use Rattle.std.proofs.Common.{◌≡◌, map, take}
use Rattle.pa_lir.specs.Ready.{symbol_slot}
use Rattle.pa_select.proofs.objects.global.Given as goal

abbrev pub invariant-loop-from : goal.invariant-loop-from
invariant-loop-from l = l.slots ≡ map symbol_slot (take l.from-index l.global.slots)
