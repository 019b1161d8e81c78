use Rattle.std.proofs.Common.{◌≡◌, map, take}
use Rattle.pa_lir.specs.Ready.{symbol_global}
use Rattle.pa_select.proofs.objects.data.Given as goal

abbrev pub invariant-loop-from : goal.invariant-loop-from
invariant-loop-from l = l.globals ≡ map symbol_global (take l.from-index l.lir.globals)
