use Rattle.std.proofs.Common.{◌≡◌, map, take}
use Rattle.pa_select.specs.Objects.{object_of}
use Rattle.pa_select.proofs.objects.all_objects.Given as goal

abbrev pub invariant-loop-function : goal.invariant-loop-function
invariant-loop-function l = l.objects ≡ map object_of (take l.function-index l.lir.functions)
