use Rattle.std.proofs.Common.{◌≡◌, ◌++◌, length}
use Rattle.std.specs.List.{AllByRecursion}
use Rattle.pa_linker.specs.Linked.{global_fixes, slots_behind}
use Rattle.pa_linker.specs.Tables.{layout_in, shown, SlotsInside, IsForward}
use Rattle.pa_linker.proofs.fixes.put_global.Given as goal

abbrev pub invariant-loop-slot : goal.invariant-loop-slot
invariant-loop-slot l = record {
  inside : SlotsInside (length l.laid.global.now.bytes) l.rest;
  forward : AllByRecursion (λ slot. IsForward slot.value) l.rest;
  fixes : l.out ++ slots_behind (layout_in l.layout) l.global l.rest ≡ l.fn.out ++ global_fixes (layout_in l.layout) (shown l.laid);
}

abbrev pub decreases-loop-slot : goal.decreases-loop-slot
decreases-loop-slot l = length l.rest
