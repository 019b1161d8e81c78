use Rattle.std.proofs.Common.{◌≡◌, length}
use Rattle.pa_linker.specs.Linked.{cleared}
use Rattle.pa_linker.specs.Tables.{SlotsInside}
use Rattle.pa_linker.proofs.section.clear_slots.Given as goal

abbrev pub invariant-loop-slot : goal.invariant-loop-slot
invariant-loop-slot l = SlotsInside (length l.bytes) l.rest × (cleared l.rest l.bytes ≡ cleared l.slots l.fn.bytes)

abbrev pub decreases-loop-slot : goal.decreases-loop-slot
decreases-loop-slot l = length l.rest
