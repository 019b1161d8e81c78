use Rattle.std.proofs.Common.{◌≡◌, filter, length}
use Rattle.pa_linker.specs.Imports.{first_uses, is_runtime, slot_names}
use Rattle.pa_linker.specs.Tables.{IsIndexed}
use Rattle.pa_linker.proofs.imports.Imports.note_slots.Given as goal

abbrev pub invariant-loop-slot : goal.invariant-loop-slot
invariant-loop-slot l = record {
  indexed : IsIndexed l.self;
  names : first_uses l.self.names (filter is_runtime (slot_names l.rest)) ≡ first_uses l.fn.self.names (filter is_runtime (slot_names l.slots));
}

abbrev pub decreases-loop-slot : goal.decreases-loop-slot
decreases-loop-slot l = length l.rest
