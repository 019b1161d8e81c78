use Rattle.std.proofs.Common.{◌≡◌, filter, length}
use Rattle.pa_linker.specs.Imports.{first_uses, is_runtime, slot_names_of}
use Rattle.pa_linker.specs.Tables.{IsIndexed}
use Rattle.pa_linker.proofs.imports.Imports.note_globals.Given as goal

abbrev pub invariant-loop-global : goal.invariant-loop-global
invariant-loop-global l = record {
  indexed : IsIndexed l.self;
  names : first_uses l.self.names (filter is_runtime (slot_names_of l.rest)) ≡ first_uses l.fn.self.names (filter is_runtime (slot_names_of l.object.globals));
}

abbrev pub decreases-loop-global : goal.decreases-loop-global
decreases-loop-global l = length l.rest
