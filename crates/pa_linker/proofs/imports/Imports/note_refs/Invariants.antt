use Rattle.std.proofs.Common.{◌≡◌, filter, drop}
use Rattle.pa_linker.specs.Imports.{first_uses, is_runtime, ref_names, refs_from, refs_of}
use Rattle.pa_linker.specs.Tables.{IsIndexed}
use Rattle.pa_linker.proofs.imports.Imports.note_refs.Given as goal

abbrev pub invariant-loop-word : goal.invariant-loop-word
invariant-loop-word l = record {
  indexed : IsIndexed l.self;
  names : first_uses l.self.names (filter is_runtime (ref_names (refs_from l.object.refs l.word (drop l.word l.object.code)))) ≡ first_uses l.fn.self.names (filter is_runtime (ref_names (refs_of l.object)));
}
