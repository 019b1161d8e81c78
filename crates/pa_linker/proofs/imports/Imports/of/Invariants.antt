use Rattle.std.proofs.Common.{◌≡◌, [], filter, length}
use Rattle.std.specs.List.{AllByRecursion}
use Rattle.pa_linker.specs.Imports.{first_uses, is_runtime, used_by_refs, used_by_slots}
use Rattle.pa_linker.specs.Tables.{IsIndexed, RefsStand}
use Rattle.pa_linker.proofs.imports.Imports.of.Given as goal

abbrev pub invariant-refs : goal.invariant-refs
invariant-refs l = record {
  indexed : IsIndexed l.imports;
  stand : AllByRecursion RefsStand l.rest;
  names : first_uses l.imports.names (filter is_runtime (used_by_refs l.rest)) ≡ first_uses [] (filter is_runtime (used_by_refs l.objects));
}

abbrev pub decreases-refs : goal.decreases-refs
decreases-refs l = length l.rest

abbrev pub invariant-slots : goal.invariant-slots
invariant-slots l = record {
  indexed : IsIndexed l.imports;
  names : first_uses l.imports.names (filter is_runtime (used_by_slots l.rest)) ≡ first_uses (first_uses [] (filter is_runtime (used_by_refs l.objects))) (filter is_runtime (used_by_slots l.objects));
}

abbrev pub decreases-slots : goal.decreases-slots
decreases-slots l = length l.rest
