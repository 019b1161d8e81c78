use Rattle.std.proofs.Common.{◌≡◌, length, map}
use Rattle.pa_ctype.specs.Nodes.{AllBelow}
use Rattle.pa_ctype.specs.Tables.{ForTypes}
use Rattle.pa_link.specs.Declarations.{AreBelow, name_of, type_of, declares_from}
use Rattle.pa_link.specs.FileDefinitions.{is_noted}
use Rattle.pa_link.proofs.declarations.file_fault.Given as goal

abbrev pub invariant-declared : goal.invariant-declared
invariant-declared l = record {
  names : AllBelow (length l.known) (map name_of l.rest);
  types : AllBelow (length l.types.nodes) (map type_of l.rest);
  known : AreBelow (length l.types.nodes) l.known;
  count : length l.known ≡ length l.initial.known;
  is : ForTypes l.types (λ m. declares_from m (is_noted l.definitions.keys) l.file l.rest l.known ≡ declares_from m (is_noted l.definitions.keys) l.file l.declared l.initial.known);
}

abbrev pub decreases-declared : goal.decreases-declared
decreases-declared l = length l.rest
