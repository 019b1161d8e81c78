use Rattle.std.proofs.Common.{◌≡◌, ◌≤◌, length}
use Rattle.pa_ctype.specs.Nodes.{Fits, AllBelow}
use Rattle.pa_ctype.specs.Tables.{ForTypes}
use Rattle.pa_type_rows.proofs.samples.part_numbers.Given as goal

abbrev pub invariant-parts : goal.invariant-parts
invariant-parts l = record {
  known : AllBelow (length l.types.nodes) l.numbers;
  longer : length l.fn.types.nodes ≤ length l.types.nodes;
  grows : ForTypes l.types (λ m. Fits m l.fn.types.nodes);
  structs : l.types.structs ≡ l.fn.types.structs;
  names : l.types.names ≡ l.fn.types.names;
}

abbrev pub decreases-parts : goal.decreases-parts
decreases-parts l = length l.rest
