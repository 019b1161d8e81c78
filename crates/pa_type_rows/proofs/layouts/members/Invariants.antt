use Rattle.std.proofs.Common.{◌≡◌, ◌≤◌, length}
use Rattle.pa_ctype.specs.Nodes.{Fits}
use Rattle.pa_ctype.specs.Tables.{types_bound, names_bound, ForTypes, IsSoundIn}
use Rattle.pa_type_rows.proofs.layouts.members.Given as goal

abbrev pub invariant-rows : goal.invariant-rows
invariant-rows l = record {
  structs : l.types.structs ≡ l.fn.types.structs;
  names : l.types.names ≡ l.fn.types.names;
  known : types_bound l.members ≤ length l.types.nodes;
  named : names_bound l.members ≤ 10;
  sound : IsSoundIn l.types l.members;
}

abbrev pub decreases-rows : goal.decreases-rows
decreases-rows l = length l.rest
