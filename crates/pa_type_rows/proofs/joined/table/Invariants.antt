use Rattle.std.proofs.Common.{◌≡◌, ◌≤◌, length}
use Rattle.pa_type_rows.proofs.joined.table.Given as goal

abbrev pub invariant-structs : goal.invariant-structs
invariant-structs l = record {
  few : length l.types.structs ≤ 101;
  names : l.types.names ≡ 10;
}

abbrev pub decreases-structs : goal.decreases-structs
decreases-structs l = length l.rest
