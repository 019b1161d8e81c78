use Rattle.std.proofs.Common.{◌≡◌, ◌≤◌, ◌+◌, length}
use Rattle.pa_type_rows.proofs.layouts.members_lie.Given as goal

abbrev pub invariant-rows : goal.invariant-rows
invariant-rows l = record {
  structs : l.types.structs ≡ l.fn.types.structs;
  names : l.types.names ≡ l.fn.types.names;
  count : l.index + length l.rest ≡ length l.rows;
}

abbrev pub decreases-rows : goal.decreases-rows
decreases-rows l = length l.rest
