use Rattle.std.proofs.Common.{◌≡◌}
use Rattle.pa_type_rows.proofs.layouts.structs_have_their_layouts.Given as goal

abbrev pub invariant-loop-rows : goal.invariant-loop-rows
invariant-loop-rows g l = l.types.names ≡ 10
