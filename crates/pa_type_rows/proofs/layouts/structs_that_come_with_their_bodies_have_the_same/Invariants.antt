use Rattle.std.proofs.Common.{◌≡◌}
use Rattle.pa_type_rows.proofs.layouts.structs_that_come_with_their_bodies_have_the_same.Given as goal

abbrev pub invariant-loop-rows : goal.invariant-loop-rows
invariant-loop-rows g l = l.types.names ≡ 10
