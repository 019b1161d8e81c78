use Rattle.std.proofs.Common.{◌≡◌}
use Rattle.pa_type_rows.proofs.layouts.a_struct_without_a_body_has_none.Given as goal

abbrev pub invariant-loop-sample : goal.invariant-loop-sample
invariant-loop-sample g l = l.types.names ≡ 10
