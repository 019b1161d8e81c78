use Rattle.std.proofs.Common.{◌≡◌, ◌++◌, drop}
use Rattle.pa_layout.specs.Fields.{spelled, AllFit}
use Rattle.pa_layout.proofs.field.put_fields.Given as goal

abbrev pub invariant-loop-field : goal.invariant-loop-field
invariant-loop-field l =
    AllFit (drop l.field-index l.fields) × (l.out.items ++ spelled (drop l.field-index l.fields) ≡ l.fn.out.items ++ spelled l.fields)
