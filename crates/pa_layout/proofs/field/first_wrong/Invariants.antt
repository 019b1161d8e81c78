use Rattle.std.proofs.Common.{◌≡◌, ◌≤◌, length, drop}
use Rattle.pa_layout.specs.Fields.{wrong_from}
use Rattle.pa_layout.proofs.field.first_wrong.Given as goal

abbrev pub invariant-loop-field : goal.invariant-loop-field
invariant-loop-field l =
    (l.at ≤ length l.bytes) × (wrong_from l.at (drop l.field-index l.fields) l.bytes ≡ wrong_from l.start l.fields l.bytes)
