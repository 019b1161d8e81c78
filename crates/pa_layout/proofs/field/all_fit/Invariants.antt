use Rattle.std.proofs.Common.{◌≡◌, drop}
use Rattle.pa_layout.specs.Fields.{all_have_room}
use Rattle.pa_layout.proofs.field.all_fit.Given as goal

abbrev pub invariant-loop-field : goal.invariant-loop-field
invariant-loop-field l = all_have_room (drop l.field-index l.fields) ≡ all_have_room l.fields
