use Rattle.std.proofs.Common.{◌∙◌, ap, not}
use Rattle.pa_ctype.proofs.Bodies.{member_sound}
use Rattle.pa_type_rows.proofs.layouts.held.Goals as goal

pub returns-clause-sound : goal.returns-clause-sound
returns-clause-sound c =
    member_sound c.built.new.types (record { name = c.args.row.0; of = c.in-Some.of }) c.layout_of.result c.layout_of.ensures.answer (c.is_none.ensures ∙ ap not c.if-is_none.false) c.layout_of.ensures.formed
