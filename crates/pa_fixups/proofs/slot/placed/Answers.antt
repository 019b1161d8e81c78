use Rattle.std.proofs.Common.{◌∙◌}
use Rattle.pa_fixups.proofs.Words.{with_field-above}
use Rattle.pa_fixups.proofs.slot.placed.Goals as goal

pub returns : goal.returns
returns g c = c.put.ensures.value ∙ with_field-above g.row.LOW g.row.WIDTH c.args.word c.args.value c.requires.under
