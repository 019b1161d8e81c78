use Rattle.std.proofs.Common.{◌∙◌}
use Rattle.pa_link.specs.FileDefinitions.{is_at, is_noted}
use Rattle.pa_link.proofs.NamesLaws.{or_if}
use Rattle.pa_link.proofs.declared.note.Goals as goal

pub returns-in-Ok : goal.returns-in-Ok
returns-in-Ok c = λ n p. c.in-Ok.ensures.updates.0 (record { name = n; place = p }) ∙ or_if (is_at n p c.args.name c.args.place) (is_noted c.args.made.now.keys n p)
