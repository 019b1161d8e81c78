use Rattle.std.proofs.Common.{ap, ◌∙◌, ◌||◌}
use Rattle.std.specs.Str.{bytes_eq}
use Rattle.pa_link.specs.Names.{is_noted}
use Rattle.pa_link.proofs.NamesLaws.{or_if, bytes_eq-flip}
use Rattle.pa_link.proofs.names.note.Goals as goal

pub returns-in-Ok : goal.returns-in-Ok
returns-in-Ok c = λ text.
    c.in-Ok.ensures.updates.0 (record { ref_ptr = c.args.name.ref_ptr; now = text }) ∙ or_if (bytes_eq c.args.name.now text) (is_noted c.args.names.now.keys text)
    ∙ ap (λ r. r || is_noted c.args.names.now.keys text) (bytes_eq-flip c.args.name.now text)
