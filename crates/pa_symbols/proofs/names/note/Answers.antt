use Rattle.std.proofs.Common.{◌≡◌, true, false, cond, Bool, ◌||◌, refl, ◌∙◌}
use Rattle.std.specs.Str.{bytes_eq}
use Rattle.pa_symbols.specs.Names.{is_noted}
use Rattle.pa_symbols.proofs.names.note.Goals as goal

or_cond : (a b : Bool) → cond a true b ≡ (a || b)
or_cond true b = refl
or_cond false b = refl

pub returns-in-Ok-clause-noted : goal.returns-in-Ok-clause-noted
returns-in-Ok-clause-noted c = λ text.
    c.in-Ok.ensures.updates.0 (record { ref_ptr = c.args.name.ref_ptr; now = text }) ∙ or_cond (bytes_eq c.args.name.now text) (is_noted c.args.names.now.keys text)
