use Rattle.std.proofs.Common.{sym, ap, ◌∙◌}
use Rattle.pa_ctype.specs.Types.{Of, Void}
use Rattle.pa_ctype.specs.Qualifiers.{is_constant}
use Rattle.pa_lower.proofs.Forms.{outside}
use Rattle.pa_lower.proofs.source.Source.form.Goals as goal

pub returns-else-number-len : goal.returns-else-number-len
returns-else-number-len c =
    let e = outside c.args.self.now.types.now.nodes c.args.number (rw (sym c.len.ensures) c.if-number-len.false) in
    e ∙ ap (λ constant. Of constant Void) (sym (ap is_constant e))
