use Rattle.std.proofs.Common.{ap, sym, ◌∙◌}
use Rattle.pa_log.specs.Index.{any_signs}
use Rattle.pa_log.proofs.Known.{any_signs-reverse}
use Rattle.pa_log.proofs.log.Log.knows.Goals as goal

pub returns-then-self : goal.returns-then-self
returns-then-self c =
    let newest_first = any_signs-reverse c.args.signing c.self.inside.entries.items in
    c.is_noted.ensures ∙ c.self.invariant.1 c.if-self.true c.args.signing ∙ sym newest_first ∙ ap (λ log. any_signs c.args.signing log.entries) c.self.view_is

pub returns-else-self : goal.returns-else-self
returns-else-self c =
    let newest_first = any_signs-reverse c.args.signing c.self.inside.entries.items in
    c.is_among.ensures ∙ ap (any_signs c.args.signing) c.deref.ensures.value ∙ sym newest_first ∙ ap (λ log. any_signs c.args.signing log.entries) c.self.view_is
