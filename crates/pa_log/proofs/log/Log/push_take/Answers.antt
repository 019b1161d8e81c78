use Rattle.std.proofs.Common.{ap, sym, ◌∙◌}
use Rattle.pa_log.specs.Index.{any_signs}
use Rattle.pa_log.proofs.Known.{is_known-any_signs}
use Rattle.pa_log.proofs.log.Log.push_take.Goals as goal

pub returns-clause-known : goal.returns-clause-known
returns-clause-known c =
    c.knows-known.ensures ∙ ap (λ signing. any_signs signing c.args.self.now.entries) c.new.ensures ∙ sym (is_known-any_signs c.args.self.now.entries c.args.key c.args.modifier c.args.raw)
