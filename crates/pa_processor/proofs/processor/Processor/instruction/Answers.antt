use Rattle.std.proofs.Common.{sym, subst, ◌∙◌}
use Rattle.std.proofs.lemmas.Result.{err_from_is_err_and}
use Rattle.pa_processor.specs.Processor.{Traps}
use Rattle.pa_processor.proofs.Known.{no_word, no_row}
use Rattle.pa_processor.proofs.processor.Processor.instruction.Goals as goal

pub returns-in_err-fetch-clause-trap : goal.returns-in_err-fetch-clause-trap
returns-in_err-fetch-clause-trap c =
    let p = err_from_is_err_and c.from_residual.result c.from_residual.ensures.1 in
    rw (p.1, p.2) (subst (λ trap. Traps trap c.args.self.now.machine) (sym c.in_err-fetch.ensures.1) (no_word c.args.self.now.machine c.in_err-fetch.ensures.0))

pub returns-in-None-clause-trap : goal.returns-in-None-clause-trap
returns-in-None-clause-trap c =
    no_row c.args.self.now.machine c.in_ok-fetch.field-0 c.in_ok-fetch.ensures (sym c.decode.ensures.instruction ∙ c.in-None.is)
