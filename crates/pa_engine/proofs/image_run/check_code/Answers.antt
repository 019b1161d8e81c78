use Rattle.std.proofs.Common.{sym, ◌∙◌}
use Rattle.pa_check.specs.Windowed.{first_flaw}
use Rattle.pa_engine.proofs.ImageRuns.{bad_flaw}
use Rattle.pa_engine.proofs.image_run.check_code.Goals as goal

pub returns-in-Bad : goal.returns-in-Bad
returns-in-Bad c = rw c.refused.ensures (bad_flaw (first_flaw c.args.image.now) c.in-Bad.offset c.in-Bad.rule (sym c.in-Bad.is ∙ c.check.ensures))
