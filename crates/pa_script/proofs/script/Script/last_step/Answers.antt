use Rattle.std.proofs.Common.{ap, ◌∙◌}
use Rattle.pa_script.specs.Rules.{last_step}
use Rattle.pa_script.proofs.Pushes.{last_step-get}
use Rattle.pa_script.proofs.script.Script.last_step.Goals as goal

pub returns-in-Some : goal.returns-in-Some
returns-in-Some c =
    last_step-get 0 c.as_slice.result.now c.in-Some.item.now c.in-Some.ensures.value ∙ ap (last_step 0) (c.as_slice.ensures ∙ c.self.view_is)
