-- The first check that fails of an image.
use Rattle.std.proofs.Common.{ap, sym, ◌∙◌}
use Rattle.pa_load.specs.Loaded.{State}
use Rattle.pa_script.specs.Rules.{first_unfit}
use Rattle.pa_engine.specs.ImageRun.{unfit}
use Rattle.pa_engine.proofs.ImageRuns.{first_failed, none_of, by_code, by_role, by_import, by_script}
use Rattle.pa_engine.proofs.image_run.load_checked.Goals as goal

pub returns-in_err-check_code-clause-refusal : goal.returns-in_err-check_code-clause-refusal
returns-in_err-check_code-clause-refusal g c =
    first_failed c.from_residual.result c.in_err-check_code.field-0.0 _ _ c.from_residual.ensures.1 c.in_err-check_code.ensures
    (λ r e. by_code (g.P.Pac.code c.args.p.now) c.args.slide c.args.script.now c.args.image.now r e)

pub returns-in_err-check_role-clause-refusal : goal.returns-in_err-check_role-clause-refusal
returns-in_err-check_role-clause-refusal g c =
    first_failed c.from_residual-in_err-check_role.result c.in_err-check_role.field-0.0 _ _ c.from_residual-in_err-check_role.ensures.1 c.in_err-check_role.ensures
    (λ r e. by_role (g.P.Pac.code c.args.p.now) c.args.slide c.args.script.now c.args.image.now r c.in_ok-check_code.ensures e)

pub returns-in_err-loaded-clause-refusal : goal.returns-in_err-loaded-clause-refusal
returns-in_err-loaded-clause-refusal g c =
    first_failed c.from_residual-in_err-loaded.result c.in_err-loaded.field-0.0 _ _ c.from_residual-in_err-loaded.ensures.1 c.in_err-loaded.ensures.missing
    (λ r e. by_import (g.P.Pac.code c.args.p.now) c.args.slide c.args.script.now c.args.image.now r c.in_ok-check_code.ensures c.in_ok-check_role.ensures e)

pub returns-in_err-check_script-clause-refusal : goal.returns-in_err-check_script-clause-refusal
returns-in_err-check_script-clause-refusal g c =
    let memory = ap (λ (s : State). s.memory) c.in_ok-loaded.ensures.loaded.state_is in
    first_failed c.from_residual-in_err-check_script.result c.in_err-check_script.field-0.0 _ _ c.from_residual-in_err-check_script.ensures.1 c.in_err-check_script.ensures.first
    (λ r e. by_script (g.P.Pac.code c.args.p.now) c.args.slide c.args.script.now c.args.image.now r c.in_ok-check_code.ensures c.in_ok-check_role.ensures c.in_ok-loaded.ensures.missing
    (sym (ap (λ m. unfit (first_unfit c.args.script.now m)) memory) ∙ e))

pub returns-clause-refusal : goal.returns-clause-refusal
returns-clause-refusal g c =
    let memory = ap (λ (s : State). s.memory) c.in_ok-loaded.ensures.loaded.state_is in
    none_of (g.P.Pac.code c.args.p.now) c.args.slide c.args.script.now c.args.image.now c.in_ok-check_code.ensures c.in_ok-check_role.ensures c.in_ok-loaded.ensures.missing
    (sym (ap (λ m. unfit (first_unfit c.args.script.now m)) memory) ∙ c.in_ok-check_script.ensures.first)
