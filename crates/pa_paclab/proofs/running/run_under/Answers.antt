-- The run is that of the loaded state, whose memory the script fits.
use Rattle.std.proofs.Common.{◌≡◌, ◌∙◌, List, ℕ, true, ap, sym, subst}
use Rattle.pa_mem.specs.Memory.{Region}
use Rattle.pa_object.specs.declared.script.Item.{Item}
use Rattle.pa_object.specs.Machine.{Machine, begun}
use Rattle.pa_object.specs.Run.{run, end_of}
use Rattle.pa_object.specs.Script.{all_fit}
use Rattle.pa_load.specs.Loaded.{State, begun_in}
use Rattle.pa_script.specs.declared.rule.ScriptRule.TheVariants.{P4}
use Rattle.pa_script.specs.Rules.{first_unfit}
use Rattle.pa_task.specs.Refusals.{bad_line}
use Rattle.pa_straight_image.proofs.Begun.{runs}
use Rattle.pa_straight_image.proofs.Legal.{legal, small}
use Rattle.pa_paclab.specs.Runs.{run_of, state_of}
use Rattle.pa_paclab.proofs.running.run_under.Goals as goal

pub returns-in-Some-clause-err : goal.returns-in-Some-clause-err
returns-in-Some-clause-err g c =
    let memory : c.in_ok-loaded.loaded.space ≡ (state_of (g.P.Pac.code c.args.p.now) c.args.options.now c.args.task.now).memory =
    ap (λ (s : State). s.memory) c.in_ok-loaded.ensures.state_is in
    (c.in-Some.line, c.bad_line-refusal.ensures ∙ ap (bad_line P4) c.from.ensures, ap (first_unfit c.args.task.now.script) (sym memory) ∙ sym c.in-Some.ensures.first)

pub run-requires-clause-fits : goal.run-requires-clause-fits
run-requires-clause-fits g c =
    let memory : c.in_ok-machine.machine.machine.memory ≡ c.in_ok-loaded.loaded.space =
    ap (λ (m : Machine). m.memory) c.in_ok-machine.ensures.machine in
    subst (λ (items : List Item). all_fit items c.in_ok-machine.machine.machine.memory ≡ true) (sym c.as_slice-2.ensures.items)
    (subst (λ (m : List Region). all_fit c.args.task.now.script m ≡ true) (sym memory) c.in_default.ensures.all)

pub returns-clause-ok : goal.returns-clause-ok
returns-clause-ok g c =
    let code = g.P.Pac.code c.args.p.now in
    let options = c.args.options.now in
    let task = c.args.task.now in
    let old = c.in_ok-loaded.loaded in
    let memory : old.space ≡ (state_of code options task).memory = ap (λ (s : State). s.memory) c.in_ok-loaded.ensures.state_is in
    let whole : c.run.new.self.machine ≡ run_of code options task =
    c.in_ok-end.ensures.machine
    ∙ ap (λ p. run (g.P.Pac.code p) c.as_slice-2.result.now options.steps c.in_ok-machine.machine.machine) c.in_ok-machine.ensures.pac
    ∙ ap (λ (items : List Item). run code items options.steps c.in_ok-machine.machine.machine) c.as_slice-2.ensures.items
    ∙ ap (run code task.script options.steps) c.in_ok-machine.ensures.machine
    ∙ ap (λ (input : List ℕ). run code task.script options.steps (begun old.space old.log.entries old.pc old.sp input)) c.as_slice.ensures
    ∙ ap (λ (s : State). run code task.script options.steps (begun_in s task.input)) c.in_ok-loaded.ensures.state_is in
    record {
      legal = legal task.program c.requires;
      small = small task.program c.requires;
      runs = runs task.program c.requires;
      fits = subst (λ (m : List Region). all_fit task.script m ≡ true) memory c.in_default.ensures.all;
      output_is = c.into_parts-output.ensures.output ∙ ap (λ (m : Machine). m.output) whole;
      end_is = c.in_ok-end.ensures.end ∙ ap end_of whole;
      log_is = c.into_parts-output.ensures.log ∙ ap (λ (m : Machine). m.log) whole;
    }
