-- The image of the bytes is run, or refused with the first check that fails.
use Rattle.pa_image.proofs.Limits.{small_file}
use Rattle.pa_load.specs.Loaded.{state_of}
use Rattle.pa_engine.specs.ImageRun.{ImageRun, IsAnswer}
use Rattle.pa_engine.proofs.ImageRuns.{passed_on, unloaded_answer, ran_answer}
use Rattle.pa_engine.proofs.image_run.run_image.Goals as goal

pub load_checked-requires-clause-small : goal.load_checked-requires-clause-small
load_checked-requires-clause-small g c = (small_file c.in_ok-program.program c.args.image.now c.in_ok-program.ensures.found).1 c.requires

pub returns-in_err-loaded : goal.returns-in_err-loaded
returns-in_err-loaded g c =
    let r : ImageRun = record { code = g.P.Pac.code c.args.p.now; bytes = c.args.image.now; slide = c.args.slide; script = c.args.script.now; input = c.args.input.now; steps = c.args.steps } in
    passed_on (IsAnswer r) c.from_residual-in_err-loaded.result c.in_err-loaded.field-0.0 c.from_residual-in_err-loaded.ensures.1
    (unloaded_answer r c.in_ok-program.program c.in_err-loaded.field-0.0 c.in_ok-program.ensures.found c.in_ok-program.ensures.flaw c.in_err-loaded.ensures.refusal)

pub returns : goal.returns
returns g c =
    let r : ImageRun = record { code = g.P.Pac.code c.args.p.now; bytes = c.args.image.now; slide = c.args.slide; script = c.args.script.now; input = c.args.input.now; steps = c.args.steps } in
    ran_answer r c.in_ok-program.program (state_of c.in_ok-loaded.loaded) c.in_ok-ran.ran c.in_ok-program.ensures.found c.in_ok-program.ensures.flaw c.stands_legal.ensures
    ((small_file c.in_ok-program.program c.args.image.now c.in_ok-program.ensures.found).1 c.requires) c.in_ok-loaded.ensures.loaded c.in_ok-loaded.ensures.fits c.in_ok-loaded.ensures.refusal c.in_ok-ran.ensures
