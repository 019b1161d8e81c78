-- A part stops the command once those before it are read.
use Rattle.std.proofs.Common.{refl, ◌∙◌}
use Rattle.std.proofs.lemmas.Result.{err_from_is_err_and}
use Rattle.pa_io.specs.Outside.{shelf_seen, source_seen}
use Rattle.pa_task.specs.Reading.{Outside, TaskStops}
use Rattle.pa_task.proofs.Parts.{at_input, at_script}
use Rattle.pa_task.proofs.task.read_task.Goals as goal

pub returns-in_err-input-clause-err : goal.returns-in_err-input-clause-err
returns-in_err-input-clause-err g c =
    let shelf = shelf_seen g.H.Shelf.given g.H.Shelf.faults g.H.Shelf.failed in
    let source = source_seen g.S.Source.left g.S.Source.given g.S.Source.faults in
    let before : Outside = record { shelf = shelf c.args.shelf.now; source = source c.args.source.now } in
    let first : Outside = record { shelf = shelf c.read_program.new.shelf; source = source c.args.source.now } in
    let now : Outside = record { shelf = shelf c.read_input.new.shelf; source = source c.read_input.new.source } in
    let stops = rw c.read_program.ensures.tells at c.in_err-input.ensures.err in
    let all : TaskStops (g.H.Shelf.told c.args.shelf.now) c.args.file.now c.args.options.now before now c.in_err-input.field-0.0 =
    at_input _ _ c.args.options.now before first now _ _ c.in_ok-program.ensures.ok refl stops in
    let p = err_from_is_err_and c.from_residual-in_err-input.result c.from_residual-in_err-input.ensures.1 in
    rw (p.1, p.2) all

pub returns-in_err-script-clause-err : goal.returns-in_err-script-clause-err
returns-in_err-script-clause-err g c =
    let shelf = shelf_seen g.H.Shelf.given g.H.Shelf.faults g.H.Shelf.failed in
    let source = source_seen g.S.Source.left g.S.Source.given g.S.Source.faults in
    let before : Outside = record { shelf = shelf c.args.shelf.now; source = source c.args.source.now } in
    let first : Outside = record { shelf = shelf c.read_program.new.shelf; source = source c.args.source.now } in
    let second : Outside = record { shelf = shelf c.read_input.new.shelf; source = source c.read_input.new.source } in
    let now : Outside = record { shelf = shelf c.read_items.new.shelf; source = source c.read_input.new.source } in
    let input = rw c.read_program.ensures.tells at c.in_ok-input.ensures.ok in
    let stops = rw (c.read_input.ensures.tells ∙ c.read_program.ensures.tells) at c.in_err-script.ensures.err in
    let all : TaskStops (g.H.Shelf.told c.args.shelf.now) c.args.file.now c.args.options.now before now c.in_err-script.field-0.0 =
    at_script _ _ c.args.options.now before first second now _ _ _ c.in_ok-program.ensures.ok refl input stops refl in
    let p = err_from_is_err_and c.from_residual-in_err-script.result c.from_residual-in_err-script.ensures.1 in
    rw (p.1, p.2) all
