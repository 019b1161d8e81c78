-- A part that isn't read stops the run.
use Rattle.std.proofs.lemmas.Result.{err_from_is_err_and}
use Rattle.pa_io.specs.Outside.{shelf_seen, source_seen}
use Rattle.pa_task.specs.Reading.{Outside}
use Rattle.pa_paclab.proofs.Causes.{unread}
use Rattle.pa_paclab.proofs.top.run_file.Goals as goal

pub returns-in_err-task-clause-err : goal.returns-in_err-task-clause-err
returns-in_err-task-clause-err g c =
    let shelf = shelf_seen g.H.Shelf.given g.H.Shelf.faults g.H.Shelf.failed in
    let source = source_seen g.S.Source.left g.S.Source.given g.S.Source.faults in
    let before : Outside = record { shelf = shelf c.args.shelf.now; source = source c.args.source.now } in
    let now : Outside = record { shelf = shelf c.read_task.new.shelf; source = source c.read_task.new.source } in
    let p = err_from_is_err_and c.from_residual.result c.from_residual.ensures.1 in
    rw (p.1, p.2)
    (unread (g.P.Pac.code c.args.host.now) (g.H.Shelf.told c.args.shelf.now) c.args.file.now c.args.options.now before now c.in_err-task.field-0.0 c.in_err-task.ensures.err)
