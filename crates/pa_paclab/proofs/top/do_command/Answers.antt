-- A run of one file that isn't done.
use Rattle.pa_io.specs.Outside.{shelf_seen, source_seen}
use Rattle.pa_task.specs.Reading.{Outside}
use Rattle.pa_paclab.proofs.Causes.{one_file, matched, err_map}
use Rattle.pa_paclab.proofs.top.do_command.Goals as goal

pub returns-in-len1-clause-err : goal.returns-in-len1-clause-err
returns-in-len1-clause-err g c =
    let shelf = shelf_seen g.H.Shelf.given g.H.Shelf.faults g.H.Shelf.failed in
    let source = source_seen g.S.Source.left g.S.Source.given g.S.Source.faults in
    let before : Outside = record { shelf = shelf c.args.shelf.now; source = source c.args.source.now } in
    let now : Outside = record { shelf = shelf c.run_file.new.shelf; source = source c.run_file.new.source } in
    let one = matched c.in-Run.files c.as_slice.result.now c.file-item.result c.as_str.result.now c.as_slice.ensures c.in-len1.len_at_least c.in-len1.len_below c.file-item.is c.as_str.ensures in
    err_map c.run_file.result
    (λ answer. one_file (g.P.Pac.code c.args.host.now) (g.H.Shelf.told c.args.shelf.now) c.args.command.now c.in-Run.files c.as_str.result.now c.in-Run.options before now c.in-Run.is one answer)
    c.run_file.ensures.err
