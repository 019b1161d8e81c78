-- What was printed of a command that is done, or the line of one that stops.
use Rattle.pa_paclab.specs.Printed.{text_of}
use Rattle.pa_paclab.proofs.Answered.{done, cut_off, stopped}
use Rattle.pa_paclab.proofs.top.paclab.Goals as goal

pub returns-in-Ok-write_printed-clause-answer : goal.returns-in-Ok-write_printed-clause-answer
returns-in-Ok-write_printed-clause-answer g c =
    let written = c.in-Ok-write_printed.ensures in
    done _ (text_of c.in-Ok.printed) c.in-Ok.ensures.ok written.all written.others

pub returns-in-Ok-clause-answer : goal.returns-in-Ok-clause-answer
returns-in-Ok-clause-answer g c =
    let written = c.in-Err-write_printed.ensures in
    cut_off _ (text_of c.in-Ok.printed) c.in-Ok.ensures.ok written.prefix written.fault

pub returns-clause-answer : goal.returns-clause-answer
returns-clause-answer g c =
    let line = c.write_line.ensures in
    stopped _ c.in-Err.exit c.write_line.result c.in-Err.ensures.err line.all line.prefix line.fault line.others
