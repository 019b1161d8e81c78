-- The answer of a call, by what was printed of a command that is done, and by the line of one that stops.
use Rattle.std.proofs.Common.{◌≡◌, inl, inr, Result, Ok, Err}
use Rattle.std.specs.Prelude.{OnOk, OnErr}
use Rattle.pa_io.specs.Outside.{Rose, Grew, GrewByProperPrefix}
use Rattle.pa_task.specs.declared.exit.Exit.{Exit}
use Rattle.pa_task.specs.declared.exit.Exit.TheVariants.{Done, WriteFault}
use Rattle.pa_task.specs.Reading.{Text}
use Rattle.pa_paclab.specs.Lines.{line_of}
use Rattle.pa_paclab.specs.Answers.{Call, IsDone, IsStopped, IsAnswer}
use Rattle.pa_paclab.proofs.Stops.{answered}
use Rattle.pa_paclab.proofs.OneAnswer.{one_answer}

pub done : (call : Call) (text : Text) → IsDone call.words call.host call.told call.before call.now text
    → Grew call.written_before call.written_now text → call.write_faults_now ≡ call.write_faults_before → IsAnswer call Done
done call text prints grew same = one_answer call Done (text, prints, (grew, same))

pub cut_off : (call : Call) (text : Text) → IsDone call.words call.host call.told call.before call.now text
    → GrewByProperPrefix call.written_before call.written_now text → Rose call.write_faults_before call.write_faults_now
    → IsAnswer call WriteFault
cut_off call text prints grew rose = one_answer call WriteFault (text, prints, (grew, rose))

-- the line of the answer is written, or a proper prefix of it where a write failed
pub stopped : {T E : Type 0} (call : Call) (answer : Exit) (r : Result T E)
    → IsStopped call.words call.host call.told call.before call.now answer
    → OnOk r (Grew call.written_before call.written_now (line_of answer))
    → OnErr r (GrewByProperPrefix call.written_before call.written_now (line_of answer))
    → OnErr r (Rose call.write_faults_before call.write_faults_now)
    → OnOk r (call.write_faults_now ≡ call.write_faults_before) → IsAnswer call answer
stopped call answer (Ok done) stops grew prefix rose same = one_answer call answer (answered call answer stops (inl (grew, same)))
stopped call answer (Err fault) stops grew prefix rose same = one_answer call answer (answered call answer stops (inr (prefix, rose)))
