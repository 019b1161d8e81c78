-- Where the texts are told and nothing fails, the answer is the one that they call for, or memory is short.
use Rattle.std.proofs.Common.{◌≡◌, ℕ, zero, suc, ◌+◌, ◌<◌, List, [], ◌∷◌, length, get_or, not, true, arith, inl, inr, Option, Some, None, Result, Ok, Err, refl, sym, subst, ap, ◌∙◌}
use Rattle.std.specs.Prelude.{position, option_map}
use Rattle.std.proofs.lemmas.Bool.{and_parts}
use Rattle.std.proofs.lemmas.List.Quantifiers.{position-Some}
use Rattle.pa_mem.specs.Memory.{Region}
use Rattle.pa_io.specs.Outside.{Rose}
use Rattle.pa_pac.specs.Signing.{Code}
use Rattle.pa_object.specs.declared.script.Item.{Item}
use Rattle.pa_object.specs.Script.{all_fit, deed_fits}
use Rattle.pa_script.specs.declared.rule.ScriptRule.TheVariants.{P4}
use Rattle.pa_script.specs.Rules.{first_unfit}
use Rattle.pa_words.specs.declared.command.Command.{Command}
use Rattle.pa_words.specs.declared.command.Command.TheVariants as command
use Rattle.pa_words.specs.declared.command.RunOptions.{RunOptions}
use Rattle.pa_words.specs.declared.command.UseFault.{UseFault}
use Rattle.pa_words.specs.Usage.{spelled}
use Rattle.pa_task.specs.declared.exit.Exit.{Exit}
use Rattle.pa_task.specs.declared.exit.Exit.TheVariants.{Done, Usage, Refused, WriteFault, Memory}
use Rattle.pa_task.specs.declared.exit.Refusal.{Refusal}
use Rattle.pa_task.specs.declared.task.Task.{Task}
use Rattle.pa_task.specs.Reading.{Text, Shelf, Outside}
use Rattle.pa_task.specs.Refusals.{bad_line}
use Rattle.pa_task.specs.Texts.{texts_of, NoReadFault, IsUnlessMemory}
use Rattle.pa_task.proofs.OneTask.{same_task, task_not_refused, task_stops, task_refused}
use Rattle.pa_paclab.specs.Runs.{code_of, state_of, Fits, RunStops}
use Rattle.pa_paclab.specs.Answers.{Call, RunFails, Prints, CommandStops, WordsStop, IsStopped, RunRefused, RunAccepted, Refuses, Accepts, Cause, IsRefused, IsAccepted, IsAnswer}

-- ---- scripts that fit

each_fits : (items : List Item) (memory : List Region) (i : ℕ) (d : Item) → all_fit items memory ≡ true → i < length items
    → deed_fits (get_or items i d).deed memory ≡ true
each_fits [] memory i d fit within = absurd (omega (arith, within))
each_fits (item ∷ items) memory zero d fit within = (and_parts (deed_fits item.deed memory) (all_fit items memory) fit).0
each_fits (item ∷ items) memory (suc i) d fit within =
    each_fits items memory i d (and_parts (deed_fits item.deed memory) (all_fit items memory) fit).1 (omega (arith, within))

none_unfit : (items : List Item) (memory : List Region) (o : Option ℕ) → all_fit items memory ≡ true
    → position (λ (item : Item). not (deed_fits item.deed memory)) items ≡ o → o ≡ None
none_unfit items memory None fit is = refl
none_unfit [] memory (Some i) fit is = cc
none_unfit (item ∷ items) memory (Some i) fit is =
    let found = position-Some (λ (one : Item). not (deed_fits one.deed memory)) (item ∷ items) i item is in
    let fits = each_fits (item ∷ items) memory i item fit found.0 in
    let not_fit : not (deed_fits (get_or (item ∷ items) i item).deed memory) ≡ true = found.1 in
    let contrary : not true ≡ true = rw fits at not_fit in cc

fits_no_line : (code : Code) (options : RunOptions) (task : Task) (refusal : Refusal) → Fits code options task
    → RunStops code options task (Refused refusal) → ⊥
fits_no_line code options task refusal fit stops =
    let none = none_unfit task.script (state_of code options task).memory _ fit refl in
    let nothing : first_unfit task.script (state_of code options task).memory ≡ None = ap (option_map (λ index. index + 1)) none in
    let contrary : None ≡ Some stops.0 = sym nothing ∙ stops.2 in cc

one_line : (code : Code) (options : RunOptions) (task : Task) (refusal : Refusal) (answer : Exit) → RunStops code options task answer
    → RunStops code options task (Refused refusal) → IsUnlessMemory (Refused refusal) answer
one_line code options task refusal (Refused other) is due =
    let some : Some is.0 ≡ Some due.0 = sym is.2 ∙ due.2 in
    let same : is.0 ≡ due.0 = cc in
    inl (ap Refused (is.1 ∙ ap (bad_line P4) same ∙ sym due.1))
one_line code options task refusal Memory is due = inr refl
one_line code options task refusal answer is due = absurd is

fits_memory : (code : Code) (options : RunOptions) (task : Task) (answer : Exit) → RunStops code options task answer
    → Fits code options task → answer ≡ Memory
fits_memory code options task (Refused refusal) is fit = absurd (fits_no_line code options task refusal fit is)
fits_memory code options task Memory is fit = refl
fits_memory code options task answer is fit = absurd is

-- ---- a run of one file

run_refused : (host : Code) (told : Shelf) (file : Text) (options : RunOptions) (before now : Outside) (refusal : Refusal) (answer : Exit)
    → RunFails host told file options before now answer → RunRefused host (texts_of told before) file options refusal → NoReadFault before now
    → IsUnlessMemory (Refused refusal) answer
run_refused host told file options before now refusal answer (inl stops) (inl due) calm = task_refused told file options before now refusal answer stops due calm
run_refused host told file options before now refusal answer (inl stops) (inr (task, has, due)) calm =
    inr (task_stops told file options before now task answer stops has calm)
run_refused host told file options before now refusal answer (inr (task, read, stops)) (inl due) calm =
    absurd (task_not_refused told file options before now task refusal read due)
run_refused host told file options before now refusal answer (inr (task, read, stops)) (inr (other, has, due)) calm =
    let code = code_of host options in
    let same = same_task told file options before now task other read has in
    one_line code options other refusal answer (subst (λ (t : Task). RunStops code options t answer) same stops) due

run_accepted : (host : Code) (told : Shelf) (file : Text) (options : RunOptions) (before now : Outside) (answer : Exit)
    → RunFails host told file options before now answer → RunAccepted host (texts_of told before) file options → NoReadFault before now
    → answer ≡ Memory
run_accepted host told file options before now answer (inl stops) (task, has, fit) calm =
    task_stops told file options before now task answer stops has calm
run_accepted host told file options before now answer (inr (task, read, stops)) (other, has, fit) calm =
    let code = code_of host options in
    let same = same_task told file options before now task other read has in
    fits_memory code options other answer (subst (λ (t : Task). RunStops code options t answer) same stops) fit

run_done : (host : Code) (told : Shelf) (file : Text) (options : RunOptions) (before now : Outside) (text : Text) (refusal : Refusal)
    → Prints host told (command.Run (file ∷ []) options) before now text → RunRefused host (texts_of told before) file options refusal → ⊥
run_done host told file options before now text refusal prints (inl due) =
    task_not_refused told file options before now prints.task refusal prints.read due
run_done host told file options before now text refusal prints (inr (other, has, due)) =
    let code = code_of host options in
    let same = same_task told file options before now prints.task other prints.read has in
    fits_no_line code options other refusal (subst (λ (t : Task). Fits code options t) same prints.ran.fits) due

-- ---- a command

command_refused : (host : Code) (told : Shelf) (c : Command) (before now : Outside) (refusal : Refusal) (answer : Exit)
    → CommandStops host told c before now answer → Refuses host (texts_of told before) c refusal → NoReadFault before now
    → IsUnlessMemory (Refused refusal) answer
command_refused host told (command.Run [] options) before now refusal answer stops due calm = inl (stops.0 ∙ ap Refused (sym due))
command_refused host told (command.Run (file ∷ []) options) before now refusal answer stops due calm =
    run_refused host told file options before now refusal answer stops due calm
command_refused host told (command.Run (file ∷ other ∷ more) options) before now refusal answer stops due calm = inl (stops.0 ∙ ap Refused (sym due))
command_refused host told (command.Build files) before now refusal answer stops due calm = inl (stops.0 ∙ ap Refused (sym due))
command_refused host told (command.Exec image options) before now refusal answer stops due calm = inl (stops.0 ∙ ap Refused (sym due))
command_refused host told (command.Check image) before now refusal answer stops due calm = inl (stops.0 ∙ ap Refused (sym due))
command_refused host told (command.Mean files options) before now refusal answer stops due calm = inl (stops.0 ∙ ap Refused (sym due))
command_refused host told (command.Disc word) before now refusal answer stops due calm = absurd stops
command_refused host told (command.Bulk seed size) before now refusal answer stops due calm = inl (stops.0 ∙ ap Refused (sym due))

command_accepted : (host : Code) (told : Shelf) (c : Command) (before now : Outside) (answer : Exit) → CommandStops host told c before now answer
    → Accepts host (texts_of told before) c → NoReadFault before now → answer ≡ Memory
command_accepted host told (command.Run [] options) before now answer stops due calm = absurd due
command_accepted host told (command.Run (file ∷ []) options) before now answer stops due calm =
    run_accepted host told file options before now answer stops due calm
command_accepted host told (command.Run (file ∷ other ∷ more) options) before now answer stops due calm = absurd due
command_accepted host told (command.Build files) before now answer stops due calm = absurd due
command_accepted host told (command.Exec image options) before now answer stops due calm = absurd due
command_accepted host told (command.Check image) before now answer stops due calm = absurd due
command_accepted host told (command.Mean files options) before now answer stops due calm = absurd due
command_accepted host told (command.Disc word) before now answer stops due calm = absurd stops
command_accepted host told (command.Bulk seed size) before now answer stops due calm = absurd due

command_done : (host : Code) (told : Shelf) (c : Command) (before now : Outside) (text : Text) (refusal : Refusal)
    → Prints host told c before now text → Refuses host (texts_of told before) c refusal → ⊥
command_done host told (command.Run [] options) before now text refusal prints due = prints
command_done host told (command.Run (file ∷ []) options) before now text refusal prints due =
    run_done host told file options before now text refusal prints due
command_done host told (command.Run (file ∷ other ∷ more) options) before now text refusal prints due = prints
command_done host told (command.Build files) before now text refusal prints due = prints
command_done host told (command.Exec image options) before now text refusal prints due = prints
command_done host told (command.Check image) before now text refusal prints due = prints
command_done host told (command.Mean files options) before now text refusal prints due = prints
command_done host told (command.Disc word) before now text refusal prints due = due
command_done host told (command.Bulk seed size) before now text refusal prints due = prints

-- ---- the words

one_command : (r : Result Command UseFault) (c d : Command) → r ≡ Ok c → r ≡ Ok d → c ≡ d
one_command r c d one other = let same : Ok c ≡ Ok d = sym one ∙ other in cc

not_both : (r : Result Command UseFault) (c : Command) (rule : UseFault) → r ≡ Ok c → r ≡ Err rule → ⊥
not_both r c rule ok err = let same : Ok c ≡ Err rule = sym ok ∙ err in cc

one_rule : (words : List Text) (rule : UseFault) (answer : Exit) → WordsStop words answer → spelled words ≡ Err rule
    → IsUnlessMemory (Usage rule) answer
one_rule words rule (Usage other) is due = let same : Err other ≡ Err rule = sym is ∙ due in let one : other ≡ rule = cc in inl (ap Usage one)
one_rule words rule Memory is due = inr refl
one_rule words rule answer is due = absurd is

spelled_memory : (words : List Text) (c : Command) (answer : Exit) → WordsStop words answer → spelled words ≡ Ok c → answer ≡ Memory
spelled_memory words c (Usage rule) is due = absurd (not_both (spelled words) c rule due is)
spelled_memory words c Memory is due = refl
spelled_memory words c answer is due = absurd is

stopped_usage : (words : List Text) (host : Code) (told : Shelf) (before now : Outside) (rule : UseFault) (answer : Exit)
    → IsStopped words host told before now answer → spelled words ≡ Err rule → IsUnlessMemory (Usage rule) answer
stopped_usage words host told before now rule answer (inl stops) due = one_rule words rule answer stops.0 due
stopped_usage words host told before now rule answer (inr (c, is, stops)) due = absurd (not_both (spelled words) c rule is due)

stopped_refused : (words : List Text) (host : Code) (told : Shelf) (before now : Outside) (c : Command) (refusal : Refusal) (answer : Exit)
    → IsStopped words host told before now answer → spelled words ≡ Ok c → Refuses host (texts_of told before) c refusal
    → NoReadFault before now → IsUnlessMemory (Refused refusal) answer
stopped_refused words host told before now c refusal answer (inl stops) is due calm = inr (spelled_memory words c answer stops.0 is)
stopped_refused words host told before now c refusal answer (inr (d, spells, stops)) is due calm =
    let same = one_command (spelled words) d c spells is in
    command_refused host told c before now refusal answer (subst (λ (x : Command). CommandStops host told x before now answer) same stops) due calm

stopped_accepted : (words : List Text) (host : Code) (told : Shelf) (before now : Outside) (c : Command) (answer : Exit)
    → IsStopped words host told before now answer → spelled words ≡ Ok c → Accepts host (texts_of told before) c
    → NoReadFault before now → answer ≡ Memory
stopped_accepted words host told before now c answer (inl stops) is due calm = spelled_memory words c answer stops.0 is
stopped_accepted words host told before now c answer (inr (d, spells, stops)) is due calm =
    let same = one_command (spelled words) d c spells is in
    command_accepted host told c before now answer (subst (λ (x : Command). CommandStops host told x before now answer) same stops) due calm

done_refused : (words : List Text) (host : Code) (told : Shelf) (before now : Outside) (c d : Command) (text : Text) (refusal : Refusal)
    → spelled words ≡ Ok d → Prints host told d before now text → spelled words ≡ Ok c → Refuses host (texts_of told before) c refusal → ⊥
done_refused words host told before now c d text refusal spells prints is due =
    let same = one_command (spelled words) d c spells is in
    command_done host told c before now text refusal (subst (λ (x : Command). Prints host told x before now text) same prints) due

-- ---- each cause has its answer

usage : (call : Call) (answer : Exit) (rule : UseFault) → Cause call answer → spelled call.words ≡ Err rule → IsUnlessMemory (Usage rule) answer
usage call Done rule cause due = absurd (not_both (spelled call.words) cause.1.0 rule cause.1.1 due)
usage call WriteFault rule cause due = absurd (not_both (spelled call.words) cause.1.0 rule cause.1.1 due)
usage call answer rule cause due = stopped_usage call.words call.host call.told call.before call.now rule answer cause.0 due

refused : (call : Call) (answer : Exit) (refusal : Refusal) → Cause call answer → IsRefused call refusal → NoReadFault call.before call.now
    → IsUnlessMemory (Refused refusal) answer
refused call Done refusal cause due calm =
    absurd (done_refused call.words call.host call.told call.before call.now due.0 cause.1.0 cause.0 refusal cause.1.1 cause.1.2 due.1 due.2)
refused call WriteFault refusal cause due calm =
    absurd (done_refused call.words call.host call.told call.before call.now due.0 cause.1.0 cause.0 refusal cause.1.1 cause.1.2 due.1 due.2)
refused call answer refusal cause due calm =
    stopped_refused call.words call.host call.told call.before call.now due.0 refusal answer cause.0 due.1 due.2 calm

complete : (call : Call) (answer : Exit) → Cause call answer → IsAccepted call → NoReadFault call.before call.now
    → ¬ Rose call.write_faults_before call.write_faults_now → IsUnlessMemory Done answer
complete call Done cause due calm written = inl refl
complete call WriteFault cause due calm written = absurd (written cause.2.1)
complete call answer cause due calm written =
    inr (stopped_accepted call.words call.host call.told call.before call.now due.0 answer cause.0 due.1 due.2 calm)

pub one_answer : (call : Call) (answer : Exit) → Cause call answer → IsAnswer call answer
one_answer call answer cause = record {
  cause = cause;
  usage = λ rule. usage call answer rule cause;
  refused = λ refusal. refused call answer refusal cause;
  complete = complete call answer cause;
}
