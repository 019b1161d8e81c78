-- When each answer of the top call comes, and what is written then.
use Rattle.std.specs.Prelude.{◌≡◌, ℕ, List, [], ◌∷◌, ⊤, ◌⊎◌, Option, Result, Ok, Err}
use Rattle.pa_io.specs.Outside.{Rose, Grew, GrewByProperPrefix}
use Rattle.pa_pac.specs.Signing.{Code}
use Rattle.pa_sip.specs.Discriminator.{discriminator}
use Rattle.pa_engine.specs.Report.{report_text}
use Rattle.pa_object.specs.declared.end.End.{End}
use Rattle.pa_pac.specs.Log.{Log}
use Rattle.pa_words.specs.declared.command.Command.{Command}
use Rattle.pa_words.specs.declared.command.Command.TheVariants as command
use Rattle.pa_words.specs.declared.command.RunOptions.{RunOptions}
use Rattle.pa_words.specs.declared.command.UseFault.{UseFault}
use Rattle.pa_words.specs.Usage.{spelled}
use Rattle.pa_task.specs.declared.exit.Exit.{Exit}
use Rattle.pa_task.specs.declared.exit.Exit.TheVariants as exit
use Rattle.pa_task.specs.declared.exit.Refusal.{Refusal}
use Rattle.pa_task.specs.declared.task.Task.{Task}
use Rattle.pa_paclab.specs.Lines.{line_of}
use Rattle.pa_paclab.specs.Printed.{disc_line}
use Rattle.pa_task.specs.Reading.{Text, Shelf, Outside, NotSource, TaskRead, TaskStops}
use Rattle.pa_task.specs.Refusals.{not_built}
use Rattle.pa_task.specs.Texts.{Texts, texts_of, HasTask, TaskRefused, NoReadFault, IsUnlessMemory}
use Rattle.pa_paclab.specs.Runs.{code_of, is_short, Fits, IsRun, RunStops}

-- ---- commands

-- this is the report of the run of a task that was read
pub record Reports (host : Code) (told : Shelf) (file : Text) (options : RunOptions) (before now : Outside) (text : Text) : Type 0 where
  pub task : Task
  pub read : TaskRead told file options before now task
  pub output : Text
  pub end : End
  pub log : Log
  pub ran : IsRun (code_of host options) options task output end log
  pub is : text ≡ report_text output end log (is_short options.log)

-- a run isn't done: a part of it isn't read, or nothing is run
abbrev pub RunFails : Code → Shelf → Text → RunOptions → Outside → Outside → Exit → Type 0
RunFails host told file options before now answer =
    TaskStops told file options before now answer
    ⊎ ((task : Task) × TaskRead told file options before now task × RunStops (code_of host options) options task answer)

-- what a command prints where it is done: `run` of one file a report, `disc` a discriminator
abbrev pub Prints : Code → Shelf → Command → Outside → Outside → Text → Type 0
Prints host told (command.Run (file ∷ []) options) before now text = Reports host told file options before now text
Prints host told (command.Disc word) before now text = (text ≡ disc_line (discriminator word)) × (now ≡ before)
Prints host told other before now text = ⊥

-- why a command isn't done; those that aren't built read nothing
abbrev pub CommandStops : Code → Shelf → Command → Outside → Outside → Exit → Type 0
CommandStops host told (command.Run (file ∷ []) options) before now answer = RunFails host told file options before now answer
CommandStops host told (command.Disc word) before now answer = ⊥
CommandStops host told other before now answer = (answer ≡ exit.Refused not_built) × (now ≡ before)

-- why there is no command: the words break a rule, or out of memory
abbrev pub WordsStop : List Text → Exit → Type 0
WordsStop words (exit.Usage fault) = spelled words ≡ Err fault
WordsStop words exit.Memory = Unit {0}
WordsStop words answer = ⊥

-- the words spell a command that prints this text
abbrev pub IsDone : List Text → Code → Shelf → Outside → Outside → Text → Type 0
IsDone words host told before now text =
    (c : Command) × (spelled words ≡ Ok c) × Prints host told c before now text

-- the words spell no command, or one that stops with this answer
abbrev pub IsStopped : List Text → Code → Shelf → Outside → Outside → Exit → Type 0
IsStopped words host told before now answer =
    (WordsStop words answer × (now ≡ before))
    ⊎ ((c : Command) × (spelled words ≡ Ok c) × CommandStops host told c before now answer)

-- ---- what texts call for, where no reading fails and memory suffices

-- a run's texts don't pass their checks, or a line of its script doesn't fit the memory
abbrev pub RunRefused : Code → Texts → Text → RunOptions → Refusal → Type 0
RunRefused host texts file options refusal =
    TaskRefused texts file options refusal
    ⊎ ((task : Task) × HasTask texts file options task × RunStops (code_of host options) options task (exit.Refused refusal))

-- a run's texts pass, and each line of its script fits
abbrev pub RunAccepted : Code → Texts → Text → RunOptions → Type 0
RunAccepted host texts file options =
    (task : Task) × HasTask texts file options task × Fits (code_of host options) options task

abbrev pub Refuses : Code → Texts → Command → Refusal → Type 0
Refuses host texts (command.Run (file ∷ []) options) refusal = RunRefused host texts file options refusal
Refuses host texts (command.Disc word) refusal = ⊥
Refuses host texts other refusal = refusal ≡ not_built

abbrev pub Accepts : Code → Texts → Command → Type 0
Accepts host texts (command.Run (file ∷ []) options) = RunAccepted host texts file options
Accepts host texts (command.Disc word) = ⊤
Accepts host texts other = ⊥

-- ---- the source

-- unless a command reads the source: a run of one file whose input comes from there
abbrev pub KeepsSource : Command → Type 0 → Type 0
KeepsSource (command.Run (file ∷ []) options) P = NotSource options.input P
KeepsSource other P = P

-- unless the words spell such a command
abbrev pub UnlessFromSource : Result Command UseFault → Type 0 → Type 0
UnlessFromSource (Ok c) P = KeepsSource c P
UnlessFromSource (Err fault) P = P

-- ---- a call

-- the words, the host's PAC function, what the shelf tells, and what is seen of the shelf, the source and the sink before and now
pub record Call : Type 0 where
  pub words : List Text
  pub host : Code
  pub told : Shelf
  pub before : Outside
  pub now : Outside
  pub written_before : Option Text
  pub written_now : Option Text
  pub write_faults_before : ℕ
  pub write_faults_now : ℕ

-- the whole text is written, and no write failed
abbrev pub Writes : Call → Text → Type 0
Writes call text = Grew call.written_before call.written_now text × (call.write_faults_now ≡ call.write_faults_before)

-- a write failed, and a proper prefix of the text is written
abbrev pub WritesPart : Call → Text → Type 0
WritesPart call text =
    GrewByProperPrefix call.written_before call.written_now text × Rose call.write_faults_before call.write_faults_now

-- the command is done, and this is written of its text
abbrev pub DoneWriting : Call → (Call → Text → Type 0) → Type 0
DoneWriting call Written =
    (text : Text) × IsDone call.words call.host call.told call.before call.now text × Written call text

-- each answer: why it comes, and what is written then
abbrev pub Cause : Call → Exit → Type 0
Cause call exit.Done = DoneWriting call Writes
Cause call exit.WriteFault = DoneWriting call WritesPart
Cause call answer =
    IsStopped call.words call.host call.told call.before call.now answer
    × (Writes call (line_of answer) ⊎ WritesPart call (line_of answer))

-- the words spell a command that its texts refuse so, or that they accept
abbrev pub IsRefused : Call → Refusal → Type 0
IsRefused call refusal =
    (c : Command) × (spelled call.words ≡ Ok c) × Refuses call.host (texts_of call.told call.before) c refusal

abbrev pub IsAccepted : Call → Type 0
IsAccepted call =
    (c : Command) × (spelled call.words ≡ Ok c) × Accepts call.host (texts_of call.told call.before) c

-- Each answer has its cause, and each cause its answer, but for out of memory: where the words break a rule of usage; where the texts
-- are refused, and no reading failed; and where they are accepted, and nothing failed.
pub record IsAnswer (call : Call) (answer : Exit) : Type 0 where
  pub cause : Cause call answer
  pub usage : (rule : UseFault) → spelled call.words ≡ Err rule → IsUnlessMemory (exit.Usage rule) answer
  pub refused : (refusal : Refusal) → IsRefused call refusal → NoReadFault call.before call.now
      → IsUnlessMemory (exit.Refused refusal) answer
  pub complete : IsAccepted call → NoReadFault call.before call.now → ¬ Rose call.write_faults_before call.write_faults_now
      → IsUnlessMemory exit.Done answer
