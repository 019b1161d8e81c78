-- What stops a command is never that it is done.
use Rattle.std.proofs.Common.{List, [], ◌∷◌, ◌⊎◌, inl, inr}
use Rattle.pa_pac.specs.Signing.{Code}
use Rattle.pa_words.specs.declared.command.Command.{Command}
use Rattle.pa_words.specs.declared.command.Command.TheVariants as command
use Rattle.pa_words.specs.declared.command.RunOptions.{RunOptions}
use Rattle.pa_task.specs.declared.exit.Exit.{Exit}
use Rattle.pa_task.specs.declared.exit.Exit.TheVariants.{Done, WriteFault}
use Rattle.pa_task.specs.declared.task.Task.{Task}
use Rattle.pa_task.specs.Reading.{Text, Shelf, Outside}
use Rattle.pa_task.proofs.Stops.{IsStop, refused, task_stops}
use Rattle.pa_paclab.specs.Lines.{line_of}
use Rattle.pa_paclab.specs.Runs.{code_of, RunStops}
use Rattle.pa_paclab.specs.Answers.{Call, RunFails, CommandStops, WordsStop, IsStopped, Writes, WritesPart, Cause}

run : (code : Code) (options : RunOptions) (task : Task) (answer : Exit) → RunStops code options task answer → IsStop answer
run code options task Done p = p
run code options task WriteFault p = p
run code options task answer p = tt

words : (all : List Text) (answer : Exit) → WordsStop all answer → IsStop answer
words all Done p = p
words all WriteFault p = p
words all answer p = tt

fails : (host : Code) (told : Shelf) (name : Text) (options : RunOptions) (before now : Outside) (answer : Exit) → RunFails host told name options before now answer → IsStop answer
fails host told name options before now answer (inl p) = task_stops told name options before now answer p
fails host told name options before now answer (inr p) = run (code_of host options) options p.0 answer p.2

command_stops : (host : Code) (told : Shelf) (c : Command) (before now : Outside) (answer : Exit)
    → CommandStops host told c before now answer → IsStop answer
command_stops host told (command.Run [] options) before now answer p = refused answer p.0
command_stops host told (command.Run (name ∷ []) options) before now answer p = fails host told name options before now answer p
command_stops host told (command.Run (name ∷ other ∷ more) options) before now answer p = refused answer p.0
command_stops host told (command.Build files) before now answer p = refused answer p.0
command_stops host told (command.Exec image options) before now answer p = refused answer p.0
command_stops host told (command.Check image) before now answer p = refused answer p.0
command_stops host told (command.Mean files options) before now answer p = refused answer p.0
command_stops host told (command.Disc word) before now answer p = absurd p
command_stops host told (command.Bulk seed size) before now answer p = refused answer p.0

stopped : (all : List Text) (host : Code) (told : Shelf) (before now : Outside) (answer : Exit)
    → IsStopped all host told before now answer → IsStop answer
stopped all host told before now answer (inl p) = words all answer p.0
stopped all host told before now answer (inr p) = command_stops host told p.0 before now answer p.2

-- an answer that stops the command, with its line
pub answered : (call : Call) (answer : Exit) → IsStopped call.words call.host call.told call.before call.now answer
    → Writes call (line_of answer) ⊎ WritesPart call (line_of answer) → Cause call answer
answered call Done stops line = absurd (stopped call.words call.host call.told call.before call.now Done stops)
answered call WriteFault stops line = absurd (stopped call.words call.host call.told call.before call.now WriteFault stops)
answered call answer stops line = (stops, line)
