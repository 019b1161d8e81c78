-- What stops a part that is read is never that the command is done.
use Rattle.std.proofs.Common.{◌≡◌, ℕ, ◌⊎◌, inl, inr, Option, Some, None, sym, subst}
use Rattle.pa_io.specs.Outside.{ShelfSeen, SourceSeen}
use Rattle.pa_words.specs.declared.command.Input.{Input}
use Rattle.pa_words.specs.declared.command.Input.TheVariants as from
use Rattle.pa_words.specs.declared.command.RunOptions.{RunOptions}
use Rattle.pa_task.specs.declared.exit.Exit.{Exit}
use Rattle.pa_task.specs.declared.exit.Exit.TheVariants.{Done, WriteFault, Refused}
use Rattle.pa_task.specs.Refusals.{not_built}
use Rattle.pa_task.specs.Reading.{Text, Shelf, Outside, FileStops, TextStops, IsOtherForm, SourceStops, InputStops, IsNoScript, ScriptStops, TaskStops, AtProgram, AtInput, AtScript}

-- an answer that stops the command
abbrev pub IsStop : Exit → Type 0
IsStop Done = ⊥
IsStop WriteFault = ⊥
IsStop answer = Unit {0}

pub refused : (answer : Exit) → answer ≡ Refused not_built → IsStop answer
refused answer is = subst IsStop (sym is) tt

file : (told : Shelf) (number : ℕ) (name : Text) (before now : ShelfSeen) (answer : Exit) → FileStops told number name before now answer → IsStop answer
file told number name before now Done p = p
file told number name before now WriteFault p = p
file told number name before now answer p = tt

other_form : (text : Text) (answer : Exit) → IsOtherForm text answer → IsStop answer
other_form text Done p = p
other_form text WriteFault p = p
other_form text answer p = tt

no_script : (text : Text) (answer : Exit) → IsNoScript text answer → IsStop answer
no_script text Done p = p
no_script text WriteFault p = p
no_script text answer p = tt

source : (before now : SourceSeen) (answer : Exit) → SourceStops before now answer → IsStop answer
source before now Done p = p
source before now WriteFault p = p
source before now answer p = tt

text : (told : Shelf) (number : ℕ) (name : Text) (before now : ShelfSeen) (Stops : Text → Exit → Type 0) (answer : Exit)
    → ((text : Text) → Stops text answer → IsStop answer) → TextStops told number name before now Stops answer → IsStop answer
text told number name before now Stops answer each (inl p) = file told number name before now answer p
text told number name before now Stops answer each (inr p) = each p.0 p.2

input : (told : Shelf) (of : Input) (before now : Outside) (answer : Exit) → InputStops told of before now answer → IsStop answer
input told from.Empty before now answer p = absurd p
input told from.Source before now answer p = source before.source now.source answer p.1
input told (from.File name) before now answer p = file told 65 name before.shelf now.shelf answer p.0

script : (told : Shelf) (name : Option Text) (before now : ShelfSeen) (answer : Exit) → ScriptStops told name before now answer → IsStop answer
script told None before now answer p = absurd p
script told (Some name) before now answer p = text told 66 name before now IsNoScript answer (λ t. no_script t answer) p

pub task_stops : (told : Shelf) (name : Text) (options : RunOptions) (before now : Outside) (answer : Exit) → TaskStops told name options before now answer → IsStop answer
task_stops told name options before now answer (AtProgram stops same) = text told 1 name before.shelf now.shelf IsOtherForm answer (λ t. other_form t answer) stops
task_stops told name options before now answer (AtInput first program read same stops) = input told options.input first now answer stops
task_stops told name options before now answer (AtScript first second program bytes read same input_read stops same_too) = script told options.script second.shelf now.shelf answer stops
