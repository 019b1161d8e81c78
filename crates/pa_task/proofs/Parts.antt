-- Parts that were read, and parts that stop a command.
use Rattle.std.proofs.Common.{◌≡◌, ℕ, List, ◌⊎◌, inl, inr, Option, Some}
use Rattle.pa_io.specs.Outside.{ShelfSeen}
use Rattle.pa_object.specs.declared.script.Item.{Item}
use Rattle.pa_script.specs.Rules.{Says}
use Rattle.pa_straight.specs.declared.source.Straight.{Straight}
use Rattle.pa_straight.specs.Source.{IsTextOf}
use Rattle.pa_words.specs.declared.command.RunOptions.{RunOptions}
use Rattle.pa_task.specs.declared.exit.Exit.{Exit}
use Rattle.pa_task.specs.Reading.{Text, Shelf, FileRead, FileStops, TextStops, ProgramRead, ScriptRead, Outside, InputRead, InputStops, ScriptStops, TaskStops, AtInput, AtScript}

pub unread : (told : Shelf) (number : ℕ) (name : Text) (before now : ShelfSeen) (Stops : Text → Exit → Type 0) (answer : Exit)
    → FileStops told number name before now answer → TextStops told number name before now Stops answer
unread told number name before now Stops answer stops = inl stops

pub text_stops : (told : Shelf) (number : ℕ) (name : Text) (before now : ShelfSeen) (Stops : Text → Exit → Type 0) (answer : Exit) (text : Text)
    → FileRead told name before now text → Stops text answer → TextStops told number name before now Stops answer
text_stops told number name before now Stops answer text read stops = inr (text, read, stops)

pub program_read : (told : Shelf) (name : Text) (before now : ShelfSeen) (text : Text) (program : Straight)
    → FileRead told name before now text → IsTextOf text program → ProgramRead told name before now program
program_read told name before now text program read spelled = (text, read, spelled)

pub script_read : (told : Shelf) (name : Text) (before now : ShelfSeen) (text : Text) (items : List Item)
    → FileRead told name before now text → Says text items → ScriptRead told (Some name) before now items
script_read told name before now text items read says = (text, read, says)

pub at_input : (told : Shelf) (file : Text) (options : RunOptions) (before first now : Outside) (program : Straight) (answer : Exit)
    → ProgramRead told file before.shelf first.shelf program → first.source ≡ before.source → InputStops told options.input first now answer
    → TaskStops told file options before now answer
at_input told file options before first now program answer read same stops = AtInput first program read same stops

pub at_script : (told : Shelf) (file : Text) (options : RunOptions) (before first second now : Outside) (program : Straight) (bytes : Text) (answer : Exit)
    → ProgramRead told file before.shelf first.shelf program → first.source ≡ before.source → InputRead told options.input first second bytes
    → ScriptStops told options.script second.shelf now.shelf answer → now.source ≡ second.source → TaskStops told file options before now answer
at_script told file options before first second now program bytes answer read same input stops same_too =
    AtScript first second program bytes read same input stops same_too
