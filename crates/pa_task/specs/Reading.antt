-- What a run reads, part by part: its program, its input and its script; and why a part stops the command.
use Rattle.std.specs.Prelude.{◌≡◌, ℕ, ◌≤◌, List, [], length, ⊤, ◌⊎◌, Option, Some, None}
use Rattle.pa_io.specs.declared.outside.ShelfFault.TheVariants as fault
use Rattle.pa_io.specs.Outside.{Told, IsFile, IsLonger, Rose, ShelfSeen, SourceSeen, CameWhole, CamePartly, with_given}
use Rattle.pa_object.specs.declared.script.Item.{Item}
use Rattle.pa_script.specs.declared.rule.ScriptRule.{ScriptRule}
use Rattle.pa_script.specs.Rules.{Says, IsRefused}
use Rattle.pa_straight.specs.declared.source.Straight.{Straight}
use Rattle.pa_straight.specs.Source.{IsTextOf, IsNoText}
use Rattle.pa_words.specs.declared.command.Input.{Input}
use Rattle.pa_words.specs.declared.command.Input.TheVariants as input
use Rattle.pa_words.specs.declared.command.RunOptions.{RunOptions}
use Rattle.pa_task.specs.declared.exit.Exit.{Exit}
use Rattle.pa_task.specs.declared.exit.Exit.TheVariants as exit
use Rattle.pa_task.specs.declared.task.Task.{Task}
use Rattle.pa_task.specs.Refusals.{most_bytes, first_file, input_file, script_file, too_long, not_built, bad_line}

abbrev pub Text : Type 0
Text = List ℕ

-- what a shelf tells of each name
abbrev pub Shelf : Type 0
Shelf = Text → Told

-- what is seen of the shelf and of the source at a moment
pub record Outside : Type 0 where
  pub shelf : ShelfSeen
  pub source : SourceSeen

-- ---- a file

-- the shelf once it has given this text under the name: it keeps what it doesn't tell
abbrev pub with_file : Shelf → (name text : Text) → ShelfSeen → ShelfSeen
with_file told name text seen = record seen { given = with_given (told name) seen.given name text }

-- the file was read, and this is its text
pub record FileRead (told : Shelf) (name : Text) (before now : ShelfSeen) (text : Text) : Type 0 where
  pub is_file : IsFile (told name) text
  pub within : length text ≤ most_bytes
  pub seen : now ≡ with_file told name text before

-- the reading of the file failed
pub record Failed (name : Text) (before now : ShelfSeen) : Type 0 where
  pub rose : Rose before.faults now.faults
  pub failed : now.failed ≡ Some name
  pub nothing : now.given ≡ before.given

-- why the file of this number wasn't read
abbrev pub FileStops : Shelf → (number : ℕ) → (name : Text) → ShelfSeen → ShelfSeen → Exit → Type 0
FileStops told number name before now (exit.ReadFault file) = (file ≡ number) × Failed name before now
FileStops told number name before now (exit.Refused refusal) =
    (refusal ≡ too_long number) × IsLonger (told name) most_bytes × (now ≡ before)
FileStops told number name before now exit.Memory = now ≡ before
FileStops told number name before now answer = ⊥

-- it wasn't read, or its text stops the command
abbrev pub TextStops : Shelf → ℕ → Text → ShelfSeen → ShelfSeen → (Text → Exit → Type 0) → Exit → Type 0
TextStops told number name before now Stops answer =
    FileStops told number name before now answer ⊎ ((text : Text) × FileRead told name before now text × Stops text answer)

-- ---- the program

abbrev pub ProgramRead : Shelf → (name : Text) → ShelfSeen → ShelfSeen → Straight → Type 0
ProgramRead told name before now program = (text : Text) × FileRead told name before now text × IsTextOf text program

-- the text isn't of the form that is built
abbrev pub IsOtherForm : Text → Exit → Type 0
IsOtherForm text (exit.Refused refusal) = (refusal ≡ not_built) × IsNoText text
IsOtherForm text exit.Memory = ⊤
IsOtherForm text answer = ⊥

abbrev pub ProgramStops : Shelf → (name : Text) → ShelfSeen → ShelfSeen → Exit → Type 0
ProgramStops told name before now answer = TextStops told first_file name before now IsOtherForm answer

-- ---- the input

abbrev pub InputRead : Shelf → Input → Outside → Outside → Text → Type 0
InputRead told input.Empty before now bytes = (bytes ≡ []) × (now ≡ before)
InputRead told input.Source before now bytes =
    (now.shelf ≡ before.shelf) × CameWhole most_bytes before.source now.source bytes
InputRead told (input.File name) before now bytes =
    FileRead told name before.shelf now.shelf bytes × (now.source ≡ before.source)

-- why not all that the source has left was read
abbrev pub SourceStops : SourceSeen → SourceSeen → Exit → Type 0
SourceStops before now exit.InputFault = CamePartly most_bytes before now fault.Failed
SourceStops before now (exit.Refused refusal) =
    (refusal ≡ too_long input_file) × CamePartly most_bytes before now fault.Long
SourceStops before now exit.Memory = CamePartly most_bytes before now fault.Memory
SourceStops before now answer = ⊥

abbrev pub InputStops : Shelf → Input → Outside → Outside → Exit → Type 0
InputStops told input.Empty before now answer = ⊥
InputStops told input.Source before now answer =
    (now.shelf ≡ before.shelf) × SourceStops before.source now.source answer
InputStops told (input.File name) before now answer =
    FileStops told input_file name before.shelf now.shelf answer × (now.source ≡ before.source)

-- unless the input comes from the source
abbrev pub NotSource : Input → Type 0 → Type 0
NotSource input.Source P = ⊤
NotSource other P = P

-- ---- the script

abbrev pub ScriptRead : Shelf → Option Text → ShelfSeen → ShelfSeen → List Item → Type 0
ScriptRead told None before now items = (items ≡ []) × (now ≡ before)
ScriptRead told (Some name) before now items = (text : Text) × FileRead told name before now text × Says text items

-- a line breaks a rule, and none before it
abbrev pub IsNoScript : Text → Exit → Type 0
IsNoScript text (exit.Refused refusal) =
    (rule : ScriptRule) × (line : ℕ) × (refusal ≡ bad_line rule line) × IsRefused text rule line
IsNoScript text exit.Memory = ⊤
IsNoScript text answer = ⊥

abbrev pub ScriptStops : Shelf → Option Text → ShelfSeen → ShelfSeen → Exit → Type 0
ScriptStops told None before now answer = ⊥
ScriptStops told (Some name) before now answer = TextStops told script_file name before now IsNoScript answer

-- ---- all of them, in this order

pub record TaskRead (told : Shelf) (file : Text) (options : RunOptions) (before now : Outside) (task : Task) : Type 0 where
  pub first : Outside
  pub program : ProgramRead told file before.shelf first.shelf task.program
  pub no_source : first.source ≡ before.source
  pub second : Outside
  pub input : InputRead told options.input first second task.input
  pub script : ScriptRead told options.script second.shelf now.shelf task.script
  pub no_more_source : now.source ≡ second.source

-- which part stops the command, those before it being read
pub data TaskStops (told : Shelf) (file : Text) (options : RunOptions) (before now : Outside) (answer : Exit) : Type 0 where
  AtProgram : ProgramStops told file before.shelf now.shelf answer → now.source ≡ before.source
      → TaskStops told file options before now answer
  AtInput : (first : Outside) (program : Straight) → ProgramRead told file before.shelf first.shelf program
      → first.source ≡ before.source → InputStops told options.input first now answer
      → TaskStops told file options before now answer
  AtScript : (first second : Outside) (program : Straight) (bytes : Text) → ProgramRead told file before.shelf first.shelf program
      → first.source ≡ before.source → InputRead told options.input first second bytes
      → ScriptStops told options.script second.shelf now.shelf answer → now.source ≡ second.source
      → TaskStops told file options before now answer
