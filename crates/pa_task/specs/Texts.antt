-- What the texts of a run are and which check they don't pass first, where each text is told.
use Rattle.std.specs.Prelude.{◌≡◌, ℕ, ◌<◌, ◌≤◌, List, [], length, ◌⊎◌, Option, Some, None}
use Rattle.pa_io.specs.Outside.{Holds, Rose}
use Rattle.pa_object.specs.declared.script.Item.{Item}
use Rattle.pa_script.specs.Rules.{Says}
use Rattle.pa_straight.specs.declared.source.Straight.{Straight}
use Rattle.pa_straight.specs.Source.{IsTextOf}
use Rattle.pa_words.specs.declared.command.Input.{Input}
use Rattle.pa_words.specs.declared.command.Input.TheVariants as input
use Rattle.pa_words.specs.declared.command.RunOptions.{RunOptions}
use Rattle.pa_task.specs.declared.exit.Exit.{Exit}
use Rattle.pa_task.specs.declared.exit.Exit.TheVariants as exit
use Rattle.pa_task.specs.declared.exit.Refusal.{Refusal}
use Rattle.pa_task.specs.declared.task.Task.{Task}
use Rattle.pa_task.specs.Reading.{Text, Shelf, Outside, IsOtherForm, IsNoScript}
use Rattle.pa_task.specs.Refusals.{most_bytes, first_file, input_file, script_file, too_long}

-- what a shelf tells of each name, and what a source has left where it tells that
pub record Texts : Type 0 where
  pub told : Shelf
  pub left : Option Text

abbrev pub texts_of : Shelf → Outside → Texts
texts_of told before = record { told = told; left = before.source.left }

-- ---- texts that pass their checks

-- the shelf tells of the name a text that isn't too long
pub record HasText (told : Shelf) (name text : Text) : Type 0 where
  pub holds : told name ≡ Holds text
  pub within : length text ≤ most_bytes

abbrev pub HasProgram : Texts → (file : Text) → Straight → Type 0
HasProgram texts file program = (text : Text) × HasText texts.told file text × IsTextOf text program

-- the input: nothing, the text of a file, or all that the source has left
abbrev pub IsInput : Texts → Input → Text → Type 0
IsInput texts input.Empty bytes = bytes ≡ []
IsInput texts input.Source bytes = texts.left ≡ Some bytes
IsInput texts (input.File name) bytes = texts.told name ≡ Holds bytes

abbrev pub HasInput : Texts → Input → Text → Type 0
HasInput texts of bytes = IsInput texts of bytes × (length bytes ≤ most_bytes)

abbrev pub HasScript : Texts → Option Text → List Item → Type 0
HasScript texts None items = items ≡ []
HasScript texts (Some name) items = (text : Text) × HasText texts.told name text × Says text items

-- all parts of a run pass, and are these
pub record HasTask (texts : Texts) (file : Text) (options : RunOptions) (task : Task) : Type 0 where
  pub program : HasProgram texts file task.program
  pub input : HasInput texts options.input task.input
  pub script : HasScript texts options.script task.script

-- ---- texts that don't

-- the shelf tells of the name a text that is too long, or one with this refusal
abbrev pub TextRefused : Shelf → (number : ℕ) → (name : Text) → (Text → Exit → Type 0) → Refusal → Type 0
TextRefused told number name Stops refusal =
    (text : Text) × (told name ≡ Holds text) × (((most_bytes < length text) × (refusal ≡ too_long number))
    ⊎ ((length text ≤ most_bytes) × Stops text (exit.Refused refusal)))

abbrev pub ProgramRefused : Texts → (file : Text) → Refusal → Type 0
ProgramRefused texts file refusal = TextRefused texts.told first_file file IsOtherForm refusal

abbrev pub InputRefused : Texts → Input → Refusal → Type 0
InputRefused texts of refusal =
    (bytes : Text) × IsInput texts of bytes × (most_bytes < length bytes) × (refusal ≡ too_long input_file)

abbrev pub ScriptRefused : Texts → Option Text → Refusal → Type 0
ScriptRefused texts None refusal = ⊥
ScriptRefused texts (Some name) refusal = TextRefused texts.told script_file name IsNoScript refusal

-- the first part of a run that doesn't pass, with its refusal
pub data TaskRefused (texts : Texts) (file : Text) (options : RunOptions) (refusal : Refusal) : Type 0 where
  ByProgram : ProgramRefused texts file refusal → TaskRefused texts file options refusal
  ByInput : (program : Straight) → HasProgram texts file program → InputRefused texts options.input refusal
      → TaskRefused texts file options refusal
  ByScript : (program : Straight) (bytes : Text) → HasProgram texts file program → HasInput texts options.input bytes
      → ScriptRefused texts options.script refusal → TaskRefused texts file options refusal

-- ---- answers

-- no reading of the shelf or of the source failed
pub record NoReadFault (before now : Outside) : Type 0 where
  pub shelf : ¬ Rose before.shelf.faults now.shelf.faults
  pub source : ¬ Rose before.source.faults now.source.faults

-- this answer, but for out of memory
abbrev pub IsUnlessMemory : Exit → Exit → Type 0
IsUnlessMemory expected answer = (answer ≡ expected) ⊎ (answer ≡ exit.Memory)
