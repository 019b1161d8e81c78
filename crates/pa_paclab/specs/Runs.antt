-- The run that a command asks for, and its report.
use Rattle.std.specs.Prelude.{◌≡◌, ℕ, List, Bool, true, false, ⊤, Some}
use Rattle.pa_pac.specs.Functions.{sip_value, fold_value}
use Rattle.pa_pac.specs.Log.{Log}
use Rattle.pa_pac.specs.Signing.{Code}
use Rattle.pa_object.specs.declared.end.End.{End}
use Rattle.pa_object.specs.Machine.{Machine}
use Rattle.pa_object.specs.Run.{run, end_of}
use Rattle.pa_object.specs.Script.{all_fit}
use Rattle.pa_image.specs.Small.{IsSmall}
use Rattle.pa_image.specs.Writing.{IsLegal}
use Rattle.pa_image.specs.Pal.{pal}
use Rattle.pa_load.specs.Loaded.{State, loaded, begun_in}
use Rattle.pa_script.specs.declared.rule.ScriptRule.TheVariants.{P4}
use Rattle.pa_script.specs.Rules.{first_unfit}
use Rattle.pa_straight_image.specs.Image.{image_of}
use Rattle.pa_straight_image.specs.Shows.{Runs}
use Rattle.pa_words.specs.declared.command.RunOptions.{RunOptions}
use Rattle.pa_words.specs.declared.names.PacName.{PacName}
use Rattle.pa_words.specs.declared.names.PacName.TheVariants.{Host, Sip, Zero, Fold}
use Rattle.pa_words.specs.declared.names.LogForm.{LogForm}
use Rattle.pa_words.specs.declared.names.LogForm.TheVariants.{Full, Short}
use Rattle.pa_task.specs.declared.exit.Exit.{Exit}
use Rattle.pa_task.specs.declared.exit.Exit.TheVariants as exit
use Rattle.pa_task.specs.declared.task.Task.{Task}
use Rattle.pa_task.specs.Refusals.{bad_line}

-- the PAC function of a name: the host's, or a shipped one
abbrev pub code_named : Code → (seed : ℕ) → PacName → Code
code_named host seed Host = host
code_named host seed Sip = sip_value seed 0
code_named host seed Zero = λ _ _ _. 0
code_named host seed Fold = fold_value

abbrev pub code_of : Code → RunOptions → Code
code_of host options = code_named host options.seed options.pac

abbrev pub is_short : LogForm → Bool
is_short Full = false
is_short Short = true

-- the state in which the program's image begins, beside the runtime image
abbrev pub state_of : Code → RunOptions → Task → State
state_of code options task = loaded code (image_of task.program) pal options.slide

-- the machine after the run, beside the second writer of the script
abbrev pub run_of : Code → RunOptions → Task → Machine
run_of code options task =
    run code task.script options.steps (begun_in (state_of code options task) task.input)

-- each item of the script fits the memory
abbrev pub Fits : Code → RunOptions → Task → Type 0
Fits code options task = all_fit task.script (state_of code options task).memory ≡ true

-- The run of a task leaves this output, this end and this log. The image of its program is legal and small, each run of the image
-- without a script, under every PAC function and every slide, prints and returns what the program says, takes only what was signed,
-- and enters the functions that the program calls; and each item of the script fits the memory.
pub record IsRun (code : Code) (options : RunOptions) (task : Task) (output : List ℕ) (end : End) (log : Log) : Type 0 where
  pub legal : IsLegal (image_of task.program)
  pub small : IsSmall (image_of task.program)
  pub runs : Runs (image_of task.program) task.program
  pub fits : Fits code options task
  pub output_is : output ≡ (run_of code options task).output
  pub end_is : end ≡ end_of (run_of code options task)
  pub log_is : log ≡ (run_of code options task).log

-- why nothing was run: a line of the script doesn't fit the memory, and it is the first
abbrev pub RunStops : Code → RunOptions → Task → Exit → Type 0
RunStops code options task (exit.Refused refusal) =
    (line : ℕ) × (refusal ≡ bad_line P4 line) × (first_unfit task.script (state_of code options task).memory ≡ Some line)
RunStops code options task exit.Memory = ⊤
RunStops code options task answer = ⊥
