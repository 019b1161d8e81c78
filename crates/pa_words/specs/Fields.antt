-- What has been given so far, field by field.
use Rattle.std.specs.Prelude.{◌≡◌, ℕ, List, Bool, Some, is_some}
use Rattle.pa_words.specs.declared.names.OptionName.{OptionName}
use Rattle.pa_words.specs.declared.names.OptionName.TheVariants as option
use Rattle.pa_words.specs.declared.command.MeanOptions.{MeanOptions}
use Rattle.pa_words.specs.declared.command.RunOptions.{RunOptions}
use Rattle.pa_words.specs.declared.given.Given.{Given}
use Rattle.pa_words.specs.Names.{pac_named, log_named}
use Rattle.pa_words.specs.Values.{steps_of, slide_of, seed_of, fuel_of}
use Rattle.pa_words.specs.Usage.{Item, input_of, input_in, script_in, steps_in, slide_in, pac_in, seed_in, log_in, fuel_in, run_options, mean_options}

abbrev pub given_in : List Item → Given
given_in given = record {
  input = input_in given;
  script = script_in given;
  steps = steps_in given;
  slide = slide_in given;
  pac = pac_in given;
  seed = seed_in given;
  log = log_in given;
  fuel = fuel_in given;
}

abbrev pub is_given : Given → OptionName → Bool
is_given g option.Input = is_some g.input
is_given g option.Script = is_some g.script
is_given g option.Steps = is_some g.steps
is_given g option.Slide = is_some g.slide
is_given g option.Pac = is_some g.pac
is_given g option.Seed = is_some g.seed
is_given g option.Log = is_some g.log
is_given g option.Fuel = is_some g.fuel

-- the fields once an option has a value
abbrev pub with_option : Given → OptionName → List ℕ → Given
with_option g option.Input w = record g { input = Some (input_of w) }
with_option g option.Script w = record g { script = Some w }
with_option g option.Steps w = record g { steps = steps_of w }
with_option g option.Slide w = record g { slide = slide_of w }
with_option g option.Pac w = record g { pac = pac_named w }
with_option g option.Seed w = record g { seed = seed_of w }
with_option g option.Log w = record g { log = log_named w }
with_option g option.Fuel w = record g { fuel = fuel_of w }

-- these options are what was given says of a run, and of a meaning
abbrev pub SaysRun : Given → RunOptions → Type 0
SaysRun g options = (given : List Item) → g ≡ given_in given → options ≡ run_options given

abbrev pub SaysMean : Given → MeanOptions → Type 0
SaysMean g options = (given : List Item) → g ≡ given_in given → options ≡ mean_options given
