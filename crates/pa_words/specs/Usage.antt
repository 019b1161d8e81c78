-- The command that words spell, or the first rule of usage that they break.
use Rattle.std.specs.Prelude.{ℕ, List, [], ◌∷◌, map, Bool, false, nat_eq, ◌++◌, not, if◌then◌else◌, Option, Some, None, is_some, unwrap_or, Result, Ok, Err, codes}
use Rattle.std.specs.List.{starts_with}
use Rattle.std.specs.Option.{option_map, option_and_then}
use Rattle.std.specs.Str.{bytes_eq}
use Rattle.pa_words.specs.declared.names.CommandName.{CommandName}
use Rattle.pa_words.specs.declared.names.CommandName.TheVariants as name
use Rattle.pa_words.specs.declared.names.PacName.{PacName}
use Rattle.pa_words.specs.declared.names.PacName.TheVariants.{Host}
use Rattle.pa_words.specs.declared.names.LogForm.{LogForm}
use Rattle.pa_words.specs.declared.names.LogForm.TheVariants.{Full}
use Rattle.pa_words.specs.declared.command.UseFault.{UseFault}
use Rattle.pa_words.specs.declared.command.UseFault.TheVariants.{U1, U2, U3, U4, U5, U6}
use Rattle.pa_words.specs.declared.command.Input.{Input}
use Rattle.pa_words.specs.declared.command.Input.TheVariants as input
use Rattle.pa_words.specs.declared.command.MeanOptions.{MeanOptions}
use Rattle.pa_words.specs.declared.command.RunOptions.{RunOptions}
use Rattle.pa_words.specs.declared.command.Command.{Command}
use Rattle.pa_words.specs.declared.command.Command.TheVariants as command
use Rattle.pa_words.specs.Names.{command_named, option_named, pac_named, log_named, takes}
use Rattle.pa_words.specs.Values.{allowed, steps_of, slide_of, seed_of, fuel_of, size_of}

-- what stands behind the command's name: an option with its value, an option at the end, or an operand
pub data Item : Type 0 where
  Pair : List ℕ → List ℕ → Item
  Bare : List ℕ → Item
  Operand : List ℕ → Item

abbrev pub is_option : List ℕ → Bool
is_option word = starts_with nat_eq word (codes "--")

unfoldable mutual
  pub items : List (List ℕ) → List Item
  items [] = []
  items (w ∷ ws) =
      if bytes_eq w (codes "--") then map Operand ws
      else if is_option w then with_value w ws
      else Operand w ∷ items ws

  pub with_value : List ℕ → List (List ℕ) → List Item
  with_value option [] = Bare option ∷ []
  with_value option (value ∷ ws) = Pair option value ∷ items ws

abbrev pub is_some_and : {A : Type 0} → (A → Bool) → Option A → Bool
is_some_and test None = false
is_some_and test (Some x) = test x

-- the value that an option has among these
unfoldable pub value_of : List ℕ → List Item → Option (List ℕ)
value_of option [] = None
value_of option (Pair name value ∷ more) = if bytes_eq name option then Some value else value_of option more
value_of option (Bare name ∷ more) = value_of option more
value_of option (Operand word ∷ more) = value_of option more

unfoldable pub operands : List Item → List (List ℕ)
operands [] = []
operands (Pair name value ∷ more) = operands more
operands (Bare name ∷ more) = operands more
operands (Operand word ∷ more) = word ∷ operands more

-- whether a word names an option that the command takes
abbrev pub takes_word : CommandName → List ℕ → Bool
takes_word command word = is_some_and (takes command) (option_named word)

-- whether the option that a word names may have a value
abbrev pub allows : List ℕ → List ℕ → Bool
allows word value = is_some_and (λ option. allowed option value) (option_named word)

-- the first broken rule of options, with those that stand before
unfoldable pub first_flaw : CommandName → List Item → List Item → Option UseFault
first_flaw command before [] = None
first_flaw command before (Operand word ∷ more) = first_flaw command (before ++ Operand word ∷ []) more
first_flaw command before (Bare name ∷ more) =
    if not (takes_word command name) then Some U2
    else if is_some (value_of name before) then Some U5
    else Some U3
first_flaw command before (Pair name value ∷ more) =
    if not (takes_word command name) then Some U2
    else if is_some (value_of name before) then Some U5
    else if not (allows name value) then Some U4
    else first_flaw command (before ++ Pair name value ∷ []) more

-- what each option says, where it is given
abbrev pub input_of : List ℕ → Input
input_of w = if bytes_eq w (codes "-") then input.Source else input.File w

abbrev pub input_in : List Item → Option Input
input_in given = option_map input_of (value_of (codes "--input") given)

abbrev pub script_in : List Item → Option (List ℕ)
script_in given = value_of (codes "--script") given

abbrev pub steps_in : List Item → Option ℕ
steps_in given = option_and_then steps_of (value_of (codes "--steps") given)

abbrev pub slide_in : List Item → Option ℕ
slide_in given = option_and_then slide_of (value_of (codes "--slide") given)

abbrev pub pac_in : List Item → Option PacName
pac_in given = option_and_then pac_named (value_of (codes "--pac") given)

abbrev pub seed_in : List Item → Option ℕ
seed_in given = option_and_then seed_of (value_of (codes "--seed") given)

abbrev pub log_in : List Item → Option LogForm
log_in given = option_and_then log_named (value_of (codes "--log") given)

abbrev pub fuel_in : List Item → Option ℕ
fuel_in given = option_and_then fuel_of (value_of (codes "--fuel") given)

-- what the options say of a run, where they are given or not
abbrev pub run_options : List Item → RunOptions
run_options given = record {
  input = unwrap_or (input_in given) input.Empty;
  script = script_in given;
  steps = unwrap_or (steps_in given) 1000000;
  slide = unwrap_or (slide_in given) 0;
  pac = unwrap_or (pac_in given) Host;
  seed = unwrap_or (seed_in given) 0;
  log = unwrap_or (log_in given) Full;
}

-- what they say of a meaning
abbrev pub mean_options : List Item → MeanOptions
mean_options given = record { input = unwrap_or (input_in given) input.Empty; fuel = unwrap_or (fuel_in given) 1000000 }

-- the numbers of `bulk`
abbrev pub bulk_of : Option ℕ → Option ℕ → Result Command UseFault
bulk_of (Some seed) (Some size) = Ok (command.Bulk seed size)
bulk_of seed size = Err U4

-- the command of its name, of what was given and of the operands
abbrev pub command_of : CommandName → List Item → List (List ℕ) → Result Command UseFault
command_of name.Run given (file ∷ files) = Ok (command.Run (file ∷ files) (run_options given))
command_of name.Build given (file ∷ files) = Ok (command.Build (file ∷ files))
command_of name.Mean given (file ∷ files) = Ok (command.Mean (file ∷ files) (mean_options given))
command_of name.Exec given (image ∷ []) = Ok (command.Exec image (run_options given))
command_of name.Check given (image ∷ []) = Ok (command.Check image)
command_of name.Disc given (text ∷ []) = Ok (command.Disc text)
command_of name.Bulk given (seed ∷ size ∷ []) = bulk_of (seed_of seed) (size_of size)
command_of name given words = Err U6

abbrev pub command_unless : Option UseFault → CommandName → List Item → Result Command UseFault
command_unless (Some fault) name given = Err fault
command_unless None name given = command_of name given (operands given)

abbrev pub command_behind : Option CommandName → List Item → Result Command UseFault
command_behind None given = Err U1
command_behind (Some name) given = command_unless (first_flaw name [] given) name given

-- the command that words spell, or the first rule that they break
abbrev pub spelled : List (List ℕ) → Result Command UseFault
spelled [] = Err U1
spelled (w ∷ ws) = command_behind (command_named w) (items ws)
