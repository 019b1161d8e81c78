-- The names of commands, options and of what options take by name.
use Rattle.std.specs.Prelude.{ℕ, List, Bool, true, false, if◌then◌else◌, Option, Some, None, codes}
use Rattle.std.specs.Str.{bytes_eq}
use Rattle.pa_words.specs.declared.names.CommandName.{CommandName}
use Rattle.pa_words.specs.declared.names.CommandName.TheVariants.{Run, Build, Exec, Check, Mean, Disc, Bulk}
use Rattle.pa_words.specs.declared.names.OptionName.{OptionName}
use Rattle.pa_words.specs.declared.names.OptionName.TheVariants.{Input, Script, Steps, Slide, Pac, Seed, Log, Fuel}
use Rattle.pa_words.specs.declared.names.PacName.{PacName}
use Rattle.pa_words.specs.declared.names.PacName.TheVariants.{Host, Sip, Zero, Fold}
use Rattle.pa_words.specs.declared.names.LogForm.{LogForm}
use Rattle.pa_words.specs.declared.names.LogForm.TheVariants.{Full, Short}

abbrev pub command_named : List ℕ → Option CommandName
command_named w =
    if bytes_eq w (codes "run") then Some Run
    else if bytes_eq w (codes "build") then Some Build
    else if bytes_eq w (codes "exec") then Some Exec
    else if bytes_eq w (codes "check") then Some Check
    else if bytes_eq w (codes "mean") then Some Mean
    else if bytes_eq w (codes "disc") then Some Disc
    else if bytes_eq w (codes "bulk") then Some Bulk
    else None

abbrev pub option_named : List ℕ → Option OptionName
option_named w =
    if bytes_eq w (codes "--input") then Some Input
    else if bytes_eq w (codes "--script") then Some Script
    else if bytes_eq w (codes "--steps") then Some Steps
    else if bytes_eq w (codes "--slide") then Some Slide
    else if bytes_eq w (codes "--pac") then Some Pac
    else if bytes_eq w (codes "--seed") then Some Seed
    else if bytes_eq w (codes "--log") then Some Log
    else if bytes_eq w (codes "--fuel") then Some Fuel
    else None

abbrev pub pac_named : List ℕ → Option PacName
pac_named w =
    if bytes_eq w (codes "host") then Some Host
    else if bytes_eq w (codes "sip") then Some Sip
    else if bytes_eq w (codes "zero") then Some Zero
    else if bytes_eq w (codes "fold") then Some Fold
    else None

abbrev pub log_named : List ℕ → Option LogForm
log_named w =
    if bytes_eq w (codes "full") then Some Full
    else if bytes_eq w (codes "short") then Some Short
    else None

-- which options a command takes: programs that run all but the fuel, the meaning its input and its fuel
abbrev pub takes : CommandName → OptionName → Bool
takes Run Fuel = false
takes Run option = true
takes Exec Fuel = false
takes Exec option = true
takes Mean Input = true
takes Mean Fuel = true
takes Mean option = false
takes command option = false

-- the commands of one file or more
abbrev pub takes_files : CommandName → Bool
takes_files Run = true
takes_files Build = true
takes_files Mean = true
takes_files command = false

-- the commands of one operand
abbrev pub takes_one : CommandName → Bool
takes_one Exec = true
takes_one Check = true
takes_one Disc = true
takes_one command = false
