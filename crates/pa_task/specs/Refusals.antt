-- The refusals: which rule, in which file, and where.
use Rattle.std.specs.Prelude.{ℕ}
use Rattle.pa_script.specs.declared.rule.ScriptRule.{ScriptRule}
use Rattle.pa_words.specs.declared.command.WordsFault.{WordsFault}
use Rattle.pa_words.specs.declared.command.WordsFault.TheVariants as words
use Rattle.pa_task.specs.declared.exit.Exit.{Exit}
use Rattle.pa_task.specs.declared.exit.Exit.TheVariants as exit
use Rattle.pa_task.specs.declared.exit.Refusal.{Refusal}
use Rattle.pa_task.specs.declared.exit.Rule.TheVariants.{M6, N1, Script}

-- how many bytes a source, an input or a script may have
abbrev pub most_bytes : ℕ
most_bytes = 1048576

-- the numbers of files: sources are numbered by their place among the operands from 1
abbrev pub first_file : ℕ
first_file = 1

abbrev pub input_file : ℕ
input_file = 65

abbrev pub script_file : ℕ
script_file = 66

-- a file has more bytes than it may have; the place is how many it may have
abbrev pub too_long : (file : ℕ) → Refusal
too_long file = record { rule = M6; file = file; place = most_bytes }

-- what the words ask for, or the form of the program, isn't built
abbrev pub not_built : Refusal
not_built = record { rule = N1; file = 0; place = 0 }

-- a line of the script breaks a rule
abbrev pub bad_line : ScriptRule → (line : ℕ) → Refusal
bad_line rule line = record { rule = Script rule; file = script_file; place = line }

-- the answer where words spell no command
abbrev pub exit_of : WordsFault → Exit
exit_of (words.Usage fault) = exit.Usage fault
exit_of words.Memory = exit.Memory
