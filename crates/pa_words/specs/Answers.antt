-- The answers of the calls.
use Rattle.std.specs.Prelude.{◌≡◌, ℕ, List, [], ◌∷◌, ⊤, Some, None, Result, Ok, Err}
use Rattle.pa_words.specs.declared.command.Command.{Command}
use Rattle.pa_words.specs.declared.command.UseFault.{UseFault}
use Rattle.pa_words.specs.declared.command.WordsFault.{WordsFault}
use Rattle.pa_words.specs.declared.command.WordsFault.TheVariants as fault
use Rattle.pa_words.specs.declared.given.Given.{Given}
use Rattle.pa_words.specs.declared.names.CommandName.{CommandName}
use Rattle.pa_words.specs.declared.names.CommandName.TheVariants.{Bulk}
use Rattle.pa_words.specs.Fields.{given_in}
use Rattle.pa_words.specs.Reading.{Reaches}
use Rattle.pa_words.specs.Usage.{Item, items, operands, first_flaw, command_of, spelled}

-- the words spell this command
abbrev pub IsSpelled : List (List ℕ) → Command → Type 0
IsSpelled words command = spelled words ≡ Ok command

-- out of memory, or the words break this rule first
abbrev pub IsUsage : List (List ℕ) → WordsFault → Type 0
IsUsage words (fault.Usage rule) = spelled words ≡ Err rule
IsUsage words fault.Memory = ⊤

-- out of memory, or the options break this rule first
abbrev pub IsFlaw : CommandName → List (List ℕ) → WordsFault → Type 0
IsFlaw name words (fault.Usage rule) = first_flaw name [] (items words) ≡ Some rule
IsFlaw name words fault.Memory = ⊤

-- the options break no rule, and these are their fields and the operands
pub record AllRead (name : CommandName) (words : List (List ℕ)) (given : Given) (got : List (List ℕ)) : Type 0 where
  pub flawless : first_flaw name [] (items words) ≡ None
  pub fields : given ≡ given_in (items words)
  pub words_got : got ≡ operands (items words)

-- an option's word and its value are read
abbrev pub OptionTaken : CommandName → List ℕ → List (List ℕ) → Given → Given → List (List ℕ) → Type 0
OptionTaken name word behind before after rest = (all got : List (List ℕ)) → Reaches name all before got (word ∷ behind) → Reaches name all after got rest

-- an option breaks this rule
abbrev pub OptionRefused : CommandName → List ℕ → List (List ℕ) → Given → UseFault → Type 0
OptionRefused name word behind before rule = (all got : List (List ℕ)) → Reaches name all before got (word ∷ behind) → first_flaw name [] (items all) ≡ Some rule

-- this is the answer that the command's name, fields and operands give
abbrev pub IsCommand : CommandName → Given → List (List ℕ) → Result Command UseFault → Type 0
IsCommand name given got answer = (read : List Item) → given ≡ given_in read → command_of name read got ≡ answer

-- the command of two numbers
abbrev pub BulkOf : List (List ℕ) → Result Command UseFault → Type 0
BulkOf got answer = command_of Bulk [] got ≡ answer
