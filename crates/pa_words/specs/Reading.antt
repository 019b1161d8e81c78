-- How far words have been read.
use Rattle.std.specs.Prelude.{◌≡◌, ℕ, List, [], ◌++◌, true, Some, codes}
use Rattle.pa_words.specs.declared.names.CommandName.{CommandName}
use Rattle.pa_words.specs.declared.names.OptionName.{OptionName}
use Rattle.pa_words.specs.declared.names.OptionName.TheVariants as option
use Rattle.pa_words.specs.declared.given.Given.{Given}
use Rattle.pa_words.specs.Fields.{given_in}
use Rattle.pa_words.specs.Usage.{Item, items, operands, first_flaw, value_of}
use Rattle.pa_words.specs.Values.{allowed}

-- the word that names an option
abbrev pub word_of : OptionName → List ℕ
word_of option.Input = codes "--input"
word_of option.Script = codes "--script"
word_of option.Steps = codes "--steps"
word_of option.Slide = codes "--slide"
word_of option.Pac = codes "--pac"
word_of option.Seed = codes "--seed"
word_of option.Log = codes "--log"
word_of option.Fuel = codes "--fuel"

-- all words but the rest are read: no rule is broken by then, and this is what they gave
pub record Reaches (name : CommandName) (all : List (List ℕ)) (given : Given) (got rest : List (List ℕ)) : Type 0 where
  pub done : List Item
  pub split : items all ≡ done ++ items rest
  pub flaw : first_flaw name [] (items all) ≡ first_flaw name done (items rest)
  pub fields : given ≡ given_in done
  pub allowed_values : (option : OptionName) (value : List ℕ) → value_of (word_of option) done ≡ Some value → allowed option value ≡ true
  pub words : got ≡ operands done
