-- What is known of names, by their numbers, while the declarations of a file are read.
use Rattle.std.specs.Prelude.{ℕ, ◌<◌, Bool, false, List, [], ◌∷◌, get_or, slice_set, Option, Some, None, IfSome, Result, Ok, Err}
use Rattle.pa_ctype.specs.Types.{TypeTree}
use Rattle.pa_typed.specs.declared.unit.Declared.{Declared}
use Rattle.pa_link.specs.declared.known.KnownName.{KnownName}
use Rattle.pa_link.specs.declared.rule.LinkFault.{LinkFault}
use Rattle.pa_link.specs.declared.rule.LinkRule.{LinkRule}
use Rattle.pa_link.specs.Declaring.{broken, with_declaration}
use Rattle.pa_link.specs.Program.{fault}

-- the number of a name's type is below
abbrev pub IsBelow : ℕ → KnownName → Type 0
IsBelow types k = IfSome k.of (λ of. of < types)

abbrev pub AreBelow : ℕ → List KnownName → Type 0
AreBelow types [] = Unit {0}
AreBelow types (k ∷ ks) = IsBelow types k × AreBelow types ks

abbrev pub name_of : Declared → ℕ
name_of d = d.name

abbrev pub type_of : Declared → ℕ
type_of d = d.of

abbrev pub nothing : KnownName
nothing = record { of = None; defined = false }

abbrev pub known_at : List KnownName → ℕ → KnownName
known_at ks name = get_or ks name nothing

-- with a declaration that may define its name, or the rule that it breaks
abbrev pub with_declared : List KnownName → Declared → Bool → ℕ → Option LinkRule → Result (List KnownName) LinkFault
with_declared ks d defines file None = Ok (slice_set ks d.name (with_declaration (known_at ks d.name) defines d.of))
with_declared ks d defines file (Some rule) = Err (fault rule file d.place)

abbrev pub then_more : (List KnownName → Result (List KnownName) LinkFault) → Result (List KnownName) LinkFault → Result (List KnownName) LinkFault
then_more more (Ok ks) = more ks
then_more more (Err fault) = Err fault

module _ (m : ℕ → TypeTree) where
  abbrev pub declares_one : ℕ → List KnownName → Declared → Bool → Result (List KnownName) LinkFault
  declares_one file ks d defines = with_declared ks d defines file (broken m (known_at ks d.name) defines (m d.of))

  -- the declarations of a file, which defines these
  abbrev pub declares_from : (ℕ → ℕ → Bool) → ℕ → List Declared → List KnownName → Result (List KnownName) LinkFault
  declares_from defines file [] ks = Ok ks
  declares_from defines file (d ∷ ds) ks = then_more (declares_from defines file ds) (declares_one file ks d (defines d.name d.place))

-- the fault, or else what is known
abbrev pub outcome : Option LinkFault → List KnownName → Result (List KnownName) LinkFault
outcome None ks = Ok ks
outcome (Some fault) ks = Err fault
