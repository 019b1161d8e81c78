-- Values of the code as values of C, where these names stand for numbers.
use Rattle.std.specs.Prelude.{◌≡◌, ℕ, suc, max, List, Option, option_map}
use Rattle.pa_ctype.specs.Values as c
use Rattle.pa_ctype.specs.Values.{CValue}
use Rattle.pa_ctype.specs.Tables.{AreApart}
use Rattle.pa_store.specs.declared.value.Owner.{Owner}
use Rattle.pa_store.specs.declared.value.Owner.TheVariants as owner
use Rattle.pa_store.specs.declared.value.Place.{Place}
use Rattle.pa_store.specs.declared.value.Value.{Value}
use Rattle.pa_store.specs.declared.value.Value.TheVariants as value

module _ (names : ℕ → List ℕ) where
  abbrev pub owner_tree : Owner → c.Owner
  owner_tree (owner.Global name) = c.Global (names name)
  owner_tree (owner.Text index) = c.Text index
  owner_tree (owner.Local number) = c.Local number

  abbrev pub place_tree : Place → c.Place
  place_tree place = record { owner = owner_tree place.owner; offset = place.offset }

  abbrev pub value_tree : Value → CValue
  value_tree (value.Number number) = c.Number number
  value_tree (value.At place) = c.At (place_tree place)
  value_tree (value.Code name) = c.Code (names name)
  value_tree value.Null = c.Null

-- so whatever numbers stand for
abbrev pub ForTrees : ((Value → CValue) → Type 0) → Type 0
ForTrees P = (names : ℕ → List ℕ) → P (value_tree names)

-- the answer is what is done to these values, or none
abbrev pub Answers : Option Value → ((Value → CValue) → Option CValue) → Type 0
Answers answer operation = ForTrees (λ tree. option_map tree answer ≡ operation tree)

-- numbers of names in it are below this
abbrev pub owner_bound : Owner → ℕ
owner_bound (owner.Global name) = suc name
owner_bound _ = 0

abbrev pub names_bound : Value → ℕ
names_bound (value.At place) = owner_bound place.owner
names_bound (value.Code name) = suc name
names_bound _ = 0

-- for names that are told apart in both
abbrev pub ForOwners : Owner → Owner → ((Owner → c.Owner) → Type 0) → Type 0
ForOwners a b P = (names : ℕ → List ℕ) → AreApart (max (owner_bound a) (owner_bound b)) names → P (owner_tree names)

abbrev pub ForValues : Value → Value → ((Value → CValue) → Type 0) → Type 0
ForValues a b P = (names : ℕ → List ℕ) → AreApart (max (names_bound a) (names_bound b)) names → P (value_tree names)
