-- What is left of a script.
use Rattle.std.specs.Prelude.{◌≡◌, ◌<◌, ℕ, min, List, [], ◌∷◌, ◌++◌, All}
use Rattle.pa_object.specs.declared.script.Item.{Item}

-- what is left behind those that are below this number
pub record IsRest (number : ℕ) (items rest : List Item) : Type 0 where
  pub before : List Item
  pub split : items ≡ before ++ rest
  pub below : All (λ (item : Item). item.step < number) before

-- the number of the next item, or the bound where that comes first
abbrev pub next_number : List Item → ℕ → ℕ
next_number [] bound = bound
next_number (item ∷ items) bound = min bound item.step
