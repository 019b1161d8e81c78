-- Tables that keep a value for a name: of several values for one name the first.
use Rattle.std.specs.Prelude.{◌≡◌, ℕ, List, Option, Some, None, if◌then◌else◌}
use Rattle.std.specs.Option.{option_or}
use Rattle.std.specs.Str.{bytes_eq}

-- what a value for a name gives to each name
abbrev pub noted : {A : Type 0} → (own : List ℕ) → A → (name : List ℕ) → Option A
noted own value name = if bytes_eq name own then Some value else None

-- a table keeps what it kept before, and for the other names what comes now
abbrev pub Adds : {A : Type 0} → (before after more : List ℕ → Option A) → Type 0
Adds before after more = (name : List ℕ) → after name ≡ option_or (before name) (more name)
