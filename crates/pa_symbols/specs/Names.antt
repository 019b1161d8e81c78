-- Names that were noted, and a name in the strings.
use Rattle.std.specs.Prelude.{ℕ, Bool, ◌==◌, ◌&&◌, not, List, drop}
use Rattle.std.specs.List.{list_any}
use Rattle.std.specs.Str.{bytes_eq}
use denote.Ref.{Bor}
use Rattle.pa_layout.specs.Names.{name_length, has_end}
use Rattle.pa_symbols.specs.Symbols.{Text}

-- one of the names is that text
abbrev pub is_noted : List (Bor Text) → Text → Bool
is_noted names text = list_any (λ name. bytes_eq text name.now) names

-- a name that isn't empty and has its end begins at the place, and is due there
abbrev pub name_due : List ℕ → (place due : ℕ) → Bool
name_due strings place due =
    let text = drop place strings in
    (place == due) && (not (name_length text == 0) && has_end text)
