-- The parts of a number that need a move, one by one.
use Rattle.std.specs.Prelude.{ℕ, Bool, not, ◌==◌, if◌then◌else◌, List, [], ◌∷◌}
use Rattle.pa_select.specs.Constants.{part, left_by}

-- one part, if it needs a move
abbrev pub other : (inverted : Bool) → (value k : ℕ) → List ℕ
other inverted value k = if not (part value k == left_by inverted) then k ∷ [] else []
