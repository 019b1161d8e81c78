-- Regions that are added in the order of their addresses.
use Rattle.std.specs.Prelude.{ℕ, ◌+◌, ◌≤◌, List, [], ◌∷◌, length}
use Rattle.pa_mem.specs.Memory.{Region}

-- each region ends at this address or below it
abbrev pub AllBelow : (limit : ℕ) → List Region → Type 0
AllBelow limit [] = Unit {0}
AllBelow limit (region ∷ regions) = (region.base + length region.bytes ≤ limit) × AllBelow limit regions
