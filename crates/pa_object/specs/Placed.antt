-- Instructions that stand in memory.
use Rattle.std.specs.Prelude.{◌≡◌, ℕ, ◌+◌, List, [], ◌∷◌, Some}
use Rattle.pa_a64.specs.declared.instr.Instr.{Instr}
use Rattle.pa_a64.specs.Decoding.{decoded}
use Rattle.pa_mem.specs.Memory.{Region, fetch}

-- this instruction stands in memory at a place
pub record Stands (memory : List Region) (at : ℕ) (i : Instr) : Type 0 where
  pub word : ℕ
  pub fetched : fetch memory at ≡ Some word
  pub decodes : decoded word ≡ Some i

-- these instructions stand in memory from a place on
abbrev pub HasCode : List Region → ℕ → List Instr → Type 0
HasCode memory at [] = Unit {0}
HasCode memory at (i ∷ is) = Stands memory at i × HasCode memory (at + 4) is
