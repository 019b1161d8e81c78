-- The calls of an object in memory: which of them fail, and how many faults that makes.
use Rattle.std.specs.Prelude.{ℕ, ◌+◌, ◌-◌, ◌^◌, ◌==◌, nat_le, min, Bool, List, count_by}
use Rattle.std.specs.List.{list_any}

-- the next number of a count that stays at the last number of 64 bits
abbrev pub next_count : ℕ → ℕ
next_count count = min (count + 1) (2 ^ 64 - 1)

-- the call after these ones is listed as one that fails
abbrev pub is_to_fail : List ℕ → ℕ → Bool
is_to_fail fails calls = list_any (λ call. call == calls + 1) fails

-- how many of the first calls are listed as ones that fail
unfoldable pub failures : List ℕ → ℕ → ℕ
failures fails calls = count_by (λ call. nat_le call calls) fails

-- the faults of the calls so far: the listed ones, and others
abbrev pub fault_count : List ℕ → ℕ → ℕ → ℕ
fault_count fails calls others = min (failures fails calls + others) (2 ^ 64 - 1)
