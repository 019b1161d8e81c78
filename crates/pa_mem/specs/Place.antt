-- Where the bytes of an access lie in a region.
use Rattle.std.specs.Prelude.{◌≡◌, ◌<◌, ◌≤◌, ℕ, ◌+◌, List, ◌++◌, length, take, drop, true, HoldsAt}
use Rattle.pa_mem.specs.declared.access.Rights.{Rights}
use Rattle.pa_mem.specs.Memory.{Region, offers}

-- the n bytes from an address on are those of the region from a place among its bytes on
pub record IsPlace (at n start : ℕ) (region : Region) : Type 0 where
  pub address : region.base + start ≡ at
  pub room : start + n ≤ length region.bytes

-- the region with other bytes from a place on
abbrev pub patched : Region → ℕ → List ℕ → Region
patched region start bytes =
    record region { bytes = take start region.bytes ++ (bytes ++ drop (start + length bytes) region.bytes) }

-- the region of this index has the n bytes from an address on, and at least these rights
pub record IsOffered (rights : Rights) (at n : ℕ) (regions : List Region) (index : ℕ) : Type 0 where
  pub within : index < length regions
  pub offers : HoldsAt (λ region. offers rights at n region ≡ true) regions index
