-- Memory: a list of regions, read and written by address, the lowest byte of a number first.
use Rattle.std.specs.Prelude.{ℕ, zero, suc, ◌+◌, ◌-◌, ◌*◌, ◌/◌, ◌%◌, ◌<◌, min, max, List, [], ◌∷◌, length, slice_index, slice_set, Bool, true, false, not, ◌&&◌, ◌||◌, nat_le, nat_lt, ◌==◌, if◌then◌else◌, Option, Some, None}
use Rattle.std.specs.List.{list_any}
use Rattle.pa_mem.specs.declared.access.Rights.{Rights}
use Rattle.pa_mem.specs.Access.{includes}

-- bytes from an address on, and what may be done with them
pub record Region : Type 0 where
  pub base : ℕ
  pub bytes : List ℕ
  pub reads : Bool
  pub writes : Bool
  pub runs : Bool

pub data Right : Type 0 where
  Read : Right
  Write : Right
  Run : Right

abbrev pub has : Right → Region → Bool
has Read region = region.reads
has Write region = region.writes
has Run region = region.runs

abbrev pub holds : Region → ℕ → Bool
holds region at = nat_le region.base at && nat_lt at (region.base + length region.bytes)

-- the n bytes from an address on lie inside one region that has this right
unfoldable pub allowed : Right → List Region → ℕ → ℕ → Bool
allowed right [] at n = false
allowed right (region ∷ regions) at n =
    (nat_le region.base at && (nat_le (at + n) (region.base + length region.bytes) && has right region)) || allowed right regions at n

-- the rights of a region
abbrev pub rights_of : Region → Rights
rights_of region = record { read = region.reads; write = region.writes; run = region.runs }

-- the n bytes from an address on lie inside this region, and it has at least these rights
abbrev pub offers : Rights → ℕ → ℕ → Region → Bool
offers rights at n region =
    nat_le region.base at && (nat_le (at + n) (region.base + length region.bytes) && includes (rights_of region) rights)

-- the n bytes from an address on lie inside one region that has at least these rights
unfoldable pub inside : Rights → List Region → ℕ → ℕ → Bool
inside rights regions at n = list_any (offers rights at n) regions

-- the byte at an address, and 0 where no region is
unfoldable pub byte_at : List Region → ℕ → ℕ
byte_at [] at = 0
byte_at (region ∷ regions) at = if holds region at then slice_index region.bytes (at - region.base) else byte_at regions at

-- the memory with that byte at an address, and the same where no region is
unfoldable pub with_byte : List Region → ℕ → ℕ → List Region
with_byte [] at byte = []
with_byte (region ∷ regions) at byte =
    if holds region at then record region { bytes = slice_set region.bytes (at - region.base) byte } ∷ regions
    else region ∷ with_byte regions at byte

-- the number that the n bytes from an address on stand for
unfoldable pub load : ℕ → List Region → ℕ → ℕ
load zero regions at = 0
load (suc n) regions at = byte_at regions at + 256 * load n regions (at + 1)

-- the memory with the lowest n bytes of a number from an address on
unfoldable pub store : ℕ → List Region → ℕ → ℕ → List Region
store zero regions at value = regions
store (suc n) regions at value = store n (with_byte regions at (value % 256)) (at + 1) (value / 256)

-- the instruction word at an address: four bytes of one region that may be run, at a multiple of 4
unfoldable pub fetch : List Region → ℕ → Option ℕ
fetch regions at = if allowed Run regions at 4 && (at % 4 == 0) then Some (load 4 regions at) else None

-- the n bytes from an address on
unfoldable pub bytes_at : ℕ → List Region → ℕ → List ℕ
bytes_at zero regions at = []
bytes_at (suc n) regions at = byte_at regions at ∷ bytes_at n regions (at + 1)

-- the memory with these bytes from an address on
unfoldable pub with_bytes : List Region → ℕ → List ℕ → List Region
with_bytes regions at [] = regions
with_bytes regions at (byte ∷ bytes) = with_bytes (with_byte regions at byte) (at + 1) bytes

-- no address is in both regions
abbrev pub apart : Region → Region → Bool
apart one two =
    nat_le (min (one.base + length one.bytes) (two.base + length two.bytes)) (max one.base two.base)

unfoldable pub apart_from_all : Region → List Region → Bool
apart_from_all one [] = true
apart_from_all one (region ∷ regions) = apart one region && apart_from_all one regions

-- no address is in two of the regions
unfoldable pub all_apart : List Region → Bool
all_apart [] = true
all_apart (region ∷ regions) = apart_from_all region regions && all_apart regions

-- no region may be both written and run
unfoldable pub write_xor_run : List Region → Bool
write_xor_run [] = true
write_xor_run (region ∷ regions) = not (region.writes && region.runs) && write_xor_run regions

-- a region of these bytes from an address on
abbrev pub region_of : ℕ → List ℕ → Rights → Region
region_of base bytes rights =
    record { base = base; bytes = bytes; reads = rights.read; writes = rights.write; runs = rights.run }

-- each is a number below 256
abbrev pub AreBytes : List ℕ → Type 0
AreBytes bytes = (i : ℕ) → slice_index bytes i < 256

-- what stands in the regions is of bytes
abbrev pub IsBytes : List Region → Type 0
IsBytes [] = Unit {0}
IsBytes (region ∷ regions) = AreBytes region.bytes × IsBytes regions
