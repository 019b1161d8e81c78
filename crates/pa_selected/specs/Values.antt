-- What words and bytes of a machine stand for values of flat code.
use Rattle.std.specs.Prelude.{◌≡◌, ◌≢◌, ◌<◌, ℕ, ◌+◌, ◌/◌, ◌%◌, ◌^◌, true, false, List, [], ◌∷◌, length, slice_get, slice_index, Some}
use Rattle.pa_mem.specs.Memory.{Region, Read, Write, allowed, byte_at}
use Rattle.pa_selected.specs.Worlds.{IsOff}
use Rattle.pa_lir.specs.Values.{FlatValue, Number, At, Code, Byte, Unset, Octet, Part, Object, Objects}

-- where the first byte of each object lies, by the object's number
abbrev pub Addresses : Type 0
Addresses = List ℕ

-- The word that a value is in a register or a slot. No operation that has code gives a pointer to a function.
abbrev pub StandsFor : Addresses → FlatValue → ℕ → Type 0
StandsFor addresses (Number x) word = word ≡ x
StandsFor addresses (At object offset) word = (object < length addresses) × (word ≡ slice_index addresses object + offset)
StandsFor addresses (Code name schema) word = ⊥

-- A byte of a pointer: that of its word, counted from the lowest.
pub record IsPart (addresses : Addresses) (pointer : FlatValue) (index byte : ℕ) : Type 0 where
  pub word : ℕ
  pub fits : word < 2 ^ 64
  pub stands : StandsFor addresses pointer word
  pub same : byte ≡ word / 256 ^ index % 256

-- what a byte in memory is where flat code has that one
abbrev pub IsByte : Addresses → Byte → ℕ → Type 0
IsByte addresses Unset byte = Unit {0}
IsByte addresses (Octet number) byte = byte ≡ number
IsByte addresses (Part pointer index) byte = IsPart addresses pointer index byte

-- these bytes stand in memory from an address on
unfoldable pub HasBytes : Addresses → List Region → (at : ℕ) → List Byte → Type 0
HasBytes addresses memory at [] = Unit {0}
HasBytes addresses memory at (byte ∷ bytes) = IsByte addresses byte (byte_at memory at) × HasBytes addresses memory (at + 1) bytes

-- ---- objects

-- what holds of each object that lives, its address and its size
abbrev pub Living : Addresses → Objects → ((o : ℕ) → Object → (at size : ℕ) → Type 0) → Type 0
Living addresses objects holds =
    (o : ℕ) (object : Object) → slice_get objects o ≡ Some object → object.alive ≡ true
    → holds o object (slice_index addresses o) (length object.bytes)

-- Each object has an address, which is not null, and lies below 2^63. Those that live stand in memory, may be read and, unless
-- they are constant, written, and no two share a byte.
pub record HasObjects (addresses : Addresses) (objects : Objects) (memory : List Region) : Type 0 where
  pub count : length addresses ≡ length objects
  pub some : (o : ℕ) → o < length objects → 0 < slice_index addresses o
  pub low : (o : ℕ) (object : Object) → slice_get objects o ≡ Some object → slice_index addresses o + length object.bytes < 2 ^ 63
  pub bytes : Living addresses objects (λ o object at size. HasBytes addresses memory at object.bytes)
  pub reads : Living addresses objects (λ o object at size. allowed Read memory at size ≡ true)
  pub writes : Living addresses objects (λ o object at size. object.constant ≡ false → allowed Write memory at size ≡ true)
  pub apart :
      Living addresses objects (λ o one at size.
      Living addresses objects (λ p other from count. o ≢ p → IsOff at size from (from + count)))
