-- What a shelf, a source and a sink tell of their contents or keep of what they gave, and how a count of faults moves.
use Rattle.std.specs.Prelude.{◌≡◌, ℕ, ◌+◌, ◌-◌, ◌^◌, ◌<◌, ◌≤◌, min, List, [], ◌∷◌, ◌++◌, length, take, ⊤, Option, Some, None, IfSome, Result, Ok, Err}
use Rattle.std.specs.Io.KnownBytes.{Consumes}
use Rattle.pa_io.specs.declared.files.MemFile.{MemFile}
use Rattle.pa_io.specs.declared.outside.ShelfFault.{ShelfFault}
use Rattle.pa_io.specs.declared.outside.ShelfFault.TheVariants.{Failed, Long, Memory}

-- what a shelf tells of a name: nothing, that there is no such file, or all the bytes of its file
pub data Told : Type 0 where
  Untold : Told
  Missing : Told
  Holds : List ℕ → Told

-- where the name is told, these are all the bytes of its file
abbrev pub IsFile : Told → List ℕ → Type 0
IsFile Untold bytes = ⊤
IsFile Missing bytes = ⊥
IsFile (Holds all) bytes = bytes ≡ all

-- the files that a shelf keeps once it has given this one: it keeps those whose bytes it doesn't tell
abbrev pub with_given : Told → List MemFile → List ℕ → List ℕ → List MemFile
with_given Untold given name bytes = given ++ record { name = name; bytes = bytes } ∷ []
with_given Missing given name bytes = given
with_given (Holds all) given name bytes = given

-- where the name is told, its file has more bytes than this
abbrev pub IsLonger : Told → ℕ → Type 0
IsLonger Untold limit = ⊤
IsLonger Missing limit = ⊥
IsLonger (Holds all) limit = limit < length all

-- a count rose; one that stands at the last number of 64 bits stays there
abbrev pub Rose : ℕ → ℕ → Type 0
Rose before now = (before ≤ now) × (min (before + 1) (2 ^ 64 - 1) ≤ now)

-- for one answer of a shelf, or for all but one
abbrev pub OnFailed : {T : Type 0} → Result T ShelfFault → Type 0 → Type 0
OnFailed (Ok answer) P = ⊤
OnFailed (Err Failed) P = P
OnFailed (Err Long) P = ⊤
OnFailed (Err Memory) P = ⊤

abbrev pub OnLong : {T : Type 0} → Result T ShelfFault → Type 0 → Type 0
OnLong (Ok answer) P = ⊤
OnLong (Err Failed) P = ⊤
OnLong (Err Long) P = P
OnLong (Err Memory) P = ⊤

abbrev pub UnlessFailed : {T : Type 0} → Result T ShelfFault → Type 0 → Type 0
UnlessFailed (Ok answer) P = P
UnlessFailed (Err Failed) P = ⊤
UnlessFailed (Err Long) P = P
UnlessFailed (Err Memory) P = P

-- what is told has grown by these bytes; what tells now told before
abbrev pub Grew : Option (List ℕ) → Option (List ℕ) → List ℕ → Type 0
Grew before None bytes = ⊤
Grew None (Some now) bytes = ⊥
Grew (Some before) (Some now) bytes = now ≡ before ++ bytes

-- what is told is as before; what tells now told before
abbrev pub Stayed : Option (List ℕ) → Option (List ℕ) → Type 0
Stayed before None = ⊤
Stayed None (Some now) = ⊥
Stayed (Some before) (Some now) = now ≡ before

-- what is told of a sink has grown by a proper prefix of these bytes, maybe by none
abbrev pub GrewByProperPrefix : Option (List ℕ) → Option (List ℕ) → List ℕ → Type 0
GrewByProperPrefix before now bytes = (n : ℕ) × (n < length bytes) × Grew before now (take n bytes)

-- ---- what is seen of a shelf and of a source at a moment

-- the files that a shelf gave and doesn't tell, its count of faults, and the name of its last fault
pub record ShelfSeen : Type 0 where
  pub given : List MemFile
  pub faults : ℕ
  pub failed : Option (List ℕ)

-- what a source tells that it has left, what it keeps of what it gave, and its count of faults
pub record SourceSeen : Type 0 where
  pub left : Option (List ℕ)
  pub given : Option (List ℕ)
  pub faults : ℕ

abbrev pub shelf_seen : {H : Type 0} → (H → List MemFile) → (H → ℕ) → (H → Option (List ℕ)) → H → ShelfSeen
shelf_seen given faults failed shelf = record { given = given shelf; faults = faults shelf; failed = failed shelf }

abbrev pub source_seen : {S : Type 0} → (S → Option (List ℕ)) → (S → Option (List ℕ)) → (S → ℕ) → S → SourceSeen
source_seen left given faults source = record { left = left source; given = given source; faults = faults source }

-- ---- all that a source has left

-- these bytes came out of the source without a fault, the first of what it had left
pub record Came (before now : SourceSeen) (bytes : List ℕ) : Type 0 where
  pub left : Consumes before.left now.left bytes
  pub given : Grew before.given now.given bytes
  pub faults : now.faults ≡ before.faults

-- they are all that it had left, where that is told, and at most so many
pub record CameWhole (limit : ℕ) (before now : SourceSeen) (bytes : List ℕ) : Type 0 where
  pub came : Came before now bytes
  pub whole : IfSome before.left (λ all. bytes ≡ all)
  pub within : length bytes ≤ limit

-- not all was read: the source failed, there is more than the limit, of which one byte too many was taken, or out of memory
abbrev pub CamePartly : (limit : ℕ) → SourceSeen → SourceSeen → ShelfFault → Type 0
CamePartly limit before now Failed =
    Rose before.faults now.faults × ((bytes : List ℕ) × (length bytes ≤ limit) × Grew before.given now.given bytes)
CamePartly limit before now Long = (bytes : List ℕ) × (length bytes ≡ limit + 1) × Came before now bytes
CamePartly limit before now Memory = (bytes : List ℕ) × (length bytes ≤ limit) × Came before now bytes
