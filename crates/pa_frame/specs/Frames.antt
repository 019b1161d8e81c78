-- Stack frames: what lies where, in bytes from the stack pointer, and what every layout has to keep.
use Rattle.std.specs.Prelude.{◌≡◌, ◌≢◌, ◌≤◌, ◌<◌, ◌⊎◌, ℕ, ◌+◌, ◌*◌, ◌%◌, nat_lt, if◌then◌else◌, List, [], ◌∷◌, length, take, map, sum_by, slice_index}
use Rattle.std.specs.Int.{next_multiple_of}
use Rattle.pa_lir.specs.declared.function.LirLocal.{LirLocal}
use Rattle.pa_lir.specs.declared.function.LirFn.{LirFn}
use Rattle.pa_lir.specs.Parts.{rounded, bytes, held, frame_bound}
use Rattle.pa_frame.specs.declared.slots.Slots.{Slots}
use Rattle.pa_frame.specs.declared.slots.Frame.{Frame}

-- ---- what every frame keeps

-- what lies in a frame: a local or a temporary, by its number
pub data Resident : Type 0 where
  OfLocal : (local : ℕ) → Resident
  OfTemp : (temp : ℕ) → Resident

abbrev pub IsResident : LirFn → Resident → Type 0
IsResident f (OfLocal local) = local < length f.locals
IsResident f (OfTemp temp) = temp < held f

abbrev pub temp_at : Slots → ℕ → ℕ
temp_at slots temp = slots.temps + 8 * temp

-- where a resident begins
abbrev pub slot_at : Frame → Resident → ℕ
slot_at frame (OfLocal local) = slice_index frame.slots.locals local
slot_at frame (OfTemp temp) = temp_at frame.slots temp

-- how many bytes it has; those of a local are rounded up to 8
abbrev pub slot_bytes : LirFn → Resident → ℕ
slot_bytes f (OfLocal local) = slice_index (map rounded f.locals) local
slot_bytes f (OfTemp temp) = 8

abbrev pub slot_end : LirFn → Frame → Resident → ℕ
slot_end f frame r = slot_at frame r + slot_bytes f r

-- one ends before the other begins
abbrev pub AreApart : LirFn → Frame → Resident → Resident → Type 0
AreApart f frame r s = (slot_end f frame r ≤ slot_at frame s) ⊎ (slot_end f frame s ≤ slot_at frame r)

-- the first bytes of a frame, for registers that the function saves
abbrev pub saved_bytes : ℕ
saved_bytes = 96

-- All residents live as long as the function runs, so each two are apart.
pub record IsFrame (f : LirFn) (frame : Frame) : Type 0 where
  pub apart : (r s : Resident) → IsResident f r → IsResident f s → r ≢ s → AreApart f frame r s
  pub aligned : (r : Resident) → IsResident f r → slot_at frame r % 8 ≡ 0
  pub behind_saved : (r : Resident) → IsResident f r → saved_bytes ≤ slot_at frame r
  pub inside : (r : Resident) → IsResident f r → slot_end f frame r ≤ frame.size
  pub size_aligned : frame.size % 16 ≡ 0
  pub size_bound : frame.size ≤ frame_bound f

-- ---- the layout that is taken

-- locals one behind the other from a place on
unfoldable pub places_from : ℕ → List LirLocal → List ℕ
places_from at [] = []
places_from at (l ∷ ls) = at ∷ places_from (at + rounded l) ls

-- the bytes of the locals before this one
abbrev pub bytes_before : LirFn → ℕ → ℕ
bytes_before f local = sum_by rounded (take local f.locals)

-- the bytes of temporaries before a local: all, but before a parameter none
abbrev pub temp_bytes_before : LirFn → ℕ → ℕ
temp_bytes_before f local = if nat_lt local f.parameters then 0 else 8 * held f

-- where a temporary begins
abbrev pub place_of_temp : LirFn → ℕ → ℕ
place_of_temp f temp = saved_bytes + bytes_before f f.parameters + 8 * temp

-- where a local begins
abbrev pub place_of_local : LirFn → ℕ → ℕ
place_of_local f local = saved_bytes + (bytes_before f local + temp_bytes_before f local)

abbrev pub size_of_frame : LirFn → ℕ
size_of_frame f = next_multiple_of (saved_bytes + (bytes f + 8 * held f)) 16

-- parameters first, then the temporaries by their numbers, then the other locals
pub record IsLaidOut (f : LirFn) (frame : Frame) : Type 0 where
  pub count : length frame.slots.locals ≡ length f.locals
  pub locals : (l : ℕ) → l < length f.locals → slice_index frame.slots.locals l ≡ place_of_local f l
  pub temps : frame.slots.temps ≡ saved_bytes + bytes_before f f.parameters
  pub size : frame.size ≡ size_of_frame f
