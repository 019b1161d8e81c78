-- What the slots of a loaded image hold (mach-o/fixup-chains.h, pointer format 1), and what signing them logs.
use Rattle.std.specs.Prelude.{ℕ, ◌+◌, ◌-◌, ◌*◌, ◌^◌, List, [], ◌∷◌, slice_index, reverse, ℤ, pos, negsuc, Option, Some, None}
use Rattle.std.specs.List.{flat_map}
use Rattle.byteorder.specs.Endian.{little_bytes}
use Rattle.pa_pac.specs.declared.event.Event.TheVariants.{Sign}
use Rattle.pa_pac.specs.declared.event.Entry.{Entry}
use Rattle.pa_pac.specs.declared.event.When.TheVariants.{Load}
use Rattle.pa_pac.specs.Log.{Log}
use Rattle.pa_pac.specs.Schema.{modifier}
use Rattle.pa_pac.specs.Signing.{Code, sign}
use Rattle.pa_fixups.specs.declared.kind.Fix.{Fix}
use Rattle.pa_fixups.specs.declared.kind.FixKind.{FixKind}
use Rattle.pa_fixups.specs.declared.kind.FixKind.TheVariants.{Rebase, Bind, AuthRebase, AuthBind}
use Rattle.pa_fixups.specs.declared.kind.Sig.{Sig}
use Rattle.pa_fixups.specs.Chain.{put_at}

-- what slots are filled from: how far the image is moved, the addresses of its first byte and of __DATA, and those of its
-- imports
pub record Filling : Type 0 where
  pub shift : ℕ
  pub base : ℕ
  pub slots_base : ℕ
  pub imports : List ℕ

-- an address that lies above the bytes that the addend takes away
abbrev pub plus : ℕ → ℤ → ℕ
plus address (pos n) = address + n
plus address (negsuc n) = address - (n + 1)

-- the pointer that a slot is to hold, before it is signed
abbrev pub pointer : Filling → FixKind → ℕ
pointer f (Rebase target high8) = target + f.shift + high8 * 2 ^ 56
pointer f (Bind ordinal addend) = plus (slice_index f.imports ordinal) addend
pointer f (AuthRebase target sig) = f.base + target
pointer f (AuthBind ordinal sig) = slice_index f.imports ordinal

-- how it is signed, if it is
abbrev pub sig_of : FixKind → Option Sig
sig_of (Rebase target high8) = None
sig_of (Bind ordinal addend) = None
sig_of (AuthRebase target sig) = Some sig
sig_of (AuthBind ordinal sig) = Some sig

-- a pointer in a slot at an address
abbrev pub stored : Code → Option Sig → (at raw : ℕ) → ℕ
stored code None at raw = raw
stored code (Some sig) at raw = sign code sig.key (modifier sig.addr sig.disc at) raw

-- and what that logs
abbrev pub signed : Code → Option Sig → (at raw : ℕ) → List Entry
signed code None at raw = []
signed code (Some sig) at raw =
    record {
      when = Load;
      event = Sign sig.key (modifier sig.addr sig.disc at) raw (stored code (Some sig) at raw);
    } ∷ []

abbrev pub slot_address : Filling → Fix → ℕ
slot_address f fix = f.slots_base + fix.at

abbrev pub slot_value : Code → Filling → Fix → ℕ
slot_value code f fix = stored code (sig_of fix.kind) (slot_address f fix) (pointer f fix.kind)

abbrev pub slot_signs : Code → Filling → Fix → List Entry
slot_signs code f fix = signed code (sig_of fix.kind) (slot_address f fix) (pointer f fix.kind)

-- the bytes of __DATA with each slot's value in its 8 bytes
unfoldable pub filled : Code → Filling → List Fix → List ℕ → List ℕ
filled code f [] bytes = bytes
filled code f (fix ∷ fixes) bytes = filled code f fixes (put_at fix.at (little_bytes 8 (slot_value code f fix)) bytes)

-- the log of it: the slots in their order, and so the last one's signature first
unfoldable pub filling_log : Code → Filling → List Fix → Log
filling_log code f fixes = reverse (flat_map (slot_signs code f) fixes)
