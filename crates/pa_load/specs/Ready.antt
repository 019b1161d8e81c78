-- What slots have to be so that they can be filled without a sum that wraps.
use Rattle.std.specs.Prelude.{ℕ, ◌+◌, ◌≤◌, ◌<◌, ◌^◌, List, [], ◌∷◌, length, slice_index}
use Rattle.pa_fixups.specs.declared.kind.Fix.{Fix}
use Rattle.pa_fixups.specs.declared.kind.FixKind.{FixKind}
use Rattle.pa_fixups.specs.declared.kind.FixKind.TheVariants.{Rebase, Bind, AuthRebase, AuthBind}
use Rattle.pa_load.specs.Filling.{Filling}

-- a function of the runtime image: it is canonical, and an addend of 32 bits neither passes 0 nor wraps
abbrev pub IsFarAddress : ℕ → Type 0
IsFarAddress address = (2 ^ 31 ≤ address) × (address < 2 ^ 47)

abbrev pub PointerFits : Filling → FixKind → Type 0
PointerFits f (Rebase target high8) = target + f.shift < 2 ^ 56
PointerFits f (Bind ordinal addend) = (ordinal < length f.imports) × IsFarAddress (slice_index f.imports ordinal)
PointerFits f (AuthRebase target sig) = f.base + target < 2 ^ 47
PointerFits f (AuthBind ordinal sig) = (ordinal < length f.imports) × IsFarAddress (slice_index f.imports ordinal)

-- in __DATA of that many bytes
pub record SlotReady (f : Filling) (len : ℕ) (fix : Fix) : Type 0 where
  pub inside : fix.at + 8 ≤ len
  pub pointer : PointerFits f fix.kind

abbrev pub AllReady : Filling → (len : ℕ) → List Fix → Type 0
AllReady f len [] = Unit {0}
AllReady f len (fix ∷ fixes) = SlotReady f len fix × AllReady f len fixes
