-- Which programs are well formed: what the layer below can rest on without knowing what a program means.
use Rattle.std.specs.Prelude.{◌≡◌, ◌⊎◌, ◌≤◌, ◌<◌, ◌-◌, ℕ, All, List, length, take, slice_get, Some, IsSome, IsSomeAnd}
use Rattle.pa_lir.specs.declared.op.Op.{Op}
use Rattle.pa_lir.specs.declared.op.Op.TheVariants as op
use Rattle.pa_lir.specs.declared.function.LirLocal.{LirLocal}
use Rattle.pa_lir.specs.declared.function.LirFn.{LirFn}
use Rattle.pa_lir.specs.declared.function.Lir.{Lir}
use Rattle.pa_lir.specs.Flow.{place_of_label, IsWrittenFirst}

-- 1, 2, 4 or 8
abbrev pub IsWidth : ℕ → Type 0
IsWidth n = (n ≡ 1) ⊎ ((n ≡ 2) ⊎ ((n ≡ 4) ⊎ (n ≡ 8)))

-- What holds of an operation at a place in the code of a function that has so many locals. A label stands nowhere before, one
-- that is gone to stands somewhere, and numbers are in their ranges.
abbrev pub IsSoundAt : List Op → (locals at : ℕ) → Op → Type 0
IsSoundAt ops locals at (op.Label label) = place_of_label ops label ≡ Some at
IsSoundAt ops locals at (op.Jump label) = IsSome (place_of_label ops label)
IsSoundAt ops locals at (op.Branch on label) = IsSome (place_of_label ops label)
IsSoundAt ops locals at (op.Extend to from bits signed) = (1 ≤ bits) × (bits ≤ 64)
IsSoundAt ops locals at (op.Local to local) = local < locals
IsSoundAt ops locals at (op.Load to from bytes signed) = IsWidth bytes
IsSoundAt ops locals at (op.Store to from bytes) = IsWidth bytes
IsSoundAt ops locals at (op.Call to name arguments) = length arguments ≤ 8
IsSoundAt ops locals at (op.CallPlain to called arguments) = length arguments ≤ 8
IsSoundAt ops locals at (op.CallSigned to from schema arguments) = length arguments ≤ 8
IsSoundAt ops locals at _ = Unit {0}

abbrev pub IsSound : List Op → (locals : ℕ) → Type 0
IsSound ops locals = (at : ℕ) (o : Op) → slice_get ops at ≡ Some o → IsSoundAt ops locals at o

-- the operation goes nowhere behind it
abbrev pub IsLast : Op → Type 0
IsLast (op.Jump label) = Unit {0}
IsLast (op.Return from) = Unit {0}
IsLast _ = ⊥

abbrev pub AreSmall : List LirLocal → Type 0
AreSmall ls = All (λ l. l.size ≤ 8) ls

-- the parameters are the first locals, at most eight of at most 8 bytes each
pub record HasParameters (f : LirFn) : Type 0 where
  pub few : f.parameters ≤ 8
  pub first : f.parameters ≤ length f.locals
  pub small : AreSmall (take f.parameters f.locals)

abbrev pub AreAligned : List LirLocal → Type 0
AreAligned ls = All (λ l. IsWidth l.align) ls

abbrev pub Ends : List Op → Type 0
Ends ops = IsSomeAnd (slice_get ops (length ops - 1)) IsLast

pub record IsWellFormed (f : LirFn) : Type 0 where
  pub written_first : (t : ℕ) → IsWrittenFirst f.ops t
  pub sound : IsSound f.ops (length f.locals)
  pub ends : Ends f.ops
  pub aligned : AreAligned f.locals
  pub parameters : HasParameters f

abbrev pub WellFormed : Lir → Type 0
WellFormed lir = All IsWellFormed lir.functions
