-- What the run of a program's machine code is, for what its flat code means.
use Rattle.std.specs.Prelude.{◌≡◌, ◌≤◌, ◌<◌, ℕ, ◌+◌, ◌-◌, ◌^◌, ℤ, List, [], slice_get, Option, Some, None}
use Rattle.pa_object.specs.Machine.{Machine}
use Rattle.pa_object.specs.Run.{Watched, advance_by, watched}
use Rattle.pa_object.proofs.Watching.{Watches}
use Rattle.pa_lir.specs.declared.op.Op.TheVariants as op
use Rattle.pa_lir.specs.declared.function.LirFn.{LirFn}
use Rattle.pa_lir.specs.Meaning.{FlatEnd, Done, Stop, Undefined, Flat}
use Rattle.pa_selected.specs.Values.{Addresses}
use Rattle.pa_selected.specs.Worlds.{World, Names}
use Rattle.pa_selected.specs.Runs.{Simulates, Returned, IsWithinCosts, Shows, entry_cost}

-- the constants of the program are words of 64 bits
abbrev pub AreWords : World → Type 0
AreWords w =
    (name : List ℕ) (f : LirFn) → Names w name f
    → (at to value : ℕ) → slice_get f.ops at ≡ Some (op.Const to value) → value < 2 ^ 64

-- the bytes of the stack
abbrev pub stack_bytes : World → ℕ
stack_bytes w = w.top - w.low

-- Where a run of this machine, watched from its beginning, shows the functions that the trace of one state has, it shows those of
-- the other state so many instructions later.
abbrev pub KeepsShown : World → (before now : Flat) → Machine → (number : ℕ) → Type 0
KeepsShown w before now m number =
    (v : Watched) → v.machine ≡ m → Watches v → Shows w before v → Shows w now (watched w.pac [] number v)

-- So many instructions lead to a machine that stands to the state, in the costs of its operations.
pub record Reaches (w : World) (begun : ℕ) (m : Machine) (before s : Flat) : Type 0 where
  pub later : Machine
  pub number : ℕ
  pub runs : advance_by w.pac [] number m ≡ later
  pub addresses : Addresses
  pub simulates : Simulates w addresses s later
  pub within : IsWithinCosts begun s later
  pub shows : KeepsShown w before s m number

-- They lead to a machine in which `main` has returned that status.
pub record ReachesEnd (w : World) (begun : ℕ) (m : Machine) (before s : Flat) (status : ℤ) : Type 0 where
  pub later : Machine
  pub number : ℕ
  pub runs : advance_by w.pac [] number m ≡ later
  pub returned : Returned w status s later
  pub fewest : begun + s.operations ≤ later.count
  pub most : later.count ≤ begun + entry_cost + s.cost
  pub shows : KeepsShown w before s m number

-- The machine, which stood to the state before, does what flat code means: it goes on where the state does, and returns where
-- that is done. Of undefined code nothing is said.
abbrev pub DoesAs : World → (begun : ℕ) → Machine → (before now : Flat) → Option FlatEnd → Type 0
DoesAs w begun m before s None = Reaches w begun m before s
DoesAs w begun m before s (Some (Done status)) = ReachesEnd w begun m before s status
DoesAs w begun m before s (Some Stop) = Unit {0}
DoesAs w begun m before s (Some Undefined) = Unit {0}
