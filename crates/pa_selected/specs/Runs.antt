-- How a machine stands to a state of flat code, before each unit of its meaning.
use Rattle.std.specs.Prelude.{◌≡◌, ◌≤◌, ℕ, ◌+◌, ◌-◌, ◌*◌, ℤ, List, [], ◌∷◌, length, map, Option, Some, None}
use Rattle.pa_ctype.specs.Traces.{Enter}
use Rattle.pa_object.specs.Machine.{Machine, register}
use Rattle.pa_object.specs.Run.{Watched}
use Rattle.pa_object.specs.Shape as shape
use Rattle.pa_lir.specs.Meaning.{Open, Coming, Flat, putchar, getchar, status_of}
use Rattle.pa_select.specs.Registers.{x0}
use Rattle.pa_selected.specs.Values.{Addresses, Living, HasObjects}
use Rattle.pa_selected.specs.Worlds.{World, IsOff, HasCodeAndStack}
use Rattle.pa_selected.specs.Calls.{IsRunning, HasCallFrames, IsComing, IsAt}

-- by the call that is made, if one is, and the open calls; some call is open, or one is made
abbrev pub IsNext : World → Addresses → Machine → Option Coming → List Open → Type 0
IsNext w addresses m (Some c) os = IsComing w addresses m os c
IsNext w addresses m None (o ∷ os) = IsAt w o m
IsNext w addresses m None [] = ⊥

-- an object has no byte in the slots of the runtime's functions
abbrev pub IsOffSlots : World → (at size : ℕ) → Type 0
IsOffSlots w at size =
    IsOff at size (w.slot putchar) (w.slot putchar + 8) × IsOff at size (w.slot getchar) (w.slot getchar + 8)

-- The machine's memory holds the program, the objects and the frames of the open calls, its next instruction is that of the next
-- unit, and what was read and printed is the same.
pub record Simulates (w : World) (addresses : Addresses) (s : Flat) (m : Machine) : Type 0 where
  pub running : IsRunning m
  pub placed : HasCodeAndStack w m.memory
  pub room : w.low ≤ m.sp
  pub objects : HasObjects addresses s.objects m.memory
  pub slots : Living addresses s.objects (λ p object at size. IsOffSlots w at size)
  pub frames : HasCallFrames w addresses s.objects m.memory (length s.objects) m.sp s.opens
  pub next : IsNext w addresses m s.coming s.opens
  pub input : m.input ≡ s.input
  pub output : m.output ≡ s.output

-- `main` has returned this status: the next instruction is that behind its call
pub record Returned (w : World) (result : ℤ) (s : Flat) (m : Machine) : Type 0 where
  pub running : IsRunning m
  pub pc : m.pc ≡ w.back
  pub sp : m.sp ≡ w.top
  pub status : status_of (register x0 m) ≡ result
  pub output : m.output ≡ s.output

-- ---- how many instructions ran

-- the most instructions of a function's beginning, and those of a call behind its BL
abbrev pub entry_cost : ℕ
entry_cost = 12

abbrev pub result_cost : ℕ
result_cost = 2

-- what the costs of the calls that are made and open still pay for: the beginning of the function, and each result
abbrev pub unspent : Option Coming → List Open → ℕ
unspent None os = result_cost * (length os - 1)
unspent (Some c) os = entry_cost + result_cost * length os

-- Of the instructions since the call of `main`, at least one ran for each operation that isn't a label, and at most so many as
-- operations cost, the beginning of `main` aside.
pub record IsWithinCosts (begun : ℕ) (s : Flat) (m : Machine) : Type 0 where
  pub fewest : begun + s.operations ≤ m.count
  pub most : m.count + unspent s.coming s.opens ≤ begun + entry_cost + s.cost

-- ---- what the run shows

-- where the pointers to the runtime's functions lie
abbrev pub import_slots : World → List ℕ
import_slots w = w.slot putchar ∷ w.slot getchar ∷ []

-- Functions alone are entered, and the shape of a run shows each by its first instruction.
pub record Shows (w : World) (s : Flat) (v : Watched) : Type 0 where
  pub names : List (List ℕ)
  pub trace : s.trace ≡ map Enter names
  pub shape : shape.shape (import_slots w) v.trail v.machine.log ≡ map (λ name. shape.Enter (w.first name)) names
