-- The beginning of a program's run and its exit.
use Rattle.std.specs.Prelude.{◌≡◌, ◌≤◌, ℕ, suc, ◌+◌, ℤ, List, [], ◌∷◌, Option, Some, None}
use Rattle.pa_a64.specs.declared.instr.Instr.{Instr}
use Rattle.pa_a64.specs.declared.instr.Instr.TheVariants.{Branch, Exception}
use Rattle.pa_a64.specs.declared.instr.BranchOp.TheVariants.{Bl}
use Rattle.pa_a64.specs.declared.instr.ExceptionOp.TheVariants.{Svc}
use Rattle.pa_object.specs.declared.end.End.TheVariants as end
use Rattle.pa_object.specs.Filled.{words_between}
use Rattle.pa_object.specs.Machine.{Machine}
use Rattle.pa_object.specs.Placed.{HasCode}
use Rattle.pa_object.specs.Run.{advance_by}
use Rattle.pa_lir.specs.Meaning.{FlatEnd, Done, Stop, Undefined, Flat, begun, main}
use Rattle.pa_selected.specs.Values.{Addresses, Living, HasObjects}
use Rattle.pa_selected.specs.Worlds.{World, IsOff, HasCodeAndStack}
use Rattle.pa_selected.specs.Calls.{IsRunning}
use Rattle.pa_selected.specs.Runs.{IsOffSlots, entry_cost}
use Rattle.pa_selected.specs.Whole.{KeepsShown, Reaches}

-- at the program's first place `main` is called, and what it returns is the status of the process
abbrev pub start_code : World → (at : ℕ) → List Instr
start_code w at = Branch Bl (words_between at (w.entry main)) ∷ Exception Svc 3 ∷ []

-- A program is loaded, with this input, and its first instruction comes next. The stack is empty, and the globals lie in memory
-- off the stack and off the slots of the runtime's functions.
pub record Begins (w : World) (addresses : Addresses) (unread : List ℕ) (m : Machine) : Type 0 where
  pub running : IsRunning m
  pub placed : HasCodeAndStack w m.memory
  pub start : HasCode m.memory m.pc (start_code w m.pc)
  pub back : w.back ≡ m.pc + 4
  pub empty : m.sp ≡ w.top
  pub objects : HasObjects addresses (begun w.lir unread).objects m.memory
  pub slots : Living addresses (begun w.lir unread).objects (λ p object at size. IsOffSlots w at size)
  pub globals : Living addresses (begun w.lir unread).objects (λ p object at size. IsOff at size w.low w.top)
  pub input : m.input ≡ unread
  pub output : m.output ≡ []

-- the instructions of the start: the call of `main`, and the exit
abbrev pub start_cost : ℕ
start_cost = 2

-- The run exits with this status.
pub record Exits (w : World) (m : Machine) (before s : Flat) (status : ℤ) : Type 0 where
  pub later : Machine
  pub number : ℕ
  pub runs : advance_by w.pac [] number m ≡ later
  pub ended : later.ended ≡ Some (end.Exit status)
  pub output : later.output ≡ s.output
  pub fewest : m.count + start_cost + s.operations ≤ later.count
  pub most : later.count ≤ m.count + start_cost + entry_cost + s.cost
  pub shows : KeepsShown w before s m number

-- What the run of a program is from its first instruction on, for a state of flat code from its beginning on. Of undefined code
-- nothing is said.
abbrev pub RunsAs : World → Machine → (before now : Flat) → Option FlatEnd → Type 0
RunsAs w m before s None = Reaches w (suc m.count) m before s
RunsAs w m before s (Some (Done status)) = Exits w m before s status
RunsAs w m before s (Some Stop) = Unit {0}
RunsAs w m before s (Some Undefined) = Unit {0}
