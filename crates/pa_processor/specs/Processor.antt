-- What the code holds of the machine.
use Rattle.std.specs.Prelude.{◌≡◌, ℕ, List, Result, Ok, Err, Option, Some, None, option_and_then}
use Rattle.pa_pac.specs.Signing.{Code}
use Rattle.pa_a64.specs.declared.instr.Instr.{Instr}
use Rattle.pa_a64.specs.Decoding.{decoded}
use Rattle.pa_mem.specs.Memory.{Region, fetch}
use Rattle.pa_object.specs.declared.end.Trap.{Trap}
use Rattle.pa_object.specs.Machine.{Machine}
use Rattle.pa_object.specs.Traps.{trap_of}
use Rattle.pa_object.specs.Effects.{effect}
use Rattle.pa_object.specs.Run.{ends, step}
use Rattle.pa_object.specs.declared.end.End.TheVariants as end

-- the machine, and how many entries and how many bytes there are at most before its log and its output take more memory
pub record Processor : Type 0 where
  pub machine : Machine
  pub log_limit : ℕ
  pub output_limit : ℕ

-- an instruction was carried out, or it trapped and nothing changed
abbrev pub Carried : Option Trap → Machine → Processor → Result (Unit {0}) Trap → Processor → Type 0
Carried trap done old (Ok _) new = (trap ≡ None) × (new ≡ record old { machine = done })
Carried trap done old (Err t) new = (trap ≡ Some t) × (new ≡ old)

-- an instruction that doesn't trap was carried out
abbrev pub Does : Code → Instr → Processor → Processor → Type 0
Does code instr old new = (trap_of code instr old.machine ≡ None) × (new ≡ record old { machine = effect code instr old.machine })

-- an instruction was carried out, or it trapped and nothing changed
abbrev pub DoesOrTraps : Code → Instr → Processor → Result (Unit {0}) Trap → Processor → Type 0
DoesOrTraps code instr old result new = Carried (trap_of code instr old.machine) (effect code instr old.machine) old result new

-- the instruction that stands at an address
abbrev pub instruction_at : List Region → ℕ → Option Instr
instruction_at memory at = option_and_then decoded (fetch memory at)

-- a step does nothing but end the run by this trap
abbrev pub Traps : Trap → Machine → Type 0
Traps trap m = (code : Code) → step code m ≡ ends (end.Trap trap) m
