-- Reaching what lies in a stack frame, by its distance in bytes from the stack pointer (Arm Architecture Reference Manual: LDR,
-- STR and ADD with immediates of 12 bits).
use Rattle.std.specs.Prelude.{ℕ, ◌/◌, ◌%◌, true, false, nat_lt, if◌then◌else◌, List, [], ◌∷◌}
use Rattle.pa_a64.specs.declared.instr.Instr.{Instr}
use Rattle.pa_a64.specs.declared.instr.Instr.TheVariants.{SumImmediate, LoadStore}
use Rattle.pa_a64.specs.declared.instr.SumImmediateOp.{SumImmediateOp}
use Rattle.pa_a64.specs.declared.instr.SumImmediateOp.TheVariants.{Add}
use Rattle.pa_a64.specs.declared.instr.LoadStoreOp.{LoadStoreOp}
use Rattle.pa_a64.specs.declared.instr.LoadStoreOp.TheVariants.{Ldr, Str}
use Rattle.pa_select.specs.Registers.{x12, sp}

-- of how many bytes an immediate that is shifted counts each
abbrev pub page : ℕ
page = 4096

-- an access of 8 bytes reaches a multiple of 8 below this place by itself
abbrev pub reach : ℕ
reach = 32768

-- a load or store of a register at a place that is a multiple of 8
abbrev pub access : LoadStoreOp → (register place : ℕ) → List Instr
access op register place =
    if nat_lt place reach then LoadStore op register sp (place / 8) ∷ []
    else SumImmediate Add x12 sp (place / page) true ∷ LoadStore op register x12 (place % page / 8) ∷ []

abbrev pub load : (register place : ℕ) → List Instr
load register place = access Ldr register place

abbrev pub store : (register place : ℕ) → List Instr
store register place = access Str register place

-- a register becomes another one with a number added or taken away
abbrev pub moved_by : SumImmediateOp → (to from amount : ℕ) → List Instr
moved_by op to from amount =
    if nat_lt amount page then SumImmediate op to from amount false ∷ []
    else SumImmediate op to from (amount / page) true ∷ SumImmediate op to to (amount % page) false ∷ []

-- the address of a place
abbrev pub address : (register place : ℕ) → List Instr
address register place = moved_by Add register sp place
