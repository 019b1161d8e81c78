-- The stub of an import: it authenticates the pointer in its slot under the slot's address, and goes there (ld64's
-- `__auth_stubs`; Arm Architecture Reference Manual: BRAA).
use Rattle.std.specs.Prelude.{ℕ, ◌%◌, false, List, [], ◌∷◌}
use Rattle.pa_a64.specs.declared.instr.Instr.{Instr}
use Rattle.pa_a64.specs.declared.instr.Instr.TheVariants.{Adrp, SumImmediate, LoadStore, BranchAuthenticated}
use Rattle.pa_a64.specs.declared.instr.SumImmediateOp.TheVariants.{Add}
use Rattle.pa_a64.specs.declared.instr.LoadStoreOp.TheVariants.{Ldr}
use Rattle.pa_a64.specs.declared.instr.BranchAuthenticatedOp.TheVariants.{Braa}
use Rattle.pa_object.specs.Filled.{pages_between}

-- the instructions of the stub at an address, whose slot may lie anywhere in its page
abbrev pub stub : (at slot : ℕ) → List Instr
stub at slot =
    Adrp 17 (pages_between at slot) ∷ SumImmediate Add 17 17 (slot % 4096) false ∷ LoadStore Ldr 16 17 0
    ∷ BranchAuthenticated Braa 16 17 ∷ []
