-- When an instruction traps.
use Rattle.std.specs.Prelude.{ℕ, ◌+◌, ◌*◌, Bool, true, false, ◌==◌, ◌||◌, if◌then◌else◌, Option, Some, None}
use Rattle.pa_num.specs.Arithmetic.{add64, scaled64}
use Rattle.pa_pac.specs.declared.key.Key.{Key}
use Rattle.pa_pac.specs.declared.key.Key.TheVariants.{IA, IB, DA, DB}
use Rattle.pa_pac.specs.Signing.{Code, auth}
use Rattle.pa_a64.specs.declared.instr.Instr.{Instr}
use Rattle.pa_a64.specs.declared.instr.Instr.TheVariants as i
use Rattle.pa_a64.specs.declared.instr.LoadStoreOp.{LoadStoreOp}
use Rattle.pa_a64.specs.declared.instr.LoadStoreOp.TheVariants.{Ldr, Str}
use Rattle.pa_a64.specs.declared.instr.LoadStoreWordOp.{LoadStoreWordOp}
use Rattle.pa_a64.specs.declared.instr.LoadStoreWordOp.TheVariants.{Ldrw, Strw, Ldrsw}
use Rattle.pa_a64.specs.declared.instr.LoadStoreHalfOp.{LoadStoreHalfOp}
use Rattle.pa_a64.specs.declared.instr.LoadStoreHalfOp.TheVariants.{Ldrh, Strh, Ldrsh}
use Rattle.pa_a64.specs.declared.instr.LoadStoreByteOp.{LoadStoreByteOp}
use Rattle.pa_a64.specs.declared.instr.LoadStoreByteOp.TheVariants.{Ldrb, Strb, Ldrsb}
use Rattle.pa_a64.specs.declared.instr.LoadStoreUnscaledOp.{LoadStoreUnscaledOp}
use Rattle.pa_a64.specs.declared.instr.LoadStoreUnscaledOp.TheVariants.{Ldur, Stur}
use Rattle.pa_a64.specs.declared.instr.LoadStorePairOp.{LoadStorePairOp}
use Rattle.pa_a64.specs.declared.instr.LoadStorePairOp.TheVariants.{Ldp, Stp}
use Rattle.pa_a64.specs.declared.instr.BranchAuthenticatedOp.{BranchAuthenticatedOp}
use Rattle.pa_a64.specs.declared.instr.BranchAuthenticatedOp.TheVariants.{Braa, Blraa, Blrab}
use Rattle.pa_a64.specs.declared.instr.StackOp.TheVariants.{Retab, Pacibsp, Autibsp}
use Rattle.pa_a64.specs.declared.instr.AuthenticateOp.{AuthenticateOp}
use Rattle.pa_a64.specs.declared.instr.AuthenticateOp.TheVariants.{Autia, Autib, Autda, Autdb}
use Rattle.pa_a64.specs.declared.instr.PlainOp.TheVariants.{Paciza, Autiza, Xpaci}
use Rattle.pa_a64.specs.declared.instr.ExceptionOp.TheVariants.{Svc, Brk}
use Rattle.pa_mem.specs.Memory.{Right, Read, Write, allowed}
use Rattle.pa_object.specs.declared.end.Trap.{Trap}
use Rattle.pa_object.specs.declared.end.Trap.TheVariants.{AuthFail, DataAbort, BadWord, Break}
use Rattle.pa_object.specs.Machine.{Machine, register, register_or_sp}

-- ---- loads and stores

-- what a row needs of the bytes that it reaches
abbrev pub right_of : LoadStoreOp → Right
right_of Ldr = Read
right_of Str = Write

abbrev pub right_of_word : LoadStoreWordOp → Right
right_of_word Ldrw = Read
right_of_word Strw = Write
right_of_word Ldrsw = Read

abbrev pub right_of_half : LoadStoreHalfOp → Right
right_of_half Ldrh = Read
right_of_half Strh = Write
right_of_half Ldrsh = Read

abbrev pub right_of_byte : LoadStoreByteOp → Right
right_of_byte Ldrb = Read
right_of_byte Strb = Write
right_of_byte Ldrsb = Read

abbrev pub right_of_unscaled : LoadStoreUnscaledOp → Right
right_of_unscaled Ldur = Read
right_of_unscaled Stur = Write

abbrev pub right_of_pair : LoadStorePairOp → Right
right_of_pair Ldp = Read
right_of_pair Stp = Write

-- the address of a load or store: the base register and the offset in bytes
abbrev pub address : ℕ → ℕ → Machine → ℕ
address rn offset m = add64 (register_or_sp rn m) offset

abbrev pub abort_unless : Bool → Option Trap
abort_unless b = if b then None else Some DataAbort

-- a pair is two ranges, each inside one region
abbrev pub pair_allowed : Right → ℕ → Machine → Bool
pair_allowed right at m = if allowed right m.memory at 8 then allowed right m.memory (add64 at 8) 8 else false

-- ---- authentications

-- an authentication: the key, the modifier and the value
pub record Asked : Type 0 where
  pub key : Key
  pub modifier : ℕ
  pub value : ℕ

abbrev pub key_of_branch : BranchAuthenticatedOp → Key
key_of_branch Braa = IA
key_of_branch Blraa = IA
key_of_branch Blrab = IB

abbrev pub key_of_authenticate : AuthenticateOp → Key
key_of_authenticate Autia = IA
key_of_authenticate Autib = IB
key_of_authenticate Autda = DA
key_of_authenticate Autdb = DB

abbrev pub asked_by_branch : BranchAuthenticatedOp → ℕ → ℕ → Machine → Asked
asked_by_branch op rn rm m = record { key = key_of_branch op; modifier = register_or_sp rm m; value = register rn m }

abbrev pub asked_by_blraaz : ℕ → Machine → Asked
asked_by_blraaz rn m = record { key = IA; modifier = 0; value = register rn m }

-- what `retab` and `autibsp` ask
abbrev pub asked_of_link : Machine → Asked
asked_of_link m = record { key = IB; modifier = m.sp; value = register 30 m }

abbrev pub asked_by_authenticate : AuthenticateOp → ℕ → ℕ → Machine → Asked
asked_by_authenticate op rd rn m = record { key = key_of_authenticate op; modifier = register_or_sp rn m; value = register rd m }

abbrev pub asked_by_autiza : ℕ → Machine → Asked
asked_by_autiza rd m = record { key = IA; modifier = 0; value = register rd m }

abbrev pub answer : Code → Asked → Option ℕ
answer code asked = auth code asked.key asked.modifier asked.value

abbrev pub fail_unless : Option ℕ → Option Trap
fail_unless None = Some AuthFail
fail_unless (Some raw) = None

-- ---- the trap of an instruction, if it traps

unfoldable pub trap_of : Code → Instr → Machine → Option Trap
trap_of code (i.LoadStore op rt rn imm) m = abort_unless (allowed (right_of op) m.memory (address rn (8 * imm) m) 8)
trap_of code (i.LoadStoreWord op rt rn imm) m = abort_unless (allowed (right_of_word op) m.memory (address rn (4 * imm) m) 4)
trap_of code (i.LoadStoreHalf op rt rn imm) m = abort_unless (allowed (right_of_half op) m.memory (address rn (2 * imm) m) 2)
trap_of code (i.LoadStoreByte op rt rn imm) m = abort_unless (allowed (right_of_byte op) m.memory (address rn imm m) 1)
trap_of code (i.LoadStoreUnscaled op rt rn imm) m = abort_unless (allowed (right_of_unscaled op) m.memory (address rn (scaled64 1 imm) m) 8)
trap_of code (i.LoadStorePair op rt rt2 rn imm) m = abort_unless (pair_allowed (right_of_pair op) (address rn (scaled64 8 imm) m) m)
trap_of code (i.BranchAuthenticated op rn rm) m = fail_unless (answer code (asked_by_branch op rn rm m))
trap_of code (i.Blraaz rn) m = fail_unless (answer code (asked_by_blraaz rn m))
trap_of code (i.Stack Retab) m = fail_unless (answer code (asked_of_link m))
trap_of code (i.Stack Autibsp) m = fail_unless (answer code (asked_of_link m))
trap_of code (i.Authenticate op rd rn) m = fail_unless (answer code (asked_by_authenticate op rd rn m))
trap_of code (i.Plain Autiza rd) m = fail_unless (answer code (asked_by_autiza rd m))
trap_of code (i.Exception Svc imm) m = if imm == 1 || (imm == 2 || imm == 3) then None else Some BadWord
trap_of code (i.Exception Brk imm) m = Some Break
trap_of code _ m = None
