-- What the checker asks of one instruction (Arm Architecture Reference Manual for A-profile: A64 base instructions).
use Rattle.std.specs.Prelude.{ℕ, Bool, true, false, not, ◌&&◌, ◌==◌, ℤ, Option, Some, None}
use Rattle.pa_a64.specs.declared.instr.Instr.{Instr}
use Rattle.pa_a64.specs.declared.instr.Instr.TheVariants as i
use Rattle.pa_a64.specs.declared.instr.SumImmediateOp.TheVariants as immediate
use Rattle.pa_a64.specs.declared.instr.BranchOp.TheVariants.{B, Bl}
use Rattle.pa_a64.specs.declared.instr.BranchRegisterOp.TheVariants.{Br, Blr, Ret}
use Rattle.pa_a64.specs.declared.instr.BranchAuthenticatedOp.TheVariants.{Braa, Blrab}
use Rattle.pa_a64.specs.declared.instr.StackOp.TheVariants.{Retab, Pacibsp, Autibsp}
use Rattle.pa_a64.specs.declared.instr.SignOp.TheVariants.{Pacia, Pacib, Pacda, Pacdb}
use Rattle.pa_a64.specs.declared.instr.AuthenticateOp.TheVariants.{Autia, Autib, Autda, Autdb}
use Rattle.pa_a64.specs.declared.instr.PlainOp.TheVariants.{Paciza, Autiza, Xpaci}
use Rattle.pa_a64.specs.declared.instr.ExceptionOp.TheVariants.{Brk}

-- ---- in a window

-- the register that holds a code pointer there, and that of the address that it is signed with
abbrev pub is_pair : (rd rn : ℕ) → Bool
is_pair rd rn = rd == 16 && rn == 17

-- a code pointer leaves x16 signed, or is called
abbrev pub closes : Option Instr → Bool
closes (Some (i.Sign Pacia rd rn)) = is_pair rd rn
closes (Some (i.Plain Paciza rd)) = rd == 16
closes (Some (i.BranchRegister Blr rn)) = rn == 16
closes other = false

abbrev pub may_write : ℕ → Bool
may_write rd = not (rd == 16) && not (rd == 30)

abbrev pub may_read : ℕ → Bool
may_read rn = not (rn == 16)

-- computes with registers alone, doesn't name x16 and doesn't write x30
abbrev pub may_stand : Option Instr → Bool
may_stand (Some (i.MoveWide op rd imm hw)) = may_write rd
may_stand (Some (i.SumImmediate op rd rn imm shifted)) = may_write rd && may_read rn
may_stand (Some (i.SubsImmediate rd rn imm shifted)) = may_write rd && may_read rn
may_stand (Some (i.Sum op rd rn rm)) = may_write rd && (may_read rn && may_read rm)
may_stand (Some (i.Logical op rd rn rm)) = may_write rd && (may_read rn && may_read rm)
may_stand (Some (i.MultiplyAdd op rd rn rm ra)) = may_write rd && (may_read rn && (may_read rm && may_read ra))
may_stand (Some (i.Divide op rd rn rm)) = may_write rd && (may_read rn && may_read rm)
may_stand (Some (i.Shift op rd rn rm)) = may_write rd && (may_read rn && may_read rm)
may_stand (Some (i.Bitfield op rd rn immr imms)) = may_write rd && may_read rn
may_stand (Some (i.Csinc rd rn rm condition)) = may_write rd && (may_read rn && may_read rm)
may_stand (Some (i.Adrp rd pages)) = may_write rd
may_stand (Some i.Nop) = true
may_stand other = false

-- signs or authenticates a code pointer elsewhere than in x16, or with another address than x17
abbrev pub is_misplaced : Option Instr → Bool
is_misplaced (Some (i.Authenticate Autia rd rn)) = not (is_pair rd rn)
is_misplaced (Some (i.Sign Pacia rd rn)) = not (is_pair rd rn)
is_misplaced (Some (i.Plain Autiza rd)) = not (rd == 16)
is_misplaced (Some (i.Plain Paciza rd)) = not (rd == 16)
is_misplaced other = false

abbrev pub signs_code : Option Instr → Bool
signs_code (Some (i.Sign Pacia rd rn)) = true
signs_code (Some (i.Plain Paciza rd)) = true
signs_code other = false

-- it may open a window: an authentication of a code pointer in x16, or an ADRP of x16
abbrev pub may_open : Option Instr → Bool
may_open (Some (i.Authenticate Autia rd rn)) = is_pair rd rn
may_open (Some (i.Plain Autiza rd)) = rd == 16
may_open (Some (i.Adrp rd pages)) = rd == 16
may_open other = false

-- adds to x16, as the word behind such an ADRP
abbrev pub may_make : Option Instr → Bool
may_make (Some (i.SumImmediate immediate.Add rd rn imm shifted)) = rd == 16 && rn == 16
may_make other = false

-- no window is open behind it, wherever it stands
abbrev pub ends_any : Option Instr → Bool
ends_any instr = not (may_stand instr) && (not (may_open instr) && not (may_make instr))

-- ---- branches

-- how many words from itself a branch goes that stays in its function: B, B.cond, CBZ, CBNZ
abbrev pub branch_words : Option Instr → Option ℤ
branch_words (Some (i.Branch B words)) = Some words
branch_words (Some (i.BranchConditional condition words)) = Some words
branch_words (Some (i.CompareBranch op rt words)) = Some words
branch_words other = None

-- how many words from itself BL goes
abbrev pub call_words : Option Instr → Option ℤ
call_words (Some (i.Branch Bl words)) = Some words
call_words other = None

-- ---- in a function

abbrev pub is_pacibsp : Option Instr → Bool
is_pacibsp (Some (i.Stack Pacibsp)) = true
is_pacibsp other = false

-- control doesn't go on behind it
abbrev pub may_be_last : Option Instr → Bool
may_be_last (Some (i.Stack Retab)) = true
may_be_last (Some (i.Branch B words)) = true
may_be_last (Some (i.Exception Brk imm)) = true
may_be_last other = false

-- of no row, or one that strips a pointer, signs or authenticates one to data, or gives a generic code
abbrev pub is_forbidden : Option Instr → Bool
is_forbidden None = true
is_forbidden (Some (i.Plain Xpaci rd)) = true
is_forbidden (Some (i.Pacga rd rn rm)) = true
is_forbidden (Some (i.Sign Pacda rd rn)) = true
is_forbidden (Some (i.Sign Pacdb rd rn)) = true
is_forbidden (Some (i.Authenticate Autda rd rn)) = true
is_forbidden (Some (i.Authenticate Autdb rd rn)) = true
is_forbidden other = false

-- signs or authenticates a return address elsewhere than where a function begins and returns
abbrev pub is_stray_return : (marked : Bool) → Option Instr → Bool
is_stray_return marked (Some (i.Sign Pacib rd rn)) = true
is_stray_return marked (Some (i.Authenticate Autib rd rn)) = true
is_stray_return marked (Some (i.Stack Autibsp)) = true
is_stray_return marked (Some (i.Stack Pacibsp)) = not marked
is_stray_return marked other = false

-- leaves by a register that isn't authenticated there; a call by x16 may stand where a window says so
abbrev pub is_stray_branch : (window_calls : Bool) → Option Instr → Bool
is_stray_branch window_calls (Some (i.BranchRegister Br rn)) = true
is_stray_branch window_calls (Some (i.BranchRegister Ret rn)) = true
is_stray_branch window_calls (Some (i.BranchRegister Blr rn)) = not (rn == 16 && window_calls)
is_stray_branch window_calls (Some (i.BranchAuthenticated Braa rn rm)) = true
is_stray_branch window_calls (Some (i.BranchAuthenticated Blrab rn rm)) = true
is_stray_branch window_calls other = false
