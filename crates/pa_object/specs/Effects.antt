-- What an instruction that doesn't trap does.
use Rattle.std.specs.Prelude.{ℕ, suc, ◌+◌, ◌-◌, ◌*◌, ◌/◌, ◌%◌, ◌^◌, List, [], ◌∷◌, ◌++◌, slice_set, Bool, true, false, ◌==◌, nat_le, if◌then◌else◌, Option, Some, None, bit_and, bit_or, bit_xor}
use Rattle.std.specs.Int.{w32, cast_signed}
use Rattle.pa_num.specs.Arithmetic.{add64, sub64, mul64, not64, udiv64, sdiv64, lsl64, lsr64, asr64, scaled64, with_part, wrap}
use Rattle.pa_num.specs.Bits.{sign_extended, truncated}
use Rattle.pa_pac.specs.declared.key.Key.{Key}
use Rattle.pa_pac.specs.declared.key.Key.TheVariants.{IA, IB, DA, DB, GA}
use Rattle.pa_pac.specs.declared.event.Way.{Way}
use Rattle.pa_pac.specs.declared.event.Way.TheVariants as way
use Rattle.pa_pac.specs.Signing.{Code, canonical, sign, generic_code}
use Rattle.pa_a64.specs.declared.instr.Instr.{Instr}
use Rattle.pa_a64.specs.declared.instr.Instr.TheVariants as i
use Rattle.pa_a64.specs.declared.instr.MoveWideOp.{MoveWideOp}
use Rattle.pa_a64.specs.declared.instr.MoveWideOp.TheVariants.{Movz, Movn, Movk}
use Rattle.pa_a64.specs.declared.instr.SumImmediateOp.{SumImmediateOp}
use Rattle.pa_a64.specs.declared.instr.SumImmediateOp.TheVariants as immediate
use Rattle.pa_a64.specs.declared.instr.SumOp.{SumOp}
use Rattle.pa_a64.specs.declared.instr.SumOp.TheVariants as sum
use Rattle.pa_a64.specs.declared.instr.LogicalOp.{LogicalOp}
use Rattle.pa_a64.specs.declared.instr.LogicalOp.TheVariants.{And, Orr, Eor, Orn}
use Rattle.pa_a64.specs.declared.instr.MultiplyAddOp.{MultiplyAddOp}
use Rattle.pa_a64.specs.declared.instr.MultiplyAddOp.TheVariants.{Madd, Msub}
use Rattle.pa_a64.specs.declared.instr.DivideOp.{DivideOp}
use Rattle.pa_a64.specs.declared.instr.DivideOp.TheVariants.{Udiv, Sdiv}
use Rattle.pa_a64.specs.declared.instr.ShiftOp.{ShiftOp}
use Rattle.pa_a64.specs.declared.instr.ShiftOp.TheVariants.{Lslv, Lsrv, Asrv}
use Rattle.pa_a64.specs.declared.instr.BitfieldOp.{BitfieldOp}
use Rattle.pa_a64.specs.declared.instr.BitfieldOp.TheVariants.{Sbfm, Ubfm}
use Rattle.pa_a64.specs.declared.instr.LoadStoreOp.{LoadStoreOp}
use Rattle.pa_a64.specs.declared.instr.LoadStoreOp.TheVariants.{Ldr, Str}
use Rattle.pa_a64.specs.declared.instr.LoadStoreWordOp.{LoadStoreWordOp}
use Rattle.pa_a64.specs.declared.instr.LoadStoreWordOp.TheVariants.{Ldrw, Strw, Ldrsw}
use Rattle.pa_a64.specs.declared.instr.LoadStoreHalfOp.{LoadStoreHalfOp}
use Rattle.pa_a64.specs.declared.instr.LoadStoreHalfOp.TheVariants.{Ldrh, Strh, Ldrsh}
use Rattle.pa_a64.specs.declared.instr.LoadStoreByteOp.{LoadStoreByteOp}
use Rattle.pa_a64.specs.declared.instr.LoadStoreByteOp.TheVariants.{Ldrb, Strb, Ldrsb}
use Rattle.pa_a64.specs.declared.instr.LoadStoreUnscaledOp.{LoadStoreUnscaledOp}
use Rattle.pa_a64.specs.declared.instr.LoadStoreUnscaledOp.TheVariants.{Ldur, Stur}
use Rattle.pa_a64.specs.declared.instr.LoadStorePairOp.{LoadStorePairOp}
use Rattle.pa_a64.specs.declared.instr.LoadStorePairOp.TheVariants.{Ldp, Stp}
use Rattle.pa_a64.specs.declared.instr.BranchOp.{BranchOp}
use Rattle.pa_a64.specs.declared.instr.BranchOp.TheVariants.{B, Bl}
use Rattle.pa_a64.specs.declared.instr.CompareBranchOp.{CompareBranchOp}
use Rattle.pa_a64.specs.declared.instr.CompareBranchOp.TheVariants.{Cbz, Cbnz}
use Rattle.pa_a64.specs.declared.instr.BranchRegisterOp.{BranchRegisterOp}
use Rattle.pa_a64.specs.declared.instr.BranchRegisterOp.TheVariants.{Br, Blr, Ret}
use Rattle.pa_a64.specs.declared.instr.BranchAuthenticatedOp.{BranchAuthenticatedOp}
use Rattle.pa_a64.specs.declared.instr.BranchAuthenticatedOp.TheVariants.{Braa, Blraa, Blrab}
use Rattle.pa_a64.specs.declared.instr.StackOp.{StackOp}
use Rattle.pa_a64.specs.declared.instr.StackOp.TheVariants.{Retab, Pacibsp, Autibsp}
use Rattle.pa_a64.specs.declared.instr.SignOp.{SignOp}
use Rattle.pa_a64.specs.declared.instr.SignOp.TheVariants.{Pacia, Pacib, Pacda, Pacdb}
use Rattle.pa_a64.specs.declared.instr.AuthenticateOp.{AuthenticateOp}
use Rattle.pa_a64.specs.declared.instr.PlainOp.{PlainOp}
use Rattle.pa_a64.specs.declared.instr.PlainOp.TheVariants.{Paciza, Autiza, Xpaci}
use Rattle.pa_a64.specs.declared.instr.ExceptionOp.{ExceptionOp}
use Rattle.pa_a64.specs.declared.instr.ExceptionOp.TheVariants.{Svc, Brk}
use Rattle.pa_mem.specs.Memory.{load, store}
use Rattle.pa_object.specs.declared.end.End.{End}
use Rattle.pa_object.specs.declared.end.End.TheVariants.{Exit}
use Rattle.pa_object.specs.Machine.{Machine, register, register_or_sp, with_register, with_register_or_sp, goes_to, after, next, noted, signs, takes, lands, flags_of_difference, condition_holds}
use Rattle.pa_object.specs.Traps.{Asked, asked_by_branch, asked_by_blraaz, asked_of_link, asked_by_authenticate, asked_by_autiza, answer, address}

-- ---- numbers

abbrev pub immediate_of : ℕ → Bool → ℕ
immediate_of imm shifted = if shifted then 4096 * imm else imm

abbrev pub moved : MoveWideOp → ℕ → ℕ → ℕ → ℕ
moved Movz old imm hw = imm * 2 ^ (16 * hw)
moved Movn old imm hw = not64 (imm * 2 ^ (16 * hw))
moved Movk old imm hw = with_part old hw imm

abbrev pub immediate_sum : SumImmediateOp → ℕ → ℕ → ℕ
immediate_sum immediate.Add x y = add64 x y
immediate_sum immediate.Sub x y = sub64 x y

abbrev pub logical : LogicalOp → ℕ → ℕ → ℕ
logical And x y = bit_and x y
logical Orr x y = bit_or x y
logical Eor x y = bit_xor x y
logical Orn x y = bit_or x (not64 y)

abbrev pub multiplied : MultiplyAddOp → ℕ → ℕ → ℕ → ℕ
multiplied Madd x y z = add64 z (mul64 x y)
multiplied Msub x y z = sub64 z (mul64 x y)

abbrev pub quotient : DivideOp → ℕ → ℕ → ℕ
quotient Udiv x y = udiv64 x y
quotient Sdiv x y = sdiv64 x y

abbrev pub shifted_by : ShiftOp → ℕ → ℕ → ℕ
shifted_by Lslv x amount = lsl64 x amount
shifted_by Lsrv x amount = lsr64 x amount
shifted_by Asrv x amount = asr64 x amount

abbrev pub extended : BitfieldOp → ℕ → ℕ → ℕ
extended Sbfm bits value = sign_extended value bits
extended Ubfm bits value = truncated value bits

-- bits imms to immr of the value, at bit 0; or its bits imms to 0, at bit 64 - immr
unfoldable pub bitfield : BitfieldOp → ℕ → ℕ → ℕ → ℕ
bitfield op value immr imms =
    if nat_le immr imms then extended op (imms - immr + 1) (value / 2 ^ immr)
    else wrap (extended op (imms + 1) value * 2 ^ (64 - immr))

-- ---- groups of rows

abbrev pub summed : SumOp → ℕ → ℕ → ℕ → Machine → Machine
summed sum.Add rd x y m = with_register rd (add64 x y) m
summed sum.Sub rd x y m = with_register rd (sub64 x y) m
summed sum.Subs rd x y m = with_register rd (sub64 x y) (record m { flags = flags_of_difference x y })

abbrev pub with_memory : ℕ → ℕ → ℕ → Machine → Machine
with_memory n at value m = record m { memory = store n m.memory at value }

abbrev pub loaded_or_stored : LoadStoreOp → ℕ → ℕ → Machine → Machine
loaded_or_stored Ldr rt at m = with_register rt (load 8 m.memory at) m
loaded_or_stored Str rt at m = with_memory 8 at (register rt m) m

abbrev pub loaded_or_stored_word : LoadStoreWordOp → ℕ → ℕ → Machine → Machine
loaded_or_stored_word Ldrw rt at m = with_register rt (load 4 m.memory at) m
loaded_or_stored_word Strw rt at m = with_memory 4 at (register rt m) m
loaded_or_stored_word Ldrsw rt at m = with_register rt (sign_extended (load 4 m.memory at) 32) m

abbrev pub loaded_or_stored_half : LoadStoreHalfOp → ℕ → ℕ → Machine → Machine
loaded_or_stored_half Ldrh rt at m = with_register rt (load 2 m.memory at) m
loaded_or_stored_half Strh rt at m = with_memory 2 at (register rt m) m
loaded_or_stored_half Ldrsh rt at m = with_register rt (sign_extended (load 2 m.memory at) 16) m

abbrev pub loaded_or_stored_byte : LoadStoreByteOp → ℕ → ℕ → Machine → Machine
loaded_or_stored_byte Ldrb rt at m = with_register rt (load 1 m.memory at) m
loaded_or_stored_byte Strb rt at m = with_memory 1 at (register rt m) m
loaded_or_stored_byte Ldrsb rt at m = with_register rt (sign_extended (load 1 m.memory at) 8) m

abbrev pub loaded_or_stored_unscaled : LoadStoreUnscaledOp → ℕ → ℕ → Machine → Machine
loaded_or_stored_unscaled Ldur rt at m = with_register rt (load 8 m.memory at) m
loaded_or_stored_unscaled Stur rt at m = with_memory 8 at (register rt m) m

abbrev pub loaded_or_stored_pair : LoadStorePairOp → ℕ → ℕ → ℕ → Machine → Machine
loaded_or_stored_pair Ldp rt rt2 at m =
    with_register rt2 (load 8 m.memory (add64 at 8)) (with_register rt (load 8 m.memory at) m)
loaded_or_stored_pair Stp rt rt2 at m =
    with_memory 8 (add64 at 8) (register rt2 m) (with_memory 8 at (register rt m) m)

-- the place that many words from the instruction
abbrev pub way_to : ℕ → Machine → ℕ
way_to offset m = add64 m.pc offset

-- the next place goes into x30
abbrev pub links : Machine → Machine
links m = with_register 30 (after m) m

abbrev pub branched : BranchOp → ℕ → Machine → Machine
branched B target m = goes_to target m
branched Bl target m = goes_to target (links m)

abbrev pub is_taken : CompareBranchOp → ℕ → Bool
is_taken Cbz x = x == 0
is_taken Cbnz x = if x == 0 then false else true

abbrev pub left_by : BranchRegisterOp → ℕ → Machine → Machine
left_by Br target m = lands way.Jump target m
left_by Blr target m = lands way.Call target (links m)
left_by Ret target m = lands way.Return target m

-- what an authentication gave, and 0 where it was refused, which never stands in a run
abbrev pub raw_or_zero : Option ℕ → ℕ
raw_or_zero None = 0
raw_or_zero (Some raw) = raw

abbrev pub raw_of : Code → Asked → ℕ
raw_of code asked = raw_or_zero (answer code asked)

-- the entry of an authentication that was accepted
abbrev pub accepts : Code → Asked → Machine → Machine
accepts code asked m = takes asked.key asked.modifier (raw_of code asked) m

abbrev pub left_by_authenticated : BranchAuthenticatedOp → Code → Asked → Machine → Machine
left_by_authenticated Braa code asked m = lands way.Jump (raw_of code asked) (accepts code asked m)
left_by_authenticated Blraa code asked m = lands way.Call (raw_of code asked) (links (accepts code asked m))
left_by_authenticated Blrab code asked m = lands way.Call (raw_of code asked) (links (accepts code asked m))

-- a register signed where it stands
abbrev pub signed_in : Code → Key → ℕ → ℕ → Machine → Machine
signed_in code key modifier rd m =
    signs key modifier (register rd m) (sign code key modifier (register rd m)) (with_register rd (sign code key modifier (register rd m)) m)

-- a register authenticated where it stands
abbrev pub accepted_in : Code → Asked → ℕ → Machine → Machine
accepted_in code asked rd m = accepts code asked (with_register rd (raw_of code asked) m)

abbrev pub key_of_sign : SignOp → Key
key_of_sign Pacia = IA
key_of_sign Pacib = IB
key_of_sign Pacda = DA
key_of_sign Pacdb = DB

abbrev pub stacked : Code → StackOp → Machine → Machine
stacked code Retab m = lands way.Return (raw_of code (asked_of_link m)) (accepts code (asked_of_link m) m)
stacked code Pacibsp m = next (signed_in code IB m.sp 30 m)
stacked code Autibsp m = next (accepted_in code (asked_of_link m) 30 m)

abbrev pub plainly : Code → PlainOp → ℕ → Machine → Machine
plainly code Paciza rd m = signed_in code IA 0 rd m
plainly code Autiza rd m = accepted_in code (asked_by_autiza rd m) rd m
plainly code Xpaci rd m = with_register rd (canonical (register rd m)) m

-- ---- system calls: 1 prints the low byte of x0 and leaves it there, 2 reads a byte or gives -1, 3 ends the program

abbrev pub prints : Machine → Machine
prints m = record m { registers = slice_set m.registers 0 (register 0 m % 256); output = m.output ++ register 0 m % 256 ∷ [] }

-- the next byte, or -1
abbrev pub first_or_end : List ℕ → ℕ
first_or_end [] = 2 ^ 64 - 1
first_or_end (byte ∷ bytes) = byte

abbrev pub behind_first : List ℕ → List ℕ
behind_first [] = []
behind_first (byte ∷ bytes) = bytes

abbrev pub reads : Machine → Machine
reads m = record m { registers = slice_set m.registers 0 (first_or_end m.input); input = behind_first m.input }

abbrev pub exits : Machine → Machine
exits m = record m { count = suc m.count; ended = Some (Exit (cast_signed w32 (register 0 m % 2 ^ 32))) }

abbrev pub called : ℕ → Machine → Machine
called number m = if number == 1 then next (prints m) else (if number == 2 then next (reads m) else exits m)

abbrev pub excepted : ExceptionOp → ℕ → Machine → Machine
excepted Svc number m = called number m
excepted Brk number m = m

-- ---- the effect of an instruction

unfoldable pub effect : Code → Instr → Machine → Machine
effect code (i.MoveWide op rd imm hw) m = next (with_register rd (moved op (register rd m) imm hw) m)
effect code (i.SumImmediate op rd rn imm shifted) m =
    next (with_register_or_sp rd (immediate_sum op (register_or_sp rn m) (immediate_of imm shifted)) m)
effect code (i.SubsImmediate rd rn imm shifted) m = next (summed sum.Subs rd (register_or_sp rn m) (immediate_of imm shifted) m)
effect code (i.Sum op rd rn rm) m = next (summed op rd (register rn m) (register rm m) m)
effect code (i.Logical op rd rn rm) m = next (with_register rd (logical op (register rn m) (register rm m)) m)
effect code (i.MultiplyAdd op rd rn rm ra) m = next (with_register rd (multiplied op (register rn m) (register rm m) (register ra m)) m)
effect code (i.Divide op rd rn rm) m = next (with_register rd (quotient op (register rn m) (register rm m)) m)
effect code (i.Shift op rd rn rm) m = next (with_register rd (shifted_by op (register rn m) (register rm m)) m)
effect code (i.Bitfield op rd rn immr imms) m = next (with_register rd (bitfield op (register rn m) immr imms) m)
effect code (i.Csinc rd rn rm condition) m =
    next (with_register rd (if condition_holds condition m.flags then register rn m else add64 (register rm m) 1) m)
effect code (i.Adrp rd pages) m = next (with_register rd (add64 (m.pc - m.pc % 4096) (scaled64 4096 pages)) m)
effect code i.Nop m = next m
effect code (i.LoadStore op rt rn imm) m = next (loaded_or_stored op rt (address rn (8 * imm) m) m)
effect code (i.LoadStoreWord op rt rn imm) m = next (loaded_or_stored_word op rt (address rn (4 * imm) m) m)
effect code (i.LoadStoreHalf op rt rn imm) m = next (loaded_or_stored_half op rt (address rn (2 * imm) m) m)
effect code (i.LoadStoreByte op rt rn imm) m = next (loaded_or_stored_byte op rt (address rn imm m) m)
effect code (i.LoadStoreUnscaled op rt rn imm) m = next (loaded_or_stored_unscaled op rt (address rn (scaled64 1 imm) m) m)
effect code (i.LoadStorePair op rt rt2 rn imm) m = next (loaded_or_stored_pair op rt rt2 (address rn (scaled64 8 imm) m) m)
effect code (i.Branch op words) m = branched op (way_to (scaled64 4 words) m) m
effect code (i.BranchConditional condition words) m =
    goes_to (if condition_holds condition m.flags then way_to (scaled64 4 words) m else after m) m
effect code (i.CompareBranch op rt words) m = goes_to (if is_taken op (register rt m) then way_to (scaled64 4 words) m else after m) m
effect code (i.BranchRegister op rn) m = left_by op (register rn m) m
effect code (i.BranchAuthenticated op rn rm) m = left_by_authenticated op code (asked_by_branch op rn rm m) m
effect code (i.Blraaz rn) m = left_by_authenticated Blraa code (asked_by_blraaz rn m) m
effect code (i.Stack op) m = stacked code op m
effect code (i.Sign op rd rn) m = next (signed_in code (key_of_sign op) (register_or_sp rn m) rd m)
effect code (i.Authenticate op rd rn) m = next (accepted_in code (asked_by_authenticate op rd rn m) rd m)
effect code (i.Plain op rd) m = next (plainly code op rd m)
effect code (i.Pacga rd rn rm) m =
    next (signs GA (register_or_sp rm m) (register rn m) (generic_code code (register rn m) (register_or_sp rm m))
    (with_register rd (generic_code code (register rn m) (register_or_sp rm m)) m))
effect code (i.Exception op imm) m = excepted op imm m
