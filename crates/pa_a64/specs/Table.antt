-- The table of instructions: a row for each, with its bits from bit 0 up as the Arm Architecture Reference Manual's
-- chapter on the A64 instruction set encoding shows them. All work on 64 bits, so sf is 1 where a row has it.
use Rattle.std.specs.Prelude.{ℕ, List, [], ◌∷◌, ◌++◌}
use Rattle.pa_a64.specs.declared.instr.AuthenticateOp.{AuthenticateOp}
use Rattle.pa_a64.specs.declared.instr.BitfieldOp.{BitfieldOp}
use Rattle.pa_a64.specs.declared.instr.BranchAuthenticatedOp.{BranchAuthenticatedOp}
use Rattle.pa_a64.specs.declared.instr.BranchOp.{BranchOp}
use Rattle.pa_a64.specs.declared.instr.BranchRegisterOp.{BranchRegisterOp}
use Rattle.pa_a64.specs.declared.instr.CompareBranchOp.{CompareBranchOp}
use Rattle.pa_a64.specs.declared.instr.DivideOp.{DivideOp}
use Rattle.pa_a64.specs.declared.instr.ExceptionOp.{ExceptionOp}
use Rattle.pa_a64.specs.declared.instr.LoadStoreByteOp.{LoadStoreByteOp}
use Rattle.pa_a64.specs.declared.instr.LoadStoreHalfOp.{LoadStoreHalfOp}
use Rattle.pa_a64.specs.declared.instr.LoadStoreOp.{LoadStoreOp}
use Rattle.pa_a64.specs.declared.instr.LoadStorePairOp.{LoadStorePairOp}
use Rattle.pa_a64.specs.declared.instr.LoadStoreUnscaledOp.{LoadStoreUnscaledOp}
use Rattle.pa_a64.specs.declared.instr.LoadStoreWordOp.{LoadStoreWordOp}
use Rattle.pa_a64.specs.declared.instr.LogicalOp.{LogicalOp}
use Rattle.pa_a64.specs.declared.instr.MoveWideOp.{MoveWideOp}
use Rattle.pa_a64.specs.declared.instr.MultiplyAddOp.{MultiplyAddOp}
use Rattle.pa_a64.specs.declared.instr.PlainOp.{PlainOp}
use Rattle.pa_a64.specs.declared.instr.ShiftOp.{ShiftOp}
use Rattle.pa_a64.specs.declared.instr.SignOp.{SignOp}
use Rattle.pa_a64.specs.declared.instr.StackOp.{StackOp}
use Rattle.pa_a64.specs.declared.instr.SumImmediateOp.{SumImmediateOp}
use Rattle.pa_a64.specs.declared.instr.SumOp.{SumOp}
use Rattle.pa_a64.specs.Parts.{Part, Fixed, Field}

-- Where a line has several rows, its operation tells them apart.
pub data Row : Type 0 where
  MoveWide : MoveWideOp → Row
  SumImmediate : SumImmediateOp → Row
  SubsImmediate : Row
  Sum : SumOp → Row
  Logical : LogicalOp → Row
  MultiplyAdd : MultiplyAddOp → Row
  Divide : DivideOp → Row
  Shift : ShiftOp → Row
  Bitfield : BitfieldOp → Row
  Csinc : Row
  Adrp : Row
  Nop : Row
  LoadStore : LoadStoreOp → Row
  LoadStoreWord : LoadStoreWordOp → Row
  LoadStoreHalf : LoadStoreHalfOp → Row
  LoadStoreByte : LoadStoreByteOp → Row
  LoadStoreUnscaled : LoadStoreUnscaledOp → Row
  LoadStorePair : LoadStorePairOp → Row
  Branch : BranchOp → Row
  BranchConditional : Row
  CompareBranch : CompareBranchOp → Row
  BranchRegister : BranchRegisterOp → Row
  BranchAuthenticated : BranchAuthenticatedOp → Row
  Blraaz : Row
  Stack : StackOp → Row
  Sign : SignOp → Row
  Authenticate : AuthenticateOp → Row
  Plain : PlainOp → Row
  Pacga : Row
  Exception : ExceptionOp → Row

abbrev pub register : Part
register = Field 5

-- Data processing, immediate

-- add and subtract: Rd, Rn, imm12, sh, 100010, S, op, sf
abbrev pub sum_immediate : (op S : ℕ) → List Part
sum_immediate op S = register ∷ register ∷ Field 12 ∷ Field 1 ∷ Fixed 6 0b100010 ∷ Fixed 1 S ∷ Fixed 1 op ∷ Fixed 1 1 ∷ []

-- move wide: Rd, imm16, hw, 100101, opc, sf
abbrev pub move_wide : (opc : ℕ) → List Part
move_wide opc = register ∷ Field 16 ∷ Field 2 ∷ Fixed 6 0b100101 ∷ Fixed 2 opc ∷ Fixed 1 1 ∷ []

-- bitfield: Rd, Rn, imms, immr, N, 100110, opc, sf
abbrev pub bitfield : (opc : ℕ) → List Part
bitfield opc = register ∷ register ∷ Field 6 ∷ Field 6 ∷ Fixed 1 1 ∷ Fixed 6 0b100110 ∷ Fixed 2 opc ∷ Fixed 1 1 ∷ []

-- Data processing, register

-- logical, shifted register: Rd, Rn, imm6, Rm, N, shift, 01010, opc, sf
abbrev pub logical : (opc N : ℕ) → List Part
logical opc N = register ∷ register ∷ Fixed 6 0 ∷ register ∷ Fixed 1 N ∷ Fixed 2 0 ∷ Fixed 5 0b01010 ∷ Fixed 2 opc ∷ Fixed 1 1 ∷ []

-- add and subtract, shifted register: Rd, Rn, imm6, Rm, 0, shift, 01011, S, op, sf
abbrev pub sum_registers : (op S : ℕ) → List Part
sum_registers op S = register ∷ register ∷ Fixed 6 0 ∷ register ∷ Fixed 1 0 ∷ Fixed 2 0 ∷ Fixed 5 0b01011 ∷ Fixed 1 S ∷ Fixed 1 op ∷ Fixed 1 1 ∷ []

-- three sources: Rd, Rn, Ra, o0, Rm, op31, 11011, op54, sf
abbrev pub three_sources : (o0 : ℕ) → List Part
three_sources o0 = register ∷ register ∷ register ∷ Fixed 1 o0 ∷ register ∷ Fixed 3 0 ∷ Fixed 5 0b11011 ∷ Fixed 2 0 ∷ Fixed 1 1 ∷ []

-- two sources: Rd, Rn, opcode, Rm, 11010110, S, 0, sf
abbrev pub two_sources : (opcode : ℕ) → List Part
two_sources opcode = register ∷ register ∷ Fixed 6 opcode ∷ register ∷ Fixed 8 0b11010110 ∷ Fixed 1 0 ∷ Fixed 1 0 ∷ Fixed 1 1 ∷ []

-- one source: Rd, Rn, opcode, opcode2, 11010110, S, 1, sf
abbrev pub one_source : Part → (opcode : ℕ) → List Part
one_source Rn opcode = register ∷ Rn ∷ Fixed 6 opcode ∷ Fixed 5 0b00001 ∷ Fixed 8 0b11010110 ∷ Fixed 1 0 ∷ Fixed 1 1 ∷ Fixed 1 1 ∷ []

-- conditional select: Rd, Rn, op2, cond, Rm, 11010100, S, op, sf
abbrev pub conditional_select : (op op2 : ℕ) → List Part
conditional_select op op2 = register ∷ register ∷ Fixed 2 op2 ∷ Field 4 ∷ register ∷ Fixed 8 0b11010100 ∷ Fixed 1 0 ∷ Fixed 1 op ∷ Fixed 1 1 ∷ []

-- Loads and stores

-- unsigned immediate: Rt, Rn, imm12, opc, 01, V, 111, size
abbrev pub load_store : (size opc : ℕ) → List Part
load_store size opc = register ∷ register ∷ Field 12 ∷ Fixed 2 opc ∷ Fixed 2 0b01 ∷ Fixed 1 0 ∷ Fixed 3 0b111 ∷ Fixed 2 size ∷ []

-- unscaled immediate: Rt, Rn, 00, imm9, 0, opc, 00, V, 111, size
abbrev pub load_store_unscaled : (size opc : ℕ) → List Part
load_store_unscaled size opc = register ∷ register ∷ Fixed 2 0b00 ∷ Field 9 ∷ Fixed 1 0 ∷ Fixed 2 opc ∷ Fixed 2 0b00 ∷ Fixed 1 0 ∷ Fixed 3 0b111 ∷ Fixed 2 size ∷ []

-- pair, offset: Rt, Rn, Rt2, imm7, L, 010, V, 101, opc
abbrev pub load_store_pair : (opc L : ℕ) → List Part
load_store_pair opc L = register ∷ register ∷ register ∷ Field 7 ∷ Fixed 1 L ∷ Fixed 3 0b010 ∷ Fixed 1 0 ∷ Fixed 3 0b101 ∷ Fixed 2 opc ∷ []

-- Branches, exceptions and hints

-- unconditional, immediate: imm26, 00101, op
abbrev pub branch : (op : ℕ) → List Part
branch op = Field 26 ∷ Fixed 5 0b00101 ∷ Fixed 1 op ∷ []

-- compare and branch: Rt, imm19, op, 011010, sf
abbrev pub compare_branch : (op : ℕ) → List Part
compare_branch op = register ∷ Field 19 ∷ Fixed 1 op ∷ Fixed 6 0b011010 ∷ Fixed 1 1 ∷ []

-- unconditional, register: op4, Rn, op3, op2, opc, 1101011
abbrev pub branch_register : Part → Part → (op3 opc : ℕ) → List Part
branch_register op4 Rn op3 opc = op4 ∷ Rn ∷ Fixed 6 op3 ∷ Fixed 5 0b11111 ∷ Fixed 4 opc ∷ Fixed 7 0b1101011 ∷ []

-- exception generation: LL, op2, imm16, opc, 11010100
abbrev pub exception : (opc LL : ℕ) → List Part
exception opc LL = Fixed 2 LL ∷ Fixed 3 0b000 ∷ Field 16 ∷ Fixed 3 opc ∷ Fixed 8 0b11010100 ∷ []

-- hints: 11111, op2, CRm, 11010101000000110010
abbrev pub hint : (CRm op2 : ℕ) → List Part
hint CRm op2 = Fixed 5 0b11111 ∷ Fixed 3 op2 ∷ Fixed 4 CRm ∷ Fixed 20 0b1101_0101_0000_0011_0010 ∷ []

abbrev pub parts : Row → List Part
parts (MoveWide MoveWideOp.Movn) = move_wide 0b00
parts (MoveWide MoveWideOp.Movz) = move_wide 0b10
parts (MoveWide MoveWideOp.Movk) = move_wide 0b11
parts (SumImmediate SumImmediateOp.Add) = sum_immediate 0 0
parts (SumImmediate SumImmediateOp.Sub) = sum_immediate 1 0
parts SubsImmediate = sum_immediate 1 1
parts (Sum SumOp.Add) = sum_registers 0 0
parts (Sum SumOp.Sub) = sum_registers 1 0
parts (Sum SumOp.Subs) = sum_registers 1 1
parts (Logical LogicalOp.And) = logical 0b00 0
parts (Logical LogicalOp.Orr) = logical 0b01 0
parts (Logical LogicalOp.Orn) = logical 0b01 1
parts (Logical LogicalOp.Eor) = logical 0b10 0
parts (MultiplyAdd MultiplyAddOp.Madd) = three_sources 0
parts (MultiplyAdd MultiplyAddOp.Msub) = three_sources 1
parts (Divide DivideOp.Udiv) = two_sources 0b000010
parts (Divide DivideOp.Sdiv) = two_sources 0b000011
parts (Shift ShiftOp.Lslv) = two_sources 0b001000
parts (Shift ShiftOp.Lsrv) = two_sources 0b001001
parts (Shift ShiftOp.Asrv) = two_sources 0b001010
parts Pacga = two_sources 0b001100
parts (Bitfield BitfieldOp.Sbfm) = bitfield 0b00
parts (Bitfield BitfieldOp.Ubfm) = bitfield 0b10
parts Csinc = conditional_select 0 0b01
-- immlo above, immhi below: Rd, immhi, 10000, immlo, op
parts Adrp = register ∷ Field 19 ∷ Fixed 5 0b10000 ∷ Field 2 ∷ Fixed 1 1 ∷ []
parts (LoadStore LoadStoreOp.Str) = load_store 0b11 0b00
parts (LoadStore LoadStoreOp.Ldr) = load_store 0b11 0b01
parts (LoadStoreWord LoadStoreWordOp.Strw) = load_store 0b10 0b00
parts (LoadStoreWord LoadStoreWordOp.Ldrw) = load_store 0b10 0b01
parts (LoadStoreWord LoadStoreWordOp.Ldrsw) = load_store 0b10 0b10
parts (LoadStoreHalf LoadStoreHalfOp.Strh) = load_store 0b01 0b00
parts (LoadStoreHalf LoadStoreHalfOp.Ldrh) = load_store 0b01 0b01
parts (LoadStoreHalf LoadStoreHalfOp.Ldrsh) = load_store 0b01 0b10
parts (LoadStoreByte LoadStoreByteOp.Strb) = load_store 0b00 0b00
parts (LoadStoreByte LoadStoreByteOp.Ldrb) = load_store 0b00 0b01
parts (LoadStoreByte LoadStoreByteOp.Ldrsb) = load_store 0b00 0b10
parts (LoadStoreUnscaled LoadStoreUnscaledOp.Stur) = load_store_unscaled 0b11 0b00
parts (LoadStoreUnscaled LoadStoreUnscaledOp.Ldur) = load_store_unscaled 0b11 0b01
parts (LoadStorePair LoadStorePairOp.Stp) = load_store_pair 0b10 0
parts (LoadStorePair LoadStorePairOp.Ldp) = load_store_pair 0b10 1
parts (Branch BranchOp.B) = branch 0
parts (Branch BranchOp.Bl) = branch 1
-- cond, o0, imm19, o1, 0101010
parts BranchConditional = Field 4 ∷ Fixed 1 0 ∷ Field 19 ∷ Fixed 1 0 ∷ Fixed 7 0b0101010 ∷ []
parts (CompareBranch CompareBranchOp.Cbz) = compare_branch 0
parts (CompareBranch CompareBranchOp.Cbnz) = compare_branch 1
parts (BranchRegister BranchRegisterOp.Br) = branch_register (Fixed 5 0) register 0b000000 0b0000
parts (BranchRegister BranchRegisterOp.Blr) = branch_register (Fixed 5 0) register 0b000000 0b0001
parts (BranchRegister BranchRegisterOp.Ret) = branch_register (Fixed 5 0) register 0b000000 0b0010
parts (BranchAuthenticated BranchAuthenticatedOp.Braa) = branch_register register register 0b000010 0b1000
parts (BranchAuthenticated BranchAuthenticatedOp.Blraa) = branch_register register register 0b000010 0b1001
parts (BranchAuthenticated BranchAuthenticatedOp.Blrab) = branch_register register register 0b000011 0b1001
parts Blraaz = branch_register (Fixed 5 0b11111) register 0b000010 0b0001
parts (Stack StackOp.Retab) = branch_register (Fixed 5 0b11111) (Fixed 5 0b11111) 0b000011 0b0010
parts (Stack StackOp.Pacibsp) = hint 0b0011 0b011
parts (Stack StackOp.Autibsp) = hint 0b0011 0b111
parts Nop = hint 0b0000 0b000
parts (Sign SignOp.Pacia) = one_source register 0b000000
parts (Sign SignOp.Pacib) = one_source register 0b000001
parts (Sign SignOp.Pacda) = one_source register 0b000010
parts (Sign SignOp.Pacdb) = one_source register 0b000011
parts (Authenticate AuthenticateOp.Autia) = one_source register 0b000100
parts (Authenticate AuthenticateOp.Autib) = one_source register 0b000101
parts (Authenticate AuthenticateOp.Autda) = one_source register 0b000110
parts (Authenticate AuthenticateOp.Autdb) = one_source register 0b000111
parts (Plain PlainOp.Paciza) = one_source (Fixed 5 0b11111) 0b001000
parts (Plain PlainOp.Autiza) = one_source (Fixed 5 0b11111) 0b001100
parts (Plain PlainOp.Xpaci) = one_source (Fixed 5 0b11111) 0b010000
parts (Exception ExceptionOp.Svc) = exception 0b000 0b01
parts (Exception ExceptionOp.Brk) = exception 0b001 0b00

-- data processing with an immediate
abbrev pub immediate_rows : List Row
immediate_rows =
    Adrp
    ∷ SumImmediate SumImmediateOp.Add ∷ SumImmediate SumImmediateOp.Sub
    ∷ SubsImmediate
    ∷ MoveWide MoveWideOp.Movz ∷ MoveWide MoveWideOp.Movn ∷ MoveWide MoveWideOp.Movk
    ∷ Bitfield BitfieldOp.Sbfm ∷ Bitfield BitfieldOp.Ubfm
    ∷ []

-- data processing with registers
abbrev pub register_rows : List Row
register_rows =
    Logical LogicalOp.And ∷ Logical LogicalOp.Orr ∷ Logical LogicalOp.Eor ∷ Logical LogicalOp.Orn
    ∷ Sum SumOp.Add ∷ Sum SumOp.Sub ∷ Sum SumOp.Subs
    ∷ MultiplyAdd MultiplyAddOp.Madd ∷ MultiplyAdd MultiplyAddOp.Msub
    ∷ Divide DivideOp.Udiv ∷ Divide DivideOp.Sdiv
    ∷ Shift ShiftOp.Lslv ∷ Shift ShiftOp.Lsrv ∷ Shift ShiftOp.Asrv
    ∷ Csinc
    ∷ Pacga
    ∷ Sign SignOp.Pacia ∷ Sign SignOp.Pacib ∷ Sign SignOp.Pacda ∷ Sign SignOp.Pacdb
    ∷ Authenticate AuthenticateOp.Autia ∷ Authenticate AuthenticateOp.Autib ∷ Authenticate AuthenticateOp.Autda ∷ Authenticate AuthenticateOp.Autdb
    ∷ Plain PlainOp.Paciza ∷ Plain PlainOp.Autiza ∷ Plain PlainOp.Xpaci
    ∷ []

-- loads and stores
abbrev pub memory_rows : List Row
memory_rows =
    LoadStore LoadStoreOp.Ldr ∷ LoadStore LoadStoreOp.Str
    ∷ LoadStoreWord LoadStoreWordOp.Ldrw ∷ LoadStoreWord LoadStoreWordOp.Strw ∷ LoadStoreWord LoadStoreWordOp.Ldrsw
    ∷ LoadStoreHalf LoadStoreHalfOp.Ldrh ∷ LoadStoreHalf LoadStoreHalfOp.Strh ∷ LoadStoreHalf LoadStoreHalfOp.Ldrsh
    ∷ LoadStoreByte LoadStoreByteOp.Ldrb ∷ LoadStoreByte LoadStoreByteOp.Strb ∷ LoadStoreByte LoadStoreByteOp.Ldrsb
    ∷ LoadStoreUnscaled LoadStoreUnscaledOp.Ldur ∷ LoadStoreUnscaled LoadStoreUnscaledOp.Stur
    ∷ LoadStorePair LoadStorePairOp.Ldp ∷ LoadStorePair LoadStorePairOp.Stp
    ∷ []

-- branches, exceptions and hints
abbrev pub branch_rows : List Row
branch_rows =
    Branch BranchOp.B ∷ Branch BranchOp.Bl
    ∷ BranchConditional
    ∷ CompareBranch CompareBranchOp.Cbz ∷ CompareBranch CompareBranchOp.Cbnz
    ∷ Exception ExceptionOp.Svc ∷ Exception ExceptionOp.Brk
    ∷ Nop
    ∷ Stack StackOp.Retab ∷ Stack StackOp.Pacibsp ∷ Stack StackOp.Autibsp
    ∷ BranchRegister BranchRegisterOp.Br ∷ BranchRegister BranchRegisterOp.Blr ∷ BranchRegister BranchRegisterOp.Ret
    ∷ Blraaz
    ∷ BranchAuthenticated BranchAuthenticatedOp.Braa ∷ BranchAuthenticated BranchAuthenticatedOp.Blraa ∷ BranchAuthenticated BranchAuthenticatedOp.Blrab
    ∷ []

abbrev pub rows : List Row
rows = immediate_rows ++ (register_rows ++ (memory_rows ++ branch_rows))
