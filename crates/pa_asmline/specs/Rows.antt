-- The lines that give instructions: their names, as the Arm Architecture Reference Manual has them, and what their operands
-- may be. Where the manual shows a 32-bit register, the names here are the project's own: ldrw, strw, bcond with the number
-- of a condition. `ldrw`, `ldrh` and the like all take the 64-bit name of a register.
use Rattle.std.specs.Prelude.{ℕ, ◌-◌, ◌*◌, ◌^◌, List, [], ◌∷◌, codes, ◌==◌, if◌then◌else◌}
use Rattle.pa_a64.specs.declared.instr.AuthenticateOp.TheVariants as AuthenticateOp
use Rattle.pa_a64.specs.declared.instr.BitfieldOp.TheVariants as BitfieldOp
use Rattle.pa_a64.specs.declared.instr.BranchAuthenticatedOp.TheVariants as BranchAuthenticatedOp
use Rattle.pa_a64.specs.declared.instr.BranchRegisterOp.TheVariants as BranchRegisterOp
use Rattle.pa_a64.specs.declared.instr.CompareBranchOp.TheVariants as CompareBranchOp
use Rattle.pa_a64.specs.declared.instr.DivideOp.TheVariants as DivideOp
use Rattle.pa_a64.specs.declared.instr.ExceptionOp.TheVariants as ExceptionOp
use Rattle.pa_a64.specs.declared.instr.LoadStoreByteOp.TheVariants as LoadStoreByteOp
use Rattle.pa_a64.specs.declared.instr.LoadStoreHalfOp.TheVariants as LoadStoreHalfOp
use Rattle.pa_a64.specs.declared.instr.LoadStoreOp.TheVariants as LoadStoreOp
use Rattle.pa_a64.specs.declared.instr.LoadStorePairOp.TheVariants as LoadStorePairOp
use Rattle.pa_a64.specs.declared.instr.LoadStoreUnscaledOp.TheVariants as LoadStoreUnscaledOp
use Rattle.pa_a64.specs.declared.instr.LoadStoreWordOp.TheVariants as LoadStoreWordOp
use Rattle.pa_a64.specs.declared.instr.LogicalOp.TheVariants as LogicalOp
use Rattle.pa_a64.specs.declared.instr.MoveWideOp.TheVariants as MoveWideOp
use Rattle.pa_a64.specs.declared.instr.MultiplyAddOp.TheVariants as MultiplyAddOp
use Rattle.pa_a64.specs.declared.instr.PlainOp.TheVariants as PlainOp
use Rattle.pa_a64.specs.declared.instr.ShiftOp.TheVariants as ShiftOp
use Rattle.pa_a64.specs.declared.instr.SignOp.TheVariants as SignOp
use Rattle.pa_a64.specs.declared.instr.StackOp.TheVariants as StackOp
use Rattle.pa_a64.specs.declared.instr.SumImmediateOp.TheVariants as SumImmediateOp
use Rattle.pa_a64.specs.declared.instr.SumOp.TheVariants as SumOp
use Rattle.pa_asmline.specs.declared.form.Form.{Form}
use Rattle.pa_asmline.specs.declared.form.Form.TheVariants as form
use Rattle.pa_asmline.specs.declared.kind.Kind.{Kind}
use Rattle.pa_asmline.specs.declared.kind.Kind.TheVariants as kind
use Rattle.pa_asmline.specs.declared.kind.Range.{Range}
use Rattle.pa_asmline.specs.declared.kind.Step.{Step}
use Rattle.pa_asmline.specs.declared.kind.Step.TheVariants.{One, Two, Four, Eight, Sixteen}

abbrev pub Text : Type 0
Text = List ℕ

-- ---- names

abbrev pub name : Form → Text
name (form.MoveWide MoveWideOp.Movz) = codes "movz"
name (form.MoveWide MoveWideOp.Movn) = codes "movn"
name (form.MoveWide MoveWideOp.Movk) = codes "movk"
name (form.MoveWideShifted MoveWideOp.Movz) = codes "movz"
name (form.MoveWideShifted MoveWideOp.Movn) = codes "movn"
name (form.MoveWideShifted MoveWideOp.Movk) = codes "movk"
name (form.SumImmediate SumImmediateOp.Add) = codes "add"
name (form.SumImmediate SumImmediateOp.Sub) = codes "sub"
name (form.SumImmediateShifted SumImmediateOp.Add) = codes "add"
name (form.SumImmediateShifted SumImmediateOp.Sub) = codes "sub"
name form.AddPageOffset = codes "add"
name form.SubsImmediate = codes "subs"
name form.SubsImmediateShifted = codes "subs"
name (form.Sum SumOp.Add) = codes "add"
name (form.Sum SumOp.Sub) = codes "sub"
name (form.Sum SumOp.Subs) = codes "subs"
name (form.Logical LogicalOp.And) = codes "and"
name (form.Logical LogicalOp.Orr) = codes "orr"
name (form.Logical LogicalOp.Eor) = codes "eor"
name (form.Logical LogicalOp.Orn) = codes "orn"
name (form.MultiplyAdd MultiplyAddOp.Madd) = codes "madd"
name (form.MultiplyAdd MultiplyAddOp.Msub) = codes "msub"
name (form.Divide DivideOp.Udiv) = codes "udiv"
name (form.Divide DivideOp.Sdiv) = codes "sdiv"
name (form.Shift ShiftOp.Lslv) = codes "lslv"
name (form.Shift ShiftOp.Lsrv) = codes "lsrv"
name (form.Shift ShiftOp.Asrv) = codes "asrv"
name (form.Bitfield BitfieldOp.Sbfm) = codes "sbfm"
name (form.Bitfield BitfieldOp.Ubfm) = codes "ubfm"
name form.Csinc = codes "csinc"
name form.Adrp = codes "adrp"
name form.AdrpPage = codes "adrp"
name form.Nop = codes "nop"
name (form.LoadStore LoadStoreOp.Ldr) = codes "ldr"
name (form.LoadStore LoadStoreOp.Str) = codes "str"
name (form.LoadStoreWord LoadStoreWordOp.Ldrw) = codes "ldrw"
name (form.LoadStoreWord LoadStoreWordOp.Strw) = codes "strw"
name (form.LoadStoreWord LoadStoreWordOp.Ldrsw) = codes "ldrsw"
name (form.LoadStoreHalf LoadStoreHalfOp.Ldrh) = codes "ldrh"
name (form.LoadStoreHalf LoadStoreHalfOp.Strh) = codes "strh"
name (form.LoadStoreHalf LoadStoreHalfOp.Ldrsh) = codes "ldrsh"
name (form.LoadStoreByte LoadStoreByteOp.Ldrb) = codes "ldrb"
name (form.LoadStoreByte LoadStoreByteOp.Strb) = codes "strb"
name (form.LoadStoreByte LoadStoreByteOp.Ldrsb) = codes "ldrsb"
name (form.LoadStoreUnscaled LoadStoreUnscaledOp.Ldur) = codes "ldur"
name (form.LoadStoreUnscaled LoadStoreUnscaledOp.Stur) = codes "stur"
name (form.LoadStorePair LoadStorePairOp.Ldp) = codes "ldp"
name (form.LoadStorePair LoadStorePairOp.Stp) = codes "stp"
name form.Jump = codes "b"
name form.Call = codes "bl"
name form.BranchConditional = codes "bcond"
name (form.CompareBranch CompareBranchOp.Cbz) = codes "cbz"
name (form.CompareBranch CompareBranchOp.Cbnz) = codes "cbnz"
name (form.BranchRegister BranchRegisterOp.Br) = codes "br"
name (form.BranchRegister BranchRegisterOp.Blr) = codes "blr"
name (form.BranchRegister BranchRegisterOp.Ret) = codes "ret"
name (form.BranchAuthenticated BranchAuthenticatedOp.Braa) = codes "braa"
name (form.BranchAuthenticated BranchAuthenticatedOp.Blraa) = codes "blraa"
name (form.BranchAuthenticated BranchAuthenticatedOp.Blrab) = codes "blrab"
name form.Blraaz = codes "blraaz"
name (form.Stack StackOp.Retab) = codes "retab"
name (form.Stack StackOp.Pacibsp) = codes "pacibsp"
name (form.Stack StackOp.Autibsp) = codes "autibsp"
name (form.Sign SignOp.Pacia) = codes "pacia"
name (form.Sign SignOp.Pacib) = codes "pacib"
name (form.Sign SignOp.Pacda) = codes "pacda"
name (form.Sign SignOp.Pacdb) = codes "pacdb"
name (form.Authenticate AuthenticateOp.Autia) = codes "autia"
name (form.Authenticate AuthenticateOp.Autib) = codes "autib"
name (form.Authenticate AuthenticateOp.Autda) = codes "autda"
name (form.Authenticate AuthenticateOp.Autdb) = codes "autdb"
name (form.Plain PlainOp.Paciza) = codes "paciza"
name (form.Plain PlainOp.Autiza) = codes "autiza"
name (form.Plain PlainOp.Xpaci) = codes "xpaci"
name form.Pacga = codes "pacga"
name (form.Exception ExceptionOp.Svc) = codes "svc"
name (form.Exception ExceptionOp.Brk) = codes "brk"

-- ---- operands

-- the numbers that so many bits hold, each times a step
abbrev pub size : Step → ℕ
size One = 1
size Two = 2
size Four = 4
size Eight = 8
size Sixteen = 16

abbrev pub unsigned : (bits : ℕ) → Step → Range
unsigned bits step = record { below = 0; most = (2 ^ bits - 1) * size step; step = step }

abbrev pub signed : (bits : ℕ) → Step → Range
signed bits step = record { below = 2 ^ (bits - 1) * size step; most = (2 ^ (bits - 1) - 1) * size step; step = step }

abbrev pub kinds : Form → List Kind
kinds (form.MoveWide op) = kind.Register ∷ kind.Number (unsigned 16 One) ∷ []
kinds (form.MoveWideShifted op) = kind.Register ∷ kind.Number (unsigned 16 One) ∷ kind.Shift (unsigned 2 Sixteen) ∷ []
kinds (form.SumImmediate op) = kind.RegisterOrStack ∷ kind.RegisterOrStack ∷ kind.Number (unsigned 12 One) ∷ []
kinds (form.SumImmediateShifted op) = kind.RegisterOrStack ∷ kind.RegisterOrStack ∷ kind.Number (unsigned 12 One) ∷ kind.Shift12 ∷ []
kinds form.AddPageOffset = kind.RegisterOrStack ∷ kind.RegisterOrStack ∷ kind.PageOffset ∷ []
kinds form.SubsImmediate = kind.Register ∷ kind.RegisterOrStack ∷ kind.Number (unsigned 12 One) ∷ []
kinds form.SubsImmediateShifted = kind.Register ∷ kind.RegisterOrStack ∷ kind.Number (unsigned 12 One) ∷ kind.Shift12 ∷ []
kinds (form.Sum op) = kind.Register ∷ kind.Register ∷ kind.Register ∷ []
kinds (form.Logical op) = kind.Register ∷ kind.Register ∷ kind.Register ∷ []
kinds (form.MultiplyAdd op) = kind.Register ∷ kind.Register ∷ kind.Register ∷ kind.Register ∷ []
kinds (form.Divide op) = kind.Register ∷ kind.Register ∷ kind.Register ∷ []
kinds (form.Shift op) = kind.Register ∷ kind.Register ∷ kind.Register ∷ []
kinds (form.Bitfield op) = kind.Register ∷ kind.Register ∷ kind.Number (unsigned 6 One) ∷ kind.Number (unsigned 6 One) ∷ []
kinds form.Csinc = kind.Register ∷ kind.Register ∷ kind.Register ∷ kind.Number (unsigned 4 One) ∷ []
kinds form.Adrp = kind.Register ∷ kind.Number (signed 21 One) ∷ []
kinds form.AdrpPage = kind.Register ∷ kind.Page ∷ []
kinds form.Nop = []
kinds (form.LoadStore op) = kind.Register ∷ kind.Base ∷ kind.Offset (unsigned 12 Eight) ∷ []
kinds (form.LoadStoreWord op) = kind.Register ∷ kind.Base ∷ kind.Offset (unsigned 12 Four) ∷ []
kinds (form.LoadStoreHalf op) = kind.Register ∷ kind.Base ∷ kind.Offset (unsigned 12 Two) ∷ []
kinds (form.LoadStoreByte op) = kind.Register ∷ kind.Base ∷ kind.Offset (unsigned 12 One) ∷ []
kinds (form.LoadStoreUnscaled op) = kind.Register ∷ kind.Base ∷ kind.Offset (signed 9 One) ∷ []
kinds (form.LoadStorePair op) = kind.Register ∷ kind.Register ∷ kind.Base ∷ kind.Offset (signed 7 Eight) ∷ []
kinds form.Jump = kind.Target (signed 26 One) ∷ []
kinds form.Call = kind.Callee (signed 26 One) ∷ []
kinds form.BranchConditional = kind.Number (unsigned 4 One) ∷ kind.Target (signed 19 One) ∷ []
kinds (form.CompareBranch op) = kind.Register ∷ kind.Target (signed 19 One) ∷ []
kinds (form.BranchRegister op) = kind.Register ∷ []
kinds (form.BranchAuthenticated op) = kind.Register ∷ kind.RegisterOrStack ∷ []
kinds form.Blraaz = kind.Register ∷ []
kinds (form.Stack op) = []
kinds (form.Sign op) = kind.Register ∷ kind.RegisterOrStack ∷ []
kinds (form.Authenticate op) = kind.Register ∷ kind.RegisterOrStack ∷ []
kinds (form.Plain op) = kind.Register ∷ []
kinds form.Pacga = kind.Register ∷ kind.Register ∷ kind.RegisterOrStack ∷ []
kinds (form.Exception op) = kind.Number (unsigned 16 One) ∷ []

-- ---- the forms by the first byte of their names

abbrev pub forms_at : ℕ → List Form
forms_at first =
    if first == 97 then form.SumImmediate SumImmediateOp.Add ∷ form.SumImmediateShifted SumImmediateOp.Add ∷ form.AddPageOffset ∷ form.Sum SumOp.Add ∷ form.Logical LogicalOp.And ∷ form.Shift ShiftOp.Asrv ∷ form.Adrp ∷ form.AdrpPage ∷ form.Stack StackOp.Autibsp ∷ form.Authenticate AuthenticateOp.Autia ∷ form.Authenticate AuthenticateOp.Autib ∷ form.Authenticate AuthenticateOp.Autda ∷ form.Authenticate AuthenticateOp.Autdb ∷ form.Plain PlainOp.Autiza ∷ [] else
    (if first == 98 then form.Jump ∷ form.Call ∷ form.BranchConditional ∷ form.BranchRegister BranchRegisterOp.Br ∷ form.BranchRegister BranchRegisterOp.Blr ∷ form.BranchAuthenticated BranchAuthenticatedOp.Braa ∷ form.BranchAuthenticated BranchAuthenticatedOp.Blraa ∷ form.BranchAuthenticated BranchAuthenticatedOp.Blrab ∷ form.Blraaz ∷ form.Exception ExceptionOp.Brk ∷ [] else
    (if first == 99 then form.Csinc ∷ form.CompareBranch CompareBranchOp.Cbz ∷ form.CompareBranch CompareBranchOp.Cbnz ∷ [] else
    (if first == 101 then form.Logical LogicalOp.Eor ∷ [] else
    (if first == 108 then form.Shift ShiftOp.Lslv ∷ form.Shift ShiftOp.Lsrv ∷ form.LoadStore LoadStoreOp.Ldr ∷ form.LoadStoreWord LoadStoreWordOp.Ldrw ∷ form.LoadStoreWord LoadStoreWordOp.Ldrsw ∷ form.LoadStoreHalf LoadStoreHalfOp.Ldrh ∷ form.LoadStoreHalf LoadStoreHalfOp.Ldrsh ∷ form.LoadStoreByte LoadStoreByteOp.Ldrb ∷ form.LoadStoreByte LoadStoreByteOp.Ldrsb ∷ form.LoadStoreUnscaled LoadStoreUnscaledOp.Ldur ∷ form.LoadStorePair LoadStorePairOp.Ldp ∷ [] else
    (if first == 109 then form.MoveWide MoveWideOp.Movz ∷ form.MoveWide MoveWideOp.Movn ∷ form.MoveWide MoveWideOp.Movk ∷ form.MoveWideShifted MoveWideOp.Movz ∷ form.MoveWideShifted MoveWideOp.Movn ∷ form.MoveWideShifted MoveWideOp.Movk ∷ form.MultiplyAdd MultiplyAddOp.Madd ∷ form.MultiplyAdd MultiplyAddOp.Msub ∷ [] else
    (if first == 110 then form.Nop ∷ [] else
    (if first == 111 then form.Logical LogicalOp.Orr ∷ form.Logical LogicalOp.Orn ∷ [] else
    (if first == 112 then form.Stack StackOp.Pacibsp ∷ form.Sign SignOp.Pacia ∷ form.Sign SignOp.Pacib ∷ form.Sign SignOp.Pacda ∷ form.Sign SignOp.Pacdb ∷ form.Plain PlainOp.Paciza ∷ form.Pacga ∷ [] else
    (if first == 114 then form.BranchRegister BranchRegisterOp.Ret ∷ form.Stack StackOp.Retab ∷ [] else
    (if first == 115 then form.SumImmediate SumImmediateOp.Sub ∷ form.SumImmediateShifted SumImmediateOp.Sub ∷ form.SubsImmediate ∷ form.SubsImmediateShifted ∷ form.Sum SumOp.Sub ∷ form.Sum SumOp.Subs ∷ form.Divide DivideOp.Sdiv ∷ form.Bitfield BitfieldOp.Sbfm ∷ form.LoadStore LoadStoreOp.Str ∷ form.LoadStoreWord LoadStoreWordOp.Strw ∷ form.LoadStoreHalf LoadStoreHalfOp.Strh ∷ form.LoadStoreByte LoadStoreByteOp.Strb ∷ form.LoadStoreUnscaled LoadStoreUnscaledOp.Stur ∷ form.LoadStorePair LoadStorePairOp.Stp ∷ form.Exception ExceptionOp.Svc ∷ [] else
    (if first == 117 then form.Divide DivideOp.Udiv ∷ form.Bitfield BitfieldOp.Ubfm ∷ [] else
    (if first == 120 then form.Plain PlainOp.Xpaci ∷ [] else
    []))))))))))))
