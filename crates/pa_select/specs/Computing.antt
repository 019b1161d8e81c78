-- The instructions of operators, of extensions, and of loads and stores, on registers (Arm Architecture Reference Manual: A64
-- base instructions).
use Rattle.std.specs.Prelude.{ℕ, ◌-◌, Bool, true, false, ◌==◌, if◌then◌else◌, List, [], ◌∷◌}
use Rattle.pa_a64.specs.declared.instr.Instr.{Instr}
use Rattle.pa_a64.specs.declared.instr.Instr.TheVariants.{Sum, Logical, MultiplyAdd, Divide, Shift, Bitfield, Csinc, LoadStore, LoadStoreWord, LoadStoreHalf, LoadStoreByte}
use Rattle.pa_a64.specs.declared.instr.SumOp.{SumOp}
use Rattle.pa_a64.specs.declared.instr.SumOp.TheVariants as sum
use Rattle.pa_a64.specs.declared.instr.LogicalOp.{LogicalOp}
use Rattle.pa_a64.specs.declared.instr.LogicalOp.TheVariants as logical
use Rattle.pa_a64.specs.declared.instr.MultiplyAddOp.TheVariants.{Madd, Msub}
use Rattle.pa_a64.specs.declared.instr.DivideOp.{DivideOp}
use Rattle.pa_a64.specs.declared.instr.DivideOp.TheVariants.{Udiv, Sdiv}
use Rattle.pa_a64.specs.declared.instr.ShiftOp.{ShiftOp}
use Rattle.pa_a64.specs.declared.instr.ShiftOp.TheVariants.{Lslv, Lsrv, Asrv}
use Rattle.pa_a64.specs.declared.instr.BitfieldOp.{BitfieldOp}
use Rattle.pa_a64.specs.declared.instr.BitfieldOp.TheVariants.{Sbfm, Ubfm}
use Rattle.pa_a64.specs.declared.instr.LoadStoreOp.TheVariants.{Ldr, Str}
use Rattle.pa_a64.specs.declared.instr.LoadStoreWordOp.TheVariants.{Ldrw, Strw, Ldrsw}
use Rattle.pa_a64.specs.declared.instr.LoadStoreHalfOp.TheVariants.{Ldrh, Strh, Ldrsh}
use Rattle.pa_a64.specs.declared.instr.LoadStoreByteOp.TheVariants.{Ldrb, Strb, Ldrsb}
use Rattle.pa_lir.specs.declared.op.BinOp.{BinOp}
use Rattle.pa_lir.specs.declared.op.BinOp.TheVariants.{Add, Sub, Mul, SDiv, UDiv, SRem, URem, And, Or, Xor, Shl, Lsr, Asr, Eq, Ne, SLt, SLe, ULt, ULe}
use Rattle.pa_lir.specs.declared.op.UnOp.{UnOp}
use Rattle.pa_lir.specs.declared.op.UnOp.TheVariants.{Neg, Not}
use Rattle.pa_select.specs.Registers.{x9, x10, x11, xzr}

-- ---- conditions, by their numbers

abbrev pub eq : ℕ
eq = 0

abbrev pub ne : ℕ
ne = 1

-- of numbers without a sign: not below, above
abbrev pub cs : ℕ
cs = 2

abbrev pub hi : ℕ
hi = 8

-- of signed numbers: not below, above
abbrev pub ge : ℕ
ge = 10

abbrev pub gt : ℕ
gt = 12

-- ---- operators: of x9 and x10 into x9

abbrev pub sum_of : SumOp → (rd : ℕ) → Instr
sum_of op rd = Sum op rd x9 x10

abbrev pub product : Instr
product = MultiplyAdd Madd x9 x9 x10 xzr

abbrev pub quotient : DivideOp → (rd : ℕ) → Instr
quotient op rd = Divide op rd x9 x10

abbrev pub logical_of : LogicalOp → Instr
logical_of op = Logical op x9 x9 x10

abbrev pub shifted : ShiftOp → Instr
shifted op = Shift op x9 x9 x10

abbrev pub remainder : DivideOp → List Instr
remainder op = quotient op x11 ∷ MultiplyAdd Msub x9 x11 x10 x9 ∷ []

-- 1, and 0 where this condition holds after a comparison
abbrev pub comparison : (unless : ℕ) → List Instr
comparison unless = sum_of sum.Subs xzr ∷ Csinc x9 xzr xzr unless ∷ []

abbrev pub binary : BinOp → List Instr
binary Add = sum_of sum.Add x9 ∷ []
binary Sub = sum_of sum.Sub x9 ∷ []
binary Mul = product ∷ []
binary SDiv = quotient Sdiv x9 ∷ []
binary UDiv = quotient Udiv x9 ∷ []
binary SRem = remainder Sdiv
binary URem = remainder Udiv
binary And = logical_of logical.And ∷ []
binary Or = logical_of logical.Orr ∷ []
binary Xor = logical_of logical.Eor ∷ []
binary Shl = shifted Lslv ∷ []
binary Lsr = shifted Lsrv ∷ []
binary Asr = shifted Asrv ∷ []
binary Eq = comparison ne
binary Ne = comparison eq
binary SLt = comparison ge
binary SLe = comparison gt
binary ULt = comparison cs
binary ULe = comparison hi

-- of x9 into x9
abbrev pub unary : UnOp → Instr
unary Neg = Sum sum.Sub x9 xzr x9
unary Not = Logical logical.Orn x9 xzr x9

abbrev pub extension : Bool → BitfieldOp
extension true = Sbfm
extension false = Ubfm

-- the low bits of x9, extended
abbrev pub extended : (bits : ℕ) → (signed : Bool) → Instr
extended bits signed = Bitfield (extension signed) x9 x9 0 (bits - 1)

-- ---- loads and stores at the address in x9

-- so many bytes into x9, extended to 64 bits
abbrev pub load_sized : (bytes : ℕ) → (signed : Bool) → Instr
load_sized bytes signed =
    if bytes == 1 then LoadStoreByte (if signed then Ldrsb else Ldrb) x9 x9 0
    else (if bytes == 2 then LoadStoreHalf (if signed then Ldrsh else Ldrh) x9 x9 0
    else (if bytes == 4 then LoadStoreWord (if signed then Ldrsw else Ldrw) x9 x9 0
    else LoadStore Ldr x9 x9 0))

-- the low bytes of x10
abbrev pub store_sized : (bytes : ℕ) → Instr
store_sized bytes =
    if bytes == 1 then LoadStoreByte Strb x10 x9 0
    else (if bytes == 2 then LoadStoreHalf Strh x10 x9 0
    else (if bytes == 4 then LoadStoreWord Strw x10 x9 0
    else LoadStore Str x10 x9 0))
