-- The operations on numbers. A temporary has a number of C by its 64 bits in two's complement, whatever its type: one of a signed
-- type is extended by its sign, one of an unsigned type by zeros.
use Rattle.std.specs.Prelude.{ℕ, ◌/◌, Bool, true, false, List, [], ◌∷◌, Option, Some, None}
use Rattle.pa_ctype.specs.Types.{TypeTree, Of, Void, Boolean, Integer}
use Rattle.pa_typed.specs.declared.expr.UnaryOperation.{UnaryOperation}
use Rattle.pa_typed.specs.declared.expr.UnaryOperation.TheVariants as unary
use Rattle.pa_typed.specs.declared.expr.BinaryOperation.{BinaryOperation}
use Rattle.pa_typed.specs.declared.expr.BinaryOperation.TheVariants.{Multiply, Divide, Remainder, Add, Subtract, ShiftLeft, ShiftRight, And, Xor, Or}
use Rattle.pa_typed.specs.declared.expr.Comparison.{Comparison}
use Rattle.pa_typed.specs.declared.expr.Comparison.TheVariants.{Less, Greater, LessEqual, GreaterEqual, Equal, NotEqual}
use Rattle.pa_lir.specs.declared.op.Op.{Op}
use Rattle.pa_lir.specs.declared.op.Op.TheVariants as op
use Rattle.pa_lir.specs.declared.op.BinOp.{BinOp}
use Rattle.pa_lir.specs.declared.op.BinOp.TheVariants as flat
use Rattle.pa_lir.specs.declared.op.UnOp.TheVariants as one

-- ---- types

-- the bytes of an integer type (C11 6.2.6.1); of `_Bool` one
abbrev pub bytes_of : TypeTree → ℕ
bytes_of (Of constant (Integer bits signed)) = bits / 8
bytes_of (Of constant Boolean) = 1
bytes_of _ = 8

-- the type has negative numbers
abbrev pub is_signed : TypeTree → Bool
is_signed (Of constant (Integer bits signed)) = signed
is_signed _ = false

-- nothing is given (6.3.2.2)
abbrev pub is_void : TypeTree → Bool
is_void (Of constant Void) = true
is_void _ = false

-- ---- what is done to the number in a temporary

-- whether it isn't 0, as 1 or 0, with another temporary in hand
abbrev pub truth_ops : (t free : ℕ) → List Op
truth_ops t free = op.Const free 0 ∷ op.Bin t flat.Ne t free ∷ []

-- whether it is 0 (6.5.3.3p5)
abbrev pub not_ops : (t free : ℕ) → List Op
not_ops t free = op.Const free 0 ∷ op.Bin t flat.Eq t free ∷ []

-- conversion to a type (6.3.1.2, 6.3.1.3)
abbrev pub convert_ops : TypeTree → (t free : ℕ) → List Op
convert_ops (Of constant Boolean) t free = truth_ops t free
convert_ops (Of constant (Integer bits signed)) t free = op.Extend t t bits signed ∷ []
convert_ops _ t free = []

-- Results of an unsigned type count modulo its range (6.2.5p9). One of a signed type that doesn't fit is undefined (6.5p5).
abbrev pub wrap_ops : TypeTree → ℕ → List Op
wrap_ops (Of constant (Integer bits false)) t = op.Extend t t bits false ∷ []
wrap_ops _ t = []

abbrev pub unary_ops : UnaryOperation → TypeTree → (t free : ℕ) → List Op
unary_ops unary.Not of t free = not_ops t free
unary_ops unary.Minus of t free = op.Un t one.Neg t ∷ wrap_ops of t
unary_ops unary.Complement of t free = op.Un t one.Not t ∷ wrap_ops of t

-- ---- two numbers

abbrev pub by_sign : Bool → BinOp → BinOp → BinOp
by_sign true signed unsigned = signed
by_sign false signed unsigned = unsigned

-- 6.5.5 to 6.5.7, 6.5.10 to 6.5.12
abbrev pub binary_op : BinaryOperation → TypeTree → BinOp
binary_op Multiply of = flat.Mul
binary_op Divide of = by_sign (is_signed of) flat.SDiv flat.UDiv
binary_op Remainder of = by_sign (is_signed of) flat.SRem flat.URem
binary_op Add of = flat.Add
binary_op Subtract of = flat.Sub
binary_op ShiftLeft of = flat.Shl
binary_op ShiftRight of = by_sign (is_signed of) flat.Asr flat.Lsr
binary_op And of = flat.And
binary_op Xor of = flat.Xor
binary_op Or of = flat.Or

-- the result may leave the range of the operands
abbrev pub may_leave : BinaryOperation → Bool
may_leave Multiply = true
may_leave Add = true
may_leave Subtract = true
may_leave ShiftLeft = true
may_leave _ = false

abbrev pub wrap_if : Bool → TypeTree → ℕ → List Op
wrap_if true of t = wrap_ops of t
wrap_if false of t = []

-- the left number stands in t, where the result goes
abbrev pub binary_ops : BinaryOperation → TypeTree → (t right : ℕ) → List Op
binary_ops o of t right = op.Bin t (binary_op o of) t right ∷ wrap_if (may_leave o) of t

-- 6.5.8 and 6.5.9, by the type of the operands
abbrev pub compare_op : Comparison → Bool → (t left right : ℕ) → Op
compare_op Less signed t left right = op.Bin t (by_sign signed flat.SLt flat.ULt) left right
compare_op Greater signed t left right = op.Bin t (by_sign signed flat.SLt flat.ULt) right left
compare_op LessEqual signed t left right = op.Bin t (by_sign signed flat.SLe flat.ULe) left right
compare_op GreaterEqual signed t left right = op.Bin t (by_sign signed flat.SLe flat.ULe) right left
compare_op Equal signed t left right = op.Bin t flat.Eq left right
compare_op NotEqual signed t left right = op.Bin t flat.Ne left right

-- ---- places

abbrev pub load_op : TypeTree → (t at : ℕ) → Op
load_op of t at = op.Load t at (bytes_of of) (is_signed of)

abbrev pub store_op : TypeTree → (at from : ℕ) → Op
store_op of at from = op.Store at from (bytes_of of)

-- the place of the store around, as what is zero bytes behind it; without one the meaning is undefined
abbrev pub same_ops : Option ℕ → ℕ → List Op
same_ops None t = op.Const t 0 ∷ []
same_ops (Some place) t = op.Const t 0 ∷ op.Bin t flat.Add place t ∷ []

-- the temporary of a call's result
abbrev pub result_temp : Bool → ℕ → Option ℕ
result_temp true t = None
result_temp false t = Some t
