-- The types of operators and of their operands.
use Rattle.std.specs.Prelude.{◌≡◌, ◌≤◌, ◌^◌, ℕ, ℤ, Option, Some, None, if◌then◌else◌, IsTrue}
use Rattle.std.specs.Int.RustNames.{unsigned_abs}
use Rattle.pa_ctype.specs.Types.{TypeTree, Pointer}
use Rattle.pa_ctype.specs.Values.{CValue}
use Rattle.pa_pac.specs.declared.schema.Schema.{Schema}
use Rattle.pa_cmean.specs.Operations.{converted_to}
use Rattle.pa_typed.specs.declared.expr.BinaryOperation.{BinaryOperation}
use Rattle.pa_convert.specs.declared.form.Form.{Form}
use Rattle.pa_convert.specs.declared.form.Form.TheVariants.{Integer}
use Rattle.pa_convert.specs.Forms.{HasForm}
use Rattle.pa_integer.specs.Integers.{is_width, is_in_range, is_right_operand}
use Rattle.pa_store.specs.declared.operations.IntegerType.{IntegerType}
use Rattle.pa_store.specs.declared.value.Value.{Value}
use Rattle.pa_store.specs.declared.value.Value.TheVariants.{Number}

-- so for any type of this form
abbrev pub ForForm : Form → (TypeTree → Type 0) → Type 0
ForForm form P = (m : ℕ → TypeTree) (of : TypeTree) → HasForm m form of → P of

-- a number where the type is an integer type is one of its numbers
abbrev pub IsOperand : Form → Value → Type 0
IsOperand (Integer bits signed) (Number n) = IsTrue (is_in_range bits signed n)
IsOperand _ _ = Unit {0}

-- so the right one, but that of a shift (C11 6.5.7p3)
abbrev pub IsRightOperand : BinaryOperation → Form → Value → Type 0
IsRightOperand op (Integer bits signed) (Number n) = IsTrue (is_right_operand op bits signed n)
IsRightOperand op _ _ = Unit {0}

-- its number, if it is one
abbrev pub number_in : Value → Option ℤ
number_in (Number n) = Some n
number_in _ = None

-- its integer type, where it has a width of C
abbrev pub integer_form : Form → Option IntegerType
integer_form (Integer bits signed) = if is_width bits then Some (record { bits = bits; signed = signed }) else None
integer_form _ = None

-- what a value becomes in any type of pointers
abbrev pub IsConvertedPointer : CValue → Option CValue → Type 0
IsConvertedPointer value answer = (to : TypeTree) (schema : Option Schema) → answer ≡ converted_to (Pointer to schema) value

-- a number that the integer types have room for, with either sign
abbrev pub IsShort : Value → Type 0
IsShort (Number n) = unsigned_abs n ≤ 2 ^ 64
IsShort _ = Unit {0}
