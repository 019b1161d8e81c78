-- Constant expressions (C11 6.6), of typed trees.
use Rattle.std.specs.Prelude.{ℕ, ℤ, pos, Bool, true, false, not, ◌&&◌, if◌then◌else◌, Option, Some, None, is_some, Result, Ok, Err}
use Rattle.pa_ctype.specs.Types.{TypeTree, Of}
use Rattle.pa_ctype.specs.Types as ty
use Rattle.pa_typed.specs.declared.expr.UnaryOperation.{UnaryOperation}
use Rattle.pa_typed.specs.declared.expr.UnaryOperation.TheVariants as unary
use Rattle.pa_typed.specs.declared.expr.BinaryOperation.{BinaryOperation}
use Rattle.pa_typed.specs.declared.expr.BinaryOperation.TheVariants as binary
use Rattle.pa_typed.specs.Typed.{TypedExpr}
use Rattle.pa_typed.specs.Typed as to
use Rattle.pa_integer.specs.Integers.{is_zero, of_bits, wrapped, amount, arithmetic, negated, complemented, compares}
use Rattle.pa_scope.specs.declared.rule.TypeRule.{TypeRule}
use Rattle.pa_scope.specs.declared.rule.TypeRule.TheVariants.{C11, C13, C14}
use Rattle.pa_scope.specs.Answers.{Answer, breaks_at}
use Rattle.pa_convert.specs.Conversions.{is_integer, is_pointer, is_void}
use Rattle.pa_rexpr.specs.Values.{Typed}

-- Why an expression is no constant: it has an operand or an operation that none may have, or a value that its type hasn't (6.6p4).
pub data Flaw : Type 0 where
  NotConstant : Flaw
  OutOfRange : Flaw

abbrev pub flaw_rule : Flaw → TypeRule
flaw_rule NotConstant = C13
flaw_rule OutOfRange = C14

abbrev pub Evaluated : Type 0
Evaluated = Result ℤ Flaw

-- ---- numbers of a type (6.2.6.2)

abbrev pub truth : Bool → ℤ
truth true = pos 1
truth false = pos 0

-- what is left of a number in a type (6.3.1.2, 6.3.1.3); narrowing to a signed type wraps
abbrev pub in_type : TypeTree → ℤ → ℤ
in_type (Of c ty.Boolean) z = truth (not (is_zero z))
in_type (Of c (ty.Integer bits signed)) z = wrapped bits signed z
in_type t z = z

-- the number that 64 bits of two's complement stand for in a type
abbrev pub number_in : TypeTree → ℕ → ℤ
number_in (Of c (ty.Integer bits signed)) word = of_bits 64 signed word
number_in t word = pos word

abbrev pub width : TypeTree → ℕ
width (Of c (ty.Integer bits signed)) = bits
width t = 8

-- ---- operators

-- of two operands; of two flaws the first by rule counts
abbrev pub both : Evaluated → Evaluated → (ℤ → ℤ → Evaluated) → Evaluated
both (Ok a) (Ok b) f = f a b
both (Ok a) (Err flaw) f = Err flaw
both (Err flaw) (Ok b) f = Err flaw
both (Err NotConstant) (Err other) f = Err NotConstant
both (Err OutOfRange) (Err other) f = Err other

abbrev pub with_operand : Evaluated → (ℤ → Evaluated) → Evaluated
with_operand (Ok a) f = f a
with_operand (Err flaw) f = Err flaw

-- a result that an operator has none of lies outside its type (6.5p5)
abbrev pub valued : Option ℤ → Evaluated
valued None = Err OutOfRange
valued (Some z) = Ok z

-- the bits and the sign of an integer type, with which an operator is worked out
abbrev pub in_integer : TypeTree → (ℕ → Bool → Option ℤ) → Evaluated
in_integer (Of c (ty.Integer bits signed)) result = valued (result bits signed)
in_integer t result = Err OutOfRange

-- a right operand that may stand there (6.5.5p5, 6.5.7p3)
abbrev pub is_allowed : BinaryOperation → TypeTree → ℤ → Bool
is_allowed binary.Divide of b = not (is_zero b)
is_allowed binary.Remainder of b = not (is_zero b)
is_allowed binary.ShiftLeft of b = is_some (amount (width of) b)
is_allowed binary.ShiftRight of b = is_some (amount (width of) b)
is_allowed op of b = true

abbrev pub asked : BinaryOperation → TypeTree → Evaluated → Evaluated → Evaluated
asked op of (Ok b) result = if is_allowed op of b then result else Err NotConstant
asked op of (Err flaw) result = result

-- 6.5.5 to 6.5.7, 6.5.10 to 6.5.12, in a type
abbrev pub operated : BinaryOperation → TypeTree → ℤ → ℤ → Evaluated
operated op of a b = in_integer of (λ bits signed. arithmetic op bits signed a b)

-- 6.5.3.3
abbrev pub operated_one : UnaryOperation → TypeTree → ℤ → Evaluated
operated_one unary.Minus of a = in_integer of (λ bits signed. negated bits signed a)
operated_one unary.Complement of a = in_integer of (λ bits signed. complemented bits signed a)
operated_one unary.Not of a = Ok (truth (is_zero a))

-- ---- integer constant expressions (6.6p6)

-- no operand that none may have, also in a part that is not evaluated
unfoldable pub is_integer_form : TypedExpr → Bool
is_integer_form (to.Number value of) = true
is_integer_form (to.Convert e of) = is_integer of && is_integer_form e
is_integer_form (to.Unary op e of) = is_integer_form e
is_integer_form (to.Binary op left right of) = is_integer_form left && is_integer_form right
is_integer_form (to.Compare op left right of) = is_integer_form left && is_integer_form right
is_integer_form (to.And left right of) = is_integer_form left && is_integer_form right
is_integer_form (to.Or left right of) = is_integer_form left && is_integer_form right
is_integer_form (to.Choose test when_true when_false of) = is_integer_form test && (is_integer_form when_true && is_integer_form when_false)
is_integer_form _ = false

-- the value of an expression of that form
unfoldable pub evaluated : TypedExpr → Evaluated
evaluated (to.Number value of) = Ok (number_in of value)
evaluated (to.Convert e of) = with_operand (evaluated e) (λ a. Ok (in_type of a))
evaluated (to.Unary op e of) = with_operand (evaluated e) (operated_one op of)
evaluated (to.Binary op left right of) = asked op of (evaluated right) (both (evaluated left) (evaluated right) (operated op of))
evaluated (to.Compare op left right of) = both (evaluated left) (evaluated right) (λ a b. Ok (truth (compares op a b)))
evaluated (to.And left right of) = with_operand (evaluated left) (λ a. if is_zero a then Ok (pos 0) else with_operand (evaluated right) (λ b. Ok (truth (not (is_zero b)))))
evaluated (to.Or left right of) = with_operand (evaluated left) (λ a. if is_zero a then with_operand (evaluated right) (λ b. Ok (truth (not (is_zero b)))) else Ok (pos 1))
evaluated (to.Choose test when_true when_false of) = with_operand (evaluated test) (λ a. if is_zero a then evaluated when_false else evaluated when_true)
evaluated _ = Err NotConstant

abbrev pub integer_constant : TypedExpr → Evaluated
integer_constant e = if is_integer_form e then evaluated e else Err NotConstant

abbrev pub evaluated_at : ℕ → Evaluated → Answer ℤ
evaluated_at place (Ok z) = Ok z
evaluated_at place (Err flaw) = breaks_at (flaw_rule flaw) place

-- the value of an integer constant expression, whose place this is; a void expression has none
abbrev pub constant_at : ℕ → Typed → Answer ℤ
constant_at place e =
    if is_void e.of then breaks_at C11 place
    else if is_integer e.of then evaluated_at place (integer_constant e.tree)
    else breaks_at C13 place

-- ---- address constants (6.6p9)

abbrev pub type_of : TypedExpr → TypeTree
type_of (to.LocalPlace local of) = of
type_of (to.GlobalPlace name place of) = of
type_of (to.StringPlace text of) = of
type_of (to.Same of) = of
type_of (to.Member owner index offset of) = of
type_of (to.Index left right pointer_left of) = of
type_of (to.Deref pointer of) = of
type_of (to.Number value of) = of
type_of (to.Load from of) = of
type_of (to.LoadSigned from schema of) = of
type_of (to.Store place value old of) = of
type_of (to.StoreSigned place value old schema of) = of
type_of (to.AddressOf at of) = of
type_of (to.FunctionValue name place of) = of
type_of (to.Convert value of) = of
type_of (to.Unary op value of) = of
type_of (to.Binary op left right of) = of
type_of (to.PointerAdd left right pointer_left subtracts of) = of
type_of (to.PointerSub left right of) = of
type_of (to.Compare op left right of) = of
type_of (to.And left right of) = of
type_of (to.Or left right of) = of
type_of (to.Choose test when_true when_false of) = of
type_of (to.Comma first second of) = of
type_of (to.CallDirect name place arguments of) = of
type_of (to.CallPointer arguments function of) = of

-- a pointer to an object of the file or a string literal, or into one, to a function, or null
unfoldable mutual
  pub is_address_form : TypedExpr → Bool
  is_address_form (to.AddressOf at of) = is_static_place at
  is_address_form (to.FunctionValue name place of) = true
  is_address_form (to.Convert e of) = if is_pointer (type_of e) then is_address_form e else is_integer_form e
  is_address_form (to.PointerAdd left right pointer_left subtracts of) =
      if pointer_left then is_address_form left && is_integer_form right else is_integer_form left && is_address_form right
  is_address_form (to.Choose test when_true when_false of) = is_integer_form test && (is_address_form when_true && is_address_form when_false)
  is_address_form _ = false

  -- a place that lies where the program begins
  pub is_static_place : TypedExpr → Bool
  is_static_place (to.GlobalPlace name place of) = true
  is_static_place (to.StringPlace text of) = true
  is_static_place (to.Member owner index offset of) = is_static_place owner
  is_static_place (to.Index left right pointer_left of) =
      if pointer_left then is_address_form left && is_integer_form right else is_integer_form left && is_address_form right
  is_static_place (to.Deref pointer of) = is_address_form pointer
  is_static_place _ = false

abbrev pub flaw_of : Evaluated → Option Flaw
flaw_of (Ok a) = None
flaw_of (Err flaw) = Some flaw

abbrev pub first_flaw : Option Flaw → Option Flaw → Option Flaw
first_flaw None other = other
first_flaw (Some NotConstant) other = Some NotConstant
first_flaw (Some OutOfRange) None = Some OutOfRange
first_flaw (Some OutOfRange) (Some other) = Some other

abbrev pub chosen_flaw : Evaluated → Option Flaw → Option Flaw → Option Flaw
chosen_flaw (Ok a) when_true when_false = if is_zero a then when_false else when_true
chosen_flaw (Err flaw) when_true when_false = Some flaw

-- the flaw of an address of that form, in a part that is evaluated
unfoldable mutual
  pub address_flaw : TypedExpr → Option Flaw
  address_flaw (to.AddressOf at of) = place_flaw at
  address_flaw (to.Convert e of) = if is_pointer (type_of e) then address_flaw e else flaw_of (evaluated e)
  address_flaw (to.PointerAdd left right pointer_left subtracts of) =
      if pointer_left then first_flaw (address_flaw left) (flaw_of (evaluated right)) else first_flaw (flaw_of (evaluated left)) (address_flaw right)
  address_flaw (to.Choose test when_true when_false of) = chosen_flaw (evaluated test) (address_flaw when_true) (address_flaw when_false)
  address_flaw _ = None

  pub place_flaw : TypedExpr → Option Flaw
  place_flaw (to.Member owner index offset of) = place_flaw owner
  place_flaw (to.Index left right pointer_left of) =
      if pointer_left then first_flaw (address_flaw left) (flaw_of (evaluated right)) else first_flaw (flaw_of (evaluated left)) (address_flaw right)
  place_flaw (to.Deref pointer of) = address_flaw pointer
  place_flaw _ = None

abbrev pub address_constant : TypedExpr → Option Flaw
address_constant e = if is_address_form e then address_flaw e else Some NotConstant

-- the flaw of what an object of the file is given, a part of this type (6.7.9p4)
abbrev pub initial_flaw : TypeTree → TypedExpr → Option Flaw
initial_flaw wanted e = if is_pointer wanted then address_constant e else flaw_of (integer_constant e)
