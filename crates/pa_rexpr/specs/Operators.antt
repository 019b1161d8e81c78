-- Operators on values (C11 6.5.3.3, 6.5.5 to 6.5.15, 6.5.17). The operands are values already, and the place is the operator's own
-- expression.
use Rattle.std.specs.Prelude.{ℕ, Bool, true, false, not, ◌&&◌, ◌||◌, if◌then◌else◌, Option, Some, None, Ok}
use Rattle.pa_tree.specs.declared.operator.BinaryOperator.{BinaryOperator}
use Rattle.pa_tree.specs.declared.operator.BinaryOperator.TheVariants as op
use Rattle.pa_typed.specs.declared.expr.UnaryOperation.{UnaryOperation}
use Rattle.pa_typed.specs.declared.expr.UnaryOperation.TheVariants as unary
use Rattle.pa_typed.specs.declared.expr.BinaryOperation.{BinaryOperation}
use Rattle.pa_typed.specs.declared.expr.BinaryOperation.TheVariants as binary
use Rattle.pa_typed.specs.declared.expr.Comparison.{Comparison}
use Rattle.pa_typed.specs.declared.expr.Comparison.TheVariants as comparison
use Rattle.pa_ctype.specs.Types.{TypeTree}
use Rattle.pa_ctype.specs.Layouts.{Table}
use Rattle.pa_typed.specs.Typed.{TypedExpr}
use Rattle.pa_typed.specs.Typed as to
use Rattle.pa_scope.specs.declared.rule.TypeRule.TheVariants.{C5, C6, C7, C10, C11}
use Rattle.pa_scope.specs.Answers.{Answer, breaks_at}
use Rattle.pa_convert.specs.Conversions.{int, long, void, is_integer, is_pointer, is_void, is_struct, is_scalar, is_complete, is_movable, is_function_pointer, promoted, common, common_pointer}
use Rattle.pa_rexpr.specs.Values.{Typed, value, temporary, converted, same_struct}

-- ---- one operand (6.5.3.3)

-- a plus leaves the promoted operand
abbrev pub plus : ℕ → Typed → Answer Typed
plus place e = if is_integer e.of then Ok (value (converted (promoted e.of) e) (promoted e.of)) else breaks_at C5 place

abbrev pub signed_value : UnaryOperation → TypeTree → Typed → Typed
signed_value op t e = value (to.Unary op (converted t e) t) t

abbrev pub with_sign : UnaryOperation → ℕ → Typed → Answer Typed
with_sign op place e = if is_integer e.of then Ok (signed_value op (promoted e.of) e) else breaks_at C5 place

abbrev pub negated : ℕ → Typed → Answer Typed
negated place e = if is_scalar e.of then Ok (value (to.Unary unary.Not e.tree int) int) else breaks_at C6 place

-- ---- arithmetic (6.5.5 to 6.5.7, 6.5.10 to 6.5.12)

-- each operand in its type, the first one in that of the result
abbrev pub operated : BinaryOperation → TypeTree → TypeTree → Typed → Typed → Typed
operated op t u a b = value (to.Binary op (converted t a) (converted u b) t) t

-- in the common type of both
abbrev pub arithmetic : BinaryOperation → Typed → Typed → Typed
arithmetic op a b = operated op (common a.of b.of) (common a.of b.of) a b

abbrev pub on_integers : BinaryOperation → ℕ → Typed → Typed → Answer Typed
on_integers op place a b = if is_integer a.of && is_integer b.of then Ok (arithmetic op a b) else breaks_at C5 place

-- each operand of a shift is promoted for itself (6.5.7p3)
abbrev pub shifted : BinaryOperation → Typed → Typed → Typed
shifted op a b = operated op (promoted a.of) (promoted b.of) a b

abbrev pub shift : BinaryOperation → ℕ → Typed → Typed → Answer Typed
shift op place a b = if is_integer a.of && is_integer b.of then Ok (shifted op a b) else breaks_at C5 place

-- ---- sums and differences (6.5.6); the integer beside a pointer is not converted

abbrev pub moved : Bool → Bool → TypeTree → Typed → Typed → Typed
moved pointer_left subtracts t a b = value (to.PointerAdd a.tree b.tree pointer_left subtracts t) t

abbrev pub sum : Table → ℕ → Typed → Typed → Answer Typed
sum table place a b =
    if is_integer a.of && is_integer b.of then Ok (arithmetic binary.Add a b)
    else if is_movable table a.of && is_integer b.of then Ok (moved true false a.of a b)
    else if is_integer a.of && is_movable table b.of then Ok (moved false false b.of a b)
    else breaks_at C5 place

abbrev pub distance_by : ℕ → Option TypeTree → Typed → Typed → Answer Typed
distance_by place None a b = breaks_at C7 place
distance_by place (Some t) a b = Ok (value (to.PointerSub a.tree b.tree long) long)

-- of two pointers that go together
abbrev pub distance : ℕ → Typed → Typed → Answer Typed
distance place a b = distance_by place (common_pointer a.of b.of) a b

abbrev pub difference : Table → ℕ → Typed → Typed → Answer Typed
difference table place a b =
    if is_integer a.of && is_integer b.of then Ok (arithmetic binary.Subtract a b)
    else if is_movable table a.of && is_integer b.of then Ok (moved true true a.of a b)
    else if is_movable table a.of && is_movable table b.of then distance place a b
    else breaks_at C5 place

-- ---- comparisons (6.5.8, 6.5.9)

abbrev pub compared_in : Comparison → TypeTree → Typed → Typed → Typed
compared_in op t a b = value (to.Compare op (converted t a) (converted t b) int) int

-- integers in their common type
abbrev pub compared_integers : Comparison → Typed → Typed → Typed
compared_integers op a b = compared_in op (common a.of b.of) a b

abbrev pub compared_by : Comparison → ℕ → Option TypeTree → Typed → Typed → Answer Typed
compared_by op place None a b = breaks_at C7 place
compared_by op place (Some t) a b = Ok (compared_in op t a b)

-- pointers in theirs
abbrev pub compared_pointers : Comparison → ℕ → Typed → Typed → Answer Typed
compared_pointers op place a b = compared_by op place (common_pointer a.of b.of) a b

abbrev pub compared : Comparison → ℕ → Typed → Typed → Answer Typed
compared op place a b =
    if is_integer a.of && is_integer b.of then Ok (compared_integers op a b)
    else if is_pointer a.of && is_pointer b.of then compared_pointers op place a b
    else if is_pointer a.of && b.null then Ok (compared_in op a.of a b)
    else if is_pointer b.of && a.null then Ok (compared_in op b.of a b)
    else breaks_at C5 place

-- functions have no order
abbrev pub order : Comparison → ℕ → Typed → Typed → Answer Typed
order op place a b = if is_function_pointer a.of || is_function_pointer b.of then breaks_at C5 place else compared op place a b

-- ---- conditions (6.5.13 to 6.5.15), which are tested as they are

abbrev pub conjunction : ℕ → Typed → Typed → Answer Typed
conjunction place a b = if is_scalar a.of && is_scalar b.of then Ok (value (to.And a.tree b.tree int) int) else breaks_at C6 place

abbrev pub disjunction : ℕ → Typed → Typed → Answer Typed
disjunction place a b = if is_scalar a.of && is_scalar b.of then Ok (value (to.Or a.tree b.tree int) int) else breaks_at C6 place

abbrev pub chosen_in : TypeTree → Typed → Typed → Typed → Typed
chosen_in t test a b = value (to.Choose test.tree (converted t a) (converted t b) t) t

-- integers in their common type
abbrev pub chosen_integer : Typed → Typed → Typed → Typed
chosen_integer test a b = chosen_in (common a.of b.of) test a b

abbrev pub chosen_by : ℕ → Option TypeTree → Typed → Typed → Typed → Answer Typed
chosen_by place None test a b = breaks_at C7 place
chosen_by place (Some t) test a b = Ok (chosen_in t test a b)

-- pointers in theirs
abbrev pub chosen_pointer : ℕ → Typed → Typed → Typed → Answer Typed
chosen_pointer place test a b = chosen_by place (common_pointer a.of b.of) test a b

abbrev pub chosen_tree : TypeTree → Typed → Typed → Typed → TypedExpr
chosen_tree t test a b = to.Choose test.tree a.tree b.tree t

abbrev pub chosen_void : Typed → Typed → Typed → Typed
chosen_void test a b = value (chosen_tree void test a b) void

-- a struct is a place, but no lvalue (6.5.15p4)
abbrev pub chosen_struct : Table → ℕ → Typed → Typed → Typed → Answer Typed
chosen_struct table place test a b =
    if is_complete table a.of then Ok (temporary (chosen_tree a.of test a b) a.of) else breaks_at C11 place

-- what is chosen as it is: both void, or both one struct
abbrev pub unconverted : Table → ℕ → Typed → Typed → Typed → Answer Typed
unconverted table place test a b =
    if is_void a.of && is_void b.of then Ok (chosen_void test a b)
    else if is_void a.of || is_void b.of then breaks_at C11 place
    else if same_struct a.of b.of then chosen_struct table place test a b
    else breaks_at C10 place

-- what `?:` chooses from
abbrev pub alternatives : Table → ℕ → Typed → Typed → Typed → Answer Typed
alternatives table place test a b =
    if is_integer a.of && is_integer b.of then Ok (chosen_integer test a b)
    else if is_pointer a.of && is_pointer b.of then chosen_pointer place test a b
    else if is_pointer a.of && b.null then Ok (chosen_in a.of test a b)
    else if is_pointer b.of && a.null then Ok (chosen_in b.of test a b)
    else unconverted table place test a b

abbrev pub conditional : Table → ℕ → Typed → Typed → Typed → Answer Typed
conditional table place test a b = if is_scalar test.of then alternatives table place test a b else breaks_at C6 place

-- ---- comma (6.5.17)

-- a struct without a body can't be an operand
abbrev pub is_bodiless : Table → TypeTree → Bool
is_bodiless table t = is_struct t && not (is_complete table t)

abbrev pub second_of : Typed → Typed → Typed
second_of a b =
    if is_struct b.of then temporary (to.Comma a.tree b.tree b.of) b.of else value (to.Comma a.tree b.tree b.of) b.of

abbrev pub comma : Table → ℕ → Typed → Typed → Answer Typed
comma table place a b = if is_bodiless table a.of || is_bodiless table b.of then breaks_at C11 place else Ok (second_of a b)

-- ---- operators between two values; what is left is a comma, since assignments are no operators on values

abbrev pub binary_value : Table → BinaryOperator → ℕ → Typed → Typed → Answer Typed
binary_value table op.LogicalOr place a b = disjunction place a b
binary_value table op.LogicalAnd place a b = conjunction place a b
binary_value table op.Or place a b = on_integers binary.Or place a b
binary_value table op.Xor place a b = on_integers binary.Xor place a b
binary_value table op.And place a b = on_integers binary.And place a b
binary_value table op.Equal place a b = compared comparison.Equal place a b
binary_value table op.NotEqual place a b = compared comparison.NotEqual place a b
binary_value table op.Less place a b = order comparison.Less place a b
binary_value table op.Greater place a b = order comparison.Greater place a b
binary_value table op.LessEqual place a b = order comparison.LessEqual place a b
binary_value table op.GreaterEqual place a b = order comparison.GreaterEqual place a b
binary_value table op.ShiftLeft place a b = shift binary.ShiftLeft place a b
binary_value table op.ShiftRight place a b = shift binary.ShiftRight place a b
binary_value table op.Add place a b = sum table place a b
binary_value table op.Subtract place a b = difference table place a b
binary_value table op.Multiply place a b = on_integers binary.Multiply place a b
binary_value table op.Divide place a b = on_integers binary.Divide place a b
binary_value table op.Remainder place a b = on_integers binary.Remainder place a b
binary_value table _ place a b = comma table place a b
