-- Calls (C11 6.5.2.2) and casts (6.5.4).
use Rattle.std.specs.Prelude.{ℕ, suc, Bool, true, ◌&&◌, ◌||◌, ◌==◌, if◌then◌else◌, List, [], ◌∷◌, length, Option, Some, None, Result, Ok, Err}
use Rattle.pa_ctype.specs.Types.{TypeTree, Of, Function, TypeTrees, Nil, Cons}
use Rattle.pa_ctype.specs.Layouts.{Table}
use Rattle.pa_typed.specs.Typed.{TypedExpr, TypedExprs}
use Rattle.pa_typed.specs.Typed as to
use Rattle.pa_scope.specs.declared.rule.TypeRule.{TypeRule}
use Rattle.pa_scope.specs.declared.rule.TypeRule.TheVariants.{C8, C9, C10, C11, C15, C16}
use Rattle.pa_scope.specs.Answers.{Answer, breaks_at, at_place, first_of_two, first_rule}
use Rattle.pa_convert.specs.Conversions.{is_integer, is_pointer, is_void, is_scalar, is_function_pointer, target, value_type}
use Rattle.pa_rexpr.specs.Values.{Typed, value, converted, given, unless_broken}
use Rattle.pa_rexpr.specs.Operators.{is_bodiless}

-- ---- arguments (6.5.2.2p2, p7)

-- the arguments as the parameters take them, as far as there are both
abbrev pub passed : Table → TypeTrees → List Typed → List (Result TypedExpr TypeRule)
passed table Nil arguments = []
passed table (Cons t ts) [] = []
passed table (Cons t ts) (a ∷ arguments) = given table t a ∷ passed table ts arguments

abbrev pub type_count : TypeTrees → ℕ
type_count Nil = 0
type_count (Cons first rest) = suc (type_count rest)

abbrev pub count_rule : TypeTrees → List Typed → Option TypeRule
count_rule params arguments = if type_count params == length arguments then None else Some C9

abbrev pub trees : List (Result TypedExpr TypeRule) → TypedExprs
trees [] = to.NoTExprs
trees (Ok e ∷ es) = to.ConsTExpr e (trees es)
trees (Err rule ∷ es) = trees es

-- ---- the called function

-- A call by the name of a function, with or without parentheses; every other one is a call by pointer.
abbrev pub call_tree : Bool → TypedExpr → TypedExprs → TypeTree → TypedExpr
call_tree true (to.FunctionValue name place of) arguments result = to.CallDirect name place arguments result
call_tree by_name function arguments result = to.CallPointer arguments function result

-- the value of a call has no qualifiers
abbrev pub called : ℕ → Bool → TypedExpr → TypeTree → List (Result TypedExpr TypeRule) → Option TypeRule → Answer Typed
called place by_name function result arguments None = Ok (value (call_tree by_name function (trees arguments) (value_type result)) (value_type result))
called place by_name function result arguments (Some rule) = breaks_at rule place

-- of all the rules that the arguments and their count break the first by number counts
abbrev pub call_of : Table → ℕ → Bool → Typed → List Typed → Option TypeTree → Answer Typed
call_of table place by_name function arguments (Some (Of c (Function params result))) =
    called place by_name function.tree result (passed table params arguments)
    (first_of_two (first_rule (passed table params arguments)) (count_rule params arguments))
call_of table place by_name function arguments _ = breaks_at C8 place

-- a call of a value, which has to be a pointer to a function
abbrev pub call : Table → ℕ → Bool → Typed → List Typed → Answer Typed
call table place by_name function arguments = call_of table place by_name function arguments (target function.of)

-- ---- casts (6.5.4)

abbrev pub cast_value : TypeTree → Typed → Typed
cast_value wanted e = value (converted wanted e) (value_type wanted)

-- to void: of any value but a struct without a body and a pointer to a function
abbrev pub discard_rule : Table → TypeTree → Option TypeRule
discard_rule table of = if is_bodiless table of then Some C11 else if is_function_pointer of then Some C15 else None

-- between scalars: integers, or pointers to objects
abbrev pub scalar_rule : TypeTree → TypeTree → Option TypeRule
scalar_rule wanted of =
    if is_function_pointer wanted || is_function_pointer of then Some C15
    else if (is_integer wanted && is_integer of) || (is_pointer wanted && is_pointer of) then None
    else Some C16

abbrev pub cast_rule : Table → TypeTree → TypeTree → Option TypeRule
cast_rule table wanted of =
    if is_void wanted then discard_rule table of
    else if is_void of then Some C11
    else if is_scalar wanted && is_scalar of then scalar_rule wanted of
    else Some C10

abbrev pub cast : Table → ℕ → TypeTree → Typed → Answer Typed
cast table place wanted e = at_place place (unless_broken (cast_rule table wanted e.of) (cast_value wanted e))
