-- Arguments that are given to the parameters of a function one by one (C11 6.5.2.2p2, p7).
use Rattle.std.specs.Prelude.{◌≡◌, ◌<◌, ℕ, nat_lt, if◌then◌else◌, Bool, true, false, List, [], ◌∷◌, ◌++◌, map, Option, Some, None, option_map, Result, Ok, Err}
use Rattle.pa_ctype.specs.declared.node.Node.{Node}
use Rattle.pa_ctype.specs.declared.node.Node.TheVariants as node
use Rattle.pa_ctype.specs.Types.{TypeTree, Of, Function, Nil, Cons}
use Rattle.pa_ctype.specs.Layouts.{Table, table_of}
use Rattle.pa_ctype.specs.Tables.{TypeTable, ForTypes}
use Rattle.pa_num.specs.declared.fault.Fault.{Fault}
use Rattle.pa_num.specs.declared.fault.Memory.{Memory}
use Rattle.pa_typed.specs.declared.expr.TExpr.{TExpr}
use Rattle.pa_typed.specs.declared.expr.ExprType.{ExprType}
use Rattle.pa_typed.specs.Typed.{TypedExpr}
use Rattle.pa_typed.specs.Views.{t_expr_tree, t_exprs_of}
use Rattle.pa_scope.specs.declared.rule.TypeRule.{TypeRule}
use Rattle.pa_scope.specs.declared.rule.TypeRule.TheVariants.{C8, C9}
use Rattle.pa_scope.specs.Answers.{Answer, breaks_at, checked, first_of_two, rule_number}
use Rattle.pa_convert.specs.Conversions.{target, value_type}
use Rattle.pa_rexpr.specs.Values.{Typed, value, given}
use Rattle.pa_rexpr.specs.Calls.{call_tree}
use Rattle.pa_value.specs.declared.form.TypedForm.{TypedForm}
use Rattle.pa_value.specs.Forms.{typed_of, ForForms, IsForm, Gives, Meets}
use Rattle.pa_call.specs.declared.arguments.Arguments.{Arguments}
use Rattle.pa_call.specs.declared.functions.Parameter.{Parameter as Numbered}

-- The arguments as their parameters take them, or the first rule by number that one breaks; the function of the parameters
-- that are left; and whether an argument had no parameter.
pub record Passed : Type 0 where
  pub trees : List TypedExpr
  pub rule : Option TypeRule
  pub left : TypeTree
  pub surplus : Bool

-- of two rules the first by number
abbrev pub first_rule_of : TypeRule → TypeRule → TypeRule
first_rule_of rule other = if nat_lt (rule_number other) (rule_number rule) then other else rule

abbrev pub none_passed : TypeTree → Passed
none_passed function = record { trees = []; rule = None; left = function; surplus = false }

abbrev pub taken : Passed → TypeTree → Result TypedExpr TypeRule → Passed
taken p left (Ok tree) = record p { trees = p.trees ++ tree ∷ []; left = left }
taken p left (Err rule) = record p { rule = first_of_two p.rule (Some rule); left = left }

-- a parameter, and the function of the others
pub record Parameter : Type 0 where
  pub of : TypeTree
  pub rest : TypeTree

abbrev pub first_parameter : TypeTree → Option Parameter
first_parameter (Of c (Function (Cons t ts) result)) = Some (record { of = t; rest = Of c (Function ts result) })
first_parameter other = None

-- one argument more
abbrev pub passed_by : Table → Passed → Typed → Option Parameter → Passed
passed_by table p a None = record p { surplus = true }
passed_by table p a (Some parameter) = taken p parameter.rest (given table parameter.of a)

abbrev pub with_argument : Table → Passed → Typed → Passed
with_argument table p a = passed_by table p a (first_parameter p.left)

abbrev pub with_arguments : Table → Passed → List Typed → Passed
with_arguments table p [] = p
with_arguments table p (a ∷ arguments) = with_arguments table (with_argument table p a) arguments

-- the result of a function without parameters
abbrev pub last_result : TypeTree → Option TypeTree
last_result (Of c (Function Nil result)) = Some result
last_result other = None

-- the result, where each parameter has its argument
abbrev pub result_of : Passed → Option TypeTree
result_of p = if p.surplus then None else last_result p.left

-- the first rule by number where the count of arguments differs
abbrev pub miscounted : Option TypeRule → TypeRule
miscounted None = C9
miscounted (Some rule) = first_rule_of rule C9

-- the value of a call has no qualifiers
abbrev pub called_form : Bool → TypedExpr → List TypedExpr → TypeTree → Typed
called_form by_name function arguments result =
    value (call_tree by_name function (t_exprs_of arguments) (value_type result)) (value_type result)

abbrev pub called_by : ℕ → Bool → TypedExpr → Passed → Option TypeTree → Answer Typed
called_by place by_name function p None = breaks_at (miscounted p.rule) place
called_by place by_name function p (Some result) = checked place p.rule (called_form by_name function p.trees result)

-- the call with these arguments
abbrev pub called : ℕ → Bool → TypedExpr → Passed → Answer Typed
called place by_name function p = called_by place by_name function p (result_of p)

-- the function that a pointer of this type points to
abbrev pub function_by : ℕ → Option TypeTree → Answer TypeTree
function_by place (Some (Of c (Function params result))) = Ok (Of c (Function params result))
function_by place other = breaks_at C8 place

abbrev pub called_function : ℕ → TypeTree → Answer TypeTree
called_function place of = function_by place (target of)

-- ---- what the numbers of the program stand for

-- the first parameter in a node, and the result of one without parameters
abbrev pub parameter_in : Node → Option Numbered
parameter_in (node.Takes param rest) = Some (record { of = param; rest = rest })
parameter_in other = None

abbrev pub result_in : Node → Option ℕ
result_in (node.Returns of) = Some of
result_in other = None

pub record IsBelow (n : ℕ) (p : Numbered) : Type 0 where
  pub of : p.of < n
  pub rest : p.rest < n

abbrev pub parameter_of : (ℕ → TypeTree) → Numbered → Parameter
parameter_of m p = record { of = m p.of; rest = m p.rest }

abbrev pub no_arguments : ℕ → Arguments
no_arguments function = record { trees = []; rule = None; left = function; surplus = false }

abbrev pub passed_of : (ℕ → List ℕ) → (ℕ → TypeTree) → Arguments → Passed
passed_of names m a = record { trees = map (t_expr_tree names m) a.trees; rule = a.rule; left = m a.left; surplus = a.surplus }

-- the first parameter of the function of this number
abbrev pub IsFirstParameter : TypeTable → ℕ → Option Numbered → Type 0
IsFirstParameter t function found = ForTypes t (λ m. option_map (parameter_of m) found ≡ first_parameter (m function))

-- with one argument more
abbrev pub IsWith : TypeTable → Arguments → TypedForm → Arguments → Type 0
IsWith t old argument new =
    ForForms t (λ names m. passed_of names m new ≡ with_argument (table_of names m t.structs) (passed_of names m old) (typed_of names m argument))

-- the number of the result, where each parameter has its argument
abbrev pub IsResult : TypeTable → Arguments → Option ℕ → Type 0
IsResult t a found = ForForms t (λ names m. option_map m found ≡ result_of (passed_of names m a))

abbrev pub IsCallTree : Bool → TExpr → List TExpr → ExprType → TExpr → Type 0
IsCallTree by_name function arguments of made =
    (names : ℕ → List ℕ) (m : ℕ → TypeTree)
    → t_expr_tree names m made
    ≡ call_tree by_name (t_expr_tree names m function) (t_exprs_of (map (t_expr_tree names m) arguments)) (m of.number)

abbrev pub IsCalledForm : TypeTable → Result TypedForm Memory → Bool → TExpr → List TExpr → ℕ → Type 0
IsCalledForm t result by_name function arguments of =
    IsForm t result (λ names m. called_form by_name (t_expr_tree names m function) (map (t_expr_tree names m) arguments) (m of))

-- the call of the function, whose pointer this is
abbrev pub GivesCall : TypeTable → Result TypedForm (Fault TypeRule) → ℕ → Bool → TExpr → Arguments → Type 0
GivesCall t result place by_name function a =
    Gives t result (λ names m. called place by_name (t_expr_tree names m function) (passed_of names m a))

-- the function that is called, by its number
abbrev pub IsCalled : TypeTable → ℕ → TypedForm → Result ℕ (Fault TypeRule) → Type 0
IsCalled t place form result = ForTypes t (λ m. Meets m result (called_function place (m form.of)))
