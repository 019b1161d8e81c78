-- Operators on places: subscripts and members (C11 6.5.2.1, 6.5.2.3), `&` and `*` (6.5.3.2), assignment (6.5.16), `++` and `--`
-- (6.5.2.4, 6.5.3.1), and `sizeof` (6.5.3.4). The place that is told is the operator's own expression.
use Rattle.std.specs.Prelude.{ℕ, zero, suc, Bool, true, false, not, ◌&&◌, ◌||◌, if◌then◌else◌, List, [], ◌∷◌, length, slice_get, Option, Some, None, Ok, option_and_then}
use Rattle.pa_pac.specs.declared.schema.Schema.{Schema}
use Rattle.pa_tree.specs.declared.operator.BinaryOperator.{BinaryOperator}
use Rattle.pa_tree.specs.declared.operator.BinaryOperator.TheVariants as op
use Rattle.pa_tree.specs.declared.operator.Step.{Step}
use Rattle.pa_tree.specs.declared.operator.Step.TheVariants as step
use Rattle.pa_ctype.specs.declared.ctype.Layout.{Layout}
use Rattle.pa_ctype.specs.declared.ctype.Member.{Member}
use Rattle.pa_ctype.specs.Types.{TypeTree, Of, FormTree}
use Rattle.pa_ctype.specs.Types as ty
use Rattle.pa_ctype.specs.Layouts.{Field, Body, Table, body_of, member_of, layout_in}
use Rattle.pa_typed.specs.Typed.{TypedExpr}
use Rattle.pa_typed.specs.Typed as to
use Rattle.pa_scope.specs.declared.rule.TypeRule.TheVariants.{C3, C4, C5, C11, C12}
use Rattle.pa_scope.specs.Answers.{Answer, breaks_at, then_with, at_place}
use Rattle.pa_convert.specs.Conversions.{int, unsigned_long, pointer_to, value_type, schema_of, is_integer, is_void, is_array, is_function, is_movable, target}
use Rattle.pa_ctype.specs.Qualifiers.{is_constant, with_const}
use Rattle.pa_rexpr.specs.Values.{Typed, lvalue, value, designator, read, given}
use Rattle.pa_rexpr.specs.declared.category.Category.{Category}
use Rattle.pa_rexpr.specs.declared.category.Category.TheVariants.{Lvalue, Designator}
use Rattle.pa_rexpr.specs.Operators.{binary_value}

-- ---- what a pointer points to (6.5.3.2, 6.5.2.1)

-- a function adds no form, and nothing can be done with what `void *` points to
abbrev pub pointed_to : ℕ → Typed → Option TypeTree → Answer Typed
pointed_to place e None = breaks_at C5 place
pointed_to place e (Some t) =
    if is_function t then Ok (designator e.tree t) else if is_void t then Ok (value (to.Deref e.tree t) t) else Ok (lvalue (to.Deref e.tree t) t)

abbrev pub indirection : ℕ → Typed → Answer Typed
indirection place e = pointed_to place e (target e.of)

abbrev pub indexed : Typed → Typed → Bool → TypeTree → Typed
indexed a b pointer_left t = lvalue (to.Index a.tree b.tree pointer_left t) t

abbrev pub element : ℕ → Typed → Typed → Bool → Option TypeTree → Answer Typed
element place a b pointer_left None = breaks_at C5 place
element place a b pointer_left (Some t) = Ok (indexed a b pointer_left t)

-- `a[b]`, where one side is a pointer
abbrev pub subscript : Table → ℕ → Typed → Typed → Answer Typed
subscript table place a b =
    if is_movable table a.of && is_integer b.of then element place a b true (target a.of)
    else if is_integer a.of && is_movable table b.of then element place a b false (target b.of)
    else breaks_at C5 place

abbrev pub address_of : TypedExpr → TypeTree → Typed
address_of tree of = value (to.AddressOf tree (pointer_to of)) (pointer_to of)

-- `&e`, of an lvalue as it stands or of a function
abbrev pub address_by : Category → ℕ → Typed → Answer Typed
address_by Lvalue place e = Ok (address_of e.tree e.of)
address_by Designator place e = Ok (read e)
address_by _ place e = breaks_at C3 place

abbrev pub address : ℕ → Typed → Answer Typed
address place e = address_by e.category place e

-- ---- members (6.5.2.3)

-- which struct a type is, and whether it is constant
abbrev pub struct_id : TypeTree → Option ℕ
struct_id (Of c (ty.Struct id)) = Some id
struct_id _ = None

abbrev pub field_at : Table → ℕ → ℕ → Option Field
field_at table id index = option_and_then (λ body. slice_get body index) (body_of table id)

-- a member of a constant struct is constant (6.5.2.3p3)
abbrev pub member_type : TypeTree → TypeTree → TypeTree
member_type owner of = with_const (is_constant owner) of

abbrev pub member_of_type : Typed → Member → TypeTree → Typed
member_of_type e m of =
    record e { tree = to.Member e.tree m.index m.offset (member_type e.of of); of = member_type e.of of }

abbrev pub member_in : ℕ → Typed → Member → Option Field → Answer Typed
member_in place e m None = breaks_at C12 place
member_in place e m (Some field) = Ok (member_of_type e m field.of)

abbrev pub member_found : Table → ℕ → Typed → ℕ → Option Member → Answer Typed
member_found table place e id None = breaks_at C12 place
member_found table place e id (Some m) = member_in place e m (field_at table id m.index)

abbrev pub member_by : Table → ℕ → Typed → List ℕ → Option ℕ → Answer Typed
member_by table place e name None = breaks_at C12 place
member_by table place e name (Some id) = member_found table place e id (member_of table id name)

-- `e.name`: an lvalue where e is one
abbrev pub member : Table → ℕ → List ℕ → Typed → Answer Typed
member table place name e = member_by table place e name (struct_id e.of)

abbrev pub behind_pointer : Table → ℕ → List ℕ → Typed → Option TypeTree → Answer Typed
behind_pointer table place name e None = breaks_at C12 place
behind_pointer table place name e (Some t) = member table place name (lvalue (to.Deref e.tree t) t)

-- `e->name`
abbrev pub arrow : Table → ℕ → List ℕ → Typed → Answer Typed
arrow table place name e = behind_pointer table place name e (target e.of)

-- ---- assignment (6.5.16)

-- a type or one that lies in it is constant, where this is known of structs
unfoldable mutual
  pub constant_by : (ℕ → Bool) → TypeTree → Bool
  constant_by structs (Of c form) = c || form_constant_by structs form

  pub form_constant_by : (ℕ → Bool) → FormTree → Bool
  form_constant_by structs (ty.Array of count) = constant_by structs of
  form_constant_by structs (ty.Struct id) = structs id
  form_constant_by structs form = false

abbrev pub any_field : (TypeTree → Bool) → Body → Bool
any_field test [] = false
any_field test (field ∷ body) = test field.of || any_field test body

abbrev pub any_in_body : (TypeTree → Bool) → Option Body → Bool
any_in_body test None = false
any_in_body test (Some body) = any_field test body

-- where structs lie in one another that deep at most
unfoldable pub constant_within : ℕ → Table → TypeTree → Bool
constant_within zero table t = constant_by (λ id. false) t
constant_within (suc depth) table t = constant_by (λ id. any_in_body (constant_within depth table) (body_of table id)) t

-- the object, or a part of it, is constant (6.3.2.1p1)
abbrev pub has_constant_part : Table → TypeTree → Bool
has_constant_part table t = constant_within (length table) table t

abbrev pub is_lvalue : Category → Bool
is_lvalue Lvalue = true
is_lvalue _ = false

-- an object that may be written (6.3.2.1p1); an array is none
abbrev pub modifiable : {A : Type 0} → Table → ℕ → Typed → Answer A → Answer A
modifiable table place e go =
    if is_lvalue e.category && not (is_array e.of) then (if has_constant_part table e.of then breaks_at C4 place else go) else breaks_at C3 place

abbrev pub stored_by : Option Schema → Typed → TypedExpr → Bool → Typed
stored_by None e new old = value (to.Store e.tree new old (value_type e.of)) (value_type e.of)
stored_by (Some schema) e new old = value (to.StoreSigned e.tree new old schema (value_type e.of)) (value_type e.of)

-- a store of a value, which gives it, or the old one
abbrev pub stored : Typed → Bool → TypedExpr → Answer Typed
stored e old new = Ok (stored_by (schema_of e.of) e new old)

abbrev pub assigned : Table → ℕ → Typed → Typed → Answer Typed
assigned table place e new = modifiable table place e (then_with (at_place place (given table e.of new)) (stored e false))

-- the place of the store around it
abbrev pub same_place : Typed → Typed
same_place e = lvalue (to.Same e.of) e.of

-- the right operand is an integer, also beside a pointer (6.5.16.2p1, p2)
abbrev pub with_integer : BinaryOperator → Table → ℕ → Typed → Typed → Answer Typed
with_integer op table place a b = if is_integer b.of then binary_value table op place a b else breaks_at C5 place

-- the value of an operator between what stands there and another one is stored (6.5.16.2p3)
abbrev pub updated : Table → ℕ → BinaryOperator → Typed → Bool → Typed → Answer Typed
updated table place op e old other =
    modifiable table place e
    (then_with (with_integer op table place (read (same_place e)) other) (λ new. then_with (at_place place (given table e.of new)) (stored e old)))

-- the operator of a compound assignment
abbrev pub operator_in : BinaryOperator → Option BinaryOperator
operator_in op.MultiplyAssign = Some op.Multiply
operator_in op.DivideAssign = Some op.Divide
operator_in op.RemainderAssign = Some op.Remainder
operator_in op.AddAssign = Some op.Add
operator_in op.SubtractAssign = Some op.Subtract
operator_in op.ShiftLeftAssign = Some op.ShiftLeft
operator_in op.ShiftRightAssign = Some op.ShiftRight
operator_in op.AndAssign = Some op.And
operator_in op.XorAssign = Some op.Xor
operator_in op.OrAssign = Some op.Or
operator_in _ = None

abbrev pub is_assignment : BinaryOperator → Bool
is_assignment op.Assign = true
is_assignment _ = false

abbrev pub binary_by : Option BinaryOperator → Table → BinaryOperator → ℕ → Typed → Typed → Answer Typed
binary_by (Some inner) table op place a b = updated table place inner a false (read b)
binary_by None table op place a b = if is_assignment op then assigned table place a (read b) else binary_value table op place (read a) (read b)

-- every operator between two expressions
abbrev pub binary : Table → BinaryOperator → ℕ → Typed → Typed → Answer Typed
binary table op place a b = binary_by (operator_in op) table op place a b

-- ---- `++` and `--`: as `+= 1` and `-= 1` (6.5.3.1p2), the old value behind (6.5.2.4p2)

abbrev pub step_operator : Step → BinaryOperator
step_operator step.Increment = op.Add
step_operator step.Decrement = op.Subtract

abbrev pub one : Typed
one = value (to.Number 1 int) int

abbrev pub stepped : Table → ℕ → Step → Bool → Typed → Answer Typed
stepped table place s old e = updated table place (step_operator s) e old one

-- ---- `sizeof` (6.5.3.4): of a complete object type

abbrev pub byte_count : ℕ → Typed
byte_count bytes = value (to.Number bytes unsigned_long) unsigned_long

abbrev pub sized : ℕ → Option Layout → Answer Typed
sized place None = breaks_at C11 place
sized place (Some l) = Ok (byte_count l.size)

abbrev pub size_of : Table → ℕ → TypeTree → Answer Typed
size_of table place t = sized place (layout_in table t)
