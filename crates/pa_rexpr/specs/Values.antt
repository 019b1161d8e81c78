-- What an expression is (C11 6.3.2), its value, and values that are given to a place (6.5.16.1).
use Rattle.std.specs.Prelude.{Bool, false, ◌&&◌, ◌||◌, if◌then◌else◌, Option, Some, None, Result, Ok, Err}
use Rattle.pa_pac.specs.declared.schema.Schema.{Schema}
use Rattle.pa_ctype.specs.Types.{TypeTree, Of, Array}
use Rattle.pa_ctype.specs.Types as ty
use Rattle.pa_ctype.specs.Equality.{same_but_const}
use Rattle.pa_ctype.specs.Layouts.{Table}
use Rattle.pa_typed.specs.Typed.{TypedExpr}
use Rattle.pa_typed.specs.Typed as to
use Rattle.pa_rexpr.specs.declared.category.Category.{Category}
use Rattle.pa_rexpr.specs.declared.category.Category.TheVariants.{Lvalue, Temporary, Value, Designator}
use Rattle.pa_scope.specs.declared.rule.TypeRule.{TypeRule}
use Rattle.pa_scope.specs.declared.rule.TypeRule.TheVariants.{C7, C10, C11, C23}
use Rattle.pa_convert.specs.Conversions.{pointer_to, value_type, schema_of, is_integer, is_boolean, is_pointer, is_void, is_struct, is_complete, takes}
use Rattle.pa_ctype.specs.Qualifiers.{same_bare}

-- An expression with its type. Of an lvalue or a temporary the tree is its place, of a function its pointer. `null`: it is the
-- literal 0, or `NULL`, and converts to every pointer (6.3.2.3p3).
pub record Typed : Type 0 where
  pub tree : TypedExpr
  pub of : TypeTree
  pub category : Category
  pub null : Bool

abbrev pub lvalue : TypedExpr → TypeTree → Typed
lvalue tree of = record { tree = tree; of = of; category = Lvalue; null = false }

abbrev pub temporary : TypedExpr → TypeTree → Typed
temporary tree of = record { tree = tree; of = of; category = Temporary; null = false }

abbrev pub value : TypedExpr → TypeTree → Typed
value tree of = record { tree = tree; of = of; category = Value; null = false }

abbrev pub designator : TypedExpr → TypeTree → Typed
designator tree of = record { tree = tree; of = of; category = Designator; null = false }

-- ---- the value of an expression (6.3.2.1p2 to p4)

abbrev pub loaded_by : Option Schema → TypedExpr → TypeTree → TypedExpr
loaded_by None tree of = to.Load tree of
loaded_by (Some schema) tree of = to.LoadSigned tree schema of

-- what stands at a place: an array is a pointer to its first element, a struct stays a place
abbrev pub placed_value : TypedExpr → TypeTree → Typed
placed_value tree (Of c (Array of count)) = value (to.AddressOf tree (pointer_to of)) (pointer_to of)
placed_value tree (Of c (ty.Struct id)) = temporary tree (Of false (ty.Struct id))
placed_value tree of = value (loaded_by (schema_of of) tree (value_type of)) (value_type of)

abbrev pub read_by : Category → Typed → Typed
read_by Lvalue e = placed_value e.tree e.of
read_by Temporary e = placed_value e.tree e.of
read_by Value e = e
read_by Designator e = value e.tree (pointer_to e.of)

abbrev pub read : Typed → Typed
read e = read_by e.category e

-- ---- conversions

-- a value in another type: a conversion where the types differ in more than qualifiers
abbrev pub converted : TypeTree → Typed → TypedExpr
converted wanted e = if same_bare wanted e.of then e.tree else to.Convert e.tree (value_type wanted)

-- one struct type
abbrev pub same_struct : TypeTree → TypeTree → Bool
same_struct a b = is_struct a && (is_struct b && same_but_const a b)

-- null for a pointer, or a pointer for `_Bool`
abbrev pub is_pointer_conversion : TypeTree → TypeTree → Bool → Bool
is_pointer_conversion wanted of null = (is_pointer wanted && null) || (is_boolean wanted && is_pointer of)

abbrev pub pointer_rule : TypeTree → TypeTree → Option TypeRule
pointer_rule wanted of = if takes wanted of then None else Some C7

abbrev pub struct_rule : Table → TypeTree → TypeRule
struct_rule table wanted = if is_complete table wanted then C23 else C11

-- The rule that a value of a type breaks where it is given to a place of a type: in an assignment, an initializer, as an argument
-- or a result. `null`: it is null.
abbrev pub given_rule : Table → TypeTree → TypeTree → Bool → Option TypeRule
given_rule table wanted of null =
    if is_void of then Some C11
    else if is_integer wanted && is_integer of then None
    else if is_pointer wanted && is_pointer of then pointer_rule wanted of
    else if is_pointer_conversion wanted of null then None
    else if same_struct wanted of then Some (struct_rule table wanted)
    else Some C10

abbrev pub unless_broken : {A : Type 0} → Option TypeRule → A → Result A TypeRule
unless_broken None x = Ok x
unless_broken (Some rule) x = Err rule

-- the value in the type of the place
abbrev pub given : Table → TypeTree → Typed → Result TypedExpr TypeRule
given table wanted e = unless_broken (given_rule table wanted e.of e.null) (converted wanted e)
