-- What is answered of operators on places, of casts and of members.
use Rattle.std.specs.Prelude.{◌≡◌, ℕ, Bool, ◌&&◌, List, Option, Some, None, option_map, Result, IfOk}
use Rattle.pa_num.specs.declared.fault.Fault.{Fault}
use Rattle.pa_ctype.specs.Types.{TypeTree}
use Rattle.pa_ctype.specs.Layouts.{Table, table_of, IsLaidStruct}
use Rattle.pa_ctype.specs.Tables.{TypeTable, ForTypes, ForStructs}
use Rattle.pa_typed.specs.declared.expr.TExpr.{TExpr}
use Rattle.pa_typed.specs.Typed.{TypedExpr}
use Rattle.pa_typed.specs.Views.{t_expr_tree}
use Rattle.pa_convert.specs.Conversions.{target, is_movable, is_integer}
use Rattle.pa_convert.specs.declared.form.Form.{Form}
use Rattle.pa_convert.specs.declared.form.Form.TheVariants as form
use Rattle.pa_scope.specs.declared.rule.TypeRule.{TypeRule}
use Rattle.pa_scope.specs.Answers.{Answer}
use Rattle.pa_scope.specs.Numbered.{ForNames}
use Rattle.pa_rexpr.specs.Values.{Typed}
use Rattle.pa_rexpr.specs.Places.{indexed, element, field_at}
use Rattle.pa_value.specs.declared.form.TypedForm.{TypedForm}
use Rattle.pa_value.specs.Forms.{typed_of, IsForm, Gives, Meets}

-- the number of this type, unless memory is wanting
abbrev pub IsNumber : {E : Type 0} → TypeTable → Result ℕ E → ((ℕ → TypeTree) → TypeTree) → Type 0
IsNumber t result type = IfOk result (λ n. ForTypes t (λ m. m n ≡ type m))

-- of the type of this number, with the structs as plain data
abbrev pub GivesType : TypeTable → Result TypedForm (Fault TypeRule) → ℕ → (Table → TypeTree → Answer Typed) → Type 0
GivesType t result number answer = Gives t result (λ names m. answer (table_of names m t.structs) (m number))

-- of that type and one operand
abbrev pub GivesTypeOne : TypeTable → Result TypedForm (Fault TypeRule) → ℕ → TypedForm → (Table → TypeTree → Typed → Answer Typed) → Type 0
GivesTypeOne t result number a answer =
    Gives t result (λ names m. answer (table_of names m t.structs) (m number) (typed_of names m a))

-- made of a tree and the type of this number
abbrev pub IsOfTree : {E : Type 0} → TypeTable → Result TypedForm E → TExpr → ℕ → (TypedExpr → TypeTree → Typed) → Type 0
IsOfTree t result tree number form = IsForm t result (λ names m. form (t_expr_tree names m tree) (m number))

-- the element of this type
abbrev pub IsIndexed : {E : Type 0} → TypeTable → Result TypedForm E → TypedForm → TypedForm → Bool → ℕ → Type 0
IsIndexed t result left right pointer_left number =
    IsForm t result (λ names m. indexed (typed_of names m left) (typed_of names m right) pointer_left (m number))

-- an element, where the pointer has the type of this number
abbrev pub GivesElement : TypeTable → Result TypedForm (Fault TypeRule) → ℕ → TypedForm → TypedForm → Bool → ℕ → Type 0
GivesElement t result place left right pointer_left number =
    Gives t result (λ names m. element place (typed_of names m left) (typed_of names m right) pointer_left (target (m number)))

-- ---- subscripts (6.5.2.1p1)

abbrev pub pointer_left : Table → TypeTree → TypeTree → Bool
pointer_left table left right = is_movable table left && is_integer right

abbrev pub pointer_right : Table → TypeTree → TypeTree → Bool
pointer_right table left right = is_integer left && is_movable table right

-- ---- members

-- which struct a form is
abbrev pub struct_in : Form → Option ℕ
struct_in (form.Struct id) = Some id
struct_in other = None

-- the number of the type of the member at a place of a struct
abbrev pub IsFieldType : TypeTable → ℕ → ℕ → Option ℕ → Type 0
IsFieldType t id index found = ForStructs t (λ table m. option_map m found ≡ option_map (λ field. field.of) (field_at table id index))

-- each struct with a body has a layout
abbrev pub AreLaid : TypeTable → Type 0
AreLaid t = ForStructs t (λ table m. (id : ℕ) → IsLaidStruct table id)

-- of one operand and a name, with the structs as plain data
abbrev pub GivesMember : TypeTable → Result TypedForm (Fault TypeRule) → TypedForm → ℕ → (Table → List ℕ → Typed → Answer Typed) → Type 0
GivesMember t result a name answer =
    ForNames t (λ names m. Meets (typed_of names m) result (answer (table_of names m t.structs) (names name) (typed_of names m a)))
