-- Typed forms whose names and types are numbers, and what is answered of them.
use Rattle.std.specs.Prelude.{◌≡◌, ℕ, List, Option, Result, Ok, Err, IfOk}
use Rattle.pa_num.specs.declared.fault.Fault.{Fault}
use Rattle.pa_num.specs.declared.fault.Fault.TheVariants.{Refused}
use Rattle.pa_num.specs.declared.fault.Fault.TheVariants as fault
use Rattle.pa_ctype.specs.Types.{TypeTree}
use Rattle.pa_ctype.specs.Nodes.{Fits}
use Rattle.pa_ctype.specs.Layouts.{Table, table_of}
use Rattle.pa_ctype.specs.Tables.{TypeTable}
use Rattle.pa_typed.specs.declared.expr.TExpr.{TExpr}
use Rattle.pa_pac.specs.declared.schema.Schema.{Schema}
use Rattle.pa_typed.specs.Typed.{TypedExpr, AddressOf}
use Rattle.pa_typed.specs.Views.{t_expr_tree}
use Rattle.pa_scope.specs.declared.rule.TypeRule.{TypeRule}
use Rattle.pa_scope.specs.Answers.{Answer, breaks_at, at_place}
use Rattle.pa_convert.specs.Conversions.{pointer_to, value_type}
use Rattle.pa_rexpr.specs.Values.{Typed, value, loaded_by}
use Rattle.pa_value.specs.declared.form.TypedForm.{TypedForm}

-- where numbers stand for these names and types
abbrev pub typed_of : (ℕ → List ℕ) → (ℕ → TypeTree) → TypedForm → Typed
typed_of names m t = record { tree = t_expr_tree names m t.tree; of = m t.of; category = t.category; null = t.null }

-- so for any names, and any types that fit the table
abbrev pub ForForms : TypeTable → ((ℕ → List ℕ) → (ℕ → TypeTree) → Type 0) → Type 0
ForForms t P = (names : ℕ → List ℕ) (m : ℕ → TypeTree) → Fits m t.nodes → P names m

-- ---- a tree or a form that is this one, unless memory is wanting

abbrev pub IsTree : {E : Type 0} → TypeTable → Result TExpr E → ((ℕ → List ℕ) → (ℕ → TypeTree) → TypedExpr) → Type 0
IsTree t result tree = IfOk result (λ r. ForForms t (λ names m. t_expr_tree names m r ≡ tree names m))

abbrev pub IsForm : {E : Type 0} → TypeTable → Result TypedForm E → ((ℕ → List ℕ) → (ℕ → TypeTree) → Typed) → Type 0
IsForm t result form = IfOk result (λ r. ForForms t (λ names m. typed_of names m r ≡ form names m))

-- as it is made of one operand, of two, and of three
abbrev pub IsOfOne : {E : Type 0} → TypeTable → Result TypedForm E → TypedForm → ((ℕ → TypeTree) → Typed → Typed) → Type 0
IsOfOne t result a form = IsForm t result (λ names m. form m (typed_of names m a))

abbrev pub IsOfTwo : {E : Type 0} → TypeTable → Result TypedForm E → TypedForm → TypedForm → ((ℕ → TypeTree) → Typed → Typed → Typed) → Type 0
IsOfTwo t result a b form = IsForm t result (λ names m. form m (typed_of names m a) (typed_of names m b))

abbrev pub IsOfThree : {E : Type 0} → TypeTable → Result TypedForm E → TypedForm → TypedForm → TypedForm → ((ℕ → TypeTree) → Typed → Typed → Typed → Typed) → Type 0
IsOfThree t result a b c form = IsForm t result (λ names m. form m (typed_of names m a) (typed_of names m b) (typed_of names m c))

-- ---- what may be answered where the definition has this answer: want of memory says nothing

abbrev pub Meets : {A B : Type 0} → (A → B) → Result A (Fault TypeRule) → Answer B → Type 0
Meets view (Ok x) answer = answer ≡ Ok (view x)
Meets view (Err (Refused rule place)) answer = answer ≡ breaks_at rule place
Meets view (Err fault.Memory) answer = Unit {0}

abbrev pub Gives : TypeTable → Result TypedForm (Fault TypeRule) → ((ℕ → List ℕ) → (ℕ → TypeTree) → Answer Typed) → Type 0
Gives t result answer = ForForms t (λ names m. Meets (typed_of names m) result (answer names m))

-- the tree that is made of one operand, at a place
abbrev pub GivesTree : TypeTable → Result TExpr (Fault TypeRule) → ℕ → TypedForm → (Table → (ℕ → TypeTree) → Typed → Result TypedExpr TypeRule) → Type 0
GivesTree t result place a tree =
    ForForms t (λ names m. Meets (t_expr_tree names m) result (at_place place (tree (table_of names m t.structs) m (typed_of names m a))))

-- of one operand, of two, and of three, with the structs as plain data
abbrev pub GivesOne : TypeTable → Result TypedForm (Fault TypeRule) → TypedForm → (Table → Typed → Answer Typed) → Type 0
GivesOne t result a answer = Gives t result (λ names m. answer (table_of names m t.structs) (typed_of names m a))

abbrev pub GivesTwo : TypeTable → Result TypedForm (Fault TypeRule) → TypedForm → TypedForm → (Table → Typed → Typed → Answer Typed) → Type 0
GivesTwo t result a b answer =
    Gives t result (λ names m. answer (table_of names m t.structs) (typed_of names m a) (typed_of names m b))

abbrev pub GivesThree : TypeTable → Result TypedForm (Fault TypeRule) → TypedForm → TypedForm → TypedForm → (Table → Typed → Typed → Typed → Answer Typed) → Type 0
GivesThree t result a b c answer =
    Gives t result (λ names m. answer (table_of names m t.structs) (typed_of names m a) (typed_of names m b) (typed_of names m c))

-- ---- values at places

abbrev pub scalar_value : Option Schema → TypedExpr → TypeTree → Typed
scalar_value schema tree of = value (loaded_by schema tree (value_type of)) (value_type of)

abbrev pub first_element : TypedExpr → TypeTree → Typed
first_element tree of = value (AddressOf tree (pointer_to of)) (pointer_to of)
