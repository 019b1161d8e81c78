-- The types that stand in typed trees of the code, and what stands beside their numbers.
use Rattle.std.specs.Prelude.{ℕ, ◌<◌, List, [], ◌∷◌, ◌++◌, length, map, All, Option, Some, None}
use Rattle.pa_ctype.specs.Shapes.{IsShape}
use Rattle.pa_ctype.specs.Tables.{TypeTable, ForStructs}
use Rattle.pa_typed.specs.declared.expr.ExprType.{ExprType}
use Rattle.pa_typed.specs.declared.expr.TExpr.{TExpr, fold-TExpr}
use Rattle.pa_typed.specs.declared.expr.TExpr.TheOpen.{TExpr-F}
use Rattle.pa_typed.specs.declared.stmt.Given.{Given}
use Rattle.pa_typed.specs.declared.stmt.Given.TheVariants as vGiven
use Rattle.pa_typed.specs.declared.stmt.Initial.{Initial}
use Rattle.pa_typed.specs.declared.stmt.LocalInit.{LocalInit}
use Rattle.pa_typed.specs.declared.stmt.TForStart.{TForStart}
use Rattle.pa_typed.specs.declared.stmt.TForStart.TheVariants as vTForStart
use Rattle.pa_typed.specs.declared.stmt.TStmt.{TStmt, fold-TStmt}
use Rattle.pa_typed.specs.declared.stmt.TStmt.TheOpen.{TStmt-F}
use Rattle.pa_typed.specs.declared.unit.Cell.{Cell}
use Rattle.pa_typed.specs.declared.unit.CLocal.{CLocal}
use Rattle.pa_typed.specs.declared.unit.CGlobal.{CGlobal}
use Rattle.pa_typed.specs.declared.unit.Declared.{Declared}
use Rattle.pa_typed.specs.declared.unit.Function.{Function}
use Rattle.pa_typed.specs.declared.unit.Unit.{Unit as CUnit}

abbrev pub all_of : {A : Type 0} → List (List A) → List A
all_of [] = []
all_of (xs ∷ rest) = xs ++ all_of rest

-- ---- the types of a tree and of its parts

abbrev pub expr_types_layer : TExpr-F (List ExprType) → List ExprType
expr_types_layer (TExpr-F.LocalPlace local of) = of ∷ []
expr_types_layer (TExpr-F.GlobalPlace name place of) = of ∷ []
expr_types_layer (TExpr-F.StringPlace text of) = of ∷ []
expr_types_layer (TExpr-F.Same of) = of ∷ []
expr_types_layer (TExpr-F.Member owner index offset of) = of ∷ owner
expr_types_layer (TExpr-F.Index left right pointer_left of) = of ∷ (left ++ right)
expr_types_layer (TExpr-F.Deref pointer of) = of ∷ pointer
expr_types_layer (TExpr-F.Number value of) = of ∷ []
expr_types_layer (TExpr-F.Load from of) = of ∷ from
expr_types_layer (TExpr-F.LoadSigned from schema of) = of ∷ from
expr_types_layer (TExpr-F.Store to value old of) = of ∷ (to ++ value)
expr_types_layer (TExpr-F.StoreSigned to value old schema of) = of ∷ (to ++ value)
expr_types_layer (TExpr-F.AddressOf at of) = of ∷ at
expr_types_layer (TExpr-F.FunctionValue name place of) = of ∷ []
expr_types_layer (TExpr-F.Convert value of) = of ∷ value
expr_types_layer (TExpr-F.Unary op value of) = of ∷ value
expr_types_layer (TExpr-F.Binary op left right of) = of ∷ (left ++ right)
expr_types_layer (TExpr-F.PointerAdd left right pointer_left subtracts of) = of ∷ (left ++ right)
expr_types_layer (TExpr-F.PointerSub left right of) = of ∷ (left ++ right)
expr_types_layer (TExpr-F.Compare op left right of) = of ∷ (left ++ right)
expr_types_layer (TExpr-F.And left right of) = of ∷ (left ++ right)
expr_types_layer (TExpr-F.Or left right of) = of ∷ (left ++ right)
expr_types_layer (TExpr-F.Choose test when_true when_false of) = of ∷ (test ++ (when_true ++ when_false))
expr_types_layer (TExpr-F.Comma first second of) = of ∷ (first ++ second)
expr_types_layer (TExpr-F.CallDirect name place arguments of) = of ∷ all_of arguments
expr_types_layer (TExpr-F.CallPointer arguments function of) = of ∷ (all_of arguments ++ function)

unfoldable pub expr_types : TExpr → List ExprType
expr_types = fold-TExpr (List ExprType) expr_types_layer

abbrev pub maybe_types : Option TExpr → List ExprType
maybe_types None = []
maybe_types (Some e) = expr_types e

abbrev pub given_types : Given → List ExprType
given_types (vGiven.Value value) = expr_types value
given_types (vGiven.Text text) = []

abbrev pub initial_types : Initial → List ExprType
initial_types i = i.of ∷ given_types i.given

abbrev pub initials_types : Option (List Initial) → List ExprType
initials_types None = []
initials_types (Some initials) = all_of (map initial_types initials)

abbrev pub local_init_types : LocalInit → List ExprType
local_init_types name = initials_types name.initials

abbrev pub for_start_types : TForStart → List ExprType
for_start_types (vTForStart.Declares names) = all_of (map local_init_types names)
for_start_types (vTForStart.Evaluates value) = maybe_types value

abbrev pub stmt_types_layer : TStmt-F (List ExprType) → List ExprType
stmt_types_layer (TStmt-F.Compound items) = all_of items
stmt_types_layer (TStmt-F.InitLocal name) = local_init_types name
stmt_types_layer (TStmt-F.Expression value) = maybe_types value
stmt_types_layer (TStmt-F.If test body) = expr_types test ++ body
stmt_types_layer (TStmt-F.IfElse test when_true when_false) = expr_types test ++ (when_true ++ when_false)
stmt_types_layer (TStmt-F.While test body) = expr_types test ++ body
stmt_types_layer (TStmt-F.DoWhile body test) = body ++ expr_types test
stmt_types_layer (TStmt-F.For start test step body) = for_start_types start ++ (maybe_types test ++ (maybe_types step ++ body))
stmt_types_layer (TStmt-F.Switch value body) = expr_types value ++ body
stmt_types_layer (TStmt-F.Case value of body) = of ∷ body
stmt_types_layer (TStmt-F.Default body) = body
stmt_types_layer (TStmt-F.Break) = []
stmt_types_layer (TStmt-F.Continue) = []
stmt_types_layer (TStmt-F.Return value) = maybe_types value

unfoldable pub stmt_types : TStmt → List ExprType
stmt_types = fold-TStmt (List ExprType) stmt_types_layer

-- ---- what stands in a tree is what the table says

-- the number is one of the table, and the shape is that of its type, or was while what a pointer points to was incomplete
pub record IsTypeOf (t : TypeTable) (of : ExprType) : Type 0 where
  pub known : of.number < length t.nodes
  pub shape : ForStructs t (λ table m. IsShape table (m of.number) of.shape)

abbrev pub IsTypedExpr : TypeTable → TExpr → Type 0
IsTypedExpr t e = All (IsTypeOf t) (expr_types e)

abbrev pub IsTypedStmt : TypeTable → TStmt → Type 0
IsTypedStmt t s = All (IsTypeOf t) (stmt_types s)

abbrev pub IsTypedCell : TypeTable → Cell → Type 0
IsTypedCell t c = IsTypeOf t c.of × IsTypedExpr t c.value

pub record IsTypedFunction (t : TypeTable) (f : Function) : Type 0 where
  pub known : f.of < length t.nodes
  pub locals : All (λ (l : CLocal). l.of < length t.nodes) f.locals
  pub body : IsTypedStmt t f.body

pub record IsTypedGlobal (t : TypeTable) (g : CGlobal) : Type 0 where
  pub known : g.of < length t.nodes
  pub cells : All (IsTypedCell t) g.cells

-- so of the whole unit
pub record IsTypedUnit (u : CUnit) : Type 0 where
  pub functions : All (IsTypedFunction u.types) u.functions
  pub globals : All (IsTypedGlobal u.types) u.globals
  pub declared : All (λ (d : Declared). d.of < length u.types.nodes) u.declared
