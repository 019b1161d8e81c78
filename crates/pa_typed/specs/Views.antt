-- The typed trees of the program as plain data, where numbers stand for these names and types.
use Rattle.std.specs.Prelude.{ℕ, false, List, [], ◌∷◌, map}
use Rattle.std.specs.Option.{option_map}
use Rattle.pa_ctype.specs.Types.{TypeTree, Of, Void}
use Rattle.pa_typed.specs.declared.expr.ExprType.{ExprType}
use Rattle.pa_typed.specs.declared.stmt.Given.{Given}
use Rattle.pa_typed.specs.declared.stmt.Given.TheVariants as vGiven
use Rattle.pa_typed.specs.declared.stmt.Initial.{Initial}
use Rattle.pa_typed.specs.declared.stmt.LocalInit.{LocalInit}
use Rattle.pa_typed.specs.declared.expr.TExpr.{TExpr, fold-TExpr}
use Rattle.pa_typed.specs.declared.expr.TExpr.TheOpen.{TExpr-F}
use Rattle.pa_typed.specs.declared.stmt.TForStart.{TForStart}
use Rattle.pa_typed.specs.declared.stmt.TForStart.TheVariants as vTForStart
use Rattle.pa_typed.specs.declared.stmt.TStmt.{TStmt, fold-TStmt}
use Rattle.pa_typed.specs.declared.stmt.TStmt.TheOpen.{TStmt-F}
use Rattle.pa_typed.specs.Typed.{TypedExpr, TypedExprs, LocalPlace, GlobalPlace, StringPlace, Same, Member, Index, Deref, Number, Load, LoadSigned, Store, StoreSigned, AddressOf, FunctionValue, Convert, Unary, Binary, PointerAdd, PointerSub, Compare, And, Or, Choose, Comma, CallDirect, CallPointer, NoTExprs, ConsTExpr, TypedGiven, GivenValue, GivenText, TypedInitial, TypedLocalInit, TypedForStart, TypedStmt, TypedStmts, Declares, Evaluates, Compound, InitLocal, Expression, If, IfElse, While, DoWhile, For, Switch, Case, Default, Break, Continue, Return, NoTStmts, ConsTStmt}

abbrev pub t_exprs_of : List TypedExpr → TypedExprs
t_exprs_of [] = NoTExprs
t_exprs_of (t ∷ ts) = ConsTExpr t (t_exprs_of ts)

abbrev pub t_stmts_of : List TypedStmt → TypedStmts
t_stmts_of [] = NoTStmts
t_stmts_of (t ∷ ts) = ConsTStmt t (t_stmts_of ts)

module _ (names : ℕ → List ℕ) (m : ℕ → TypeTree) where
  abbrev pub t_expr_layer : TExpr-F TypedExpr → TypedExpr
  t_expr_layer (TExpr-F.LocalPlace local of) = LocalPlace local (m of.number)
  t_expr_layer (TExpr-F.GlobalPlace name place of) = GlobalPlace (names name) place (m of.number)
  t_expr_layer (TExpr-F.StringPlace text of) = StringPlace text (m of.number)
  t_expr_layer (TExpr-F.Same of) = Same (m of.number)
  t_expr_layer (TExpr-F.Member owner index offset of) = Member owner index offset (m of.number)
  t_expr_layer (TExpr-F.Index left right pointer_left of) = Index left right pointer_left (m of.number)
  t_expr_layer (TExpr-F.Deref pointer of) = Deref pointer (m of.number)
  t_expr_layer (TExpr-F.Number value of) = Number value (m of.number)
  t_expr_layer (TExpr-F.Load from of) = Load from (m of.number)
  t_expr_layer (TExpr-F.LoadSigned from schema of) = LoadSigned from schema (m of.number)
  t_expr_layer (TExpr-F.Store to value old of) = Store to value old (m of.number)
  t_expr_layer (TExpr-F.StoreSigned to value old schema of) = StoreSigned to value old schema (m of.number)
  t_expr_layer (TExpr-F.AddressOf at of) = AddressOf at (m of.number)
  t_expr_layer (TExpr-F.FunctionValue name place of) = FunctionValue (names name) place (m of.number)
  t_expr_layer (TExpr-F.Convert value of) = Convert value (m of.number)
  t_expr_layer (TExpr-F.Unary op value of) = Unary op value (m of.number)
  t_expr_layer (TExpr-F.Binary op left right of) = Binary op left right (m of.number)
  t_expr_layer (TExpr-F.PointerAdd left right pointer_left subtracts of) = PointerAdd left right pointer_left subtracts (m of.number)
  t_expr_layer (TExpr-F.PointerSub left right of) = PointerSub left right (m of.number)
  t_expr_layer (TExpr-F.Compare op left right of) = Compare op left right (m of.number)
  t_expr_layer (TExpr-F.And left right of) = And left right (m of.number)
  t_expr_layer (TExpr-F.Or left right of) = Or left right (m of.number)
  t_expr_layer (TExpr-F.Choose test when_true when_false of) = Choose test when_true when_false (m of.number)
  t_expr_layer (TExpr-F.Comma first second of) = Comma first second (m of.number)
  t_expr_layer (TExpr-F.CallDirect name place arguments of) = CallDirect (names name) place (t_exprs_of arguments) (m of.number)
  t_expr_layer (TExpr-F.CallPointer arguments function of) = CallPointer (t_exprs_of arguments) function (m of.number)

  unfoldable pub t_expr_tree : TExpr → TypedExpr
  t_expr_tree = fold-TExpr TypedExpr t_expr_layer

  abbrev pub given_tree : Given → TypedGiven
  given_tree (vGiven.Value value) = GivenValue (t_expr_tree value)
  given_tree (vGiven.Text text) = GivenText text

  abbrev pub initial_tree : Initial → TypedInitial
  initial_tree i = record { at = i.at; of = m i.of.number; given = given_tree i.given }

  abbrev pub local_init_tree : LocalInit → TypedLocalInit
  local_init_tree name = record { local = name.local; initials = option_map (map initial_tree) name.initials }

  abbrev pub t_for_start_tree : TForStart → TypedForStart
  t_for_start_tree (vTForStart.Declares names) = Declares (map local_init_tree names)
  t_for_start_tree (vTForStart.Evaluates value) = Evaluates (option_map t_expr_tree value)

  abbrev pub t_stmt_layer : TStmt-F TypedStmt → TypedStmt
  t_stmt_layer (TStmt-F.Compound items) = Compound (t_stmts_of items)
  t_stmt_layer (TStmt-F.InitLocal name) = InitLocal (local_init_tree name)
  t_stmt_layer (TStmt-F.Expression value) = Expression (option_map t_expr_tree value)
  t_stmt_layer (TStmt-F.If test body) = If (t_expr_tree test) body
  t_stmt_layer (TStmt-F.IfElse test when_true when_false) = IfElse (t_expr_tree test) when_true when_false
  t_stmt_layer (TStmt-F.While test body) = While (t_expr_tree test) body
  t_stmt_layer (TStmt-F.DoWhile body test) = DoWhile body (t_expr_tree test)
  t_stmt_layer (TStmt-F.For start test step body) = For (t_for_start_tree start) (option_map t_expr_tree test) (option_map t_expr_tree step) body
  t_stmt_layer (TStmt-F.Switch value body) = Switch (t_expr_tree value) body
  t_stmt_layer (TStmt-F.Case value of body) = Case value (m of.number) body
  t_stmt_layer (TStmt-F.Default body) = Default body
  t_stmt_layer (TStmt-F.Break) = Break
  t_stmt_layer (TStmt-F.Continue) = Continue
  t_stmt_layer (TStmt-F.Return value) = Return (option_map t_expr_tree value)

  unfoldable pub t_stmt_tree : TStmt → TypedStmt
  t_stmt_tree = fold-TStmt TypedStmt t_stmt_layer

-- without names and types, which no count looks at
abbrev pub no_name : ℕ → List ℕ
no_name i = []

abbrev pub no_type : ℕ → TypeTree
no_type i = Of false Void

abbrev pub bare_expr : TExpr → TypedExpr
bare_expr = t_expr_tree no_name no_type

abbrev pub bare_given : Given → TypedGiven
bare_given = given_tree no_name no_type

abbrev pub bare_initial : Initial → TypedInitial
bare_initial = initial_tree no_name no_type

abbrev pub bare_local_init : LocalInit → TypedLocalInit
bare_local_init = local_init_tree no_name no_type

abbrev pub bare_for_start : TForStart → TypedForStart
bare_for_start = t_for_start_tree no_name no_type

abbrev pub bare_stmt : TStmt → TypedStmt
bare_stmt = t_stmt_tree no_name no_type
