-- The typed trees of the program as plain data, a variant at a time.
use Rattle.std.proofs.Common.{◌≡◌, ℕ, Bool, List, map, Option, ap, sym, ◌∙◌}
use Rattle.std.specs.Option.{option_map}
use Rattle.pa_pac.specs.declared.schema.Schema.{Schema}
use Rattle.pa_ctype.specs.Types.{TypeTree}
use Rattle.pa_typed.specs.declared.expr.ExprType.{ExprType}
use Rattle.pa_typed.specs.declared.expr.UnaryOperation.{UnaryOperation}
use Rattle.pa_typed.specs.declared.expr.BinaryOperation.{BinaryOperation}
use Rattle.pa_typed.specs.declared.expr.Comparison.{Comparison}
use Rattle.pa_typed.specs.declared.stmt.LocalInit.{LocalInit}
use Rattle.pa_typed.specs.declared.expr.TExpr.{TExpr, fold-TExpr, fold-roll-TExpr}
use Rattle.pa_typed.specs.declared.expr.TExpr.TheVariants as vTExpr
use Rattle.pa_typed.specs.declared.expr.TExpr.TheOpen.{TExpr-F}
use Rattle.pa_typed.specs.declared.stmt.TForStart.{TForStart}
use Rattle.pa_typed.specs.declared.stmt.TStmt.{TStmt, fold-TStmt, fold-roll-TStmt}
use Rattle.pa_typed.specs.declared.stmt.TStmt.TheVariants as vTStmt
use Rattle.pa_typed.specs.declared.stmt.TStmt.TheOpen.{TStmt-F}
use Rattle.pa_typed.specs.Typed.{TypedExpr, LocalPlace, GlobalPlace, StringPlace, Same, Member, Index, Deref, Number, Load, LoadSigned, Store, StoreSigned, AddressOf, FunctionValue, Convert, Unary, Binary, PointerAdd, PointerSub, Compare, And, Or, Choose, Comma, CallDirect, CallPointer, TypedStmt, Compound, InitLocal, Expression, If, IfElse, While, DoWhile, For, Switch, Case, Default, Break, Continue, Return}
use Rattle.pa_typed.specs.Views.{t_expr_tree, t_expr_layer, t_exprs_of, t_for_start_tree, t_stmt_tree, t_stmt_layer, t_stmts_of, local_init_tree}

module _ (names : ℕ → List ℕ) (m : ℕ → TypeTree) where
  pub tree-LocalPlace : (local : ℕ) (of : ExprType) → t_expr_tree names m (vTExpr.LocalPlace local of) ≡ LocalPlace local (m of.number)
  unfolding t_expr_tree
  tree-LocalPlace local of = ap (fold-TExpr TypedExpr (t_expr_layer names m)) (sym (vTExpr.rolls-LocalPlace local of)) ∙ fold-roll-TExpr TypedExpr (t_expr_layer names m) (TExpr-F.LocalPlace local of)

  pub tree-GlobalPlace : (name : ℕ) (place : ℕ) (of : ExprType) → t_expr_tree names m (vTExpr.GlobalPlace name place of) ≡ GlobalPlace (names name) place (m of.number)
  unfolding t_expr_tree
  tree-GlobalPlace name place of = ap (fold-TExpr TypedExpr (t_expr_layer names m)) (sym (vTExpr.rolls-GlobalPlace name place of)) ∙ fold-roll-TExpr TypedExpr (t_expr_layer names m) (TExpr-F.GlobalPlace name place of)

  pub tree-StringPlace : (text : ℕ) (of : ExprType) → t_expr_tree names m (vTExpr.StringPlace text of) ≡ StringPlace text (m of.number)
  unfolding t_expr_tree
  tree-StringPlace text of = ap (fold-TExpr TypedExpr (t_expr_layer names m)) (sym (vTExpr.rolls-StringPlace text of)) ∙ fold-roll-TExpr TypedExpr (t_expr_layer names m) (TExpr-F.StringPlace text of)

  pub tree-Same : (of : ExprType) → t_expr_tree names m (vTExpr.Same of) ≡ Same (m of.number)
  unfolding t_expr_tree
  tree-Same of = ap (fold-TExpr TypedExpr (t_expr_layer names m)) (sym (vTExpr.rolls-Same of)) ∙ fold-roll-TExpr TypedExpr (t_expr_layer names m) (TExpr-F.Same of)

  pub tree-Member : (owner : TExpr) (index : ℕ) (offset : ℕ) (of : ExprType) → t_expr_tree names m (vTExpr.Member owner index offset of) ≡ Member (t_expr_tree names m owner) index offset (m of.number)
  unfolding t_expr_tree
  tree-Member owner index offset of = ap (fold-TExpr TypedExpr (t_expr_layer names m)) (sym (vTExpr.rolls-Member owner index offset of)) ∙ fold-roll-TExpr TypedExpr (t_expr_layer names m) (TExpr-F.Member owner index offset of)

  pub tree-Index : (left : TExpr) (right : TExpr) (pointer_left : Bool) (of : ExprType) → t_expr_tree names m (vTExpr.Index left right pointer_left of) ≡ Index (t_expr_tree names m left) (t_expr_tree names m right) pointer_left (m of.number)
  unfolding t_expr_tree
  tree-Index left right pointer_left of = ap (fold-TExpr TypedExpr (t_expr_layer names m)) (sym (vTExpr.rolls-Index left right pointer_left of)) ∙ fold-roll-TExpr TypedExpr (t_expr_layer names m) (TExpr-F.Index left right pointer_left of)

  pub tree-Deref : (pointer : TExpr) (of : ExprType) → t_expr_tree names m (vTExpr.Deref pointer of) ≡ Deref (t_expr_tree names m pointer) (m of.number)
  unfolding t_expr_tree
  tree-Deref pointer of = ap (fold-TExpr TypedExpr (t_expr_layer names m)) (sym (vTExpr.rolls-Deref pointer of)) ∙ fold-roll-TExpr TypedExpr (t_expr_layer names m) (TExpr-F.Deref pointer of)

  pub tree-Number : (value : ℕ) (of : ExprType) → t_expr_tree names m (vTExpr.Number value of) ≡ Number value (m of.number)
  unfolding t_expr_tree
  tree-Number value of = ap (fold-TExpr TypedExpr (t_expr_layer names m)) (sym (vTExpr.rolls-Number value of)) ∙ fold-roll-TExpr TypedExpr (t_expr_layer names m) (TExpr-F.Number value of)

  pub tree-Load : (from : TExpr) (of : ExprType) → t_expr_tree names m (vTExpr.Load from of) ≡ Load (t_expr_tree names m from) (m of.number)
  unfolding t_expr_tree
  tree-Load from of = ap (fold-TExpr TypedExpr (t_expr_layer names m)) (sym (vTExpr.rolls-Load from of)) ∙ fold-roll-TExpr TypedExpr (t_expr_layer names m) (TExpr-F.Load from of)

  pub tree-LoadSigned : (from : TExpr) (schema : Schema) (of : ExprType) → t_expr_tree names m (vTExpr.LoadSigned from schema of) ≡ LoadSigned (t_expr_tree names m from) schema (m of.number)
  unfolding t_expr_tree
  tree-LoadSigned from schema of = ap (fold-TExpr TypedExpr (t_expr_layer names m)) (sym (vTExpr.rolls-LoadSigned from schema of)) ∙ fold-roll-TExpr TypedExpr (t_expr_layer names m) (TExpr-F.LoadSigned from schema of)

  pub tree-Store : (to : TExpr) (value : TExpr) (old : Bool) (of : ExprType) → t_expr_tree names m (vTExpr.Store to value old of) ≡ Store (t_expr_tree names m to) (t_expr_tree names m value) old (m of.number)
  unfolding t_expr_tree
  tree-Store to value old of = ap (fold-TExpr TypedExpr (t_expr_layer names m)) (sym (vTExpr.rolls-Store to value old of)) ∙ fold-roll-TExpr TypedExpr (t_expr_layer names m) (TExpr-F.Store to value old of)

  pub tree-StoreSigned : (to : TExpr) (value : TExpr) (old : Bool) (schema : Schema) (of : ExprType) → t_expr_tree names m (vTExpr.StoreSigned to value old schema of) ≡ StoreSigned (t_expr_tree names m to) (t_expr_tree names m value) old schema (m of.number)
  unfolding t_expr_tree
  tree-StoreSigned to value old schema of = ap (fold-TExpr TypedExpr (t_expr_layer names m)) (sym (vTExpr.rolls-StoreSigned to value old schema of)) ∙ fold-roll-TExpr TypedExpr (t_expr_layer names m) (TExpr-F.StoreSigned to value old schema of)

  pub tree-AddressOf : (at : TExpr) (of : ExprType) → t_expr_tree names m (vTExpr.AddressOf at of) ≡ AddressOf (t_expr_tree names m at) (m of.number)
  unfolding t_expr_tree
  tree-AddressOf at of = ap (fold-TExpr TypedExpr (t_expr_layer names m)) (sym (vTExpr.rolls-AddressOf at of)) ∙ fold-roll-TExpr TypedExpr (t_expr_layer names m) (TExpr-F.AddressOf at of)

  pub tree-FunctionValue : (name : ℕ) (place : ℕ) (of : ExprType) → t_expr_tree names m (vTExpr.FunctionValue name place of) ≡ FunctionValue (names name) place (m of.number)
  unfolding t_expr_tree
  tree-FunctionValue name place of = ap (fold-TExpr TypedExpr (t_expr_layer names m)) (sym (vTExpr.rolls-FunctionValue name place of)) ∙ fold-roll-TExpr TypedExpr (t_expr_layer names m) (TExpr-F.FunctionValue name place of)

  pub tree-Convert : (value : TExpr) (of : ExprType) → t_expr_tree names m (vTExpr.Convert value of) ≡ Convert (t_expr_tree names m value) (m of.number)
  unfolding t_expr_tree
  tree-Convert value of = ap (fold-TExpr TypedExpr (t_expr_layer names m)) (sym (vTExpr.rolls-Convert value of)) ∙ fold-roll-TExpr TypedExpr (t_expr_layer names m) (TExpr-F.Convert value of)

  pub tree-Unary : (op : UnaryOperation) (value : TExpr) (of : ExprType) → t_expr_tree names m (vTExpr.Unary op value of) ≡ Unary op (t_expr_tree names m value) (m of.number)
  unfolding t_expr_tree
  tree-Unary op value of = ap (fold-TExpr TypedExpr (t_expr_layer names m)) (sym (vTExpr.rolls-Unary op value of)) ∙ fold-roll-TExpr TypedExpr (t_expr_layer names m) (TExpr-F.Unary op value of)

  pub tree-Binary : (op : BinaryOperation) (left : TExpr) (right : TExpr) (of : ExprType) → t_expr_tree names m (vTExpr.Binary op left right of) ≡ Binary op (t_expr_tree names m left) (t_expr_tree names m right) (m of.number)
  unfolding t_expr_tree
  tree-Binary op left right of = ap (fold-TExpr TypedExpr (t_expr_layer names m)) (sym (vTExpr.rolls-Binary op left right of)) ∙ fold-roll-TExpr TypedExpr (t_expr_layer names m) (TExpr-F.Binary op left right of)

  pub tree-PointerAdd : (left : TExpr) (right : TExpr) (pointer_left : Bool) (subtracts : Bool) (of : ExprType) → t_expr_tree names m (vTExpr.PointerAdd left right pointer_left subtracts of) ≡ PointerAdd (t_expr_tree names m left) (t_expr_tree names m right) pointer_left subtracts (m of.number)
  unfolding t_expr_tree
  tree-PointerAdd left right pointer_left subtracts of = ap (fold-TExpr TypedExpr (t_expr_layer names m)) (sym (vTExpr.rolls-PointerAdd left right pointer_left subtracts of)) ∙ fold-roll-TExpr TypedExpr (t_expr_layer names m) (TExpr-F.PointerAdd left right pointer_left subtracts of)

  pub tree-PointerSub : (left : TExpr) (right : TExpr) (of : ExprType) → t_expr_tree names m (vTExpr.PointerSub left right of) ≡ PointerSub (t_expr_tree names m left) (t_expr_tree names m right) (m of.number)
  unfolding t_expr_tree
  tree-PointerSub left right of = ap (fold-TExpr TypedExpr (t_expr_layer names m)) (sym (vTExpr.rolls-PointerSub left right of)) ∙ fold-roll-TExpr TypedExpr (t_expr_layer names m) (TExpr-F.PointerSub left right of)

  pub tree-Compare : (op : Comparison) (left : TExpr) (right : TExpr) (of : ExprType) → t_expr_tree names m (vTExpr.Compare op left right of) ≡ Compare op (t_expr_tree names m left) (t_expr_tree names m right) (m of.number)
  unfolding t_expr_tree
  tree-Compare op left right of = ap (fold-TExpr TypedExpr (t_expr_layer names m)) (sym (vTExpr.rolls-Compare op left right of)) ∙ fold-roll-TExpr TypedExpr (t_expr_layer names m) (TExpr-F.Compare op left right of)

  pub tree-And : (left : TExpr) (right : TExpr) (of : ExprType) → t_expr_tree names m (vTExpr.And left right of) ≡ And (t_expr_tree names m left) (t_expr_tree names m right) (m of.number)
  unfolding t_expr_tree
  tree-And left right of = ap (fold-TExpr TypedExpr (t_expr_layer names m)) (sym (vTExpr.rolls-And left right of)) ∙ fold-roll-TExpr TypedExpr (t_expr_layer names m) (TExpr-F.And left right of)

  pub tree-Or : (left : TExpr) (right : TExpr) (of : ExprType) → t_expr_tree names m (vTExpr.Or left right of) ≡ Or (t_expr_tree names m left) (t_expr_tree names m right) (m of.number)
  unfolding t_expr_tree
  tree-Or left right of = ap (fold-TExpr TypedExpr (t_expr_layer names m)) (sym (vTExpr.rolls-Or left right of)) ∙ fold-roll-TExpr TypedExpr (t_expr_layer names m) (TExpr-F.Or left right of)

  pub tree-Choose : (test : TExpr) (when_true : TExpr) (when_false : TExpr) (of : ExprType) → t_expr_tree names m (vTExpr.Choose test when_true when_false of) ≡ Choose (t_expr_tree names m test) (t_expr_tree names m when_true) (t_expr_tree names m when_false) (m of.number)
  unfolding t_expr_tree
  tree-Choose test when_true when_false of = ap (fold-TExpr TypedExpr (t_expr_layer names m)) (sym (vTExpr.rolls-Choose test when_true when_false of)) ∙ fold-roll-TExpr TypedExpr (t_expr_layer names m) (TExpr-F.Choose test when_true when_false of)

  pub tree-Comma : (first : TExpr) (second : TExpr) (of : ExprType) → t_expr_tree names m (vTExpr.Comma first second of) ≡ Comma (t_expr_tree names m first) (t_expr_tree names m second) (m of.number)
  unfolding t_expr_tree
  tree-Comma first second of = ap (fold-TExpr TypedExpr (t_expr_layer names m)) (sym (vTExpr.rolls-Comma first second of)) ∙ fold-roll-TExpr TypedExpr (t_expr_layer names m) (TExpr-F.Comma first second of)

  pub tree-CallDirect : (name : ℕ) (place : ℕ) (arguments : List TExpr) (of : ExprType) → t_expr_tree names m (vTExpr.CallDirect name place arguments of) ≡ CallDirect (names name) place (t_exprs_of (map (t_expr_tree names m) arguments)) (m of.number)
  unfolding t_expr_tree
  tree-CallDirect name place arguments of = ap (fold-TExpr TypedExpr (t_expr_layer names m)) (sym (vTExpr.rolls-CallDirect name place arguments of)) ∙ fold-roll-TExpr TypedExpr (t_expr_layer names m) (TExpr-F.CallDirect name place arguments of)

  pub tree-CallPointer : (arguments : List TExpr) (function : TExpr) (of : ExprType) → t_expr_tree names m (vTExpr.CallPointer arguments function of) ≡ CallPointer (t_exprs_of (map (t_expr_tree names m) arguments)) (t_expr_tree names m function) (m of.number)
  unfolding t_expr_tree
  tree-CallPointer arguments function of = ap (fold-TExpr TypedExpr (t_expr_layer names m)) (sym (vTExpr.rolls-CallPointer arguments function of)) ∙ fold-roll-TExpr TypedExpr (t_expr_layer names m) (TExpr-F.CallPointer arguments function of)

  pub tree-Compound : (items : List TStmt) → t_stmt_tree names m (vTStmt.Compound items) ≡ Compound (t_stmts_of (map (t_stmt_tree names m) items))
  unfolding t_stmt_tree
  tree-Compound items = ap (fold-TStmt TypedStmt (t_stmt_layer names m)) (sym (vTStmt.rolls-Compound items)) ∙ fold-roll-TStmt TypedStmt (t_stmt_layer names m) (TStmt-F.Compound items)

  pub tree-InitLocal : (name : LocalInit) → t_stmt_tree names m (vTStmt.InitLocal name) ≡ InitLocal (local_init_tree names m name)
  unfolding t_stmt_tree
  tree-InitLocal name = ap (fold-TStmt TypedStmt (t_stmt_layer names m)) (sym (vTStmt.rolls-InitLocal name)) ∙ fold-roll-TStmt TypedStmt (t_stmt_layer names m) (TStmt-F.InitLocal name)

  pub tree-Expression : (value : Option TExpr) → t_stmt_tree names m (vTStmt.Expression value) ≡ Expression (option_map (t_expr_tree names m) value)
  unfolding t_stmt_tree
  tree-Expression value = ap (fold-TStmt TypedStmt (t_stmt_layer names m)) (sym (vTStmt.rolls-Expression value)) ∙ fold-roll-TStmt TypedStmt (t_stmt_layer names m) (TStmt-F.Expression value)

  pub tree-If : (test : TExpr) (body : TStmt) → t_stmt_tree names m (vTStmt.If test body) ≡ If (t_expr_tree names m test) (t_stmt_tree names m body)
  unfolding t_stmt_tree
  tree-If test body = ap (fold-TStmt TypedStmt (t_stmt_layer names m)) (sym (vTStmt.rolls-If test body)) ∙ fold-roll-TStmt TypedStmt (t_stmt_layer names m) (TStmt-F.If test body)

  pub tree-IfElse : (test : TExpr) (when_true : TStmt) (when_false : TStmt) → t_stmt_tree names m (vTStmt.IfElse test when_true when_false) ≡ IfElse (t_expr_tree names m test) (t_stmt_tree names m when_true) (t_stmt_tree names m when_false)
  unfolding t_stmt_tree
  tree-IfElse test when_true when_false = ap (fold-TStmt TypedStmt (t_stmt_layer names m)) (sym (vTStmt.rolls-IfElse test when_true when_false)) ∙ fold-roll-TStmt TypedStmt (t_stmt_layer names m) (TStmt-F.IfElse test when_true when_false)

  pub tree-While : (test : TExpr) (body : TStmt) → t_stmt_tree names m (vTStmt.While test body) ≡ While (t_expr_tree names m test) (t_stmt_tree names m body)
  unfolding t_stmt_tree
  tree-While test body = ap (fold-TStmt TypedStmt (t_stmt_layer names m)) (sym (vTStmt.rolls-While test body)) ∙ fold-roll-TStmt TypedStmt (t_stmt_layer names m) (TStmt-F.While test body)

  pub tree-DoWhile : (body : TStmt) (test : TExpr) → t_stmt_tree names m (vTStmt.DoWhile body test) ≡ DoWhile (t_stmt_tree names m body) (t_expr_tree names m test)
  unfolding t_stmt_tree
  tree-DoWhile body test = ap (fold-TStmt TypedStmt (t_stmt_layer names m)) (sym (vTStmt.rolls-DoWhile body test)) ∙ fold-roll-TStmt TypedStmt (t_stmt_layer names m) (TStmt-F.DoWhile body test)

  pub tree-For : (start : TForStart) (test : Option TExpr) (step : Option TExpr) (body : TStmt) → t_stmt_tree names m (vTStmt.For start test step body) ≡ For (t_for_start_tree names m start) (option_map (t_expr_tree names m) test) (option_map (t_expr_tree names m) step) (t_stmt_tree names m body)
  unfolding t_stmt_tree
  tree-For start test step body = ap (fold-TStmt TypedStmt (t_stmt_layer names m)) (sym (vTStmt.rolls-For start test step body)) ∙ fold-roll-TStmt TypedStmt (t_stmt_layer names m) (TStmt-F.For start test step body)

  pub tree-Switch : (value : TExpr) (body : TStmt) → t_stmt_tree names m (vTStmt.Switch value body) ≡ Switch (t_expr_tree names m value) (t_stmt_tree names m body)
  unfolding t_stmt_tree
  tree-Switch value body = ap (fold-TStmt TypedStmt (t_stmt_layer names m)) (sym (vTStmt.rolls-Switch value body)) ∙ fold-roll-TStmt TypedStmt (t_stmt_layer names m) (TStmt-F.Switch value body)

  pub tree-Case : (value : ℕ) (of : ExprType) (body : TStmt) → t_stmt_tree names m (vTStmt.Case value of body) ≡ Case value (m of.number) (t_stmt_tree names m body)
  unfolding t_stmt_tree
  tree-Case value of body = ap (fold-TStmt TypedStmt (t_stmt_layer names m)) (sym (vTStmt.rolls-Case value of body)) ∙ fold-roll-TStmt TypedStmt (t_stmt_layer names m) (TStmt-F.Case value of body)

  pub tree-Default : (body : TStmt) → t_stmt_tree names m (vTStmt.Default body) ≡ Default (t_stmt_tree names m body)
  unfolding t_stmt_tree
  tree-Default body = ap (fold-TStmt TypedStmt (t_stmt_layer names m)) (sym (vTStmt.rolls-Default body)) ∙ fold-roll-TStmt TypedStmt (t_stmt_layer names m) (TStmt-F.Default body)

  pub tree-Break : t_stmt_tree names m vTStmt.Break ≡ Break
  unfolding t_stmt_tree
  tree-Break = ap (fold-TStmt TypedStmt (t_stmt_layer names m)) (sym vTStmt.rolls-Break) ∙ fold-roll-TStmt TypedStmt (t_stmt_layer names m) TStmt-F.Break

  pub tree-Continue : t_stmt_tree names m vTStmt.Continue ≡ Continue
  unfolding t_stmt_tree
  tree-Continue = ap (fold-TStmt TypedStmt (t_stmt_layer names m)) (sym vTStmt.rolls-Continue) ∙ fold-roll-TStmt TypedStmt (t_stmt_layer names m) TStmt-F.Continue

  pub tree-Return : (value : Option TExpr) → t_stmt_tree names m (vTStmt.Return value) ≡ Return (option_map (t_expr_tree names m) value)
  unfolding t_stmt_tree
  tree-Return value = ap (fold-TStmt TypedStmt (t_stmt_layer names m)) (sym (vTStmt.rolls-Return value)) ∙ fold-roll-TStmt TypedStmt (t_stmt_layer names m) (TStmt-F.Return value)

pub ruleset typed_expr_views = (tree-LocalPlace, tree-GlobalPlace, tree-StringPlace, tree-Same, tree-Member, tree-Index, tree-Deref, tree-Number, tree-Load, tree-LoadSigned, tree-Store, tree-StoreSigned, tree-AddressOf, tree-FunctionValue, tree-Convert, tree-Unary, tree-Binary, tree-PointerAdd, tree-PointerSub, tree-Compare, tree-And, tree-Or, tree-Choose, tree-Comma, tree-CallDirect, tree-CallPointer)

pub ruleset typed_stmt_views = (tree-Compound, tree-InitLocal, tree-Expression, tree-If, tree-IfElse, tree-While, tree-DoWhile, tree-For, tree-Switch, tree-Case, tree-Default, tree-Break, tree-Continue, tree-Return)
