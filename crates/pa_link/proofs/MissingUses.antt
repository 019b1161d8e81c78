-- The first use of a name that isn't defined, a variant at a time.
use Rattle.std.proofs.Common.{◌≡◌, ℕ, Bool, List, map, Option, None, ap, sym, ◌∙◌}
use Rattle.pa_pac.specs.declared.schema.Schema.{Schema}
use Rattle.pa_typed.specs.declared.expr.ExprType.{ExprType}
use Rattle.pa_typed.specs.declared.expr.UnaryOperation.{UnaryOperation}
use Rattle.pa_typed.specs.declared.expr.BinaryOperation.{BinaryOperation}
use Rattle.pa_typed.specs.declared.expr.Comparison.{Comparison}
use Rattle.pa_typed.specs.declared.stmt.LocalInit.{LocalInit}
use Rattle.pa_typed.specs.declared.expr.TExpr.{TExpr, fold-TExpr, fold-roll-TExpr}
use Rattle.pa_typed.specs.declared.expr.TExpr.TheVariants as vTExpr
use Rattle.pa_typed.specs.declared.expr.TExpr.TheOpen.{TExpr-F}
use Rattle.pa_typed.specs.declared.stmt.TForStart.{TForStart}
use Rattle.pa_typed.specs.declared.stmt.TStmt.{TStmt, fold-TStmt, fold-roll-TStmt}
use Rattle.pa_typed.specs.declared.stmt.TStmt.TheVariants as vTStmt
use Rattle.pa_typed.specs.declared.stmt.TStmt.TheOpen.{TStmt-F}
use Rattle.pa_link.specs.declared.definitions.Definitions.{Definitions}
use Rattle.pa_link.specs.Missing.{earlier, earliest, use_missing, expr_layer, expr_missing, maybe_missing, local_init_missing, start_missing, stmt_layer, stmt_missing}

module _ (d : Definitions) where
  pub missing-LocalPlace : (local : ℕ) (of : ExprType) → expr_missing d (vTExpr.LocalPlace local of) ≡ None
  unfolding expr_missing
  missing-LocalPlace local of = ap (fold-TExpr (Option ℕ) (expr_layer d)) (sym (vTExpr.rolls-LocalPlace local of)) ∙ fold-roll-TExpr (Option ℕ) (expr_layer d) (TExpr-F.LocalPlace local of)

  pub missing-GlobalPlace : (name : ℕ) (place : ℕ) (of : ExprType) → expr_missing d (vTExpr.GlobalPlace name place of) ≡ use_missing d name place
  unfolding expr_missing
  missing-GlobalPlace name place of = ap (fold-TExpr (Option ℕ) (expr_layer d)) (sym (vTExpr.rolls-GlobalPlace name place of)) ∙ fold-roll-TExpr (Option ℕ) (expr_layer d) (TExpr-F.GlobalPlace name place of)

  pub missing-StringPlace : (text : ℕ) (of : ExprType) → expr_missing d (vTExpr.StringPlace text of) ≡ None
  unfolding expr_missing
  missing-StringPlace text of = ap (fold-TExpr (Option ℕ) (expr_layer d)) (sym (vTExpr.rolls-StringPlace text of)) ∙ fold-roll-TExpr (Option ℕ) (expr_layer d) (TExpr-F.StringPlace text of)

  pub missing-Same : (of : ExprType) → expr_missing d (vTExpr.Same of) ≡ None
  unfolding expr_missing
  missing-Same of = ap (fold-TExpr (Option ℕ) (expr_layer d)) (sym (vTExpr.rolls-Same of)) ∙ fold-roll-TExpr (Option ℕ) (expr_layer d) (TExpr-F.Same of)

  pub missing-Member : (owner : TExpr) (index : ℕ) (offset : ℕ) (of : ExprType) → expr_missing d (vTExpr.Member owner index offset of) ≡ expr_missing d owner
  unfolding expr_missing
  missing-Member owner index offset of = ap (fold-TExpr (Option ℕ) (expr_layer d)) (sym (vTExpr.rolls-Member owner index offset of)) ∙ fold-roll-TExpr (Option ℕ) (expr_layer d) (TExpr-F.Member owner index offset of)

  pub missing-Index : (left : TExpr) (right : TExpr) (pointer_left : Bool) (of : ExprType) → expr_missing d (vTExpr.Index left right pointer_left of) ≡ earlier (expr_missing d left) (expr_missing d right)
  unfolding expr_missing
  missing-Index left right pointer_left of = ap (fold-TExpr (Option ℕ) (expr_layer d)) (sym (vTExpr.rolls-Index left right pointer_left of)) ∙ fold-roll-TExpr (Option ℕ) (expr_layer d) (TExpr-F.Index left right pointer_left of)

  pub missing-Deref : (pointer : TExpr) (of : ExprType) → expr_missing d (vTExpr.Deref pointer of) ≡ expr_missing d pointer
  unfolding expr_missing
  missing-Deref pointer of = ap (fold-TExpr (Option ℕ) (expr_layer d)) (sym (vTExpr.rolls-Deref pointer of)) ∙ fold-roll-TExpr (Option ℕ) (expr_layer d) (TExpr-F.Deref pointer of)

  pub missing-Number : (value : ℕ) (of : ExprType) → expr_missing d (vTExpr.Number value of) ≡ None
  unfolding expr_missing
  missing-Number value of = ap (fold-TExpr (Option ℕ) (expr_layer d)) (sym (vTExpr.rolls-Number value of)) ∙ fold-roll-TExpr (Option ℕ) (expr_layer d) (TExpr-F.Number value of)

  pub missing-Load : (from : TExpr) (of : ExprType) → expr_missing d (vTExpr.Load from of) ≡ expr_missing d from
  unfolding expr_missing
  missing-Load from of = ap (fold-TExpr (Option ℕ) (expr_layer d)) (sym (vTExpr.rolls-Load from of)) ∙ fold-roll-TExpr (Option ℕ) (expr_layer d) (TExpr-F.Load from of)

  pub missing-LoadSigned : (from : TExpr) (schema : Schema) (of : ExprType) → expr_missing d (vTExpr.LoadSigned from schema of) ≡ expr_missing d from
  unfolding expr_missing
  missing-LoadSigned from schema of = ap (fold-TExpr (Option ℕ) (expr_layer d)) (sym (vTExpr.rolls-LoadSigned from schema of)) ∙ fold-roll-TExpr (Option ℕ) (expr_layer d) (TExpr-F.LoadSigned from schema of)

  pub missing-Store : (to : TExpr) (value : TExpr) (old : Bool) (of : ExprType) → expr_missing d (vTExpr.Store to value old of) ≡ earlier (expr_missing d to) (expr_missing d value)
  unfolding expr_missing
  missing-Store to value old of = ap (fold-TExpr (Option ℕ) (expr_layer d)) (sym (vTExpr.rolls-Store to value old of)) ∙ fold-roll-TExpr (Option ℕ) (expr_layer d) (TExpr-F.Store to value old of)

  pub missing-StoreSigned : (to : TExpr) (value : TExpr) (old : Bool) (schema : Schema) (of : ExprType) → expr_missing d (vTExpr.StoreSigned to value old schema of) ≡ earlier (expr_missing d to) (expr_missing d value)
  unfolding expr_missing
  missing-StoreSigned to value old schema of = ap (fold-TExpr (Option ℕ) (expr_layer d)) (sym (vTExpr.rolls-StoreSigned to value old schema of)) ∙ fold-roll-TExpr (Option ℕ) (expr_layer d) (TExpr-F.StoreSigned to value old schema of)

  pub missing-AddressOf : (at : TExpr) (of : ExprType) → expr_missing d (vTExpr.AddressOf at of) ≡ expr_missing d at
  unfolding expr_missing
  missing-AddressOf at of = ap (fold-TExpr (Option ℕ) (expr_layer d)) (sym (vTExpr.rolls-AddressOf at of)) ∙ fold-roll-TExpr (Option ℕ) (expr_layer d) (TExpr-F.AddressOf at of)

  pub missing-FunctionValue : (name : ℕ) (place : ℕ) (of : ExprType) → expr_missing d (vTExpr.FunctionValue name place of) ≡ use_missing d name place
  unfolding expr_missing
  missing-FunctionValue name place of = ap (fold-TExpr (Option ℕ) (expr_layer d)) (sym (vTExpr.rolls-FunctionValue name place of)) ∙ fold-roll-TExpr (Option ℕ) (expr_layer d) (TExpr-F.FunctionValue name place of)

  pub missing-Convert : (value : TExpr) (of : ExprType) → expr_missing d (vTExpr.Convert value of) ≡ expr_missing d value
  unfolding expr_missing
  missing-Convert value of = ap (fold-TExpr (Option ℕ) (expr_layer d)) (sym (vTExpr.rolls-Convert value of)) ∙ fold-roll-TExpr (Option ℕ) (expr_layer d) (TExpr-F.Convert value of)

  pub missing-Unary : (op : UnaryOperation) (value : TExpr) (of : ExprType) → expr_missing d (vTExpr.Unary op value of) ≡ expr_missing d value
  unfolding expr_missing
  missing-Unary op value of = ap (fold-TExpr (Option ℕ) (expr_layer d)) (sym (vTExpr.rolls-Unary op value of)) ∙ fold-roll-TExpr (Option ℕ) (expr_layer d) (TExpr-F.Unary op value of)

  pub missing-Binary : (op : BinaryOperation) (left : TExpr) (right : TExpr) (of : ExprType) → expr_missing d (vTExpr.Binary op left right of) ≡ earlier (expr_missing d left) (expr_missing d right)
  unfolding expr_missing
  missing-Binary op left right of = ap (fold-TExpr (Option ℕ) (expr_layer d)) (sym (vTExpr.rolls-Binary op left right of)) ∙ fold-roll-TExpr (Option ℕ) (expr_layer d) (TExpr-F.Binary op left right of)

  pub missing-PointerAdd : (left : TExpr) (right : TExpr) (pointer_left : Bool) (subtracts : Bool) (of : ExprType) → expr_missing d (vTExpr.PointerAdd left right pointer_left subtracts of) ≡ earlier (expr_missing d left) (expr_missing d right)
  unfolding expr_missing
  missing-PointerAdd left right pointer_left subtracts of = ap (fold-TExpr (Option ℕ) (expr_layer d)) (sym (vTExpr.rolls-PointerAdd left right pointer_left subtracts of)) ∙ fold-roll-TExpr (Option ℕ) (expr_layer d) (TExpr-F.PointerAdd left right pointer_left subtracts of)

  pub missing-PointerSub : (left : TExpr) (right : TExpr) (of : ExprType) → expr_missing d (vTExpr.PointerSub left right of) ≡ earlier (expr_missing d left) (expr_missing d right)
  unfolding expr_missing
  missing-PointerSub left right of = ap (fold-TExpr (Option ℕ) (expr_layer d)) (sym (vTExpr.rolls-PointerSub left right of)) ∙ fold-roll-TExpr (Option ℕ) (expr_layer d) (TExpr-F.PointerSub left right of)

  pub missing-Compare : (op : Comparison) (left : TExpr) (right : TExpr) (of : ExprType) → expr_missing d (vTExpr.Compare op left right of) ≡ earlier (expr_missing d left) (expr_missing d right)
  unfolding expr_missing
  missing-Compare op left right of = ap (fold-TExpr (Option ℕ) (expr_layer d)) (sym (vTExpr.rolls-Compare op left right of)) ∙ fold-roll-TExpr (Option ℕ) (expr_layer d) (TExpr-F.Compare op left right of)

  pub missing-And : (left : TExpr) (right : TExpr) (of : ExprType) → expr_missing d (vTExpr.And left right of) ≡ earlier (expr_missing d left) (expr_missing d right)
  unfolding expr_missing
  missing-And left right of = ap (fold-TExpr (Option ℕ) (expr_layer d)) (sym (vTExpr.rolls-And left right of)) ∙ fold-roll-TExpr (Option ℕ) (expr_layer d) (TExpr-F.And left right of)

  pub missing-Or : (left : TExpr) (right : TExpr) (of : ExprType) → expr_missing d (vTExpr.Or left right of) ≡ earlier (expr_missing d left) (expr_missing d right)
  unfolding expr_missing
  missing-Or left right of = ap (fold-TExpr (Option ℕ) (expr_layer d)) (sym (vTExpr.rolls-Or left right of)) ∙ fold-roll-TExpr (Option ℕ) (expr_layer d) (TExpr-F.Or left right of)

  pub missing-Choose : (test : TExpr) (when_true : TExpr) (when_false : TExpr) (of : ExprType) → expr_missing d (vTExpr.Choose test when_true when_false of) ≡ earlier (expr_missing d test) (earlier (expr_missing d when_true) (expr_missing d when_false))
  unfolding expr_missing
  missing-Choose test when_true when_false of = ap (fold-TExpr (Option ℕ) (expr_layer d)) (sym (vTExpr.rolls-Choose test when_true when_false of)) ∙ fold-roll-TExpr (Option ℕ) (expr_layer d) (TExpr-F.Choose test when_true when_false of)

  pub missing-Comma : (first : TExpr) (second : TExpr) (of : ExprType) → expr_missing d (vTExpr.Comma first second of) ≡ earlier (expr_missing d first) (expr_missing d second)
  unfolding expr_missing
  missing-Comma first second of = ap (fold-TExpr (Option ℕ) (expr_layer d)) (sym (vTExpr.rolls-Comma first second of)) ∙ fold-roll-TExpr (Option ℕ) (expr_layer d) (TExpr-F.Comma first second of)

  pub missing-CallDirect : (name : ℕ) (place : ℕ) (arguments : List TExpr) (of : ExprType) → expr_missing d (vTExpr.CallDirect name place arguments of) ≡ earlier (use_missing d name place) (earliest (map (expr_missing d) arguments))
  unfolding expr_missing
  missing-CallDirect name place arguments of = ap (fold-TExpr (Option ℕ) (expr_layer d)) (sym (vTExpr.rolls-CallDirect name place arguments of)) ∙ fold-roll-TExpr (Option ℕ) (expr_layer d) (TExpr-F.CallDirect name place arguments of)

  pub missing-CallPointer : (arguments : List TExpr) (function : TExpr) (of : ExprType) → expr_missing d (vTExpr.CallPointer arguments function of) ≡ earlier (expr_missing d function) (earliest (map (expr_missing d) arguments))
  unfolding expr_missing
  missing-CallPointer arguments function of = ap (fold-TExpr (Option ℕ) (expr_layer d)) (sym (vTExpr.rolls-CallPointer arguments function of)) ∙ fold-roll-TExpr (Option ℕ) (expr_layer d) (TExpr-F.CallPointer arguments function of)

  pub missing-Compound : (items : List TStmt) → stmt_missing d (vTStmt.Compound items) ≡ earliest (map (stmt_missing d) items)
  unfolding stmt_missing
  missing-Compound items = ap (fold-TStmt (Option ℕ) (stmt_layer d)) (sym (vTStmt.rolls-Compound items)) ∙ fold-roll-TStmt (Option ℕ) (stmt_layer d) (TStmt-F.Compound items)

  pub missing-InitLocal : (name : LocalInit) → stmt_missing d (vTStmt.InitLocal name) ≡ local_init_missing d name
  unfolding stmt_missing
  missing-InitLocal name = ap (fold-TStmt (Option ℕ) (stmt_layer d)) (sym (vTStmt.rolls-InitLocal name)) ∙ fold-roll-TStmt (Option ℕ) (stmt_layer d) (TStmt-F.InitLocal name)

  pub missing-Expression : (value : Option TExpr) → stmt_missing d (vTStmt.Expression value) ≡ maybe_missing d value
  unfolding stmt_missing
  missing-Expression value = ap (fold-TStmt (Option ℕ) (stmt_layer d)) (sym (vTStmt.rolls-Expression value)) ∙ fold-roll-TStmt (Option ℕ) (stmt_layer d) (TStmt-F.Expression value)

  pub missing-If : (test : TExpr) (body : TStmt) → stmt_missing d (vTStmt.If test body) ≡ earlier (expr_missing d test) (stmt_missing d body)
  unfolding stmt_missing
  missing-If test body = ap (fold-TStmt (Option ℕ) (stmt_layer d)) (sym (vTStmt.rolls-If test body)) ∙ fold-roll-TStmt (Option ℕ) (stmt_layer d) (TStmt-F.If test body)

  pub missing-IfElse : (test : TExpr) (when_true : TStmt) (when_false : TStmt) → stmt_missing d (vTStmt.IfElse test when_true when_false) ≡ earlier (expr_missing d test) (earlier (stmt_missing d when_true) (stmt_missing d when_false))
  unfolding stmt_missing
  missing-IfElse test when_true when_false = ap (fold-TStmt (Option ℕ) (stmt_layer d)) (sym (vTStmt.rolls-IfElse test when_true when_false)) ∙ fold-roll-TStmt (Option ℕ) (stmt_layer d) (TStmt-F.IfElse test when_true when_false)

  pub missing-While : (test : TExpr) (body : TStmt) → stmt_missing d (vTStmt.While test body) ≡ earlier (expr_missing d test) (stmt_missing d body)
  unfolding stmt_missing
  missing-While test body = ap (fold-TStmt (Option ℕ) (stmt_layer d)) (sym (vTStmt.rolls-While test body)) ∙ fold-roll-TStmt (Option ℕ) (stmt_layer d) (TStmt-F.While test body)

  pub missing-DoWhile : (body : TStmt) (test : TExpr) → stmt_missing d (vTStmt.DoWhile body test) ≡ earlier (stmt_missing d body) (expr_missing d test)
  unfolding stmt_missing
  missing-DoWhile body test = ap (fold-TStmt (Option ℕ) (stmt_layer d)) (sym (vTStmt.rolls-DoWhile body test)) ∙ fold-roll-TStmt (Option ℕ) (stmt_layer d) (TStmt-F.DoWhile body test)

  pub missing-For : (start : TForStart) (test : Option TExpr) (step : Option TExpr) (body : TStmt) → stmt_missing d (vTStmt.For start test step body) ≡ earlier (start_missing d start) (earlier (maybe_missing d test) (earlier (maybe_missing d step) (stmt_missing d body)))
  unfolding stmt_missing
  missing-For start test step body = ap (fold-TStmt (Option ℕ) (stmt_layer d)) (sym (vTStmt.rolls-For start test step body)) ∙ fold-roll-TStmt (Option ℕ) (stmt_layer d) (TStmt-F.For start test step body)

  pub missing-Switch : (value : TExpr) (body : TStmt) → stmt_missing d (vTStmt.Switch value body) ≡ earlier (expr_missing d value) (stmt_missing d body)
  unfolding stmt_missing
  missing-Switch value body = ap (fold-TStmt (Option ℕ) (stmt_layer d)) (sym (vTStmt.rolls-Switch value body)) ∙ fold-roll-TStmt (Option ℕ) (stmt_layer d) (TStmt-F.Switch value body)

  pub missing-Case : (value : ℕ) (of : ExprType) (body : TStmt) → stmt_missing d (vTStmt.Case value of body) ≡ stmt_missing d body
  unfolding stmt_missing
  missing-Case value of body = ap (fold-TStmt (Option ℕ) (stmt_layer d)) (sym (vTStmt.rolls-Case value of body)) ∙ fold-roll-TStmt (Option ℕ) (stmt_layer d) (TStmt-F.Case value of body)

  pub missing-Default : (body : TStmt) → stmt_missing d (vTStmt.Default body) ≡ stmt_missing d body
  unfolding stmt_missing
  missing-Default body = ap (fold-TStmt (Option ℕ) (stmt_layer d)) (sym (vTStmt.rolls-Default body)) ∙ fold-roll-TStmt (Option ℕ) (stmt_layer d) (TStmt-F.Default body)

  pub missing-Break : stmt_missing d vTStmt.Break ≡ None
  unfolding stmt_missing
  missing-Break = ap (fold-TStmt (Option ℕ) (stmt_layer d)) (sym vTStmt.rolls-Break) ∙ fold-roll-TStmt (Option ℕ) (stmt_layer d) TStmt-F.Break

  pub missing-Continue : stmt_missing d vTStmt.Continue ≡ None
  unfolding stmt_missing
  missing-Continue = ap (fold-TStmt (Option ℕ) (stmt_layer d)) (sym vTStmt.rolls-Continue) ∙ fold-roll-TStmt (Option ℕ) (stmt_layer d) TStmt-F.Continue

  pub missing-Return : (value : Option TExpr) → stmt_missing d (vTStmt.Return value) ≡ maybe_missing d value
  unfolding stmt_missing
  missing-Return value = ap (fold-TStmt (Option ℕ) (stmt_layer d)) (sym (vTStmt.rolls-Return value)) ∙ fold-roll-TStmt (Option ℕ) (stmt_layer d) (TStmt-F.Return value)

pub ruleset missing_exprs = (missing-LocalPlace, missing-GlobalPlace, missing-StringPlace, missing-Same, missing-Member, missing-Index, missing-Deref, missing-Number, missing-Load, missing-LoadSigned, missing-Store, missing-StoreSigned, missing-AddressOf, missing-FunctionValue, missing-Convert, missing-Unary, missing-Binary, missing-PointerAdd, missing-PointerSub, missing-Compare, missing-And, missing-Or, missing-Choose, missing-Comma, missing-CallDirect, missing-CallPointer)

pub ruleset missing_stmts = (missing-Compound, missing-InitLocal, missing-Expression, missing-If, missing-IfElse, missing-While, missing-DoWhile, missing-For, missing-Switch, missing-Case, missing-Default, missing-Break, missing-Continue, missing-Return)
