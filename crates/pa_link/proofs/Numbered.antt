-- Numbered trees, a variant at a time.
use Rattle.std.proofs.Common.{◌≡◌, ℕ, ◌+◌, Bool, List, map, Option, ap, sym, ◌∙◌}
use Rattle.std.specs.Option.{option_map}
use Rattle.pa_pac.specs.declared.schema.Schema.{Schema}
use Rattle.pa_typed.specs.declared.expr.ExprType.{ExprType}
use Rattle.pa_typed.specs.declared.expr.UnaryOperation.{UnaryOperation}
use Rattle.pa_typed.specs.declared.expr.BinaryOperation.{BinaryOperation}
use Rattle.pa_typed.specs.declared.expr.Comparison.{Comparison}
use Rattle.pa_typed.specs.declared.stmt.LocalInit.{LocalInit}
use Rattle.pa_typed.specs.declared.expr.TExpr.{TExpr, fold-TExpr, fold-roll-TExpr}
use Rattle.pa_typed.specs.declared.expr.TExpr.TheVariants as vTExpr
use Rattle.pa_typed.specs.declared.expr.TExpr.TheOpen.{TExpr-F}
use Rattle.pa_typed.specs.declared.stmt.TForStart.{TForStart}
use Rattle.pa_typed.specs.declared.stmt.TStmt.{TStmt, fold-TStmt, fold-roll-TStmt}
use Rattle.pa_typed.specs.declared.stmt.TStmt.TheVariants as vTStmt
use Rattle.pa_typed.specs.declared.stmt.TStmt.TheOpen.{TStmt-F}
use Rattle.pa_link.specs.declared.numbering.Numbering.{Numbering}
use Rattle.pa_link.specs.Numbering.{name_number, numbered_type, expr_layer, numbered_expr, numbered_local_init, numbered_start, stmt_layer, numbered_stmt}

module _ (n : Numbering) where
  pub numbered-LocalPlace : (local : ℕ) (of : ExprType) → numbered_expr n (vTExpr.LocalPlace local of) ≡ vTExpr.LocalPlace local (numbered_type n of)
  unfolding numbered_expr
  numbered-LocalPlace local of = ap (fold-TExpr TExpr (expr_layer n)) (sym (vTExpr.rolls-LocalPlace local of)) ∙ fold-roll-TExpr TExpr (expr_layer n) (TExpr-F.LocalPlace local of)

  pub numbered-GlobalPlace : (name : ℕ) (place : ℕ) (of : ExprType) → numbered_expr n (vTExpr.GlobalPlace name place of) ≡ vTExpr.GlobalPlace (name_number n name) place (numbered_type n of)
  unfolding numbered_expr
  numbered-GlobalPlace name place of = ap (fold-TExpr TExpr (expr_layer n)) (sym (vTExpr.rolls-GlobalPlace name place of)) ∙ fold-roll-TExpr TExpr (expr_layer n) (TExpr-F.GlobalPlace name place of)

  pub numbered-StringPlace : (text : ℕ) (of : ExprType) → numbered_expr n (vTExpr.StringPlace text of) ≡ vTExpr.StringPlace (n.texts + text) (numbered_type n of)
  unfolding numbered_expr
  numbered-StringPlace text of = ap (fold-TExpr TExpr (expr_layer n)) (sym (vTExpr.rolls-StringPlace text of)) ∙ fold-roll-TExpr TExpr (expr_layer n) (TExpr-F.StringPlace text of)

  pub numbered-Same : (of : ExprType) → numbered_expr n (vTExpr.Same of) ≡ vTExpr.Same (numbered_type n of)
  unfolding numbered_expr
  numbered-Same of = ap (fold-TExpr TExpr (expr_layer n)) (sym (vTExpr.rolls-Same of)) ∙ fold-roll-TExpr TExpr (expr_layer n) (TExpr-F.Same of)

  pub numbered-Member : (owner : TExpr) (index : ℕ) (offset : ℕ) (of : ExprType) → numbered_expr n (vTExpr.Member owner index offset of) ≡ vTExpr.Member (numbered_expr n owner) index offset (numbered_type n of)
  unfolding numbered_expr
  numbered-Member owner index offset of = ap (fold-TExpr TExpr (expr_layer n)) (sym (vTExpr.rolls-Member owner index offset of)) ∙ fold-roll-TExpr TExpr (expr_layer n) (TExpr-F.Member owner index offset of)

  pub numbered-Index : (left : TExpr) (right : TExpr) (pointer_left : Bool) (of : ExprType) → numbered_expr n (vTExpr.Index left right pointer_left of) ≡ vTExpr.Index (numbered_expr n left) (numbered_expr n right) pointer_left (numbered_type n of)
  unfolding numbered_expr
  numbered-Index left right pointer_left of = ap (fold-TExpr TExpr (expr_layer n)) (sym (vTExpr.rolls-Index left right pointer_left of)) ∙ fold-roll-TExpr TExpr (expr_layer n) (TExpr-F.Index left right pointer_left of)

  pub numbered-Deref : (pointer : TExpr) (of : ExprType) → numbered_expr n (vTExpr.Deref pointer of) ≡ vTExpr.Deref (numbered_expr n pointer) (numbered_type n of)
  unfolding numbered_expr
  numbered-Deref pointer of = ap (fold-TExpr TExpr (expr_layer n)) (sym (vTExpr.rolls-Deref pointer of)) ∙ fold-roll-TExpr TExpr (expr_layer n) (TExpr-F.Deref pointer of)

  pub numbered-Number : (value : ℕ) (of : ExprType) → numbered_expr n (vTExpr.Number value of) ≡ vTExpr.Number value (numbered_type n of)
  unfolding numbered_expr
  numbered-Number value of = ap (fold-TExpr TExpr (expr_layer n)) (sym (vTExpr.rolls-Number value of)) ∙ fold-roll-TExpr TExpr (expr_layer n) (TExpr-F.Number value of)

  pub numbered-Load : (from : TExpr) (of : ExprType) → numbered_expr n (vTExpr.Load from of) ≡ vTExpr.Load (numbered_expr n from) (numbered_type n of)
  unfolding numbered_expr
  numbered-Load from of = ap (fold-TExpr TExpr (expr_layer n)) (sym (vTExpr.rolls-Load from of)) ∙ fold-roll-TExpr TExpr (expr_layer n) (TExpr-F.Load from of)

  pub numbered-LoadSigned : (from : TExpr) (schema : Schema) (of : ExprType) → numbered_expr n (vTExpr.LoadSigned from schema of) ≡ vTExpr.LoadSigned (numbered_expr n from) schema (numbered_type n of)
  unfolding numbered_expr
  numbered-LoadSigned from schema of = ap (fold-TExpr TExpr (expr_layer n)) (sym (vTExpr.rolls-LoadSigned from schema of)) ∙ fold-roll-TExpr TExpr (expr_layer n) (TExpr-F.LoadSigned from schema of)

  pub numbered-Store : (to : TExpr) (value : TExpr) (old : Bool) (of : ExprType) → numbered_expr n (vTExpr.Store to value old of) ≡ vTExpr.Store (numbered_expr n to) (numbered_expr n value) old (numbered_type n of)
  unfolding numbered_expr
  numbered-Store to value old of = ap (fold-TExpr TExpr (expr_layer n)) (sym (vTExpr.rolls-Store to value old of)) ∙ fold-roll-TExpr TExpr (expr_layer n) (TExpr-F.Store to value old of)

  pub numbered-StoreSigned : (to : TExpr) (value : TExpr) (old : Bool) (schema : Schema) (of : ExprType) → numbered_expr n (vTExpr.StoreSigned to value old schema of) ≡ vTExpr.StoreSigned (numbered_expr n to) (numbered_expr n value) old schema (numbered_type n of)
  unfolding numbered_expr
  numbered-StoreSigned to value old schema of = ap (fold-TExpr TExpr (expr_layer n)) (sym (vTExpr.rolls-StoreSigned to value old schema of)) ∙ fold-roll-TExpr TExpr (expr_layer n) (TExpr-F.StoreSigned to value old schema of)

  pub numbered-AddressOf : (at : TExpr) (of : ExprType) → numbered_expr n (vTExpr.AddressOf at of) ≡ vTExpr.AddressOf (numbered_expr n at) (numbered_type n of)
  unfolding numbered_expr
  numbered-AddressOf at of = ap (fold-TExpr TExpr (expr_layer n)) (sym (vTExpr.rolls-AddressOf at of)) ∙ fold-roll-TExpr TExpr (expr_layer n) (TExpr-F.AddressOf at of)

  pub numbered-FunctionValue : (name : ℕ) (place : ℕ) (of : ExprType) → numbered_expr n (vTExpr.FunctionValue name place of) ≡ vTExpr.FunctionValue (name_number n name) place (numbered_type n of)
  unfolding numbered_expr
  numbered-FunctionValue name place of = ap (fold-TExpr TExpr (expr_layer n)) (sym (vTExpr.rolls-FunctionValue name place of)) ∙ fold-roll-TExpr TExpr (expr_layer n) (TExpr-F.FunctionValue name place of)

  pub numbered-Convert : (value : TExpr) (of : ExprType) → numbered_expr n (vTExpr.Convert value of) ≡ vTExpr.Convert (numbered_expr n value) (numbered_type n of)
  unfolding numbered_expr
  numbered-Convert value of = ap (fold-TExpr TExpr (expr_layer n)) (sym (vTExpr.rolls-Convert value of)) ∙ fold-roll-TExpr TExpr (expr_layer n) (TExpr-F.Convert value of)

  pub numbered-Unary : (op : UnaryOperation) (value : TExpr) (of : ExprType) → numbered_expr n (vTExpr.Unary op value of) ≡ vTExpr.Unary op (numbered_expr n value) (numbered_type n of)
  unfolding numbered_expr
  numbered-Unary op value of = ap (fold-TExpr TExpr (expr_layer n)) (sym (vTExpr.rolls-Unary op value of)) ∙ fold-roll-TExpr TExpr (expr_layer n) (TExpr-F.Unary op value of)

  pub numbered-Binary : (op : BinaryOperation) (left : TExpr) (right : TExpr) (of : ExprType) → numbered_expr n (vTExpr.Binary op left right of) ≡ vTExpr.Binary op (numbered_expr n left) (numbered_expr n right) (numbered_type n of)
  unfolding numbered_expr
  numbered-Binary op left right of = ap (fold-TExpr TExpr (expr_layer n)) (sym (vTExpr.rolls-Binary op left right of)) ∙ fold-roll-TExpr TExpr (expr_layer n) (TExpr-F.Binary op left right of)

  pub numbered-PointerAdd : (left : TExpr) (right : TExpr) (pointer_left : Bool) (subtracts : Bool) (of : ExprType) → numbered_expr n (vTExpr.PointerAdd left right pointer_left subtracts of) ≡ vTExpr.PointerAdd (numbered_expr n left) (numbered_expr n right) pointer_left subtracts (numbered_type n of)
  unfolding numbered_expr
  numbered-PointerAdd left right pointer_left subtracts of = ap (fold-TExpr TExpr (expr_layer n)) (sym (vTExpr.rolls-PointerAdd left right pointer_left subtracts of)) ∙ fold-roll-TExpr TExpr (expr_layer n) (TExpr-F.PointerAdd left right pointer_left subtracts of)

  pub numbered-PointerSub : (left : TExpr) (right : TExpr) (of : ExprType) → numbered_expr n (vTExpr.PointerSub left right of) ≡ vTExpr.PointerSub (numbered_expr n left) (numbered_expr n right) (numbered_type n of)
  unfolding numbered_expr
  numbered-PointerSub left right of = ap (fold-TExpr TExpr (expr_layer n)) (sym (vTExpr.rolls-PointerSub left right of)) ∙ fold-roll-TExpr TExpr (expr_layer n) (TExpr-F.PointerSub left right of)

  pub numbered-Compare : (op : Comparison) (left : TExpr) (right : TExpr) (of : ExprType) → numbered_expr n (vTExpr.Compare op left right of) ≡ vTExpr.Compare op (numbered_expr n left) (numbered_expr n right) (numbered_type n of)
  unfolding numbered_expr
  numbered-Compare op left right of = ap (fold-TExpr TExpr (expr_layer n)) (sym (vTExpr.rolls-Compare op left right of)) ∙ fold-roll-TExpr TExpr (expr_layer n) (TExpr-F.Compare op left right of)

  pub numbered-And : (left : TExpr) (right : TExpr) (of : ExprType) → numbered_expr n (vTExpr.And left right of) ≡ vTExpr.And (numbered_expr n left) (numbered_expr n right) (numbered_type n of)
  unfolding numbered_expr
  numbered-And left right of = ap (fold-TExpr TExpr (expr_layer n)) (sym (vTExpr.rolls-And left right of)) ∙ fold-roll-TExpr TExpr (expr_layer n) (TExpr-F.And left right of)

  pub numbered-Or : (left : TExpr) (right : TExpr) (of : ExprType) → numbered_expr n (vTExpr.Or left right of) ≡ vTExpr.Or (numbered_expr n left) (numbered_expr n right) (numbered_type n of)
  unfolding numbered_expr
  numbered-Or left right of = ap (fold-TExpr TExpr (expr_layer n)) (sym (vTExpr.rolls-Or left right of)) ∙ fold-roll-TExpr TExpr (expr_layer n) (TExpr-F.Or left right of)

  pub numbered-Choose : (test : TExpr) (when_true : TExpr) (when_false : TExpr) (of : ExprType) → numbered_expr n (vTExpr.Choose test when_true when_false of) ≡ vTExpr.Choose (numbered_expr n test) (numbered_expr n when_true) (numbered_expr n when_false) (numbered_type n of)
  unfolding numbered_expr
  numbered-Choose test when_true when_false of = ap (fold-TExpr TExpr (expr_layer n)) (sym (vTExpr.rolls-Choose test when_true when_false of)) ∙ fold-roll-TExpr TExpr (expr_layer n) (TExpr-F.Choose test when_true when_false of)

  pub numbered-Comma : (first : TExpr) (second : TExpr) (of : ExprType) → numbered_expr n (vTExpr.Comma first second of) ≡ vTExpr.Comma (numbered_expr n first) (numbered_expr n second) (numbered_type n of)
  unfolding numbered_expr
  numbered-Comma first second of = ap (fold-TExpr TExpr (expr_layer n)) (sym (vTExpr.rolls-Comma first second of)) ∙ fold-roll-TExpr TExpr (expr_layer n) (TExpr-F.Comma first second of)

  pub numbered-CallDirect : (name : ℕ) (place : ℕ) (arguments : List TExpr) (of : ExprType) → numbered_expr n (vTExpr.CallDirect name place arguments of) ≡ vTExpr.CallDirect (name_number n name) place (map (numbered_expr n) arguments) (numbered_type n of)
  unfolding numbered_expr
  numbered-CallDirect name place arguments of = ap (fold-TExpr TExpr (expr_layer n)) (sym (vTExpr.rolls-CallDirect name place arguments of)) ∙ fold-roll-TExpr TExpr (expr_layer n) (TExpr-F.CallDirect name place arguments of)

  pub numbered-CallPointer : (arguments : List TExpr) (function : TExpr) (of : ExprType) → numbered_expr n (vTExpr.CallPointer arguments function of) ≡ vTExpr.CallPointer (map (numbered_expr n) arguments) (numbered_expr n function) (numbered_type n of)
  unfolding numbered_expr
  numbered-CallPointer arguments function of = ap (fold-TExpr TExpr (expr_layer n)) (sym (vTExpr.rolls-CallPointer arguments function of)) ∙ fold-roll-TExpr TExpr (expr_layer n) (TExpr-F.CallPointer arguments function of)

  pub numbered-Compound : (items : List TStmt) → numbered_stmt n (vTStmt.Compound items) ≡ vTStmt.Compound (map (numbered_stmt n) items)
  unfolding numbered_stmt
  numbered-Compound items = ap (fold-TStmt TStmt (stmt_layer n)) (sym (vTStmt.rolls-Compound items)) ∙ fold-roll-TStmt TStmt (stmt_layer n) (TStmt-F.Compound items)

  pub numbered-InitLocal : (name : LocalInit) → numbered_stmt n (vTStmt.InitLocal name) ≡ vTStmt.InitLocal (numbered_local_init n name)
  unfolding numbered_stmt
  numbered-InitLocal name = ap (fold-TStmt TStmt (stmt_layer n)) (sym (vTStmt.rolls-InitLocal name)) ∙ fold-roll-TStmt TStmt (stmt_layer n) (TStmt-F.InitLocal name)

  pub numbered-Expression : (value : Option TExpr) → numbered_stmt n (vTStmt.Expression value) ≡ vTStmt.Expression (option_map (numbered_expr n) value)
  unfolding numbered_stmt
  numbered-Expression value = ap (fold-TStmt TStmt (stmt_layer n)) (sym (vTStmt.rolls-Expression value)) ∙ fold-roll-TStmt TStmt (stmt_layer n) (TStmt-F.Expression value)

  pub numbered-If : (test : TExpr) (body : TStmt) → numbered_stmt n (vTStmt.If test body) ≡ vTStmt.If (numbered_expr n test) (numbered_stmt n body)
  unfolding numbered_stmt
  numbered-If test body = ap (fold-TStmt TStmt (stmt_layer n)) (sym (vTStmt.rolls-If test body)) ∙ fold-roll-TStmt TStmt (stmt_layer n) (TStmt-F.If test body)

  pub numbered-IfElse : (test : TExpr) (when_true : TStmt) (when_false : TStmt) → numbered_stmt n (vTStmt.IfElse test when_true when_false) ≡ vTStmt.IfElse (numbered_expr n test) (numbered_stmt n when_true) (numbered_stmt n when_false)
  unfolding numbered_stmt
  numbered-IfElse test when_true when_false = ap (fold-TStmt TStmt (stmt_layer n)) (sym (vTStmt.rolls-IfElse test when_true when_false)) ∙ fold-roll-TStmt TStmt (stmt_layer n) (TStmt-F.IfElse test when_true when_false)

  pub numbered-While : (test : TExpr) (body : TStmt) → numbered_stmt n (vTStmt.While test body) ≡ vTStmt.While (numbered_expr n test) (numbered_stmt n body)
  unfolding numbered_stmt
  numbered-While test body = ap (fold-TStmt TStmt (stmt_layer n)) (sym (vTStmt.rolls-While test body)) ∙ fold-roll-TStmt TStmt (stmt_layer n) (TStmt-F.While test body)

  pub numbered-DoWhile : (body : TStmt) (test : TExpr) → numbered_stmt n (vTStmt.DoWhile body test) ≡ vTStmt.DoWhile (numbered_stmt n body) (numbered_expr n test)
  unfolding numbered_stmt
  numbered-DoWhile body test = ap (fold-TStmt TStmt (stmt_layer n)) (sym (vTStmt.rolls-DoWhile body test)) ∙ fold-roll-TStmt TStmt (stmt_layer n) (TStmt-F.DoWhile body test)

  pub numbered-For : (start : TForStart) (test : Option TExpr) (step : Option TExpr) (body : TStmt) → numbered_stmt n (vTStmt.For start test step body) ≡ vTStmt.For (numbered_start n start) (option_map (numbered_expr n) test) (option_map (numbered_expr n) step) (numbered_stmt n body)
  unfolding numbered_stmt
  numbered-For start test step body = ap (fold-TStmt TStmt (stmt_layer n)) (sym (vTStmt.rolls-For start test step body)) ∙ fold-roll-TStmt TStmt (stmt_layer n) (TStmt-F.For start test step body)

  pub numbered-Switch : (value : TExpr) (body : TStmt) → numbered_stmt n (vTStmt.Switch value body) ≡ vTStmt.Switch (numbered_expr n value) (numbered_stmt n body)
  unfolding numbered_stmt
  numbered-Switch value body = ap (fold-TStmt TStmt (stmt_layer n)) (sym (vTStmt.rolls-Switch value body)) ∙ fold-roll-TStmt TStmt (stmt_layer n) (TStmt-F.Switch value body)

  pub numbered-Case : (value : ℕ) (of : ExprType) (body : TStmt) → numbered_stmt n (vTStmt.Case value of body) ≡ vTStmt.Case value (numbered_type n of) (numbered_stmt n body)
  unfolding numbered_stmt
  numbered-Case value of body = ap (fold-TStmt TStmt (stmt_layer n)) (sym (vTStmt.rolls-Case value of body)) ∙ fold-roll-TStmt TStmt (stmt_layer n) (TStmt-F.Case value of body)

  pub numbered-Default : (body : TStmt) → numbered_stmt n (vTStmt.Default body) ≡ vTStmt.Default (numbered_stmt n body)
  unfolding numbered_stmt
  numbered-Default body = ap (fold-TStmt TStmt (stmt_layer n)) (sym (vTStmt.rolls-Default body)) ∙ fold-roll-TStmt TStmt (stmt_layer n) (TStmt-F.Default body)

  pub numbered-Break : numbered_stmt n vTStmt.Break ≡ vTStmt.Break
  unfolding numbered_stmt
  numbered-Break = ap (fold-TStmt TStmt (stmt_layer n)) (sym vTStmt.rolls-Break) ∙ fold-roll-TStmt TStmt (stmt_layer n) TStmt-F.Break

  pub numbered-Continue : numbered_stmt n vTStmt.Continue ≡ vTStmt.Continue
  unfolding numbered_stmt
  numbered-Continue = ap (fold-TStmt TStmt (stmt_layer n)) (sym vTStmt.rolls-Continue) ∙ fold-roll-TStmt TStmt (stmt_layer n) TStmt-F.Continue

  pub numbered-Return : (value : Option TExpr) → numbered_stmt n (vTStmt.Return value) ≡ vTStmt.Return (option_map (numbered_expr n) value)
  unfolding numbered_stmt
  numbered-Return value = ap (fold-TStmt TStmt (stmt_layer n)) (sym (vTStmt.rolls-Return value)) ∙ fold-roll-TStmt TStmt (stmt_layer n) (TStmt-F.Return value)

pub ruleset numbered_exprs = (numbered-LocalPlace, numbered-GlobalPlace, numbered-StringPlace, numbered-Same, numbered-Member, numbered-Index, numbered-Deref, numbered-Number, numbered-Load, numbered-LoadSigned, numbered-Store, numbered-StoreSigned, numbered-AddressOf, numbered-FunctionValue, numbered-Convert, numbered-Unary, numbered-Binary, numbered-PointerAdd, numbered-PointerSub, numbered-Compare, numbered-And, numbered-Or, numbered-Choose, numbered-Comma, numbered-CallDirect, numbered-CallPointer)

pub ruleset numbered_stmts = (numbered-Compound, numbered-InitLocal, numbered-Expression, numbered-If, numbered-IfElse, numbered-While, numbered-DoWhile, numbered-For, numbered-Switch, numbered-Case, numbered-Default, numbered-Break, numbered-Continue, numbered-Return)
