-- Sizes of typed expressions, by which recursion over them ends, and what is counted behind the first parts of one.
use Rattle.std.proofs.Common.{◌≡◌, ℕ, suc, ◌+◌, List, [], ◌∷◌, length, map, ap, refl}
use Rattle.pa_typed.specs.declared.expr.TExpr.{TExpr}
use Rattle.pa_typed.specs.Counts.{part_count}
use Rattle.pa_typed.specs.Views.{bare_expr, t_exprs_of}
use Rattle.pa_typed.specs.Typed.{TypedExpr, TypedExprs, LocalPlace, GlobalPlace, StringPlace, Same, Member, Index, Deref, Number, Load, LoadSigned, Store, StoreSigned, AddressOf, FunctionValue, Convert, Unary, Binary, PointerAdd, PointerSub, Compare, And, Or, Choose, Comma, CallDirect, CallPointer, NoTExprs, ConsTExpr, TypedStmt, TypedStmts, Compound, InitLocal, Expression, If, IfElse, While, DoWhile, For, Switch, Case, Default, Break, Continue, Return, NoTStmts, ConsTStmt}

abbrev mutual
  pub expr_size : TypedExpr → ℕ
  expr_size (LocalPlace local of) = 1
  expr_size (GlobalPlace name place of) = 1
  expr_size (StringPlace text of) = 1
  expr_size (Same of) = 1
  expr_size (Member owner index offset of) = suc (expr_size owner)
  expr_size (Index left right pointer_left of) = suc (suc (expr_size left + expr_size right))
  expr_size (Deref pointer of) = suc (expr_size pointer)
  expr_size (Number value of) = 1
  expr_size (Load from of) = suc (expr_size from)
  expr_size (LoadSigned from schema of) = suc (expr_size from)
  expr_size (Store to value old of) = suc (suc (expr_size to + expr_size value))
  expr_size (StoreSigned to value old schema of) = suc (suc (expr_size to + expr_size value))
  expr_size (AddressOf at of) = suc (expr_size at)
  expr_size (FunctionValue name place of) = 1
  expr_size (Convert value of) = suc (expr_size value)
  expr_size (Unary op value of) = suc (expr_size value)
  expr_size (Binary op left right of) = suc (suc (expr_size left + expr_size right))
  expr_size (PointerAdd left right pointer_left subtracts of) = suc (suc (expr_size left + expr_size right))
  expr_size (PointerSub left right of) = suc (suc (expr_size left + expr_size right))
  expr_size (Compare op left right of) = suc (suc (expr_size left + expr_size right))
  expr_size (And left right of) = suc (suc (expr_size left + expr_size right))
  expr_size (Or left right of) = suc (suc (expr_size left + expr_size right))
  expr_size (Choose test when_true when_false of) = suc (expr_size test + (expr_size when_true + expr_size when_false))
  expr_size (Comma first second of) = suc (suc (expr_size first + expr_size second))
  expr_size (CallDirect name place arguments of) = suc (suc (parts_size arguments))
  expr_size (CallPointer arguments function of) = suc (suc (parts_size arguments + expr_size function))

  pub parts_size : TypedExprs → ℕ
  parts_size NoTExprs = 0
  parts_size (ConsTExpr e es) = suc (expr_size e + parts_size es)

pub part_count_is : (es : List TExpr) → part_count (t_exprs_of (map bare_expr es)) ≡ length es
part_count_is [] = refl
part_count_is (e ∷ es) = ap suc (part_count_is es)

-- by which recursion over statements ends
abbrev mutual
  pub stmt_size : TypedStmt → ℕ
  stmt_size (Compound items) = suc (stmts_size items)
  stmt_size (InitLocal name) = 1
  stmt_size (Expression value) = 1
  stmt_size (If test body) = suc (stmt_size body)
  stmt_size (IfElse test when_true when_false) = suc (stmt_size when_true + stmt_size when_false)
  stmt_size (While test body) = suc (stmt_size body)
  stmt_size (DoWhile body test) = suc (stmt_size body)
  stmt_size (For start test step body) = suc (stmt_size body)
  stmt_size (Switch value body) = suc (stmt_size body)
  stmt_size (Case value of body) = suc (stmt_size body)
  stmt_size (Default body) = suc (stmt_size body)
  stmt_size Break = 1
  stmt_size Continue = 1
  stmt_size (Return value) = 1

  pub stmts_size : TypedStmts → ℕ
  stmts_size NoTStmts = 0
  stmts_size (ConsTStmt s ss) = suc (stmt_size s + stmts_size ss)
