-- What is counted on typed trees.
use Rattle.std.specs.Prelude.{ℕ, suc, ◌+◌, ◌*◌, max, List, [], ◌∷◌, Option, Some, None}
use Rattle.std.specs.Int.{next_multiple_of}
use Rattle.pa_typed.specs.declared.unit.CLocal.{CLocal}
use Rattle.pa_typed.specs.declared.unit.Function.{Function}
use Rattle.pa_typed.specs.Typed.{TypedExpr, TypedExprs, LocalPlace, GlobalPlace, StringPlace, Same, Member, Index, Deref, Number, Load, LoadSigned, Store, StoreSigned, AddressOf, FunctionValue, Convert, Unary, Binary, PointerAdd, PointerSub, Compare, And, Or, Choose, Comma, CallDirect, CallPointer, NoTExprs, ConsTExpr, TypedGiven, GivenValue, GivenText, TypedInitial, TypedLocalInit, TypedForStart, TypedStmt, TypedStmts, Declares, Evaluates, Compound, InitLocal, Expression, If, IfElse, While, DoWhile, For, Switch, Case, Default, Break, Continue, Return, NoTStmts, ConsTStmt}
use Rattle.pa_typed.specs.Views.{bare_stmt}

-- How many values may wait while an expression is evaluated. Of one without parts it is 1. Of `&&`, `||`, `?:` and the comma it is
-- the largest of a part's. Of any other it is the largest of i - 1 plus that of its i-th part, the parts counted from 1 in the order
-- in which they are evaluated.
abbrev mutual
  pub expr_pend : TypedExpr → ℕ
  expr_pend (LocalPlace local of) = 1
  expr_pend (GlobalPlace name place of) = 1
  expr_pend (StringPlace text of) = 1
  expr_pend (Same of) = 1
  expr_pend (Member owner index offset of) = expr_pend owner
  expr_pend (Index left right pointer_left of) = max (expr_pend left) (1 + expr_pend right)
  expr_pend (Deref pointer of) = expr_pend pointer
  expr_pend (Number value of) = 1
  expr_pend (Load from of) = expr_pend from
  expr_pend (LoadSigned from schema of) = expr_pend from
  expr_pend (Store to value old of) = max (expr_pend to) (1 + expr_pend value)
  expr_pend (StoreSigned to value old schema of) = max (expr_pend to) (1 + expr_pend value)
  expr_pend (AddressOf at of) = expr_pend at
  expr_pend (FunctionValue name place of) = 1
  expr_pend (Convert value of) = expr_pend value
  expr_pend (Unary op value of) = expr_pend value
  expr_pend (Binary op left right of) = max (expr_pend left) (1 + expr_pend right)
  expr_pend (PointerAdd left right pointer_left subtracts of) = max (expr_pend left) (1 + expr_pend right)
  expr_pend (PointerSub left right of) = max (expr_pend left) (1 + expr_pend right)
  expr_pend (Compare op left right of) = max (expr_pend left) (1 + expr_pend right)
  expr_pend (And left right of) = max (expr_pend left) (expr_pend right)
  expr_pend (Or left right of) = max (expr_pend left) (expr_pend right)
  expr_pend (Choose test when_true when_false of) = max (expr_pend test) (max (expr_pend when_true) (expr_pend when_false))
  expr_pend (Comma first second of) = max (expr_pend first) (expr_pend second)
  expr_pend (CallDirect name place arguments of) = max 1 (parts_pend 0 arguments)
  expr_pend (CallPointer arguments function of) = max (parts_pend 0 arguments) (part_count arguments + expr_pend function)

  -- of the parts behind so many others
  pub parts_pend : ℕ → TypedExprs → ℕ
  parts_pend before NoTExprs = 0
  parts_pend before (ConsTExpr e es) = max (before + expr_pend e) (parts_pend (suc before) es)

  pub part_count : TypedExprs → ℕ
  part_count NoTExprs = 0
  part_count (ConsTExpr e es) = suc (part_count es)

abbrev pub maybe_pend : Option TypedExpr → ℕ
maybe_pend None = 0
maybe_pend (Some e) = expr_pend e

-- a text that is given to an array is no expression
abbrev pub given_pend : TypedGiven → ℕ
given_pend (GivenValue value) = expr_pend value
given_pend (GivenText text) = 0

abbrev pub initials_pend : List TypedInitial → ℕ
initials_pend [] = 0
initials_pend (i ∷ is) = max (given_pend i.given) (initials_pend is)

abbrev pub name_initials_pend : Option (List TypedInitial) → ℕ
name_initials_pend None = 0
name_initials_pend (Some is) = initials_pend is

abbrev pub name_pend : TypedLocalInit → ℕ
name_pend name = name_initials_pend name.initials

abbrev pub names_pend : List TypedLocalInit → ℕ
names_pend [] = 0
names_pend (name ∷ names) = max (name_pend name) (names_pend names)

abbrev pub start_pend : TypedForStart → ℕ
start_pend (Declares names) = names_pend names
start_pend (Evaluates value) = maybe_pend value

-- The largest of the expressions in a statement, or 0 where there is none; the number of a `case` is one. A part of an expression
-- has no larger one than the whole.
abbrev mutual
  pub stmt_pend : TypedStmt → ℕ
  stmt_pend (Compound items) = stmts_pend items
  stmt_pend (InitLocal name) = name_pend name
  stmt_pend (Expression value) = maybe_pend value
  stmt_pend (If test body) = max (expr_pend test) (stmt_pend body)
  stmt_pend (IfElse test when_true when_false) = max (expr_pend test) (max (stmt_pend when_true) (stmt_pend when_false))
  stmt_pend (While test body) = max (expr_pend test) (stmt_pend body)
  stmt_pend (DoWhile body test) = max (stmt_pend body) (expr_pend test)
  stmt_pend (For start test step body) = max (start_pend start) (max (maybe_pend test) (max (maybe_pend step) (stmt_pend body)))
  stmt_pend (Switch value body) = max (expr_pend value) (stmt_pend body)
  stmt_pend (Case value of body) = max 1 (stmt_pend body)
  stmt_pend (Default body) = stmt_pend body
  stmt_pend Break = 0
  stmt_pend Continue = 0
  stmt_pend (Return value) = maybe_pend value

  pub stmts_pend : TypedStmts → ℕ
  stmts_pend NoTStmts = 0
  stmts_pend (ConsTStmt s ss) = max (stmt_pend s) (stmts_pend ss)

-- the sizes of the objects of a function, each rounded up to 8 bytes
abbrev pub locals_bytes : List CLocal → ℕ
locals_bytes [] = 0
locals_bytes (l ∷ ls) = next_multiple_of l.size 8 + locals_bytes ls

abbrev pub local_bytes : Function → ℕ
local_bytes f = locals_bytes f.locals

unfoldable pub pend : Function → ℕ
pend f = stmt_pend (bare_stmt f.body)

-- what an open call of the function weighs on the stack
abbrev pub weight : Function → ℕ
weight f = 256 + (2 * local_bytes f + 16 * pend f)
