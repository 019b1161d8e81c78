-- The names of functions and globals that the expressions of a file use, each with its place in the file.
use Rattle.std.specs.Prelude.{ℕ, List, [], ◌∷◌, ◌++◌, Option, Some, None, flat_map}
use Rattle.pa_typed.specs.Typed.{TypedExpr, TypedExprs, LocalPlace, GlobalPlace, StringPlace, Same, Member, Index, Deref, Number, Load, LoadSigned, Store, StoreSigned, AddressOf, FunctionValue, Convert, Unary, Binary, PointerAdd, PointerSub, Compare, And, Or, Choose, Comma, CallDirect, CallPointer, NoTExprs, ConsTExpr, TypedGiven, GivenValue, GivenText, TypedInitial, TypedLocalInit, TypedForStart, Declares, Evaluates, TypedStmt, TypedStmts, Compound, InitLocal, Expression, If, IfElse, While, DoWhile, For, Switch, Case, Default, Break, Continue, Return, NoTStmts, ConsTStmt}
use Rattle.pa_typed.specs.Units.{FunctionTree, CellTree, GlobalTree}

pub record Use : Type 0 where
  pub name : List ℕ
  pub place : ℕ

abbrev pub use_of : List ℕ → ℕ → List Use
use_of name place = record { name = name; place = place } ∷ []

unfoldable mutual
  pub expr_uses : TypedExpr → List Use
  expr_uses (LocalPlace local of) = []
  expr_uses (GlobalPlace name place of) = use_of name place
  expr_uses (StringPlace text of) = []
  expr_uses (Same of) = []
  expr_uses (Member owner index offset of) = expr_uses owner
  expr_uses (Index left right pointer_left of) = expr_uses left ++ expr_uses right
  expr_uses (Deref pointer of) = expr_uses pointer
  expr_uses (Number value of) = []
  expr_uses (Load from of) = expr_uses from
  expr_uses (LoadSigned from schema of) = expr_uses from
  expr_uses (Store to value old of) = expr_uses to ++ expr_uses value
  expr_uses (StoreSigned to value old schema of) = expr_uses to ++ expr_uses value
  expr_uses (AddressOf at of) = expr_uses at
  expr_uses (FunctionValue name place of) = use_of name place
  expr_uses (Convert value of) = expr_uses value
  expr_uses (Unary op value of) = expr_uses value
  expr_uses (Binary op left right of) = expr_uses left ++ expr_uses right
  expr_uses (PointerAdd left right pointer_left subtracts of) = expr_uses left ++ expr_uses right
  expr_uses (PointerSub left right of) = expr_uses left ++ expr_uses right
  expr_uses (Compare op left right of) = expr_uses left ++ expr_uses right
  expr_uses (And left right of) = expr_uses left ++ expr_uses right
  expr_uses (Or left right of) = expr_uses left ++ expr_uses right
  expr_uses (Choose test when_true when_false of) = expr_uses test ++ (expr_uses when_true ++ expr_uses when_false)
  expr_uses (Comma first second of) = expr_uses first ++ expr_uses second
  expr_uses (CallDirect name place arguments of) = use_of name place ++ exprs_uses arguments
  expr_uses (CallPointer arguments function of) = expr_uses function ++ exprs_uses arguments

  pub exprs_uses : TypedExprs → List Use
  exprs_uses NoTExprs = []
  exprs_uses (ConsTExpr e es) = expr_uses e ++ exprs_uses es

abbrev pub maybe_uses : Option TypedExpr → List Use
maybe_uses None = []
maybe_uses (Some e) = expr_uses e

abbrev pub given_uses : TypedGiven → List Use
given_uses (GivenValue value) = expr_uses value
given_uses (GivenText text) = []

abbrev pub initial_uses : TypedInitial → List Use
initial_uses i = given_uses i.given

abbrev pub initials_uses : Option (List TypedInitial) → List Use
initials_uses None = []
initials_uses (Some is) = flat_map initial_uses is

abbrev pub local_init_uses : TypedLocalInit → List Use
local_init_uses name = initials_uses name.initials

abbrev pub start_uses : TypedForStart → List Use
start_uses (Declares names) = flat_map local_init_uses names
start_uses (Evaluates value) = maybe_uses value

unfoldable mutual
  pub stmt_uses : TypedStmt → List Use
  stmt_uses (Compound items) = stmts_uses items
  stmt_uses (InitLocal name) = local_init_uses name
  stmt_uses (Expression value) = maybe_uses value
  stmt_uses (If test body) = expr_uses test ++ stmt_uses body
  stmt_uses (IfElse test when_true when_false) = expr_uses test ++ (stmt_uses when_true ++ stmt_uses when_false)
  stmt_uses (While test body) = expr_uses test ++ stmt_uses body
  stmt_uses (DoWhile body test) = stmt_uses body ++ expr_uses test
  stmt_uses (For start test step body) = start_uses start ++ (maybe_uses test ++ (maybe_uses step ++ stmt_uses body))
  stmt_uses (Switch value body) = expr_uses value ++ stmt_uses body
  stmt_uses (Case value of body) = stmt_uses body
  stmt_uses (Default body) = stmt_uses body
  stmt_uses Break = []
  stmt_uses Continue = []
  stmt_uses (Return value) = maybe_uses value

  pub stmts_uses : TypedStmts → List Use
  stmts_uses NoTStmts = []
  stmts_uses (ConsTStmt s ss) = stmt_uses s ++ stmts_uses ss

abbrev pub function_uses : FunctionTree → List Use
function_uses f = stmt_uses f.body

abbrev pub cell_uses : CellTree → List Use
cell_uses c = expr_uses c.value

abbrev pub global_uses : GlobalTree → List Use
global_uses g = flat_map cell_uses g.cells

-- in no certain order
abbrev pub uses : List GlobalTree → List FunctionTree → List Use
uses globals functions = flat_map global_uses globals ++ flat_map function_uses functions
