-- The trees of a file as they stand in a program of several (C11 5.1.1.1, 6.2.2): structs and string literals have numbers behind
-- those of the files before, and a name of internal linkage gets the file's number.
use Rattle.std.specs.Prelude.{ℕ, ◌+◌, List, ◌++◌, map, if◌then◌else◌, option_map, codes, decimal}
use Rattle.std.specs.List.{list_any}
use Rattle.std.specs.Str.{bytes_eq}
use Rattle.pa_ctype.specs.Types.{TypeTree}
use Rattle.pa_ctype.specs.Raised.{raised}
use Rattle.pa_typed.specs.Typed.{TypedExpr, TypedExprs, LocalPlace, GlobalPlace, StringPlace, Same, Member, Index, Deref, Number, Load, LoadSigned, Store, StoreSigned, AddressOf, FunctionValue, Convert, Unary, Binary, PointerAdd, PointerSub, Compare, And, Or, Choose, Comma, CallDirect, CallPointer, NoTExprs, ConsTExpr, TypedGiven, GivenValue, GivenText, TypedInitial, TypedLocalInit, TypedForStart, Declares, Evaluates, TypedStmt, TypedStmts, Compound, InitLocal, Expression, If, IfElse, While, DoWhile, For, Switch, Case, Default, Break, Continue, Return, NoTStmts, ConsTStmt}
use Rattle.pa_typed.specs.Units.{LocalTree, FunctionTree, CellTree, GlobalTree, DeclaredTree}

-- The file's number from 1, the names of internal linkage that it declares, and how many structs and string literals the files
-- before it have.
pub record Move : Type 0 where
  pub file : ℕ
  pub internal : List (List ℕ)
  pub structs : ℕ
  pub texts : ℕ

-- `n` of file k becomes `n.k`
abbrev pub moved_name : Move → List ℕ → List ℕ
moved_name m name = if list_any (bytes_eq name) m.internal then name ++ (codes "." ++ decimal m.file) else name

abbrev pub moved_type : Move → TypeTree → TypeTree
moved_type m of = raised m.structs of

unfoldable mutual
  pub moved_expr : Move → TypedExpr → TypedExpr
  moved_expr m (LocalPlace local of) = LocalPlace local (moved_type m of)
  moved_expr m (GlobalPlace name place of) = GlobalPlace (moved_name m name) place (moved_type m of)
  moved_expr m (StringPlace text of) = StringPlace (m.texts + text) (moved_type m of)
  moved_expr m (Same of) = Same (moved_type m of)
  moved_expr m (Member owner index offset of) = Member (moved_expr m owner) index offset (moved_type m of)
  moved_expr m (Index left right pointer_left of) = Index (moved_expr m left) (moved_expr m right) pointer_left (moved_type m of)
  moved_expr m (Deref pointer of) = Deref (moved_expr m pointer) (moved_type m of)
  moved_expr m (Number value of) = Number value (moved_type m of)
  moved_expr m (Load from of) = Load (moved_expr m from) (moved_type m of)
  moved_expr m (LoadSigned from schema of) = LoadSigned (moved_expr m from) schema (moved_type m of)
  moved_expr m (Store to value old of) = Store (moved_expr m to) (moved_expr m value) old (moved_type m of)
  moved_expr m (StoreSigned to value old schema of) = StoreSigned (moved_expr m to) (moved_expr m value) old schema (moved_type m of)
  moved_expr m (AddressOf at of) = AddressOf (moved_expr m at) (moved_type m of)
  moved_expr m (FunctionValue name place of) = FunctionValue (moved_name m name) place (moved_type m of)
  moved_expr m (Convert value of) = Convert (moved_expr m value) (moved_type m of)
  moved_expr m (Unary op value of) = Unary op (moved_expr m value) (moved_type m of)
  moved_expr m (Binary op left right of) = Binary op (moved_expr m left) (moved_expr m right) (moved_type m of)
  moved_expr m (PointerAdd left right pointer_left subtracts of) = PointerAdd (moved_expr m left) (moved_expr m right) pointer_left subtracts (moved_type m of)
  moved_expr m (PointerSub left right of) = PointerSub (moved_expr m left) (moved_expr m right) (moved_type m of)
  moved_expr m (Compare op left right of) = Compare op (moved_expr m left) (moved_expr m right) (moved_type m of)
  moved_expr m (And left right of) = And (moved_expr m left) (moved_expr m right) (moved_type m of)
  moved_expr m (Or left right of) = Or (moved_expr m left) (moved_expr m right) (moved_type m of)
  moved_expr m (Choose test when_true when_false of) = Choose (moved_expr m test) (moved_expr m when_true) (moved_expr m when_false) (moved_type m of)
  moved_expr m (Comma first second of) = Comma (moved_expr m first) (moved_expr m second) (moved_type m of)
  moved_expr m (CallDirect name place arguments of) = CallDirect (moved_name m name) place (moved_exprs m arguments) (moved_type m of)
  moved_expr m (CallPointer arguments function of) = CallPointer (moved_exprs m arguments) (moved_expr m function) (moved_type m of)

  pub moved_exprs : Move → TypedExprs → TypedExprs
  moved_exprs m NoTExprs = NoTExprs
  moved_exprs m (ConsTExpr e es) = ConsTExpr (moved_expr m e) (moved_exprs m es)

abbrev pub moved_given : Move → TypedGiven → TypedGiven
moved_given m (GivenValue value) = GivenValue (moved_expr m value)
moved_given m (GivenText text) = GivenText (m.texts + text)

abbrev pub moved_initial : Move → TypedInitial → TypedInitial
moved_initial m i = record { at = i.at; of = moved_type m i.of; given = moved_given m i.given }

abbrev pub moved_local_init : Move → TypedLocalInit → TypedLocalInit
moved_local_init m name = record { local = name.local; initials = option_map (map (moved_initial m)) name.initials }

abbrev pub moved_start : Move → TypedForStart → TypedForStart
moved_start m (Declares names) = Declares (map (moved_local_init m) names)
moved_start m (Evaluates value) = Evaluates (option_map (moved_expr m) value)

unfoldable mutual
  pub moved_stmt : Move → TypedStmt → TypedStmt
  moved_stmt m (Compound items) = Compound (moved_stmts m items)
  moved_stmt m (InitLocal name) = InitLocal (moved_local_init m name)
  moved_stmt m (Expression value) = Expression (option_map (moved_expr m) value)
  moved_stmt m (If test body) = If (moved_expr m test) (moved_stmt m body)
  moved_stmt m (IfElse test when_true when_false) = IfElse (moved_expr m test) (moved_stmt m when_true) (moved_stmt m when_false)
  moved_stmt m (While test body) = While (moved_expr m test) (moved_stmt m body)
  moved_stmt m (DoWhile body test) = DoWhile (moved_stmt m body) (moved_expr m test)
  moved_stmt m (For start test step body) = For (moved_start m start) (option_map (moved_expr m) test) (option_map (moved_expr m) step) (moved_stmt m body)
  moved_stmt m (Switch value body) = Switch (moved_expr m value) (moved_stmt m body)
  moved_stmt m (Case value of body) = Case value (moved_type m of) (moved_stmt m body)
  moved_stmt m (Default body) = Default (moved_stmt m body)
  moved_stmt m Break = Break
  moved_stmt m Continue = Continue
  moved_stmt m (Return value) = Return (option_map (moved_expr m) value)

  pub moved_stmts : Move → TypedStmts → TypedStmts
  moved_stmts m NoTStmts = NoTStmts
  moved_stmts m (ConsTStmt s ss) = ConsTStmt (moved_stmt m s) (moved_stmts m ss)

abbrev pub moved_local : Move → LocalTree → LocalTree
moved_local m l = record l { of = moved_type m l.of }

abbrev pub moved_function : Move → FunctionTree → FunctionTree
moved_function m f = record f { name = moved_name m f.name; of = moved_type m f.of; locals = map (moved_local m) f.locals; body = moved_stmt m f.body }

abbrev pub moved_cell : Move → CellTree → CellTree
moved_cell m c = record c { of = moved_type m c.of; value = moved_expr m c.value }

abbrev pub moved_global : Move → GlobalTree → GlobalTree
moved_global m g = record g { name = moved_name m g.name; of = moved_type m g.of; cells = map (moved_cell m) g.cells }

abbrev pub moved_declared : Move → DeclaredTree → DeclaredTree
moved_declared m d = record d { name = moved_name m d.name; of = moved_type m d.of }
