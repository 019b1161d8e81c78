-- The trees of a file with the numbers that names, types and string literals have in the program.
use Rattle.std.specs.Prelude.{ℕ, ◌+◌, map, slice_get, unwrap_or}
use Rattle.std.specs.Option.{option_map}
use Rattle.pa_typed.specs.declared.expr.ExprType.{ExprType}
use Rattle.pa_typed.specs.declared.expr.TExpr.{TExpr, fold-TExpr}
use Rattle.pa_typed.specs.declared.expr.TExpr.TheVariants as vTExpr
use Rattle.pa_typed.specs.declared.expr.TExpr.TheOpen.{TExpr-F}
use Rattle.pa_typed.specs.declared.stmt.Given.{Given}
use Rattle.pa_typed.specs.declared.stmt.Given.TheVariants as vGiven
use Rattle.pa_typed.specs.declared.stmt.Initial.{Initial}
use Rattle.pa_typed.specs.declared.stmt.LocalInit.{LocalInit}
use Rattle.pa_typed.specs.declared.stmt.TForStart.{TForStart}
use Rattle.pa_typed.specs.declared.stmt.TForStart.TheVariants as vTForStart
use Rattle.pa_typed.specs.declared.stmt.TStmt.{TStmt, fold-TStmt}
use Rattle.pa_typed.specs.declared.stmt.TStmt.TheVariants as vTStmt
use Rattle.pa_typed.specs.declared.stmt.TStmt.TheOpen.{TStmt-F}
use Rattle.pa_typed.specs.declared.unit.Cell.{Cell}
use Rattle.pa_typed.specs.declared.unit.CLocal.{CLocal}
use Rattle.pa_typed.specs.declared.unit.CGlobal.{CGlobal}
use Rattle.pa_typed.specs.declared.unit.Declared.{Declared}
use Rattle.pa_typed.specs.declared.unit.Function.{Function}
use Rattle.pa_link.specs.declared.numbering.Numbering.{Numbering}

module _ (n : Numbering) where
  abbrev pub name_number : ℕ → ℕ
  name_number i = unwrap_or (slice_get n.names i) n.unnamed

  abbrev pub type_number : ℕ → ℕ
  type_number i = unwrap_or (slice_get n.types i) n.void

  abbrev pub numbered_type : ExprType → ExprType
  numbered_type of = record of { number = type_number of.number }

  abbrev pub expr_layer : TExpr-F TExpr → TExpr
  expr_layer (TExpr-F.LocalPlace local of) = vTExpr.LocalPlace local (numbered_type of)
  expr_layer (TExpr-F.GlobalPlace name place of) = vTExpr.GlobalPlace (name_number name) place (numbered_type of)
  expr_layer (TExpr-F.StringPlace text of) = vTExpr.StringPlace (n.texts + text) (numbered_type of)
  expr_layer (TExpr-F.Same of) = vTExpr.Same (numbered_type of)
  expr_layer (TExpr-F.Member owner index offset of) = vTExpr.Member owner index offset (numbered_type of)
  expr_layer (TExpr-F.Index left right pointer_left of) = vTExpr.Index left right pointer_left (numbered_type of)
  expr_layer (TExpr-F.Deref pointer of) = vTExpr.Deref pointer (numbered_type of)
  expr_layer (TExpr-F.Number value of) = vTExpr.Number value (numbered_type of)
  expr_layer (TExpr-F.Load from of) = vTExpr.Load from (numbered_type of)
  expr_layer (TExpr-F.LoadSigned from schema of) = vTExpr.LoadSigned from schema (numbered_type of)
  expr_layer (TExpr-F.Store to value old of) = vTExpr.Store to value old (numbered_type of)
  expr_layer (TExpr-F.StoreSigned to value old schema of) = vTExpr.StoreSigned to value old schema (numbered_type of)
  expr_layer (TExpr-F.AddressOf at of) = vTExpr.AddressOf at (numbered_type of)
  expr_layer (TExpr-F.FunctionValue name place of) = vTExpr.FunctionValue (name_number name) place (numbered_type of)
  expr_layer (TExpr-F.Convert value of) = vTExpr.Convert value (numbered_type of)
  expr_layer (TExpr-F.Unary op value of) = vTExpr.Unary op value (numbered_type of)
  expr_layer (TExpr-F.Binary op left right of) = vTExpr.Binary op left right (numbered_type of)
  expr_layer (TExpr-F.PointerAdd left right pointer_left subtracts of) = vTExpr.PointerAdd left right pointer_left subtracts (numbered_type of)
  expr_layer (TExpr-F.PointerSub left right of) = vTExpr.PointerSub left right (numbered_type of)
  expr_layer (TExpr-F.Compare op left right of) = vTExpr.Compare op left right (numbered_type of)
  expr_layer (TExpr-F.And left right of) = vTExpr.And left right (numbered_type of)
  expr_layer (TExpr-F.Or left right of) = vTExpr.Or left right (numbered_type of)
  expr_layer (TExpr-F.Choose test when_true when_false of) = vTExpr.Choose test when_true when_false (numbered_type of)
  expr_layer (TExpr-F.Comma first second of) = vTExpr.Comma first second (numbered_type of)
  expr_layer (TExpr-F.CallDirect name place arguments of) = vTExpr.CallDirect (name_number name) place arguments (numbered_type of)
  expr_layer (TExpr-F.CallPointer arguments function of) = vTExpr.CallPointer arguments function (numbered_type of)

  unfoldable pub numbered_expr : TExpr → TExpr
  numbered_expr = fold-TExpr TExpr expr_layer

  abbrev pub numbered_given : Given → Given
  numbered_given (vGiven.Value value) = vGiven.Value (numbered_expr value)
  numbered_given (vGiven.Text text) = vGiven.Text (n.texts + text)

  abbrev pub numbered_initial : Initial → Initial
  numbered_initial i = record { at = i.at; of = numbered_type i.of; given = numbered_given i.given }

  abbrev pub numbered_local_init : LocalInit → LocalInit
  numbered_local_init name = record { local = name.local; initials = option_map (map numbered_initial) name.initials }

  abbrev pub numbered_start : TForStart → TForStart
  numbered_start (vTForStart.Declares names) = vTForStart.Declares (map numbered_local_init names)
  numbered_start (vTForStart.Evaluates value) = vTForStart.Evaluates (option_map numbered_expr value)

  abbrev pub stmt_layer : TStmt-F TStmt → TStmt
  stmt_layer (TStmt-F.Compound items) = vTStmt.Compound items
  stmt_layer (TStmt-F.InitLocal name) = vTStmt.InitLocal (numbered_local_init name)
  stmt_layer (TStmt-F.Expression value) = vTStmt.Expression (option_map numbered_expr value)
  stmt_layer (TStmt-F.If test body) = vTStmt.If (numbered_expr test) body
  stmt_layer (TStmt-F.IfElse test when_true when_false) = vTStmt.IfElse (numbered_expr test) when_true when_false
  stmt_layer (TStmt-F.While test body) = vTStmt.While (numbered_expr test) body
  stmt_layer (TStmt-F.DoWhile body test) = vTStmt.DoWhile body (numbered_expr test)
  stmt_layer (TStmt-F.For start test step body) = vTStmt.For (numbered_start start) (option_map numbered_expr test) (option_map numbered_expr step) body
  stmt_layer (TStmt-F.Switch value body) = vTStmt.Switch (numbered_expr value) body
  stmt_layer (TStmt-F.Case value of body) = vTStmt.Case value (numbered_type of) body
  stmt_layer (TStmt-F.Default body) = vTStmt.Default body
  stmt_layer TStmt-F.Break = vTStmt.Break
  stmt_layer TStmt-F.Continue = vTStmt.Continue
  stmt_layer (TStmt-F.Return value) = vTStmt.Return (option_map numbered_expr value)

  unfoldable pub numbered_stmt : TStmt → TStmt
  numbered_stmt = fold-TStmt TStmt stmt_layer

  abbrev pub numbered_local : CLocal → CLocal
  numbered_local l = record l { of = type_number l.of }

  abbrev pub numbered_function : Function → Function
  numbered_function f = record {
    name = name_number f.name;
    place = f.place;
    public = f.public;
    of = type_number f.of;
    parameters = f.parameters;
    locals = map numbered_local f.locals;
    body = numbered_stmt f.body;
  }

  abbrev pub numbered_cell : Cell → Cell
  numbered_cell c = record { at = c.at; of = numbered_type c.of; value = numbered_expr c.value }

  abbrev pub numbered_global : CGlobal → CGlobal
  numbered_global g = record {
    name = name_number g.name;
    place = g.place;
    public = g.public;
    of = type_number g.of;
    size = g.size;
    align = g.align;
    cells = map numbered_cell g.cells;
  }

  abbrev pub numbered_declared : Declared → Declared
  numbered_declared d = record d { name = name_number d.name; of = type_number d.of }
