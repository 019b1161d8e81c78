-- What is done next in a run of a program of C, and what waits for it. The open calls of the program stand among what waits, so whoever
-- goes by steps needs no stack of his own.
use Rattle.std.specs.Prelude.{ℕ, ℤ, Bool, List, Option}
use Rattle.pa_pac.specs.declared.schema.Schema.{Schema}
use Rattle.pa_ctype.specs.Types.{TypeTree}
use Rattle.pa_ctype.specs.Traces.{Seen}
use Rattle.pa_ctype.specs.Values.{Owner, Place, CValue, Cell}
use Rattle.pa_typed.specs.declared.expr.UnaryOperation.{UnaryOperation}
use Rattle.pa_typed.specs.declared.expr.BinaryOperation.{BinaryOperation}
use Rattle.pa_typed.specs.declared.expr.Comparison.{Comparison}
use Rattle.pa_typed.specs.Typed.{TypedExpr, TypedExprs, TypedInitial, TypedLocalInit, TypedStmt, TypedStmts}
use Rattle.pa_typed.specs.Units.{FunctionTree}
use Rattle.pa_cmean.specs.Results.{End}
use Rattle.pa_cmean.specs.State.{Here, State}
use Rattle.pa_cmean.specs.Statements.{Target}

-- what is called: a function by its name, or what an expression gives
pub data Callee : Type 0 where
  Named : (name : List ℕ) → Callee
  Through : (function : TypedExpr) → Callee

-- cells of a local object that are still to be given their values: the parts that the initializer names, and where the object ends
pub record Cells : Type 0 where
  pub initials : List TypedInitial
  pub owner : Owner
  pub cells : List Cell
  pub size : ℕ

-- What waits for a value, or for the end of a statement. `same` is the place of the innermost store around the expressions in it.
pub data Frame : Type 0 where
  -- a value of an expression is awaited: for a place (C11 6.5.2.1, 6.5.2.3, 6.5.3.2)
  Moves : (offset : ℕ) → Frame
  Points : Frame
  -- for a read or a store (6.3.2.1p2, 6.5.16)
  Loads : (of : TypeTree) → Frame
  LoadsSigned : (schema : Schema) (of : TypeTree) → Frame
  StoreRight : (value : TypedExpr) (old : Bool) (of : TypeTree) → Frame
  Stores : (at : CValue) (old : Bool) (of : TypeTree) → Frame
  -- for an operator: the left operand, or the right one behind the left one's value
  Converts : (of : TypeTree) → Frame
  Applies : (op : UnaryOperation) (of : TypeTree) → Frame
  CombineRight : (same : Option Place) (op : BinaryOperation) (right : TypedExpr) (of : TypeTree) → Frame
  Combines : (op : BinaryOperation) (left : CValue) (of : TypeTree) → Frame
  AddRight : (same : Option Place) (right : TypedExpr) (pointer_left : Bool) (subtracts : Bool) (element : Option TypeTree) → Frame
  Adds : (left : CValue) (pointer_left : Bool) (subtracts : Bool) (element : Option TypeTree) → Frame
  SubtractRight : (same : Option Place) (right : TypedExpr) (element : Option TypeTree) → Frame
  Subtracts : (left : CValue) (element : Option TypeTree) → Frame
  CompareRight : (same : Option Place) (op : Comparison) (right : TypedExpr) → Frame
  Compares : (op : Comparison) (left : CValue) → Frame
  -- for a choice (6.5.13 to 6.5.15), or for nothing (6.5.17)
  AndRight : (same : Option Place) (right : TypedExpr) → Frame
  OrRight : (same : Option Place) (right : TypedExpr) → Frame
  Truth : Frame
  Chooses : (same : Option Place) (when_true : TypedExpr) (when_false : TypedExpr) → Frame
  Second : (same : Option Place) (second : TypedExpr) → Frame
  -- for an argument, with the values of those before it, the last one first; for the called pointer
  Argument : (same : Option Place) (callee : Callee) (before : List CValue) (rest : TypedExprs) → Frame
  CallsThrough : (function : TypedExpr) (arguments : List CValue) → Frame
  -- for a statement (6.8)
  Discards : Frame
  Tests : (when_true : TypedStmt) → Frame
  Divides : (when_true : TypedStmt) (when_false : TypedStmt) → Frame
  TurnTest : (test : TypedExpr) (step : Option TypedExpr) (body : TypedStmt) → Frame
  Stepped : (test : Option TypedExpr) (step : Option TypedExpr) (body : TypedStmt) → Frame
  RedoTest : (body : TypedStmt) (test : TypedExpr) → Frame
  Switches : (body : TypedStmt) → Frame
  Gives : Frame
  CellValue : (cell : Cell) (rest : Cells) → Frame
  -- the end of a statement is awaited, however it ends
  Then : (rest : TypedStmts) → Frame
  Closes : (locals : List ℕ) → Frame
  Initialises : (names : List TypedLocalInit) → Frame
  Loops : (test : Option TypedExpr) (step : Option TypedExpr) (body : TypedStmt) → Frame
  Turns : (test : Option TypedExpr) (step : Option TypedExpr) (body : TypedStmt) → Frame
  Redoes : (body : TypedStmt) (test : TypedExpr) → Frame
  Breaks : Frame
  -- the end of a function's body, with the call that goes on behind it
  Returns : (f : FunctionTree) (caller : Here) → Frame

-- what is done next
pub data Now : Type 0 where
  Eval : (same : Option Place) (e : TypedExpr) → Now
  Gave : (value : CValue) → Now
  Evals : (same : Option Place) (callee : Callee) (before : List CValue) (rest : TypedExprs) → Now
  Called : (name : List ℕ) (arguments : List CValue) → Now
  Exec : (s : TypedStmt) → Now
  Execs : (ss : TypedStmts) → Now
  Initialise : (names : List TypedLocalInit) → Now
  GiveCells : (cells : Cells) → Now
  GiveCell : (value : CValue) (cell : Cell) (rest : Cells) → Now
  Loop : (test : Option TypedExpr) (step : Option TypedExpr) (body : TypedStmt) → Now
  Redo : (body : TypedStmt) (test : TypedExpr) → Now
  Select : (value : ℤ) (cases : List (Option ℤ)) (items : TypedStmts) → Now
  Enter : (target : Target) (items : TypedStmts) → Now
  EnterAmong : (target : Target) (ss : TypedStmts) → Now
  -- the ways out of a statement: behind it, `break`, `continue`, `return`
  Next : Now
  Leave : Now
  Proceed : Now
  Give : (value : CValue) → Now
  Ended : (end : End) → Now

-- a run: what is done next, what waits, the nearest first, and what is in hand
pub record Machine : Type 0 where
  pub now : Now
  pub frames : List Frame
  pub state : State

-- what a step puts in front of what a run gives
pub data Front : Type 0 where
  Worked : Front
  Turned : Front
  Printed : (byte : ℕ) → Front
  Shown : (item : Seen) → Front
  Entered : (name : List ℕ) (depth : ℕ) → Front

-- a step
pub record Step : Type 0 where
  pub fronts : List Front
  pub machine : Machine
