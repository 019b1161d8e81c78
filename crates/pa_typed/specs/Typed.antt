-- Typed expressions and statements as plain data.
use Rattle.std.specs.Prelude.{ℕ, Bool, List, Option}
use Rattle.pa_pac.specs.declared.schema.Schema.{Schema}
use Rattle.pa_ctype.specs.Types.{TypeTree}
use Rattle.pa_typed.specs.declared.expr.UnaryOperation.{UnaryOperation}
use Rattle.pa_typed.specs.declared.expr.BinaryOperation.{BinaryOperation}
use Rattle.pa_typed.specs.declared.expr.Comparison.{Comparison}

mutual
  pub data TypedExpr : Type 0 where
    LocalPlace : (local : ℕ) (of : TypeTree) → TypedExpr
    GlobalPlace : (name : List ℕ) (place : ℕ) (of : TypeTree) → TypedExpr
    StringPlace : (text : ℕ) (of : TypeTree) → TypedExpr
    Same : (of : TypeTree) → TypedExpr
    Member : (owner : TypedExpr) (index : ℕ) (offset : ℕ) (of : TypeTree) → TypedExpr
    Index : (left : TypedExpr) (right : TypedExpr) (pointer_left : Bool) (of : TypeTree) → TypedExpr
    Deref : (pointer : TypedExpr) (of : TypeTree) → TypedExpr
    Number : (value : ℕ) (of : TypeTree) → TypedExpr
    Load : (from : TypedExpr) (of : TypeTree) → TypedExpr
    LoadSigned : (from : TypedExpr) (schema : Schema) (of : TypeTree) → TypedExpr
    Store : (to : TypedExpr) (value : TypedExpr) (old : Bool) (of : TypeTree) → TypedExpr
    StoreSigned : (to : TypedExpr) (value : TypedExpr) (old : Bool) (schema : Schema) (of : TypeTree) → TypedExpr
    AddressOf : (at : TypedExpr) (of : TypeTree) → TypedExpr
    FunctionValue : (name : List ℕ) (place : ℕ) (of : TypeTree) → TypedExpr
    Convert : (value : TypedExpr) (of : TypeTree) → TypedExpr
    Unary : (op : UnaryOperation) (value : TypedExpr) (of : TypeTree) → TypedExpr
    Binary : (op : BinaryOperation) (left : TypedExpr) (right : TypedExpr) (of : TypeTree) → TypedExpr
    PointerAdd : (left : TypedExpr) (right : TypedExpr) (pointer_left : Bool) (subtracts : Bool) (of : TypeTree) → TypedExpr
    PointerSub : (left : TypedExpr) (right : TypedExpr) (of : TypeTree) → TypedExpr
    Compare : (op : Comparison) (left : TypedExpr) (right : TypedExpr) (of : TypeTree) → TypedExpr
    And : (left : TypedExpr) (right : TypedExpr) (of : TypeTree) → TypedExpr
    Or : (left : TypedExpr) (right : TypedExpr) (of : TypeTree) → TypedExpr
    Choose : (test : TypedExpr) (when_true : TypedExpr) (when_false : TypedExpr) (of : TypeTree) → TypedExpr
    Comma : (first : TypedExpr) (second : TypedExpr) (of : TypeTree) → TypedExpr
    CallDirect : (name : List ℕ) (place : ℕ) (arguments : TypedExprs) (of : TypeTree) → TypedExpr
    CallPointer : (arguments : TypedExprs) (function : TypedExpr) (of : TypeTree) → TypedExpr

  pub data TypedExprs : Type 0 where
    NoTExprs : TypedExprs
    ConsTExpr : (first : TypedExpr) (rest : TypedExprs) → TypedExprs

-- what a part of a local object is given: the value of an expression, or the bytes of a text
pub data TypedGiven : Type 0 where
  GivenValue : (value : TypedExpr) → TypedGiven
  GivenText : (text : ℕ) → TypedGiven

pub record TypedInitial : Type 0 where
  pub at : ℕ
  pub of : TypeTree
  pub given : TypedGiven

-- a name that a block declares
pub record TypedLocalInit : Type 0 where
  pub local : ℕ
  pub initials : Option (List TypedInitial)

pub data TypedForStart : Type 0 where
  Declares : (names : List TypedLocalInit) → TypedForStart
  Evaluates : (value : Option TypedExpr) → TypedForStart

mutual
  pub data TypedStmt : Type 0 where
    Compound : (items : TypedStmts) → TypedStmt
    InitLocal : (name : TypedLocalInit) → TypedStmt
    Expression : (value : Option TypedExpr) → TypedStmt
    If : (test : TypedExpr) (body : TypedStmt) → TypedStmt
    IfElse : (test : TypedExpr) (when_true : TypedStmt) (when_false : TypedStmt) → TypedStmt
    While : (test : TypedExpr) (body : TypedStmt) → TypedStmt
    DoWhile : (body : TypedStmt) (test : TypedExpr) → TypedStmt
    For : (start : TypedForStart) (test : Option TypedExpr) (step : Option TypedExpr) (body : TypedStmt) → TypedStmt
    Switch : (value : TypedExpr) (body : TypedStmt) → TypedStmt
    Case : (value : ℕ) (of : TypeTree) (body : TypedStmt) → TypedStmt
    Default : (body : TypedStmt) → TypedStmt
    Break : TypedStmt
    Continue : TypedStmt
    Return : (value : Option TypedExpr) → TypedStmt

  pub data TypedStmts : Type 0 where
    NoTStmts : TypedStmts
    ConsTStmt : (first : TypedStmt) (rest : TypedStmts) → TypedStmts
