-- Short names for the trees of small programs.
use Rattle.std.proofs.Common.{ℕ, ◌-◌, ◌^◌, Bool, true, false, List, [], ◌∷◌, Some, None, codes}
use Rattle.pa_pac.specs.declared.schema.Schema.{Schema}
use Rattle.pa_pac.specs.declared.key.Key.TheVariants.{IA}
use Rattle.pa_ctype.specs.Types.{TypeTree, Of, Void, Integer, Pointer, Array, Function, TypeTrees, Nil, Cons}
use Rattle.pa_typed.specs.declared.expr.BinaryOperation.TheVariants.{Add}
use Rattle.pa_typed.specs.Typed.{TypedExpr, TypedExprs, LocalPlace, GlobalPlace, Same, Number, Load, Store, Binary, CallDirect, NoTExprs, ConsTExpr, GivenValue, TypedLocalInit, TypedStmt, TypedStmts, Compound, InitLocal, Expression, Return, NoTStmts, ConsTStmt}
use Rattle.pa_typed.specs.Units.{LocalTree, FunctionTree, ProgramTree}

-- types
abbrev pub void : TypeTree
void = Of false Void

abbrev pub char : TypeTree
char = Of false (Integer 8 true)

abbrev pub int : TypeTree
int = Of false (Integer 32 true)

abbrev pub long : TypeTree
long = Of false (Integer 64 true)

abbrev pub to : TypeTree → TypeTree
to t = Of false (Pointer t None)

abbrev pub array : ℕ → TypeTree → TypeTree
array n t = Of false (Array t (Some n))

abbrev pub types : List TypeTree → TypeTrees
types [] = Nil
types (t ∷ ts) = Cons t (types ts)

abbrev pub function : List TypeTree → TypeTree → TypeTree
function params result = Of false (Function (types params) result)

-- `__ptrauth(0, addr, disc)` on a pointer to a function
abbrev pub schema : Bool → ℕ → Schema
schema addr disc = record { key = IA; addr = addr; disc = disc }

abbrev pub qualified : TypeTree → Bool → ℕ → TypeTree
qualified t addr disc = Of false (Pointer t (Some (schema addr disc)))

-- expressions
abbrev pub number : ℕ → TypedExpr
number n = Number n int

abbrev pub negative : ℕ → TypedExpr
negative n = Number (2 ^ 64 - n) int

abbrev pub local : ℕ → TypedExpr
local l = Load (LocalPlace l int) int

abbrev pub global : List ℕ → TypeTree → TypedExpr
global name of = GlobalPlace name 0 of

abbrev pub assign : TypedExpr → TypedExpr → TypedExpr
assign place value = Store place value false int

abbrev pub sum : TypedExpr → TypedExpr → TypedExpr
sum a b = Binary Add a b int

-- `x++` of an `int`
abbrev pub increment : TypedExpr → TypedExpr
increment place = Store place (Binary Add (Load (Same int) int) (Number 1 int) int) true int

abbrev pub exprs : List TypedExpr → TypedExprs
exprs [] = NoTExprs
exprs (e ∷ es) = ConsTExpr e (exprs es)

abbrev pub call : List ℕ → List TypedExpr → TypedExpr
call name arguments = CallDirect name 0 (exprs arguments) int

abbrev pub print : TypedExpr → TypedExpr
print e = call (codes "putchar") (e ∷ [])

-- statements
abbrev pub stmts : List TypedStmt → TypedStmts
stmts [] = NoTStmts
stmts (s ∷ ss) = ConsTStmt s (stmts ss)

abbrev pub block : List TypedStmt → TypedStmt
block items = Compound (stmts items)

abbrev pub run : TypedExpr → TypedStmt
run e = Expression (Some e)

abbrev pub give : TypedExpr → TypedStmt
give e = Return (Some e)

abbrev pub declare : ℕ → TypedStmt
declare l = InitLocal (record { local = l; initials = None })

abbrev pub initial : ℕ → TypedExpr → TypedLocalInit
initial l e = record { local = l; initials = Some (record { at = 0; of = int; given = GivenValue e } ∷ []) }

-- functions and programs
abbrev pub local_tree : TypeTree → ℕ → LocalTree
local_tree of size = record { of = of; size = size; align = 1 }

abbrev pub defined : List ℕ → TypeTree → ℕ → List LocalTree → List TypedStmt → FunctionTree
defined name of parameters locals items = record { name = name; place = 0; public = true; of = of; parameters = parameters; locals = locals; body = block items }

abbrev pub main : List LocalTree → List TypedStmt → FunctionTree
main locals items = defined (codes "main") (function [] int) 0 locals items

abbrev pub program : List FunctionTree → ProgramTree
program functions = record { functions = functions; globals = []; declared = []; structs = []; texts = []; nodes = 0 }
