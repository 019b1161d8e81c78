-- The flat code of a statement (C11 6.8). The value of an expression in it goes to the temporary 0. Blocks have no code of their
-- own: in flat code a local lives from the function's entry to its return.
use Rattle.std.specs.Prelude.{ℕ, zero, suc, ◌+◌, List, [], ◌∷◌, ◌++◌, Option, Some, None, unwrap_or}
use Rattle.pa_ctype.specs.Types.{TypeTree}
use Rattle.pa_typed.specs.Typed.{TypedExpr, TypedGiven, GivenValue, GivenText, TypedInitial, TypedLocalInit, TypedForStart, Declares, Evaluates, TypedStmt, TypedStmts, Compound, InitLocal, Expression, If, IfElse, While, DoWhile, For, Switch, Case, Default, Break, Continue, Return, NoTStmts, ConsTStmt}
use Rattle.pa_lir.specs.declared.op.Op.{Op}
use Rattle.pa_lir.specs.declared.op.Op.TheVariants as op
use Rattle.pa_lir.specs.declared.op.BinOp.TheVariants as flat
use Rattle.pa_lower.specs.declared.ways.Ways as ways
use Rattle.pa_lower.specs.Temporaries.{whole_room}
use Rattle.pa_lower.specs.Operations.{store_op}
use Rattle.pa_lower.specs.Expressions.{expr_labels, expr_ops, either_ops}

-- ---- expressions in statements, and declared names

abbrev pub whole_ops : ℕ → TypedExpr → List Op
whole_ops n e = expr_ops n whole_room e

abbrev pub maybe_labels : Option TypedExpr → ℕ
maybe_labels None = 0
maybe_labels (Some e) = expr_labels e

abbrev pub maybe_ops : ℕ → Option TypedExpr → List Op
maybe_ops n None = []
maybe_ops n (Some e) = whole_ops n e

abbrev pub given_labels : TypedGiven → ℕ
given_labels (GivenValue value) = expr_labels value
given_labels (GivenText text) = 0

-- an object of an integer type is one part, which gets the value of an expression
abbrev pub given_ops : ℕ → (local : ℕ) → TypeTree → TypedGiven → List Op
given_ops n local of (GivenValue value) = whole_ops n value ++ (op.Local 1 local ∷ store_op of 1 0 ∷ [])
given_ops n local of (GivenText text) = []

unfoldable pub initials_labels : List TypedInitial → ℕ
initials_labels [] = 0
initials_labels (i ∷ is) = given_labels i.given + initials_labels is

unfoldable pub initials_ops : ℕ → (local : ℕ) → List TypedInitial → List Op
initials_ops n local [] = []
initials_ops n local (i ∷ is) = given_ops n local i.of i.given ++ initials_ops (n + given_labels i.given) local is

-- a declared name (6.7.9); without an initializer nothing is done
abbrev pub local_labels : TypedLocalInit → ℕ
local_labels name = initials_labels (unwrap_or name.initials [])

abbrev pub local_ops : ℕ → TypedLocalInit → List Op
local_ops n name = initials_ops n name.local (unwrap_or name.initials [])

unfoldable pub locals_labels : List TypedLocalInit → ℕ
locals_labels [] = 0
locals_labels (name ∷ names) = local_labels name + locals_labels names

unfoldable pub locals_ops : ℕ → List TypedLocalInit → List Op
locals_ops n [] = []
locals_ops n (name ∷ names) = local_ops n name ++ locals_ops (n + local_labels name) names

abbrev pub start_labels : TypedForStart → ℕ
start_labels (Declares names) = locals_labels names
start_labels (Evaluates value) = maybe_labels value

abbrev pub start_ops : ℕ → TypedForStart → List Op
start_ops n (Declares names) = locals_ops n names
start_ops n (Evaluates value) = maybe_ops n value

-- ---- ways out

-- the labels to which `break` and `continue` go; none outside of a switch or loop, where the meaning is undefined
abbrev pub Ways : Type 0
Ways = ways.Ways

abbrev pub jump_ops : Option ℕ → List Op
jump_ops None = []
jump_ops (Some label) = op.Jump label ∷ []

abbrev pub loop_ways : (leave proceed : ℕ) → Ways
loop_ways leave proceed = record { leave = Some leave; proceed = Some proceed }

-- out of a switch: `continue` is that of the loop around it
abbrev pub switch_ways : (leave : ℕ) → Ways → Ways
switch_ways leave w = record { leave = Some leave; proceed = w.proceed }

-- ---- the labels of a switch (6.8.4.2)

-- how many stand at a statement
abbrev pub stmt_cases : TypedStmt → ℕ
stmt_cases (Case value of body) = suc (stmt_cases body)
stmt_cases (Default body) = suc (stmt_cases body)
stmt_cases _ = 0

abbrev pub item_cases : TypedStmts → ℕ
item_cases NoTStmts = 0
item_cases (ConsTStmt s ss) = stmt_cases s + item_cases ss

abbrev pub body_cases : TypedStmt → ℕ
body_cases (Compound items) = item_cases items
body_cases _ = 0

-- so many of them at a statement
unfoldable pub case_labels : (c count : ℕ) → List Op
case_labels c zero = []
case_labels c (suc count) = op.Label c ∷ case_labels (suc c) count

-- the tests of the number in the temporary 0, in the order of the source, where the labels are numbered from c on
abbrev pub test_ops : (value label : ℕ) → List Op
test_ops value label = op.Const 1 value ∷ op.Bin 1 flat.Eq 0 1 ∷ op.Branch 1 label ∷ []

unfoldable pub stmt_tests : ℕ → TypedStmt → List Op
stmt_tests c (Case value of body) = test_ops value c ++ stmt_tests (suc c) body
stmt_tests c (Default body) = stmt_tests (suc c) body
stmt_tests c _ = []

unfoldable pub item_tests : ℕ → TypedStmts → List Op
item_tests c NoTStmts = []
item_tests c (ConsTStmt s ss) = stmt_tests c s ++ item_tests (c + stmt_cases s) ss

abbrev pub body_tests : ℕ → TypedStmt → List Op
body_tests c (Compound items) = item_tests c items
body_tests c _ = []

-- where no test holds: the label of the first `default`, or another
unfoldable pub stmt_default : ℕ → TypedStmt → Option ℕ
stmt_default c (Case value of body) = stmt_default (suc c) body
stmt_default c (Default body) = Some c
stmt_default c _ = None

abbrev pub first_of : Option ℕ → Option ℕ → Option ℕ
first_of (Some label) other = Some label
first_of None other = other

unfoldable pub item_default : ℕ → TypedStmts → Option ℕ
item_default c NoTStmts = None
item_default c (ConsTStmt s ss) = first_of (stmt_default c s) (item_default (c + stmt_cases s) ss)

abbrev pub body_default : ℕ → TypedStmt → Option ℕ
body_default c (Compound items) = item_default c items
body_default c _ = None

-- ---- how many labels the code of a statement has; those of a switch's own cases are counted with it

abbrev pub test_labels : Option TypedExpr → ℕ
test_labels test = 4 + maybe_labels test

abbrev mutual
  pub stmt_labels : TypedStmt → ℕ
  stmt_labels (Compound items) = stmts_labels items
  stmt_labels (InitLocal name) = local_labels name
  stmt_labels (Expression value) = maybe_labels value
  stmt_labels (If test body) = expr_labels test + (2 + stmt_labels body)
  stmt_labels (IfElse test when_true when_false) = expr_labels test + (2 + (stmt_labels when_false + stmt_labels when_true))
  stmt_labels (While test body) = 3 + (expr_labels test + stmt_labels body)
  stmt_labels (DoWhile body test) = 3 + (stmt_labels body + expr_labels test)
  stmt_labels (For start test step body) = 4 + (start_labels start + (maybe_labels test + (stmt_labels body + maybe_labels step)))
  stmt_labels (Switch value body) = expr_labels value + (1 + (body_cases body + switched_labels body))
  stmt_labels (Case value of body) = stmt_labels body
  stmt_labels (Default body) = stmt_labels body
  stmt_labels Break = 0
  stmt_labels Continue = 0
  stmt_labels (Return value) = maybe_labels value

  pub stmts_labels : TypedStmts → ℕ
  stmts_labels NoTStmts = 0
  stmts_labels (ConsTStmt s ss) = stmt_labels s + stmts_labels ss

  -- a switch enters nothing but a block
  pub switched_labels : TypedStmt → ℕ
  switched_labels (Compound items) = stmts_labels items
  switched_labels _ = 0

-- ---- statements

-- where the number in the temporary 0 isn't 0, on to the label n, else to another
abbrev pub branch_ops : (n otherwise : ℕ) → List Op
branch_ops n otherwise = op.Branch 0 n ∷ op.Jump otherwise ∷ op.Label n ∷ []

-- The test before a turn of a loop (6.8.5). Where it is left out (6.8.5.3p2) the loop is entered by an operation of its own, as a
-- turn is counted after one that has run.
abbrev pub enter_ops : Option TypedExpr → (head : ℕ) → List Op
enter_ops None head = op.Jump head ∷ op.Label head ∷ []
enter_ops (Some test) head = op.Label head ∷ []

abbrev pub turn_ops : ℕ → Option TypedExpr → (body otherwise : ℕ) → List Op
turn_ops n None body otherwise = []
turn_ops n (Some test) body otherwise = whole_ops n test ++ branch_ops body otherwise

abbrev pub return_ops : ℕ → Option TypedExpr → List Op
return_ops n None = op.Return None ∷ []
return_ops n (Some value) = whole_ops n value ++ op.Return (Some 0) ∷ []

-- with labels from n on
unfoldable mutual
  pub stmt_ops : ℕ → Ways → TypedStmt → List Op
  -- blocks (6.8.2) and expressions (6.8.3)
  stmt_ops n w (Compound items) = stmts_ops n w items
  stmt_ops n w (InitLocal name) = local_ops n name
  stmt_ops n w (Expression value) = maybe_ops n value
  -- selection (6.8.4)
  stmt_ops n w (If test body) = whole_ops n test ++ (branch_ops (n + expr_labels test) (n + expr_labels test + 1) ++ (stmt_ops (n + expr_labels test + 2) w body ++ op.Label (n + expr_labels test + 1) ∷ []))
  stmt_ops n w (IfElse test when_true when_false) = whole_ops n test ++ either_ops (n + expr_labels test) 0 (stmt_ops (n + expr_labels test + 2) w when_false) (stmt_ops (n + expr_labels test + 2 + stmt_labels when_false) w when_true)
  -- iteration (6.8.5): the labels of a loop are those of its test, of its body and behind it, and where `continue` goes
  stmt_ops n w (While test body) = op.Label n ∷ (whole_ops (n + 3) test ++ (branch_ops (n + 1) (n + 2) ++ (stmt_ops (n + 3 + expr_labels test) (loop_ways (n + 2) n) body ++ (op.Jump n ∷ op.Label (n + 2) ∷ []))))
  stmt_ops n w (DoWhile body test) = op.Jump n ∷ op.Label n ∷ (stmt_ops (n + 3) (loop_ways (n + 2) (n + 1)) body ++ (op.Label (n + 1) ∷ (whole_ops (n + 3 + stmt_labels body) test ++ (op.Branch 0 n ∷ op.Label (n + 2) ∷ []))))
  stmt_ops n w (For start test step body) = start_ops (n + 4) start ++ (enter_ops test n ++ (turn_ops (n + 4 + start_labels start) test (n + 1) (n + 2) ++ (stmt_ops (n + 4 + start_labels start + maybe_labels test) (loop_ways (n + 2) (n + 3)) body ++ (op.Label (n + 3) ∷ (maybe_ops (n + 4 + start_labels start + maybe_labels test + stmt_labels body) step ++ (op.Jump n ∷ op.Label (n + 2) ∷ []))))))
  -- `switch` (6.8.4.2): its end has the first label, then its cases
  stmt_ops n w (Switch value body) = whole_ops n value ++ (body_tests (n + expr_labels value + 1) body ++ (op.Jump (unwrap_or (body_default (n + expr_labels value + 1) body) (n + expr_labels value)) ∷ (switched_ops (n + expr_labels value + 1 + body_cases body) (n + expr_labels value + 1) (switch_ways (n + expr_labels value) w) body ++ op.Label (n + expr_labels value) ∷ [])))
  stmt_ops n w (Case value of body) = stmt_ops n w body
  stmt_ops n w (Default body) = stmt_ops n w body
  -- jumps (6.8.6)
  stmt_ops n w Break = jump_ops w.leave
  stmt_ops n w Continue = jump_ops w.proceed
  stmt_ops n w (Return value) = return_ops n value

  pub stmts_ops : ℕ → Ways → TypedStmts → List Op
  stmts_ops n w NoTStmts = []
  stmts_ops n w (ConsTStmt s ss) = stmt_ops n w s ++ stmts_ops (n + stmt_labels s) w ss

  -- the body of a switch, whose cases are numbered from c on
  pub switched_ops : (n c : ℕ) → Ways → TypedStmt → List Op
  switched_ops n c w (Compound items) = items_ops n c w items
  switched_ops n c w _ = []

  pub items_ops : (n c : ℕ) → Ways → TypedStmts → List Op
  items_ops n c w NoTStmts = []
  items_ops n c w (ConsTStmt s ss) = case_labels c (stmt_cases s) ++ (stmt_ops n w s ++ items_ops (n + stmt_labels s) (c + stmt_cases s) w ss)

-- ---- parts of these, by name

-- the statements of a block; a statement of another form is none
abbrev pub items_of : TypedStmt → TypedStmts
items_of (Compound items) = items
items_of _ = NoTStmts

abbrev pub while_ops : ℕ → TypedExpr → TypedStmt → List Op
while_ops n test body = op.Label n ∷ (whole_ops (n + 3) test ++ (branch_ops (n + 1) (n + 2) ++ (stmt_ops (n + 3 + expr_labels test) (loop_ways (n + 2) n) body ++ (op.Jump n ∷ op.Label (n + 2) ∷ []))))

abbrev pub do_while_ops : ℕ → TypedStmt → TypedExpr → List Op
do_while_ops n body test = op.Jump n ∷ op.Label n ∷ (stmt_ops (n + 3) (loop_ways (n + 2) (n + 1)) body ++ (op.Label (n + 1) ∷ (whole_ops (n + 3 + stmt_labels body) test ++ (op.Branch 0 n ∷ op.Label (n + 2) ∷ []))))

abbrev pub for_ops : ℕ → TypedForStart → (test step : Option TypedExpr) → TypedStmt → List Op
for_ops n start test step body = start_ops (n + 4) start ++ (enter_ops test n ++ (turn_ops (n + 4 + start_labels start) test (n + 1) (n + 2) ++ (stmt_ops (n + 4 + start_labels start + maybe_labels test) (loop_ways (n + 2) (n + 3)) body ++ (op.Label (n + 3) ∷ (maybe_ops (n + 4 + start_labels start + maybe_labels test + stmt_labels body) step ++ (op.Jump n ∷ op.Label (n + 2) ∷ []))))))

-- of a switch with these statements
abbrev pub switch_labels : TypedExpr → TypedStmts → ℕ
switch_labels value items = expr_labels value + (1 + (item_cases items + stmts_labels items))

abbrev pub switch_ops : ℕ → Ways → TypedExpr → TypedStmts → List Op
switch_ops n w value items = whole_ops n value ++ (item_tests (n + expr_labels value + 1) items ++ (op.Jump (unwrap_or (item_default (n + expr_labels value + 1) items) (n + expr_labels value)) ∷ (items_ops (n + expr_labels value + 1 + item_cases items) (n + expr_labels value + 1) (switch_ways (n + expr_labels value) w) items ++ op.Label (n + expr_labels value) ∷ [])))
