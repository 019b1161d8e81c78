-- What a statement does (C11 6.8). Each counts a unit of work when it begins.
use Rattle.std.specs.Prelude.{ℕ, ◌-◌, ◌==◌, nat_lt, ◌||◌, ℤ, pos, Bool, true, false, List, [], ◌∷◌, ◌++◌, map, get_or, if◌then◌else◌, Option, Some, None, slice_get}
use Rattle.pa_ctype.specs.Types.{TypeTree, Of, FormTree, Pointer}
use Rattle.pa_ctype.specs.Values as value
use Rattle.pa_ctype.specs.Values.{Owner, Place, CValue, Null, Cell, cells_in}
use Rattle.pa_typed.specs.Typed.{TypedExpr, TypedGiven, GivenValue, GivenText, TypedInitial, TypedLocalInit, TypedForStart, Declares, Evaluates, TypedStmt, TypedStmts, Compound, InitLocal, Expression, If, IfElse, While, DoWhile, For, Switch, Case, Default, Break, Continue, Return, NoTStmts, ConsTStmt}
use Rattle.pa_integer.specs.Integers.{same_int}
use Rattle.pa_cmean.specs.Results.{Meaning, undefined, given}
use Rattle.pa_typed.specs.Units.{ProgramTree}
use Rattle.pa_cmean.specs.Operations.{truth, nothing, converted, literal, bytes_of}
use Rattle.pa_cmean.specs.State.{State, Cont, Exits, Turn, Redo, Again, tick, turn, choose, initialised_at, onward, owner_of, born, closing}
use Rattle.pa_cmean.specs.Expressions.{eval}

-- ---- initializers (6.7.9)

-- what a cell gets: the value of an expression, a byte of a string literal, or zero (p14, p21)
pub data Source : Type 0 where
  FromValue : (value : TypedExpr) → Source
  FromByte : (byte : ℕ) → Source
  FromZero : Source

-- with the parts that are named behind it
pub record Next : Type 0 where
  pub source : Source
  pub rest : List TypedInitial

abbrev pub next_of : Source → List TypedInitial → Option Next
next_of source rest = Some (record { source = source; rest = rest })

-- A text reaches over all of its array: its bytes, and zeros behind them. A place behind it belongs to the parts that follow.
abbrev pub next_in_text : Option ℕ → Option (List ℕ) → ℕ → List TypedInitial → Option Next → Option Next
next_in_text (Some size) (Some bytes) offset here behind = if nat_lt offset size then next_of (FromByte (get_or bytes offset 0)) here else behind
next_in_text _ _ offset here behind = None

abbrev pub next_by : ProgramTree → TypedGiven → TypedInitial → List TypedInitial → ℕ → Option Next → Option Next
next_by program (GivenValue e) i is at behind = if i.at == at then next_of (FromValue e) is else None
next_by program (GivenText text) i is at behind = next_in_text (bytes_of program.structs i.of) (slice_get program.texts text) (at - i.at) (i ∷ is) behind

-- What the cell at a place gets. None: a part that is named is no cell, or its literal or size isn't there.
unfoldable pub next_source : ProgramTree → List TypedInitial → ℕ → Option Next
next_source program [] at = next_of FromZero []
next_source program (i ∷ is) at = if nat_lt at i.at then next_of FromZero (i ∷ is) else next_by program i.given i is at (next_source program is at)

-- no part is named behind the last cell
abbrev pub is_nothing : Source → List TypedInitial → Bool
is_nothing FromZero [] = true
is_nothing _ _ = false

abbrev pub is_last : Option Next → Bool
is_last None = false
is_last (Some next) = is_nothing next.source next.rest

abbrev pub zero_form : FormTree → CValue
zero_form (Pointer to schema) = Null
zero_form _ = value.Number (pos 0)

-- zero or null (6.7.9p10)
abbrev pub zero_of : TypeTree → CValue
zero_of (Of constant form) = zero_form form

-- ---- the labels of a switch (6.8.4.2)

-- where control enters its body
pub data Target : Type 0 where
  AtCase : (value : ℤ) → Target
  AtDefault : Target

abbrev pub case_number : Option CValue → Option ℤ
case_number (Some (value.Number n)) = Some n
case_number _ = None

abbrev pub is_number : Option ℤ → ℤ → Bool
is_number (Some n) m = same_int n m
is_number None m = false

abbrev pub is_case : Target → ℕ → TypeTree → Bool
is_case (AtCase n) value of = is_number (case_number (literal of value)) n
is_case AtDefault value of = false

abbrev pub is_default : Target → Bool
is_default AtDefault = true
is_default _ = false

-- the label stands at the statement, behind others perhaps
abbrev pub has_label : Target → TypedStmt → Bool
has_label target (Case value of body) = is_case target value of || has_label target body
has_label target (Default body) = is_default target || has_label target body
has_label target _ = false

-- the numbers of the cases of a switch, in the order of the source
abbrev pub stmt_cases : TypedStmt → List (Option ℤ)
stmt_cases (Case value of body) = case_number (literal of value) ∷ stmt_cases body
stmt_cases (Default body) = stmt_cases body
stmt_cases _ = []

abbrev pub item_cases : TypedStmts → List (Option ℤ)
item_cases NoTStmts = []
item_cases (ConsTStmt s ss) = stmt_cases s ++ item_cases ss

abbrev pub any_default : TypedStmts → Bool
any_default NoTStmts = false
any_default (ConsTStmt s ss) = has_label AtDefault s || any_default ss

abbrev pub cases_of : TypedStmt → List (Option ℤ)
cases_of (Compound items) = item_cases items
cases_of _ = []

abbrev pub has_default : TypedStmt → Bool
has_default (Compound items) = any_default items
has_default _ = false

-- The constants are evaluated in the order of the source up to the equal one; then control goes there, to the default label, or
-- behind the switch.
unfoldable pub select : ℤ → List (Option ℤ) → Bool → (Target → State → Meaning) → (State → Meaning) → State → Meaning
select n [] has_default go past = choose has_default (go AtDefault) past
select n (None ∷ cs) has_default go past = λ st. tick st (λ st. undefined)
select n (Some c ∷ cs) has_default go past = λ st. tick st (choose (same_int c n) (go (AtCase n)) (select n cs has_default go past))

unfoldable pub switch_on : CValue → List (Option ℤ) → Bool → (Target → State → Meaning) → (State → Meaning) → State → Meaning
switch_on (value.Number n) cases has_default go past = select n cases has_default go past
switch_on _ cases has_default go past = λ st. undefined

-- ---- blocks (6.8.2, 6.8.5p5)

abbrev pub local_of : TypedLocalInit → ℕ
local_of name = name.local

-- the locals that live from the entry of a block on (6.2.4p6)
abbrev pub stmt_locals : TypedStmt → List ℕ
stmt_locals (InitLocal name) = name.local ∷ []
stmt_locals _ = []

abbrev pub block_locals : TypedStmts → List ℕ
block_locals NoTStmts = []
block_locals (ConsTStmt s ss) = stmt_locals s ++ block_locals ss

abbrev pub start_locals : TypedForStart → List ℕ
start_locals (Declares names) = map local_of names
start_locals (Evaluates value) = []

unfoldable pub block : ProgramTree → List ℕ → (Exits → State → Meaning) → Exits → State → Meaning
block program locals inside x st = onward (born program.structs locals st.world) (inside (closing locals x)) st

-- ---- statements

-- the ways out of a loop's body
abbrev pub looping : (State → Meaning) → Exits → Exits
looping more x = record { next = more; leave = x.next; proceed = more; give = x.give }

module _ (program : ProgramTree) (again : Again) where
  -- a cell of an object gets its value, which is a unit of work behind the value's own
  abbrev pub give_cell : Owner → Cell → (State → Meaning) → Cont
  give_cell owner cell next v st = tick st (λ st. onward (initialised_at st.world (record { owner = owner; offset = cell.at }) cell.of v) next st)

  abbrev pub cell_given : Source → Owner → Cell → (State → Meaning) → State → Meaning
  cell_given (FromValue e) owner cell next st = eval program again None e (give_cell owner cell next) st
  cell_given (FromByte byte) owner cell next st = given (converted cell.of (value.Number (pos byte))) (λ v. give_cell owner cell next v st)
  cell_given FromZero owner cell next st = give_cell owner cell next (zero_of cell.of) st

  -- all cells of an object of so many bytes, ascending
  abbrev pub cell_next : Option Next → Owner → Cell → (List TypedInitial → State → Meaning) → State → Meaning
  cell_next None owner cell next st = undefined
  cell_next (Some n) owner cell next st = cell_given n.source owner cell (next n.rest) st

  unfoldable pub cells_given : List TypedInitial → Owner → List Cell → ℕ → (State → Meaning) → State → Meaning
  cells_given is owner [] size next = choose (is_last (next_source program is size)) next (λ st. undefined)
  cells_given is owner (cell ∷ cells) size next = cell_next (next_source program is cell.at) owner cell (λ is. cells_given is owner cells size next)

  -- the object of a local, which is of a type
  abbrev pub object_given : List TypedInitial → Owner → TypeTree → (State → Meaning) → State → Meaning
  object_given is owner of next st = given (bytes_of program.structs of) (λ size. cells_given is owner (cells_in program.structs of) size next st)

  abbrev pub given_initials : Option (List TypedInitial) → ℕ → (State → Meaning) → State → Meaning
  given_initials None local next st = next st
  given_initials (Some is) local next st = given (owner_of st.world local) (λ owner. given (slice_get st.world.here.locals local) (λ l. object_given is owner l.of next st))

  -- a declared name, a statement of its own
  unfoldable pub init_local : TypedLocalInit → (State → Meaning) → State → Meaning
  init_local name next st = tick st (given_initials name.initials name.local next)

  unfoldable pub init_locals : List TypedLocalInit → (State → Meaning) → State → Meaning
  init_locals [] next = next
  init_locals (name ∷ names) next = init_local name (init_locals names next)

  -- an expression that may be left out
  unfoldable pub evaluate : Option TypedExpr → (State → Meaning) → State → Meaning
  evaluate None next = next
  evaluate (Some e) next = eval program again None e (λ v. next)

  -- a test, true where it is left out (6.8.5.3p2)
  unfoldable pub test : Option TypedExpr → (State → Meaning) → (State → Meaning) → State → Meaning
  test None on_true on_false = on_true
  test (Some e) on_true on_false = eval program again None e (λ v. choose (truth v) on_true on_false)

  unfoldable pub begin_for : TypedForStart → (State → Meaning) → State → Meaning
  begin_for (Declares names) next = init_locals names next
  begin_for (Evaluates value) next = evaluate value next

  -- a turn of a loop: its test, its body, and its step (6.8.5)
  unfoldable pub loop : Option TypedExpr → (State → Meaning) → (Exits → State → Meaning) → Exits → State → Meaning
  loop condition more body x = test condition (turn (body (looping more x))) x.next

  unfoldable pub redo : (Exits → State → Meaning) → TypedExpr → (State → Meaning) → Exits → State → Meaning
  redo body condition more x = turn (body (looping (test (Some condition) more x.next) x))

  unfoldable mutual
    pub exec : TypedStmt → Exits → State → Meaning
    -- blocks (6.8.2) and expressions (6.8.3)
    exec (Compound items) x st = tick st (block program (block_locals items) (execs items) x)
    exec (InitLocal name) x st = init_local name x.next st
    exec (Expression value) x st = tick st (evaluate value x.next)
    -- selection (6.8.4)
    exec (If condition body) x st = tick st (test (Some condition) (exec body x) x.next)
    exec (IfElse condition when_true when_false) x st = tick st (test (Some condition) (exec when_true x) (exec when_false x))
    -- iteration (6.8.5)
    exec (While condition body) x st = tick st (loop (Some condition) (again (Turn (Some condition) None body) x) (exec body) x)
    exec (DoWhile body condition) x st = tick st (redo (exec body) condition (again (Redo body condition) x) x)
    exec (For start condition step body) x st = tick st (block program (start_locals start) (λ x. begin_for start (loop condition (evaluate step (again (Turn condition step body) x)) (exec body) x)) x)
    -- `switch` and its labels (6.8.4.2, 6.8.1); behind a label a statement goes on as it is
    exec (Switch value body) x st = tick st (eval program again None value (λ v. switch_on v (cases_of body) (has_default body) (λ target. enter_at target body (record x { leave = x.next })) x.next))
    exec (Case value of body) x st = tick st (exec body x)
    exec (Default body) x st = tick st (exec body x)
    -- jumps (6.8.6)
    exec Break x st = tick st x.leave
    exec Continue x st = tick st x.proceed
    exec (Return None) x st = tick st (x.give nothing)
    exec (Return (Some value)) x st = tick st (eval program again None value x.give)

    pub execs : TypedStmts → Exits → State → Meaning
    execs NoTStmts x = x.next
    execs (ConsTStmt s ss) x = exec s (record x { next = execs ss x })

    -- the body of a switch from a label on: the compound begins, then the labelled statement
    pub enter_at : Target → TypedStmt → Exits → State → Meaning
    enter_at target (Compound items) x st = tick st (block program (block_locals items) (execs_from target items) x)
    enter_at target (Case value of body) x st = choose (is_case target value of) (λ st. tick st (exec body x)) (enter_at target body x) st
    enter_at target (Default body) x st = choose (is_default target) (λ st. tick st (exec body x)) (enter_at target body x) st
    enter_at target _ x st = undefined

    pub execs_from : Target → TypedStmts → Exits → State → Meaning
    execs_from target NoTStmts x = λ st. undefined
    execs_from target (ConsTStmt s ss) x = choose (has_label target s) (enter_at target s (record x { next = execs ss x })) (execs_from target ss x)
