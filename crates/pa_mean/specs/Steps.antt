-- The steps of a run. None looks below the first that waits, and none but those of blocks and calls takes more than a bounded time.
use Rattle.std.specs.Prelude.{ℕ, zero, suc, ℤ, pos, negsuc, Bool, true, false, List, [], ◌∷◌, Option, Some, None, if◌then◌else◌, slice_get}
use Rattle.std.specs.Str.{bytes_eq}
use Rattle.pa_pac.specs.declared.schema.Schema.{Schema}
use Rattle.pa_ctype.specs.Types.{TypeTree}
use Rattle.pa_ctype.specs.Equality.{same_but_const}
use Rattle.pa_ctype.specs.Traces.{Load, Call}
use Rattle.pa_ctype.specs.Values as value
use Rattle.pa_ctype.specs.Values.{Owner, Global, Text, Place, CValue, At, Code, Cell, cells_in}
use Rattle.pa_integer.specs.Integers.{residue, is_in_range, same_int}
use Rattle.pa_typed.specs.Typed.{TypedExpr, TypedExprs, LocalPlace, GlobalPlace, StringPlace, Same, Member, Index, Deref, Number, Load as LoadExpr, LoadSigned, Store, StoreSigned, AddressOf, FunctionValue, Convert, Unary, Binary, PointerAdd, PointerSub, Compare, And, Or, Choose, Comma, CallDirect, CallPointer, NoTExprs, ConsTExpr, TypedInitial, TypedForStart, Declares, Evaluates, TypedStmt, TypedStmts, Compound, InitLocal, Expression, If, IfElse, While, DoWhile, For, Switch, Case, Default, Break, Continue, Return, NoTStmts, ConsTStmt}
use Rattle.pa_typed.specs.Units.{FunctionTree, ProgramTree, function_named}
use Rattle.pa_cmean.specs.Results.{End, Done, Stop, Undefined}
use Rattle.pa_cmean.specs.Operations.{truth, of_truth, nothing, converted, literal, unary, binary, moved, bytes_of, stepped, opposite, pointee, pointed, difference, compared}
use Rattle.pa_cmean.specs.ExprTypes.{type_of}
use Rattle.pa_cmean.specs.State.{State, start, place_of, value_at, stored, initialised_at, owner_of, born, entering, left_behind, after_death}
use Rattle.pa_cmean.specs.Calls.{putchar, getchar, main, gives_nothing, function_type, under_of, is_plain}
use Rattle.pa_cmean.specs.Expressions.{noted}
use Rattle.pa_cmean.specs.Statements.{Source, FromValue, FromByte, FromZero, next_source, is_last, zero_of, AtCase, AtDefault, Target, is_case, is_default, has_label, item_cases, any_default, block_locals, start_locals}
use Rattle.pa_mean.specs.Frames.{Callee, Named, Through, Cells, Frame, Now, Machine, Step}
use Rattle.pa_mean.specs.Frames as f
use Rattle.std.specs.Option.{option_map, option_and_then}

-- what is done next
abbrev pub goes : Now → List Frame → State → Step
goes now frames st = record { fronts = []; machine = record { now = now; frames = frames; state = st } }

abbrev pub ends_at : End → State → Step
ends_at end st = goes (f.Ended end) [] st

abbrev pub behind : f.Front → Step → Step
behind front s = record s { fronts = front ∷ s.fronts }

-- a unit of work, or the end where none is left
abbrev pub ticked_step : ℕ → State → (ℕ → Step) → Step
ticked_step zero st go = ends_at Stop st
ticked_step (suc n) st go = behind f.Worked (go n)

unfoldable pub tick_step : State → (State → Step) → Step
tick_step st go = ticked_step st.left st (λ n. go (record st { left = n }))

-- a turn, where a unit of work is left for it
unfoldable pub turn_step : ℕ → State → Step → Step
turn_step zero st s = ends_at Stop st
turn_step (suc n) st s = behind f.Turned s

-- undefined where there is none
unfoldable pub given_step : {A : Type 0} → Option A → State → (A → Step) → Step
given_step None st go = ends_at Undefined st
given_step (Some a) st go = go a

abbrev pub value_step : Option CValue → List Frame → State → Step
value_step v ws st = given_step v st (λ v. goes (f.Gave v) ws st)

-- values in front of others, where the last one stands first
abbrev pub onto : List CValue → List CValue → List CValue
onto [] vs = vs
onto (v ∷ before) vs = onto before (v ∷ vs)

-- ---- expressions

-- an expression, behind its unit of work
abbrev pub begin : Option Place → TypedExpr → List Frame → State → Step
begin same (LocalPlace local of) ws st = given_step (owner_of st.world local) st (λ owner. goes (f.Gave (At (start owner))) ws st)
begin same (GlobalPlace name place of) ws st = goes (f.Gave (At (start (Global name)))) ws st
begin same (StringPlace text of) ws st = goes (f.Gave (At (start (Text text)))) ws st
begin same (Same of) ws st = given_step same st (λ place. goes (f.Gave (At place)) ws st)
begin same (Member owner index offset of) ws st = goes (f.Eval same owner) (f.Moves offset ∷ ws) st
begin same (Index left right pointer_left of) ws st = goes (f.Eval same left) (f.AddRight same right pointer_left false (Some of) ∷ ws) st
begin same (Deref pointer of) ws st = goes (f.Eval same pointer) (f.Points ∷ ws) st
begin same (Number value of) ws st = value_step (literal of value) ws st
begin same (LoadExpr from of) ws st = goes (f.Eval same from) (f.Loads (type_of from) ∷ ws) st
begin same (LoadSigned from schema of) ws st = goes (f.Eval same from) (f.LoadsSigned schema (type_of from) ∷ ws) st
begin same (Store to value old of) ws st = goes (f.Eval same to) (f.StoreRight value old (type_of to) ∷ ws) st
begin same (StoreSigned to value old schema of) ws st = goes (f.Eval same to) (f.StoreRight value old (type_of to) ∷ ws) st
begin same (AddressOf at of) ws st = goes (f.Eval same at) ws st
begin same (FunctionValue name place of) ws st = goes (f.Gave (Code name)) ws st
begin same (Convert value of) ws st = goes (f.Eval same value) (f.Converts of ∷ ws) st
begin same (Unary op value of) ws st = goes (f.Eval same value) (f.Applies op of ∷ ws) st
begin same (Binary op left right of) ws st = goes (f.Eval same left) (f.CombineRight same op right of ∷ ws) st
begin same (PointerAdd left right pointer_left subtracts of) ws st = goes (f.Eval same left) (f.AddRight same right pointer_left subtracts (pointee of) ∷ ws) st
begin same (PointerSub left right of) ws st = goes (f.Eval same left) (f.SubtractRight same right (pointee (type_of left)) ∷ ws) st
begin same (Compare op left right of) ws st = goes (f.Eval same left) (f.CompareRight same op right ∷ ws) st
begin same (And left right of) ws st = goes (f.Eval same left) (f.AndRight same right ∷ ws) st
begin same (Or left right of) ws st = goes (f.Eval same left) (f.OrRight same right ∷ ws) st
begin same (Choose test when_true when_false of) ws st = goes (f.Eval same test) (f.Chooses same when_true when_false ∷ ws) st
begin same (Comma first second of) ws st = goes (f.Eval same first) (f.Second same second ∷ ws) st
begin same (CallDirect name place arguments of) ws st = goes (f.Evals same (Named name) [] arguments) ws st
begin same (CallPointer arguments function of) ws st = goes (f.Evals same (Through function) [] arguments) ws st

-- the next argument, or the call behind the last one
abbrev pub arguments_step : Option Place → Callee → List CValue → TypedExprs → List Frame → State → Step
arguments_step same (Named name) before NoTExprs ws st = goes (f.Called name (onto before [])) ws st
arguments_step same (Through function) before NoTExprs ws st = goes (f.Eval same function) (f.CallsThrough function (onto before []) ∷ ws) st
arguments_step same callee before (ConsTExpr e es) ws st = goes (f.Eval same e) (f.Argument same callee before es ∷ ws) st

-- a load of a function's pointer under a schema of its own shows
abbrev pub show_load : Schema → Place → CValue → Step → Step
show_load schema place (Code name) s = if is_plain schema then s else behind (f.Shown (Load schema place name)) s
show_load schema place _ s = s

-- ---- statements

abbrev pub block_step : ProgramTree → List ℕ → Now → List Frame → State → Step
block_step program locals now ws st = given_step (born program.structs locals st.world) st (λ w. goes now (f.Closes locals ∷ ws) (record st { world = w }))

-- the object of a declared name, behind its unit of work
abbrev pub local_step : ProgramTree → Option (List TypedInitial) → ℕ → List Frame → State → Step
local_step program None local ws st = goes f.Next ws st
local_step program (Some is) local ws st =
    given_step (owner_of st.world local) st (λ owner. given_step (slice_get st.world.here.locals local) st (λ l. given_step (bytes_of program.structs l.of) st
    (λ size. goes (f.GiveCells (record { initials = is; owner = owner; cells = cells_in program.structs l.of; size = size })) ws st)))

abbrev pub for_step : TypedForStart → Option TypedExpr → Option TypedExpr → TypedStmt → List Frame → State → Step
for_step (Declares names) test step body ws st = goes (f.Initialise names) (f.Loops test step body ∷ ws) st
for_step (Evaluates None) test step body ws st = goes (f.Loop test step body) ws st
for_step (Evaluates (Some e)) test step body ws st = goes (f.Eval None e) (f.Discards ∷ f.Loops test step body ∷ ws) st

-- a statement, behind its unit of work
abbrev pub begin_stmt : ProgramTree → TypedStmt → List Frame → State → Step
begin_stmt program (Compound items) ws st = block_step program (block_locals items) (f.Execs items) ws st
begin_stmt program (InitLocal name) ws st = local_step program name.initials name.local ws st
begin_stmt program (Expression None) ws st = goes f.Next ws st
begin_stmt program (Expression (Some e)) ws st = goes (f.Eval None e) (f.Discards ∷ ws) st
begin_stmt program (If test body) ws st = goes (f.Eval None test) (f.Tests body ∷ ws) st
begin_stmt program (IfElse test when_true when_false) ws st = goes (f.Eval None test) (f.Divides when_true when_false ∷ ws) st
begin_stmt program (While test body) ws st = goes (f.Loop (Some test) None body) ws st
begin_stmt program (DoWhile body test) ws st = goes (f.Redo body test) ws st
begin_stmt program (For start test step body) ws st =
    given_step (born program.structs (start_locals start) st.world) st (λ w. for_step start test step body (f.Closes (start_locals start) ∷ ws) (record st { world = w }))
begin_stmt program (Switch value body) ws st = goes (f.Eval None value) (f.Switches body ∷ ws) st
begin_stmt program (Case value of body) ws st = goes (f.Exec body) ws st
begin_stmt program (Default body) ws st = goes (f.Exec body) ws st
begin_stmt program Break ws st = goes f.Leave ws st
begin_stmt program Continue ws st = goes f.Proceed ws st
begin_stmt program (Return None) ws st = goes (f.Give nothing) ws st
begin_stmt program (Return (Some e)) ws st = goes (f.Eval None e) (f.Gives ∷ ws) st

abbrev pub source_step : Source → Cell → Cells → List Frame → State → Step
source_step (FromValue e) cell rest ws st = goes (f.Eval None e) (f.CellValue cell rest ∷ ws) st
source_step (FromByte byte) cell rest ws st = given_step (converted cell.of (value.Number (pos byte))) st (λ v. goes (f.GiveCell v cell rest) ws st)
source_step FromZero cell rest ws st = goes (f.GiveCell (zero_of cell.of) cell rest) ws st

-- the next cell of a local object
abbrev pub cells_step : ProgramTree → List TypedInitial → Owner → List Cell → ℕ → List Frame → State → Step
cells_step program is owner [] size ws st = if is_last (next_source program is size) then goes f.Next ws st else ends_at Undefined st
cells_step program is owner (cell ∷ cells) size ws st =
    given_step (next_source program is cell.at) st (λ n. source_step n.source cell (record { initials = n.rest; owner = owner; cells = cells; size = size }) ws st)

-- the next case of a switch
abbrev pub select_step : ℤ → List (Option ℤ) → TypedStmts → List Frame → State → Step
select_step n [] items ws st = if any_default items then goes (f.Enter AtDefault items) (f.Breaks ∷ ws) st else goes f.Next ws st
select_step n (None ∷ cs) items ws st = tick_step st (λ st. ends_at Undefined st)
select_step n (Some c ∷ cs) items ws st = tick_step st (λ st. if same_int c n then goes (f.Enter (AtCase n) items) (f.Breaks ∷ ws) st else goes (f.Select n cs items) ws st)

-- the statement behind a label
abbrev pub behind_label : Target → TypedStmt → Option TypedStmt
behind_label target (Case value of body) = if is_case target value of then Some body else behind_label target body
behind_label target (Default body) = if is_default target then Some body else behind_label target body
behind_label target _ = None

-- it, and the statements behind it in its block
pub record Labelled : Type 0 where
  pub body : TypedStmt
  pub rest : TypedStmts

-- of these statements the first that has the label
abbrev pub labelled : Target → TypedStmts → Option Labelled
labelled target NoTStmts = None
labelled target (ConsTStmt s ss) = if has_label target s then option_map (λ body. record { body = body; rest = ss }) (behind_label target s) else labelled target ss

abbrev pub among_step : Target → TypedStmts → List Frame → State → Step
among_step target ss ws st = given_step (labelled target ss) st (λ l. tick_step st (λ st. goes (f.Exec l.body) (f.Then l.rest ∷ ws) st))

-- ---- calls

abbrev pub puts_step : List CValue → List Frame → State → Step
puts_step (value.Number n ∷ []) ws st =
    tick_step st (λ st. behind (f.Entered putchar st.world.here.depth) (behind (f.Printed (residue 8 n)) (goes (f.Gave (value.Number (pos (residue 8 n)))) ws st)))
puts_step _ ws st = ends_at Undefined st

abbrev pub byte_step : List ℕ → List Frame → State → Step
byte_step [] ws st = goes (f.Gave (value.Number (negsuc 0))) ws st
byte_step (byte ∷ bytes) ws st = goes (f.Gave (value.Number (pos byte))) ws (record st { world = record st.world { input = bytes } })

abbrev pub gets_step : List CValue → List Frame → State → Step
gets_step [] ws st = tick_step st (λ st. behind (f.Entered getchar st.world.here.depth) (byte_step st.world.input ws st))
gets_step _ ws st = ends_at Undefined st

abbrev pub enter_function : ProgramTree → FunctionTree → List CValue → List Frame → State → Step
enter_function program function vs ws st =
    given_step (entering program.structs function vs st.world) st
    (λ w. behind (f.Entered function.name w.here.depth) (goes (f.Exec function.body) (f.Returns function st.world.here ∷ ws) (record st { world = w })))

abbrev pub called_step : ProgramTree → Option FunctionTree → List ℕ → List CValue → List Frame → State → Step
called_step program None name vs ws st = if bytes_eq name putchar then puts_step vs ws st else if bytes_eq name getchar then gets_step vs ws st else ends_at Undefined st
called_step program (Some function) name vs ws st = tick_step st (enter_function program function vs ws)

-- a call by a pointer has to be of the function's own type (6.5.2.2p9)
abbrev pub is_called_as : Option TypeTree → Option TypeTree → Bool
is_called_as (Some a) (Some b) = same_but_const a b
is_called_as _ _ = false

abbrev pub through_step : ProgramTree → TypedExpr → List CValue → CValue → List Frame → State → Step
through_step program function vs (Code name) ws st =
    if is_called_as (pointee (type_of function)) (function_type program name) then behind (f.Shown (Call name (under_of function st.world))) (goes (f.Called name vs) ws st) else ends_at Undefined st
through_step program function vs _ ws st = ends_at Undefined st

-- ---- what waits

abbrev pub turn_behind : Option TypedExpr → Option TypedExpr → TypedStmt → List Frame → State → Step
turn_behind test None body ws st = goes (f.Loop test None body) ws st
turn_behind test (Some e) body ws st = goes (f.Eval None e) (f.Stepped test (Some e) body ∷ ws) st

-- to the labels of a switch's compound; any other body has none
abbrev pub switch_to : ℤ → TypedStmt → List Frame → State → Step
switch_to n (Compound items) ws st = goes (f.Select n (item_cases items) items) ws st
switch_to n _ ws st = goes f.Next ws st

abbrev pub switch_step : CValue → TypedStmt → List Frame → State → Step
switch_step (value.Number n) body ws st = switch_to n body ws st
switch_step _ body ws st = ends_at Undefined st

-- a value reaches what waits for it
abbrev pub give : ProgramTree → CValue → Frame → List Frame → State → Step
give program v (f.Moves offset) ws st = value_step (moved st.world.objects (pos offset) v) ws st
give program v f.Points ws st = value_step (pointed v) ws st
give program v (f.Loads of) ws st = value_step (value_at st.world of v) ws st
give program v (f.LoadsSigned schema of) ws st =
    given_step (place_of v) st (λ place. given_step (value_at st.world of v) st (λ u. show_load schema place u (goes (f.Gave u) ws (noted schema place st))))
give program v (f.StoreRight right old of) ws st = goes (f.Eval (place_of v) right) (f.Stores v old of ∷ ws) st
give program v (f.Stores at old of) ws st =
    given_step (if old then value_at st.world of at else Some v) st (λ result. given_step (stored st.world of at v) st (λ w. goes (f.Gave result) ws (record st { world = w })))
give program v (f.Converts of) ws st = value_step (converted of v) ws st
give program v (f.Applies op of) ws st = value_step (unary op of v) ws st
give program v (f.CombineRight same op right of) ws st = goes (f.Eval same right) (f.Combines op v of ∷ ws) st
give program v (f.Combines op left of) ws st = value_step (binary op of left v) ws st
give program v (f.AddRight same right pointer_left subtracts element) ws st = goes (f.Eval same right) (f.Adds v pointer_left subtracts element ∷ ws) st
give program v (f.Adds left pointer_left subtracts element) ws st =
    given_step element st (λ e. value_step (if pointer_left then stepped program.structs st.world.objects e left (opposite subtracts v) else stepped program.structs st.world.objects e v left) ws st)
give program v (f.SubtractRight same right element) ws st = goes (f.Eval same right) (f.Subtracts v element ∷ ws) st
give program v (f.Subtracts left element) ws st = value_step (option_and_then (λ size. difference size left v) (option_and_then (bytes_of program.structs) element)) ws st
give program v (f.CompareRight same op right) ws st = goes (f.Eval same right) (f.Compares op v ∷ ws) st
give program v (f.Compares op left) ws st = value_step (compared st.world.objects op left v) ws st
give program v (f.AndRight same right) ws st = if truth v then goes (f.Eval same right) (f.Truth ∷ ws) st else goes (f.Gave (of_truth false)) ws st
give program v (f.OrRight same right) ws st = if truth v then goes (f.Gave (of_truth true)) ws st else goes (f.Eval same right) (f.Truth ∷ ws) st
give program v f.Truth ws st = goes (f.Gave (of_truth (truth v))) ws st
give program v (f.Chooses same when_true when_false) ws st = if truth v then goes (f.Eval same when_true) ws st else goes (f.Eval same when_false) ws st
give program v (f.Second same second) ws st = goes (f.Eval same second) ws st
give program v (f.Argument same callee before rest) ws st = goes (f.Evals same callee (v ∷ before) rest) ws st
give program v (f.CallsThrough function vs) ws st = through_step program function vs v ws st
give program v f.Discards ws st = goes f.Next ws st
give program v (f.Tests body) ws st = if truth v then goes (f.Exec body) ws st else goes f.Next ws st
give program v (f.Divides when_true when_false) ws st = if truth v then goes (f.Exec when_true) ws st else goes (f.Exec when_false) ws st
give program v (f.TurnTest test step body) ws st = if truth v then turn_step st.left st (goes (f.Exec body) (f.Turns (Some test) step body ∷ ws) st) else goes f.Next ws st
give program v (f.Stepped test step body) ws st = goes (f.Loop test step body) ws st
give program v (f.RedoTest body test) ws st = if truth v then goes (f.Redo body test) ws st else goes f.Next ws st
give program v (f.Switches body) ws st = switch_step v body ws st
give program v f.Gives ws st = goes (f.Give v) ws st
give program v (f.CellValue cell rest) ws st = goes (f.GiveCell v cell rest) ws st
give program v _ ws st = ends_at Undefined st

-- a statement ends
abbrev pub next : Frame → List Frame → State → Step
next (f.Then rest) ws st = goes (f.Execs rest) ws st
next (f.Closes locals) ws st = goes f.Next ws (after_death locals st)
next (f.Initialises names) ws st = goes (f.Initialise names) ws st
next (f.Loops test step body) ws st = goes (f.Loop test step body) ws st
next (f.Turns test step body) ws st = turn_behind test step body ws st
next (f.Redoes body test) ws st = goes (f.Eval None test) (f.RedoTest body test ∷ ws) st
next f.Breaks ws st = goes f.Next ws st
next (f.Returns function caller) ws st =
    if gives_nothing function.of then goes (f.Gave nothing) ws (left_behind function caller st)
    else if bytes_eq function.name main then goes (f.Gave (value.Number (pos 0))) ws (left_behind function caller st) else ends_at Undefined st
next _ ws st = ends_at Undefined st

-- `break`
abbrev pub leave : Frame → List Frame → State → Step
leave (f.Then rest) ws st = goes f.Leave ws st
leave (f.Closes locals) ws st = goes f.Leave ws (after_death locals st)
leave (f.Initialises names) ws st = goes f.Leave ws st
leave (f.Loops test step body) ws st = goes f.Leave ws st
leave (f.Turns test step body) ws st = goes f.Next ws st
leave (f.Redoes body test) ws st = goes f.Next ws st
leave f.Breaks ws st = goes f.Next ws st
leave _ ws st = ends_at Undefined st

-- `continue`
abbrev pub proceed : Frame → List Frame → State → Step
proceed (f.Then rest) ws st = goes f.Proceed ws st
proceed (f.Closes locals) ws st = goes f.Proceed ws (after_death locals st)
proceed (f.Initialises names) ws st = goes f.Proceed ws st
proceed (f.Loops test step body) ws st = goes f.Proceed ws st
proceed (f.Turns test step body) ws st = turn_behind test step body ws st
proceed (f.Redoes body test) ws st = goes (f.Eval None test) (f.RedoTest body test ∷ ws) st
proceed f.Breaks ws st = goes f.Proceed ws st
proceed _ ws st = ends_at Undefined st

-- `return`
abbrev pub give_back : CValue → Frame → List Frame → State → Step
give_back v (f.Then rest) ws st = goes (f.Give v) ws st
give_back v (f.Closes locals) ws st = goes (f.Give v) ws (after_death locals st)
give_back v (f.Initialises names) ws st = goes (f.Give v) ws st
give_back v (f.Loops test step body) ws st = goes (f.Give v) ws st
give_back v (f.Turns test step body) ws st = goes (f.Give v) ws st
give_back v (f.Redoes body test) ws st = goes (f.Give v) ws st
give_back v f.Breaks ws st = goes (f.Give v) ws st
give_back v (f.Returns function caller) ws st = goes (f.Gave v) ws (left_behind function caller st)
give_back v _ ws st = ends_at Undefined st

-- the value of `main`
abbrev pub status_step : CValue → State → Step
status_step (value.Number n) st = if is_in_range 32 true n then ends_at (Done n) st else ends_at Undefined st
status_step _ st = ends_at Undefined st

-- the first that waits, or the end
abbrev pub first_waiting : (Frame → List Frame → State → Step) → (State → Step) → List Frame → State → Step
first_waiting to end [] st = end st
first_waiting to end (w ∷ ws) st = to w ws st

-- ---- a step

abbrev pub step_of : ProgramTree → Now → List Frame → State → Step
step_of program (f.Eval same e) ws st = tick_step st (begin same e ws)
step_of program (f.Gave v) ws st = first_waiting (give program v) (status_step v) ws st
step_of program (f.Evals same callee before rest) ws st = arguments_step same callee before rest ws st
step_of program (f.Called name vs) ws st = called_step program (function_named program.functions name) name vs ws st
step_of program (f.Exec s) ws st = tick_step st (begin_stmt program s ws)
step_of program (f.Execs NoTStmts) ws st = goes f.Next ws st
step_of program (f.Execs (ConsTStmt s ss)) ws st = goes (f.Exec s) (f.Then ss ∷ ws) st
step_of program (f.Initialise []) ws st = goes f.Next ws st
step_of program (f.Initialise (name ∷ names)) ws st = tick_step st (local_step program name.initials name.local (f.Initialises names ∷ ws))
step_of program (f.GiveCells cs) ws st = cells_step program cs.initials cs.owner cs.cells cs.size ws st
step_of program (f.GiveCell v cell rest) ws st =
    tick_step st (λ st. given_step (initialised_at st.world (record { owner = rest.owner; offset = cell.at }) cell.of v) st (λ w. goes (f.GiveCells rest) ws (record st { world = w })))
step_of program (f.Loop None step body) ws st = turn_step st.left st (goes (f.Exec body) (f.Turns None step body ∷ ws) st)
step_of program (f.Loop (Some test) step body) ws st = goes (f.Eval None test) (f.TurnTest test step body ∷ ws) st
step_of program (f.Redo body test) ws st = turn_step st.left st (goes (f.Exec body) (f.Redoes body test ∷ ws) st)
step_of program (f.Select n cases items) ws st = select_step n cases items ws st
step_of program (f.Enter target items) ws st = tick_step st (block_step program (block_locals items) (f.EnterAmong target items) ws)
step_of program (f.EnterAmong target ss) ws st = among_step target ss ws st
step_of program f.Next ws st = first_waiting next (ends_at Undefined) ws st
step_of program f.Leave ws st = first_waiting leave (ends_at Undefined) ws st
step_of program f.Proceed ws st = first_waiting proceed (ends_at Undefined) ws st
step_of program (f.Give v) ws st = first_waiting (give_back v) (ends_at Undefined) ws st
step_of program (f.Ended end) ws st = goes (f.Ended end) ws st

unfoldable pub step : ProgramTree → Machine → Step
step program m = step_of program m.now m.frames m.state
