-- Each step lowers the rank, so a run ends, and the steps that it takes are in proportion to its work.
use Rattle.std.proofs.Common.{◌≡◌, ◌≤◌, ◌<◌, ℕ, zero, suc, ◌+◌, ◌*◌, Bool, true, false, if◌then◌else◌, length, List, [], ◌∷◌, Option, Some, None, refl, ap, arith, inl, inr}
use Rattle.std.specs.Prelude.{ℤ, pos, ◌⊎◌}
use Rattle.pa_ctype.specs.Values as value
use Rattle.pa_ctype.specs.Values.{Owner, Place, CValue, At, Code, Null, Cell, Objects}
use Rattle.pa_typed.specs.Typed.{TypedExpr, TypedExprs, LocalPlace, GlobalPlace, StringPlace, Same, Member, Index, Deref, Number, Load, LoadSigned, Store, StoreSigned, AddressOf, FunctionValue, Convert, Unary, Binary, PointerAdd, PointerSub, Compare, And, Or, Choose, Comma, CallDirect, CallPointer, NoTExprs, ConsTExpr, TypedInitial, TypedForStart, Declares, Evaluates, TypedStmt, TypedStmts, Compound, InitLocal, Expression, If, IfElse, While, DoWhile, For, Switch, Case, Default, Break, Continue, Return, NoTStmts, ConsTStmt}
use Rattle.pa_typed.specs.Units.{FunctionTree, ProgramTree, function_named}
use Rattle.pa_cmean.specs.Results.{End, Done, Undefined, ends}
use Rattle.pa_cmean.specs.Calls.{putchar, getchar, main, gives_nothing, under_of}
use Rattle.pa_cmean.specs.Operations.{nothing, of_truth}
use Rattle.pa_cmean.specs.Expressions.{noted}
use Rattle.std.specs.Str.{bytes_eq}
use Rattle.pa_ctype.specs.Traces.{Call}
use Rattle.pa_cmean.specs.State.{State, left_behind}
use Rattle.pa_cmean.specs.Statements.{Source, FromValue, FromByte, FromZero, AtCase, AtDefault, Target}
use Rattle.pa_cmean.specs.Statics.{statics}
use Rattle.pa_cmean.specs.Mean.{mean}
use Rattle.pa_mean.specs.Frames.{Callee, Named, Through, Cells, Frame, Now, Machine, Step}
use Rattle.pa_mean.specs.Frames as f
use Rattle.pa_mean.specs.Steps.{goes, ends_at, behind, ticked_step, tick_step, turn_step, given_step, value_step, begin, arguments_step, show_load, block_step, local_step, for_step, begin_stmt, source_step, cells_step, select_step, among_step, puts_step, byte_step, gets_step, called_step, through_step, turn_behind, switch_to, switch_step, give, next, leave, proceed, give_back, status_step, step_of, step}
use Rattle.pa_mean.specs.Meanings.{ahead}
use Rattle.pa_mean.specs.Runs.{at_first, steps}
use Rattle.pa_mean.specs.Costs.{is_going, effort, rank}
use Rattle.pa_mean.proofs.Runs.{mean_by_steps}

given_below : {A : Type 0} (o : Option A) (st : State) (to : A → Step) (r : ℕ) → 40 * st.left < r → ((a : A) → rank (to a).machine < r) → rank (given_step o st to).machine < r
unfolding given_step
given_below None st to r l h = omega arith
given_below (Some a) st to r l h = h a

if_below : (b : Bool) (s t : Step) (r : ℕ) → rank s.machine < r → rank t.machine < r → rank (if b then s else t).machine < r
if_below true s t r h k = h
if_below false s t r h k = k

tick_below : (st : State) (to : State → Step) (r : ℕ) → 40 * st.left < r → ((n : ℕ) → 40 * n + 40 ≤ 40 * st.left → rank (to (record st { left = n })).machine < r) → rank (tick_step st to).machine < r
unfolding tick_step
tick_below st to r l h = by_left st.left refl
  where
    by_left : (k : ℕ) → k ≡ st.left → rank (ticked_step k st (λ n. to (record st { left = n }))).machine < r
    by_left zero e = omega arith
    by_left (suc n) e = h n (omega arith)

turn_below : (st : State) (s : Step) (r : ℕ) → 40 * st.left < r → rank s.machine < r → rank (turn_step st.left st s).machine < r
unfolding turn_step
turn_below st s r l h = by_left st.left
  where
    by_left : (k : ℕ) → rank (turn_step k st s).machine < r
    by_left zero = omega arith
    by_left (suc n) = h

value_below : (v : Option CValue) (ws : List Frame) (st : State) (r : ℕ) → 40 * st.left + (10 * length ws + 4) < r → rank (value_step v ws st).machine < r
value_below v ws st r h = given_below v st _ r (omega arith) (λ u. omega arith)

-- ---- expressions

begin_below : (same : Option Place) (e : TypedExpr) (ws : List Frame) (st : State) (r : ℕ) → 40 * st.left + (10 * length ws + 13) < r → rank (begin same e ws st).machine < r
begin_below same (LocalPlace local of) ws st r h = given_below _ st _ r (omega arith) (λ owner. omega arith)
begin_below same (GlobalPlace name place of) ws st r h = omega arith
begin_below same (StringPlace text of) ws st r h = omega arith
begin_below same (Same of) ws st r h = given_below same st _ r (omega arith) (λ place. omega arith)
begin_below same (Member owner index offset of) ws st r h = omega arith
begin_below same (Index left right pointer_left of) ws st r h = omega arith
begin_below same (Deref pointer of) ws st r h = omega arith
begin_below same (Number value of) ws st r h = value_below _ ws st r (omega arith)
begin_below same (Load from of) ws st r h = omega arith
begin_below same (LoadSigned from schema of) ws st r h = omega arith
begin_below same (Store to value old of) ws st r h = omega arith
begin_below same (StoreSigned to value old schema of) ws st r h = omega arith
begin_below same (AddressOf at of) ws st r h = omega arith
begin_below same (FunctionValue name place of) ws st r h = omega arith
begin_below same (Convert value of) ws st r h = omega arith
begin_below same (Unary op value of) ws st r h = omega arith
begin_below same (Binary op left right of) ws st r h = omega arith
begin_below same (PointerAdd left right pointer_left subtracts of) ws st r h = omega arith
begin_below same (PointerSub left right of) ws st r h = omega arith
begin_below same (Compare op left right of) ws st r h = omega arith
begin_below same (And left right of) ws st r h = omega arith
begin_below same (Or left right of) ws st r h = omega arith
begin_below same (Choose test when_true when_false of) ws st r h = omega arith
begin_below same (Comma first second of) ws st r h = omega arith
begin_below same (CallDirect name place arguments of) ws st r h = omega arith
begin_below same (CallPointer arguments function of) ws st r h = omega arith

arguments_below : (same : Option Place) (callee : Callee) (before : List CValue) (rest : TypedExprs) (ws : List Frame) (st : State) → rank (arguments_step same callee before rest ws st).machine < 40 * st.left + (10 * length ws + 12)
arguments_below same (Named name) before NoTExprs ws st = omega arith
arguments_below same (Through function) before NoTExprs ws st = omega arith
arguments_below same (Named name) before (ConsTExpr e es) ws st = omega arith
arguments_below same (Through function) before (ConsTExpr e es) ws st = omega arith

-- ---- statements

module _ (program : ProgramTree) where
  block_below : (locals : List ℕ) (now : Now) (ws : List Frame) (st : State) (r : ℕ) → 40 * st.left + (10 * length ws + (10 + effort now)) < r → rank (block_step program locals now ws st).machine < r
  block_below locals now ws st r h = given_below _ st _ r (omega arith) (λ w. omega arith)

  local_below : (initials : Option (List TypedInitial)) (local : ℕ) (ws : List Frame) (st : State) (r : ℕ) → 40 * st.left + (10 * length ws + 13) < r → rank (local_step program initials local ws st).machine < r
  local_below None local ws st r h = omega arith
  local_below (Some is) local ws st r h = given_below _ st _ r (omega arith) (λ owner. given_below _ st _ r (omega arith) (λ l. given_below _ st _ r (omega arith) (λ size. omega arith)))

  for_below : (start : TypedForStart) (test : Option TypedExpr) (after_body : Option TypedExpr) (body : TypedStmt) (ws : List Frame) (st : State) (r : ℕ) → 40 * st.left + (10 * length ws + 23) < r → rank (for_step start test after_body body ws st).machine < r
  for_below (Declares names) test after_body body ws st r h = omega arith
  for_below (Evaluates None) test after_body body ws st r h = omega arith
  for_below (Evaluates (Some e)) test after_body body ws st r h = omega arith

  begin_stmt_below : (s : TypedStmt) (ws : List Frame) (st : State) (r : ℕ) → 40 * st.left + (10 * length ws + 34) < r → rank (begin_stmt program s ws st).machine < r
  begin_stmt_below (Compound items) ws st r h = block_below _ (f.Execs items) ws st r (omega arith)
  begin_stmt_below (InitLocal name) ws st r h = local_below name.initials name.local ws st r (omega arith)
  begin_stmt_below (Expression None) ws st r h = omega arith
  begin_stmt_below (Expression (Some e)) ws st r h = omega arith
  begin_stmt_below (If test body) ws st r h = omega arith
  begin_stmt_below (IfElse test when_true when_false) ws st r h = omega arith
  begin_stmt_below (While test body) ws st r h = omega arith
  begin_stmt_below (DoWhile body test) ws st r h = omega arith
  begin_stmt_below (For start test after_body body) ws st r h = given_below _ st _ r (omega arith) (λ w. for_below start test after_body body _ (record st { world = w }) r (omega arith))
  begin_stmt_below (Switch value body) ws st r h = omega arith
  begin_stmt_below (Case value of body) ws st r h = omega arith
  begin_stmt_below (Default body) ws st r h = omega arith
  begin_stmt_below Break ws st r h = omega arith
  begin_stmt_below Continue ws st r h = omega arith
  begin_stmt_below (Return None) ws st r h = omega arith
  begin_stmt_below (Return (Some e)) ws st r h = omega arith

  source_below : (source : Source) (cell : Cell) (rest : Cells) (ws : List Frame) (st : State) (r : ℕ) → 40 * st.left + (10 * length ws + 11) < r → rank (source_step source cell rest ws st).machine < r
  source_below (FromValue e) cell rest ws st r h = omega arith
  source_below (FromByte byte) cell rest ws st r h = given_below _ st _ r (omega arith) (λ v. omega arith)
  source_below FromZero cell rest ws st r h = omega arith

  cells_below : (is : List TypedInitial) (owner : Owner) (cells : List Cell) (size : ℕ) (ws : List Frame) (st : State) → rank (cells_step program is owner cells size ws st).machine < 40 * st.left + (10 * length ws + 12)
  cells_below is owner [] size ws st = if_below _ (goes f.Next ws st) (ends_at Undefined st) _ (omega arith) (omega arith)
  cells_below is owner (cell ∷ cells) size ws st = given_below _ st _ _ (omega arith) (λ n. source_below n.source cell _ ws st _ (omega arith))

  select_below : (n : ℤ) (cases : List (Option ℤ)) (items : TypedStmts) (ws : List Frame) (st : State) → rank (select_step n cases items ws st).machine < 40 * st.left + (10 * length ws + 12)
  select_below n [] items ws st = if_below _ (goes (f.Enter AtDefault items) (f.Breaks ∷ ws) st) (goes f.Next ws st) _ (omega arith) (omega arith)
  select_below n (None ∷ cs) items ws st = tick_below st _ _ (omega arith) (λ left h. omega arith)
  select_below n (Some c ∷ cs) items ws st = tick_below st _ _ (omega arith) (λ left h. if_below _ (goes (f.Enter (AtCase n) items) (f.Breaks ∷ ws) (record st { left = left })) (goes (f.Select n cs items) ws (record st { left = left })) _ (omega arith) (omega arith))

  among_below : (target : Target) (ss : TypedStmts) (ws : List Frame) (st : State) → rank (among_step target ss ws st).machine < 40 * st.left + (10 * length ws + 1)
  among_below target ss ws st = given_below _ st _ _ (omega arith) (λ l. tick_below st _ _ (omega arith) (λ n h. omega arith))

  -- ---- calls

  puts_below : (vs : List CValue) (ws : List Frame) (st : State) → rank (puts_step vs ws st).machine < 40 * st.left + (10 * length ws + 1)
  puts_below [] ws st = omega arith
  puts_below (value.Number n ∷ []) ws st = tick_below st _ _ (omega arith) (λ left h. omega arith)
  puts_below (value.Number n ∷ v ∷ vs) ws st = omega arith
  puts_below (At place ∷ vs) ws st = omega arith
  puts_below (Code name ∷ vs) ws st = omega arith
  puts_below (Null ∷ vs) ws st = omega arith

  byte_below : (bytes : List ℕ) (ws : List Frame) (st : State) (r : ℕ) → 40 * st.left + (10 * length ws + 4) < r → rank (byte_step bytes ws st).machine < r
  byte_below [] ws st r h = omega arith
  byte_below (byte ∷ bytes) ws st r h = omega arith

  gets_below : (vs : List CValue) (ws : List Frame) (st : State) → rank (gets_step vs ws st).machine < 40 * st.left + (10 * length ws + 1)
  gets_below [] ws st = tick_below st _ _ (omega arith) (λ left h. byte_below st.world.input ws (record st { left = left }) _ (omega arith))
  gets_below (v ∷ vs) ws st = omega arith

  called_below : (o : Option FunctionTree) (name : List ℕ) (vs : List CValue) (ws : List Frame) (st : State) → rank (called_step program o name vs ws st).machine < 40 * st.left + (10 * length ws + 1)
  called_below None name vs ws st =
      let getting = if bytes_eq name getchar then gets_step vs ws st else ends_at Undefined st in
      if_below (bytes_eq name putchar) (puts_step vs ws st) getting _ (puts_below vs ws st) (if_below (bytes_eq name getchar) (gets_step vs ws st) (ends_at Undefined st) _ (gets_below vs ws st) (omega arith))
  called_below (Some function) name vs ws st = tick_below st _ _ (omega arith) (λ left h. given_below _ (record st { left = left }) _ _ (omega arith) (λ w. omega arith))

  through_below : (function : TypedExpr) (vs : List CValue) (v : CValue) (ws : List Frame) (st : State) (r : ℕ) → 40 * st.left + (10 * length ws + 4) < r → rank (through_step program function vs v ws st).machine < r
  through_below function vs (value.Number n) ws st r h = omega arith
  through_below function vs (At place) ws st r h = omega arith
  through_below function vs (Code name) ws st r h = if_below _ (behind (f.Shown (Call name (under_of function st.world))) (goes (f.Called name vs) ws st)) (ends_at Undefined st) r (omega arith) (omega arith)
  through_below function vs Null ws st r h = omega arith

  -- ---- what waits

  show_same : (schema : _) (place : Place) (u : CValue) (s : Step) (r : ℕ) → rank s.machine < r → rank (show_load schema place u s).machine < r
  show_same schema place (value.Number n) s r h = h
  show_same schema place (At p) s r h = h
  show_same schema place (Code name) s r h = if_below _ _ _ _ h h
  show_same schema place Null s r h = h

  switch_to_below : (n : ℤ) (body : TypedStmt) (ws : List Frame) (st : State) (r : ℕ) → 40 * st.left + (10 * length ws + 12) < r → rank (switch_to n body ws st).machine < r
  switch_to_below n (Compound items) ws st r h = omega arith
  switch_to_below n (InitLocal name) ws st r h = omega arith
  switch_to_below n (Expression value) ws st r h = omega arith
  switch_to_below n (If condition body) ws st r h = omega arith
  switch_to_below n (IfElse condition when_true when_false) ws st r h = omega arith
  switch_to_below n (While condition body) ws st r h = omega arith
  switch_to_below n (DoWhile body condition) ws st r h = omega arith
  switch_to_below n (For start condition after_body body) ws st r h = omega arith
  switch_to_below n (Switch value body) ws st r h = omega arith
  switch_to_below n (Case value of body) ws st r h = omega arith
  switch_to_below n (Default body) ws st r h = omega arith
  switch_to_below n Break ws st r h = omega arith
  switch_to_below n Continue ws st r h = omega arith
  switch_to_below n (Return value) ws st r h = omega arith

  switch_below : (v : CValue) (body : TypedStmt) (ws : List Frame) (st : State) (r : ℕ) → 40 * st.left + (10 * length ws + 12) < r → rank (switch_step v body ws st).machine < r
  switch_below (value.Number n) body ws st r h = switch_to_below n body ws st r h
  switch_below (At place) body ws st r h = omega arith
  switch_below (Code name) body ws st r h = omega arith
  switch_below Null body ws st r h = omega arith

  give_below : (v : CValue) (w : Frame) (ws : List Frame) (st : State) → rank (give program v w ws st).machine < 40 * st.left + (10 * suc (length ws) + 4)
  give_below v (f.Moves offset) ws st = value_below _ ws st _ (omega arith)
  give_below v f.Points ws st = value_below _ ws st _ (omega arith)
  give_below v (f.Loads of) ws st = value_below _ ws st _ (omega arith)
  give_below v (f.LoadsSigned schema of) ws st = given_below _ st _ _ (omega arith) (λ place. given_below _ st _ _ (omega arith) (λ u. show_same schema place u (goes (f.Gave u) ws (noted schema place st)) _ (omega arith)))
  give_below v (f.StoreRight value old of) ws st = omega arith
  give_below v (f.Stores at old of) ws st = given_below _ st _ _ (omega arith) (λ result. given_below _ st _ _ (omega arith) (λ w. omega arith))
  give_below v (f.Converts of) ws st = value_below _ ws st _ (omega arith)
  give_below v (f.Applies op of) ws st = value_below _ ws st _ (omega arith)
  give_below v (f.CombineRight same op right of) ws st = omega arith
  give_below v (f.Combines op left of) ws st = value_below _ ws st _ (omega arith)
  give_below v (f.AddRight same right pointer_left subtracts element) ws st = omega arith
  give_below v (f.Adds left pointer_left subtracts element) ws st = given_below element st _ _ (omega arith) (λ e. value_below _ ws st _ (omega arith))
  give_below v (f.SubtractRight same right element) ws st = omega arith
  give_below v (f.Subtracts left element) ws st = value_below _ ws st _ (omega arith)
  give_below v (f.CompareRight same op right) ws st = omega arith
  give_below v (f.Compares op left) ws st = value_below _ ws st _ (omega arith)
  give_below v (f.AndRight same right) ws st = if_below _ (goes (f.Eval same right) (f.Truth ∷ ws) st) (goes (f.Gave (of_truth false)) ws st) _ (omega arith) (omega arith)
  give_below v (f.OrRight same right) ws st = if_below _ (goes (f.Gave (of_truth true)) ws st) (goes (f.Eval same right) (f.Truth ∷ ws) st) _ (omega arith) (omega arith)
  give_below v f.Truth ws st = omega arith
  give_below v (f.Chooses same when_true when_false) ws st = if_below _ (goes (f.Eval same when_true) ws st) (goes (f.Eval same when_false) ws st) _ (omega arith) (omega arith)
  give_below v (f.Second same second) ws st = omega arith
  give_below v (f.Argument same callee before rest) ws st = omega arith
  give_below v (f.CallsThrough function vs) ws st = through_below function vs v ws st _ (omega arith)
  give_below v f.Discards ws st = omega arith
  give_below v (f.Tests body) ws st = if_below _ (goes (f.Exec body) ws st) (goes f.Next ws st) _ (omega arith) (omega arith)
  give_below v (f.Divides when_true when_false) ws st = if_below _ (goes (f.Exec when_true) ws st) (goes (f.Exec when_false) ws st) _ (omega arith) (omega arith)
  give_below v (f.TurnTest test after_body body) ws st = if_below _ _ (goes f.Next ws st) _ (turn_below st _ _ (omega arith) (omega arith)) (omega arith)
  give_below v (f.Stepped test after_body body) ws st = omega arith
  give_below v (f.RedoTest body test) ws st = if_below _ (goes (f.Redo body test) ws st) (goes f.Next ws st) _ (omega arith) (omega arith)
  give_below v (f.Switches body) ws st = switch_below v body ws st _ (omega arith)
  give_below v f.Gives ws st = omega arith
  give_below v (f.CellValue cell rest) ws st = omega arith
  give_below v (f.Then rest) ws st = omega arith
  give_below v (f.Closes locals) ws st = omega arith
  give_below v (f.Initialises names) ws st = omega arith
  give_below v (f.Loops test after_body body) ws st = omega arith
  give_below v (f.Turns test after_body body) ws st = omega arith
  give_below v (f.Redoes body test) ws st = omega arith
  give_below v f.Breaks ws st = omega arith
  give_below v (f.Returns function caller) ws st = omega arith

  turn_behind_below : (test : Option TypedExpr) (after_body : Option TypedExpr) (body : TypedStmt) (ws : List Frame) (st : State) → rank (turn_behind test after_body body ws st).machine < 40 * st.left + (10 * suc (length ws) + 4)
  turn_behind_below test None body ws st = omega arith
  turn_behind_below test (Some e) body ws st = omega arith

  next_below : (w : Frame) (ws : List Frame) (st : State) → rank (next w ws st).machine < 40 * st.left + (10 * suc (length ws) + 4)
  next_below (f.Moves offset) ws st = omega arith
  next_below f.Points ws st = omega arith
  next_below (f.Loads of) ws st = omega arith
  next_below (f.LoadsSigned schema of) ws st = omega arith
  next_below (f.StoreRight value old of) ws st = omega arith
  next_below (f.Stores at old of) ws st = omega arith
  next_below (f.Converts of) ws st = omega arith
  next_below (f.Applies op of) ws st = omega arith
  next_below (f.CombineRight same op right of) ws st = omega arith
  next_below (f.Combines op left of) ws st = omega arith
  next_below (f.AddRight same right pointer_left subtracts element) ws st = omega arith
  next_below (f.Adds left pointer_left subtracts element) ws st = omega arith
  next_below (f.SubtractRight same right element) ws st = omega arith
  next_below (f.Subtracts left element) ws st = omega arith
  next_below (f.CompareRight same op right) ws st = omega arith
  next_below (f.Compares op left) ws st = omega arith
  next_below (f.AndRight same right) ws st = omega arith
  next_below (f.OrRight same right) ws st = omega arith
  next_below f.Truth ws st = omega arith
  next_below (f.Chooses same when_true when_false) ws st = omega arith
  next_below (f.Second same second) ws st = omega arith
  next_below (f.Argument same callee before rest) ws st = omega arith
  next_below (f.CallsThrough function vs) ws st = omega arith
  next_below f.Discards ws st = omega arith
  next_below (f.Tests body) ws st = omega arith
  next_below (f.Divides when_true when_false) ws st = omega arith
  next_below (f.TurnTest test after_body body) ws st = omega arith
  next_below (f.Stepped test after_body body) ws st = omega arith
  next_below (f.RedoTest body test) ws st = omega arith
  next_below (f.Switches body) ws st = omega arith
  next_below f.Gives ws st = omega arith
  next_below (f.CellValue cell rest) ws st = omega arith
  next_below (f.Then rest) ws st = omega arith
  next_below (f.Closes locals) ws st = omega arith
  next_below (f.Initialises names) ws st = omega arith
  next_below (f.Loops test after_body body) ws st = omega arith
  next_below (f.Turns test after_body body) ws st = turn_behind_below test after_body body ws st
  next_below (f.Redoes body test) ws st = omega arith
  next_below f.Breaks ws st = omega arith
  next_below (f.Returns function caller) ws st =
      let left = goes (f.Gave nothing) ws (left_behind function caller st) in
      let at_end = goes (f.Gave (value.Number (pos 0))) ws (left_behind function caller st) in
      let last = if bytes_eq function.name main then at_end else ends_at Undefined st in
      if_below (gives_nothing function.of) left last _ (omega arith) (if_below (bytes_eq function.name main) at_end (ends_at Undefined st) _ (omega arith) (omega arith))

  leave_below : (w : Frame) (ws : List Frame) (st : State) → rank (leave w ws st).machine < 40 * st.left + (10 * suc (length ws) + 4)
  leave_below (f.Moves offset) ws st = omega arith
  leave_below f.Points ws st = omega arith
  leave_below (f.Loads of) ws st = omega arith
  leave_below (f.LoadsSigned schema of) ws st = omega arith
  leave_below (f.StoreRight value old of) ws st = omega arith
  leave_below (f.Stores at old of) ws st = omega arith
  leave_below (f.Converts of) ws st = omega arith
  leave_below (f.Applies op of) ws st = omega arith
  leave_below (f.CombineRight same op right of) ws st = omega arith
  leave_below (f.Combines op left of) ws st = omega arith
  leave_below (f.AddRight same right pointer_left subtracts element) ws st = omega arith
  leave_below (f.Adds left pointer_left subtracts element) ws st = omega arith
  leave_below (f.SubtractRight same right element) ws st = omega arith
  leave_below (f.Subtracts left element) ws st = omega arith
  leave_below (f.CompareRight same op right) ws st = omega arith
  leave_below (f.Compares op left) ws st = omega arith
  leave_below (f.AndRight same right) ws st = omega arith
  leave_below (f.OrRight same right) ws st = omega arith
  leave_below f.Truth ws st = omega arith
  leave_below (f.Chooses same when_true when_false) ws st = omega arith
  leave_below (f.Second same second) ws st = omega arith
  leave_below (f.Argument same callee before rest) ws st = omega arith
  leave_below (f.CallsThrough function vs) ws st = omega arith
  leave_below f.Discards ws st = omega arith
  leave_below (f.Tests body) ws st = omega arith
  leave_below (f.Divides when_true when_false) ws st = omega arith
  leave_below (f.TurnTest test after_body body) ws st = omega arith
  leave_below (f.Stepped test after_body body) ws st = omega arith
  leave_below (f.RedoTest body test) ws st = omega arith
  leave_below (f.Switches body) ws st = omega arith
  leave_below f.Gives ws st = omega arith
  leave_below (f.CellValue cell rest) ws st = omega arith
  leave_below (f.Then rest) ws st = omega arith
  leave_below (f.Closes locals) ws st = omega arith
  leave_below (f.Initialises names) ws st = omega arith
  leave_below (f.Loops test after_body body) ws st = omega arith
  leave_below (f.Turns test after_body body) ws st = omega arith
  leave_below (f.Redoes body test) ws st = omega arith
  leave_below f.Breaks ws st = omega arith
  leave_below (f.Returns function caller) ws st = omega arith

  proceed_below : (w : Frame) (ws : List Frame) (st : State) → rank (proceed w ws st).machine < 40 * st.left + (10 * suc (length ws) + 4)
  proceed_below (f.Moves offset) ws st = omega arith
  proceed_below f.Points ws st = omega arith
  proceed_below (f.Loads of) ws st = omega arith
  proceed_below (f.LoadsSigned schema of) ws st = omega arith
  proceed_below (f.StoreRight value old of) ws st = omega arith
  proceed_below (f.Stores at old of) ws st = omega arith
  proceed_below (f.Converts of) ws st = omega arith
  proceed_below (f.Applies op of) ws st = omega arith
  proceed_below (f.CombineRight same op right of) ws st = omega arith
  proceed_below (f.Combines op left of) ws st = omega arith
  proceed_below (f.AddRight same right pointer_left subtracts element) ws st = omega arith
  proceed_below (f.Adds left pointer_left subtracts element) ws st = omega arith
  proceed_below (f.SubtractRight same right element) ws st = omega arith
  proceed_below (f.Subtracts left element) ws st = omega arith
  proceed_below (f.CompareRight same op right) ws st = omega arith
  proceed_below (f.Compares op left) ws st = omega arith
  proceed_below (f.AndRight same right) ws st = omega arith
  proceed_below (f.OrRight same right) ws st = omega arith
  proceed_below f.Truth ws st = omega arith
  proceed_below (f.Chooses same when_true when_false) ws st = omega arith
  proceed_below (f.Second same second) ws st = omega arith
  proceed_below (f.Argument same callee before rest) ws st = omega arith
  proceed_below (f.CallsThrough function vs) ws st = omega arith
  proceed_below f.Discards ws st = omega arith
  proceed_below (f.Tests body) ws st = omega arith
  proceed_below (f.Divides when_true when_false) ws st = omega arith
  proceed_below (f.TurnTest test after_body body) ws st = omega arith
  proceed_below (f.Stepped test after_body body) ws st = omega arith
  proceed_below (f.RedoTest body test) ws st = omega arith
  proceed_below (f.Switches body) ws st = omega arith
  proceed_below f.Gives ws st = omega arith
  proceed_below (f.CellValue cell rest) ws st = omega arith
  proceed_below (f.Then rest) ws st = omega arith
  proceed_below (f.Closes locals) ws st = omega arith
  proceed_below (f.Initialises names) ws st = omega arith
  proceed_below (f.Loops test after_body body) ws st = omega arith
  proceed_below (f.Turns test after_body body) ws st = turn_behind_below test after_body body ws st
  proceed_below (f.Redoes body test) ws st = omega arith
  proceed_below f.Breaks ws st = omega arith
  proceed_below (f.Returns function caller) ws st = omega arith

  give_back_below : (v : CValue) (w : Frame) (ws : List Frame) (st : State) → rank (give_back v w ws st).machine < 40 * st.left + (10 * suc (length ws) + 4)
  give_back_below v (f.Moves offset) ws st = omega arith
  give_back_below v f.Points ws st = omega arith
  give_back_below v (f.Loads of) ws st = omega arith
  give_back_below v (f.LoadsSigned schema of) ws st = omega arith
  give_back_below v (f.StoreRight value old of) ws st = omega arith
  give_back_below v (f.Stores at old of) ws st = omega arith
  give_back_below v (f.Converts of) ws st = omega arith
  give_back_below v (f.Applies op of) ws st = omega arith
  give_back_below v (f.CombineRight same op right of) ws st = omega arith
  give_back_below v (f.Combines op left of) ws st = omega arith
  give_back_below v (f.AddRight same right pointer_left subtracts element) ws st = omega arith
  give_back_below v (f.Adds left pointer_left subtracts element) ws st = omega arith
  give_back_below v (f.SubtractRight same right element) ws st = omega arith
  give_back_below v (f.Subtracts left element) ws st = omega arith
  give_back_below v (f.CompareRight same op right) ws st = omega arith
  give_back_below v (f.Compares op left) ws st = omega arith
  give_back_below v (f.AndRight same right) ws st = omega arith
  give_back_below v (f.OrRight same right) ws st = omega arith
  give_back_below v f.Truth ws st = omega arith
  give_back_below v (f.Chooses same when_true when_false) ws st = omega arith
  give_back_below v (f.Second same second) ws st = omega arith
  give_back_below v (f.Argument same callee before rest) ws st = omega arith
  give_back_below v (f.CallsThrough function vs) ws st = omega arith
  give_back_below v f.Discards ws st = omega arith
  give_back_below v (f.Tests body) ws st = omega arith
  give_back_below v (f.Divides when_true when_false) ws st = omega arith
  give_back_below v (f.TurnTest test after_body body) ws st = omega arith
  give_back_below v (f.Stepped test after_body body) ws st = omega arith
  give_back_below v (f.RedoTest body test) ws st = omega arith
  give_back_below v (f.Switches body) ws st = omega arith
  give_back_below v f.Gives ws st = omega arith
  give_back_below v (f.CellValue cell rest) ws st = omega arith
  give_back_below v (f.Then rest) ws st = omega arith
  give_back_below v (f.Closes locals) ws st = omega arith
  give_back_below v (f.Initialises names) ws st = omega arith
  give_back_below v (f.Loops test after_body body) ws st = omega arith
  give_back_below v (f.Turns test after_body body) ws st = omega arith
  give_back_below v (f.Redoes body test) ws st = omega arith
  give_back_below v f.Breaks ws st = omega arith
  give_back_below v (f.Returns function caller) ws st = omega arith

  -- ---- a step

  status_below : (v : CValue) (st : State) → rank (status_step v st).machine < 40 * st.left + 4
  status_below (value.Number n) st = if_below _ (ends_at (Done n) st) (ends_at Undefined st) _ (omega arith) (omega arith)
  status_below (At place) st = omega arith
  status_below (Code name) st = omega arith
  status_below Null st = omega arith

  now_below : (now : Now) (ws : List Frame) (st : State) → is_going now ≡ true → rank (step_of program now ws st).machine < 40 * st.left + (10 * length ws + effort now)
  now_below (f.Eval same e) ws st g = tick_below st _ _ (omega arith) (λ n h. begin_below same e ws (record st { left = n }) _ (omega arith))
  now_below (f.Gave v) [] st g = let s = status_below v st in omega arith
  now_below (f.Gave v) (w ∷ ws) st g = give_below v w ws st
  now_below (f.Evals same callee before rest) ws st g = arguments_below same callee before rest ws st
  now_below (f.Called name vs) ws st g = called_below (function_named program.functions name) name vs ws st
  now_below (f.Exec s) ws st g = tick_below st _ _ (omega arith) (λ n h. begin_stmt_below s ws (record st { left = n }) _ (omega arith))
  now_below (f.Execs NoTStmts) ws st g = omega arith
  now_below (f.Execs (ConsTStmt s ss)) ws st g = omega arith
  now_below (f.Initialise []) ws st g = omega arith
  now_below (f.Initialise (name ∷ names)) ws st g = tick_below st _ _ (omega arith) (λ n h. local_below name.initials name.local (f.Initialises names ∷ ws) (record st { left = n }) _ (omega arith))
  now_below (f.GiveCells cs) ws st g = cells_below cs.initials cs.owner cs.cells cs.size ws st
  now_below (f.GiveCell v cell rest) ws st g = tick_below st _ _ (omega arith) (λ n h. given_below _ (record st { left = n }) _ _ (omega arith) (λ w. omega arith))
  now_below (f.Loop None after_body body) ws st g = turn_below st _ _ (omega arith) (omega arith)
  now_below (f.Loop (Some test) after_body body) ws st g = omega arith
  now_below (f.Redo body test) ws st g = turn_below st _ _ (omega arith) (omega arith)
  now_below (f.Select n cases items) ws st g = select_below n cases items ws st
  now_below (f.Enter target items) ws st g = tick_below st _ _ (omega arith) (λ n h. block_below _ (f.EnterAmong target items) ws (record st { left = n }) _ (omega arith))
  now_below (f.EnterAmong target ss) ws st g = among_below target ss ws st
  now_below f.Next [] st g = omega arith
  now_below f.Next (w ∷ ws) st g = next_below w ws st
  now_below f.Leave [] st g = omega arith
  now_below f.Leave (w ∷ ws) st g = leave_below w ws st
  now_below f.Proceed [] st g = omega arith
  now_below f.Proceed (w ∷ ws) st g = proceed_below w ws st
  now_below (f.Give v) [] st g = omega arith
  now_below (f.Give v) (w ∷ ws) st g = give_back_below v w ws st
  now_below (f.Ended end) ws st g = cc

  pub step_below : (m : Machine) → is_going m.now ≡ true → rank (step program m).machine < rank m
  unfolding step
  step_below m g = now_below m.now m.frames m.state g

  -- ---- runs

  abbrev HasEnded : Now → Type 0
  HasEnded now = (end : End) × (now ≡ f.Ended end)

  ended_stays : (n : ℕ) (m : Machine) → HasEnded m.now → HasEnded (steps program n m).machine.now
  unfolding steps step
  ended_stays zero m h = h
  ended_stays (suc n) m h =
      let same : (step program m).machine.now ≡ f.Ended h.0 = ap (λ now. (step_of program now m.frames m.state).machine.now) h.1 in
      ended_stays n (step program m).machine (h.0, same)

  going_or_ended : (now : Now) → (is_going now ≡ true) ⊎ HasEnded now
  going_or_ended (f.Eval same e) = inl refl
  going_or_ended (f.Gave v) = inl refl
  going_or_ended (f.Evals same callee before rest) = inl refl
  going_or_ended (f.Called name vs) = inl refl
  going_or_ended (f.Exec s) = inl refl
  going_or_ended (f.Execs ss) = inl refl
  going_or_ended (f.Initialise names) = inl refl
  going_or_ended (f.GiveCells cs) = inl refl
  going_or_ended (f.GiveCell v cell rest) = inl refl
  going_or_ended (f.Loop test after_body body) = inl refl
  going_or_ended (f.Redo body test) = inl refl
  going_or_ended (f.Select n cases items) = inl refl
  going_or_ended (f.Enter target items) = inl refl
  going_or_ended (f.EnterAmong target ss) = inl refl
  going_or_ended f.Next = inl refl
  going_or_ended f.Leave = inl refl
  going_or_ended f.Proceed = inl refl
  going_or_ended (f.Give v) = inl refl
  going_or_ended (f.Ended end) = inr (end, refl)

  -- after more steps than its rank a run has ended
  pub ends_within : (n : ℕ) (m : Machine) → rank m < n → HasEnded (steps program n m).machine.now
  unfolding steps
  ends_within zero m h = absurd (omega arith)
  ends_within (suc n) m h = elim (going_or_ended m.now) [
    | inl going ↦ let less = step_below m going in ends_within n (step program m).machine (omega arith)
    | inr ended ↦ ended_stays (suc n) m ended
  ]

  -- The C meaning is what so many steps give and their end: no run takes more than 40 steps for a unit of fuel, and two.
  pub mean_in_steps : (input : List ℕ) (fuel : ℕ) (objects : Objects) → statics program ≡ Some objects
      → (end : End) × (mean program input fuel ≡ ahead (steps program (40 * fuel + 2) (at_first input fuel objects)).fronts (ends end))
  mean_in_steps input fuel objects s =
      let h = ends_within (40 * fuel + 2) (at_first input fuel objects) (omega arith) in
      (h.0, mean_by_steps program input fuel objects (40 * fuel + 2) h.0 s h.1)
