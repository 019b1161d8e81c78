-- A step keeps what a run gives: expressions, and what waits for values.
use Rattle.std.proofs.Common.{◌≡◌, ℕ, zero, suc, pos, Bool, true, false, if◌then◌else◌, List, ◌∷◌, Option, Some, None, refl, ap, ◌∙◌}
use Rattle.std.specs.Prelude.{ℤ}
use Rattle.pa_pac.specs.declared.schema.Schema.{Schema}
use Rattle.pa_ctype.specs.Traces.{Load, Call}
use Rattle.pa_ctype.specs.Values as value
use Rattle.pa_ctype.specs.Values.{Place, CValue, At, Code, Null}
use Rattle.pa_typed.specs.Typed.{TypedExpr, LocalPlace, GlobalPlace, StringPlace, Same, Member, Index, Deref, Number, Load as LoadExpr, LoadSigned, Store, StoreSigned, AddressOf, FunctionValue, Convert, Unary, Binary, PointerAdd, PointerSub, Compare, And, Or, Choose, Comma, CallDirect, CallPointer, TypedStmt, Compound, InitLocal, Expression, If, IfElse, While, DoWhile, For, Switch, Case, Default, Break, Continue, Return}
use Rattle.pa_typed.specs.Units.{ProgramTree}
use Rattle.pa_cmean.specs.Results.{Meaning, undefined, worked, turned, shown, given}
use Rattle.pa_cmean.specs.Operations.{truth, literal, converted, unary, binary, moved, pointed, compared, pointee}
use Rattle.pa_cmean.specs.ExprTypes.{type_of}
use Rattle.pa_cmean.specs.State.{State, Turn, Redo, ticked, tick, turned_with, turn, choose, owner_of, place_of, value_at, stored}
use Rattle.pa_ctype.specs.Types.{TypeTree}
use Rattle.pa_cmean.specs.Calls as spec
use Rattle.pa_cmean.specs.Calls.{is_plain, showing, under_of, function_type, call, call_pointer}
use Rattle.pa_cmean.specs.Expressions.{add_pointer, subtract_pointers, load, load_signed, store, eval, evals}
use Rattle.pa_cmean.specs.Statements.{switch_on, select, cases_of, has_default}
use Rattle.pa_cmean.specs.Mean.{perform, run}
use Rattle.pa_cmean.proofs.Laws.{run_is}
use Rattle.pa_mean.specs.Frames.{Frame, Step}
use Rattle.pa_mean.specs.Frames as f
use Rattle.pa_mean.specs.Steps.{goes, ticked_step, tick_step, turn_step, given_step, value_step, begin, is_called_as, show_load, through_step, switch_to, switch_step, give}
use Rattle.pa_mean.specs.Meanings.{konts, selected, frame, after}

-- ---- what stands in front

module _ (program : ProgramTree) where
  pub tick_keeps : (st : State) (go : State → Meaning) (to : State → Step) → ((n : ℕ) → go (record st { left = n }) ≡ after program (to (record st { left = n }))) → tick st go ≡ after program (tick_step st to)
  unfolding tick tick_step
  tick_keeps st go to h = by_left st.left
    where
      by_left : (n : ℕ) → ticked n (λ n. go (record st { left = n })) ≡ after program (ticked_step n st (λ n. to (record st { left = n })))
      by_left zero = refl
      by_left (suc n) = ap worked (h n)

  pub turn_keeps : (st : State) (go : State → Meaning) (s : Step) → go st ≡ after program s → turn go st ≡ after program (turn_step st.left st s)
  unfolding turn turn_step
  turn_keeps st go s h = by_left st.left
    where
      by_left : (n : ℕ) → turned_with n (go st) ≡ after program (turn_step n st s)
      by_left zero = refl
      by_left (suc n) = ap turned h

  pub given_keeps : {A : Type 0} (o : Option A) (st : State) (go : A → Meaning) (to : A → Step) → ((a : A) → go a ≡ after program (to a)) → given o go ≡ after program (given_step o st to)
  unfolding given_step
  given_keeps None st go to h = refl
  given_keeps (Some a) st go to h = h a

  pub choose_keeps : (b : Bool) (m n : State → Meaning) (st : State) (s t : Step) → m st ≡ after program s → n st ≡ after program t → choose b m n st ≡ after program (if b then s else t)
  unfolding choose
  choose_keeps true m n st s t h k = h
  choose_keeps false m n st s t h k = k

  pub value_keeps : (o : Option CValue) (ws : List Frame) (st : State) → given o (λ v. (konts program ws).value v st) ≡ after program (value_step o ws st)
  value_keeps o ws st = given_keeps o st (λ v. (konts program ws).value v st) (λ v. goes (f.Gave v) ws st) (λ v. refl)

  show_keeps : (schema : Schema) (place : Place) (u : CValue) (m : Meaning) (s : Step) → m ≡ after program s → showing schema place u m ≡ after program (show_load schema place u s)
  show_keeps schema place (value.Number n) m s h = h
  show_keeps schema place (At p) m s h = h
  show_keeps schema place (Code name) m s h = by_test (is_plain schema)
    where
      by_test : (b : Bool) → (if b then m else shown (Load schema place name) m) ≡ after program (if b then s else record s { fronts = f.Shown (Load schema place name) ∷ s.fronts })
      by_test true = h
      by_test false = ap (shown (Load schema place name)) h
  show_keeps schema place Null m s h = h

  -- ---- expressions

  pub begin_keeps : (same : Option Place) (e : TypedExpr) (ws : List Frame) (st : State) → eval program (run program) same e (konts program ws).value st ≡ after program (tick_step st (begin same e ws))
  unfolding eval evals konts
  begin_keeps same (LocalPlace local of) ws st = tick_keeps st _ (begin same (LocalPlace local of) ws) (λ n. given_keeps (owner_of st.world local) (record st { left = n }) _ (λ owner. goes (f.Gave (At (record { owner = owner; offset = 0 }))) ws (record st { left = n })) (λ owner. refl))
  begin_keeps same (GlobalPlace name place of) ws st = tick_keeps st _ (begin same (GlobalPlace name place of) ws) (λ n. refl)
  begin_keeps same (StringPlace text of) ws st = tick_keeps st _ (begin same (StringPlace text of) ws) (λ n. refl)
  begin_keeps same (Same of) ws st = tick_keeps st _ (begin same (Same of) ws) (λ n. given_keeps same (record st { left = n }) _ (λ place. goes (f.Gave (At place)) ws (record st { left = n })) (λ place. refl))
  begin_keeps same (Member owner index offset of) ws st = tick_keeps st _ (begin same (Member owner index offset of) ws) (λ n. refl)
  begin_keeps same (Index left right pointer_left of) ws st = tick_keeps st _ (begin same (Index left right pointer_left of) ws) (λ n. refl)
  begin_keeps same (Deref pointer of) ws st = tick_keeps st _ (begin same (Deref pointer of) ws) (λ n. refl)
  begin_keeps same (Number value of) ws st = tick_keeps st _ (begin same (Number value of) ws) (λ n. value_keeps (literal of value) ws (record st { left = n }))
  begin_keeps same (LoadExpr from of) ws st = tick_keeps st _ (begin same (LoadExpr from of) ws) (λ n. refl)
  begin_keeps same (LoadSigned from schema of) ws st = tick_keeps st _ (begin same (LoadSigned from schema of) ws) (λ n. refl)
  begin_keeps same (Store to value old of) ws st = tick_keeps st _ (begin same (Store to value old of) ws) (λ n. refl)
  begin_keeps same (StoreSigned to value old schema of) ws st = tick_keeps st _ (begin same (StoreSigned to value old schema of) ws) (λ n. refl)
  begin_keeps same (AddressOf at of) ws st = tick_keeps st _ (begin same (AddressOf at of) ws) (λ n. refl)
  begin_keeps same (FunctionValue name place of) ws st = tick_keeps st _ (begin same (FunctionValue name place of) ws) (λ n. refl)
  begin_keeps same (Convert value of) ws st = tick_keeps st _ (begin same (Convert value of) ws) (λ n. refl)
  begin_keeps same (Unary op value of) ws st = tick_keeps st _ (begin same (Unary op value of) ws) (λ n. refl)
  begin_keeps same (Binary op left right of) ws st = tick_keeps st _ (begin same (Binary op left right of) ws) (λ n. refl)
  begin_keeps same (PointerAdd left right pointer_left subtracts of) ws st = tick_keeps st _ (begin same (PointerAdd left right pointer_left subtracts of) ws) (λ n. refl)
  begin_keeps same (PointerSub left right of) ws st = tick_keeps st _ (begin same (PointerSub left right of) ws) (λ n. refl)
  begin_keeps same (Compare op left right of) ws st = tick_keeps st _ (begin same (Compare op left right of) ws) (λ n. refl)
  begin_keeps same (And left right of) ws st = tick_keeps st _ (begin same (And left right of) ws) (λ n. refl)
  begin_keeps same (Or left right of) ws st = tick_keeps st _ (begin same (Or left right of) ws) (λ n. refl)
  begin_keeps same (Choose test when_true when_false of) ws st = tick_keeps st _ (begin same (Choose test when_true when_false of) ws) (λ n. refl)
  begin_keeps same (Comma first second of) ws st = tick_keeps st _ (begin same (Comma first second of) ws) (λ n. refl)
  begin_keeps same (CallDirect name place arguments of) ws st = tick_keeps st _ (begin same (CallDirect name place arguments of) ws) (λ n. refl)
  begin_keeps same (CallPointer arguments function of) ws st = tick_keeps st _ (begin same (CallPointer arguments function of) ws) (λ n. refl)

  called_same : (a b : Option TypeTree) → spec.is_called_as program (run program) a b ≡ is_called_as a b
  called_same None b = refl
  called_same (Some a) None = refl
  called_same (Some a) (Some b) = refl

  through_keeps : (function : TypedExpr) (vs : List CValue) (v : CValue) (ws : List Frame) (st : State) → (frame program (f.CallsThrough function vs) (konts program ws)).value v st ≡ after program (through_step program function vs v ws st)
  unfolding call_pointer
  through_keeps function vs (value.Number n) ws st = refl
  through_keeps function vs (At place) ws st = refl
  through_keeps function vs (Code name) ws st =
      ap (λ b. choose b (λ here. shown (Call name (under_of function st.world)) (call program (run program) name vs (konts program ws).value here)) (λ here. undefined) st) (called_same (pointee (type_of function)) (function_type program name))
      ∙ choose_keeps (is_called_as (pointee (type_of function)) (function_type program name)) _ _ st _ _ refl refl
  through_keeps function vs Null ws st = refl

  switch_to_keeps : (n : ℤ) (body : TypedStmt) (ws : List Frame) (st : State) → switch_on (value.Number n) (cases_of body) (has_default body) (selected program body (konts program ws).exits) (konts program ws).exits.next st ≡ after program (switch_to n body ws st)
  unfolding switch_on select choose
  switch_to_keeps n (Compound items) ws st = refl
  switch_to_keeps n (InitLocal name) ws st = refl
  switch_to_keeps n (Expression value) ws st = refl
  switch_to_keeps n (If condition body) ws st = refl
  switch_to_keeps n (IfElse condition when_true when_false) ws st = refl
  switch_to_keeps n (While condition body) ws st = refl
  switch_to_keeps n (DoWhile body condition) ws st = refl
  switch_to_keeps n (For start condition after_body body) ws st = refl
  switch_to_keeps n (Switch value body) ws st = refl
  switch_to_keeps n (Case value of body) ws st = refl
  switch_to_keeps n (Default body) ws st = refl
  switch_to_keeps n Break ws st = refl
  switch_to_keeps n Continue ws st = refl
  switch_to_keeps n (Return value) ws st = refl

  switch_keeps : (v : CValue) (body : TypedStmt) (ws : List Frame) (st : State) → (frame program (f.Switches body) (konts program ws)).value v st ≡ after program (switch_step v body ws st)
  unfolding switch_on
  switch_keeps (value.Number n) body ws st = switch_to_keeps n body ws st
  switch_keeps (At place) body ws st = refl
  switch_keeps (Code name) body ws st = refl
  switch_keeps Null body ws st = refl

  pub loop_keeps : (test : Option TypedExpr) (after_body : Option TypedExpr) (body : TypedStmt) (ws : List Frame) (st : State) → run program (Turn test after_body body) (konts program ws).exits st ≡ after program (goes (f.Loop test after_body body) ws st)
  unfolding perform
  loop_keeps test after_body body ws st = run_is program (Turn test after_body body) (konts program ws).exits st

  pub redo_keeps : (body : TypedStmt) (test : TypedExpr) (ws : List Frame) (st : State) → run program (Redo body test) (konts program ws).exits st ≡ after program (goes (f.Redo body test) ws st)
  unfolding perform
  redo_keeps body test ws st = run_is program (Redo body test) (konts program ws).exits st

  -- a value reaches what waits for it
  pub give_keeps : (v : CValue) (w : Frame) (ws : List Frame) (st : State) → (frame program w (konts program ws)).value v st ≡ after program (give program v w ws st)
  unfolding konts add_pointer subtract_pointers load load_signed store
  give_keeps v (f.Moves offset) ws st = value_keeps (moved st.world.objects (pos offset) v) ws st
  give_keeps v f.Points ws st = value_keeps (pointed v) ws st
  give_keeps v (f.Loads of) ws st = value_keeps (value_at st.world of v) ws st
  give_keeps v (f.LoadsSigned schema of) ws st = given_keeps (place_of v) st _ _ (λ place. given_keeps (value_at st.world of v) st _ _ (λ u. show_keeps schema place u _ _ refl))
  give_keeps v (f.StoreRight value old of) ws st = refl
  give_keeps v (f.Stores at old of) ws st = given_keeps (if old then value_at st.world of at else Some v) st _ _ (λ result. given_keeps (stored st.world of at v) st _ _ (λ w. refl))
  give_keeps v (f.Converts of) ws st = value_keeps (converted of v) ws st
  give_keeps v (f.Applies op of) ws st = value_keeps (unary op of v) ws st
  give_keeps v (f.CombineRight same op right of) ws st = refl
  give_keeps v (f.Combines op left of) ws st = value_keeps (binary op of left v) ws st
  give_keeps v (f.AddRight same right pointer_left subtracts element) ws st = refl
  give_keeps v (f.Adds left pointer_left subtracts element) ws st = given_keeps element st _ _ (λ e. value_keeps _ ws st)
  give_keeps v (f.SubtractRight same right element) ws st = refl
  give_keeps v (f.Subtracts left element) ws st = value_keeps _ ws st
  give_keeps v (f.CompareRight same op right) ws st = refl
  give_keeps v (f.Compares op left) ws st = value_keeps (compared st.world.objects op left v) ws st
  give_keeps v (f.AndRight same right) ws st = choose_keeps (truth v) _ _ st _ _ refl refl
  give_keeps v (f.OrRight same right) ws st = choose_keeps (truth v) _ _ st _ _ refl refl
  give_keeps v f.Truth ws st = refl
  give_keeps v (f.Chooses same when_true when_false) ws st = choose_keeps (truth v) _ _ st _ _ refl refl
  give_keeps v (f.Second same second) ws st = refl
  give_keeps v (f.Argument same callee before rest) ws st = refl
  give_keeps v (f.CallsThrough function vs) ws st = through_keeps function vs v ws st
  give_keeps v f.Discards ws st = refl
  give_keeps v (f.Tests body) ws st = choose_keeps (truth v) _ _ st _ _ refl refl
  give_keeps v (f.Divides when_true when_false) ws st = choose_keeps (truth v) _ _ st _ _ refl refl
  give_keeps v (f.TurnTest test after_body body) ws st = choose_keeps (truth v) _ _ st _ _ (turn_keeps st _ _ refl) refl
  give_keeps v (f.Stepped test after_body body) ws st = loop_keeps test after_body body ws st
  give_keeps v (f.RedoTest body test) ws st = choose_keeps (truth v) _ _ st _ _ (redo_keeps body test ws st) refl
  give_keeps v (f.Switches body) ws st = switch_keeps v body ws st
  give_keeps v f.Gives ws st = refl
  give_keeps v (f.CellValue cell rest) ws st = refl
  give_keeps v (f.Then rest) ws st = refl
  give_keeps v (f.Closes locals) ws st = refl
  give_keeps v (f.Initialises names) ws st = refl
  give_keeps v (f.Loops test after_body body) ws st = refl
  give_keeps v (f.Turns test after_body body) ws st = refl
  give_keeps v (f.Redoes body test) ws st = refl
  give_keeps v f.Breaks ws st = refl
  give_keeps v (f.Returns function caller) ws st = refl
