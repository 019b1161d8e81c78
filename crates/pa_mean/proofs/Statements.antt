-- A step keeps what a run gives: statements, calls, and the whole.
use Rattle.std.proofs.Common.{◌≡◌, ℕ, pos, Bool, true, false, if◌then◌else◌, ◌||◌, option_map, List, [], ◌∷◌, Option, Some, None, slice_get, refl, ap, ◌∙◌}
use Rattle.std.specs.Prelude.{ℤ}
use Rattle.std.specs.Str.{bytes_eq}
use Rattle.pa_ctype.specs.Values as value
use Rattle.pa_ctype.specs.Values.{Owner, Place, CValue, At, Code, Null, Cell}
use Rattle.pa_integer.specs.Integers.{same_int, is_in_range}
use Rattle.pa_typed.specs.Typed.{TypedExpr, TypedExprs, NoTExprs, ConsTExpr, TypedInitial, TypedForStart, Declares, Evaluates, TypedStmt, TypedStmts, Compound, InitLocal, Expression, If, IfElse, While, DoWhile, For, Switch, Case, Default, Break, Continue, Return, NoTStmts, ConsTStmt}
use Rattle.pa_typed.specs.Units.{FunctionTree, ProgramTree, function_named}
use Rattle.pa_cmean.specs.Results.{Meaning, ends, undefined, Done, Undefined, entered, given}
use Rattle.pa_cmean.specs.Operations.{bytes_of, converted}
use Rattle.pa_cmean.specs.State.{State, Exits, Body, tick, choose, owner_of, born, entering, initialised_at}
use Rattle.pa_cmean.specs.Calls.{putchar, getchar, main, gives_nothing, exits_of, puts, gets, next_byte, runtime, enter, call, called}
use Rattle.pa_cmean.specs.Expressions.{eval, evals}
use Rattle.pa_cmean.specs.Statements.{Source, FromValue, FromByte, FromZero, Next, next_source, is_last, cell_given, cell_next, Target, AtCase, is_case, is_default, has_label, any_default, cells_given, given_initials, init_local, init_locals, evaluate, test, begin_for, loop, redo, select, block, exec, execs, enter_at, execs_from, start_locals, block_locals}
use Rattle.pa_cmean.specs.Mean.{perform, run, status}
use Rattle.pa_cmean.proofs.Laws.{run_is}
use Rattle.pa_mean.specs.Frames.{Callee, Named, Through, Cells, Frame, Now, Machine, Step}
use Rattle.pa_mean.specs.Frames as f
use Rattle.pa_mean.specs.Steps.{goes, ends_at, tick_step, given_step, arguments_step, block_step, local_step, for_step, begin_stmt, source_step, cells_step, select_step, behind_label, Labelled, labelled, among_step, puts_step, byte_step, gets_step, enter_function, called_step, turn_behind, next, leave, proceed, give_back, status_step, step_of, step}
use Rattle.pa_mean.specs.Meanings.{konts, resume, frame, meaning, after, next_turn}
use Rattle.pa_mean.proofs.Values.{tick_keeps, turn_keeps, given_keeps, choose_keeps, begin_keeps, loop_keeps, give_keeps}

choose_true : (a b : State → Meaning) (st : State) → choose true a b st ≡ a st
unfolding choose
choose_true a b st = refl

choose_false : (a b : State → Meaning) (st : State) → choose false a b st ≡ b st
unfolding choose
choose_false a b st = refl

module _ (program : ProgramTree) where
  -- ---- the ways out of a statement

  turn_behind_keeps : (condition : Option TypedExpr) (after_body : Option TypedExpr) (body : TypedStmt) (ws : List Frame) (st : State) → next_turn program condition after_body body (konts program ws).exits st ≡ after program (turn_behind condition after_body body ws st)
  unfolding evaluate konts
  turn_behind_keeps condition None body ws st = loop_keeps program condition None body ws st
  turn_behind_keeps condition (Some e) body ws st = refl

  pub next_keeps : (w : Frame) (ws : List Frame) (st : State) → (frame program w (konts program ws)).exits.next st ≡ after program (next w ws st)
  unfolding test konts
  next_keeps (f.Moves offset) ws st = refl
  next_keeps f.Points ws st = refl
  next_keeps (f.Loads of) ws st = refl
  next_keeps (f.LoadsSigned schema of) ws st = refl
  next_keeps (f.StoreRight value old of) ws st = refl
  next_keeps (f.Stores at old of) ws st = refl
  next_keeps (f.Converts of) ws st = refl
  next_keeps (f.Applies op of) ws st = refl
  next_keeps (f.CombineRight same op right of) ws st = refl
  next_keeps (f.Combines op left of) ws st = refl
  next_keeps (f.AddRight same right pointer_left subtracts element) ws st = refl
  next_keeps (f.Adds left pointer_left subtracts element) ws st = refl
  next_keeps (f.SubtractRight same right element) ws st = refl
  next_keeps (f.Subtracts left element) ws st = refl
  next_keeps (f.CompareRight same op right) ws st = refl
  next_keeps (f.Compares op left) ws st = refl
  next_keeps (f.AndRight same right) ws st = refl
  next_keeps (f.OrRight same right) ws st = refl
  next_keeps f.Truth ws st = refl
  next_keeps (f.Chooses same when_true when_false) ws st = refl
  next_keeps (f.Second same second) ws st = refl
  next_keeps (f.Argument same callee before rest) ws st = refl
  next_keeps (f.CallsThrough function vs) ws st = refl
  next_keeps f.Discards ws st = refl
  next_keeps (f.Tests body) ws st = refl
  next_keeps (f.Divides when_true when_false) ws st = refl
  next_keeps (f.TurnTest test step body) ws st = refl
  next_keeps (f.Stepped test step body) ws st = refl
  next_keeps (f.RedoTest body test) ws st = refl
  next_keeps (f.Switches body) ws st = refl
  next_keeps f.Gives ws st = refl
  next_keeps (f.CellValue cell rest) ws st = refl
  next_keeps (f.Then rest) ws st = refl
  next_keeps (f.Closes locals) ws st = refl
  next_keeps (f.Initialises names) ws st = refl
  next_keeps (f.Loops test after_body body) ws st = refl
  next_keeps (f.Turns test after_body body) ws st = turn_behind_keeps test after_body body ws st
  next_keeps (f.Redoes body test) ws st = refl
  next_keeps f.Breaks ws st = refl
  next_keeps (f.Returns function caller) ws st = choose_keeps program (gives_nothing function.of) _ _ st _ _ refl (choose_keeps program (bytes_eq function.name main) _ _ st _ _ refl refl)

  pub leave_keeps : (w : Frame) (ws : List Frame) (st : State) → (frame program w (konts program ws)).exits.leave st ≡ after program (leave w ws st)
  unfolding konts
  leave_keeps (f.Moves offset) ws st = refl
  leave_keeps f.Points ws st = refl
  leave_keeps (f.Loads of) ws st = refl
  leave_keeps (f.LoadsSigned schema of) ws st = refl
  leave_keeps (f.StoreRight value old of) ws st = refl
  leave_keeps (f.Stores at old of) ws st = refl
  leave_keeps (f.Converts of) ws st = refl
  leave_keeps (f.Applies op of) ws st = refl
  leave_keeps (f.CombineRight same op right of) ws st = refl
  leave_keeps (f.Combines op left of) ws st = refl
  leave_keeps (f.AddRight same right pointer_left subtracts element) ws st = refl
  leave_keeps (f.Adds left pointer_left subtracts element) ws st = refl
  leave_keeps (f.SubtractRight same right element) ws st = refl
  leave_keeps (f.Subtracts left element) ws st = refl
  leave_keeps (f.CompareRight same op right) ws st = refl
  leave_keeps (f.Compares op left) ws st = refl
  leave_keeps (f.AndRight same right) ws st = refl
  leave_keeps (f.OrRight same right) ws st = refl
  leave_keeps f.Truth ws st = refl
  leave_keeps (f.Chooses same when_true when_false) ws st = refl
  leave_keeps (f.Second same second) ws st = refl
  leave_keeps (f.Argument same callee before rest) ws st = refl
  leave_keeps (f.CallsThrough function vs) ws st = refl
  leave_keeps f.Discards ws st = refl
  leave_keeps (f.Tests body) ws st = refl
  leave_keeps (f.Divides when_true when_false) ws st = refl
  leave_keeps (f.TurnTest test step body) ws st = refl
  leave_keeps (f.Stepped test step body) ws st = refl
  leave_keeps (f.RedoTest body test) ws st = refl
  leave_keeps (f.Switches body) ws st = refl
  leave_keeps f.Gives ws st = refl
  leave_keeps (f.CellValue cell rest) ws st = refl
  leave_keeps (f.Then rest) ws st = refl
  leave_keeps (f.Closes locals) ws st = refl
  leave_keeps (f.Initialises names) ws st = refl
  leave_keeps (f.Loops test after_body body) ws st = refl
  leave_keeps (f.Turns test after_body body) ws st = refl
  leave_keeps (f.Redoes body test) ws st = refl
  leave_keeps f.Breaks ws st = refl
  leave_keeps (f.Returns function caller) ws st = refl

  pub proceed_keeps : (w : Frame) (ws : List Frame) (st : State) → (frame program w (konts program ws)).exits.proceed st ≡ after program (proceed w ws st)
  unfolding test konts
  proceed_keeps (f.Moves offset) ws st = refl
  proceed_keeps f.Points ws st = refl
  proceed_keeps (f.Loads of) ws st = refl
  proceed_keeps (f.LoadsSigned schema of) ws st = refl
  proceed_keeps (f.StoreRight value old of) ws st = refl
  proceed_keeps (f.Stores at old of) ws st = refl
  proceed_keeps (f.Converts of) ws st = refl
  proceed_keeps (f.Applies op of) ws st = refl
  proceed_keeps (f.CombineRight same op right of) ws st = refl
  proceed_keeps (f.Combines op left of) ws st = refl
  proceed_keeps (f.AddRight same right pointer_left subtracts element) ws st = refl
  proceed_keeps (f.Adds left pointer_left subtracts element) ws st = refl
  proceed_keeps (f.SubtractRight same right element) ws st = refl
  proceed_keeps (f.Subtracts left element) ws st = refl
  proceed_keeps (f.CompareRight same op right) ws st = refl
  proceed_keeps (f.Compares op left) ws st = refl
  proceed_keeps (f.AndRight same right) ws st = refl
  proceed_keeps (f.OrRight same right) ws st = refl
  proceed_keeps f.Truth ws st = refl
  proceed_keeps (f.Chooses same when_true when_false) ws st = refl
  proceed_keeps (f.Second same second) ws st = refl
  proceed_keeps (f.Argument same callee before rest) ws st = refl
  proceed_keeps (f.CallsThrough function vs) ws st = refl
  proceed_keeps f.Discards ws st = refl
  proceed_keeps (f.Tests body) ws st = refl
  proceed_keeps (f.Divides when_true when_false) ws st = refl
  proceed_keeps (f.TurnTest test step body) ws st = refl
  proceed_keeps (f.Stepped test step body) ws st = refl
  proceed_keeps (f.RedoTest body test) ws st = refl
  proceed_keeps (f.Switches body) ws st = refl
  proceed_keeps f.Gives ws st = refl
  proceed_keeps (f.CellValue cell rest) ws st = refl
  proceed_keeps (f.Then rest) ws st = refl
  proceed_keeps (f.Closes locals) ws st = refl
  proceed_keeps (f.Initialises names) ws st = refl
  proceed_keeps (f.Loops test after_body body) ws st = refl
  proceed_keeps (f.Turns test after_body body) ws st = turn_behind_keeps test after_body body ws st
  proceed_keeps (f.Redoes body test) ws st = refl
  proceed_keeps f.Breaks ws st = refl
  proceed_keeps (f.Returns function caller) ws st = refl

  pub give_back_keeps : (v : CValue) (w : Frame) (ws : List Frame) (st : State) → (frame program w (konts program ws)).exits.give v st ≡ after program (give_back v w ws st)
  unfolding konts
  give_back_keeps v (f.Moves offset) ws st = refl
  give_back_keeps v f.Points ws st = refl
  give_back_keeps v (f.Loads of) ws st = refl
  give_back_keeps v (f.LoadsSigned schema of) ws st = refl
  give_back_keeps v (f.StoreRight value old of) ws st = refl
  give_back_keeps v (f.Stores at old of) ws st = refl
  give_back_keeps v (f.Converts of) ws st = refl
  give_back_keeps v (f.Applies op of) ws st = refl
  give_back_keeps v (f.CombineRight same op right of) ws st = refl
  give_back_keeps v (f.Combines op left of) ws st = refl
  give_back_keeps v (f.AddRight same right pointer_left subtracts element) ws st = refl
  give_back_keeps v (f.Adds left pointer_left subtracts element) ws st = refl
  give_back_keeps v (f.SubtractRight same right element) ws st = refl
  give_back_keeps v (f.Subtracts left element) ws st = refl
  give_back_keeps v (f.CompareRight same op right) ws st = refl
  give_back_keeps v (f.Compares op left) ws st = refl
  give_back_keeps v (f.AndRight same right) ws st = refl
  give_back_keeps v (f.OrRight same right) ws st = refl
  give_back_keeps v f.Truth ws st = refl
  give_back_keeps v (f.Chooses same when_true when_false) ws st = refl
  give_back_keeps v (f.Second same second) ws st = refl
  give_back_keeps v (f.Argument same callee before rest) ws st = refl
  give_back_keeps v (f.CallsThrough function vs) ws st = refl
  give_back_keeps v f.Discards ws st = refl
  give_back_keeps v (f.Tests body) ws st = refl
  give_back_keeps v (f.Divides when_true when_false) ws st = refl
  give_back_keeps v (f.TurnTest test step body) ws st = refl
  give_back_keeps v (f.Stepped test step body) ws st = refl
  give_back_keeps v (f.RedoTest body test) ws st = refl
  give_back_keeps v (f.Switches body) ws st = refl
  give_back_keeps v f.Gives ws st = refl
  give_back_keeps v (f.CellValue cell rest) ws st = refl
  give_back_keeps v (f.Then rest) ws st = refl
  give_back_keeps v (f.Closes locals) ws st = refl
  give_back_keeps v (f.Initialises names) ws st = refl
  give_back_keeps v (f.Loops test after_body body) ws st = refl
  give_back_keeps v (f.Turns test after_body body) ws st = refl
  give_back_keeps v (f.Redoes body test) ws st = refl
  give_back_keeps v f.Breaks ws st = refl
  give_back_keeps v (f.Returns function caller) ws st = refl

  -- ---- statements

  block_keeps : (locals : List ℕ) (now : Now) (ws : List Frame) (st : State) → given (born program.structs locals st.world) (λ w. meaning program (record { now = now; frames = f.Closes locals ∷ ws; state = record st { world = w } })) ≡ after program (block_step program locals now ws st)
  block_keeps locals now ws st = given_keeps program (born program.structs locals st.world) st _ (λ w. goes now (f.Closes locals ∷ ws) (record st { world = w })) (λ w. refl)

  pub local_keeps : (initials : Option (List TypedInitial)) (local : ℕ) (ws : List Frame) (st : State) → given_initials program (run program) initials local (konts program ws).exits.next st ≡ after program (local_step program initials local ws st)
  local_keeps None local ws st = refl
  local_keeps (Some is) local ws st = given_keeps program (owner_of st.world local) st _ _ (λ owner. given_keeps program (slice_get st.world.here.locals local) st _ _ (λ l. given_keeps program (bytes_of program.structs l.of) st _ _ (λ size. refl)))

  for_keeps : (start : TypedForStart) (condition : Option TypedExpr) (after_body : Option TypedExpr) (body : TypedStmt) (ws : List Frame) (st : State)
      → begin_for program (run program) start (loop program (run program) condition (next_turn program condition after_body body (konts program ws).exits) (exec program (run program) body) (konts program ws).exits) st ≡ after program (for_step start condition after_body body ws st)
  unfolding begin_for evaluate konts
  for_keeps (Declares names) condition after_body body ws st = refl
  for_keeps (Evaluates None) condition after_body body ws st = refl
  for_keeps (Evaluates (Some e)) condition after_body body ws st = refl

  pub stmt_keeps : (s : TypedStmt) (ws : List Frame) (st : State) → exec program (run program) s (konts program ws).exits st ≡ after program (tick_step st (begin_stmt program s ws))
  unfolding exec execs block init_local evaluate test konts
  stmt_keeps (Compound items) ws st = tick_keeps program st _ (begin_stmt program (Compound items) ws) (λ n. block_keeps (block_locals items) (f.Execs items) ws (record st { left = n }))
  stmt_keeps (InitLocal name) ws st = tick_keeps program st _ (begin_stmt program (InitLocal name) ws) (λ n. local_keeps name.initials name.local ws (record st { left = n }))
  stmt_keeps (Expression None) ws st = tick_keeps program st _ (begin_stmt program (Expression None) ws) (λ n. refl)
  stmt_keeps (Expression (Some e)) ws st = tick_keeps program st _ (begin_stmt program (Expression (Some e)) ws) (λ n. refl)
  stmt_keeps (If test body) ws st = tick_keeps program st _ (begin_stmt program (If test body) ws) (λ n. refl)
  stmt_keeps (IfElse test when_true when_false) ws st = tick_keeps program st _ (begin_stmt program (IfElse test when_true when_false) ws) (λ n. refl)
  stmt_keeps (While test body) ws st = tick_keeps program st _ (begin_stmt program (While test body) ws) (λ n. refl)
  stmt_keeps (DoWhile body test) ws st = tick_keeps program st _ (begin_stmt program (DoWhile body test) ws) (λ n. refl)
  stmt_keeps (For start test after_body body) ws st = tick_keeps program st _ (begin_stmt program (For start test after_body body) ws) (λ n. given_keeps program (born program.structs (start_locals start) st.world) (record st { left = n }) _ _ (λ w. for_keeps start test after_body body (f.Closes (start_locals start) ∷ ws) (record st { left = n; world = w })))
  stmt_keeps (Switch value body) ws st = tick_keeps program st _ (begin_stmt program (Switch value body) ws) (λ n. refl)
  stmt_keeps (Case value of body) ws st = tick_keeps program st _ (begin_stmt program (Case value of body) ws) (λ n. refl)
  stmt_keeps (Default body) ws st = tick_keeps program st _ (begin_stmt program (Default body) ws) (λ n. refl)
  stmt_keeps Break ws st = tick_keeps program st _ (begin_stmt program Break ws) (λ n. refl)
  stmt_keeps Continue ws st = tick_keeps program st _ (begin_stmt program Continue ws) (λ n. refl)
  stmt_keeps (Return None) ws st = tick_keeps program st _ (begin_stmt program (Return None) ws) (λ n. refl)
  stmt_keeps (Return (Some e)) ws st = tick_keeps program st _ (begin_stmt program (Return (Some e)) ws) (λ n. refl)

  source_keeps : (source : Source) (cell : Cell) (rest : Cells) (ws : List Frame) (st : State)
      → cell_given program (run program) source rest.owner cell (cells_given program (run program) rest.initials rest.owner rest.cells rest.size (konts program ws).exits.next) st ≡ after program (source_step source cell rest ws st)
  unfolding konts
  source_keeps (FromValue e) cell rest ws st = refl
  source_keeps (FromByte byte) cell rest ws st = given_keeps program (converted cell.of (value.Number (pos byte))) st _ _ (λ v. refl)
  source_keeps FromZero cell rest ws st = refl

  cells_keep : (is : List TypedInitial) (owner : Owner) (cells : List Cell) (size : ℕ) (ws : List Frame) (st : State) → cells_given program (run program) is owner cells size (konts program ws).exits.next st ≡ after program (cells_step program is owner cells size ws st)
  unfolding cells_given given_step
  cells_keep is owner [] size ws st = choose_keeps program (is_last (next_source program is size)) _ _ st _ _ refl refl
  cells_keep is owner (cell ∷ cells) size ws st = by_source (next_source program is cell.at)
    where
      by_source : (o : Option Next) → cell_next program (run program) o owner cell (λ is. cells_given program (run program) is owner cells size (konts program ws).exits.next) st
          ≡ after program (given_step o st (λ n. source_step n.source cell (record { initials = n.rest; owner = owner; cells = cells; size = size }) ws st))
      by_source None = refl
      by_source (Some n) = source_keeps n.source cell (record { initials = n.rest; owner = owner; cells = cells; size = size }) ws st

  select_keeps : (n : ℤ) (cases : List (Option ℤ)) (items : TypedStmts) (ws : List Frame) (st : State) → meaning program (record { now = f.Select n cases items; frames = ws; state = st }) ≡ after program (select_step n cases items ws st)
  unfolding select konts
  select_keeps n [] items ws st = choose_keeps program (any_default items) _ _ st _ _ refl refl
  select_keeps n (None ∷ cs) items ws st = tick_keeps program st _ _ (λ n. refl)
  select_keeps n (Some c ∷ cs) items ws st =
      tick_keeps program st _ (λ st. if same_int c n then goes (f.Enter (AtCase n) items) (f.Breaks ∷ ws) st else goes (f.Select n cs items) ws st) (λ left. choose_keeps program (same_int c n) _ _ (record st { left = left }) _ _ refl refl)

  abbrev enters : Target → TypedStmt → Exits → State → Meaning
  enters target s x st = given (behind_label target s) (λ body. tick st (exec program (run program) body x))

  -- a statement that has the label is entered behind it
  label_is : (target : Target) (s : TypedStmt) (x : Exits) (st : State) → has_label target s ≡ true → enter_at program (run program) target s x st ≡ enters target s x st
  unfolding enter_at execs_from choose
  label_is target (Case value of body) x st h = by_test (is_case target value of) h (label_is target body x st)
    where
      by_test : (b : Bool) → (b || has_label target body) ≡ true
          → (has_label target body ≡ true → enter_at program (run program) target body x st ≡ enters target body x st)
          → choose b (λ st. tick st (exec program (run program) body x)) (enter_at program (run program) target body x) st ≡ given (if b then Some body else behind_label target body) (λ body. tick st (exec program (run program) body x))
      by_test true h more = refl
      by_test false h more = more h
  label_is target (Default body) x st h = by_test (is_default target) h (label_is target body x st)
    where
      by_test : (b : Bool) → (b || has_label target body) ≡ true
          → (has_label target body ≡ true → enter_at program (run program) target body x st ≡ enters target body x st)
          → choose b (λ st. tick st (exec program (run program) body x)) (enter_at program (run program) target body x) st ≡ given (if b then Some body else behind_label target body) (λ body. tick st (exec program (run program) body x))
      by_test true h more = refl
      by_test false h more = more h
  label_is target (Compound items) x st h = cc
  label_is target (InitLocal name) x st h = cc
  label_is target (Expression value) x st h = cc
  label_is target (If condition body) x st h = cc
  label_is target (IfElse condition when_true when_false) x st h = cc
  label_is target (While condition body) x st h = cc
  label_is target (DoWhile body condition) x st h = cc
  label_is target (For start condition after_body body) x st h = cc
  label_is target (Switch value body) x st h = cc
  label_is target Break x st h = cc
  label_is target Continue x st h = cc
  label_is target (Return value) x st h = cc

  given_map : {A B : Type 0} (o : Option A) (f : A → B) (go : B → Meaning) → given o (λ a. go (f a)) ≡ given (option_map f o) go
  given_map None f go = refl
  given_map (Some a) f go = refl

  labelled_is : (target : Target) (ss : TypedStmts) (x : Exits) (st : State)
      → execs_from program (run program) target ss x st ≡ given (labelled target ss) (λ l. tick st (exec program (run program) l.body (record x { next = execs program (run program) l.rest x })))
  unfolding enter_at execs_from
  labelled_is target NoTStmts x st = refl
  labelled_is target (ConsTStmt s ss) x st = by_test (has_label target s) refl (labelled_is target ss x st)
    where
      by_test : (b : Bool) → has_label target s ≡ b
          → execs_from program (run program) target ss x st ≡ given (labelled target ss) (λ l. tick st (exec program (run program) l.body (record x { next = execs program (run program) l.rest x })))
          → choose b (enter_at program (run program) target s (record x { next = execs program (run program) ss x })) (execs_from program (run program) target ss x) st
          ≡ given (if b then option_map (λ body. record { body = body; rest = ss }) (behind_label target s) else labelled target ss) (λ l. tick st (exec program (run program) l.body (record x { next = execs program (run program) l.rest x })))
      by_test true h more = choose_true _ _ st ∙ label_is target s (record x { next = execs program (run program) ss x }) st h
          ∙ given_map (behind_label target s) (λ body. record { body = body; rest = ss }) (λ (l : Labelled). tick st (exec program (run program) l.body (record x { next = execs program (run program) l.rest x })))
      by_test false h more = choose_false _ _ st ∙ more

  among_keeps : (target : Target) (ss : TypedStmts) (ws : List Frame) (st : State) → execs_from program (run program) target ss (konts program ws).exits st ≡ after program (among_step target ss ws st)
  unfolding konts
  among_keeps target ss ws st = labelled_is target ss (konts program ws).exits st
      ∙ given_keeps program (labelled target ss) st _ _ (λ l. tick_keeps program st _ (λ st. goes (f.Exec l.body) (f.Then l.rest ∷ ws) st) (λ n. refl))

  -- ---- calls

  arguments_keep : (same : Option Place) (callee : Callee) (before : List CValue) (rest : TypedExprs) (ws : List Frame) (st : State) → meaning program (record { now = f.Evals same callee before rest; frames = ws; state = st }) ≡ after program (arguments_step same callee before rest ws st)
  unfolding eval evals konts
  arguments_keep same (Named name) before NoTExprs ws st = refl
  arguments_keep same (Through function) before NoTExprs ws st = refl
  arguments_keep same (Named name) before (ConsTExpr e es) ws st = refl
  arguments_keep same (Through function) before (ConsTExpr e es) ws st = refl

  puts_keeps : (vs : List CValue) (ws : List Frame) (st : State) → puts vs (konts program ws).value st ≡ after program (puts_step vs ws st)
  unfolding puts
  puts_keeps [] ws st = refl
  puts_keeps (value.Number n ∷ []) ws st = tick_keeps program st _ _ (λ left. refl)
  puts_keeps (value.Number n ∷ v ∷ vs) ws st = refl
  puts_keeps (At place ∷ vs) ws st = refl
  puts_keeps (Code name ∷ vs) ws st = refl
  puts_keeps (Null ∷ vs) ws st = refl

  byte_keeps : (bytes : List ℕ) (ws : List Frame) (st : State) → next_byte bytes (konts program ws).value st ≡ after program (byte_step bytes ws st)
  byte_keeps [] ws st = refl
  byte_keeps (byte ∷ bytes) ws st = refl

  gets_keeps : (vs : List CValue) (ws : List Frame) (st : State) → gets vs (konts program ws).value st ≡ after program (gets_step vs ws st)
  unfolding gets
  gets_keeps [] ws st = tick_keeps program st _ _ (λ left. ap (entered getchar st.world.here.depth) (byte_keeps st.world.input ws (record st { left = left })))
  gets_keeps (v ∷ vs) ws st = refl

  called_keeps : (o : Option FunctionTree) (name : List ℕ) (vs : List CValue) (ws : List Frame) (st : State) → called program (run program) o name vs (konts program ws).value st ≡ after program (called_step program o name vs ws st)
  unfolding runtime enter perform konts
  called_keeps None name vs ws st = choose_keeps program (bytes_eq name putchar) _ _ st _ _ (puts_keeps vs ws st) (choose_keeps program (bytes_eq name getchar) _ _ st _ _ (gets_keeps vs ws st) refl)
  called_keeps (Some function) name vs ws st =
      tick_keeps program st _ (enter_function program function vs ws)
      (λ left. given_keeps program (entering program.structs function vs st.world) (record st { left = left }) _ _
      (λ w. ap (entered function.name w.here.depth) (run_is program (Body function.body) (exits_of function (konts program ws).value st.world.here) (record st { left = left; world = w }))))

  -- ---- the whole

  status_keeps : (v : CValue) (st : State) → status v st ≡ after program (status_step v st)
  status_keeps (value.Number n) st = by_test (is_in_range 32 true n)
    where
      by_test : (b : Bool) → (if b then ends (Done n) else undefined) ≡ after program (if b then ends_at (Done n) st else ends_at Undefined st)
      by_test true = refl
      by_test false = refl
  status_keeps (At place) st = refl
  status_keeps (Code name) st = refl
  status_keeps Null st = refl

  now_keeps : (now : Now) (ws : List Frame) (st : State) → resume program now (konts program ws) st ≡ after program (step_of program now ws st)
  unfolding execs enter_at execs_from block init_locals init_local loop redo test call konts
  now_keeps (f.Eval same e) ws st = begin_keeps program same e ws st
  now_keeps (f.Gave v) [] st = status_keeps v st
  now_keeps (f.Gave v) (w ∷ ws) st = give_keeps program v w ws st
  now_keeps (f.Evals same callee before rest) ws st = arguments_keep same callee before rest ws st
  now_keeps (f.Called name vs) ws st = called_keeps (function_named program.functions name) name vs ws st
  now_keeps (f.Exec s) ws st = stmt_keeps s ws st
  now_keeps (f.Execs NoTStmts) ws st = refl
  now_keeps (f.Execs (ConsTStmt s ss)) ws st = refl
  now_keeps (f.Initialise []) ws st = refl
  now_keeps (f.Initialise (name ∷ names)) ws st =
      tick_keeps program st _ (local_step program name.initials name.local (f.Initialises names ∷ ws)) (λ left. local_keeps name.initials name.local (f.Initialises names ∷ ws) (record st { left = left }))
  now_keeps (f.GiveCells cs) ws st = cells_keep cs.initials cs.owner cs.cells cs.size ws st
  now_keeps (f.GiveCell v cell rest) ws st =
      tick_keeps program st _ _ (λ left. given_keeps program (initialised_at st.world (record { owner = rest.owner; offset = cell.at }) cell.of v) (record st { left = left }) _ _ (λ w. refl))
  now_keeps (f.Loop None after_body body) ws st = turn_keeps program st _ _ refl
  now_keeps (f.Loop (Some condition) after_body body) ws st = refl
  now_keeps (f.Redo body condition) ws st = turn_keeps program st _ _ refl
  now_keeps (f.Select n cases items) ws st = select_keeps n cases items ws st
  now_keeps (f.Enter target items) ws st =
      tick_keeps program st _ (block_step program (block_locals items) (f.EnterAmong target items) ws) (λ n. block_keeps (block_locals items) (f.EnterAmong target items) ws (record st { left = n }))
  now_keeps (f.EnterAmong target ss) ws st = among_keeps target ss ws st
  now_keeps f.Next [] st = refl
  now_keeps f.Next (w ∷ ws) st = next_keeps w ws st
  now_keeps f.Leave [] st = refl
  now_keeps f.Leave (w ∷ ws) st = leave_keeps w ws st
  now_keeps f.Proceed [] st = refl
  now_keeps f.Proceed (w ∷ ws) st = proceed_keeps w ws st
  now_keeps (f.Give v) [] st = refl
  now_keeps (f.Give v) (w ∷ ws) st = give_back_keeps v w ws st
  now_keeps (f.Ended end) ws st = refl

  -- what a run gives is what it gives from its next step on, with what the step puts in front
  pub step_keeps : (m : Machine) → meaning program m ≡ after program (step program m)
  unfolding step
  step_keeps m = now_keeps m.now m.frames m.state
