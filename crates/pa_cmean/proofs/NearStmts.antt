-- Two runs that go on alike give alike: statements.
use Rattle.std.proofs.Common.{ℕ, Bool, List, [], ◌∷◌, Option, Some, None}
use Rattle.std.specs.Prelude.{ℤ, pos, slice_get}
use Rattle.pa_ctype.specs.Values as value
use Rattle.pa_ctype.specs.Values.{Place, Owner, CValue, At, Code, Null, Cell, cells_in}
use Rattle.pa_typed.specs.Typed.{TypedExpr, TypedInitial, TypedLocalInit, TypedForStart, Declares, Evaluates, TypedStmt, TypedStmts, Compound, InitLocal, Expression, If, IfElse, While, DoWhile, For, Switch, Case, Default, Break, Continue, Return, NoTStmts, ConsTStmt}
use Rattle.pa_integer.specs.Integers.{same_int}
use Rattle.pa_cmean.specs.Results.{Meaning}
use Rattle.pa_typed.specs.Units.{ProgramTree}
use Rattle.pa_cmean.specs.Operations.{truth, nothing, converted, bytes_of}
use Rattle.pa_cmean.specs.State.{State, Cont, Exits, Job, Turn, Redo, Again, tick, choose, initialised_at, owner_of, born, closing}
use Rattle.pa_cmean.specs.Expressions.{eval}
use Rattle.pa_cmean.specs.Statements.{Source, FromValue, FromByte, FromZero, Next, next_source, is_last, zero_of, Target, AtCase, AtDefault, is_case, is_default, has_label, cases_of, has_default, select, switch_on, block_locals, start_locals, block, looping, give_cell, cell_given, cell_next, cells_given, given_initials, init_local, init_locals, evaluate, test, begin_for, loop, redo, exec, execs, enter_at, execs_from}
use Rattle.pa_cmean.proofs.Near.{Laws, Near, Within, soon, NearExits, nowhere, tick_alike, turn_alike, choose_near, given_near, onward_near, closing_near}
use Rattle.pa_cmean.proofs.NearExprs.{eval_alike}

module _ (R : ℕ → Meaning → Meaning → Type 0) (d : ℕ) (laws : Laws R d) (m : ℕ) where
  abbrev Close : (State → Meaning) → (State → Meaning) → Type 0
  Close = Near R d laws m

  abbrev CloseConts : Cont → Cont → Type 0
  CloseConts k k' = (v : CValue) → Close (k v) (k' v)

  abbrev CloseExits : Exits → Exits → Type 0
  CloseExits = NearExits R d laws m

  near : {go go' : State → Meaning} → Within R d laws m go go' → Close go go'
  near {go} {go'} h = soon R d laws m go go' h

  ticked : {go go' : State → Meaning} → Close go go' → Within R d laws m (λ st. tick st go) (λ st. tick st go')
  ticked {go} {go'} h = tick_alike R d laws m go go' h

  either : (b : Bool) {on_true on_true' on_false on_false' : State → Meaning} → Close on_true on_true' → Close on_false on_false' → Close (choose b on_true on_false) (choose b on_true' on_false')
  either b {on_true} {on_true'} {on_false} {on_false'} h i = choose_near R d laws m b on_true on_true' on_false on_false' h i

  -- the ways out with another way behind
  with_next : (x y : Exits) (next next' : State → Meaning) → CloseExits x y → Close next next' → CloseExits (record x { next = next }) (record y { next = next' })
  with_next x y next next' h i = record { next = i; leave = h.leave; proceed = h.proceed; give = h.give }

  looping_near : (x y : Exits) (more more' : State → Meaning) → CloseExits x y → Close more more' → CloseExits (looping more x) (looping more' y)
  looping_near x y more more' h i = record { next = i; leave = h.next; proceed = i; give = h.give }

  block_near : (program : ProgramTree) (locals : List ℕ) (go go' : Exits → State → Meaning) → ((x y : Exits) → CloseExits x y → Close (go x) (go' y)) → (x y : Exits) → CloseExits x y → Close (block program locals go x) (block program locals go' y)
  unfolding block
  block_near program locals go go' h x y i = onward_near R d laws m (λ w. born program.structs locals w) (λ w. go (closing locals x)) (λ w. go' (closing locals y)) (λ w. h _ _ (closing_near R d laws m locals x y i))

  select_near : (n : ℤ) (cs : List (Option ℤ)) (has : Bool) (go go' : Target → State → Meaning) (past past' : State → Meaning) → ((t : Target) → Close (go t) (go' t)) → Close past past' → Close (select n cs has go past) (select n cs has go' past')
  unfolding select
  select_near n [] has go go' past past' h i = either has (h AtDefault) i
  select_near n (None ∷ cs) has go go' past past' h i = near (ticked (nowhere R d laws m))
  select_near n (Some c ∷ cs) has go go' past past' h i = near (ticked (either (same_int c n) (h (AtCase n)) (select_near n cs has go go' past past' h i)))

  switch_near : (v : CValue) (cs : List (Option ℤ)) (has : Bool) (go go' : Target → State → Meaning) (past past' : State → Meaning) → ((t : Target) → Close (go t) (go' t)) → Close past past' → Close (switch_on v cs has go past) (switch_on v cs has go' past')
  unfolding switch_on
  switch_near (value.Number n) cs has go go' past past' h i = select_near n cs has go go' past past' h i
  switch_near (At place) cs has go go' past past' h i = nowhere R d laws m
  switch_near (Code name) cs has go go' past past' h i = nowhere R d laws m
  switch_near Null cs has go go' past past' h i = nowhere R d laws m

  module _ (program : ProgramTree) (a a' : Again) (alike : (j : Job) (x y : Exits) → NearExits R d laws m x y → Near R d laws m (a j x) (a' j y)) where
    eval_near : (e : TypedExpr) (k k' : Cont) → CloseConts k k' → Close (eval program a None e k) (eval program a' None e k')
    eval_near e k k' h = near (eval_alike R d laws m program a a' alike None e k k' h)

    give_cell_near : (owner : Owner) (cell : Cell) (next next' : State → Meaning) → Close next next' → CloseConts (give_cell program a owner cell next) (give_cell program a' owner cell next')
    give_cell_near owner cell next next' h v = near (ticked (onward_near R d laws m (λ w. initialised_at w (record { owner = owner; offset = cell.at }) cell.of v) (λ w. next) (λ w. next') (λ w. h)))

    cell_given_near : (s : Source) (owner : Owner) (cell : Cell) (next next' : State → Meaning) → Close next next' → Close (cell_given program a s owner cell next) (cell_given program a' s owner cell next')
    cell_given_near (FromValue e) owner cell next next' h = eval_near e _ _ (give_cell_near owner cell next next' h)
    cell_given_near (FromByte byte) owner cell next next' h = given_near R d laws m (λ w. converted cell.of (value.Number (pos byte))) _ _ (give_cell_near owner cell next next' h)
    cell_given_near FromZero owner cell next next' h = give_cell_near owner cell next next' h (zero_of cell.of)

    cell_next_near : (o : Option Next) (owner : Owner) (cell : Cell) (next next' : List TypedInitial → State → Meaning) → ((is : List TypedInitial) → Close (next is) (next' is)) → Close (cell_next program a o owner cell next) (cell_next program a' o owner cell next')
    cell_next_near None owner cell next next' h = nowhere R d laws m
    cell_next_near (Some n) owner cell next next' h = cell_given_near n.source owner cell (next n.rest) (next' n.rest) (h n.rest)

    cells_given_near : (is : List TypedInitial) (owner : Owner) (cells : List Cell) (size : ℕ) (next next' : State → Meaning) → Close next next' → Close (cells_given program a is owner cells size next) (cells_given program a' is owner cells size next')
    unfolding cells_given
    cells_given_near is owner [] size next next' h = either (is_last (next_source program is size)) h (nowhere R d laws m)
    cells_given_near is owner (cell ∷ cells) size next next' h = cell_next_near (next_source program is cell.at) owner cell _ _ (λ is. cells_given_near is owner cells size next next' h)

    initials_near : (is : Option (List TypedInitial)) (local : ℕ) (next next' : State → Meaning) → Close next next' → Close (given_initials program a is local next) (given_initials program a' is local next')
    initials_near None local next next' h = h
    initials_near (Some is) local next next' h =
        given_near R d laws m (λ w. owner_of w local) _ _ (λ owner. given_near R d laws m (λ w. slice_get w.here.locals local) _ _ (λ l. given_near R d laws m (λ w. bytes_of program.structs l.of) _ _ (λ size. cells_given_near is owner (cells_in program.structs l.of) size next next' h)))

    init_local_alike : (name : TypedLocalInit) (next next' : State → Meaning) → Close next next' → Within R d laws m (init_local program a name next) (init_local program a' name next')
    unfolding init_local
    init_local_alike name next next' h = ticked (initials_near name.initials name.local next next' h)

    init_locals_near : (names : List TypedLocalInit) (next next' : State → Meaning) → Close next next' → Close (init_locals program a names next) (init_locals program a' names next')
    unfolding init_locals
    init_locals_near [] next next' h = h
    init_locals_near (name ∷ names) next next' h = near (init_local_alike name _ _ (init_locals_near names next next' h))

    pub evaluate_near : (e : Option TypedExpr) (next next' : State → Meaning) → Close next next' → Close (evaluate program a e next) (evaluate program a' e next')
    unfolding evaluate
    evaluate_near None next next' h = h
    evaluate_near (Some e) next next' h = eval_near e _ _ (λ v. h)

    test_near : (e : Option TypedExpr) (on_true on_true' on_false on_false' : State → Meaning) → Close on_true on_true' → Close on_false on_false' → Close (test program a e on_true on_false) (test program a' e on_true' on_false')
    unfolding test
    test_near None on_true on_true' on_false on_false' h i = h
    test_near (Some e) on_true on_true' on_false on_false' h i = eval_near e _ _ (λ v. either (truth v) h i)

    begin_near : (start : TypedForStart) (next next' : State → Meaning) → Close next next' → Close (begin_for program a start next) (begin_for program a' start next')
    unfolding begin_for
    begin_near (Declares names) next next' h = init_locals_near names next next' h
    begin_near (Evaluates value) next next' h = evaluate_near value next next' h

    test_alike : (e : Option TypedExpr) (on_true on_true' on_false on_false' : State → Meaning) → Within R d laws m on_true on_true' → Close on_false on_false' → Within R d laws m (test program a e on_true on_false) (test program a' e on_true' on_false')
    unfolding test
    test_alike None on_true on_true' on_false on_false' h i = h
    test_alike (Some e) on_true on_true' on_false on_false' h i = eval_alike R d laws m program a a' alike None e _ _ (λ v. either (truth v) (near h) i)

    abbrev AlikeBodies : (Exits → State → Meaning) → (Exits → State → Meaning) → Type 0
    AlikeBodies body body' = (x y : Exits) → CloseExits x y → Within R d laws m (body x) (body' y)

    pub loop_alike : (condition : Option TypedExpr) (more more' : State → Meaning) (body body' : Exits → State → Meaning) (x y : Exits) → Close more more' → AlikeBodies body body' → CloseExits x y → Within R d laws m (loop program a condition more body x) (loop program a' condition more' body' y)
    unfolding loop
    loop_alike condition more more' body body' x y h i j = test_alike condition _ _ _ _ (turn_alike R d laws m _ _ (i _ _ (looping_near x y more more' j h))) j.next

    pub redo_alike : (body body' : Exits → State → Meaning) (condition : TypedExpr) (more more' : State → Meaning) (x y : Exits) → Close more more' → AlikeBodies body body' → CloseExits x y → Within R d laws m (redo program a body condition more x) (redo program a' body' condition more' y)
    unfolding redo
    redo_alike body body' condition more more' x y h i j = turn_alike R d laws m _ _ (i _ _ (looping_near x y _ _ j (test_near (Some condition) more more' x.next y.next h j.next)))

    mutual
      unfolding exec

      pub exec_alike : (s : TypedStmt) (x y : Exits) → CloseExits x y → Within R d laws m (exec program a s x) (exec program a' s y)
      exec_alike (Compound items) x y h = ticked (block_near program (block_locals items) _ _ (λ x y h. execs_near items x y h) x y h)
      exec_alike (InitLocal name) x y h = init_local_alike name x.next y.next h.next
      exec_alike (Expression value) x y h = ticked (evaluate_near value x.next y.next h.next)
      exec_alike (If condition body) x y h = ticked (test_near (Some condition) _ _ _ _ (near (exec_alike body x y h)) h.next)
      exec_alike (IfElse condition when_true when_false) x y h = ticked (test_near (Some condition) _ _ _ _ (near (exec_alike when_true x y h)) (near (exec_alike when_false x y h)))
      exec_alike (While condition body) x y h = ticked (near (loop_alike (Some condition) _ _ _ _ x y (alike (Turn (Some condition) None body) x y h) (λ x y h. exec_alike body x y h) h))
      exec_alike (DoWhile body condition) x y h = ticked (near (redo_alike _ _ condition _ _ x y (alike (Redo body condition) x y h) (λ x y h. exec_alike body x y h) h))
      exec_alike (For start condition step body) x y h =
          ticked (block_near program (start_locals start) _ _ (λ x y h. begin_near start _ _ (near (loop_alike condition _ _ _ _ x y (evaluate_near step _ _ (alike (Turn condition step body) x y h)) (λ x y h. exec_alike body x y h) h))) x y h)
      exec_alike (Switch value body) x y h =
          ticked (eval_near value _ _ (λ v. switch_near v (cases_of body) (has_default body) _ _ _ _ (λ t. enter_near t body _ _ (record { next = h.next; leave = h.next; proceed = h.proceed; give = h.give })) h.next))
      exec_alike (Case value of body) x y h = ticked (near (exec_alike body x y h))
      exec_alike (Default body) x y h = ticked (near (exec_alike body x y h))
      exec_alike Break x y h = ticked h.leave
      exec_alike Continue x y h = ticked h.proceed
      exec_alike (Return None) x y h = ticked (h.give nothing)
      exec_alike (Return (Some value)) x y h = ticked (eval_near value _ _ h.give)

      pub execs_near : (ss : TypedStmts) (x y : Exits) → CloseExits x y → Close (execs program a ss x) (execs program a' ss y)
      execs_near NoTStmts x y h = h.next
      execs_near (ConsTStmt s ss) x y h = near (exec_alike s _ _ (with_next x y _ _ h (execs_near ss x y h)))

      pub enter_near : (t : Target) (s : TypedStmt) (x y : Exits) → CloseExits x y → Close (enter_at program a t s x) (enter_at program a' t s y)
      enter_near t (Compound items) x y h = near (ticked (block_near program (block_locals items) _ _ (λ x y h. execs_from_near t items x y h) x y h))
      enter_near t (Case value of body) x y h = either (is_case t value of) (near (ticked (near (exec_alike body x y h)))) (enter_near t body x y h)
      enter_near t (Default body) x y h = either (is_default t) (near (ticked (near (exec_alike body x y h)))) (enter_near t body x y h)
      enter_near t _ x y h = nowhere R d laws m

      pub execs_from_near : (t : Target) (ss : TypedStmts) (x y : Exits) → CloseExits x y → Close (execs_from program a t ss x) (execs_from program a' t ss y)
      execs_from_near t NoTStmts x y h = nowhere R d laws m
      execs_from_near t (ConsTStmt s ss) x y h = either (has_label t s) (enter_near t s _ _ (with_next x y _ _ h (execs_near ss x y h))) (execs_from_near t ss x y h)
