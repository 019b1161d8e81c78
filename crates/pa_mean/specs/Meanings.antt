-- What a run by steps is to give: what is done next, and behind it what waits.
use Rattle.std.specs.Prelude.{pos, true, false, List, [], ◌∷◌, Option, Some}
use Rattle.pa_ctype.specs.Values.{Place, CValue, Cell}
use Rattle.pa_typed.specs.Typed.{TypedExpr, TypedStmt, Compound}
use Rattle.pa_typed.specs.Units.{ProgramTree}
use Rattle.pa_cmean.specs.Results.{Meaning, ends, undefined, worked, turned, printed, shown, entered, given}
use Rattle.pa_cmean.specs.Operations.{truth, of_truth, converted, unary, binary, moved, pointee, pointed, compared}
use Rattle.pa_cmean.specs.ExprTypes.{type_of}
use Rattle.pa_cmean.specs.State.{State, Cont, Exits, Turn, Redo, turn, choose, closing, place_of}
use Rattle.pa_cmean.specs.Calls.{call, call_pointer, under_of, exits_of}
use Rattle.pa_cmean.specs.Expressions.{with_value, gives_truth, add_pointer, subtract_pointers, load, load_signed, store, eval, evals}
use Rattle.pa_cmean.specs.Statements.{Target, cells_given, give_cell, init_locals, evaluate, test, loop, redo, looping, select, switch_on, cases_of, has_default, any_default, exec, execs, enter_at, execs_from}
use Rattle.pa_cmean.specs.Mean.{run, status}
use Rattle.pa_mean.specs.Frames.{Callee, Named, Through, Cells, Frame, Now, Machine, Front, Step}
use Rattle.pa_mean.specs.Frames as f
use Rattle.pa_mean.specs.Steps.{onto}

-- what takes a value, and the ways out of a statement
pub record Konts : Type 0 where
  pub value : Cont
  pub exits : Exits

abbrev pub no_exits : Exits
no_exits = record { next = λ st. undefined; leave = λ st. undefined; proceed = λ st. undefined; give = λ v st. undefined }

abbrev pub takes : Cont → Konts
takes k = record { value = k; exits = no_exits }

abbrev pub ways : Exits → Konts
ways x = record { value = λ v st. undefined; exits = x }

abbrev pub in_front : Front → Meaning → Meaning
in_front f.Worked m = worked m
in_front f.Turned m = turned m
in_front (f.Printed byte) m = printed byte m
in_front (f.Shown item) m = shown item m
in_front (f.Entered name depth) m = entered name depth m

abbrev pub ahead : List Front → Meaning → Meaning
ahead [] m = m
ahead (front ∷ fronts) m = in_front front (ahead fronts m)

module _ (program : ProgramTree) where
  -- a call, once its arguments are evaluated
  abbrev pub calls_with : Option Place → Callee → List CValue → Cont → State → Meaning
  calls_with same (Named name) vs k = call program (run program) name vs k
  calls_with same (Through function) vs k = eval program (run program) same function (λ v st. call_pointer program (run program) (pointee (type_of function)) (under_of function st.world) v vs k st)

  -- what is done in a loop behind its body: the step, then the next turn
  abbrev pub next_turn : Option TypedExpr → Option TypedExpr → TypedStmt → Exits → State → Meaning
  next_turn condition step body x = evaluate program (run program) step (run program (Turn condition step body) x)

  abbrev pub looped : Option TypedExpr → Option TypedExpr → TypedStmt → Exits → State → Meaning
  looped condition step body x = loop program (run program) condition (next_turn condition step body x) (exec program (run program) body) x

  -- what is done behind the body of a `do` loop: its test, then the next turn
  abbrev pub redo_test : TypedStmt → TypedExpr → Exits → State → Meaning
  redo_test body condition x = test program (run program) (Some condition) (run program (Redo body condition) x) x.next

  abbrev pub redone : TypedStmt → TypedExpr → Exits → State → Meaning
  redone body condition x = redo program (run program) (exec program (run program) body) condition (run program (Redo body condition) x) x

  abbrev pub cells_of : Cells → (State → Meaning) → State → Meaning
  cells_of cs next = cells_given program (run program) cs.initials cs.owner cs.cells cs.size next

  abbrev pub cell_of : Cell → Cells → (State → Meaning) → Cont
  cell_of cell rest next = give_cell program (run program) rest.owner cell (cells_of rest next)

  abbrev pub selected : TypedStmt → Exits → Target → State → Meaning
  selected body x target = enter_at program (run program) target body (record x { leave = x.next })

  -- what waits, with what waits behind it
  abbrev pub frame : Frame → Konts → Konts
  frame (f.Moves offset) k = takes (λ v st. with_value (moved st.world.objects (pos offset) v) k.value st)
  frame f.Points k = takes (λ v. with_value (pointed v) k.value)
  frame (f.Loads of) k = takes (λ at. load of at k.value)
  frame (f.LoadsSigned schema of) k = takes (λ at. load_signed schema of at k.value)
  frame (f.StoreRight value old of) k = takes (λ at. eval program (run program) (place_of at) value (λ v. store old of at v k.value))
  frame (f.Stores at old of) k = takes (λ v. store old of at v k.value)
  frame (f.Converts of) k = takes (λ v. with_value (converted of v) k.value)
  frame (f.Applies op of) k = takes (λ v. with_value (unary op of v) k.value)
  frame (f.CombineRight same op right of) k = takes (λ u. eval program (run program) same right (λ v. with_value (binary op of u v) k.value))
  frame (f.Combines op left of) k = takes (λ v. with_value (binary op of left v) k.value)
  frame (f.AddRight same right pointer_left subtracts element) k =
      takes (λ u. eval program (run program) same right (λ v st. given element (λ e. add_pointer program pointer_left subtracts e u v k.value st)))
  frame (f.Adds left pointer_left subtracts element) k = takes (λ v st. given element (λ e. add_pointer program pointer_left subtracts e left v k.value st))
  frame (f.SubtractRight same right element) k = takes (λ u. eval program (run program) same right (λ v. subtract_pointers program element u v k.value))
  frame (f.Subtracts left element) k = takes (λ v. subtract_pointers program element left v k.value)
  frame (f.CompareRight same op right) k = takes (λ u. eval program (run program) same right (λ v st. with_value (compared st.world.objects op u v) k.value st))
  frame (f.Compares op left) k = takes (λ v st. with_value (compared st.world.objects op left v) k.value st)
  frame (f.AndRight same right) k = takes (λ u. choose (truth u) (eval program (run program) same right (gives_truth k.value)) (k.value (of_truth false)))
  frame (f.OrRight same right) k = takes (λ u. choose (truth u) (k.value (of_truth true)) (eval program (run program) same right (gives_truth k.value)))
  frame f.Truth k = takes (gives_truth k.value)
  frame (f.Chooses same when_true when_false) k = takes (λ v. choose (truth v) (eval program (run program) same when_true k.value) (eval program (run program) same when_false k.value))
  frame (f.Second same second) k = takes (λ v. eval program (run program) same second k.value)
  frame (f.Argument same callee before rest) k = takes (λ v. evals program (run program) same rest (λ vs. calls_with same callee (onto before (v ∷ vs)) k.value))
  frame (f.CallsThrough function vs) k = takes (λ v st. call_pointer program (run program) (pointee (type_of function)) (under_of function st.world) v vs k.value st)
  frame f.Discards k = takes (λ v. k.exits.next)
  frame (f.Tests when_true) k = takes (λ v. choose (truth v) (exec program (run program) when_true k.exits) k.exits.next)
  frame (f.Divides when_true when_false) k = takes (λ v. choose (truth v) (exec program (run program) when_true k.exits) (exec program (run program) when_false k.exits))
  frame (f.TurnTest condition step body) k =
      takes (λ v. choose (truth v) (turn (exec program (run program) body (looping (next_turn (Some condition) step body k.exits) k.exits))) k.exits.next)
  frame (f.Stepped condition step body) k = takes (λ v. run program (Turn condition step body) k.exits)
  frame (f.RedoTest body condition) k = takes (λ v. choose (truth v) (run program (Redo body condition) k.exits) k.exits.next)
  frame (f.Switches body) k = takes (λ v. switch_on v (cases_of body) (has_default body) (selected body k.exits) k.exits.next)
  frame f.Gives k = takes k.exits.give
  frame (f.CellValue cell rest) k = takes (cell_of cell rest k.exits.next)
  frame (f.Then rest) k = ways (record k.exits { next = execs program (run program) rest k.exits })
  frame (f.Closes locals) k = ways (closing locals k.exits)
  frame (f.Initialises names) k = ways (record k.exits { next = init_locals program (run program) names k.exits.next })
  frame (f.Loops condition step body) k = ways (record k.exits { next = looped condition step body k.exits })
  frame (f.Turns condition step body) k = ways (looping (next_turn condition step body k.exits) k.exits)
  frame (f.Redoes body condition) k = ways (looping (redo_test body condition k.exits) k.exits)
  frame f.Breaks k = ways (record k.exits { leave = k.exits.next })
  frame (f.Returns function caller) k = ways (exits_of function k.value caller)

  -- all that waits; behind it, the value of `main` is the status
  unfoldable pub konts : List Frame → Konts
  konts [] = takes status
  konts (w ∷ ws) = frame w (konts ws)

  -- what is done next, where that waits
  abbrev pub resume : Now → Konts → State → Meaning
  resume (f.Eval same e) k = eval program (run program) same e k.value
  resume (f.Gave v) k = k.value v
  resume (f.Evals same callee before rest) k = evals program (run program) same rest (λ vs. calls_with same callee (onto before vs) k.value)
  resume (f.Called name vs) k = call program (run program) name vs k.value
  resume (f.Exec s) k = exec program (run program) s k.exits
  resume (f.Execs ss) k = execs program (run program) ss k.exits
  resume (f.Initialise names) k = init_locals program (run program) names k.exits.next
  resume (f.GiveCells cs) k = cells_of cs k.exits.next
  resume (f.GiveCell v cell rest) k = cell_of cell rest k.exits.next v
  resume (f.Loop condition step body) k = looped condition step body k.exits
  resume (f.Redo body condition) k = redone body condition k.exits
  resume (f.Select n cases items) k = select n cases (any_default items) (selected (Compound items) k.exits) k.exits.next
  resume (f.Enter target items) k = enter_at program (run program) target (Compound items) k.exits
  resume (f.EnterAmong target ss) k = execs_from program (run program) target ss k.exits
  resume f.Next k = k.exits.next
  resume f.Leave k = k.exits.leave
  resume f.Proceed k = k.exits.proceed
  resume (f.Give v) k = k.exits.give v
  resume (f.Ended end) k = λ st. ends end

  -- what a run gives from a moment on
  abbrev pub meaning : Machine → Meaning
  meaning m = resume m.now (konts m.frames) m.state

  -- what a run gives from a step on
  abbrev pub after : Step → Meaning
  after s = ahead s.fronts (meaning s.machine)
