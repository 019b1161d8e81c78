-- One operation of the newest open call: the whole relation holds behind it.
use Rattle.std.proofs.Common.{◌≡◌, ℕ, suc, ◌+◌, ◌^◌, ◌≤◌, ◌<◌, Bool, List, ◌∷◌, ◌++◌, length, Some, refl, sym, ap, subst, arith}
use Rattle.std.specs.Prelude.{pos, slice_get}
use Rattle.std.proofs.lemmas.List.{length-append}
use Rattle.pa_mem.specs.Memory.{Region, load}
use Rattle.pa_object.specs.Machine.{Machine}
use Rattle.pa_lir.specs.declared.op.Op.TheVariants as op
use Rattle.pa_lir.specs.declared.op.BinOp.{BinOp}
use Rattle.pa_lir.specs.declared.op.UnOp.{UnOp}
use Rattle.pa_lir.specs.Flow.{place_of_label}
use Rattle.pa_lir.specs.Operators.{of_number, binary}
use Rattle.pa_lir.specs.Parts.{held}
use Rattle.pa_lir.specs.Values.{FlatValue, Number, At, Code, Objects, extended}
use Rattle.pa_lir.specs.Meaning.{Open, temp, with_temp, putchar, getchar}
use Rattle.pa_select.specs.Selected.{load_temp, store_temp, operands}
use Rattle.pa_select.specs.Computing as code
use Rattle.pa_select.specs.Constants.{constant}
use Rattle.pa_select.specs.Accesses.{address}
use Rattle.pa_frame.specs.Frames.{place_of_temp, place_of_local}
use Rattle.pa_a64.specs.declared.instr.Instr.{Instr}
use Rattle.pa_lir.specs.declared.function.LirFn.{LirFn}
use Rattle.pa_select.proofs.Costs.{words_at_most}
use Rattle.pa_selected.specs.Values.{Addresses, StandsFor, HasObjects}
use Rattle.pa_selected.specs.Worlds.{World}
use Rattle.pa_selected.specs.Calls.{HasCallFrames}
use Rattle.pa_selected.proofs.Linked.{some_stored}
use Rattle.pa_selected.proofs.Storing.{slot, bin_gives}
use Rattle.pa_selected.proofs.Operating.{computed_by}
use Rattle.pa_selected.proofs.Comparing.{binary_stands}
use Rattle.pa_mem.proofs.Ranges.{load-lt}
use Rattle.pa_lir.specs.Parts.{above}
use Rattle.pa_selected.proofs.Straight.{runs_on}
use Rattle.pa_selected.proofs.Branching.{MovesTo, moved, label_runs, jump_runs, branch_falls, branch_goes}
use Rattle.pa_selected.proofs.Steps.{code_of_op, const_runs, extend_runs, follows, local_runs, room_at, temp_below, un_runs}
use Rattle.pa_selected.proofs.Keeping.{placed_later}
use Rattle.pa_selected.proofs.Giving.{Ready, Moves, open_call, function_placed, follows_ready}

some_after : (f : LirFn) (is : List Instr) (instr : Instr) (rest : List Instr) → 1 ≤ length (is ++ instr ∷ rest)
some_after f is instr rest = omega (arith, length-append is (instr ∷ rest))

module _ (w : World) (addresses : Addresses) (objects : Objects) (o : Open) (os : List Open) (m : Machine) (ready : Ready w addresses objects o os m) where
  -- ---- the call goes on at another operation

  frames_moved : (k : ℕ) (memory : List Region) (base : ℕ) → memory ≡ m.memory → base ≡ m.sp → HasCallFrames w addresses objects memory (length objects) base (moved o k ∷ os)
  unfolding HasCallFrames
  frames_moved k memory base one two =
      let f = ready.frames.0 in
      subst (λ x. HasCallFrames w addresses objects x (length objects) base (moved o k ∷ os)) (sym one)
      (subst (λ b. HasCallFrames w addresses objects m.memory (length objects) b (moved o k ∷ os)) (sym two) (
        record {
          named = f.named;
          back = f.back;
          saved = f.saved;
          caller = f.caller;
          temps = f.temps;
          locals = record { count = f.locals.count; places = f.locals.places };
          words = f.words;
          older = f.older;
          younger = f.younger;
        },
        ready.frames.1,
      ))

  moves_ready : (k most : ℕ) → MovesTo w o m k most → Moves w addresses objects (moved o k) os m 1 most
  moves_ready k most h = record {
    later = h.later;
    leads = record {
      number = h.count;
      runs = h.turns.runs;
      some = h.some;
      few = h.few;
      count = h.turns.count;
      input = h.turns.input;
      output = h.turns.output;
      log = h.turns.log;
    };
    ready = record {
      running = runs_on w.pac h.count m h.later ready.running h.turns.runs h.turns.ended;
      placed = placed_later w h.count m h.later ready.running h.turns.runs (ap (λ x. load 8 x (w.slot putchar)) h.turns.memory) (ap (λ x. load 8 x (w.slot getchar)) h.turns.memory) ready.placed;
      room = let low = ready.room in omega (arith, h.turns.sp);
      lie = subst (HasObjects addresses objects) (sym h.turns.memory) ready.lie;
      slots = ready.slots;
      frames = frames_moved k h.later.memory h.later.sp h.turns.memory h.turns.sp;
      at = h.turns.pc;
    };
  }

  -- a label runs nothing
  pub label_ready : (label : ℕ) → slice_get o.function.ops o.at ≡ Some (op.Label label) → Ready w addresses objects (moved o (suc o.at)) os m
  label_ready label e = record {
    running = ready.running;
    placed = ready.placed;
    room = ready.room;
    lie = ready.lie;
    slots = ready.slots;
    frames = frames_moved (suc o.at) m.memory m.sp refl refl;
    at = label_runs w addresses o m (open_call w addresses objects o os m ready) (function_placed w addresses objects o os m ready) ready.at label e;
  }

  pub jump_moves : (label k : ℕ) → slice_get o.function.ops o.at ≡ Some (op.Jump label) → place_of_label o.function.ops label ≡ Some k → Moves w addresses objects (moved o k) os m 1 1
  jump_moves label k e to = moves_ready k 1 (jump_runs w addresses o m (open_call w addresses objects o os m ready) (function_placed w addresses objects o os m ready) ready.at label k e to)

  word_in_slot : (t : ℕ) (value : FlatValue) → temp o t ≡ Some value → (t < held o.function) × StandsFor addresses value (slot o.function m t)
  word_in_slot t value e = (open_call w addresses objects o os m ready).temps t value e

  pub zero_falls : (on label : ℕ) → slice_get o.function.ops o.at ≡ Some (op.Branch on label) → temp o on ≡ Some (Number 0) → Moves w addresses objects (moved o (suc o.at)) os m 1 4
  zero_falls on label e v =
      let there = word_in_slot on (Number 0) v in
      moves_ready (suc o.at) 4 (branch_falls w addresses o m (open_call w addresses objects o os m ready) (function_placed w addresses objects o os m ready) ready.at on label e there.0 there.1)

  -- a number that isn't 0, or a place
  pub other_goes : (on label k : ℕ) (value : FlatValue) → slice_get o.function.ops o.at ≡ Some (op.Branch on label) → temp o on ≡ Some value → (value ≡ Number 0 → ⊥) → place_of_label o.function.ops label ≡ Some k
      → Moves w addresses objects (moved o k) os m 1 4
  other_goes on label k value e v other to =
      let there = word_in_slot on value v in
      moves_ready k 4 (branch_goes w addresses o m (open_call w addresses objects o os m ready) (function_placed w addresses objects o os m ready) ready.at on label k e there.0 (λ none. not_zero value other (subst (StandsFor addresses value) none there.1)) to)
    where
      not_zero : (value : FlatValue) → (value ≡ Number 0 → ⊥) → StandsFor addresses value 0 → ⊥
      not_zero (Number x) other h = other (ap Number (sym h))
      not_zero (At object offset) other h = let count = ready.lie.count in let some = ready.lie.some object (omega (arith, h.0, count)) in omega (arith, h.1, some)
      not_zero (Code name schema) other h = h

  -- ---- a temporary gets a value

  pub const_moves : (to value : ℕ) → value < 2 ^ 64 → slice_get o.function.ops o.at ≡ Some (op.Const to value) → Moves w addresses objects (with_temp to (Number value) o) os m 1 6
  const_moves to value small e =
      follows_ready w addresses objects o os m ready (op.Const to value) to (Number value) 6
      (some_stored o.function (constant 9 value) to) (words_at_most o.function (op.Const to value) tt)
      (const_runs w addresses o m (open_call w addresses objects o os m ready) (function_placed w addresses objects o os m ready) ready.at to value small e)

  -- of operands for whose words the instructions make one that stands for the value
  bin_stands_moves : (to : ℕ) (operator : BinOp) (left right : ℕ) (u v value : FlatValue) → slice_get o.function.ops o.at ≡ Some (op.Bin to operator left right) → temp o left ≡ Some u → temp o right ≡ Some v
      → StandsFor addresses value (computed_by operator (slot o.function m left) (slot o.function m right)) → Moves w addresses objects (with_temp to value o) os m 1 8
  unfolding above
  bin_stands_moves to operator left right u v value e l r stands =
      let call = open_call w addresses objects o os m ready in
      let placed = function_placed w addresses objects o os m ready in
      let few = temp_below w addresses o m call placed ready.at (op.Bin to operator left right) to e (omega arith) in
      let given = bin_gives w.pac addresses o m call (omega (arith, room_at w o m placed ready.at)) (pos 0) to operator left right value few (word_in_slot left u l).0 (word_in_slot right v r).0 stands (code_of_op w o m (op.Bin to operator left right) placed ready.at e) in
      let behind = some_stored o.function (code.binary operator) to in
      let all = length-append (operands o.function left right) (code.binary operator ++ store_temp o.function 9 to) in
      follows_ready w addresses objects o os m ready (op.Bin to operator left right) to value 8
      (omega (arith, behind, all)) (words_at_most o.function (op.Bin to operator left right) tt)
      (follows w addresses o m call placed ready.at (op.Bin to operator left right) to value e few given)

  word_fits : (t : ℕ) → slot o.function m t < 2 ^ 64
  word_fits t = let h = load-lt 8 m.memory (m.sp + place_of_temp o.function t) ready.running.widths.memory in omega arith

  -- any values for which the operator is defined
  pub bin_moves : (to : ℕ) (operator : BinOp) (left right : ℕ) (u v value : FlatValue) → slice_get o.function.ops o.at ≡ Some (op.Bin to operator left right) → temp o left ≡ Some u → temp o right ≡ Some v → binary objects operator u v ≡ Some value
      → Moves w addresses objects (with_temp to value o) os m 1 8
  bin_moves to operator left right u v value e l r means =
      bin_stands_moves to operator left right u v value e l r
      (binary_stands addresses objects m.memory ready.lie (slot o.function m left) (slot o.function m right) (word_fits left) (word_fits right) operator u v value (word_in_slot left u l).1 (word_in_slot right v r).1 means)

  pub un_moves : (to : ℕ) (operator : UnOp) (from x : ℕ) → slice_get o.function.ops o.at ≡ Some (op.Un to operator from) → temp o from ≡ Some (Number x) → Moves w addresses objects (with_temp to (Number (of_number operator x)) o) os m 1 5
  un_moves to operator from x e v =
      follows_ready w addresses objects o os m ready (op.Un to operator from) to (Number (of_number operator x)) 5
      (some_after o.function (load_temp o.function 9 from) (code.unary operator) (store_temp o.function 9 to)) (words_at_most o.function (op.Un to operator from) tt)
      (un_runs w addresses o m (open_call w addresses objects o os m ready) (function_placed w addresses objects o os m ready) ready.at to operator from x e v)

  pub extend_moves : (to from bits : ℕ) (signed : Bool) (x : ℕ) → 1 ≤ bits → bits ≤ 64 → slice_get o.function.ops o.at ≡ Some (op.Extend to from bits signed) → temp o from ≡ Some (Number x)
      → Moves w addresses objects (with_temp to (Number (extended bits signed x)) o) os m 1 5
  extend_moves to from bits signed x some most e v =
      follows_ready w addresses objects o os m ready (op.Extend to from bits signed) to (Number (extended bits signed x)) 5
      (some_after o.function (load_temp o.function 9 from) (code.extended bits signed) (store_temp o.function 9 to)) (words_at_most o.function (op.Extend to from bits signed) (some, most))
      (extend_runs w addresses o m (open_call w addresses objects o os m ready) (function_placed w addresses objects o os m ready) ready.at to from bits signed x some e v)

  pub local_moves : (to local : ℕ) → local < length o.function.locals → slice_get o.function.ops o.at ≡ Some (op.Local to local) → Moves w addresses objects (with_temp to (At (o.first + local) 0) o) os m 1 4
  local_moves to local within e =
      follows_ready w addresses objects o os m ready (op.Local to local) to (At (o.first + local) 0) 4
      (some_stored o.function (address 9 (place_of_local o.function local)) to) (words_at_most o.function (op.Local to local) within)
      (local_runs w addresses o m (open_call w addresses objects o os m ready) (function_placed w addresses objects o os m ready) ready.at to local within e)
