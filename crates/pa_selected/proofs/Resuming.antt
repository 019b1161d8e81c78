-- A function returns: its locals die, its frame is gone, and its caller goes on with the result. The whole relation holds there.
use Rattle.std.proofs.Common.{◌≡◌, ◌⊎◌, inl, inr, ℕ, zero, suc, ◌+◌, ◌*◌, ◌^◌, ◌≤◌, ◌<◌, true, false, eqb, List, [], ◌∷◌, ◌++◌, length, take, Option, Some, None, refl, sym, ap, subst, ◌∙◌, arith}
use Rattle.std.specs.Prelude.{pos, slice_get, slice_index, unwrap_or, option_map}
use Rattle.std.specs.Option.{option_to_list}
use Rattle.std.proofs.lemmas.Bool.{cases_lt}
use Rattle.std.proofs.lemmas.List.{length-append}
use Rattle.std.proofs.lemmas.List.Sums.{sum_by-take-le}
use Rattle.pa_pac.specs.Signing.{canonical}
use Rattle.pa_pac.specs.declared.key.Key.TheVariants.{IB}
use Rattle.pa_pac.specs.declared.event.Way.TheVariants as way
use Rattle.pa_pac.specs.declared.event.Event.TheVariants as event
use Rattle.pa_pac.specs.Log.{Log}
use Rattle.pa_a64.specs.declared.instr.Instr.TheVariants.{Branch}
use Rattle.pa_a64.specs.declared.instr.BranchOp.TheVariants.{Bl}
use Rattle.pa_a64.specs.declared.instr.LoadStoreOp.TheVariants.{Str}
use Rattle.pa_mem.specs.Memory.{Region, Read, Write, allowed, load}
use Rattle.pa_object.specs.Machine.{Machine, register}
use Rattle.pa_object.specs.Placed.{HasCode}
use Rattle.pa_object.specs.Run.{advance_by}
use Rattle.pa_object.proofs.Placed.{HasCode-append}
use Rattle.pa_object.proofs.Growth.{advance_by-add}
use Rattle.pa_object.proofs.StepsRun.{shape-return}
use Rattle.pa_lir.specs.declared.op.Op.TheVariants as op
use Rattle.pa_lir.specs.Parts.{held, above}
use Rattle.pa_lir.specs.Values.{FlatValue, Byte, Object, Objects}
use Rattle.pa_lir.specs.Meaning.{Open, Act, Returns, temp, returns, next_op, with_temp, with_result, died, without, putchar, getchar}
use Rattle.pa_frame.specs.Frames.{place_of_temp, size_of_frame}
use Rattle.pa_select.specs.Selected.{load_arguments, store_temp, store_result, words_of}
use Rattle.pa_select.proofs.Costs.{length-access}
use Rattle.pa_selected.specs.Values.{Addresses, StandsFor, HasBytes, HasObjects}
use Rattle.pa_selected.specs.Worlds.{World, IsPlaced, Names, call_of, place_of_op}
use Rattle.pa_selected.specs.Calls.{IsOpen, IsWaiting, GoesBack, HasCallFrame, HasCallFrames}
use Rattle.pa_selected.specs.Runs.{IsOffSlots, import_slots}
use Rattle.pa_selected.proofs.Straight.{goes_more, untouched, runs_on}
use Rattle.pa_selected.proofs.Slots.{scratch, not_scratch, stores_temp, stored_follows}
use Rattle.pa_selected.proofs.Storing.{Gives, slot}
use Rattle.pa_selected.proofs.Steps.{code_of_op, next_place, op_below}
use Rattle.pa_selected.proofs.Keeping.{placed_later}
use Rattle.pa_selected.proofs.Stores.{frames_at}
use Rattle.pa_selected.proofs.Leaving.{Left, none_returns, some_returns}
use Rattle.pa_selected.proofs.Showing.{ShowsNothing}
use Rattle.pa_selected.proofs.Giving.{Ready, HasState, Leads, Moves, state_of, ready_at, newest_call, newest_placed, open_call, function_placed, gives_state}

-- ---- locals die

-- An object that lives behind the death of so many from one on lived before, and is none of these.
pub record Survives (objects : Objects) (first n p : ℕ) (q : Object) : Type 0 where
  pub old : Object
  pub there : slice_get objects p ≡ Some old
  pub bytes : q.bytes ≡ old.bytes
  pub constant : q.constant ≡ old.constant
  pub alive : q.alive ≡ true → (old.alive ≡ true) × (first ≤ p → first + n ≤ p)

same_object : (x y : Object) → Some x ≡ Some y → y ≡ x
same_object x y e = sym (ap (λ o. unwrap_or o x) e)

pub survivor : (first n : ℕ) (objects : Objects) (p : ℕ) (q : Object) → slice_get (without first n objects) p ≡ Some q → Survives objects first n p q
unfolding without
survivor first zero objects p q e = record { old = q; there = e; bytes = refl; constant = refl; alive = λ a. (a, λ low. omega arith) }
survivor zero (suc n) [] p q e = cc
survivor zero (suc n) (x ∷ xs) zero q e =
    let same = same_object (died x) q e in
    record {
      old = x;
      there = refl;
      bytes = ap (λ (o : Object). o.bytes) same;
      constant = ap (λ (o : Object). o.constant) same;
      alive = λ a. absurd (not_both (sym (ap (λ (o : Object). o.alive) same) ∙ a));
    }
  where
    not_both : false ≡ true → ⊥
    not_both h = cc
survivor zero (suc n) (x ∷ xs) (suc p) q e =
    let r = survivor zero n xs p q e in
    record {
      old = r.old;
      there = r.there;
      bytes = r.bytes;
      constant = r.constant;
      alive = λ a. let h = r.alive a in (h.0, λ low. let k = h.1 (omega arith) in omega arith);
    }
survivor (suc first) (suc n) [] p q e = cc
survivor (suc first) (suc n) (x ∷ xs) zero q e =
    let same = same_object x q e in
    record {
      old = x;
      there = refl;
      bytes = ap (λ (o : Object). o.bytes) same;
      constant = ap (λ (o : Object). o.constant) same;
      alive = λ a. (sym (ap (λ (o : Object). o.alive) same) ∙ a, λ low. omega arith);
    }
survivor (suc first) (suc n) (x ∷ xs) (suc p) q e =
    let r = survivor first (suc n) xs p q e in
    record {
      old = r.old;
      there = r.there;
      bytes = r.bytes;
      constant = r.constant;
      alive = λ a. let h = r.alive a in (h.0, λ low. let k = h.1 (omega arith) in omega arith);
    }

pub length-without : (first n : ℕ) (objects : Objects) → length (without first n objects) ≡ length objects
unfolding without
length-without first zero objects = refl
length-without zero (suc n) [] = refl
length-without zero (suc n) (x ∷ xs) = ap suc (length-without zero n xs)
length-without (suc first) (suc n) [] = refl
length-without (suc first) (suc n) (x ∷ xs) = ap suc (length-without first (suc n) xs)

module _ (addresses : Addresses) (objects : Objects) (first n : ℕ) where
  abbrev fewer : Objects
  fewer = without first n objects

  size_of : (p : ℕ) (q : Object) (s : Survives objects first n p q) → length q.bytes ≡ length s.old.bytes
  size_of p q s = ap length s.bytes

  pub objects_fewer : (memory : List Region) → HasObjects addresses objects memory → HasObjects addresses fewer memory
  objects_fewer memory lie = record {
    count = lie.count ∙ sym (length-without first n objects);
    some = λ o low. lie.some o (omega (arith, low, length-without first n objects));
    low = λ o q e. let s = survivor first n objects o q e in omega (arith, lie.low o s.old s.there, size_of o q s);
    bytes = λ o q e a. let s = survivor first n objects o q e in subst (HasBytes addresses memory (slice_index addresses o)) (sym s.bytes) (lie.bytes o s.old s.there (s.alive a).0);
    reads = λ o q e a. let s = survivor first n objects o q e in ap (λ k. allowed Read memory (slice_index addresses o) k) (size_of o q s) ∙ lie.reads o s.old s.there (s.alive a).0;
    writes = λ o q e a may. let s = survivor first n objects o q e in ap (λ k. allowed Write memory (slice_index addresses o) k) (size_of o q s) ∙ lie.writes o s.old s.there (s.alive a).0 (sym s.constant ∙ may);
    apart = λ o q e a p r f b other.
        let s = survivor first n objects o q e in let t = survivor first n objects p r f in
        let off = lie.apart o s.old s.there (s.alive a).0 p t.old t.there (t.alive b).0 other in
        λ below. omega (arith, off, size_of o q s, size_of p r t);
  }

  -- the frames of calls that are older than the locals
  pub frames_fewer : (w : World) (memory : List Region) (born now base : ℕ) (os : List Open) → ((p : ℕ) (q : Object) → slice_get fewer p ≡ Some q → q.alive ≡ true → p < now → p < born)
      → HasCallFrames w addresses objects memory born base os → HasCallFrames w addresses fewer memory now base os
  unfolding HasCallFrames
  frames_fewer w memory born now base [] lower h = record {
    empty = h.empty;
    globals = λ p q e a before.
        let s = survivor first n objects p q e in
        let off = h.globals p s.old s.there (s.alive a).0 (lower p q e a before) in
        λ below. omega (arith, off, size_of p q s);
  }
  frames_fewer w memory born now base (o ∷ os) lower h = (
    record {
      named = h.0.named;
      back = h.0.back;
      saved = h.0.saved;
      caller = h.0.caller;
      temps = h.0.temps;
      locals = h.0.locals;
      words = λ p q e a.
          let s = survivor first n objects p q e in
          let off = h.0.words p s.old s.there (s.alive a).0 in
          record {
            saved = λ below. let k = off.saved in omega (arith, k, size_of p q s);
            temps = λ below. let k = off.temps in omega (arith, k, size_of p q s);
          };
      older = λ p q e a before.
          let s = survivor first n objects p q e in
          let off = h.0.older p s.old s.there (s.alive a).0 before in
          λ below. omega (arith, off, size_of p q s);
      younger = λ p q e a before. let s = survivor first n objects p q e in h.0.younger p s.old s.there (s.alive a).0 (lower p q e a before);
    },
    frames_fewer w memory o.first o.first (base + size_of_frame o.function) os (λ p q e a before. before) h.1,
  )

-- ---- where the caller goes on

pub canonical_low : (back : ℕ) → back < 2 ^ 47 → canonical back ≡ back
unfolding canonical
canonical_low back low = omega arith

module _ (w : World) (o : Open) (into : Option ℕ) (back : ℕ) (wait : IsWaiting w o into back) where
  words_behind : words_of o.function (op.Call into wait.name wait.arguments) ≡ suc (length (load_arguments o.function 0 wait.arguments)) + length (store_result o.function into)
  words_behind = omega (arith, length-append (load_arguments o.function 0 wait.arguments) (Branch Bl (pos 0) ∷ store_result o.function into))

  -- the next operation's first instruction is behind those that are left
  pub behind_call : back + 4 * length (store_result o.function into) ≡ w.entry o.function.name + 4 * place_of_op o.function (suc o.at)
  behind_call =
      let next = next_place o.function o.at o.function.ops (op.Call into wait.name wait.arguments) wait.calls in
      let behind = wait.behind in
      omega (arith, next, behind, words_behind)

  pub back_low : (memory : List Region) → IsPlaced w memory o.function → back + 64 < 2 ^ 47
  back_low memory placed =
      let low = placed.low in
      let most = sum_by-take-le (words_of o.function) o.function.ops (suc o.at) in
      omega (arith, low, most, behind_call)

module _ (w : World) (addresses : Addresses) (objects : Objects) (o : Open) (os : List Open) (m : Machine) (state : HasState w addresses objects (o ∷ os) m) (into : Option ℕ) (back : ℕ) (wait : IsWaiting w o into back) where
  -- the machine at the first instruction of the call
  abbrev before : Machine
  before = record m { pc = w.entry o.function.name + 4 * place_of_op o.function o.at }

  code_behind : HasCode m.memory back (store_result o.function into)
  code_behind =
      let f = o.function in
      let loads = load_arguments f 0 wait.arguments in
      let bl = call_of w f (place_of_op f o.at + length loads) wait.name in
      let all = code_of_op w o before (op.Call into wait.name wait.arguments) (newest_placed w addresses objects o os m state) refl wait.calls in
      let rest = (HasCode-append m.memory before.pc loads (bl ∷ store_result f into) all).1.1 in
      subst (λ p. HasCode m.memory p (store_result f into)) (let b = wait.behind in omega (arith, b)) rest

  module _ (there : m.pc ≡ back) where
    here : (i : Option ℕ) → into ≡ i → back + 4 * length (store_result o.function i) ≡ w.entry o.function.name + 4 * place_of_op o.function (suc o.at)
    here i e = subst (λ i. back + 4 * length (store_result o.function i) ≡ w.entry o.function.name + 4 * place_of_op o.function (suc o.at)) e (behind_call w o into back wait)

    -- without a result
    none_resumes : into ≡ None → Moves w addresses objects (next_op o) os m 0 2
    unfolding advance_by
    none_resumes none = record {
      later = m;
      leads = record { number = 0; runs = refl; some = omega arith; few = omega arith; count = omega arith; input = refl; output = refl; log = refl };
      ready = record {
        running = state.running;
        placed = state.placed;
        room = state.room;
        lie = state.lie;
        slots = state.slots;
        frames = frames_at w addresses objects m.memory (length objects) m.sp o os (suc o.at) state.frames;
        at = let next = here None none in omega (arith, there, next);
      };
    }

    -- x0 goes into the temporary that gets the result
    some_resumes : (t : ℕ) (value : FlatValue) → into ≡ Some t → StandsFor addresses value (register 0 m) → Moves w addresses objects (with_temp t value o) os m 0 2
    unfolding above
    some_resumes t value some stands =
        let f = o.function in
        let call = newest_call w addresses objects o os m state in
        let low = back_low w o into back wait m.memory (newest_placed w addresses objects o os m state) in
        let named = op_below f.ops o.at (op.Call into wait.name wait.arguments) wait.calls in
        let to : above (option_to_list into) ≡ above (option_to_list (Some t)) = ap (λ (i : Option ℕ). above (option_to_list i)) some in
        let few : t < held f = omega (arith, named, to) in
        let code = subst (λ p. HasCode m.memory p (store_temp f 0 t)) (sym there) (subst (λ i. HasCode m.memory back (store_result f i)) some code_behind) in
        let made = stores_temp w.pac f m call.running call.frame (omega (arith, there, low)) 0 t refl few code in
        let fits = state.running.widths.registers 0 in
        let less = goes_more w.pac _ m made.later _ _ scratch (λ j h. let n = not_scratch j h in untouched (eqb j 12) false n.not_12 refl) made.goes in
        let short = length-access Str 0 (place_of_temp f t) in
        let next = here (Some t) some in
        let given : Gives w.pac addresses o (length (store_temp f 0 t)) m t value = record {
          later = made.later;
          word = register 0 m;
          goes = less;
          call = stored_follows w.pac addresses o m call (length (store_temp f 0 t)) t (register 0 m) made.later scratch value less few (omega (arith, fits)) stands;
        } in
        record {
          later = made.later;
          leads = record {
            number = length (store_temp f 0 t);
            runs = made.goes.runs;
            some = omega arith;
            few = omega (arith, short);
            count = made.goes.count;
            input = made.goes.input;
            output = made.goes.output;
            log = made.goes.log;
          };
          ready = ready_at w addresses objects (with_temp t value o) os made.later (gives_state w addresses objects o os m state (length (store_temp f 0 t)) t value few given) (omega (arith, made.goes.pc, there, next));
        }

    -- behind a call the caller goes on, with what x0 stands for
    pub resumes_moves : (value : Option FlatValue) (resumed : Open) → with_result into value o ≡ Some resumed → ((v : FlatValue) → value ≡ Some v → StandsFor addresses v (register 0 m)) → Moves w addresses objects resumed os m 0 2
    resumes_moves value resumed e stands = go into value refl refl e
      where
        same_open : (x y : Open) → Some x ≡ Some y → x ≡ y
        same_open x y e = ap (λ o. unwrap_or o x) e

        go : (i : Option ℕ) (v : Option FlatValue) → into ≡ i → value ≡ v → with_result i v o ≡ Some resumed → Moves w addresses objects resumed os m 0 2
        go None v p q e = subst (λ (x : Open). Moves w addresses objects x os m 0 2) (same_open (next_op o) resumed e) (none_resumes p)
        go (Some t) None p q e = cc
        go (Some t) (Some v) p q e = subst (λ (x : Open). Moves w addresses objects x os m 0 2) (same_open (with_temp t v o) resumed e) (some_resumes t v p (stands v q))

-- what an operation returns
abbrev returned_by : Option Act → Option FlatValue
returned_by (Some (Returns value)) = value
returned_by _ = None

-- ---- the operation

-- So many instructions lead from one machine to another. They read nothing and print nothing, and log these entries.
pub record LeadsLogging (w : World) (least most : ℕ) (m later : Machine) (entries : Log) : Type 0 where
  pub number : ℕ
  pub runs : advance_by w.pac [] number m ≡ later
  pub some : least ≤ number
  pub few : number ≤ most
  pub count : later.count ≡ m.count + number
  pub input : later.input ≡ m.input
  pub output : later.output ≡ m.output
  pub log : later.log ≡ entries ++ m.log

-- The machine is where the call that was open goes back to. x0 stands for what it returns.
pub record WentBack (w : World) (addresses : Addresses) (objects : Objects) (o : Open) (os : List Open) (value : Option FlatValue) (m : Machine) : Type 0 where
  pub later : Machine
  pub entries : Log
  pub leads : LeadsLogging w 1 6 m later entries
  pub quiet : ShowsNothing w entries
  pub back : ℕ
  pub goes_back : GoesBack w os o.into back
  pub pc : later.pc ≡ back
  pub state : HasState w addresses (without o.first (length o.function.locals) objects) os later
  pub result : (v : FlatValue) → value ≡ Some v → StandsFor addresses v (register 0 later)

module _ (w : World) (addresses : Addresses) (objects : Objects) (o : Open) (os : List Open) (m : Machine) (ready : Ready w addresses objects o os m) where
  abbrev dead : Objects
  dead = without o.first (length o.function.locals) objects

  newest_frame : HasCallFrame w addresses objects m.memory (length objects) m.sp o os
  unfolding HasCallFrames
  newest_frame = ready.frames.0

  frames_behind : HasCallFrames w addresses dead m.memory (length dead) (m.sp + size_of_frame o.function) os
  unfolding HasCallFrames
  frames_behind =
      frames_fewer addresses objects o.first (length o.function.locals) w m.memory o.first (length dead) (m.sp + size_of_frame o.function) os
      (λ p q e a before.
      let s = survivor o.first (length o.function.locals) objects p q e in
      let young = newest_frame.younger p s.old s.there (s.alive a).0 (omega (arith, before, length-without o.first (length o.function.locals) objects)) in
      earlier p young (s.alive a).1 (cases_lt p o.first))
      ready.frames.1
    where
      earlier : (p : ℕ) → p < o.first + length o.function.locals → (o.first ≤ p → o.first + length o.function.locals ≤ p) → ((p < o.first) ⊎ (o.first ≤ p)) → p < o.first
      earlier p young behind (inl less) = less
      earlier p young behind (inr more) = absurd (let far = behind more in omega (arith, young, far))

  caller_named : (caller : Open) (older : List Open) → os ≡ caller ∷ older → Names w caller.function.name caller.function
  unfolding HasCallFrames
  caller_named caller older e = named (subst (λ os. HasCallFrames w addresses dead m.memory (length dead) (m.sp + size_of_frame o.function) os) e frames_behind)
    where
      named : HasCallFrames w addresses dead m.memory (length dead) (m.sp + size_of_frame o.function) (caller ∷ older) → Names w caller.function.name caller.function
      named h = h.0.named

  back_canonical : canonical newest_frame.back ≡ newest_frame.back
  back_canonical = canonical_low newest_frame.back (go os refl newest_frame.caller)
    where
      go : (callers : List Open) → os ≡ callers → GoesBack w callers o.into newest_frame.back → newest_frame.back < 2 ^ 47
      go [] e h = let low = ready.placed.back.low in omega (arith, low, h)
      go (caller ∷ older) e h =
          let low = back_low w caller o.into newest_frame.back h m.memory (ready.placed.functions caller.function.name caller.function (caller_named caller older e)).1 in
          omega (arith, low)

  went_back : (x0 : ℕ) (value : Option FlatValue) → Left w.pac m (size_of_frame o.function) newest_frame.back 1 6 x0 → ((v : FlatValue) → value ≡ Some v → StandsFor addresses v x0) → WentBack w addresses objects o os value m
  went_back x0 value left stands = record {
    later = left.later;
    entries = record { when = left.landed; event = event.Land way.Return newest_frame.back } ∷ record { when = left.taken; event = event.Take IB (m.sp + size_of_frame o.function) newest_frame.back left.known } ∷ [];
    leads = record {
      number = left.number;
      runs = left.runs;
      some = left.some;
      few = left.few;
      count = left.count;
      input = left.input;
      output = left.output;
      log = left.log;
    };
    quiet = λ trail log. shape-return (import_slots w) trail left.landed left.taken (m.sp + size_of_frame o.function) newest_frame.back newest_frame.back left.known log;
    back = newest_frame.back;
    goes_back = newest_frame.caller;
    pc = left.pc;
    state = record {
      running = runs_on w.pac left.number m left.later ready.running left.runs left.ended;
      placed = placed_later w left.number m left.later ready.running left.runs (ap (λ x. load 8 x (w.slot putchar)) left.memory) (ap (λ x. load 8 x (w.slot getchar)) left.memory) ready.placed;
      room = let low = ready.room in omega (arith, left.sp, low);
      lie = subst (HasObjects addresses dead) (sym left.memory) (objects_fewer addresses objects o.first (length o.function.locals) m.memory ready.lie);
      slots = λ p q e a.
          let s = survivor o.first (length o.function.locals) objects p q e in
          subst (IsOffSlots w (slice_index addresses p)) (ap length (sym s.bytes)) (ready.slots p s.old s.there (s.alive a).0);
      frames = subst (λ x. HasCallFrames w addresses dead x (length dead) left.later.sp os) (sym left.memory)
          (subst (λ b. HasCallFrames w addresses dead m.memory (length dead) b os) (sym left.sp) frames_behind);
    };
    result = λ v e. subst (StandsFor addresses v) (sym left.result) (stands v e);
  }

  pub returns_back : (from : Option ℕ) (value : Option FlatValue) → slice_get o.function.ops o.at ≡ Some (op.Return from) → returns o from ≡ Some (Returns value) → WentBack w addresses objects o os value m
  returns_back None value e means =
      went_back (register 0 m) value
      (none_returns w addresses o m (open_call w addresses objects o os m ready) (function_placed w addresses objects o os m ready) ready.at newest_frame.back newest_frame.saved back_canonical e)
      (λ v q. none_is (same_value None value means) v q)
    where
      same_value : (x y : Option FlatValue) → Some (Returns x) ≡ Some (Returns y) → x ≡ y
      same_value x y e = ap returned_by e

      none_is : None ≡ value → (v : FlatValue) → value ≡ Some v → StandsFor addresses v (register 0 m)
      none_is p v q = cc
  returns_back (Some t) value e means = go (temp o t) refl means
    where
      call : IsOpen addresses o m
      call = open_call w addresses objects o os m ready

      go : (found : Option FlatValue) → temp o t ≡ found → option_map (λ v. Returns (Some v)) found ≡ Some (Returns value) → WentBack w addresses objects o os value m
      go None q means = cc
      go (Some u) q means =
          let there = call.temps t u q in
          went_back (slot o.function m t) value
          (some_returns w addresses o m call (function_placed w addresses objects o os m ready) ready.at newest_frame.back newest_frame.saved back_canonical t there.0 e)
          (λ v r. subst (λ x. StandsFor addresses x (slot o.function m t)) (same u v (means_same (Some u) value means ∙ r)) there.1)
        where
          means_same : (x y : Option FlatValue) → Some (Returns x) ≡ Some (Returns y) → x ≡ y
          means_same x y e = ap returned_by e

          same : (x y : FlatValue) → Some x ≡ Some y → x ≡ y
          same x y e = ap (λ o. unwrap_or o x) e
