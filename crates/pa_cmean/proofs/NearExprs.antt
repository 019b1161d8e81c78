-- Two runs that go on alike give alike: calls and expressions.
use Rattle.std.proofs.Common.{◌≡◌, ℕ, ◌+◌, ◌<◌, Bool, true, false, List, [], ◌∷◌, if◌then◌else◌, Option, Some, None}
use Rattle.std.specs.Prelude.{pos, negsuc, option_and_then}
use Rattle.std.specs.Str.{bytes_eq}
use Rattle.pa_pac.specs.declared.schema.Schema.{Schema}
use Rattle.pa_ctype.specs.Types.{TypeTree}
use Rattle.pa_ctype.specs.Traces as seen
use Rattle.pa_ctype.specs.Traces.{Under}
use Rattle.pa_ctype.specs.Values as value
use Rattle.pa_ctype.specs.Values.{Place, Owner, CValue, At, Code, Null, Global, Text}
use Rattle.pa_typed.specs.Typed.{TypedExpr, TypedExprs, LocalPlace, GlobalPlace, StringPlace, Same, Member, Index, Deref, Number, Load, LoadSigned, Store, StoreSigned, AddressOf, FunctionValue, Convert, Unary, Binary, PointerAdd, PointerSub, Compare, And, Or, Choose, Comma, CallDirect, CallPointer, NoTExprs, ConsTExpr}
use Rattle.pa_integer.specs.Integers.{residue}
use Rattle.pa_cmean.specs.Results.{Meaning, shown}
use Rattle.pa_typed.specs.Units.{FunctionTree, ProgramTree, function_named}
use Rattle.pa_cmean.specs.Operations.{truth, of_truth, nothing, converted, literal, unary, binary, moved, bytes_of, stepped, opposite, pointee, pointed, difference, compared}
use Rattle.pa_cmean.specs.ExprTypes.{type_of}
use Rattle.pa_cmean.specs.State.{Here, World, State, Cont, Exits, Job, Body, Again, tick, place_of, value_at, stored, owner_of, start, died, numbered, entering}
use Rattle.pa_cmean.specs.Calls.{putchar, getchar, main, function_type, gives_nothing, returning, exits_of, puts, gets, next_byte, runtime, enter, inside, call, called, is_called_as, call_pointer, under_of, is_plain, showing}
use Rattle.pa_cmean.specs.Expressions.{with_value, gives_truth, add_pointer, subtract_pointers, load, load_signed, store, eval, evals}
use Rattle.pa_cmean.proofs.Near.{Laws, at, Near, Within, soon, NearExits, nowhere, tick_alike, choose_near, given_near, value_near, onward_near}

module _ (R : ℕ → Meaning → Meaning → Type 0) (d : ℕ) (laws : Laws R d) (m : ℕ) where
  abbrev Close : (State → Meaning) → (State → Meaning) → Type 0
  Close = Near R d laws m

  abbrev CloseConts : Cont → Cont → Type 0
  CloseConts k k' = (v : CValue) → Close (k v) (k' v)

  near : {go go' : State → Meaning} → Within R d laws m go go' → Close go go'
  near {go} {go'} h = soon R d laws m go go' h

  -- a unit of work in front
  ticked : {go go' : State → Meaning} → Close go go' → Within R d laws m (λ st. tick st go) (λ st. tick st go')
  ticked {go} {go'} h = tick_alike R d laws m go go' h

  puts_near : (vs : List CValue) (k k' : Cont) → CloseConts k k' → Close (puts vs k) (puts vs k')
  unfolding puts
  puts_near (value.Number n ∷ []) k k' h =
      near (ticked (record { by = λ j j' w lt e. laws.enters j putchar w.here.depth _ _ (laws.prints j (residue 8 n) _ _ ((h (value.Number (pos (residue 8 n)))).by j j' w lt e)) }))
  puts_near _ k k' h = nowhere R d laws m

  gets_near : (vs : List CValue) (k k' : Cont) → CloseConts k k' → Close (gets vs k) (gets vs k')
  unfolding gets
  gets_near [] k k' h = near (ticked (record { by = λ j j' w lt e. laws.enters j getchar w.here.depth _ _ (byte w.input j j' w lt e) }))
    where
      byte : (input : List ℕ) (j j' : ℕ) (w : World) → j < m → j + d ≡ j' → R j (next_byte input k (at j w)) (next_byte input k' (at j' w))
      byte [] j j' w lt e = (h (value.Number (negsuc 0))).by j j' w lt e
      byte (b ∷ bs) j j' w lt e = (h (value.Number (pos b))).by j j' (record w { input = bs }) lt e
  gets_near _ k k' h = nowhere R d laws m

  runtime_near : (name : List ℕ) (vs : List CValue) (k k' : Cont) → CloseConts k k' → Close (runtime name vs k) (runtime name vs k')
  unfolding runtime
  runtime_near name vs k k' h =
      choose_near R d laws m (bytes_eq name putchar) _ _ _ _ (puts_near vs k k' h) (choose_near R d laws m (bytes_eq name getchar) _ _ _ _ (gets_near vs k k' h) (nowhere R d laws m))

  returning_near : (f : FunctionTree) (k k' : Cont) (caller : Here) → CloseConts k k' → CloseConts (returning f k caller) (returning f k' caller)
  returning_near f k k' caller h v = record { by = λ j j' w lt e. (h v).by j j' (record (died (numbered 0 f.parameters) w) { here = caller }) lt e }

  exits_near : (f : FunctionTree) (k k' : Cont) (caller : Here) → CloseConts k k' → NearExits R d laws m (exits_of f k caller) (exits_of f k' caller)
  exits_near f k k' caller h = record {
    next = choose_near R d laws m (gives_nothing f.of) _ _ _ _ (returning_near f k k' caller h nothing)
        (choose_near R d laws m (bytes_eq f.name main) _ _ _ _ (returning_near f k k' caller h (value.Number (pos 0))) (nowhere R d laws m));
    leave = nowhere R d laws m;
    proceed = nowhere R d laws m;
    give = returning_near f k k' caller h;
  }

  -- values
  load_near : (of : TypeTree) (v : CValue) (k k' : Cont) → CloseConts k k' → Close (load of v k) (load of v k')
  unfolding load
  load_near of v k k' h = value_near R d laws m (λ w. value_at w of v) k k' h

  load_signed_near : (schema : Schema) (of : TypeTree) (v : CValue) (k k' : Cont) → CloseConts k k' → Close (load_signed schema of v k) (load_signed schema of v k')
  unfolding load_signed
  load_signed_near schema of v k k' h =
      given_near R d laws m (λ w. place_of v) _ _ (λ place. given_near R d laws m (λ w. value_at w of v) _ _ (λ u. record { by = λ j j' w lt e. show j place u _ _ ((h u).by j j' (record w { loaded = Some (record { schema = schema; place = place }) }) lt e) }))
    where
      by_schema : (j : ℕ) (b : Bool) (item : seen.Seen) (a c : Meaning) → R j a c → R j (if b then a else shown item a) (if b then c else shown item c)
      by_schema j true item a c r = r
      by_schema j false item a c r = laws.shows j item a c r

      show : (j : ℕ) (place : Place) (u : CValue) (a c : Meaning) → R j a c → R j (showing schema place u a) (showing schema place u c)
      show j place (Code name) a c r = by_schema j (is_plain schema) (seen.Load schema place name) a c r
      show j place (value.Number n) a c r = r
      show j place (At other) a c r = r
      show j place Null a c r = r

  store_near : (old : Bool) (of : TypeTree) (p v : CValue) (k k' : Cont) → CloseConts k k' → Close (store old of p v k) (store old of p v k')
  unfolding store
  store_near old of p v k k' h = given_near R d laws m (λ w. if old then value_at w of p else Some v) _ _ (λ u. onward_near R d laws m (λ w. stored w of p v) (λ w. k u) (λ w. k' u) (λ w. h u))

  add_pointer_near : (program : ProgramTree) (left subtracts : Bool) (element : TypeTree) (u v : CValue) (k k' : Cont) → CloseConts k k' → Close (add_pointer program left subtracts element u v k) (add_pointer program left subtracts element u v k')
  unfolding add_pointer
  add_pointer_near program left subtracts element u v k k' h =
      value_near R d laws m (λ w. if left then stepped program.structs w.objects element u (opposite subtracts v) else stepped program.structs w.objects element v u) k k' h

  subtract_pointers_near : (program : ProgramTree) (element : Option TypeTree) (u v : CValue) (k k' : Cont) → CloseConts k k' → Close (subtract_pointers program element u v k) (subtract_pointers program element u v k')
  unfolding subtract_pointers
  subtract_pointers_near program element u v k k' h = value_near R d laws m (λ w. option_and_then (λ size. difference size u v) (option_and_then (bytes_of program.structs) element)) k k' h

  pure_near : (o : Option CValue) (k k' : Cont) → CloseConts k k' → Close (with_value o k) (with_value o k')
  pure_near o k k' h = value_near R d laws m (λ w. o) k k' h

  truth_near : (k k' : Cont) → CloseConts k k' → CloseConts (gives_truth k) (gives_truth k')
  truth_near k k' h v = h (of_truth (truth v))

  module _ (program : ProgramTree) (a a' : Again) (alike : (j : Job) (x y : Exits) → NearExits R d laws m x y → Near R d laws m (a j x) (a' j y)) where
    enter_near : (f : FunctionTree) (vs : List CValue) (k k' : Cont) → CloseConts k k' → Close (enter program a f vs k) (enter program a' f vs k')
    unfolding enter
    enter_near f vs k k' h = near (ticked (onward_near R d laws m (λ w. entering program.structs f vs w) (λ w. inside program a f k w.here) (λ w. inside program a' f k' w.here) (λ w. inner w.here)))
      where
        inner : (caller : Here) → Close (inside program a f k caller) (inside program a' f k' caller)
        inner caller = record { by = λ j j' w lt e. laws.enters j f.name w.here.depth _ _ ((alike (Body f.body) _ _ (exits_near f k k' caller h)).by j j' w lt e) }

    pub call_near : (name : List ℕ) (vs : List CValue) (k k' : Cont) → CloseConts k k' → Close (call program a name vs k) (call program a' name vs k')
    unfolding call
    call_near name vs k k' h = found (function_named program.functions name)
      where
        found : (f : Option FunctionTree) → Close (called program a f name vs k) (called program a' f name vs k')
        found None = runtime_near name vs k k' h
        found (Some f) = enter_near f vs k k' h

    call_pointer_near : (of : Option TypeTree) (under : Option Under) (v : CValue) (vs : List CValue) (k k' : Cont) → CloseConts k k' → Close (call_pointer program a of under v vs k) (call_pointer program a' of under v vs k')
    unfolding call_pointer
    call_pointer_near of under (Code name) vs k k' h =
        choose_near R d laws m (is_called_as program a of (function_type program name)) _ _ _ _ (record { by = λ j j' w lt e. laws.shows j (seen.Call name under) _ _ ((call_near name vs k k' h).by j j' w lt e) }) (nowhere R d laws m)
    call_pointer_near of under (value.Number n) vs k k' h = nowhere R d laws m
    call_pointer_near of under (At place) vs k k' h = nowhere R d laws m
    call_pointer_near of under Null vs k k' h = nowhere R d laws m

    mutual
      unfolding eval

      pub eval_alike : (same : Option Place) (e : TypedExpr) (k k' : Cont) → CloseConts k k' → Within R d laws m (eval program a same e k) (eval program a' same e k')
      eval_alike same (LocalPlace local of) k k' h = ticked (given_near R d laws m (λ w. owner_of w local) _ _ (λ owner. h (At (start owner))))
      eval_alike same (GlobalPlace name place of) k k' h = ticked (h _)
      eval_alike same (StringPlace text of) k k' h = ticked (h _)
      eval_alike same (Same of) k k' h = ticked (given_near R d laws m (λ w. same) _ _ (λ place. h (At place)))
      eval_alike same (Member owner index offset of) k k' h = ticked (near (eval_alike same owner _ _ (λ v. value_near R d laws m (λ w. moved w.objects (pos offset) v) k k' h)))
      eval_alike same (Index left right pointer_left of) k k' h = ticked (near (eval_alike same left _ _ (λ u. near (eval_alike same right _ _ (λ v. add_pointer_near program pointer_left false of u v k k' h)))))
      eval_alike same (Deref pointer of) k k' h = ticked (near (eval_alike same pointer _ _ (λ v. pure_near (pointed v) k k' h)))
      eval_alike same (Number value of) k k' h = ticked (pure_near (literal of value) k k' h)
      eval_alike same (Load from of) k k' h = ticked (near (eval_alike same from _ _ (λ v. load_near (type_of from) v k k' h)))
      eval_alike same (LoadSigned from schema of) k k' h = ticked (near (eval_alike same from _ _ (λ v. load_signed_near schema (type_of from) v k k' h)))
      eval_alike same (Store to value old of) k k' h = ticked (near (eval_alike same to _ _ (λ p. near (eval_alike (place_of p) value _ _ (λ v. store_near old (type_of to) p v k k' h)))))
      eval_alike same (StoreSigned to value old schema of) k k' h = ticked (near (eval_alike same to _ _ (λ p. near (eval_alike (place_of p) value _ _ (λ v. store_near old (type_of to) p v k k' h)))))
      eval_alike same (AddressOf at of) k k' h = ticked (near (eval_alike same at k k' h))
      eval_alike same (FunctionValue name place of) k k' h = ticked (h _)
      eval_alike same (Convert value of) k k' h = ticked (near (eval_alike same value _ _ (λ v. pure_near (converted of v) k k' h)))
      eval_alike same (Unary op value of) k k' h = ticked (near (eval_alike same value _ _ (λ v. pure_near (unary op of v) k k' h)))
      eval_alike same (Binary op left right of) k k' h = ticked (near (eval_alike same left _ _ (λ u. near (eval_alike same right _ _ (λ v. pure_near (binary op of u v) k k' h)))))
      eval_alike same (PointerAdd left right pointer_left subtracts of) k k' h =
          ticked (near (eval_alike same left _ _ (λ u. near (eval_alike same right _ _ (λ v. given_near R d laws m (λ w. pointee of) _ _ (λ element. add_pointer_near program pointer_left subtracts element u v k k' h))))))
      eval_alike same (PointerSub left right of) k k' h = ticked (near (eval_alike same left _ _ (λ u. near (eval_alike same right _ _ (λ v. subtract_pointers_near program (pointee (type_of left)) u v k k' h)))))
      eval_alike same (Compare op left right of) k k' h = ticked (near (eval_alike same left _ _ (λ u. near (eval_alike same right _ _ (λ v. value_near R d laws m (λ w. compared w.objects op u v) k k' h)))))
      eval_alike same (And left right of) k k' h = ticked (near (eval_alike same left _ _ (λ u. choose_near R d laws m (truth u) _ _ _ _ (near (eval_alike same right _ _ (truth_near k k' h))) (h (of_truth false)))))
      eval_alike same (Or left right of) k k' h = ticked (near (eval_alike same left _ _ (λ u. choose_near R d laws m (truth u) _ _ _ _ (h (of_truth true)) (near (eval_alike same right _ _ (truth_near k k' h))))))
      eval_alike same (Choose test when_true when_false of) k k' h = ticked (near (eval_alike same test _ _ (λ v. choose_near R d laws m (truth v) _ _ _ _ (near (eval_alike same when_true k k' h)) (near (eval_alike same when_false k k' h)))))
      eval_alike same (Comma first second of) k k' h = ticked (near (eval_alike same first _ _ (λ v. near (eval_alike same second k k' h))))
      eval_alike same (CallDirect name place arguments of) k k' h = ticked (evals_near same arguments _ _ (λ vs. call_near name vs k k' h))
      eval_alike same (CallPointer arguments function of) k k' h =
          ticked (evals_near same arguments _ _ (λ vs. near (eval_alike same function _ _ (λ v. record { by = λ j j' w lt e. (call_pointer_near (pointee (type_of function)) (under_of function w) v vs k k' h).by j j' w lt e }))))

      pub evals_near : (same : Option Place) (es : TypedExprs) (k k' : List CValue → State → Meaning) → ((vs : List CValue) → Close (k vs) (k' vs)) → Close (evals program a same es k) (evals program a' same es k')
      evals_near same NoTExprs k k' h = h []
      evals_near same (ConsTExpr e es) k k' h = near (eval_alike same e _ _ (λ v. evals_near same es _ _ (λ vs. h (v ∷ vs))))
