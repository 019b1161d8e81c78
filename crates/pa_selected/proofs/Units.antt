-- What the operation of the newest open call does: the machine runs its instructions, and stands to what it leaves as before.
use Rattle.std.proofs.Common.{◌≡◌, ℕ, zero, suc, ◌+◌, ◌-◌, ◌^◌, ◌≤◌, ◌<◌, Bool, true, false, cond, ltb, List, [], ◌∷◌, length, set, Option, Some, None, refl, sym, ap, subst, ◌∙◌, arith}
use Rattle.std.specs.Prelude.{slice_get, unwrap_or, option_map, option_and_then}
use Rattle.std.proofs.lemmas.Option.{slice_get_within, get_or_from_slice_get}
use Rattle.pa_object.specs.Machine.{Machine}
use Rattle.pa_object.specs.Run.{advance_by}
use Rattle.pa_lir.specs.declared.op.Op.{Op}
use Rattle.pa_lir.specs.declared.op.Op.TheVariants as op
use Rattle.pa_lir.specs.declared.op.BinOp.{BinOp}
use Rattle.pa_lir.specs.declared.op.UnOp.{UnOp}
use Rattle.pa_lir.specs.Flow.{place_of_label}
use Rattle.pa_lir.specs.Operators.{binary, unary, of_number}
use Rattle.pa_lir.specs.Parts.{cost, counted}
use Rattle.pa_lir.specs.Values.{FlatValue, Number, At, Code, Byte, Object, Objects, bytes_at, bytes_of, value_in, written, extended}
use Rattle.pa_lir.specs.Meaning.{Open, Coming, Act, Gives, Changes, Goes, Calls, Returns, temp, temps_of, and_values, act_of, gives, on_two, extends, bytes_from, writes, stores, comes, branches, returns, with_temp}
use Rattle.pa_lir.specs.WellFormed.{IsWidth, IsSoundAt}
use Rattle.pa_select.specs.Selectable.{IsDirect}
use Rattle.pa_selected.specs.Values.{Addresses}
use Rattle.pa_selected.specs.Worlds.{World}
use Rattle.pa_selected.proofs.Branching.{moved}
use Rattle.pa_selected.proofs.Giving.{Ready, Moves, open_call, function_placed}
use Rattle.pa_selected.proofs.Operations.{const_moves, bin_moves, un_moves, extend_moves, local_moves, label_ready, jump_moves, zero_falls, other_goes}
use Rattle.pa_selected.proofs.Loading.{load_moves}
use Rattle.pa_selected.proofs.Stores.{store_moves}
use Rattle.pa_selected.proofs.Comings.{Makes, call_makes}
use Rattle.pa_selected.proofs.Resuming.{WentBack, returns_back}

some_act : (x y : Act) → Some x ≡ Some y → x ≡ y
some_act x y e = ap (λ o. unwrap_or o x) e

some_value : (x y : FlatValue) → Some x ≡ Some y → x ≡ y
some_value x y e = ap (λ o. unwrap_or o x) e

-- What the machine does for an act, in so many instructions at least and at most. A call leaves 14 of them for the beginning of
-- its function and for its result.
abbrev pub DoesAct : World → Addresses → Objects → Open → List Open → Machine → (least most : ℕ) → Act → Type 0
DoesAct w addresses objects o os m least most (Gives to value seen) = Moves w addresses objects (with_temp to value o) os m least most × (seen ≡ [])
DoesAct w addresses objects o os m least most (Changes object to) = Moves w addresses (set objects object to) (moved o (suc o.at)) os m least most
DoesAct w addresses objects o os m least most (Goes at) = Moves w addresses objects (moved o at) os m least most
DoesAct w addresses objects o os m least most (Calls coming seen) = Makes w addresses objects (o ∷ os) coming m least (most - 14) × (14 ≤ most) × (seen ≡ [])
DoesAct w addresses objects o os m least most (Returns value) = WentBack w addresses objects o os value m × (least ≤ 1) × (6 ≤ most)

count_values : (o : Open) (ts : List ℕ) (values : List FlatValue) → temps_of o ts ≡ Some values → length values ≡ length ts
unfolding temps_of
count_values o [] values e = ap length (sym (ap (λ x. unwrap_or x values) e))
count_values o (t ∷ ts) values e = go (temp o t) (temps_of o ts) refl (λ vs q. count_values o ts vs q) e
  where
    go : (v : Option FlatValue) (rest : Option (List FlatValue)) → temps_of o ts ≡ rest → ((vs : List FlatValue) → temps_of o ts ≡ Some vs → length vs ≡ length ts) → and_values v rest ≡ Some values → length values ≡ suc (length ts)
    go None rest q ih e = cc
    go (Some v) None q ih e = cc
    go (Some v) (Some vs) q ih e = ap length (sym (ap (λ x. unwrap_or x values) e)) ∙ ap suc (ih vs q)

module _ (w : World) (addresses : Addresses) (objects : Objects) (o : Open) (os : List Open) (m : Machine) (ready : Ready w addresses objects o os m) where
  abbrev Acts : Op → Act → Type 0
  Acts operation act = DoesAct w addresses objects o os m (counted operation) (cost operation) act

  gives_done : (operation : Op) (act : Act) (to : ℕ) (value : Option FlatValue) → ((v : FlatValue) → value ≡ Some v → Moves w addresses objects (with_temp to v o) os m (counted operation) (cost operation)) → gives to value ≡ Some act → Acts operation act
  gives_done operation act to None h e = cc
  gives_done operation act to (Some v) h e = subst (Acts operation) (some_act (Gives to v []) act e) (h v refl, refl)

  bin_done : (to : ℕ) (operator : BinOp) (left right : ℕ) (act : Act) → slice_get o.function.ops o.at ≡ Some (op.Bin to operator left right) → on_two (λ u v. gives to (binary objects operator u v)) (temp o left) (temp o right) ≡ Some act → Acts (op.Bin to operator left right) act
  bin_done to operator left right act e means = go (temp o left) (temp o right) refl refl means
    where
      go : (u v : Option FlatValue) → temp o left ≡ u → temp o right ≡ v → on_two (λ u v. gives to (binary objects operator u v)) u v ≡ Some act → Acts (op.Bin to operator left right) act
      go None v p q means = cc
      go (Some u) None p q means = cc
      go (Some u) (Some v) p q means = gives_done (op.Bin to operator left right) act to (binary objects operator u v) (λ z r. bin_moves w addresses objects o os m ready to operator left right u v z e p q r) means

  un_done : (to : ℕ) (operator : UnOp) (from : ℕ) (act : Act) → slice_get o.function.ops o.at ≡ Some (op.Un to operator from) → gives to (option_and_then (unary operator) (temp o from)) ≡ Some act → Acts (op.Un to operator from) act
  un_done to operator from act e means = gives_done (op.Un to operator from) act to (option_and_then (unary operator) (temp o from)) (λ z r. go (temp o from) refl z r) means
    where
      go : (u : Option FlatValue) → temp o from ≡ u → (z : FlatValue) → option_and_then (unary operator) u ≡ Some z → Moves w addresses objects (with_temp to z o) os m 1 5
      go None p z r = cc
      go (Some (Number x)) p z r = subst (λ z. Moves w addresses objects (with_temp to z o) os m 1 5) (some_value (Number (of_number operator x)) z r) (un_moves w addresses objects o os m ready to operator from x e p)
      go (Some (At object offset)) p z r = cc
      go (Some (Code name schema)) p z r = cc

  extend_done : (to from bits : ℕ) (signed : Bool) (act : Act) → 1 ≤ bits → bits ≤ 64 → slice_get o.function.ops o.at ≡ Some (op.Extend to from bits signed) → gives to (option_and_then (extends bits signed) (temp o from)) ≡ Some act → Acts (op.Extend to from bits signed) act
  extend_done to from bits signed act some most e means = gives_done (op.Extend to from bits signed) act to (option_and_then (extends bits signed) (temp o from)) (λ z r. go (temp o from) refl z r) means
    where
      go : (u : Option FlatValue) → temp o from ≡ u → (z : FlatValue) → option_and_then (extends bits signed) u ≡ Some z → Moves w addresses objects (with_temp to z o) os m 1 5
      go None p z r = cc
      go (Some (Number x)) p z r = subst (λ z. Moves w addresses objects (with_temp to z o) os m 1 5) (some_value (Number (extended bits signed x)) z r) (extend_moves w addresses objects o os m ready to from bits signed x some most e p)
      go (Some (At object offset)) p z r = cc
      go (Some (Code name schema)) p z r = cc

  local_done : (to local : ℕ) (act : Act) → local < length o.function.locals → slice_get o.function.ops o.at ≡ Some (op.Local to local) → gives to (cond (ltb local (length o.function.locals)) (Some (At (o.first + local) 0)) None) ≡ Some act → Acts (op.Local to local) act
  local_done to local act within e means = gives_done (op.Local to local) act to (cond (ltb local (length o.function.locals)) (Some (At (o.first + local) 0)) None) (λ z r. go (ltb local (length o.function.locals)) z r) means
    where
      go : (b : Bool) (z : FlatValue) → cond b (Some (At (o.first + local) 0)) None ≡ Some z → Moves w addresses objects (with_temp to z o) os m 1 4
      go true z r = subst (λ z. Moves w addresses objects (with_temp to z o) os m 1 4) (some_value (At (o.first + local) 0) z r) (local_moves w addresses objects o os m ready to local within e)
      go false z r = cc

  load_done : (to at n : ℕ) (signed : Bool) (act : Act) → IsWidth n → slice_get o.function.ops o.at ≡ Some (op.Load to at n signed) → gives to (option_and_then (value_in signed) (option_and_then (bytes_from objects n) (temp o at))) ≡ Some act → Acts (op.Load to at n signed) act
  load_done to at n signed act width e means = gives_done (op.Load to at n signed) act to (option_and_then (value_in signed) (option_and_then (bytes_from objects n) (temp o at))) (λ z r. from_temp (temp o at) refl z r) means
    where
      from_bytes : (object offset : ℕ) → temp o at ≡ Some (At object offset) → (target : Object) → slice_get objects object ≡ Some target → (bytes : Option (List Byte)) → bytes_at n offset target ≡ bytes → (z : FlatValue) → option_and_then (value_in signed) bytes ≡ Some z
          → Moves w addresses objects (with_temp to z o) os m 1 5
      from_bytes object offset p target q None k z r = cc
      from_bytes object offset p target q (Some bytes) k z r = load_moves w addresses objects o os m ready to at n object offset signed target bytes z e width p q k r

      from_object : (object offset : ℕ) → temp o at ≡ Some (At object offset) → (target : Option Object) → slice_get objects object ≡ target → (z : FlatValue) → option_and_then (value_in signed) (option_and_then (bytes_at n offset) target) ≡ Some z
          → Moves w addresses objects (with_temp to z o) os m 1 5
      from_object object offset p None q z r = cc
      from_object object offset p (Some target) q z r = from_bytes object offset p target q (bytes_at n offset target) refl z r

      from_temp : (u : Option FlatValue) → temp o at ≡ u → (z : FlatValue) → option_and_then (value_in signed) (option_and_then (bytes_from objects n) u) ≡ Some z → Moves w addresses objects (with_temp to z o) os m 1 5
      from_temp None p z r = cc
      from_temp (Some (Number x)) p z r = cc
      from_temp (Some (At object offset)) p z r = from_object object offset p (slice_get objects object) refl z r
      from_temp (Some (Code name schema)) p z r = cc

  store_done : (at from n : ℕ) (act : Act) → IsWidth n → slice_get o.function.ops o.at ≡ Some (op.Store at from n) → on_two (stores objects n) (temp o at) (temp o from) ≡ Some act → Acts (op.Store at from n) act
  store_done at from n act width e means = from_temps (temp o at) (temp o from) refl refl means
    where
      changed : (object offset : ℕ) (v : FlatValue) (new : List Byte) → temp o at ≡ Some (At object offset) → temp o from ≡ Some v → bytes_of n v ≡ Some new → (target : Object) → slice_get objects object ≡ Some target
          → (to : Option Object) → written offset new target ≡ to → option_map (Changes object) to ≡ Some act → Acts (op.Store at from n) act
      changed object offset v new p q k target t None r means = cc
      changed object offset v new p q k target t (Some to) r means = subst (Acts (op.Store at from n)) (some_act (Changes object to) act means) (store_moves w addresses objects o os m ready at from n object offset target to v new e width p q t k r)

      through : (object offset : ℕ) (v : FlatValue) (new : List Byte) → temp o at ≡ Some (At object offset) → temp o from ≡ Some v → bytes_of n v ≡ Some new → (target : Option Object) → slice_get objects object ≡ target
          → option_map (Changes object) (option_and_then (written offset new) target) ≡ Some act → Acts (op.Store at from n) act
      through object offset v new p q k None t means = cc
      through object offset v new p q k (Some target) t means = changed object offset v new p q k target t (written offset new target) refl means

      from_bytes : (u v : FlatValue) (new : Option (List Byte)) → temp o at ≡ Some u → temp o from ≡ Some v → bytes_of n v ≡ new → option_and_then (writes objects u) new ≡ Some act → Acts (op.Store at from n) act
      from_bytes u v None p q k means = cc
      from_bytes (Number x) v (Some new) p q k means = cc
      from_bytes (At object offset) v (Some new) p q k means = through object offset v new p q k (slice_get objects object) refl means
      from_bytes (Code name schema) v (Some new) p q k means = cc

      from_temps : (u v : Option FlatValue) → temp o at ≡ u → temp o from ≡ v → on_two (stores objects n) u v ≡ Some act → Acts (op.Store at from n) act
      from_temps None v p q means = cc
      from_temps (Some u) None p q means = cc
      from_temps (Some u) (Some v) p q means = from_bytes u v (bytes_of n v) p q refl means

  label_done : (label : ℕ) → slice_get o.function.ops o.at ≡ Some (op.Label label) → Moves w addresses objects (moved o (suc o.at)) os m 0 0
  unfolding advance_by
  label_done label e = record {
    later = m;
    leads = record { number = 0; runs = refl; some = omega arith; few = omega arith; count = omega arith; input = refl; output = refl; log = refl };
    ready = label_ready w addresses objects o os m ready label e;
  }

  goes_done : (operation : Op) (act : Act) (to : Option ℕ) → ((k : ℕ) → to ≡ Some k → Moves w addresses objects (moved o k) os m (counted operation) (cost operation)) → option_map Goes to ≡ Some act → Acts operation act
  goes_done operation act None h e = cc
  goes_done operation act (Some k) h e = subst (Acts operation) (some_act (Goes k) act e) (h k refl)

  branch_done : (on label : ℕ) (act : Act) → slice_get o.function.ops o.at ≡ Some (op.Branch on label) → option_and_then (branches o label) (temp o on) ≡ Some act → Acts (op.Branch on label) act
  branch_done on label act e means = go (temp o on) refl means
    where
      other : (value : FlatValue) → temp o on ≡ Some value → (value ≡ Number 0 → ⊥) → option_map Goes (place_of_label o.function.ops label) ≡ Some act → Acts (op.Branch on label) act
      other value p some means = goes_done (op.Branch on label) act (place_of_label o.function.ops label) (λ k q. other_goes w addresses objects o os m ready on label k value e p some q) means

      go : (u : Option FlatValue) → temp o on ≡ u → option_and_then (branches o label) u ≡ Some act → Acts (op.Branch on label) act
      go None p means = cc
      go (Some (Number zero)) p means = subst (Acts (op.Branch on label)) (some_act (Goes (suc o.at)) act means) (zero_falls w addresses objects o os m ready on label e p)
      go (Some (Number (suc x))) p means = other (Number (suc x)) p (λ q. cc) means
      go (Some (At object offset)) p means = other (At object offset) p (λ q. cc) means
      go (Some (Code name schema)) p means = other (Code name schema) p (λ q. cc) means

  call_done : (to : Option ℕ) (name ts : List ℕ) (act : Act) → length ts ≤ 8 → slice_get o.function.ops o.at ≡ Some (op.Call to name ts) → option_map (comes to name []) (temps_of o ts) ≡ Some act → Acts (op.Call to name ts) act
  call_done to name ts act few e means = go (temps_of o ts) refl means
    where
      go : (values : Option (List FlatValue)) → temps_of o ts ≡ values → option_map (comes to name []) values ≡ Some act → Acts (op.Call to name ts) act
      go None p means = cc
      go (Some values) p means =
          subst (Acts (op.Call to name ts)) (some_act (Calls (record { name = name; arguments = values; into = to }) []) act means)
          (call_makes w addresses objects o os m ready to name ts values e few (omega (arith, few, count_values o ts values p)) p, omega arith, refl)

  return_done : (from : Option ℕ) (act : Act) → slice_get o.function.ops o.at ≡ Some (op.Return from) → returns o from ≡ Some act → Acts (op.Return from) act
  return_done None act e means = subst (Acts (op.Return None)) (some_act (Returns None) act means) (returns_back w addresses objects o os m ready None None e refl, omega arith, omega arith)
  return_done (Some t) act e means = go (temp o t) refl means
    where
      go : (u : Option FlatValue) → temp o t ≡ u → option_map (λ value. Returns (Some value)) u ≡ Some act → Acts (op.Return (Some t)) act
      go None p means = cc
      go (Some v) p means =
          subst (Acts (op.Return (Some t))) (some_act (Returns (Some v)) act means)
          (returns_back w addresses objects o os m ready (Some t) (Some v) e (ap (λ u. option_map (λ value. Returns (Some value)) u) p), omega arith, omega arith)

  -- ---- each operation that has code

  direct : (operation : Op) → slice_get o.function.ops o.at ≡ Some operation → IsDirect operation
  direct operation e =
      let placed = function_placed w addresses objects o os m ready in
      subst IsDirect (get_or_from_slice_get o.function.ops o.at operation operation e) (placed.selectable.direct o.at operation (slice_get_within o.function.ops o.at operation e))

  sound : (operation : Op) → slice_get o.function.ops o.at ≡ Some operation → IsSoundAt o.function.ops (length o.function.locals) o.at operation
  sound operation e = let placed = function_placed w addresses objects o os m ready in placed.selectable.well_formed.sound o.at operation e

  pub operation_does : ((to value : ℕ) → slice_get o.function.ops o.at ≡ Some (op.Const to value) → value < 2 ^ 64) → (operation : Op) (act : Act) → slice_get o.function.ops o.at ≡ Some operation → act_of w.lir objects o operation ≡ Some act → Acts operation act
  unfolding act_of
  operation_does words (op.Const to value) act e means = gives_done (op.Const to value) act to (Some (Number value)) (λ v q. subst (λ z. Moves w addresses objects (with_temp to z o) os m 1 6) (some_value (Number value) v q) (const_moves w addresses objects o os m ready to value (words to value e) e)) means
  operation_does words (op.Bin to operator left right) act e means = bin_done to operator left right act e means
  operation_does words (op.Un to operator from) act e means = un_done to operator from act e means
  operation_does words (op.Extend to from bits signed) act e means = let range = sound (op.Extend to from bits signed) e in extend_done to from bits signed act range.0 range.1 e means
  operation_does words (op.Local to local) act e means = local_done to local act (sound (op.Local to local) e) e means
  operation_does words (op.Global to name) act e means = absurd (direct (op.Global to name) e)
  operation_does words (op.Code to name) act e means = absurd (direct (op.Code to name) e)
  operation_does words (op.Load to at n signed) act e means = load_done to at n signed act (sound (op.Load to at n signed) e) e means
  operation_does words (op.Store at from n) act e means = store_done at from n act (sound (op.Store at from n) e) e means
  operation_does words (op.LoadSigned to at schema) act e means = absurd (direct (op.LoadSigned to at schema) e)
  operation_does words (op.StoreSigned at from schema) act e means = absurd (direct (op.StoreSigned at from schema) e)
  operation_does words (op.Call to name ts) act e means = call_done to name ts act (sound (op.Call to name ts) e) e means
  operation_does words (op.CallPlain to called ts) act e means = absurd (direct (op.CallPlain to called ts) e)
  operation_does words (op.CallSigned to at schema ts) act e means = absurd (direct (op.CallSigned to at schema ts) e)
  operation_does words (op.Label label) act e means = subst (Acts (op.Label label)) (some_act (Goes (suc o.at)) act means) (label_done label e)
  operation_does words (op.Jump label) act e means = goes_done (op.Jump label) act (place_of_label o.function.ops label) (λ k q. jump_moves w addresses objects o os m ready label k e q) means
  operation_does words (op.Branch on label) act e means = branch_done on label act e means
  operation_does words (op.Return from) act e means = return_done from act e means
