-- A direct call: its arguments go into the registers from x0 on, and BL links the place behind it and goes to the function.
use Rattle.std.proofs.Common.{◌≡◌, ℕ, suc, ◌+◌, ◌*◌, ◌%◌, ◌^◌, ◌≤◌, ◌<◌, Bool, false, eqb, leb, List, [], ◌∷◌, length, get_or, set, Option, Some, None, refl, sym, ap, subst, ◌∙◌, arith, get_or-set_same, get_or-set_other}
use Rattle.std.specs.Prelude.{◌||◌, slice_get, unwrap_or}
use Rattle.std.proofs.lemmas.Bool.{ne_eqb, lt-leb, leb-false}
use Rattle.std.proofs.lemmas.List.{length-append}
use Rattle.pa_num.specs.Arithmetic.{add64, scaled64}
use Rattle.pa_pac.specs.Signing.{Code}
use Rattle.pa_a64.specs.declared.instr.LoadStoreOp.TheVariants.{Ldr}
use Rattle.pa_mem.specs.Memory.{load}
use Rattle.pa_object.specs.Filled.{words_between}
use Rattle.pa_object.specs.Machine.{Machine, register}
use Rattle.pa_object.specs.Placed.{HasCode}
use Rattle.pa_object.specs.Run.{advance_by}
use Rattle.pa_object.proofs.Filled.{call_reaches}
use Rattle.pa_object.proofs.Placed.{HasCode-append}
use Rattle.pa_object.proofs.Growth.{advance_by-add}
use Rattle.pa_object.proofs.Steps.{bl_step}
use Rattle.pa_lir.specs.declared.op.Op.TheVariants as op
use Rattle.pa_lir.specs.declared.function.LirFn.{LirFn}
use Rattle.pa_lir.specs.Parts.{held}
use Rattle.pa_lir.specs.Values.{FlatValue}
use Rattle.pa_lir.specs.Meaning.{Open, temp, temps_of, and_values}
use Rattle.pa_frame.specs.Frames.{place_of_temp}
use Rattle.pa_select.specs.Selected.{load_temp, load_arguments, store_result}
use Rattle.pa_select.proofs.Costs.{length-access, length-arguments}
use Rattle.pa_selected.specs.Values.{Addresses, StandsFor}
use Rattle.pa_selected.specs.Worlds.{World, IsPlaced, IsCodeAddress, call_of, place_of_op}
use Rattle.pa_selected.specs.Calls.{IsRunning, HasFrameAt, HasArguments, IsOpen, IsAt}
use Rattle.pa_selected.proofs.Straight.{Goes, untouched, no_touch, goes_then, goes_more, goes_none, one, fine_later, code_later}
use Rattle.pa_selected.proofs.Slots.{frame_later, loads_temp}
use Rattle.pa_selected.proofs.Storing.{slot}
use Rattle.pa_selected.proofs.Steps.{code_of_op, room_at}

-- ---- arguments

-- registers from a number on have the words of temporaries
abbrev pub AreLoaded : LirFn → (m later : Machine) → (number : ℕ) → List ℕ → Type 0
AreLoaded f m later number [] = Unit {0}
AreLoaded f m later number (t ∷ ts) = (register number later ≡ slot f m t) × AreLoaded f m later (suc number) ts

abbrev pub AreHeld : LirFn → List ℕ → Type 0
AreHeld f [] = Unit {0}
AreHeld f (t ∷ ts) = (t < held f) × AreHeld f ts

-- the registers that loading arguments touches
abbrev pub from_number : ℕ → ℕ → Bool
from_number number k = eqb k 12 || leb number k

pub record Loaded (code : Code) (f : LirFn) (m : Machine) (number : ℕ) (ts : List ℕ) : Type 0 where
  pub later : Machine
  pub goes : Goes code (length (load_arguments f number ts)) m later m.memory (from_number number)
  pub words : AreLoaded f m later number ts

-- they have them still where the later ones are loaded, and where memory was the same
loaded_alike : (f : LirFn) (m k later : Machine) (number : ℕ) (ts : List ℕ) → k.memory ≡ m.memory → k.sp ≡ m.sp → AreLoaded f k later number ts → AreLoaded f m later number ts
loaded_alike f m k later number [] one two h = tt
loaded_alike f m k later number (t ∷ ts) one two h = (
  h.0 ∙ (ap (λ x. load 8 x (k.sp + place_of_temp f t)) one ∙ ap (λ s. load 8 m.memory (s + place_of_temp f t)) two),
  loaded_alike f m k later (suc number) ts one two h.1,
)

module _ (code : Code) (f : LirFn) where
  pub loads_arguments : (ts : List ℕ) (number : ℕ) (m : Machine) → IsRunning m → HasFrameAt f m → number + length ts ≤ 8 → AreHeld f ts → m.pc + 8 * length ts + 8 < 2 ^ 64 → HasCode m.memory m.pc (load_arguments f number ts) → Loaded code f m number ts
  unfolding load_arguments
  loads_arguments [] number m running frame few held room c = record { later = m; goes = goes_none code m (from_number number) running; words = tt }
  loads_arguments (t ∷ ts) number m running frame few held room c =
      let first_code = load_temp f number t in
      let rest_code = load_arguments f (suc number) ts in
      let parts = HasCode-append m.memory m.pc first_code rest_code c in
      let made = loads_temp code f m running frame (omega arith) number t (omega arith) held.0 parts.0 in
      let k = made.later in
      let g = made.goes in
      let short = length-access Ldr number (place_of_temp f t) in
      let running1 = fine_later code _ m k m.memory _ running g in
      let frame1 = frame_later code f _ m k m.memory _ frame g in
      let rest = loads_arguments ts (suc number) k running1 frame1 (omega arith) held.1 (omega (arith, g.pc, short)) (code_later code _ m k m.memory _ rest_code running g parts.1) in
      let both = goes_then code _ _ m k rest.later m.memory k.memory _ _ g rest.goes in
      let less = goes_more code _ m rest.later k.memory _ (from_number number) (λ j h. less_touched j h) both in
      let not_12 : eqb number 12 ≡ false = ne_eqb number 12 (omega arith) in
      let not_later : leb (suc number) number ≡ false = lt-leb (suc number) number (omega arith) in
      record {
        later = rest.later;
        goes = subst (λ n. Goes code n m rest.later m.memory (from_number number)) (sym (length-append first_code rest_code))
            (subst (λ x. Goes code (length first_code + length rest_code) m rest.later x (from_number number)) g.memory less);
        words = (
          rest.goes.others number (untouched (eqb number 12) (leb (suc number) number) not_12 not_later) ∙ made.value,
          loaded_alike f m k rest.later (suc number) ts g.memory g.sp rest.words,
        );
      }
    where
      less_touched : (j : ℕ) → from_number number j ≡ false → ((eqb j 12 || eqb j number) || from_number (suc number) j) ≡ false
      less_touched j h =
          let parts = no_touch (eqb j 12) (leb number j) h in
          let below : j < number = leb-false number j parts.1 in
          untouched (eqb j 12 || eqb j number) (from_number (suc number) j)
          (untouched (eqb j 12) (eqb j number) parts.0 (ne_eqb j number (omega arith)))
          (untouched (eqb j 12) (leb (suc number) j) parts.0 (lt-leb (suc number) j (omega arith)))

-- ---- the call

-- The next instruction is the first of the function that is called. x30 has the place behind the BL.
pub record Called (w : World) (f : LirFn) (m : Machine) (name ts : List ℕ) : Type 0 where
  pub later : Machine
  pub number : ℕ
  pub some : 1 ≤ number
  pub few : number ≤ 2 * length ts + 1
  pub runs : advance_by w.pac [] number m ≡ later
  pub pc : later.pc ≡ w.entry name
  pub count : later.count ≡ m.count + number
  pub sp : later.sp ≡ m.sp
  pub memory : later.memory ≡ m.memory
  pub input : later.input ≡ m.input
  pub output : later.output ≡ m.output
  pub log : later.log ≡ m.log
  pub ended : later.ended ≡ None
  pub link : register 30 later ≡ m.pc + 4 * suc (length (load_arguments f 0 ts))
  pub words : AreLoaded f m later 0 ts

-- a link leaves the argument registers
words_linked : (f : LirFn) (m k : Machine) (v number : ℕ) (ts : List ℕ) (later : Machine) → later.registers ≡ set k.registers 30 v → number + length ts ≤ 8 → AreLoaded f m k number ts → AreLoaded f m later number ts
words_linked f m k v number [] later e few h = tt
words_linked f m k v number (t ∷ ts) later e few h = (
  ap (λ r. get_or r number 0) e ∙ (get_or-set_other k.registers 30 number v 0 (λ same. omega arith) ∙ h.0),
  words_linked f m k v (suc number) ts later e (omega arith) h.1,
)

-- behind a BL
abbrev pub linked_to : World → Machine → (name : List ℕ) → Machine
linked_to w m name = record m { registers = set m.registers 30 (m.pc + 4); pc = w.entry name; count = suc m.count }

-- ---- values of arguments

some_values : (xs ys : List FlatValue) → Some xs ≡ Some ys → xs ≡ ys
some_values xs ys e = ap (λ o. unwrap_or o xs) e

-- each temporary of the arguments has a value, and a slot
pub values_held : (addresses : Addresses) (o : Open) (m : Machine) → IsOpen addresses o m → (ts : List ℕ) (values : List FlatValue) → temps_of o ts ≡ Some values → AreHeld o.function ts
unfolding temps_of
values_held addresses o m call [] values e = tt
values_held addresses o m call (t ∷ ts) values e = go (temp o t) (temps_of o ts) refl refl (λ vs q. values_held addresses o m call ts vs q) e
  where
    go : (v : Option FlatValue) (vs : Option (List FlatValue)) → temp o t ≡ v → temps_of o ts ≡ vs → ((vs : List FlatValue) → temps_of o ts ≡ Some vs → AreHeld o.function ts) → and_values v vs ≡ Some values → AreHeld o.function (t ∷ ts)
    go None vs q r ih e = cc
    go (Some v) None q r ih e = cc
    go (Some v) (Some vs) q r ih e = ((call.temps t v q).0, ih vs r)

-- the registers stand for them
pub values_loaded : (addresses : Addresses) (o : Open) (m later : Machine) → IsOpen addresses o m → (number : ℕ) (ts : List ℕ) (values : List FlatValue) → temps_of o ts ≡ Some values → AreLoaded o.function m later number ts → HasArguments addresses later number values
unfolding temps_of
values_loaded addresses o m later call number [] values e h = subst (HasArguments addresses later number) (some_values [] values e) tt
values_loaded addresses o m later call number (t ∷ ts) values e h = go (temp o t) (temps_of o ts) refl refl (λ vs q. values_loaded addresses o m later call (suc number) ts vs q h.1) h.0 e
  where
    go : (v : Option FlatValue) (vs : Option (List FlatValue)) → temp o t ≡ v → temps_of o ts ≡ vs → ((vs : List FlatValue) → temps_of o ts ≡ Some vs → HasArguments addresses later (suc number) vs) → register number later ≡ slot o.function m t → and_values v vs ≡ Some values
        → HasArguments addresses later number values
    go None vs q r ih here e = cc
    go (Some v) None q r ih here e = cc
    go (Some v) (Some vs) q r ih here e = subst (HasArguments addresses later number) (some_values (v ∷ vs) values e) (subst (StandsFor addresses v) (sym here) (call.temps t v q).1, ih vs r)

module _ (w : World) (addresses : Addresses) (o : Open) (m : Machine) (call : IsOpen addresses o m) (placed : IsPlaced w m.memory o.function) (at : IsAt w o m) where
  pub call_runs : (to : Option ℕ) (name ts : List ℕ) → slice_get o.function.ops o.at ≡ Some (op.Call to name ts) → length ts ≤ 8 → AreHeld o.function ts → IsCodeAddress (w.entry name) → Called w o.function m name ts
  call_runs to name ts e few held target =
      let f = o.function in
      let loads = load_arguments f 0 ts in
      let place = place_of_op f o.at in
      let bl = call_of w f (place + length loads) name in
      let low = room_at w o m placed at in
      let short = length-arguments f 0 ts in
      let parts = HasCode-append m.memory m.pc loads (bl ∷ store_result f to) (code_of_op w o m (op.Call to name ts) placed at e) in
      let loaded = loads_arguments w.pac f ts 0 m call.running call.frame (omega arith) held (omega (arith, low)) parts.0 in
      let k = loaded.later in
      let g = loaded.goes in
      let rest = code_later w.pac _ m k m.memory _ (bl ∷ store_result f to) call.running g parts.1 in
      let here : w.entry f.name + 4 * (place + length loads) ≡ k.pc = omega (arith, g.pc, at) in
      let aligned : k.pc % 4 ≡ 0 = let a = placed.aligned in omega (arith, here) in
      let words = words_between (w.entry f.name + 4 * (place + length loads)) (w.entry name) in
      let goal_low = target.low in
      let reaches = ap (λ p. add64 p (scaled64 4 words)) (sym here) ∙ call_reaches (w.entry f.name + 4 * (place + length loads)) (w.entry name) (omega (arith, aligned, here)) target.aligned (omega (arith, here, g.pc, short, low)) (omega arith) in
      let done = bl_step w.pac k (omega (arith, g.pc, short, low)) words (w.entry name) rest.0 reaches in
      let wide = (fine_later w.pac _ m k m.memory _ call.running g).wide in
      record {
        later = linked_to w k name;
        number = length loads + 1;
        some = omega arith;
        few = omega (arith, short);
        runs = advance_by-add w.pac [] (length loads) 1 m ∙ (ap (advance_by w.pac [] 1) g.runs ∙ one w.pac k _ g.ended done);
        pc = refl;
        count = omega (arith, g.count);
        sp = g.sp;
        memory = g.memory;
        input = g.input;
        output = g.output;
        log = g.log;
        ended = g.ended;
        link = get_or-set_same k.registers 30 (k.pc + 4) 0 (omega (arith, wide)) ∙ omega (arith, g.pc);
        words = words_linked f m k (k.pc + 4) 0 ts (linked_to w k name) refl (omega arith) loaded.words;
      }
