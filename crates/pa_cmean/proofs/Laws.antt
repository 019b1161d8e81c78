-- A job is what it is made of, and with more work the meaning goes on where it stopped.
use Rattle.std.proofs.Common.{◌≡◌, ℕ, zero, suc, ◌+◌, ◌<◌, ◌≤◌, List, [], ◌∷◌, ◌++◌, Option, Some, None, refl, sym, ap, arith}
use Rattle.std.specs.Prelude.{ℤ, Bool, true, false, if◌then◌else◌}
use Rattle.pa_integer.specs.Integers.{is_in_range}
use Rattle.pa_ctype.specs.Traces.{Seen, Enter}
use Rattle.pa_ctype.specs.Values as value
use Rattle.pa_ctype.specs.Values.{CValue, At, Code, Null, Objects}
use Rattle.pa_cmean.specs.Results.{Meaning, End, ends, Done, Stop, Undefined, undefined, worked, turned, printed, shown, entered, given}
use Rattle.pa_typed.specs.Units.{ProgramTree}
use Rattle.pa_cmean.specs.State.{State, Exits, Job, Body, Turn, Redo, Again, ticked, turned_with}
use Rattle.pa_cmean.specs.Calls.{call, main}
use Rattle.pa_cmean.specs.Statics.{statics}
use Rattle.pa_cmean.specs.Mean.{perform, level, run, status, at_start, mean}
use Rattle.pa_cmean.proofs.Near.{Laws, at, Near, Within, soon, NearExits, weaker, nowhere}
use Rattle.pa_cmean.proofs.NearExprs.{call_near}
use Rattle.pa_cmean.proofs.NearStmts.{exec_alike, evaluate_near, loop_alike, redo_alike}

module _ (R : ℕ → Meaning → Meaning → Type 0) (d : ℕ) (laws : Laws R d) where
  abbrev AlikeJobs : ℕ → Again → Again → Type 0
  AlikeJobs m a a' = (j : Job) (x y : Exits) → NearExits R d laws m x y → Near R d laws m (a j x) (a' j y)

  perform_alike : (program : ProgramTree) (a a' : Again) (m : ℕ) → AlikeJobs m a a' → (j : Job) (x y : Exits) → NearExits R d laws m x y → Within R d laws m (perform program a j x) (perform program a' j y)
  unfolding perform
  perform_alike program a a' m alike (Body body) x y h = exec_alike R d laws m program a a' alike body x y h
  perform_alike program a a' m alike (Turn test step body) x y h =
      loop_alike R d laws m program a a' alike test _ _ _ _ x y (evaluate_near R d laws m program a a' alike step _ _ (alike (Turn test step body) x y h)) (λ x y h. exec_alike R d laws m program a a' alike body x y h) h
  perform_alike program a a' m alike (Redo body test) x y h =
      redo_alike R d laws m program a a' alike _ _ test _ _ x y (alike (Redo body test) x y h) (λ x y h. exec_alike R d laws m program a a' alike body x y h) h

  level_alike : (program : ProgramTree) (n n' m : ℕ) → m < n → m + d < n' → (j : Job) (x y : Exits) → NearExits R d laws m x y → Within R d laws m (level program n j x) (level program n' j y)
  unfolding level
  level_alike program zero n' m l l' j x y h = absurd (omega arith)
  level_alike program (suc n) zero m l l' j x y h = absurd (omega arith)
  level_alike program (suc n) (suc n') m l l' j x y h =
      perform_alike program (level program n) (level program n') m (λ j x y h. record { by = λ i i' w lt e. (level_alike program n n' i (omega arith) (omega arith) j x y (weaker R d laws m i x y (omega arith) h)).by i i' w (omega arith) e }) j x y h

  run_alike : (program : ProgramTree) (m : ℕ) (j : Job) (x y : Exits) → NearExits R d laws m x y → Within R d laws m (run program j x) (run program j y)
  unfolding run
  run_alike program m j x y h = record { by = λ n n' w le e. (level_alike program (suc n) (suc n') n (omega arith) (omega arith) j x y (weaker R d laws m n x y le h)).by n n' w (omega arith) e }

-- the same run
abbrev Equal : ℕ → Meaning → Meaning → Type 0
Equal n a b = a ≡ b

same : Laws Equal 0
same = record {
  stops = λ n go e. let z : 0 ≡ n = sym e in ap (λ i. ticked i go) z;
  waits = λ n m e. let z : 0 ≡ n = sym e in ap (λ i. turned_with i m) z;
  fails = λ n. refl;
  works = λ n a b e. ap worked e;
  turns = λ n a b e. ap turned e;
  prints = λ n byte a b e. ap (printed byte) e;
  shows = λ n item a b e. ap (shown item) e;
  enters = λ n name depth a b e. ap (entered name depth) e;
}

same_exits : (m : ℕ) (x : Exits) → NearExits Equal 0 same m x x
same_exits m x = record {
  next = record { by = λ n n' w lt e. let z : n ≡ n' = omega arith in ap (λ i. x.next (at i w)) z };
  leave = record { by = λ n n' w lt e. let z : n ≡ n' = omega arith in ap (λ i. x.leave (at i w)) z };
  proceed = record { by = λ n n' w lt e. let z : n ≡ n' = omega arith in ap (λ i. x.proceed (at i w)) z };
  give = λ v. record { by = λ n n' w lt e. let z : n ≡ n' = omega arith in ap (λ i. x.give v (at i w)) z };
}

-- a job is what it is made of, with the jobs that it runs again
pub run_is : (program : ProgramTree) (j : Job) (x : Exits) (st : State) → run program j x st ≡ perform program (run program) j x st
unfolding run level
run_is program j x st =
    (perform_alike Equal 0 same program (level program st.left) (run program) st.left
    (λ j x y h. record { by = λ i i' w lt e. (level_alike Equal 0 same program st.left (suc i') i (omega arith) (omega arith) j x y (weaker Equal 0 same st.left i x y (omega arith) h)).by i i' w (omega arith) e })
    j x x (same_exits st.left x)).by st.left st.left st.world (omega arith) (omega arith)

-- a beginning
abbrev pub Begins : {A : Type 0} → List A → List A → Type 0
Begins {A} a b = (c : List A) × (a ++ c ≡ b)

-- a run with more work left gives the same, or goes on where the other stops
pub data Extends : Meaning → Meaning → Type 0 where
  is_same : (a : Meaning) → Extends a a
  goes_on : (a b : Meaning) → a.end ≡ Stop → Begins a.output b.output → Begins a.trace b.trace → Extends a b

worked_more : {a b : Meaning} → Extends a b → Extends (worked a) (worked b)
worked_more (is_same a) = is_same _
worked_more (goes_on a b e o t) = goes_on _ _ e o t

turned_more : {a b : Meaning} → Extends a b → Extends (turned a) (turned b)
turned_more (is_same a) = is_same _
turned_more (goes_on a b e o t) = goes_on _ _ e o t

printed_more : (byte : ℕ) {a b : Meaning} → Extends a b → Extends (printed byte a) (printed byte b)
printed_more byte (is_same a) = is_same _
printed_more byte (goes_on a b e o t) = goes_on _ _ e (o.0, ap (λ z. byte ∷ z) o.1) t

shown_more : (item : Seen) {a b : Meaning} → Extends a b → Extends (shown item a) (shown item b)
shown_more item (is_same a) = is_same _
shown_more item (goes_on a b e o t) = goes_on _ _ e o (t.0, ap (λ z. item ∷ z) t.1)

entered_more : (name : List ℕ) (depth : ℕ) {a b : Meaning} → Extends a b → Extends (entered name depth a) (entered name depth b)
entered_more name depth (is_same a) = is_same _
entered_more name depth (goes_on a b e o t) = goes_on _ _ e o (t.0, ap (λ z. Enter name ∷ z) t.1)

abbrev Longer : ℕ → Meaning → Meaning → Type 0
Longer n a b = Extends a b

longer : (d : ℕ) → Laws Longer d
longer d = record {
  stops = λ n go e. goes_on _ _ refl (_, refl) (_, refl);
  waits = λ n m e. goes_on _ _ refl (_, refl) (_, refl);
  fails = λ n. is_same _;
  works = λ n a b h. worked_more h;
  turns = λ n a b h. turned_more h;
  prints = λ n byte a b h. printed_more byte h;
  shows = λ n item a b h. shown_more item h;
  enters = λ n name depth a b h. entered_more name depth h;
}

-- `main` is called alike, where the ends of runs are
module _ (R : ℕ → Meaning → Meaning → Type 0) (d : ℕ) (laws : Laws R d) (done : (n : ℕ) (status : ℤ) → R n (ends (Done status)) (ends (Done status))) where
  status_near : (m : ℕ) (v : CValue) → Near R d laws m (status v) (status v)
  status_near m (value.Number z) = record { by = λ n n' w lt e. by_range n (is_in_range 32 true z) }
    where
      by_range : (n : ℕ) (b : Bool) → R n (if b then ends (Done z) else undefined) (if b then ends (Done z) else undefined)
      by_range n true = done n z
      by_range n false = laws.fails n
  status_near m (At place) = nowhere R d laws m
  status_near m (Code name) = nowhere R d laws m
  status_near m Null = nowhere R d laws m

  abbrev calls_main : ProgramTree → List ℕ → ℕ → Objects → Meaning
  calls_main program input n objects = call program (run program) main [] status (at n (at_start input objects))

  main_alike : (program : ProgramTree) (input : List ℕ) (n : ℕ) (objects : Objects) → R n (calls_main program input n objects) (calls_main program input (n + d) objects)
  main_alike program input n objects =
      (call_near R d laws (suc n) program (run program) (run program) (λ j x y h. soon R d laws (suc n) _ _ (run_alike R d laws program (suc n) j x y h)) main [] status status (status_near (suc n))).by n (n + d) (at_start input objects) (omega arith) refl

  mean_alike : (program : ProgramTree) (input : List ℕ) (n : ℕ) → R n (mean program input n) (mean program input (n + d))
  unfolding mean
  mean_alike program input n = by_statics (statics program)
    where
      by_statics : (o : Option Objects) → R n (given o (calls_main program input n)) (given o (calls_main program input (n + d)))
      by_statics None = laws.fails n
      by_statics (Some objects) = main_alike program input n objects

-- with more work the end is the same, or the run goes on where it stopped
pub mean_extends : (program : ProgramTree) (input : List ℕ) (n d : ℕ) → Extends (mean program input n) (mean program input (n + d))
mean_extends program input n d = mean_alike Longer d (longer d) (λ n status. is_same _) program input n

-- no more work than the fuel, and all of it where a run stops
pub record Spends (fuel : ℕ) (m : Meaning) : Type 0 where
  pub within : m.work ≤ fuel
  pub stopped : m.end ≡ Stop → m.work ≡ fuel

abbrev SpendsBoth : ℕ → Meaning → Meaning → Type 0
SpendsBoth n a b = Spends n a

ends_otherwise : (n : ℕ) (e : End) → (e ≡ Stop → ⊥) → Spends n (ends e)
ends_otherwise n e h = record { within = omega arith; stopped = λ s. absurd (h s) }

spends : Laws SpendsBoth 0
spends = record {
  stops = λ n go e. record { within = omega arith; stopped = λ s. refl };
  waits = λ n m e. record { within = omega arith; stopped = λ s. refl };
  fails = λ n. ends_otherwise n Undefined (λ e. cc);
  works = λ n a b h. record { within = (let w : a.work ≤ n = h.within in omega arith); stopped = λ s. ap suc (h.stopped s) };
  turns = λ n a b h. record { within = h.within; stopped = h.stopped };
  prints = λ n byte a b h. record { within = h.within; stopped = h.stopped };
  shows = λ n item a b h. record { within = h.within; stopped = h.stopped };
  enters = λ n name depth a b h. record { within = h.within; stopped = h.stopped };
}

pub mean_spends : (program : ProgramTree) (input : List ℕ) (fuel : ℕ) → Spends fuel (mean program input fuel)
mean_spends program input fuel = mean_alike SpendsBoth 0 spends (λ n status. ends_otherwise n (Done status) (λ e. cc)) program input fuel
