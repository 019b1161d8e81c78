-- Two runs of one program, the second with d more units of work left, that go on alike give alike: what values and objects do.
use Rattle.std.proofs.Common.{◌≡◌, ℕ, zero, suc, ◌+◌, ◌<◌, ◌≤◌, Bool, true, false, List, Option, Some, None, arith}
use Rattle.pa_ctype.specs.Traces.{Seen}
use Rattle.pa_ctype.specs.Values.{CValue}
use Rattle.pa_cmean.specs.Results.{Meaning, ends, Stop, undefined, worked, turned, printed, shown, entered, given}
use Rattle.pa_cmean.specs.State.{World, State, Cont, Exits, ticked, tick, turned_with, turn, choose, onward, died, closing}
use Rattle.pa_cmean.specs.Expressions.{with_value}

-- what a relation between meanings has to allow, where n units of work are left to the first
pub record Laws (R : ℕ → Meaning → Meaning → Type 0) (d : ℕ) : Type 0 where
  pub stops : (n : ℕ) (go : ℕ → Meaning) → n ≡ d → R 0 (ends Stop) (ticked n go)
  pub waits : (n : ℕ) (m : Meaning) → n ≡ d → R 0 (ends Stop) (turned_with n m)
  pub fails : (n : ℕ) → R n undefined undefined
  pub works : (n : ℕ) (a b : Meaning) → R n a b → R (suc n) (worked a) (worked b)
  pub turns : (n : ℕ) (a b : Meaning) → R n a b → R n (turned a) (turned b)
  pub prints : (n byte : ℕ) (a b : Meaning) → R n a b → R n (printed byte a) (printed byte b)
  pub shows : (n : ℕ) (item : Seen) (a b : Meaning) → R n a b → R n (shown item a) (shown item b)
  pub enters : (n : ℕ) (name : List ℕ) (depth : ℕ) (a b : Meaning) → R n a b → R n (entered name depth a) (entered name depth b)

abbrev pub at : ℕ → World → State
at n w = record { left = n; world = w }

module _ (R : ℕ → Meaning → Meaning → Type 0) (d : ℕ) (laws : Laws R d) where
  -- alike where less than m, or at most m, units are left
  pub record Near (m : ℕ) (go go' : State → Meaning) : Type 0 where
    pub by : (n n' : ℕ) (w : World) → n < m → n + d ≡ n' → R n (go (at n w)) (go' (at n' w))

  pub record Within (m : ℕ) (go go' : State → Meaning) : Type 0 where
    pub by : (n n' : ℕ) (w : World) → n ≤ m → n + d ≡ n' → R n (go (at n w)) (go' (at n' w))

  pub soon : (m : ℕ) (go go' : State → Meaning) → Within m go go' → Near m go go'
  soon m go go' h = record { by = λ n n' w lt e. h.by n n' w (omega arith) e }

  pub record NearExits (m : ℕ) (x y : Exits) : Type 0 where
    pub next : Near m x.next y.next
    pub leave : Near m x.leave y.leave
    pub proceed : Near m x.proceed y.proceed
    pub give : (v : CValue) → Near m (x.give v) (y.give v)

  pub weaker : (m j : ℕ) (x y : Exits) → j ≤ m → NearExits m x y → NearExits j x y
  weaker m j x y le h = record {
    next = record { by = λ n n' w lt e. h.next.by n n' w (omega arith) e };
    leave = record { by = λ n n' w lt e. h.leave.by n n' w (omega arith) e };
    proceed = record { by = λ n n' w lt e. h.proceed.by n n' w (omega arith) e };
    give = λ v. record { by = λ n n' w lt e. (h.give v).by n n' w (omega arith) e };
  }

  pub nowhere : (m : ℕ) → Near m (λ st. undefined) (λ st. undefined)
  nowhere m = record { by = λ n n' w lt e. laws.fails n }

  pub tick_alike : (m : ℕ) (go go' : State → Meaning) → Near m go go' → Within m (λ st. tick st go) (λ st. tick st go')
  unfolding tick
  tick_alike m go go' h = record { by = at_left }
    where
      at_left : (n n' : ℕ) (w : World) → n ≤ m → n + d ≡ n' → R n (tick (at n w) go) (tick (at n' w) go')
      at_left zero n' w le e = laws.stops n' _ (omega arith)
      at_left (suc n) zero w le e = absurd (omega arith)
      at_left (suc n) (suc n') w le e = laws.works n _ _ (h.by n n' w (omega arith) (omega arith))

  pub turn_alike : (m : ℕ) (go go' : State → Meaning) → Within m go go' → Within m (turn go) (turn go')
  unfolding turn
  turn_alike m go go' h = record { by = at_left }
    where
      at_left : (n n' : ℕ) (w : World) → n ≤ m → n + d ≡ n' → R n (turn go (at n w)) (turn go' (at n' w))
      at_left zero n' w le e = laws.waits n' _ (omega arith)
      at_left (suc n) zero w le e = absurd (omega arith)
      at_left (suc n) (suc n') w le e = laws.turns (suc n) _ _ (h.by (suc n) (suc n') w le e)

  pub choose_near : (m : ℕ) (b : Bool) (on_true on_true' on_false on_false' : State → Meaning) → Near m on_true on_true' → Near m on_false on_false' → Near m (choose b on_true on_false) (choose b on_true' on_false')
  unfolding choose
  choose_near m true on_true on_true' on_false on_false' h i = h
  choose_near m false on_true on_true' on_false on_false' h i = i

  -- where something is taken out of what is in hand
  pub given_near : {A : Type 0} (m : ℕ) (o : World → Option A) (go go' : A → State → Meaning) → ((a : A) → Near m (go a) (go' a)) → Near m (λ st. given (o st.world) (λ a. go a st)) (λ st. given (o st.world) (λ a. go' a st))
  given_near {A} m o go go' h = record { by = λ n n' w lt e. cases n n' w lt e (o w) }
    where
      cases : (n n' : ℕ) (w : World) → n < m → n + d ≡ n' → (x : Option A) → R n (given x (λ a. go a (at n w))) (given x (λ a. go' a (at n' w)))
      cases n n' w lt e None = laws.fails n
      cases n n' w lt e (Some a) = (h a).by n n' w lt e

  pub value_near : (m : ℕ) (o : World → Option CValue) (k k' : Cont) → ((v : CValue) → Near m (k v) (k' v)) → Near m (λ st. with_value (o st.world) k st) (λ st. with_value (o st.world) k' st)
  value_near m o k k' h = given_near m o k k' h

  -- where it goes on with something else in hand
  pub onward_near : (m : ℕ) (o : World → Option World) (go go' : World → State → Meaning) → ((w : World) → Near m (go w) (go' w)) → Near m (λ st. onward (o st.world) (go st.world) st) (λ st. onward (o st.world) (go' st.world) st)
  onward_near m o go go' h = record { by = λ n n' w lt e. cases n n' w lt e (o w) }
    where
      cases : (n n' : ℕ) (w : World) → n < m → n + d ≡ n' → (x : Option World) → R n (onward x (go w) (at n w)) (onward x (go' w) (at n' w))
      cases n n' w lt e None = laws.fails n
      cases n n' w lt e (Some u) = (h w).by n n' u lt e

  pub closing_near : (m : ℕ) (locals : List ℕ) (x y : Exits) → NearExits m x y → NearExits m (closing locals x) (closing locals y)
  closing_near m locals x y h = record {
    next = record { by = λ n n' w lt e. h.next.by n n' (died locals w) lt e };
    leave = record { by = λ n n' w lt e. h.leave.by n n' (died locals w) lt e };
    proceed = record { by = λ n n' w lt e. h.proceed.by n n' (died locals w) lt e };
    give = λ v. record { by = λ n n' w lt e. (h.give v).by n n' (died locals w) lt e };
  }
