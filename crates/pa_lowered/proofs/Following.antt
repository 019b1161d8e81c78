-- When a run of flat code gives what C's meaning gives: laws on the units of both.
use Rattle.std.proofs.Common.{◌≡◌, ℕ, zero, suc, ◌+◌, ◌<◌, ◌≤◌, ◌++◌, refl, sym, subst, arith, None}
use Rattle.std.specs.Prelude.{reverse}
use Rattle.std.proofs.lemmas.List.{append-nil}
use Rattle.pa_cmean.specs.Results.{Meaning, ends, Stop, undefined, worked, turned}
use Rattle.pa_cmean.specs.State.{State, tick, ticked}
use Rattle.pa_lir.specs.declared.function.Lir.{Lir}
use Rattle.pa_lir.specs.Meaning.{Flat, unit, run}
use Rattle.pa_lowered.specs.Objects.{Map, Grows}
use Rattle.pa_lowered.specs.Results.{Fits, Follows, moved}

pub grows_same : (m : Map) → Grows m m
grows_same m o p e = e

pub grows_twice : (a b c : Map) → Grows a b → Grows b c → Grows a c
grows_twice a b c g h o p e = h o p (g o p e)

-- so much more is counted, and nothing else is shown
pub record Counts (x y : ℕ) (s g : Flat) : Type 0 where
  pub output : g.output ≡ s.output
  pub trace : g.trace ≡ s.trace
  pub cost : g.cost ≡ s.cost + x
  pub operations : g.operations ≡ s.operations + y
  pub deep : g.deep ≡ s.deep

module _ (lir : Lir) where
  pub undefined_follows : (m : Map) (c l : ℕ) (s : Flat) → Follows lir m c l undefined s
  undefined_follows m c l s = record { by = λ h. absurd (h refl) }

  -- the bound of work is reached where flat code stands
  pub stop_follows : (m : Map) (c l : ℕ) (s : Flat) → s.ended ≡ None → Follows lir m c l (ends Stop) s
  unfolding run
  stop_follows m c l s e = record { by = λ h. (0, m, grows_same m, record { end = e; output = sym (append-nil s.output); trace = sym (append-nil (reverse s.trace)); cost = omega arith; turns = omega arith; deep = omega arith }) }

  -- less is paid before
  pub weaker : (m : Map) (c l c' l' : ℕ) (r : Meaning) (s : Flat) → c ≤ c' → l ≤ l' → Follows lir m c l r s → Follows lir m c' l' r s
  weaker m c l c' l' r s hc hl f = record { by = λ h. let a = f.by h in (a.0, a.1, a.2, record { end = a.3.end; output = a.3.output; trace = a.3.trace; cost = let z = a.3.cost in omega arith; turns = let z = a.3.turns in omega arith; deep = a.3.deep }) }

  -- a smaller map
  pub smaller : (m k : Map) (c l : ℕ) (r : Meaning) (s : Flat) → Grows m k → Follows lir k c l r s → Follows lir m c l r s
  smaller m k c l r s g f = record { by = λ h. let a = f.by h in (a.0, a.1, grows_twice m k a.1 g a.2, a.3) }

  -- a unit of work pays 64
  pub work_follows : (m : Map) (c l : ℕ) (r : Meaning) (s : Flat) → Follows lir m (c + 64) l r s → Follows lir m c l (worked r) s
  work_follows m c l r s f = record { by = λ h. let a = f.by h in (a.0, a.1, a.2, record { end = a.3.end; output = a.3.output; trace = a.3.trace; cost = let z = a.3.cost in omega arith; turns = a.3.turns; deep = a.3.deep }) }

  -- a turn needs an operation that ran before
  pub turn_follows : (m : Map) (c l : ℕ) (r : Meaning) (s : Flat) → Follows lir m c l r s → Follows lir m c (suc l) (turned r) s
  turn_follows m c l r s f = record { by = λ h. let a = f.by h in (a.0, a.1, a.2, record { end = a.3.end; output = a.3.output; trace = a.3.trace; cost = a.3.cost; turns = let z = a.3.turns in omega arith; deep = a.3.deep }) }

  -- one unit of flat code that shows nothing
  pub unit_follows : (m : Map) (x y c l c' l' : ℕ) (r : Meaning) (s g : Flat) → unit lir s ≡ g → Counts x y s g → c' + x ≤ c → l' ≤ l + y → Follows lir m c' l' r g → Follows lir m c l r s
  unfolding run
  unit_follows m x y c l c' l' r s g does counts hc hl f = record { by = λ h. let a = f.by h in (suc a.0, a.1, a.2, subst (λ q. Fits a.1 c l r s (run lir a.0 q)) (sym does) (paid a.1 (run lir a.0 g) a.3)) }
    where
      paid : (k : Map) (after : Flat) → Fits k c' l' r g after → Fits k c l r s after
      paid k after a = record {
        end = a.end;
        output = subst (λ z. after.output ≡ z ++ r.output) counts.output a.output;
        trace = subst (λ z. reverse after.trace ≡ reverse z ++ moved k r.trace) counts.trace a.trace;
        cost = let z = a.cost in let e = counts.cost in omega arith;
        turns = let z = a.turns in let e = counts.operations in omega arith;
        deep = let z = a.deep in let e = counts.deep in omega arith;
      }

  -- work is counted, or none is left
  pub tick_follows : (m : Map) (c l bound : ℕ) (st : State) (s : Flat) (go : State → Meaning) → s.ended ≡ None → st.left ≤ bound → ((n : ℕ) → n < bound → Follows lir m (c + 64) l (go (record st { left = n })) s) → Follows lir m c l (tick st go) s
  unfolding tick
  tick_follows m c l bound st s go e le h = at_left st.left le
    where
      at_left : (n : ℕ) → n ≤ bound → Follows lir m c l (ticked n (λ n. go (record st { left = n }))) s
      at_left zero le = stop_follows m c l s e
      at_left (suc n) le = work_follows m c l _ s (h n (omega arith))
