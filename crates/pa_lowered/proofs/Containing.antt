-- Code that stands in a function, in parts; and values of temporaries.
use Rattle.std.proofs.Common.{◌≡◌, ℕ, suc, ◌+◌, true, false, List, [], ◌∷◌, ◌++◌, length, ap, sym, subst, refl, arith, Some}
use Rattle.std.specs.Prelude.{◌==◌, Bool, if◌then◌else◌}
use Rattle.std.proofs.lemmas.Bool.{eq-eqb, eqb-true}
use Rattle.pa_lir.specs.declared.op.Op.{Op}
use Rattle.pa_lir.specs.Values.{FlatValue}
use Rattle.pa_lir.specs.Meaning.{temp_in}
use Rattle.pa_lowered.specs.Calls.{Temps}
use Rattle.pa_lowered.specs.Simulates.{Contains}

-- ---- code

pub contains_front : (ops : List Op) (at : ℕ) (a b : List Op) → Contains ops at (a ++ b) → Contains ops at a
contains_front ops at [] b h = tt
contains_front ops at (o ∷ a) b h = (h.0, h.1, contains_front ops (suc at) a b h.2)

pub contains_behind : (ops : List Op) (at : ℕ) (a b : List Op) → Contains ops at (a ++ b) → Contains ops (at + length a) b
contains_behind ops at [] b h = let e : at ≡ at + 0 = omega arith in subst (λ n. Contains ops n b) e h
contains_behind ops at (o ∷ a) b h =
    let e : suc at + length a ≡ at + length (o ∷ a) = omega arith in
    subst (λ n. Contains ops n b) e (contains_behind ops (suc at) a b h.2)

-- ---- temporaries

pub temp_given : (ts : Temps) (t : ℕ) (u : FlatValue) → temp_in ((t, u) ∷ ts) t ≡ Some u
unfolding temp_in
temp_given ts t u = ap (λ b. if b then Some u else temp_in ts t) (eq-eqb t t refl)

pub temp_other : (ts : Temps) (t i : ℕ) (u : FlatValue) → (i ≡ t → ⊥) → temp_in ((t, u) ∷ ts) i ≡ temp_in ts i
unfolding temp_in
temp_other ts t i u h = by_test (t == i) refl
  where
    by_test : (b : Bool) → (t == i) ≡ b → (if t == i then Some u else temp_in ts i) ≡ temp_in ts i
    by_test true e = absurd (h (sym (eqb-true t i e)))
    by_test false e = ap (λ b. if b then Some u else temp_in ts i) e
