-- Laws on runs of flat code.
use Rattle.std.proofs.Common.{◌≡◌, ℕ, zero, suc, ◌+◌, List, refl, ap, ◌∙◌, arith, Some}
use Rattle.pa_lir.specs.declared.function.Lir.{Lir}
use Rattle.pa_lir.specs.Meaning.{Flat, FlatEnd, unit, unit_from, unless_ended, run, begun, shown, lmean}

-- a run that has ended stays as it is
pub unit_ended : (lir : Lir) (s : Flat) (e : FlatEnd) → s.ended ≡ Some e → unit lir s ≡ s
unfolding unit
unit_ended lir s e h = ap (λ o. unless_ended o s (unit_from lir s.coming s)) h

pub run_ended : (lir : Lir) (n : ℕ) (s : Flat) (e : FlatEnd) → s.ended ≡ Some e → run lir n s ≡ s
unfolding run
run_ended lir zero s e h = refl
run_ended lir (suc n) s e h = ap (run lir n) (unit_ended lir s e h) ∙ run_ended lir n s e h

-- a run in two parts
pub run_add : (lir : Lir) (m n : ℕ) (s : Flat) → run lir (m + n) s ≡ run lir n (run lir m s)
unfolding run
run_add lir zero n s = ap (λ k. run lir k s) (zero_plus n)
  where
    zero_plus : (n : ℕ) → 0 + n ≡ n
    zero_plus n = omega arith
run_add lir (suc m) n s = ap (λ k. run lir k s) (suc_plus m n) ∙ run_add lir m n (unit lir s)
  where
    suc_plus : (m n : ℕ) → suc m + n ≡ suc (m + n)
    suc_plus m n = omega arith

-- what has ended by some bound is the same at each greater one
pub meaning_stays : (lir : Lir) (input : List ℕ) (m n : ℕ) (e : FlatEnd) → (run lir m (begun lir input)).ended ≡ Some e → lmean lir input (m + n) ≡ lmean lir input m
meaning_stays lir input m n e h = ap shown (run_add lir m n (begun lir input) ∙ run_ended lir n (run lir m (begun lir input)) e h)
