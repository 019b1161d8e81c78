-- How many of the listed calls have failed, one call after another.
use Rattle.std.proofs.Common.{◌≡◌, ℕ, ◌+◌, ◌-◌, ◌^◌, ◌<◌, ◌≤◌, nat_le, true, false, cond, List, [], ◌∷◌, arith, refl, get_or, Fits, w64, suc, ap, sym, ◌∙◌, ⊎_elim}
use Rattle.std.proofs.lemmas.Bool.{cases_lt}
use Rattle.std.proofs.lemmas.Bool.Decides.{nat_tests}
use Rattle.std.proofs.lemmas.List.Sums.{sum_by-cons}
use Rattle.pa_io.specs.Calls.{is_to_fail, failures, next_count}
use Rattle.pa_io.specs.Outside.{Rose}

failures-none : (calls : ℕ) → failures [] calls ≡ 0
unfolding failures
failures-none calls = refl

failures-cons : (call : ℕ) (fails : List ℕ) (calls : ℕ) → failures (call ∷ fails) calls ≡ cond (nat_le call calls) 1 0 + failures fails calls
unfolding failures
failures-cons call fails calls = sum_by-cons (λ x. cond (nat_le x calls) 1 0) call fails

-- a call that isn't listed changes nothing
pub failures-stay : (fails : List ℕ) (calls : ℕ) → is_to_fail fails calls ≡ false → failures fails (calls + 1) ≡ failures fails calls
failures-stay [] calls h = failures-none (calls + 1) ∙ sym (failures-none calls)
failures-stay (call ∷ fails) calls h = grind (arith, nat_tests, failures-cons, failures-stay fails calls)

failures-kept : (fails : List ℕ) (calls : ℕ) → failures fails calls ≤ failures fails (calls + 1)
failures-kept [] calls = omega (arith, failures-none calls, failures-none (calls + 1))
failures-kept (call ∷ fails) calls = grind (arith, nat_tests, failures-cons, failures-kept fails calls)

-- a call that is listed is one more
pub failures-rise : (fails : List ℕ) (calls : ℕ) → is_to_fail fails calls ≡ true → failures fails calls + 1 ≤ failures fails (calls + 1)
failures-rise [] calls h = cc
failures-rise (call ∷ fails) calls h = grind (arith, nat_tests, failures-cons, failures-kept fails calls, failures-rise fails calls)

-- a listed number is one of 64 bits
is_to_fail-fits : (fails : List ℕ) (calls : ℕ) → ((i : ℕ) → Fits w64 (get_or fails i 0)) → is_to_fail fails calls ≡ true → calls + 1 < 2 ^ 64
is_to_fail-fits [] calls fits h = cc
is_to_fail-fits (call ∷ fails) calls fits h = grind (arith, nat_tests, fits 0, is_to_fail-fits fails calls (λ i. fits (suc i)))

-- how the count moves over one call
pub failures-next : (fails : List ℕ) (calls : ℕ) → calls < 2 ^ 64 → is_to_fail fails calls ≡ false → failures fails (next_count calls) ≡ failures fails calls
failures-next fails calls fits h =
    ⊎_elim (λ last. ap (failures fails) (omega arith)) (λ more. ap (failures fails) (omega arith) ∙ failures-stay fails calls h) (cases_lt (2 ^ 64 - 2) calls)

pub failures-rose : (fails : List ℕ) (calls : ℕ) → ((i : ℕ) → Fits w64 (get_or fails i 0)) → is_to_fail fails calls ≡ true → Rose (failures fails calls) (failures fails (next_count calls))
failures-rose fails calls fits h =
    let within : calls + 1 < 2 ^ 64 = is_to_fail-fits fails calls fits h in
    let next : next_count calls ≡ calls + 1 = omega arith in
    rw next (omega (arith, failures-rise fails calls h), omega (arith, failures-rise fails calls h))
