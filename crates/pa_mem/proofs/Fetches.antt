-- What a fetch gives.
use Rattle.std.proofs.Common.{◌≡◌, ℕ, ◌%◌, List, Some, None, ap, sym, ◌∙◌}
use Rattle.std.specs.Prelude.{true, false}
use Rattle.std.proofs.lemmas.Bool.{eq-eqb, ne_eqb, and_right, and_left, and_from, cond-true, cond-false}
use Rattle.byteorder.specs.Endian.{little_number}
use Rattle.pa_mem.specs.Memory.{Region, Run, inside, fetch, bytes_at, allowed}
use Rattle.pa_mem.proofs.Found.{only, allowed-run}
use Rattle.pa_mem.proofs.Numbers.{load-bytes_at}

pub fetch-odd : (regions : List Region) (at : ℕ) → (at % 4 ≡ 0 → ⊥) → fetch regions at ≡ None
unfolding fetch
fetch-odd regions at h = cond-false _ _ _ (and_right (allowed Run regions at 4) _ (ne_eqb (at % 4) 0 h))

pub fetch-refused : (regions : List Region) (at : ℕ) → inside (only Run) regions at 4 ≡ false → fetch regions at ≡ None
unfolding fetch
fetch-refused regions at h = cond-false _ _ _ (and_left (allowed Run regions at 4) _ (allowed-run regions at 4 ∙ h))

pub fetch-word : (regions : List Region) (at : ℕ) (bytes : List ℕ) → inside (only Run) regions at 4 ≡ true → at % 4 ≡ 0 → bytes ≡ bytes_at 4 regions at → fetch regions at ≡ Some (little_number 4 bytes)
unfolding fetch
fetch-word regions at bytes h a e =
    cond-true _ _ _ (and_from (allowed Run regions at 4) _ (allowed-run regions at 4 ∙ h) (eq-eqb (at % 4) 0 a))
    ∙ ap Some (load-bytes_at 4 regions at) ∙ ap (λ x. Some (little_number 4 x)) (sym e)

pub ruleset fetching = (fetch-odd, fetch-refused, fetch-word)
