-- The parts of a number that need a move, one by one.
use Rattle.std.proofs.Common.{◌≡◌, ℕ, zero, suc, ◌+◌, ◌<◌, Bool, true, false, cond, eqb, List, [], ◌∷◌, ◌++◌, drop, refl, ap, ◌∙◌, arith}
use Rattle.std.specs.Prelude.{not}
use Rattle.std.specs.List.{filter}
use Rattle.std.proofs.lemmas.List.{append_assoc}
use Rattle.pa_select.specs.Constants.{part, left_by}
use Rattle.pa_select.specs.Others.{other}

-- those from a part on
abbrev pub others_from : Bool → (value k : ℕ) → List ℕ
others_from inverted value k = filter (λ k. not (eqb (part value k) (left_by inverted))) (drop k (0 ∷ 1 ∷ 2 ∷ 3 ∷ []))

by_test : (b : Bool) (k : ℕ) (ks : List ℕ) → cond b (k ∷ []) [] ++ ks ≡ cond b (k ∷ ks) ks
by_test true k ks = refl
by_test false k ks = refl

next_part : (inverted : Bool) (value k : ℕ) → k < 4 → other inverted value k ++ others_from inverted value (suc k) ≡ others_from inverted value k
next_part inverted value zero h = by_test (not (eqb (part value 0) (left_by inverted))) 0 (others_from inverted value 1)
next_part inverted value (suc zero) h = by_test (not (eqb (part value 1) (left_by inverted))) 1 (others_from inverted value 2)
next_part inverted value (suc (suc zero)) h = by_test (not (eqb (part value 2) (left_by inverted))) 2 (others_from inverted value 3)
next_part inverted value (suc (suc (suc zero))) h = by_test (not (eqb (part value 3) (left_by inverted))) 3 (others_from inverted value 4)
next_part inverted value (suc (suc (suc (suc k)))) h = absurd (too_many k h)
  where
    too_many : (k : ℕ) → suc (suc (suc (suc k))) < 4 → ⊥
    too_many k h = omega arith

pub others_step : (inverted : Bool) (value k : ℕ) (before : List ℕ) → k < 4 → (before ++ other inverted value k) ++ others_from inverted value (k + 1) ≡ before ++ others_from inverted value k
others_step inverted value k before h =
    let next : k + 1 ≡ suc k = omega arith in
    append_assoc before (other inverted value k) (others_from inverted value (k + 1))
    ∙ ap (λ ks. before ++ ks) (ap (λ n. other inverted value k ++ others_from inverted value n) next ∙ next_part inverted value k h)
