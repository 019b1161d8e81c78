-- Numbers that rise.
use Rattle.std.proofs.Common.{ℕ, ◌+◌, ◌≤◌, List, [], ◌∷◌, arith}
use Rattle.pa_object.specs.Linkable.{Ascends}

-- each is above the one before, and the first is no less than this
abbrev pub RisesFrom : (low : ℕ) → List ℕ → Type 0
RisesFrom low [] = Unit {0}
RisesFrom low (x ∷ xs) = (low ≤ x) × RisesFrom (x + 1) xs

pub lower : (low high : ℕ) (xs : List ℕ) → low ≤ high → RisesFrom high xs → RisesFrom low xs
lower low high [] h r = tt
lower low high (x ∷ xs) h r = let here = r.0 in (omega arith, r.1)

rises_after : (x : ℕ) (xs : List ℕ) → Ascends (x ∷ xs) → RisesFrom (x + 1) xs
unfolding Ascends
rises_after x [] h = tt
rises_after x (y ∷ xs) h = let here = h.0 in (omega arith, rises_after y xs h.1)

pub rises : (xs : List ℕ) → Ascends xs → RisesFrom 0 xs
rises [] h = tt
rises (x ∷ xs) h = (omega arith, rises_after x xs h)

pub ascends : (low : ℕ) (xs : List ℕ) → RisesFrom low xs → Ascends xs
unfolding Ascends
ascends low [] r = tt
ascends low (x ∷ []) r = tt
ascends low (x ∷ y ∷ xs) r = let here = r.1.0 in (omega arith, ascends (x + 1) (y ∷ xs) r.1)
