-- Runs of bytes that pass a test, and texts that begin another.
use Rattle.std.proofs.Common.{◌≡◌, ℕ, zero, suc, ◌+◌, ◌≤◌, Bool, true, false, cond, ◌&&◌, List, [], ◌∷◌, ◌++◌, length, take, drop, refl, sym, ◌∙◌, ap, arith, one-add, subst, ◌==◌, ◌≢◌}
use Rattle.std.specs.List.{prefix_len, list_all}
use Rattle.std.proofs.lemmas.List.{nil_from_length}
use Rattle.std.proofs.lemmas.Bool.Decides.{nat_tests}
use Rattle.std.proofs.Math.Seq.{take-append_seam}

pub if_true : {A : Type 0} (P : A → Type 0) (b : Bool) (x y : A) → b ≡ true → P x → P (cond b x y)
if_true P b x y e h = subst (λ z. P (cond z x y)) (sym e) h

pub if_false : {A : Type 0} (P : A → Type 0) (b : Bool) (x y : A) → b ≡ false → P y → P (cond b x y)
if_false P b x y e h = subst (λ z. P (cond z x y)) (sym e) h

pub both_true : (a b : Bool) → (a && b) ≡ true → (a ≡ true) × (b ≡ true)
both_true true b e = (refl, e)
both_true false b e = cc

-- no text that passes is longer than the run
pub run_longest : (p : ℕ → Bool) (s q : List ℕ) → list_all p s ≡ true → length s ≤ prefix_len p (s ++ q)
run_longest p [] q h = omega arith
run_longest p (x ∷ s) q h = let b = both_true (p x) (list_all p s) h in rw b.0 (omega (arith, run_longest p s q b.1))

pub run_bounds : (p : ℕ → Bool) (t s q : List ℕ) → t ≡ s ++ q → list_all p s ≡ true → length s ≤ prefix_len p t
run_bounds p t s q e h = rw e (run_longest p s q h)

run_step : (p : ℕ → Bool) (x : ℕ) (xs : List ℕ) (n : ℕ) (b : Bool) → p x ≡ b → suc n ≤ cond b (1 + prefix_len p xs) 0 → (n ≤ prefix_len p xs → list_all p (take n xs) ≡ true) → (p x && list_all p (take n xs)) ≡ true
run_step p x xs n true e h f = rw (e, f (omega arith)) refl
run_step p x xs n false e h f = absurd (omega arith)

-- each part of the run from its begin on passes
pub run_passes : (p : ℕ → Bool) (n : ℕ) (xs : List ℕ) → n ≤ prefix_len p xs → list_all p (take n xs) ≡ true
run_passes p zero xs h = refl
run_passes p (suc n) [] h = refl
run_passes p (suc n) (x ∷ xs) h = run_step p x xs n (p x) refl h (run_passes p n xs)

-- two beginnings of one text that are as long are one
pub same_front : (a b x y : List ℕ) → a ++ x ≡ b ++ y → length a ≡ length b → (a ≡ b) × (x ≡ y)
same_front [] [] x y e h = (refl, e)
same_front [] (d ∷ b) x y e h = absurd (omega arith)
same_front (c ∷ a) [] x y e h = absurd (omega arith)
same_front (c ∷ a) (d ∷ b) x y e h =
    let same : c ≡ d = cc in
    let tail : a ++ x ≡ b ++ y = cc in
    let r = same_front a b x y tail (omega arith) in (ap (λ z. z ∷ a) same ∙ ap (λ z. d ∷ z) r.0, r.1)

pub tails : {c d : ℕ} {t u : List ℕ} → c ∷ t ≡ d ∷ u → t ≡ u
tails e = cc

pub heads : {c d : ℕ} {t u : List ℕ} → c ∷ t ≡ d ∷ u → c ≡ d
heads e = cc

-- what `is_empty` answers
pub is_nil : (xs : List ℕ) (b : Bool) → b ≡ (length xs == 0) → b ≡ true → xs ≡ []
is_nil xs b e h = nil_from_length xs (grind (arith, nat_tests))

no_nil : (xs : List ℕ) (b : Bool) → b ≡ (length xs == 0) → b ≡ false → length xs ≡ 0 → ⊥
no_nil xs b e h z = grind (arith, nat_tests)

pub is_no_nil : (xs : List ℕ) (b : Bool) → b ≡ (length xs == 0) → b ≡ false → xs ≢ []
is_no_nil xs b e h z = no_nil xs b e h (ap length z)

-- the first element fails, or there is none
abbrev pub StopsRun : (ℕ → Bool) → List ℕ → Type 0
StopsRun p [] = Unit {0}
StopsRun p (x ∷ xs) = p x ≡ false

run_ends : (p : ℕ → Bool) (q : List ℕ) → StopsRun p q → prefix_len p q ≡ 0
run_ends p [] h = refl
run_ends p (x ∷ q) h = rw h refl

-- the run is what passes before the first element that fails
pub run_is : (p : ℕ → Bool) (s q : List ℕ) → list_all p s ≡ true → StopsRun p q → prefix_len p (s ++ q) ≡ length s
run_is p [] q h e = run_ends p q e
run_is p (x ∷ s) q h e = let b = both_true (p x) (list_all p s) h in let i = run_is p s q b.1 e in rw (b.0, i) (one-add (length s))

pub front_is : (p : ℕ → Bool) (s q : List ℕ) → list_all p s ≡ true → StopsRun p q → take (prefix_len p (s ++ q)) (s ++ q) ≡ s
front_is p s q h e = rw (run_is p s q h e) (take-append_seam s q)

run_stops_by : (p : ℕ → Bool) (x : ℕ) (xs : List ℕ) (b : Bool) → p x ≡ b → StopsRun p (drop (prefix_len p xs) xs) → StopsRun p (drop (cond b (1 + prefix_len p xs) 0) (x ∷ xs))
run_stops_by p x xs true e h = rw one-add h
run_stops_by p x xs false e h = e

-- behind the run it stops
pub run_stops : (p : ℕ → Bool) (xs : List ℕ) → StopsRun p (drop (prefix_len p xs) xs)
run_stops p [] = tt
run_stops p (x ∷ xs) = run_stops_by p x xs (p x) refl (run_stops p xs)

unequal : (c d : ℕ) → (c == d) ≡ false → c ≡ d → ⊥
unequal c d h e = grind (arith, nat_tests)

-- two texts with different first bytes are two
pub differ : (c d : ℕ) {t u : List ℕ} → (c == d) ≡ false → c ∷ t ≡ d ∷ u → ⊥
differ c d h e = unequal c d h (heads e)
