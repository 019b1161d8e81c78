-- Windows by one pass with an open window are the intervals.
use Rattle.std.proofs.Common.{◌≡◌, ℕ, zero, suc, ◌+◌, ◌≤◌, ◌<◌, List, [], ◌∷◌, length, drop, drop-cons, refl, sym, ap, subst, ◌∙◌, arith, Option, Some, None}
use Rattle.std.specs.Prelude.{Bool, true, false, cond, not, ◌&&◌, slice_get}
use Rattle.std.proofs.lemmas.Bool.{and_right}
use Rattle.pa_check.specs.declared.word.Word.{Word}
use Rattle.pa_check.specs.declared.window.Opening.{Opening}
use Rattle.pa_check.specs.declared.window.Opening.TheVariants.{Taken}
use Rattle.pa_check.specs.declared.window.Window.{Window}
use Rattle.pa_check.specs.Text.{Text, word_at, behind, IsFunction}
use Rattle.pa_check.specs.Windows.{is_last_of, is_over, reach, spot, begun, reach_of, opening_or, opened_at, spots, all_spots}
use Rattle.pa_check.specs.Passing.{goes_on, farther, window_behind, passed, spot_at, round_at, open_behind, IsPassed}

abbrev open_in : Opening → ℕ → List Word → Option Window
open_in c d ws = cond (not (is_over ws)) (Some (record { opening = c; behind = d })) None

pub some_same : {A : Type 0} {i j : A} → Some i ≡ Some j → i ≡ j
some_same e = grind (arith, e)

record Agree (e : Text) (ws : List Word) : Type 0 where
  none : (k f : ℕ) (c : Opening) (d : ℕ) → spots e k f c d 0 ws ≡ passed e k f None ws
  some : (k f : ℕ) (c : Opening) (d : ℕ) → spots e k f c (suc d) (reach c (suc d) ws) ws ≡ passed e k f (open_in c (suc d) ws) ws

agree : (e : Text) (ws : List Word) → Agree e ws
unfolding spots passed reach
agree e [] = record { none = λ k f c d. refl; some = λ k f c d. refl }
agree e (w ∷ ws) = record { none = none (agree e ws); some = some (agree e ws) }
  where
    opens_next : Agree e ws → (k f : ℕ) (c : Opening) (o : Option Opening) → spots e k f (opening_or c o) 1 (reach_of o ws) ws ≡ passed e k f (window_behind (begun o) w.instr ws) ws
    opens_next ih k f c None = ih.none k f c 1
    opens_next ih k f c (Some a) = ih.some k f a 0

    none : Agree e ws → (k f : ℕ) (c : Opening) (d : ℕ) → spots e k f c d 0 (w ∷ ws) ≡ passed e k f None (w ∷ ws)
    none ih k f c d = ap (λ z. spot w k ws (cond w.marked k f) (begun (opened_at e k w ws)) ∷ z) (opens_next ih (suc k) (cond w.marked k f) c (opened_at e k w ws))

    some : Agree e ws → (k f : ℕ) (c : Opening) (d : ℕ) → spots e k f c (suc d) (reach c (suc d) (w ∷ ws)) (w ∷ ws) ≡ passed e k f (open_in c (suc d) (w ∷ ws)) (w ∷ ws)
    some ih k f c d = go w.marked refl
      where
        go : (h : Bool) → w.marked ≡ h → spots e k f c (suc d) (cond h 0 (cond (is_last_of c (suc d) w.instr) 1 (suc (reach c (suc (suc d)) ws)))) (w ∷ ws) ≡ passed e k f (cond (not h) (Some (record { opening = c; behind = suc d })) None) (w ∷ ws)
        go true q = none ih k f c (suc d)
        go false q = at (is_last_of c (suc d) w.instr) refl
          where
            at : (b : Bool) → is_last_of c (suc d) w.instr ≡ b → spots e k f c (suc d) (cond b 1 (suc (reach c (suc (suc d)) ws))) (w ∷ ws) ≡ passed e k f (Some (record { opening = c; behind = suc d })) (w ∷ ws)
            at true b = ap (λ z. spot w k ws (cond w.marked k f) (Some (record { opening = c; behind = suc d })) ∷ z) (ih.none (suc k) (cond w.marked k f) c (suc (suc d)) ∙ rw b refl)
            at false b = ap (λ z. spot w k ws (cond w.marked k f) (Some (record { opening = c; behind = suc d })) ∷ z) (ih.some (suc k) (cond w.marked k f) c (suc d) ∙ rw b refl)

pub by_pass : (e : Text) → all_spots e ≡ passed e 0 0 None e.words
by_pass e = (agree e e.words).none 0 0 Taken 0

-- ---- lists

pub drop_get : {A : Type 0} (xs : List A) (k j : ℕ) → slice_get (drop k xs) j ≡ slice_get xs (k + j)
drop_get xs zero j = let q : 0 + j ≡ j = omega arith in rw q refl
drop_get [] (suc k) j = refl
drop_get (x ∷ xs) (suc k) j = let q : suc k + j ≡ suc (k + j) = omega arith in rw q (drop_get xs k j)

abbrev pub tail : {A : Type 0} → List A → List A
tail [] = []
tail (x ∷ xs) = xs

tail_drop_suc : {A : Type 0} (xs : List A) (k : ℕ) → tail (drop k xs) ≡ drop (suc k) xs
tail_drop_suc [] zero = refl
tail_drop_suc (x ∷ xs) zero = refl
tail_drop_suc [] (suc k) = refl
tail_drop_suc (x ∷ xs) (suc k) = tail_drop_suc xs k

pub tail_drop : {A : Type 0} (xs : List A) (k : ℕ) → tail (drop k xs) ≡ drop (k + 1) xs
tail_drop xs k = let q : suc k ≡ k + 1 = omega arith in subst (λ z. tail (drop k xs) ≡ drop z xs) q (tail_drop_suc xs k)

-- ---- the pass

abbrev no_word : Word
no_word = record { marked = false; instr = None }

pub words_at : (t : Text) (k : ℕ) → k < length t.words → drop k t.words ≡ word_at t k ∷ behind t k
words_at t k l = let q : suc k ≡ k + 1 = omega arith in subst (λ z. drop k t.words ≡ word_at t k ∷ drop z t.words) q (drop-cons t.words k no_word l)

-- the first word of the function of word k, where the words before it are of this one
abbrev pub first_at : Text → ℕ → ℕ → ℕ
first_at t k f = cond (word_at t k).marked k f

pub passed_next : (t : Text) (k f : ℕ) (o : Option Window) → IsPassed t k f o → k < length t.words → IsPassed t (k + 1) (first_at t k f) (open_behind t k (round_at t k o))
unfolding passed
passed_next t k f o p l =
    let q : suc k ≡ k + 1 = omega arith in
    let a : passed t (suc k) (first_at t k f) (open_behind t k (round_at t k o)) (behind t k) ≡ tail (drop k (all_spots t)) = ap (λ z. tail (passed t k f o z)) (sym (words_at t k l)) ∙ ap tail p in
    subst (λ z. passed t z (first_at t k f) (open_behind t k (round_at t k o)) (behind t k) ≡ drop (k + 1) (all_spots t)) q (a ∙ tail_drop (all_spots t) k)

pub passed_here : (t : Text) (k f : ℕ) (o : Option Window) → IsPassed t k f o → k < length t.words → drop k (all_spots t) ≡ spot_at t k (first_at t k f) (round_at t k o) ∷ drop (k + 1) (all_spots t)
unfolding passed
passed_here t k f o p l =
    let a : drop k (all_spots t) ≡ spot_at t k (first_at t k f) (round_at t k o) ∷ passed t (suc k) (first_at t k f) (open_behind t k (round_at t k o)) (behind t k) = sym p ∙ ap (λ z. passed t k f o z) (words_at t k l) in
    a ∙ ap (λ z. spot_at t k (first_at t k f) (round_at t k o) ∷ z) (ap tail (sym a) ∙ tail_drop (all_spots t) k)

pub spot_of : (t : Text) (k f : ℕ) (o : Option Window) → IsPassed t k f o → k < length t.words → slice_get (all_spots t) k ≡ Some (spot_at t k (first_at t k f) (round_at t k o))
spot_of t k f o p l =
    let z : k + 0 ≡ k = omega arith in
    sym (subst (λ y. slice_get (drop k (all_spots t)) 0 ≡ slice_get (all_spots t) y) z (drop_get (all_spots t) k 0)) ∙ ap (λ y. slice_get y 0) (passed_here t k f o p l)

-- ---- the first word of a function: no window is open

pub record Came (t : Text) (k : ℕ) : Type 0 where
  pub first : ℕ
  pub current : Option Window
  pub passed : IsPassed t k first current
  pub fresh : is_over (drop k t.words) ≡ true → current ≡ None

closed_over : (b c : Bool) (r : Option Window) → c ≡ true → cond (b && not c) (farther r) None ≡ None
closed_over b c r q = rw (q, and_right b false refl) refl

pub came : (t : Text) (k : ℕ) → k ≤ length t.words → Came t k
came t zero h = record { first = 0; current = None; passed = sym (by_pass t); fresh = λ z. refl }
came t (suc k) h =
    let s = came t k (omega arith) in
    let q : k + 1 ≡ suc k = omega arith in
    let l : k < length t.words = omega arith in
    subst (λ z. Came t z) q (record {
      first = _;
      current = _;
      passed = passed_next t k s.first s.current s.passed l;
      fresh = λ z. closed_over (goes_on (round_at t k s.current) (word_at t k).instr) _ (round_at t k s.current) z;
    })

pub home : (t : Text) (first end : ℕ) → IsFunction t first end → IsPassed t first first None
unfolding passed
home t first end f =
    let s = came t first (let a = f.inside in let b = f.some in omega arith) in
    let l : first < length t.words = let a = f.inside in let b = f.some in omega arith in
    let d = words_at t first l in
    let z : s.current ≡ None = s.fresh (rw d f.marked) in
    let a : passed t first first None (word_at t first ∷ behind t first) ≡ passed t first s.first None (word_at t first ∷ behind t first) = rw f.marked refl in
    rw d (a ∙ ap (λ y. passed t first s.first y (word_at t first ∷ behind t first)) (sym z) ∙ ap (λ y. passed t first s.first s.current y) (sym d) ∙ s.passed)

-- ---- as many words

passed_length : (t : Text) (ws : List Word) (k f : ℕ) (o : Option Window) → length (passed t k f o ws) ≡ length ws
unfolding passed
passed_length t [] k f o = refl
passed_length t (w ∷ ws) k f o = ap suc (passed_length t ws (suc k) _ _)

pub spots_length : (t : Text) → length (all_spots t) ≡ length t.words
spots_length t = ap length (by_pass t) ∙ passed_length t t.words 0 0 None
