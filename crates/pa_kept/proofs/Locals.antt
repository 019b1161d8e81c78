-- What one pass over a text knows at each word: how its window came to be, what window is round the next word, and which
-- words are in its function.
use Rattle.std.proofs.Common.{◌≡◌, ℕ, zero, suc, ◌+◌, ◌≤◌, ◌<◌, List, [], ◌∷◌, length, drop, get_or, refl, sym, ap, subst, ◌∙◌, arith, Option, Some, None, ◌⊎◌, inl, inr}
use Rattle.std.specs.Prelude.{Bool, true, false, cond, not, ◌&&◌, ◌||◌, leb, ltb, eqb, slice_get}
use Rattle.std.proofs.lemmas.Bool.{true≢false, and_parts, eqb-true, cases_lt}
use Rattle.pa_num.specs.Arithmetic.{add64}
use Rattle.pa_a64.specs.declared.instr.Instr.{Instr}
use Rattle.pa_a64.specs.declared.instr.Instr.TheVariants as i
use Rattle.pa_a64.specs.declared.instr.SumImmediateOp.TheVariants as immediate
use Rattle.pa_a64.specs.declared.instr.AuthenticateOp.TheVariants.{Autia}
use Rattle.pa_a64.specs.declared.instr.PlainOp.TheVariants.{Autiza}
use Rattle.pa_object.specs.Effects.{immediate_of}
use Rattle.pa_check.specs.declared.word.Word.{Word}
use Rattle.pa_check.specs.declared.window.Opening.{Opening}
use Rattle.pa_check.specs.declared.window.Opening.TheVariants.{Taken, Made}
use Rattle.pa_check.specs.declared.window.Window.{Window}
use Rattle.pa_check.specs.Rows.{is_pair}
use Rattle.pa_check.specs.Text.{Text, place, word_at, behind, is_entry, page}
use Rattle.pa_check.specs.Windows.{is_zero, made_by, opened_by, opened_at, is_over, next_in, end_from, Spot, spot, begun, all_spots}
use Rattle.pa_check.specs.Rules.{is_inside}
use Rattle.pa_check.specs.Passing.{goes_on, farther, round_at, open_behind, spot_at, IsPassed}
use Rattle.pa_check.proofs.Passes.{by_pass, words_at, first_at, passed_next, spot_of}

-- ---- how a window came to be

-- an ADD to x16 that gives a function's first word
abbrev pub AddsTo : Text → ℕ → Option Instr → Type 0
AddsTo t v (Some (i.SumImmediate immediate.Add rd rn imm shifted)) =
    (rd ≡ 16) × (rn ≡ 16) × (is_entry t (add64 v (immediate_of imm shifted)) ≡ true)
AddsTo t v other = ⊥

abbrev pub CameIn : Text → Opening → ℕ → Option Instr → Type 0
CameIn t (Made v) (suc zero) j = AddsTo t v j
CameIn t c d j = Unit {0}

abbrev pub CameAt : Text → (k : ℕ) → Opening → ℕ → Type 0
CameAt t k c zero = opened_at t k (word_at t k) (behind t k) ≡ Some c
CameAt t k c (suc d) = CameIn t c (suc d) (word_at t k).instr

abbrev pub Came : Text → (k : ℕ) → Option Window → Type 0
Came t k None = opened_at t k (word_at t k) (behind t k) ≡ None
Came t k (Some r) = CameAt t k r.opening r.behind

-- a window that is open before word k
abbrev Coming : Text → (k : ℕ) → Option Window → Type 0
Coming t k None = Unit {0}
Coming t k (Some r) = (is_zero r.behind ≡ false) × (is_over (drop k t.words) ≡ false) × CameIn t r.opening r.behind (next_in (drop k t.words))

made_adds : (t : Text) (u v : ℕ) (j : Option Instr) → made_by t u j ≡ Some (Made v) → AddsTo t v j
made_adds t u v (Some (i.SumImmediate immediate.Add rd rn imm shifted)) h = go (eqb rd 16 && (eqb rn 16 && is_entry t (add64 u (immediate_of imm shifted)))) refl h
  where
    go : (b : Bool) → (eqb rd 16 && (eqb rn 16 && is_entry t (add64 u (immediate_of imm shifted)))) ≡ b → cond b (Some (Made u)) None ≡ Some (Made v) → (rd ≡ 16) × (rn ≡ 16) × (is_entry t (add64 v (immediate_of imm shifted)) ≡ true)
    go true q z = let p = and_parts _ _ q in let r = and_parts _ _ p.1 in let f : u ≡ v = grind (arith, z) in (eqb-true _ _ p.0, eqb-true _ _ r.0, subst (λ y. is_entry t (add64 y (immediate_of imm shifted)) ≡ true) f r.1)
    go false q z = absurd (grind (arith, z))
made_adds t u v other h = absurd (grind (arith, h))

taken_not : (b : Bool) (v : ℕ) → cond b (Some Taken) None ≡ Some (Made v) → ⊥
taken_not true v h = grind (arith, h)
taken_not false v h = grind (arith, h)

opened_made : (t : Text) (at v : ℕ) (j next : Option Instr) → opened_by t at j next ≡ Some (Made v) → AddsTo t v next
opened_made t at v (Some (i.Authenticate Autia rd rn)) next h = absurd (taken_not (is_pair rd rn) v h)
opened_made t at v (Some (i.Plain Autiza rd)) next h = absurd (taken_not (eqb rd 16) v h)
opened_made t at v (Some (i.Adrp rd pages)) next h = go (eqb rd 16) h
  where
    go : (b : Bool) → cond b (made_by t (page at pages) next) None ≡ Some (Made v) → AddsTo t v next
    go true z = made_adds t (page at pages) v next z
    go false z = absurd (grind (arith, z))
opened_made t at v other next h = absurd (grind (arith, h))

opened_at_made : (t : Text) (k v : ℕ) → opened_at t k (word_at t k) (behind t k) ≡ Some (Made v) → AddsTo t v (next_in (behind t k))
opened_at_made t k v h = go (ltb k t.start) h
  where
    go : (b : Bool) → cond b None (opened_by t (place k) (word_at t k).instr (next_in (behind t k))) ≡ Some (Made v) → AddsTo t v (next_in (behind t k))
    go true z = absurd (grind (arith, z))
    go false z = opened_made t (place k) v (word_at t k).instr (next_in (behind t k)) z

came_here : (t : Text) (k : ℕ) (o : Option Window) → k < length t.words → Coming t k o → Came t k (round_at t k o)
came_here t k None l h = go (opened_at t k (word_at t k) (behind t k)) refl
  where
    go : (c : Option Opening) → opened_at t k (word_at t k) (behind t k) ≡ c → Came t k (begun c)
    go None q = q
    go (Some c) q = q
came_here t k (Some r) l h = go r.behind h.0 (subst (λ z. CameIn t r.opening r.behind z) there h.2)
  where
    over : (word_at t k).marked ≡ false
    over = sym (ap is_over (words_at t k l)) ∙ h.1

    there : next_in (drop k t.words) ≡ (word_at t k).instr
    there = ap next_in (words_at t k l) ∙ rw over refl

    go : (d : ℕ) → is_zero d ≡ false → CameIn t r.opening d (word_at t k).instr → CameAt t k r.opening d
    go zero z c = absurd (true≢false z)
    go (suc d) z c = c

coming_next : (t : Text) (k : ℕ) (r : Option Window) → Came t k r → Coming t (k + 1) (open_behind t k r)
coming_next t k None h = tt
coming_next t k (Some r) h = go (goes_on (Some r) (word_at t k).instr) (is_over (behind t k)) refl
  where
    step : (c : Opening) (d : ℕ) → CameAt t k c d → CameIn t c (suc d) (next_in (behind t k))
    step Taken zero q = tt
    step (Made v) zero q = opened_at_made t k v q
    step Taken (suc d) q = tt
    step (Made v) (suc d) q = tt

    go : (b c : Bool) → is_over (behind t k) ≡ c → Coming t (k + 1) (cond (b && not c) (farther (Some r)) None)
    go true false q = (refl, q, step r.opening r.behind h)
    go true true q = tt
    go false c q = tt

-- ---- the function of a word

record Known (t : Text) (k : ℕ) : Type 0 where
  first : ℕ
  current : Option Window
  passed : IsPassed t k first current
  coming : Coming t k current
  unmarked : (j : ℕ) → first < j → j < k → (word_at t j).marked ≡ false
  latest : (j : ℕ) → j < k → (word_at t j).marked ≡ true → j ≤ first

known_next : (t : Text) (k : ℕ) → k < length t.words → Known t k → Known t (k + 1)
known_next t k l s = record {
  first = first_at t k s.first;
  current = open_behind t k (round_at t k s.current);
  passed = passed_next t k s.first s.current s.passed l;
  coming = coming_next t k (round_at t k s.current) (came_here t k s.current l s.coming);
  unmarked = λ j a b. go (word_at t k).marked refl j a (cases_lt j k) b;
  latest = λ j a b. last_mark (word_at t k).marked refl j a (cases_lt j k) b;
}
  where
    go : (c : Bool) → (word_at t k).marked ≡ c → (j : ℕ) → cond c k s.first < j → ((j < k) ⊎ (k ≤ j)) → j < k + 1 → (word_at t j).marked ≡ false
    go true q j a d b = absurd (omega arith)
    go false q j a (inl d) b = s.unmarked j a d
    go false q j a (inr d) b = let e : k ≡ j = omega arith in subst (λ z. (word_at t z).marked ≡ false) e q

    last_mark : (c : Bool) → (word_at t k).marked ≡ c → (j : ℕ) → j < k + 1 → ((j < k) ⊎ (k ≤ j)) → (word_at t j).marked ≡ true → j ≤ cond c k s.first
    last_mark true q j a d b = omega arith
    last_mark false q j a (inl d) b = s.latest j d b
    last_mark false q j a (inr d) b = let e : j ≡ k = omega arith in absurd (true≢false (sym (subst (λ z. (word_at t z).marked ≡ true) e b) ∙ q))

known : (t : Text) (k : ℕ) → k ≤ length t.words → Known t k
known t zero h = record { first = 0; current = None; passed = sym (by_pass t); coming = tt; unmarked = λ j a b. absurd (omega arith); latest = λ j a b. absurd (omega arith) }
known t (suc k) h = let q : k + 1 ≡ suc k = omega arith in subst (λ z. Known t z) q (known_next t k (omega arith) (known t k (omega arith)))

-- words up to where the function ends
abbrev Inner : Text → ℕ → Type 0
Inner t j = ((word_at t j).marked ≡ false) × (j < length t.words)

drop_past : {A : Type 0} (xs : List A) (k : ℕ) → length xs ≤ k → drop k xs ≡ []
drop_past [] zero l = refl
drop_past [] (suc k) l = refl
drop_past (x ∷ xs) zero l = absurd (omega arith)
drop_past (x ∷ xs) (suc k) l = drop_past xs k (omega arith)

before_past : (t : Text) (k j : ℕ) → length t.words ≤ k → k ≤ j → j < end_from k (drop k t.words) → Inner t j
before_past t k j l b c = let y : j < k = subst (λ z. j < end_from k z) (drop_past t.words k l) c in absurd (omega arith)

before_step : (t : Text) (k j : ℕ) → (k + 1 ≤ j → j < end_from (k + 1) (drop (k + 1) t.words) → Inner t j) → k < length t.words → k ≤ j → j < end_from k (drop k t.words) → Inner t j
before_step t k j ih l b c = at (word_at t k).marked refl (subst (λ z. j < end_from k z) (words_at t k l) c)
  where
    later : (word_at t k).marked ≡ false → j < end_from (suc k) (behind t k) → ((k < j) ⊎ (j ≤ k)) → Inner t j
    later q z (inr e) = let f : k ≡ j = omega arith in (subst (λ z. (word_at t z).marked ≡ false) f q, omega arith)
    later q z (inl e) = let f : suc k ≡ k + 1 = omega arith in ih (omega arith) (subst (λ u. j < end_from u (behind t k)) f z)

    at : (m : Bool) → (word_at t k).marked ≡ m → j < cond m k (end_from (suc k) (behind t k)) → Inner t j
    at true q z = absurd (omega arith)
    at false q z = later q z (cases_lt k j)

before_end : (t : Text) (n k j : ℕ) → length t.words ≤ k + n → k ≤ j → j < end_from k (drop k t.words) → Inner t j
before_end t zero k j a b c = before_past t k j (omega arith) b c
before_end t (suc n) k j a b c = go (cases_lt k (length t.words)) (λ d e. before_end t n (k + 1) j (omega arith) d e)
  where
    go : ((k < length t.words) ⊎ (length t.words ≤ k)) → (k + 1 ≤ j → j < end_from (k + 1) (drop (k + 1) t.words) → Inner t j) → Inner t j
    go (inl l) ih = before_step t k j ih l b c
    go (inr l) ih = before_past t k j l b c

-- ---- at a word

abbrev pub Follows : Spot → Option Spot → Type 0
Follows s None = ⊥
Follows s (Some u) = (u.marked ≡ false) × (goes_on s.window s.instr ≡ true → u.window ≡ farther s.window) × (goes_on s.window s.instr ≡ false → is_inside u.window ≡ false)

pub record Local (t : Text) (k : ℕ) (s : Spot) : Type 0 where
  pub there : k < length t.words
  pub instr : s.instr ≡ (word_at t k).instr
  pub marked : s.marked ≡ (word_at t k).marked
  pub from : Came t k s.window
  pub apart : s.marked ≡ true → is_inside s.window ≡ false
  pub follows : s.is_last ≡ false → Follows s (slice_get (all_spots t) (suc k))
  pub latest : (j : ℕ) → j ≤ k → (word_at t j).marked ≡ true → j ≤ s.first
  pub within : (j : ℕ) → s.first < j → j < s.end → ((word_at t j).marked ≡ false) × (j < length t.words)

not_inside : (o : Option Opening) → is_inside (begun o) ≡ false
not_inside None = refl
not_inside (Some c) = refl

apart_here : (t : Text) (k : ℕ) (o : Option Window) → k < length t.words → Coming t k o → (word_at t k).marked ≡ true → is_inside (round_at t k o) ≡ false
apart_here t k None l h q = not_inside _
apart_here t k (Some r) l h q = absurd (true≢false (sym q ∙ sym (ap is_over (words_at t k l)) ∙ h.1))

follows_here : (t : Text) (k first : ℕ) (r : Option Window) → is_over (behind t k) ≡ false → k + 1 < length t.words → (u : Spot) → u ≡ spot_at t (k + 1) first (round_at t (k + 1) (open_behind t k r)) → (u.marked ≡ false) × (goes_on r (word_at t k).instr ≡ true → u.window ≡ farther r) × (goes_on r (word_at t k).instr ≡ false → is_inside u.window ≡ false)
follows_here t k first r h l u e = subst (λ (u : Spot). (u.marked ≡ false) × (goes_on r (word_at t k).instr ≡ true → u.window ≡ farther r) × (goes_on r (word_at t k).instr ≡ false → is_inside u.window ≡ false)) (sym e) (sym (ap is_over (words_at t (k + 1) l)) ∙ h, goes r, stops r)
  where
    goes : (r : Option Window) → goes_on r (word_at t k).instr ≡ true → round_at t (k + 1) (open_behind t k r) ≡ farther r
    goes None z = absurd (true≢false (sym z))
    goes (Some r) z = rw (z, h) refl

    stops : (r : Option Window) → goes_on r (word_at t k).instr ≡ false → is_inside (round_at t (k + 1) (open_behind t k r)) ≡ false
    stops None z = not_inside _
    stops (Some r) z = rw z (not_inside _)

over_past : (t : Text) (k : ℕ) → is_over (drop k t.words) ≡ false → k < length t.words
over_past t k h = go (cases_lt k (length t.words))
  where
    past : (xs : List Word) (k : ℕ) → length xs ≤ k → is_over (drop k xs) ≡ true
    past [] zero l = refl
    past [] (suc k) l = refl
    past (x ∷ xs) zero l = absurd (omega arith)
    past (x ∷ xs) (suc k) l = past xs k (omega arith)

    go : ((k < length t.words) ⊎ (length t.words ≤ k)) → k < length t.words
    go (inl l) = l
    go (inr l) = absurd (true≢false (sym (past t.words k l) ∙ h))

pub local : (t : Text) (k : ℕ) (s : Spot) → k < length t.words → slice_get (all_spots t) k ≡ Some s → Local t k s
local t k s l h =
    let q = known t k (omega arith) in
    let e : Some (spot_at t k (first_at t k q.first) (round_at t k q.current)) ≡ Some s = sym (spot_of t k q.first q.current q.passed l) ∙ h in
    subst (λ z. Local t k z) (some_spot e) (record {
      there = l;
      instr = refl;
      marked = refl;
      from = came_here t k q.current l q.coming;
      apart = apart_here t k q.current l q.coming;
      follows = next q;
      latest = λ j a b. newest q j (cases_lt j k) a b;
      within = λ j a b. in_function q j a b (cases_lt k j);
    })
  where
    some_spot : {a b : Spot} → Some a ≡ Some b → a ≡ b
    some_spot e = grind (arith, e)

    next : (q : Known t k) → is_over (behind t k) ≡ false → Follows (spot_at t k (first_at t k q.first) (round_at t k q.current)) (slice_get (all_spots t) (suc k))
    next q z =
        let m : k + 1 < length t.words = over_past t (k + 1) z in
        let n = passed_next t k q.first q.current q.passed l in
        let g = spot_of t (k + 1) _ _ n m in
        let f : k + 1 ≡ suc k = omega arith in
        subst (λ y. Follows (spot_at t k (first_at t k q.first) (round_at t k q.current)) (slice_get (all_spots t) y)) f (rw g (follows_here t k (first_at t (k + 1) (first_at t k q.first)) (round_at t k q.current) z m _ refl))

    newest : (q : Known t k) (j : ℕ) → ((j < k) ⊎ (k ≤ j)) → j ≤ k → (word_at t j).marked ≡ true → j ≤ first_at t k q.first
    newest q j d a b = go (word_at t k).marked refl d
      where
        go : (c : Bool) → (word_at t k).marked ≡ c → ((j < k) ⊎ (k ≤ j)) → j ≤ cond c k q.first
        go true y d = a
        go false y (inl d) = q.latest j d b
        go false y (inr d) = let e : j ≡ k = omega arith in absurd (true≢false (sym (subst (λ z. (word_at t z).marked ≡ true) e b) ∙ y))

    in_function : (q : Known t k) (j : ℕ) → first_at t k q.first < j → j < end_from (suc k) (behind t k) → ((k < j) ⊎ (j ≤ k)) → ((word_at t j).marked ≡ false) × (j < length t.words)
    in_function q j a b (inl c) =
        let f : suc k ≡ k + 1 = omega arith in
        before_end t (length t.words) (k + 1) j (omega arith) (omega arith) (subst (λ u. j < end_from u (behind t k)) f b)
    in_function q j a b (inr c) = (go (word_at t k).marked refl a (cases_lt j k), omega arith)
      where
        go : (m : Bool) → (word_at t k).marked ≡ m → cond m k q.first < j → ((j < k) ⊎ (k ≤ j)) → (word_at t j).marked ≡ false
        go true y a d = absurd (omega arith)
        go false y a (inl d) = q.unmarked j a d
        go false y a (inr d) = let e : k ≡ j = omega arith in subst (λ z. (word_at t z).marked ≡ false) e y

pub length-spots : (t : Text) (k : ℕ) → k < length t.words → (s : Spot) × (slice_get (all_spots t) k ≡ Some s)
length-spots t k l = let q = known t k (omega arith) in (_, spot_of t k q.first q.current q.passed l)
