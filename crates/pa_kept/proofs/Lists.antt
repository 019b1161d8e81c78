-- Words, functions and places behind calls, as lists, by number.
use Rattle.std.proofs.Common.{◌≡◌, ℕ, zero, suc, ◌+◌, ◌-◌, ◌*◌, ◌/◌, ◌%◌, ◌≤◌, ◌<◌, List, [], ◌∷◌, ◌++◌, length, map, get_or, refl, sym, ap, subst, ◌∙◌, arith, Option, Some, None, ◌⊎◌, inl, inr}
use Rattle.std.specs.Prelude.{Bool, true, false, cond, ◌||◌, ◌==◌, eqb, slice_get}
use Rattle.std.specs.List.{list_any}
use Rattle.std.proofs.lemmas.Bool.{true≢false, ne_eqb, eq-eqb, eqb-true, or_left, or_right, or_cases, cases_lt}
use Rattle.pa_object.specs.declared.object.Mark.{Mark}
use Rattle.pa_image.specs.Places.{mark_address, text_base, word_from, calls, afters_from}
use Rattle.pa_check.specs.Text.{is_marked, place}

abbrev pub has : List ℕ → ℕ → Bool
has xs at = list_any (λ x. x == at) xs

pub has-append : (xs ys : List ℕ) (at : ℕ) → has (xs ++ ys) at ≡ (has xs at || has ys at)
has-append [] ys at = refl
has-append (x ∷ xs) ys at = go (eqb x at) (has-append xs ys at)
  where
    go : (b : Bool) → has (xs ++ ys) at ≡ (has xs at || has ys at) → (b || has (xs ++ ys) at) ≡ ((b || has xs at) || has ys at)
    go true e = refl
    go false e = e

-- ---- words

pub word_from-at : (from : ℕ) (words : List ℕ) (k w : ℕ) → slice_get words k ≡ Some w → word_from from words (from + 4 * k) ≡ Some w
word_from-at from [] k w h = absurd (grind (arith, h))
word_from-at from (v ∷ words) zero w h = let e : eqb from (from + 4 * 0) ≡ true = eq-eqb _ _ (omega arith) in rw e h
word_from-at from (v ∷ words) (suc k) w h =
    let e : eqb from (from + 4 * suc k) ≡ false = ne_eqb _ _ (omega arith) in
    let f : from + 4 + 4 * k ≡ from + 4 * suc k = omega arith in
    rw e (subst (λ z. word_from (from + 4) words z ≡ Some w) f (word_from-at (from + 4) words k w h))

pub word_from-outside : (from : ℕ) (words : List ℕ) (at : ℕ) → (from ≤ at → from + 4 * length words ≤ at) → word_from from words at ≡ None
word_from-outside from [] at h = refl
word_from-outside from (v ∷ words) at h = go (eqb from at) refl (word_from-outside (from + 4) words at (λ l. let a = h (omega arith) in omega arith))
  where
    go : (b : Bool) → eqb from at ≡ b → word_from (from + 4) words at ≡ None → cond b (Some v) (word_from (from + 4) words at) ≡ None
    go true e r = let a = eqb-true _ _ e in let l = h (omega arith) in absurd (omega arith)
    go false e r = r

-- ---- functions

pub marks-has : (base : ℕ) (marks : List Mark) (k : ℕ) → is_marked marks k ≡ true → has (map (mark_address base) marks) (base + place k) ≡ true
marks-has base [] k h = absurd (true≢false (sym h))
marks-has base (m ∷ marks) k h = go (or_cases _ _ h) (λ e. marks-has base marks k e)
  where
    go : (eqb m.at k ≡ true) ⊎ (is_marked marks k ≡ true) → (is_marked marks k ≡ true → has (map (mark_address base) marks) (base + place k) ≡ true) → has (map (mark_address base) (m ∷ marks)) (base + place k) ≡ true
    go (inl e) ih = let a = eqb-true _ _ e in or_left _ _ (eq-eqb (mark_address base m) (base + place k) (omega arith))
    go (inr e) ih = or_right _ _ (ih e)

pub record MarkAt (base : ℕ) (marks : List Mark) (at : ℕ) : Type 0 where
  pub k : ℕ
  pub marked : is_marked marks k ≡ true
  pub there : base + place k ≡ at

pub marks-only : (base : ℕ) (marks : List Mark) (at : ℕ) → has (map (mark_address base) marks) at ≡ true → MarkAt base marks at
marks-only base [] at h = absurd (true≢false (sym h))
marks-only base (m ∷ marks) at h = go (or_cases _ _ h) (λ e. marks-only base marks at e)
  where
    later : MarkAt base marks at → MarkAt base (m ∷ marks) at
    later r = record { k = r.k; marked = or_right _ _ r.marked; there = r.there }

    go : (eqb (mark_address base m) at ≡ true) ⊎ (has (map (mark_address base) marks) at ≡ true) → (has (map (mark_address base) marks) at ≡ true → MarkAt base marks at) → MarkAt base (m ∷ marks) at
    go (inl e) ih = let a = eqb-true _ _ e in record { k = m.at; marked = or_left _ _ (eq-eqb m.at m.at refl); there = omega arith }
    go (inr e) ih = later (ih e)

-- ---- behind calls

pub afters-has : (from : ℕ) (words : List ℕ) (k w : ℕ) → slice_get words k ≡ Some w → calls w ≡ true → has (afters_from from words) (from + 4 * k + 4) ≡ true
afters-has from [] k w h c = absurd (grind (arith, h))
afters-has from (v ∷ words) zero w h c =
    let e : v ≡ w = grind (arith, h) in
    let f : calls v ≡ true = ap calls e ∙ c in
    rw f (or_left _ _ (eq-eqb (from + 4) (from + 4 * 0 + 4) (omega arith)))
afters-has from (v ∷ words) (suc k) w h c = let f : from + 4 + 4 * k + 4 ≡ from + 4 * suc k + 4 = omega arith in go (calls v) (subst (λ z. has (afters_from (from + 4) words) z ≡ true) f (afters-has (from + 4) words k w h c))
  where
    go : (b : Bool) → has (afters_from (from + 4) words) (from + 4 * suc k + 4) ≡ true → has (cond b ((from + 4) ∷ afters_from (from + 4) words) (afters_from (from + 4) words)) (from + 4 * suc k + 4) ≡ true
    go true r = or_right _ _ r
    go false r = r

pub record CallAt (from : ℕ) (words : List ℕ) (at : ℕ) : Type 0 where
  pub k : ℕ
  pub word : ℕ
  pub get : slice_get words k ≡ Some word
  pub call : calls word ≡ true
  pub there : from + 4 * k + 4 ≡ at

call_later : (from v : ℕ) (words : List ℕ) (at : ℕ) → CallAt (from + 4) words at → CallAt from (v ∷ words) at
call_later from v words at r = let t = r.there in record { k = suc r.k; word = r.word; get = r.get; call = r.call; there = omega arith }

pub afters-only : (from : ℕ) (words : List ℕ) (at : ℕ) → has (afters_from from words) at ≡ true → CallAt from words at
afters-only from [] at h = absurd (true≢false (sym h))
afters-only from (v ∷ words) at h = go (calls v) refl h (λ g. call_later from v words at (afters-only (from + 4) words at g))
  where
    go : (b : Bool) → calls v ≡ b → has (cond b ((from + 4) ∷ afters_from (from + 4) words) (afters_from (from + 4) words)) at ≡ true → (has (afters_from (from + 4) words) at ≡ true → CallAt from (v ∷ words) at) → CallAt from (v ∷ words) at
    go false e g ih = ih g
    go true e g ih = here (or_cases _ _ g)
      where
        here : (eqb (from + 4) at ≡ true) ⊎ (has (afters_from (from + 4) words) at ≡ true) → CallAt from (v ∷ words) at
        here (inl q) = let a = eqb-true _ _ q in record { k = 0; word = v; get = refl; call = e; there = omega arith }
        here (inr q) = ih q
