-- The invariant of a run, and what follows from it.
use Rattle.std.proofs.Common.{◌≡◌, ℕ, zero, suc, ◌+◌, ◌≤◌, ◌<◌, List, [], ◌∷◌, ◌++◌, length, refl, sym, ap, subst, ◌∙◌, arith, ◌⊎◌, inl, inr, Option, Some, None, length-append}
use Rattle.std.specs.Prelude.{Bool, true, false, cond, eqb, leb, not, ◌&&◌, ◌||◌}
use Rattle.std.proofs.lemmas.Bool.{and_parts, and_from, and_left, and_right, and_cases, or_cases, true≢false, eqb-true, le-leb, leb-true}
use Rattle.pa_pac.specs.declared.key.Key.{Key}
use Rattle.pa_pac.specs.declared.key.Key.TheVariants.{IA, IB, DA, DB, GA}
use Rattle.pa_pac.specs.declared.event.Event.{Event}
use Rattle.pa_pac.specs.declared.event.Event.TheVariants.{Sign, Take, Land}
use Rattle.pa_pac.specs.declared.event.Entry.{Entry}
use Rattle.pa_pac.specs.declared.event.When.{When}
use Rattle.pa_pac.specs.declared.event.When.TheVariants.{Load, Step}
use Rattle.pa_pac.specs.Key.{same_key}
use Rattle.pa_pac.specs.Log.{Log, is_sign, is_known}
use Rattle.pa_pac.specs.Signing.{Code}
use Rattle.pa_mem.specs.Memory.{Region, fetch}
use Rattle.pa_object.specs.Machine.{Machine}
use Rattle.pa_object.specs.Run.{Place, Watched}
use Rattle.pa_object.specs.Shape.{is_known_take, all_known}
use Rattle.pa_kept.specs.Kept.{CodeAt, is_by, all_known_by, RanAt, AtEntry, EventKept, LogKept, PlaceKept, TrailKept, IsKept}
use Rattle.pa_kept.proofs.Unchanged.{Same, Still}
use Rattle.pa_kept.proofs.Sound.{Class, Sound, At}

pub record Setup : Type 0 where
  pub w : CodeAt
  pub cls : ℕ → Class
  pub code : Code
  pub first : List Region
  pub sound : Sound w cls
  pub stands_there : (at word : ℕ) → w.word at ≡ Some word → fetch first at ≡ Some word

module _ (x : Setup) where
  open x use {w, cls, code, first, sound, stands_there}

  -- every entry so far is right, and so is every instruction
  abbrev pub AllLog : List Place → Log → Type 0
  AllLog t [] = Unit {0}
  AllLog t (e ∷ es) = EventKept w t e.when e.event es × AllLog t es

  abbrev pub AllTrail : List Place → Type 0
  AllTrail [] = Unit {0}
  AllTrail (q ∷ qs) = PlaceKept w q qs × AllTrail qs

  -- what holds while every authentication was known
  pub record Base (m : Machine) (t : List Place) : Type 0 where
    pub still : Still first m
    pub counted : m.count ≡ length t
    pub signed : AllLog t m.log
    pub ran : AllTrail t
    pub trust : all_known m.log ≡ true

  pub record Inv (m : Machine) (t : List Place) : Type 0 where
    pub base : Base m t
    pub at : m.ended ≡ None → At w (cls m.pc) m t

  -- what holds behind an authentication that was not
  pub record Broken (m : Machine) (t : List Place) : Type 0 where
    pub good : LogKept w t m.log
    pub lost : all_known m.log ≡ false
    pub newer : List Place
    pub old : List Place
    pub split : t ≡ newer ++ old
    pub ran : AllTrail old
    pub late : all_known_by (length old) m.log ≡ false

  pub data Fate (m : Machine) (t : List Place) : Type 0 where
    holds : Inv m t → Fate m t
    broke : Broken m t → Fate m t

  -- ---- a longer trail

  event_more : (q : Place) (t : List Place) (when : When) (e : Event) (es : Log) → EventKept w t when e es → EventKept w (q ∷ t) when e es
  event_more q t when (Land v target) es h = h
  event_more q t when (Take k y r b) es h = h
  event_more q t when (Sign IA y r s) es h = h
  event_more q t Load (Sign IB y r s) es h = h
  event_more q t (Step n) (Sign IB y r s) es h = (h.0, (h.1.0, inr h.1.1, h.1.2))
  event_more q t when (Sign DA y r s) es h = h
  event_more q t when (Sign DB y r s) es h = h
  event_more q t when (Sign GA y r s) es h = h

  pub all_log_more : (q : Place) (t : List Place) (es : Log) → AllLog t es → AllLog (q ∷ t) es
  all_log_more q t [] h = tt
  all_log_more q t (e ∷ es) h = (event_more q t e.when e.event es h.0, all_log_more q t es h.1)

  pub log_more : (q : Place) (t : List Place) (es : Log) → LogKept w t es → LogKept w (q ∷ t) es
  log_more q t [] h = tt
  log_more q t (e ∷ es) h = ((λ k. event_more q t e.when e.event es (h.0 k)), log_more q t es h.1)

  -- ---- kept control flow from a fate

  pub log_of_all : (t : List Place) (es : Log) → AllLog t es → LogKept w t es
  log_of_all t [] h = tt
  log_of_all t (e ∷ es) h = ((λ k. h.0), log_of_all t es h.1)

  trail_of_all : (es : Log) (ps : List Place) → AllTrail ps → TrailKept w es ps
  trail_of_all es [] h = tt
  trail_of_all es (q ∷ qs) h = ((λ k. h.0), trail_of_all es qs h.1)

  by_more : (j k : ℕ) (t : When) → j ≤ k → is_by j t ≡ true → is_by k t ≡ true
  by_more j k Load h e = refl
  by_more j k (Step n) h e = let a : n ≤ j = leb-true _ _ e in le-leb n k (omega arith)

  unknown_more : (j k : ℕ) (es : Log) → j ≤ k → all_known_by j es ≡ false → all_known_by k es ≡ false
  unknown_more j k [] h e = e
  unknown_more j k (e ∷ es) h f = go (λ g. unknown_more j k es h g) (and_cases _ _ f)
    where
      at : (b : Bool) → is_by j e.when ≡ b → (not b || is_known_take e.event) ≡ false → (not (is_by k e.when) || is_known_take e.event) ≡ false
      at true q g = rw (by_more j k e.when h q) g
      at false q g = absurd (true≢false g)

      go : (all_known_by j es ≡ false → all_known_by k es ≡ false) → ((not (is_by j e.when) || is_known_take e.event) ≡ false) ⊎ (all_known_by j es ≡ false) → all_known_by k (e ∷ es) ≡ false
      go ih (inl g) = and_left _ _ (at (is_by j e.when) refl g)
      go ih (inr g) = and_right _ _ (ih g)

  trail_of_broken : (es : Log) (ks ps : List Place) → AllTrail ps → all_known_by (length ps) es ≡ false → TrailKept w es (ks ++ ps)
  trail_of_broken es [] ps h e = trail_of_all es ps h
  trail_of_broken es (k ∷ ks) ps h e = ((λ t. absurd (true≢false (sym t ∙ unknown_more (length ps) (length (ks ++ ps)) es (omega (arith, length-append ks ps)) e))), trail_of_broken es ks ps h e)

  pub kept_of_fate : (m : Machine) (t : List Place) → Fate m t → LogKept w t m.log × TrailKept w m.log t
  kept_of_fate m t (holds h) = (log_of_all t m.log h.base.signed, trail_of_all m.log t h.base.ran)
  kept_of_fate m t (broke h) = (h.good, subst (λ z. TrailKept w m.log z) (sym h.split) (trail_of_broken m.log h.newer h.old h.ran h.late))

  -- ---- a known authentication is of what was signed

  abbrev pub Signed : Key → ℕ → Type 0
  Signed IA r = w.is_entry r ≡ true
  Signed IB r = w.is_after r ≡ true
  Signed other r = ⊥

  sign_good : (t : List Place) (when : When) (e : Event) (es : Log) (k : Key) (y r : ℕ) → EventKept w t when e es → is_sign k y r e ≡ true → Signed k r
  sign_good t when (Sign IA z q s) es IA y r h e = rw (eqb-true r q (and_parts (eqb y z) _ e).1) h
  sign_good t when (Sign IB z q s) es IB y r h e = rw (eqb-true r q (and_parts (eqb y z) _ e).1) h.0
  sign_good t when (Sign DA z q s) es k y r h e = absurd h
  sign_good t when (Sign DB z q s) es k y r h e = absurd h
  sign_good t when (Sign GA z q s) es k y r h e = absurd h
  sign_good t when (Sign IA z q s) es IB y r h e = absurd (true≢false (sym e))
  sign_good t when (Sign IA z q s) es DA y r h e = absurd (true≢false (sym e))
  sign_good t when (Sign IA z q s) es DB y r h e = absurd (true≢false (sym e))
  sign_good t when (Sign IA z q s) es GA y r h e = absurd (true≢false (sym e))
  sign_good t when (Sign IB z q s) es IA y r h e = absurd (true≢false (sym e))
  sign_good t when (Sign IB z q s) es DA y r h e = absurd (true≢false (sym e))
  sign_good t when (Sign IB z q s) es DB y r h e = absurd (true≢false (sym e))
  sign_good t when (Sign IB z q s) es GA y r h e = absurd (true≢false (sym e))
  sign_good t when (Take j z q b) es k y r h e = absurd (true≢false (sym e))
  sign_good t when (Land v q) es k y r h e = absurd (true≢false (sym e))

  pub known_signed : (t : List Place) (es : Log) (k : Key) (y r : ℕ) → AllLog t es → is_known es k y r ≡ true → Signed k r
  unfolding is_known
  known_signed t [] k y r h e = absurd (true≢false (sym e))
  known_signed t (c ∷ es) k y r h e = go (λ f. known_signed t es k y r h.1 f) (or_cases _ _ e)
    where
      go : (is_known es k y r ≡ true → Signed k r) → (is_sign k y r c.event ≡ true) ⊎ (is_known es k y r ≡ true) → Signed k r
      go ih (inl f) = sign_good t c.when c.event es k y r h.0 f
      go ih (inr f) = ih f
