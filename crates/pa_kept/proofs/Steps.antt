-- One instruction keeps the invariant, or an authentication of what was not signed ends it.
use Rattle.std.proofs.Common.{◌≡◌, ℕ, zero, suc, ◌+◌, ◌≤◌, ◌<◌, List, [], ◌∷◌, ◌++◌, length, get_or, refl, sym, ap, subst, ◌∙◌, arith, ◌⊎◌, inl, inr, Option, Some, None, get_or-set_same}
use Rattle.std.specs.Prelude.{Bool, true, false, cond, eqb, leb, not, ◌&&◌, ◌||◌, slice_set}
use Rattle.std.proofs.lemmas.Bool.{and_parts, and_from, and_left, and_right, true≢false, le-leb}
use Rattle.pa_pac.specs.declared.key.Key.{Key}
use Rattle.pa_pac.specs.declared.event.Event.{Event}
use Rattle.pa_pac.specs.declared.event.Event.TheVariants.{Sign, Take, Land}
use Rattle.pa_pac.specs.declared.event.Entry.{Entry}
use Rattle.pa_pac.specs.declared.event.When.TheVariants.{Step}
use Rattle.pa_pac.specs.Log.{Log, is_known}
use Rattle.pa_pac.specs.Signing.{Code}
use Rattle.pa_a64.specs.declared.instr.Instr.{Instr}
use Rattle.pa_a64.specs.Decoding.{decoded}
use Rattle.pa_object.specs.Machine.{Machine, register, after}
use Rattle.pa_object.specs.Traps.{trap_of}
use Rattle.pa_object.specs.Effects.{effect}
use Rattle.pa_object.specs.Run.{Place}
use Rattle.pa_object.specs.Shape.{is_known_take, all_known}
use Rattle.pa_object.proofs.Growth.{effect_counts, effect_leaves}
use Rattle.pa_object.specs.Rows.{writes_memory}
use Rattle.pa_kept.specs.Rows.{begins_raw, ends_raw}
use Rattle.pa_kept.specs.Kept.{CodeAt, is_by, all_known_by, raw_next, raw_since, RawIsShort, EventKept, LogKept, PlaceKept}
use Rattle.pa_kept.proofs.Attributes.{is_straight, Straight, straight_row}
use Rattle.pa_kept.proofs.Unchanged.{effect_still}
use Rattle.pa_kept.proofs.Sound.{Class, Free, Below, At}
use Rattle.pa_kept.proofs.Invariant.{Setup, Base, Inv, Broken, Fate, holds, broke, AllLog, AllTrail, all_log_more, log_more, log_of_all, known_signed, Signed}

pub set_gives : (l : List ℕ) (d v : ℕ) → length l ≡ 31 → d < 31 → get_or (slice_set l d v) d 0 ≡ v
set_gives l d v e h = get_or-set_same l d v 0 (omega arith)

-- the instruction at a machine's place
abbrev pub here : Machine → ℕ → Place
here m word = record { at = m.pc; word = word }

abbrev pub entry : Machine → Event → Entry
entry m e = record { when = Step m.count; event = e }

module _ (x : Setup) where
  open x use {w, cls, code, first, sound, stands_there}

  -- more entries behind an authentication that was not known
  kept_more : (t : List Place) (es rest : Log) → LogKept w t rest → all_known rest ≡ false → LogKept w t (es ++ rest) × (all_known (es ++ rest) ≡ false)
  unfolding all_known
  kept_more t [] rest h e = (h, e)
  kept_more t (c ∷ es) rest h e = let r = kept_more t es rest h e in (((λ k. absurd (true≢false (sym k ∙ and_right _ _ r.1))), r.0), and_right _ _ r.1)

  late_more : (k : ℕ) (es rest : Log) → all_known_by k rest ≡ false → all_known_by k (es ++ rest) ≡ false
  late_more k [] rest e = e
  late_more k (c ∷ es) rest e = and_right _ _ (late_more k es rest e)

  pub broken_step : (instr : Instr) (m : Machine) (t : List Place) (q : Place) → Broken x m t → Broken x (effect code instr m) (q ∷ t)
  broken_step instr m t q h =
      let g = (effect_leaves code instr m).log in
      let k = kept_more (q ∷ t) g.entries m.log (log_more x q t m.log h.good) h.lost in
      record {
        good = subst (λ z. LogKept w (q ∷ t) z) (sym g.grown) k.0;
        lost = rw g.grown k.1;
        newer = q ∷ h.newer;
        old = h.old;
        split = ap (λ z. q ∷ z) h.split;
        ran = h.ran;
        late = rw g.grown (late_more (length h.old) g.entries m.log h.late);
      }

  -- what is known where an instruction runs
  pub record Here (m : Machine) (t : List Place) (instr : Instr) (word : ℕ) : Type 0 where
    pub base : Base x m t
    pub there : w.word m.pc ≡ Some word
    pub decodes : decoded word ≡ Some instr
    pub runs : trap_of code instr m ≡ None

  -- an authentication that was not known
  broken_take : (instr : Instr) (m : Machine) (t : List Place) (word : ℕ) (es : Log) (k : Key) (y r : ℕ) → Here m t instr word → (effect code instr m).log ≡ es ++ entry m (Take k y r false) ∷ m.log → Broken x (effect code instr m) (here m word ∷ t)
  unfolding all_known
  broken_take instr m t word es k y r h e =
      let b = h.base in
      let t' = here m word ∷ t in
      let rest = entry m (Take k y r false) ∷ m.log in
      let g = kept_more t' es rest ((λ _. tt), log_of_all x t' m.log (all_log_more x (here m word) t m.log b.signed)) refl in
      let late : all_known_by (length t) rest ≡ false = let c = b.counted in let l : leb m.count (length t) ≡ true = le-leb _ _ (omega arith) in rw l refl in
      record {
        good = subst (λ z. LogKept w t' z) (sym e) g.0;
        lost = rw e g.1;
        newer = here m word ∷ [];
        old = t;
        split = refl;
        ran = b.ran;
        late = rw e (late_more (length t) es rest late);
      }

  base_next : (instr : Instr) (m : Machine) (t : List Place) (word : ℕ) → Here m t instr word → PlaceKept w (here m word) t → AllLog x (here m word ∷ t) (effect code instr m).log → all_known (effect code instr m).log ≡ true → Base x (effect code instr m) (here m word ∷ t)
  base_next instr m t word h k a e =
      let b = h.base in
      record {
        still = effect_still first code instr m b.still h.runs;
        counted = effect_counts code instr m h.runs ∙ ap suc b.counted;
        signed = a;
        ran = (k, b.ran);
        trust = e;
      }

  pub since_next : (instr : Instr) (m : Machine) (t : List Place) (word : ℕ) (o : Option ℕ) → Here m t instr word → raw_since t ≡ o → raw_since (here m word ∷ t) ≡ raw_next instr o
  unfolding raw_since
  since_next instr m t word o h s = rw (h.decodes, s) refl

  pub below_next : (instr : Instr) (o : Option ℕ) (k : ℕ) → begins_raw instr ≡ false → ends_raw instr ≡ false → Below o k → Below (raw_next instr o) (suc k)
  below_next instr None k a b h = rw (a, b) tt
  below_next instr (Some n) k a b h = rw (a, b) (omega arith)

  pub none_next : (instr : Instr) (m : Machine) (t : List Place) (word : ℕ) → Here m t instr word → raw_since t ≡ None → begins_raw instr ≡ false → ends_raw instr ≡ false → raw_since (here m word ∷ t) ≡ None
  none_next instr m t word h s a b = since_next instr m t word None h s ∙ rw (a, b) refl

  -- a place where no raw code pointer stands, and one where it may
  pub place_free : (instr : Instr) (m : Machine) (t : List Place) (word : ℕ) → Here m t instr word → raw_since t ≡ None → PlaceKept w (here m word) t
  place_free instr m t word h s = (h.there, rw s tt)

  pub place_open : (instr : Instr) (m : Machine) (t : List Place) (word k : ℕ) → Here m t instr word → Below (raw_since t) k → writes_memory instr ≡ false → (ends_raw instr ≡ false → k ≤ 6) → PlaceKept w (here m word) t
  place_open instr m t word k h b s e = (h.there, rw h.decodes (go (raw_since t) b))
    where
      go : (o : Option ℕ) → Below o k → RawIsShort (Some instr) o
      go None b = tt
      go (Some n) b = (s, λ z. let l = e z in omega arith)

  -- an instruction without an event
  pub leads : (instr : Instr) (m : Machine) (t : List Place) (word : ℕ) → Here m t instr word → PlaceKept w (here m word) t → (effect code instr m).log ≡ m.log → ((effect code instr m).ended ≡ None → At w (cls (effect code instr m).pc) (effect code instr m) (here m word ∷ t)) → Fate x (effect code instr m) (here m word ∷ t)
  leads instr m t word h k l a =
      let b = h.base in
      holds (record { base = base_next instr m t word h k (subst (λ z. AllLog x (here m word ∷ t) z) (sym l) (all_log_more x (here m word) t m.log b.signed)) (rw l b.trust); at = a })

  pub straight : (instr : Instr) (m : Machine) (t : List Place) (word : ℕ) → Here m t instr word → is_straight instr ≡ true → PlaceKept w (here m word) t → At w (cls (after m)) (effect code instr m) (here m word ∷ t) → Fate x (effect code instr m) (here m word ∷ t)
  straight instr m t word h g k a =
      let q = straight_row code instr m g in
      leads instr m t word h k q.log (λ e. subst (λ z. At w (cls z) (effect code instr m) (here m word ∷ t)) (sym q.pc) a)

  -- one where nothing is known
  pub free_straight : (instr : Instr) (m : Machine) (t : List Place) (word : ℕ) → Here m t instr word → is_straight instr ≡ true → raw_since t ≡ None → cls (after m) ≡ Free → Fate x (effect code instr m) (here m word ∷ t)
  free_straight instr m t word h g s c =
      let q = straight_row code instr m g in
      straight instr m t word h g (place_free instr m t word h s) (subst (λ z. At w z (effect code instr m) (here m word ∷ t)) (sym c) (none_next instr m t word h s q.begins q.ends))

  -- an instruction with one entry that is right
  pub adds : (instr : Instr) (m : Machine) (t : List Place) (word : ℕ) (e : Event) → Here m t instr word → PlaceKept w (here m word) t → (effect code instr m).log ≡ entry m e ∷ m.log → EventKept w (here m word ∷ t) (Step m.count) e m.log → is_known_take e ≡ true → ((effect code instr m).ended ≡ None → At w (cls (effect code instr m).pc) (effect code instr m) (here m word ∷ t)) → Fate x (effect code instr m) (here m word ∷ t)
  unfolding all_known
  adds instr m t word e h k l g y a =
      let b = h.base in
      holds (record { base = base_next instr m t word h k (subst (λ z. AllLog x (here m word ∷ t) z) (sym l) (g, all_log_more x (here m word) t m.log b.signed)) (rw l (and_from _ _ y b.trust)); at = a })

  -- an instruction that authenticates, and maybe lands
  pub takes : (instr : Instr) (m : Machine) (t : List Place) (word : ℕ) (es : Log) (k : Key) (y r : ℕ) → Here m t instr word → PlaceKept w (here m word) t → (effect code instr m).log ≡ es ++ entry m (Take k y r (is_known m.log k y r)) ∷ m.log
      → (Signed x k r → (b : Bool) → b ≡ true → AllLog x (here m word ∷ t) m.log → all_known m.log ≡ true → AllLog x (here m word ∷ t) (es ++ entry m (Take k y r b) ∷ m.log) × (all_known (es ++ entry m (Take k y r b) ∷ m.log) ≡ true))
      → (Signed x k r → (effect code instr m).ended ≡ None → At w (cls (effect code instr m).pc) (effect code instr m) (here m word ∷ t)) → Fate x (effect code instr m) (here m word ∷ t)
  takes instr m t word es k y r h kp l g a = go (is_known m.log k y r) refl
    where
      go : (b : Bool) → is_known m.log k y r ≡ b → Fate x (effect code instr m) (here m word ∷ t)
      go false f = broke (broken_take instr m t word es k y r h (l ∙ ap (λ z. es ++ entry m (Take k y r z) ∷ m.log) f))
      go true f =
          let b = h.base in
          let s = known_signed x t m.log k y r b.signed f in
          let u = g s (is_known m.log k y r) f (all_log_more x (here m word) t m.log b.signed) b.trust in
          holds (record { base = base_next instr m t word h kp (subst (λ z. AllLog x (here m word ∷ t) z) (sym l) u.0) (rw l u.1); at = a s })
