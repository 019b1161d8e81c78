-- Words that break no rule lead only where the classes say.
use Rattle.std.proofs.Common.{◌≡◌, ℕ, ℤ, zero, suc, ◌+◌, ◌-◌, ◌*◌, ◌/◌, ◌%◌, ◌^◌, ◌<◌, ◌≤◌, List, [], ◌∷◌, length, refl, sym, ap, subst, ◌∙◌, arith, Option, Some, None, ◌⊎◌, inl, inr}
use Rattle.std.specs.Prelude.{Bool, true, false, cond, not, ◌&&◌, ◌||◌, leb, ltb, eqb, slice_get, ◌==◌}
use Rattle.std.specs.Option.{option_map_or}
use Rattle.std.proofs.lemmas.Bool.{true≢false, and_parts, and_from, and_right, or_parts, or_cases, eqb-true, eqb-false, leb-true, leb-false, le-leb, ltb-true, ltb-false, lt-ltb, not-true, not-false, ne_eqb, eq-eqb}
use Rattle.std.proofs.lemmas.Option.{slice_get-get_or}
use Rattle.pa_num.specs.Arithmetic.{add64, scaled64, wrap}
use Rattle.pa_a64.specs.declared.instr.Instr.{Instr}
use Rattle.pa_a64.specs.declared.instr.Instr.TheVariants as i
use Rattle.pa_a64.specs.declared.instr.SumImmediateOp.TheVariants as immediate
use Rattle.pa_a64.specs.declared.instr.BranchOp.TheVariants.{B, Bl}
use Rattle.pa_a64.specs.declared.instr.BranchRegisterOp.TheVariants.{Br, Blr, Ret}
use Rattle.pa_a64.specs.declared.instr.BranchAuthenticatedOp.TheVariants.{Braa, Blraa, Blrab}
use Rattle.pa_a64.specs.declared.instr.StackOp.TheVariants.{Retab, Pacibsp, Autibsp}
use Rattle.pa_a64.specs.declared.instr.SignOp.TheVariants.{Pacia, Pacib, Pacda, Pacdb}
use Rattle.pa_a64.specs.declared.instr.AuthenticateOp.TheVariants.{Autia, Autib, Autda, Autdb}
use Rattle.pa_a64.specs.declared.instr.PlainOp.TheVariants.{Paciza, Autiza, Xpaci}
use Rattle.pa_a64.specs.declared.instr.ExceptionOp.TheVariants.{Svc, Brk}
use Rattle.pa_a64.specs.Decoding.{decoded}
use Rattle.pa_object.specs.Effects.{immediate_of}
use Rattle.pa_image.specs.Places.{is_call}
use Rattle.pa_check.specs.declared.rule.CheckRule.{CheckRule}
use Rattle.pa_check.specs.declared.rule.CheckRule.TheVariants.{K1, K2, K3, K4, K6, K7, K8}
use Rattle.pa_check.specs.declared.window.Opening.{Opening}
use Rattle.pa_check.specs.declared.window.Opening.TheVariants.{Taken, Made}
use Rattle.pa_check.specs.declared.window.Window.{Window}
use Rattle.pa_check.specs.Rows.{is_pair, closes, may_stand, may_write, is_misplaced, signs_code, branch_words, call_words, is_pacibsp, may_be_last, is_forbidden, is_stray_return, is_stray_branch}
use Rattle.pa_check.specs.Text.{Text, place, number_at, nth, marked_in, word_at, behind, is_entry, is_stub, target, page}
use Rattle.pa_check.specs.Windows.{is_zero, made_by, opened_by, opened_at, opening_words, breaks_window, is_last_of, next_in, Spot, all_spots}
use Rattle.pa_check.specs.Rules.{is_inside, window_calls, window_broken, within, calls_code, calls_elsewhere, leaves_function, inside_in, lands_inside, enters_window, breaks_k1, breaks_k2, breaks_k3, breaks_k4, function_rule}
use Rattle.pa_check.specs.Passing.{goes_on, farther}
use Rattle.pa_kept.specs.Kept.{CodeAt}
use Rattle.pa_kept.proofs.Attributes.{computes, writes}
use Rattle.pa_kept.proofs.Sound.{Class, Off, Head, Free, Within, Adding, Stub, Fits, FitsFree, FitsWithin, FitsAdding}
use Rattle.pa_kept.proofs.Locals.{AddsTo, CameIn, CameAt, Came, Follows, Local, local, length-spots}

-- ---- classes

-- those of a text that lies at a base
abbrev pub class_in : (base : ℕ) → Opening → ℕ → Class
class_in base c zero = Free
class_in base (Made from) (suc zero) = Adding (add64 base from)
class_in base (Made from) (suc (suc d)) = Within false (suc (suc d))
class_in base Taken (suc d) = Within true (suc d)

abbrev pub class_round : (base : ℕ) → Option Window → Class
class_round base None = Free
class_round base (Some r) = class_in base r.opening r.behind

abbrev pub class_of : (base : ℕ) → Text → (k : ℕ) → Spot → Class
class_of base t k s = cond (ltb k t.start) Free (cond s.marked Head (class_round base s.window))

free_round : (base : ℕ) (r : Option Window) → is_inside r ≡ false → class_round base r ≡ Free
free_round base None h = refl
free_round base (Some r) h = go r.behind h
  where
    go : (d : ℕ) → not (is_zero d) ≡ false → class_in base r.opening d ≡ Free
    go zero h = refl
    go (suc d) h = absurd (true≢false h)

-- ---- no rule is broken

pub record Clean (t : Text) (k : ℕ) (s : Spot) : Type 0 where
  pub k1 : breaks_k1 t k s ≡ false
  pub k2_stays : leaves_function s.first s.end (place k) s.instr ≡ false
  pub k2_calls : calls_elsewhere t (place k) s.instr ≡ false
  pub k3 : is_misplaced s.instr ≡ false
  pub k3_window : window_broken s.window s.instr ≡ false
  pub k3_into : enters_window (all_spots t) s.first s.end (place k) s.instr ≡ false
  pub k4 : breaks_k4 s ≡ false
  pub k6 : is_forbidden s.instr ≡ false
  pub k7 : is_stray_branch (window_calls s.window) s.instr ≡ false
  pub k8 : is_stray_return s.marked s.instr ≡ false

not_first : (b : Bool) (r : CheckRule) (o : Option CheckRule) → cond b (Some r) o ≡ None → (b ≡ false) × (o ≡ None)
not_first true r o h = absurd (grind (arith, h))
not_first false r o h = (refl, h)

pub clean : (t : Text) (k : ℕ) (s : Spot) → function_rule t (all_spots t) k s ≡ None → Clean t k s
clean t k s h =
    let a = not_first _ K1 _ h in
    let b = not_first _ K2 _ a.1 in
    let c = not_first _ K3 _ b.1 in
    let d = not_first _ K4 _ c.1 in
    let e = not_first _ K6 _ d.1 in
    let f = not_first _ K7 _ e.1 in
    let g = not_first _ K8 _ f.1 in
    let u = or_parts _ _ b.0 in
    let v = or_parts _ _ c.0 in
    let w = or_parts _ _ v.1 in
    record { k1 = a.0; k2_stays = u.0; k2_calls = u.1; k3 = v.0; k3_window = w.0; k3_into = w.1; k4 = d.0; k6 = e.0; k7 = f.0; k8 = g.0 }

-- ---- numbers

add64_assoc : (a b c : ℕ) → add64 (add64 a b) c ≡ add64 a (add64 b c)
unfolding add64 wrap
add64_assoc a b c = omega arith

pub add64_moved : (base o s : ℕ) → base + o < 2 ^ 64 → add64 (base + o) s ≡ add64 base (add64 o s)
unfolding add64 wrap
add64_moved base o s h = omega arith

page_moved : (base o s : ℕ) → base % 4096 ≡ 0 → add64 ((base + o) - (base + o) % 4096) s ≡ add64 base (add64 (o - o % 4096) s)
unfolding add64 wrap
page_moved base o s h = omega arith

pub add64_small : (a b : ℕ) → a + b < 2 ^ 64 → add64 a b ≡ a + b
unfolding add64 wrap
add64_small a b h = omega arith

-- ---- a text among all code

pub record Among (t : Text) (base : ℕ) (w : CodeAt) (cls : ℕ → Class) : Type 0 where
  pub class : (k : ℕ) (s : Spot) → slice_get (all_spots t) k ≡ Some s → cls (base + place k) ≡ class_of base t k s
  pub entries : (at : ℕ) → is_entry t at ≡ true → w.is_entry (add64 base at) ≡ true
  pub heads : (a : ℕ) → w.is_entry a ≡ true → cls a ≡ Head
  pub afters : (k : ℕ) (j : Instr) → k < length t.words → (word_at t k).instr ≡ Some j → is_call j ≡ true → w.is_after (base + place (suc k)) ≡ true
  pub stubs : (at : ℕ) → is_stub t at ≡ true → cls (add64 base at) ≡ Stub 0
  pub small : base + place (length t.words) < 2 ^ 63
  pub even : base % 4096 ≡ 0

-- a place of a word
pub number_place : (k : ℕ) → number_at (place k) ≡ Some k
number_place k =
    let a : leb 0x400 (0x400 + 4 * k) ≡ true = le-leb _ _ (omega arith) in
    let b : (0x400 + 4 * k - 0x400) % 4 ≡ 0 = omega arith in
    let c : (0x400 + 4 * k - 0x400) / 4 ≡ k = omega arith in
    rw (a, b, c) refl

pub number_found : (at k : ℕ) → number_at at ≡ Some k → at ≡ place k
number_found at k h = go (leb 0x400 at && eqb ((at - 0x400) % 4) 0) refl h
  where
    go : (b : Bool) → (leb 0x400 at && eqb ((at - 0x400) % 4) 0) ≡ b → cond b (Some ((at - 0x400) / 4)) None ≡ Some k → at ≡ place k
    go true q z = let p = and_parts _ _ q in let l : 0x400 ≤ at = leb-true _ _ p.0 in let m : (at - 0x400) % 4 ≡ 0 = eqb-true _ _ p.1 in let n : (at - 0x400) / 4 ≡ k = grind (arith, z) in omega arith
    go false q z = absurd (grind (arith, z))

module _ (t : Text) (base : ℕ) (w : CodeAt) (cls : ℕ → Class) (among : Among t base w cls) (no_rule : (k : ℕ) (s : Spot) → t.start ≤ k → slice_get (all_spots t) k ≡ Some s → function_rule t (all_spots t) k s ≡ None) where
  -- a word of a function that breaks no rule, in its place
  record At (k : ℕ) (s : Spot) : Type 0 where
    get : slice_get (all_spots t) k ≡ Some s
    ok : Clean t k s
    loc : Local t k s
    low : t.start ≤ k

  at_word : (k : ℕ) (s : Spot) → t.start ≤ k → k < length t.words → slice_get (all_spots t) k ≡ Some s → At k s
  at_word k s l m h = record { get = h; ok = clean t k s (no_rule k s l h); loc = local t k s m h; low = l }

  here_small : (k : ℕ) → k < length t.words → base + place k + 4 < 2 ^ 63
  here_small k l = let a = among.small in omega arith

  next_place : (k : ℕ) → k < length t.words → add64 (base + place k) 4 ≡ base + place (suc k)
  next_place k l = let a = here_small k l in add64_small (base + place k) 4 (omega arith) ∙ omega arith

  class_at : (k : ℕ) (s : Spot) → t.start ≤ k → slice_get (all_spots t) k ≡ Some s → cls (base + place k) ≡ cond s.marked Head (class_round base s.window)
  class_at k s l h = let f : ltb k t.start ≡ false = go (ltb k t.start) refl in among.class k s h ∙ rw f refl
    where
      go : (b : Bool) → ltb k t.start ≡ b → b ≡ false
      go true e = let a = ltb-true _ _ e in absurd (omega arith)
      go false e = refl

  record Next (k : ℕ) (s : Spot) : Type 0 where
    spot : Spot
    get : slice_get (all_spots t) (suc k) ≡ Some spot
    marked : spot.marked ≡ false
    more : goes_on s.window s.instr ≡ true → spot.window ≡ farther s.window
    fresh : goes_on s.window s.instr ≡ false → is_inside spot.window ≡ false

  next_word : (k : ℕ) (s : Spot) → At k s → s.is_last ≡ false → Next k s
  next_word k s h l = go (slice_get (all_spots t) (suc k)) refl (h.loc.follows l)
    where
      go : (o : Option Spot) → slice_get (all_spots t) (suc k) ≡ o → Follows s o → Next k s
      go None q f = absurd f
      go (Some u) q f = record { spot = u; get = q; marked = f.0; more = f.1; fresh = f.2 }

  -- the class behind a word
  class_next : (k : ℕ) (s : Spot) → At k s → (n : Next k s) → cls (add64 (base + place k) 4) ≡ class_round base n.spot.window
  class_next k s h n = let l = h.low in rw (next_place k h.loc.there) (class_at (suc k) n.spot (omega arith) n.get ∙ rw n.marked refl)

  next_free : (k : ℕ) (s : Spot) → At k s → s.is_last ≡ false → goes_on s.window s.instr ≡ false → cls (add64 (base + place k) 4) ≡ Free
  next_free k s h l g = let n = next_word k s h l in class_next k s h n ∙ free_round base n.spot.window (n.fresh g)

  next_in_window : (k : ℕ) (s : Spot) → At k s → s.is_last ≡ false → goes_on s.window s.instr ≡ true → cls (add64 (base + place k) 4) ≡ class_round base (farther s.window)
  next_in_window k s h l g = let n = next_word k s h l in class_next k s h n ∙ ap (class_round base) (n.more g)

  -- a word whose row may not end a function
  not_last : (k : ℕ) (s : Spot) (j : Instr) → At k s → s.instr ≡ Some j → may_be_last (Some j) ≡ false → s.is_last ≡ false
  not_last k s j h q f = go s.is_last refl (rw (q, f) at h.ok.k4)
    where
      go : (b : Bool) → s.is_last ≡ b → (b && true) ≡ false → s.is_last ≡ false
      go true l z = absurd (true≢false z)
      go false l z = l

  start_marked : (k : ℕ) → t.start ≤ k → k < length t.words → (word_at t t.start).marked ≡ true
  start_marked k l h =
      let g = length-spots t t.start (omega arith) in
      let s = g.0 in
      let a = at_word t.start s (omega arith) (omega arith) g.1 in
      sym a.loc.marked ∙ go s.marked refl a.ok.k1
    where
      go : (b : Bool) → (length-spots t t.start (omega arith)).0.marked ≡ b → cond b (not (is_pacibsp (length-spots t t.start (omega arith)).0.instr)) (eqb t.start t.start) ≡ false → (length-spots t t.start (omega arith)).0.marked ≡ true
      go true q z = q
      go false q z = absurd (true≢false (sym (eq-eqb t.start t.start refl) ∙ z))

  first_low : (k : ℕ) (s : Spot) → At k s → t.start ≤ s.first
  first_low k s h = h.loc.latest t.start h.low (start_marked k h.low h.loc.there)

  -- a branch leads to a free place
  branch_free : (k : ℕ) (s : Spot) (words : ℤ) → At k s → not (within s.first s.end (number_at (target (place k) words))) ≡ false → lands_inside (all_spots t) s.first s.end (number_at (target (place k) words)) ≡ false → cls (add64 (base + place k) (scaled64 4 words)) ≡ Free
  branch_free k s words h a b = go (number_at (target (place k) words)) refl a b
    where
      go : (o : Option ℕ) → number_at (target (place k) words) ≡ o → not (within s.first s.end o) ≡ false → lands_inside (all_spots t) s.first s.end o ≡ false → cls (add64 (base + place k) (scaled64 4 words)) ≡ Free
      go None q a b = absurd (true≢false a)
      go (Some j) q a b =
          let p = and_parts _ _ (not-false _ a) in
          let lo : s.first < j = ltb-true _ _ p.0 in
          let hi : j < s.end = ltb-true _ _ p.1 in
          let f = h.loc.within j lo hi in
          let g = length-spots t j f.1 in
          let m : g.0.marked ≡ false = (local t j g.0 f.1 g.1).marked ∙ f.0 in
          let n : is_inside g.0.window ≡ false = rw (not-false _ a, g.1) at b in
          let c = first_low k s h in
          let d = here_small k h.loc.there in
          let e = here_small j f.1 in
          let r : add64 (base + place k) (scaled64 4 words) ≡ base + place j = add64_moved base (place k) (scaled64 4 words) (omega arith) ∙ ap (add64 base) (number_found (target (place k) words) j q) ∙ add64_small base (place j) (omega arith) in
          rw r (class_at j g.0 (omega arith) g.1 ∙ rw m (free_round base g.0.window n))

  -- ---- outside windows

  -- a word that opens a window has one round it
  opens_some : (k : ℕ) (s : Spot) (j : Instr) (c : Opening) → At k s → s.instr ≡ Some j → s.window ≡ None → opened_by t (place k) (Some j) (next_in (behind t k)) ≡ Some c → ⊥
  opens_some k s j c h q r e =
      let a : opened_at t k (word_at t k) (behind t k) ≡ None = subst (λ o. Came t k o) r h.loc.from in
      let b : (word_at t k).instr ≡ Some j = sym h.loc.instr ∙ q in
      go (ltb k t.start) refl (rw b at a)
    where
      go : (d : Bool) → ltb k t.start ≡ d → cond d None (opened_by t (place k) (Some j) (next_in (behind t k))) ≡ None → ⊥
      go true y z = let a = ltb-true _ _ y in let l = h.low in absurd (omega arith)
      go false y z = grind (arith, sym z ∙ e)

  -- a call leads to a function or a stub
  calls : (k : ℕ) (words : ℤ) → k < length t.words → calls_code t (place k) words ≡ true → (cls (add64 (base + place k) (scaled64 4 words)) ≡ Head) ⊎ (cls (add64 (base + place k) (scaled64 4 words)) ≡ Stub 0)
  calls k words l h =
      let d = here_small k l in
      let r : add64 (base + place k) (scaled64 4 words) ≡ add64 base (target (place k) words) = add64_moved base (place k) (scaled64 4 words) (omega arith) in
      rw r (go (or_cases _ _ h))
    where
      go : (is_entry t (target (place k) words) ≡ true) ⊎ (is_stub t (target (place k) words) ≡ true) → (cls (add64 base (target (place k) words)) ≡ Head) ⊎ (cls (add64 base (target (place k) words)) ≡ Stub 0)
      go (inl a) = inl (among.heads _ (among.entries _ a))
      go (inr a) = inr (among.stubs _ a)

  free_none : (k : ℕ) (s : Spot) (j : Instr) → At k s → s.instr ≡ Some j → s.marked ≡ false → s.window ≡ None → FitsFree w cls (base + place k) (add64 (base + place k) 4) j
  free_none k s (i.Branch B words) h q f r = branch_free k s words h (rw q at h.ok.k2_stays) (rw q at h.ok.k3_into)
  free_none k s (i.BranchConditional condition words) h q f r = (next_free k s h (not_last k s _ h q refl) (rw r refl), branch_free k s words h (rw q at h.ok.k2_stays) (rw q at h.ok.k3_into))
  free_none k s (i.CompareBranch op rt words) h q f r = (next_free k s h (not_last k s _ h q refl) (rw r refl), branch_free k s words h (rw q at h.ok.k2_stays) (rw q at h.ok.k3_into))
  free_none k s (i.Adrp rd pages) h q f r = inl (next_free k s h (not_last k s _ h q refl) (rw r refl))
  free_none k s (i.Branch Bl words) h q f r = (
    rw (next_place k h.loc.there) (among.afters k _ h.loc.there (sym h.loc.instr ∙ q) refl),
    next_free k s h (not_last k s _ h q refl) (rw r refl),
    calls k words h.loc.there (not-false _ (rw q at h.ok.k2_calls)),
  )
  free_none k s (i.Authenticate Autia rd rn) h q f r = absurd (opens_some k s _ Taken h q r (rw (not-false _ (rw q at h.ok.k3)) refl))
  free_none k s (i.Authenticate Autib rd rn) h q f r = absurd (true≢false (rw q at h.ok.k8))
  free_none k s (i.Authenticate Autda rd rn) h q f r = absurd (true≢false (rw q at h.ok.k6))
  free_none k s (i.Authenticate Autdb rd rn) h q f r = absurd (true≢false (rw q at h.ok.k6))
  free_none k s (i.Plain Autiza rd) h q f r = absurd (opens_some k s _ Taken h q r (rw (not-false _ (rw q at h.ok.k3)) refl))
  free_none k s (i.Plain Paciza rd) h q f r = absurd (true≢false (rw (q, r) at h.ok.k3_window))
  free_none k s (i.Plain Xpaci rd) h q f r = absurd (true≢false (rw q at h.ok.k6))
  free_none k s (i.Pacga rd rn rm) h q f r = absurd (true≢false (rw q at h.ok.k6))
  free_none k s (i.Sign Pacia rd rn) h q f r = absurd (true≢false (rw (q, r) at h.ok.k3_window))
  free_none k s (i.Sign Pacib rd rn) h q f r = absurd (true≢false (rw q at h.ok.k8))
  free_none k s (i.Sign Pacda rd rn) h q f r = absurd (true≢false (rw q at h.ok.k6))
  free_none k s (i.Sign Pacdb rd rn) h q f r = absurd (true≢false (rw q at h.ok.k6))
  free_none k s (i.BranchRegister Br rn) h q f r = absurd (true≢false (rw q at h.ok.k7))
  free_none k s (i.BranchRegister Ret rn) h q f r = absurd (true≢false (rw q at h.ok.k7))
  free_none k s (i.BranchRegister Blr rn) h q f r = absurd (true≢false (rw (and_right (eqb rn 16) false refl) at (rw (q, r) at h.ok.k7)))
  free_none k s (i.BranchAuthenticated Braa rn rm) h q f r = absurd (true≢false (rw q at h.ok.k7))
  free_none k s (i.BranchAuthenticated Blrab rn rm) h q f r = absurd (true≢false (rw q at h.ok.k7))
  free_none k s (i.BranchAuthenticated Blraa rn rm) h q f r = (rw (next_place k h.loc.there) (among.afters k _ h.loc.there (sym h.loc.instr ∙ q) refl), next_free k s h (not_last k s _ h q refl) (rw r refl))
  free_none k s (i.Blraaz rn) h q f r = (rw (next_place k h.loc.there) (among.afters k _ h.loc.there (sym h.loc.instr ∙ q) refl), next_free k s h (not_last k s _ h q refl) (rw r refl))
  free_none k s (i.Stack Retab) h q f r = tt
  free_none k s (i.Stack Pacibsp) h q f r = absurd (true≢false (rw (q, f) at h.ok.k8))
  free_none k s (i.Stack Autibsp) h q f r = absurd (true≢false (rw q at h.ok.k8))
  free_none k s (i.Exception Svc number) h q f r = inr (next_free k s h (not_last k s _ h q refl) (rw r refl))
  free_none k s (i.Exception Brk number) h q f r = tt
  free_none k s j h q f r = next_free k s h (not_last k s _ h q refl) (rw r refl)

  -- ---- words that open a window

  abbrev Round : Spot → Opening → ℕ → Type 0
  Round s c d = s.window ≡ Some (record { opening = c; behind = d })

  -- what opens at such a word
  opener : (k : ℕ) (s : Spot) (j : Instr) (c : Opening) → At k s → s.instr ≡ Some j → Round s c zero → opened_by t (place k) (Some j) (next_in (behind t k)) ≡ Some c
  opener k s j c h q r =
      let a : opened_at t k (word_at t k) (behind t k) ≡ Some c = subst (λ o. Came t k o) r h.loc.from in
      let b : (word_at t k).instr ≡ Some j = sym h.loc.instr ∙ q in
      go (ltb k t.start) refl (rw b at a)
    where
      go : (d : Bool) → ltb k t.start ≡ d → cond d None (opened_by t (place k) (Some j) (next_in (behind t k))) ≡ Some c → opened_by t (place k) (Some j) (next_in (behind t k)) ≡ Some c
      go true y z = absurd (grind (arith, z))
      go false y z = z

  taken_from : (b : Bool) (c : Opening) → cond b (Some Taken) None ≡ Some c → (b ≡ true) × (c ≡ Taken)
  taken_from true c h = (refl, grind (arith, h))
  taken_from false c h = absurd (grind (arith, h))

  made_from : (v : ℕ) (j : Option Instr) (c : Opening) → made_by t v j ≡ Some c → c ≡ Made v
  made_from v (Some (i.SumImmediate immediate.Add rd rn imm shifted)) c h = go (eqb rd 16 && (eqb rn 16 && is_entry t (add64 v (immediate_of imm shifted)))) h
    where
      go : (b : Bool) → cond b (Some (Made v)) None ≡ Some c → c ≡ Made v
      go true z = grind (arith, z)
      go false z = absurd (grind (arith, z))
  made_from v other c h = absurd (grind (arith, h))

  adrp_from : (b : Bool) (v : ℕ) (j : Option Instr) (c : Opening) → cond b (made_by t v j) None ≡ Some c → (b ≡ true) × (c ≡ Made v)
  adrp_from true v j c h = (refl, made_from v j c h)
  adrp_from false v j c h = absurd (grind (arith, h))

  opens_next : (k : ℕ) (s : Spot) (j : Instr) (c : Opening) → At k s → s.instr ≡ Some j → Round s c zero → may_be_last (Some j) ≡ false → cls (add64 (base + place k) 4) ≡ class_in base c 1
  opens_next k s j c h q r m = next_in_window k s h (not_last k s j h q m) (rw r refl) ∙ rw r refl

  free_open : (k : ℕ) (s : Spot) (j : Instr) (c : Opening) → At k s → s.instr ≡ Some j → Round s c zero → FitsFree w cls (base + place k) (add64 (base + place k) 4) j
  free_open k s (i.Authenticate Autia rd rn) c h q r = let z = taken_from _ c (opener k s _ c h q r) in (eqb-true _ _ (and_parts (eqb rd 16) _ z.0).0, opens_next k s _ c h q r refl ∙ rw z.1 refl)
  free_open k s (i.Plain Autiza rd) c h q r = let z = taken_from _ c (opener k s _ c h q r) in (eqb-true _ _ z.0, opens_next k s _ c h q r refl ∙ rw z.1 refl)
  free_open k s (i.Adrp rd pages) c h q r =
      let z = adrp_from (eqb rd 16) (page (place k) pages) (next_in (behind t k)) c (opener k s _ c h q r) in
      let e : add64 ((base + place k) - (base + place k) % 4096) (scaled64 4096 pages) ≡ add64 base (page (place k) pages) = page_moved base (place k) (scaled64 4096 pages) among.even in
      inr (eqb-true rd 16 z.0, opens_next k s _ c h q r refl ∙ rw z.1 (ap Adding (sym e)))
  free_open k s j c h q r = absurd (grind (arith, opener k s j c h q r))

  -- ---- a function's first word

  head_fits : (k : ℕ) (s : Spot) (j : Instr) → At k s → s.instr ≡ Some j → s.marked ≡ true → Fits w cls (base + place k) (add64 (base + place k) 4) Head j
  head_fits k s (i.Stack Pacibsp) h q f =
      let d = here_small k h.loc.there in
      let e : is_entry t (place k) ≡ true = rw (number_place k) (marked_there k h.loc.there (sym h.loc.marked ∙ f)) in
      (refl, subst (λ z. w.is_entry z ≡ true) (add64_small base (place k) (omega arith)) (among.entries _ e), next_free k s h (not_last k s _ h q refl) (go s.window refl (h.loc.apart f)))
    where
      marked_there : (k : ℕ) → k < length t.words → (word_at t k).marked ≡ true → marked_in (slice_get t.words k) ≡ true
      marked_there k l m = ap marked_in (slice_get-get_or t.words k (record { marked = false; instr = None }) l) ∙ m

      zero_or : (c : Opening) (d : ℕ) → Round s c d → not (is_zero d) ≡ false → goes_on (Some (record { opening = c; behind = d })) s.instr ≡ false
      zero_or c zero r z = absurd (grind (arith, opener k s _ c h q r))
      zero_or c (suc d) r z = absurd (true≢false z)

      go : (o : Option Window) → s.window ≡ o → is_inside o ≡ false → goes_on o s.instr ≡ false
      go None r z = refl
      go (Some a) r z = zero_or a.opening a.behind r z
  head_fits k s j h q f = absurd (true≢false (rw (q, f) at h.ok.k1))

  -- ---- the ADD of a window that is made

  adding_fits : (k : ℕ) (s : Spot) (j : Instr) (v : ℕ) → At k s → s.instr ≡ Some j → Round s (Made v) 1 → FitsAdding w cls (add64 base v) (add64 (base + place k) 4) j
  adding_fits k s j v h q r = go j q (subst (λ z. AddsTo t v z) (sym h.loc.instr ∙ q) (subst (λ o. Came t k o) r h.loc.from))
    where
      go : (j : Instr) → s.instr ≡ Some j → AddsTo t v (Some j) → FitsAdding w cls (add64 base v) (add64 (base + place k) 4) j
      go (i.SumImmediate immediate.Add rd rn imm shifted) q a =
          (a.0, a.1, subst (λ z. w.is_entry z ≡ true) (sym (add64_assoc base v (immediate_of imm shifted))) (among.entries _ a.2), next_in_window k s h (not_last k s _ h q refl) (rw r refl) ∙ rw r refl)
      go j q a = absurd a

  -- ---- inside a window, behind the words that open it

  record Inner (k : ℕ) (s : Spot) (j : Instr) (c : Opening) (d : ℕ) : Type 0 where
    word : At k s
    instr : s.instr ≡ Some j
    round : Round s c d
    far : leb (opening_words c) d ≡ true
    behind : is_zero d ≡ false

  few : (k : ℕ) (s : Spot) (j : Instr) (c : Opening) (d : ℕ) → Inner k s j c d → leb 8 d ≡ false
  few k s j c d h = go (leb 8 d) refl (rw (h.round, h.instr) at h.word.ok.k3_window)
    where
      go : (b : Bool) → leb 8 d ≡ b → (leb (opening_words c) d && (b || (not (closes (Some j)) && not (may_stand (Some j))))) ≡ false → leb 8 d ≡ false
      go true q z = absurd (true≢false (sym (and_from _ _ h.far refl) ∙ z))
      go false q z = q

  one_of : (k : ℕ) (s : Spot) (j : Instr) (c : Opening) (d : ℕ) → Inner k s j c d → (not (closes (Some j)) && not (may_stand (Some j))) ≡ false
  one_of k s j c d h = rw (h.far, few k s j c d h) at (rw (h.round, h.instr) at h.word.ok.k3_window)

  -- a word that closes the window
  closed : (k : ℕ) (s : Spot) (j : Instr) (c : Opening) (d : ℕ) → Inner k s j c d → closes (Some j) ≡ true → may_be_last (Some j) ≡ false → cls (add64 (base + place k) 4) ≡ Free
  closed k s j c d h a m = next_free k s h.word (not_last k s j h.word h.instr m) (rw (h.round, h.behind, h.instr, h.far, a) (go (leb 8 d)))
    where
      go : (b : Bool) → not (b || true) ≡ false
      go true = refl
      go false = refl

  record Stood (k : ℕ) (c : Opening) (d : ℕ) : Type 0 where
    most : d ≤ 6
    next : cls (add64 (base + place k) 4) ≡ class_in base c (suc d)

  -- a word that may stand inside; the next word's rule says that it isn't the eighth
  stood : (k : ℕ) (s : Spot) (j : Instr) (c : Opening) (d : ℕ) → Inner k s j c d → may_stand (Some j) ≡ true → closes (Some j) ≡ false → may_be_last (Some j) ≡ false → Stood k c d
  stood k s j c d h a b m =
      let l = not_last k s j h.word h.instr m in
      let g : goes_on s.window s.instr ≡ true = rw (h.round, h.behind, h.instr, h.far, a, b, few k s j c d h) refl in
      let n = next_word k s h.word l in
      let r : n.spot.window ≡ Some (record { opening = c; behind = suc d }) = n.more g ∙ rw h.round refl in
      let o = h.word.low in
      let v = clean t (suc k) n.spot (no_rule (suc k) n.spot (omega arith) n.get) in
      record { most = go (leb 8 (suc d)) refl n.spot.instr (rw r at v.k3_window); next = next_in_window k s h.word l g ∙ rw h.round refl }
    where
      go : (b : Bool) → leb 8 (suc d) ≡ b → (o : Option Instr) → (leb (opening_words c) (suc d) && (b || (not (closes o) && not (may_stand o)))) ≡ false → d ≤ 6
      go true q o z = let a = leb-true _ _ h.far in let u : leb (opening_words c) (suc d) ≡ true = le-leb _ _ (omega arith) in absurd (true≢false (sym (and_from _ _ u refl) ∙ z))
      go false q o z = let a = leb-false _ _ q in omega arith

  abbrev is_taken : Opening → Bool
  is_taken Taken = true
  is_taken (Made v) = false

  taken_kind : (c : Opening) (d n : ℕ) → not (eqb n 16 && (eqb (opening_words c) 1 && not (is_zero d))) ≡ false → is_taken c ≡ true
  taken_kind Taken d n h = refl
  taken_kind (Made v) d n h = absurd (true≢false (rw (and_right (eqb n 16) false refl) at h))

  write_free : (d : ℕ) → may_write d ≡ true → eqb 16 d ≡ false
  write_free d h = let a = eqb-false d 16 (not-true _ (and_parts _ _ h).0) in ne_eqb 16 d (λ e. a (sym e))

  closes_so : (b : Bool) → (not b && true) ≡ false → b ≡ true
  closes_so true h = refl
  closes_so false h = absurd (true≢false h)

  -- a computing row, whose first test is on the register that it writes
  computing : (k : ℕ) (s : Spot) (j : Instr) (c : Opening) (d rd : ℕ) → Inner k s j c d → class_in base c (suc d) ≡ Within (is_taken c) (suc d) → may_stand (Some j) ≡ true → may_write rd ≡ true → closes (Some j) ≡ false → may_be_last (Some j) ≡ false → computes j ≡ true → writes 16 j ≡ eqb 16 rd → (computes j ≡ true) × (writes 16 j ≡ false) × (d ≤ 6) × (cls (add64 (base + place k) 4) ≡ Within (is_taken c) (suc d))
  computing k s j c d rd h y a b e m g o = let n = stood k s j c d h a e m in (g, o ∙ write_free rd b, n.most, n.next ∙ y)

  within_fits : (k : ℕ) (s : Spot) (j : Instr) (c : Opening) (d : ℕ) → Inner k s j c d → class_in base c (suc d) ≡ Within (is_taken c) (suc d) → FitsWithin w cls (is_taken c) d (add64 (base + place k) 4) j
  within_fits k s (i.Sign Pacia rd rn) c d h y = let z = closes_so _ (one_of k s _ c d h) in (eqb-true _ _ (and_parts (eqb rd 16) _ z).0, closed k s _ c d h z refl)
  within_fits k s (i.Plain Paciza rd) c d h y = let z = closes_so _ (one_of k s _ c d h) in (eqb-true _ _ z, closed k s _ c d h z refl)
  within_fits k s (i.BranchRegister Blr rn) c d h y =
      let z = closes_so _ (one_of k s _ c d h) in
      let v = h.word in
      (eqb-true _ _ z, taken_kind c d rn (rw (h.round, h.instr) at v.ok.k7), rw (next_place k v.loc.there) (among.afters k _ v.loc.there (sym v.loc.instr ∙ h.instr) refl), closed k s _ c d h z refl)
  within_fits k s (i.MoveWide op rd imm hw) c d h y = let z = not-false _ (one_of k s _ c d h) in computing k s _ c d rd h y z z refl refl refl refl
  within_fits k s (i.SumImmediate op rd rn imm shifted) c d h y = let z = not-false _ (one_of k s _ c d h) in computing k s _ c d rd h y z (and_parts (may_write rd) _ z).0 refl refl refl refl
  within_fits k s (i.SubsImmediate rd rn imm shifted) c d h y = let z = not-false _ (one_of k s _ c d h) in computing k s _ c d rd h y z (and_parts (may_write rd) _ z).0 refl refl refl refl
  within_fits k s (i.Sum op rd rn rm) c d h y = let z = not-false _ (one_of k s _ c d h) in computing k s _ c d rd h y z (and_parts (may_write rd) _ z).0 refl refl refl refl
  within_fits k s (i.Logical op rd rn rm) c d h y = let z = not-false _ (one_of k s _ c d h) in computing k s _ c d rd h y z (and_parts (may_write rd) _ z).0 refl refl refl refl
  within_fits k s (i.MultiplyAdd op rd rn rm ra) c d h y = let z = not-false _ (one_of k s _ c d h) in computing k s _ c d rd h y z (and_parts (may_write rd) _ z).0 refl refl refl refl
  within_fits k s (i.Divide op rd rn rm) c d h y = let z = not-false _ (one_of k s _ c d h) in computing k s _ c d rd h y z (and_parts (may_write rd) _ z).0 refl refl refl refl
  within_fits k s (i.Shift op rd rn rm) c d h y = let z = not-false _ (one_of k s _ c d h) in computing k s _ c d rd h y z (and_parts (may_write rd) _ z).0 refl refl refl refl
  within_fits k s (i.Bitfield op rd rn immr imms) c d h y = let z = not-false _ (one_of k s _ c d h) in computing k s _ c d rd h y z (and_parts (may_write rd) _ z).0 refl refl refl refl
  within_fits k s (i.Csinc rd rn rm condition) c d h y = let z = not-false _ (one_of k s _ c d h) in computing k s _ c d rd h y z (and_parts (may_write rd) _ z).0 refl refl refl refl
  within_fits k s (i.Adrp rd pages) c d h y = let z = not-false _ (one_of k s _ c d h) in computing k s _ c d rd h y z z refl refl refl refl
  within_fits k s i.Nop c d h y = let z = not-false _ (one_of k s _ c d h) in let n = stood k s _ c d h z refl refl in (refl, refl, n.most, n.next ∙ y)
  within_fits k s j c d h y = absurd (true≢false (one_of k s _ c d h))

  -- ---- each word fits its class

  by_round : (k : ℕ) (s : Spot) (j : Instr) (c : Opening) (d : ℕ) → At k s → s.instr ≡ Some j → Round s c d → Fits w cls (base + place k) (add64 (base + place k) 4) (class_in base c d) j
  by_round k s j c zero h q r = free_open k s j c h q r
  by_round k s j (Made v) (suc zero) h q r = adding_fits k s j v h q r
  by_round k s j (Made v) (suc (suc d)) h q r = within_fits k s j (Made v) (suc (suc d)) (record { word = h; instr = q; round = r; far = le-leb _ _ (omega arith); behind = refl }) refl
  by_round k s j Taken (suc d) h q r = within_fits k s j Taken (suc d) (record { word = h; instr = q; round = r; far = le-leb _ _ (omega arith); behind = refl }) refl

  pub each_fits : (k : ℕ) (s : Spot) (j : Instr) → t.start ≤ k → k < length t.words → slice_get (all_spots t) k ≡ Some s → s.instr ≡ Some j → Fits w cls (base + place k) (add64 (base + place k) 4) (cond s.marked Head (class_round base s.window)) j
  each_fits k s j l m g q = go s.marked refl s.window refl
    where
      h : At k s
      h = at_word k s l m g

      go : (b : Bool) → s.marked ≡ b → (o : Option Window) → s.window ≡ o → Fits w cls (base + place k) (add64 (base + place k) 4) (cond b Head (class_round base o)) j
      go true f o r = head_fits k s j h q f
      go false f None r = free_none k s j h q f r
      go false f (Some a) r = by_round k s j a.opening a.behind h q r

  -- and has a row
  pub each_row : (k : ℕ) (s : Spot) → t.start ≤ k → k < length t.words → slice_get (all_spots t) k ≡ Some s → (j : Instr) × (s.instr ≡ Some j)
  each_row k s l m g = go s.instr refl ((at_word k s l m g).ok.k6)
    where
      go : (o : Option Instr) → s.instr ≡ o → is_forbidden o ≡ false → (j : Instr) × (s.instr ≡ Some j)
      go None q z = absurd (true≢false z)
      go (Some j) q z = (j, q)

-- behind a call nothing is known
pub after_fits : (w : CodeAt) (cls : ℕ → Class) (a q : ℕ) (c : Class) (j : Instr) → is_call j ≡ true → Fits w cls a q c j → cls q ≡ Free
after_fits w cls a q Free (i.Branch Bl words) e f = f.1
after_fits w cls a q Free (i.BranchAuthenticated Blraa rn rm) e f = f.1
after_fits w cls a q Free (i.BranchAuthenticated Blrab rn rm) e f = absurd f
after_fits w cls a q Free (i.Blraaz rn) e f = f.1
after_fits w cls a q Free (i.BranchRegister Blr rn) e f = absurd f
after_fits w cls a q (Within b d) (i.BranchRegister Blr rn) e f = f.3
after_fits w cls a q (Within b d) (i.Branch Bl words) e f = absurd (true≢false (sym f.0))
after_fits w cls a q (Within b d) (i.BranchAuthenticated Blraa rn rm) e f = absurd (true≢false (sym f.0))
after_fits w cls a q (Within b d) (i.BranchAuthenticated Blrab rn rm) e f = absurd (true≢false (sym f.0))
after_fits w cls a q (Within b d) (i.Blraaz rn) e f = absurd (true≢false (sym f.0))
after_fits w cls a q Head j e f = absurd (true≢false (sym e ∙ ap is_call f.0))
after_fits w cls a q (Adding v) (i.Branch Bl words) e f = absurd f
after_fits w cls a q (Adding v) (i.BranchRegister Blr rn) e f = absurd f
after_fits w cls a q (Adding v) (i.BranchAuthenticated Blraa rn rm) e f = absurd f
after_fits w cls a q (Adding v) (i.BranchAuthenticated Blrab rn rm) e f = absurd f
after_fits w cls a q (Adding v) (i.Blraaz rn) e f = absurd f
after_fits w cls a q (Stub d) (i.Branch Bl words) e f = absurd f.1
after_fits w cls a q (Stub d) (i.BranchRegister Blr rn) e f = absurd f.1
after_fits w cls a q (Stub d) (i.BranchAuthenticated Blraa rn rm) e f = absurd f.1
after_fits w cls a q (Stub d) (i.BranchAuthenticated Blrab rn rm) e f = absurd f.1
after_fits w cls a q (Stub d) (i.Blraaz rn) e f = absurd f.1
after_fits w cls a q Off j e f = absurd f
after_fits w cls a q c j e f = absurd (true≢false (sym e))
