-- Each kind of place.
use Rattle.std.proofs.Common.{◌≡◌, ℕ, ℤ, zero, suc, ◌+◌, ◌-◌, ◌%◌, ◌≤◌, ◌<◌, List, [], ◌∷◌, ◌++◌, length, get_or, refl, sym, ap, subst, ◌∙◌, arith, ◌⊎◌, inl, inr, Option, Some, None}
use Rattle.std.specs.Prelude.{Bool, true, false, cond, eqb, not, ◌&&◌, ◌||◌, ◌==◌, slice_set}
use Rattle.std.proofs.lemmas.Bool.{and_parts, and_from, true≢false, eqb-true}
use Rattle.pa_num.specs.Arithmetic.{add64, scaled64}
use Rattle.pa_pac.specs.declared.key.Key.TheVariants.{IA, IB}
use Rattle.pa_pac.specs.declared.event.Way.TheVariants as way
use Rattle.pa_pac.specs.declared.event.Event.TheVariants.{Sign, Take, Land}
use Rattle.pa_pac.specs.Log.{is_known}
use Rattle.pa_pac.specs.Signing.{sign}
use Rattle.pa_a64.specs.declared.instr.Instr.{Instr}
use Rattle.pa_a64.specs.declared.instr.Instr.TheVariants as i
use Rattle.pa_a64.specs.declared.instr.SumImmediateOp.TheVariants as immediate
use Rattle.pa_a64.specs.declared.instr.LoadStoreOp.TheVariants.{Ldr, Str}
use Rattle.pa_a64.specs.declared.instr.BranchOp.TheVariants.{B, Bl}
use Rattle.pa_a64.specs.declared.instr.BranchRegisterOp.TheVariants.{Br, Blr, Ret}
use Rattle.pa_a64.specs.declared.instr.BranchAuthenticatedOp.TheVariants.{Braa, Blraa, Blrab}
use Rattle.pa_a64.specs.declared.instr.StackOp.TheVariants.{Retab, Pacibsp, Autibsp}
use Rattle.pa_a64.specs.declared.instr.SignOp.TheVariants.{Pacia, Pacib, Pacda, Pacdb}
use Rattle.pa_a64.specs.declared.instr.AuthenticateOp.TheVariants.{Autia, Autib, Autda, Autdb}
use Rattle.pa_a64.specs.declared.instr.PlainOp.TheVariants.{Paciza, Autiza, Xpaci}
use Rattle.pa_a64.specs.declared.instr.ExceptionOp.TheVariants.{Svc, Brk}
use Rattle.pa_object.specs.Machine.{Machine, register, register_or_sp, after, next, condition_holds}
use Rattle.pa_object.specs.Traps.{trap_of, Asked, asked_by_branch, asked_by_blraaz, asked_of_link, asked_by_authenticate, asked_by_autiza}
use Rattle.pa_object.specs.Effects.{effect, raw_of, is_taken, immediate_of, called, prints, reads, exits}
use Rattle.pa_object.specs.Run.{Place}
use Rattle.pa_object.specs.Shape.{last_taken, all_known}
use Rattle.pa_object.specs.Rows.{writes_memory}
use Rattle.pa_kept.specs.Rows.{begins_raw, ends_raw}
use Rattle.pa_kept.specs.Kept.{raw_next, raw_since}
use Rattle.pa_kept.proofs.Attributes.{computes, is_straight, writes, straight_row}
use Rattle.pa_kept.proofs.Sound.{Class, Off, Head, Free, Within, Adding, Stub, Fits, FitsFree, FitsWithin, FitsStub, FitsAdding, Below, TakenIn, At}
use Rattle.pa_kept.proofs.Invariant.{Setup, Fate}
use Rattle.pa_kept.proofs.Steps.{set_gives, here, entry, Here, since_next, below_next, none_next, place_free, place_open, leads, straight, free_straight, adds, takes}

module _ (x : Setup) where
  open x use {w, cls, code, first, sound, stands_there}

  -- ---- a stub

  stub_straight : (instr : Instr) (k : ℕ) (m : Machine) (t : List Place) (word : ℕ) → Here x m t instr word → is_straight instr ≡ true → writes 30 instr ≡ false → writes_memory instr ≡ false → cls (after m) ≡ Stub (suc k) → k ≤ 3 → w.is_after (register 30 m) ≡ true → raw_since t ≡ Some k → Fate x (effect code instr m) (here m word ∷ t)
  stub_straight instr k m t word h g f e c l a s =
      let q = straight_row code instr m g in
      straight x instr m t word h g (place_open x instr m t word (suc k) h (rw s (omega arith)) e (λ z. omega arith))
      (subst (λ z. At w z (effect code instr m) (here m word ∷ t)) (sym c) (rw (q.keeps 30 f) a, since_next x instr m t word (Some k) h s ∙ rw (q.begins, q.ends) refl))

  pub stub : (instr : Instr) (k : ℕ) (m : Machine) (t : List Place) (word : ℕ) → Here x m t instr word → FitsStub w cls k (after m) instr → k ≤ 3 → w.is_after (register 30 m) ≡ true → raw_since t ≡ Some k → Fate x (effect code instr m) (here m word ∷ t)
  unfolding effect last_taken all_known
  stub (i.Adrp rd pages) k m t word h f l a s = stub_straight (i.Adrp rd pages) k m t word h refl f.0 refl f.1 l a s
  stub (i.SumImmediate op rd rn imm shifted) k m t word h f l a s = stub_straight (i.SumImmediate op rd rn imm shifted) k m t word h refl f.0 refl f.1 l a s
  stub (i.LoadStore Ldr rt rn imm) k m t word h f l a s = stub_straight (i.LoadStore Ldr rt rn imm) k m t word h refl f.0 refl f.1 l a s
  stub (i.BranchAuthenticated Braa rn rm) k m t word h f l a s =
      let r = raw_of code (asked_by_branch Braa rn rm m) in
      takes x (i.BranchAuthenticated Braa rn rm) m t word (entry m (Land way.Jump r) ∷ []) IA (register_or_sp rm m) r h (place_open x _ m t word (suc k) h (rw s (omega arith)) refl (λ z. omega arith)) refl
      (λ g b e signed known. (((refl, refl, g), (tt, signed)), and_from _ _ e known))
      (λ g e. subst (λ z. At w z (effect code (i.BranchAuthenticated Braa rn rm) m) (here m word ∷ t)) (sym (sound.heads r g)) (a, rw (since_next x (i.BranchAuthenticated Braa rn rm) m t word (Some k) h s) (omega arith)))
  stub _ k m t word h f l a s = absurd f

  -- ---- a window

  within_straight : (instr : Instr) (b : Bool) (k : ℕ) (m : Machine) (t : List Place) (word : ℕ) → Here x m t instr word → is_straight instr ≡ true → writes_memory instr ≡ false → writes 16 instr ≡ false → k ≤ 6 → cls (after m) ≡ Within b (suc k) → At w (Within b k) m t → Fate x (effect code instr m) (here m word ∷ t)
  within_straight instr b k m t word h g e f l c a =
      let q = straight_row code instr m g in
      let r = q.keeps 16 f in
      straight x instr m t word h g (place_open x instr m t word k h a.1 e (λ z. l))
      (subst (λ z. At w z (effect code instr m) (here m word ∷ t)) (sym c) (rw r a.0, rw (since_next x instr m t word (raw_since t) h refl) (below_next x instr (raw_since t) k q.begins q.ends a.1), omega arith, go b a.3))
    where
      go : (b : Bool) → TakenIn b m → TakenIn b (effect code instr m)
      go true e = let q = straight_row code instr m g in (e.0, rw (q.log, q.keeps 16 f) e.1)
      go false e = tt

  pub within : (instr : Instr) (b : Bool) (k : ℕ) (m : Machine) (t : List Place) (word : ℕ) → Here x m t instr word → FitsWithin w cls b k (after m) instr → At w (Within b k) m t → Fate x (effect code instr m) (here m word ∷ t)
  unfolding effect
  within (i.Sign Pacia rd rn) b k m t word h f a =
      adds x (i.Sign Pacia rd rn) m t word (Sign IA (register_or_sp rn m) (register rd m) (sign code IA (register_or_sp rn m) (register rd m))) h (place_open x _ m t word k h a.1 refl (λ z. absurd (true≢false z))) refl (rw f.0 a.0) refl
      (λ e. subst (λ z. At w z (effect code (i.Sign Pacia rd rn) m) (here m word ∷ t)) (sym f.1) (since_next x (i.Sign Pacia rd rn) m t word _ h refl))
  within (i.Plain Paciza rd) b k m t word h f a =
      adds x (i.Plain Paciza rd) m t word (Sign IA 0 (register rd m) (sign code IA 0 (register rd m))) h (place_open x _ m t word k h a.1 refl (λ z. absurd (true≢false z))) refl (rw f.0 a.0) refl
      (λ e. subst (λ z. At w z (effect code (i.Plain Paciza rd) m) (here m word ∷ t)) (sym f.1) (since_next x (i.Plain Paciza rd) m t word _ h refl))
  within (i.BranchRegister Blr rn) b k m t word h f a =
      let head_there : cls (register rn m) ≡ Head = rw f.0 (sound.heads (register 16 m) a.0) in
      let u : TakenIn true m = subst (λ z. TakenIn z m) f.1 a.3 in
      adds x (i.BranchRegister Blr rn) m t word (Land way.Call (register rn m)) h (place_open x _ m t word k h a.1 refl (λ z. absurd (true≢false z))) refl (rw (f.0, u.1) (refl, refl, a.0)) refl
      (λ z. subst (λ z. At w z (effect code (i.BranchRegister Blr rn) m) (here m word ∷ t)) (sym head_there)
      (rw (set_gives m.registers 30 (after m) h.base.still.long (omega arith)) f.2, rw (since_next x (i.BranchRegister Blr rn) m t word _ h refl) (omega arith)))
  within (i.MoveWide op rd imm hw) b k m t word h f a = within_straight (i.MoveWide op rd imm hw) b k m t word h refl refl f.1 f.2 f.3 a
  within (i.SumImmediate op rd rn imm shifted) b k m t word h f a = within_straight (i.SumImmediate op rd rn imm shifted) b k m t word h refl refl f.1 f.2 f.3 a
  within (i.SubsImmediate rd rn imm shifted) b k m t word h f a = within_straight (i.SubsImmediate rd rn imm shifted) b k m t word h refl refl f.1 f.2 f.3 a
  within (i.Sum op rd rn rm) b k m t word h f a = within_straight (i.Sum op rd rn rm) b k m t word h refl refl f.1 f.2 f.3 a
  within (i.Logical op rd rn rm) b k m t word h f a = within_straight (i.Logical op rd rn rm) b k m t word h refl refl f.1 f.2 f.3 a
  within (i.MultiplyAdd op rd rn rm ra) b k m t word h f a = within_straight (i.MultiplyAdd op rd rn rm ra) b k m t word h refl refl f.1 f.2 f.3 a
  within (i.Divide op rd rn rm) b k m t word h f a = within_straight (i.Divide op rd rn rm) b k m t word h refl refl f.1 f.2 f.3 a
  within (i.Shift op rd rn rm) b k m t word h f a = within_straight (i.Shift op rd rn rm) b k m t word h refl refl f.1 f.2 f.3 a
  within (i.Bitfield op rd rn immr imms) b k m t word h f a = within_straight (i.Bitfield op rd rn immr imms) b k m t word h refl refl f.1 f.2 f.3 a
  within (i.Csinc rd rn rm condition) b k m t word h f a = within_straight (i.Csinc rd rn rm condition) b k m t word h refl refl f.1 f.2 f.3 a
  within (i.Adrp rd pages) b k m t word h f a = within_straight (i.Adrp rd pages) b k m t word h refl refl f.1 f.2 f.3 a
  within i.Nop b k m t word h f a = within_straight i.Nop b k m t word h refl refl f.1 f.2 f.3 a
  within other b k m t word h f a = absurd (true≢false (sym f.0))

  pub adding : (instr : Instr) (v : ℕ) (m : Machine) (t : List Place) (word : ℕ) → Here x m t instr word → FitsAdding w cls v (after m) instr → At w (Adding v) m t → Fate x (effect code instr m) (here m word ∷ t)
  unfolding effect
  adding (i.SumImmediate immediate.Add rd rn imm shifted) v m t word h (e, f, g, c) a =
      let instr = i.SumImmediate immediate.Add rd rn imm shifted in
      let r : register 16 (effect code instr m) ≡ add64 v (immediate_of imm shifted) = rw (e, f, a.0) (set_gives m.registers 16 (add64 v (immediate_of imm shifted)) h.base.still.long (omega arith)) in
      straight x instr m t word h refl (place_free x instr m t word h a.1)
      (subst (λ z. At w z (effect code instr m) (here m word ∷ t)) (sym c) (rw r g, rw (none_next x instr m t word h a.1 refl refl) tt, omega arith, tt))
  adding _ v m t word h f a = absurd f

  -- ---- a function's first word

  pub head : (m : Machine) (t : List Place) (word : ℕ) → Here x m t (i.Stack Pacibsp) word → w.is_entry m.pc ≡ true → cls (after m) ≡ Free → At w Head m t → Fate x (effect code (i.Stack Pacibsp) m) (here m word ∷ t)
  unfolding effect
  head m t word h e c a =
      adds x (i.Stack Pacibsp) m t word (Sign IB m.sp (register 30 m) (sign code IB m.sp (register 30 m))) h (place_open x _ m t word 5 h a.1 refl (λ z. omega arith)) refl (a.0, (m.pc, inl (h.base.counted, refl), e)) refl
      (λ z. subst (λ z. At w z (effect code (i.Stack Pacibsp) m) (here m word ∷ t)) (sym c) (since_next x (i.Stack Pacibsp) m t word _ h refl))

  -- ---- where nothing is known

  -- an authentication into x16
  opens_autia : (rd rn : ℕ) (m : Machine) (t : List Place) (word : ℕ) → Here x m t (i.Authenticate Autia rd rn) word → rd ≡ 16 → cls (after m) ≡ Within true 1 → raw_since t ≡ None → Fate x (effect code (i.Authenticate Autia rd rn) m) (here m word ∷ t)
  unfolding effect last_taken all_known
  opens_autia rd rn m t word h e c s =
      let instr = i.Authenticate Autia rd rn in
      let y = register_or_sp rn m in
      let r = raw_of code (asked_by_authenticate Autia rd rn m) in
      let u : get_or (slice_set m.registers rd r) 16 0 ≡ r = rw e (set_gives m.registers 16 (raw_of code (asked_by_authenticate Autia 16 rn m)) h.base.still.long (omega arith)) in
      takes x instr m t word [] IA y r h (place_free x instr m t word h s) refl
      (λ g b e signed known. ((tt, signed), and_from _ _ e known))
      (λ g z. subst (λ z. At w z (effect code instr m) (here m word ∷ t)) (sym c)
      (rw u g, rw (since_next x instr m t word None h s) (omega arith), omega arith, (y, rw u refl)))

  opens_autiza : (rd : ℕ) (m : Machine) (t : List Place) (word : ℕ) → Here x m t (i.Plain Autiza rd) word → rd ≡ 16 → cls (after m) ≡ Within true 1 → raw_since t ≡ None → Fate x (effect code (i.Plain Autiza rd) m) (here m word ∷ t)
  unfolding effect last_taken all_known
  opens_autiza rd m t word h e c s =
      let instr = i.Plain Autiza rd in
      let r = raw_of code (asked_by_autiza rd m) in
      let u : get_or (slice_set m.registers rd r) 16 0 ≡ r = rw e (set_gives m.registers 16 (raw_of code (asked_by_autiza 16 m)) h.base.still.long (omega arith)) in
      takes x instr m t word [] IA 0 r h (place_free x instr m t word h s) refl
      (λ g b e signed known. ((tt, signed), and_from _ _ e known))
      (λ g z. subst (λ z. At w z (effect code instr m) (here m word ∷ t)) (sym c)
      (rw u g, rw (since_next x instr m t word None h s) (omega arith), omega arith, (0, rw u refl)))

  -- a call of what an authentication gave
  calls_raw : (instr : Instr) (m : Machine) (t : List Place) (word y r : ℕ) → Here x m t instr word → raw_since t ≡ None → writes_memory instr ≡ false → begins_raw instr ≡ true → ends_raw instr ≡ true → (effect code instr m).log ≡ entry m (Land way.Call r) ∷ entry m (Take IA y r (is_known m.log IA y r)) ∷ m.log → (effect code instr m).pc ≡ r → (effect code instr m).registers ≡ slice_set m.registers 30 (after m) → w.is_after (after m) ≡ true → Fate x (effect code instr m) (here m word ∷ t)
  unfolding last_taken all_known
  calls_raw instr m t word y r h s wm b e l p regs f =
      takes x instr m t word (entry m (Land way.Call r) ∷ []) IA y r h (place_free x instr m t word h s) l
      (λ g b e signed known. (((refl, refl, g), (tt, signed)), and_from _ _ e known))
      (λ g z. subst (λ z. At w (cls z) (effect code instr m) (here m word ∷ t)) (sym p) (subst (λ z. At w z (effect code instr m) (here m word ∷ t)) (sym (sound.heads r g)) (link, rw since (omega arith))))
    where
      link : w.is_after (register 30 (effect code instr m)) ≡ true
      link = subst (λ l. w.is_after (get_or l 30 0) ≡ true) (sym regs) (rw (set_gives m.registers 30 (after m) h.base.still.long (omega arith)) f)

      since : raw_since (here m word ∷ t) ≡ Some 0
      since = since_next x instr m t word None h s ∙ rw (e, b) refl

  branches : (instr : Instr) (m : Machine) (t : List Place) (word : ℕ) (b : Bool) (to : ℕ) → Here x m t instr word → begins_raw instr ≡ false → ends_raw instr ≡ false → (effect code instr m).log ≡ m.log → (effect code instr m).pc ≡ cond b to (after m) → raw_since t ≡ None → cls (after m) ≡ Free → cls to ≡ Free → Fate x (effect code instr m) (here m word ∷ t)
  branches instr m t word b to h bg en l p s c d =
      leads x instr m t word h (place_free x instr m t word h s) l (λ e. subst (λ z. At w (cls z) (effect code instr m) (here m word ∷ t)) (sym p) (at b))
    where
      none : raw_since (here m word ∷ t) ≡ None
      none = none_next x instr m t word h s bg en

      at : (b : Bool) → At w (cls (cond b to (after m))) (effect code instr m) (here m word ∷ t)
      at true = subst (λ z. At w z (effect code instr m) (here m word ∷ t)) (sym d) none
      at false = subst (λ z. At w z (effect code instr m) (here m word ∷ t)) (sym c) none

  calls_code : (words : ℤ) (m : Machine) (t : List Place) (word : ℕ) → Here x m t (i.Branch Bl words) word → FitsFree w cls m.pc (after m) (i.Branch Bl words) → raw_since t ≡ None → Fate x (effect code (i.Branch Bl words) m) (here m word ∷ t)
  unfolding effect
  calls_code words m t word h f s =
      let instr = i.Branch Bl words in
      let since : raw_since (here m word ∷ t) ≡ Some 0 = since_next x instr m t word None h s in
      let link : w.is_after (register 30 (effect code instr m)) ≡ true = rw (set_gives m.registers 30 (after m) h.base.still.long (omega arith)) f.0 in
      leads x instr m t word h (place_free x instr m t word h s) refl (λ e. go f.2 link since)
    where
      go : (cls (add64 m.pc (scaled64 4 words)) ≡ Head) ⊎ (cls (add64 m.pc (scaled64 4 words)) ≡ Stub 0) → w.is_after (register 30 (effect code (i.Branch Bl words) m)) ≡ true → raw_since (here m word ∷ t) ≡ Some 0 → At w (cls (effect code (i.Branch Bl words) m).pc) (effect code (i.Branch Bl words) m) (here m word ∷ t)
      go (inl c) link since = subst (λ z. At w z (effect code (i.Branch Bl words) m) (here m word ∷ t)) (sym c) (link, rw since (omega arith))
      go (inr c) link since = subst (λ z. At w z (effect code (i.Branch Bl words) m) (here m word ∷ t)) (sym c) (link, since)

  returns : (m : Machine) (t : List Place) (word : ℕ) → Here x m t (i.Stack Retab) word → raw_since t ≡ None → Fate x (effect code (i.Stack Retab) m) (here m word ∷ t)
  unfolding effect last_taken all_known
  returns m t word h s =
      let r = raw_of code (asked_of_link m) in
      takes x (i.Stack Retab) m t word (entry m (Land way.Return r) ∷ []) IB m.sp r h (place_free x _ m t word h s) refl
      (λ g b e signed known. (((refl, refl, g), (tt, signed)), and_from _ _ e known))
      (λ g z. subst (λ z. At w z (effect code (i.Stack Retab) m) (here m word ∷ t)) (sym (sound.backs r g)) (none_next x (i.Stack Retab) m t word h s refl refl))

  -- a system call that goes on
  serves : (number : ℕ) (m : Machine) (t : List Place) (word : ℕ) → Here x m t (i.Exception Svc number) word → cls (after m) ≡ Free → raw_since t ≡ None → Fate x (effect code (i.Exception Svc number) m) (here m word ∷ t)
  unfolding effect
  serves number m t word h c s =
      leads x (i.Exception Svc number) m t word h (place_free x _ m t word h s) (log (number == 1) (number == 2)) (at (number == 1) (number == 2))
    where
      none : raw_since (here m word ∷ t) ≡ None
      none = none_next x (i.Exception Svc number) m t word h s refl refl

      log : (a b : Bool) → (cond a (next (prints m)) (cond b (next (reads m)) (exits m))).log ≡ m.log
      log true b = refl
      log false true = refl
      log false false = refl

      at : (a b : Bool) → (cond a (next (prints m)) (cond b (next (reads m)) (exits m))).ended ≡ None → At w (cls (cond a (next (prints m)) (cond b (next (reads m)) (exits m))).pc) (cond a (next (prints m)) (cond b (next (reads m)) (exits m))) (here m word ∷ t)
      at true b e = subst (λ z. At w z (next (prints m)) (here m word ∷ t)) (sym c) none
      at false true e = subst (λ z. At w z (next (reads m)) (here m word ∷ t)) (sym c) none
      at false false e = absurd (grind (arith, e))

  -- the one that ends the program
  ends : (m : Machine) (t : List Place) (word : ℕ) → Here x m t (i.Exception Svc 3) word → raw_since t ≡ None → Fate x (effect code (i.Exception Svc 3) m) (here m word ∷ t)
  unfolding effect
  ends m t word h s = leads x (i.Exception Svc 3) m t word h (place_free x _ m t word h s) refl (λ e. absurd (grind (arith, e)))

  breaks : (number : ℕ) (m : Machine) → trap_of code (i.Exception Brk number) m ≡ None → ⊥
  unfolding trap_of
  breaks number m e = grind (arith, e)

  pub free : (instr : Instr) (m : Machine) (t : List Place) (word : ℕ) → Here x m t instr word → FitsFree w cls m.pc (after m) instr → raw_since t ≡ None → Fate x (effect code instr m) (here m word ∷ t)
  unfolding effect
  free (i.Adrp rd pages) m t word h (inl c) s = free_straight x (i.Adrp rd pages) m t word h refl s c
  free (i.Adrp rd pages) m t word h (inr (e, c)) s =
      straight x (i.Adrp rd pages) m t word h refl (place_free x _ m t word h s)
      (subst (λ z. At w z (effect code (i.Adrp rd pages) m) (here m word ∷ t)) (sym c) (rw e (set_gives m.registers 16 (add64 (m.pc - m.pc % 4096) (scaled64 4096 pages)) h.base.still.long (omega arith)), none_next x (i.Adrp rd pages) m t word h s refl refl))
  free (i.Branch B words) m t word h c s =
      leads x (i.Branch B words) m t word h (place_free x _ m t word h s) refl
      (λ e. subst (λ z. At w z (effect code (i.Branch B words) m) (here m word ∷ t)) (sym c) (none_next x (i.Branch B words) m t word h s refl refl))
  free (i.Branch Bl words) m t word h f s = calls_code words m t word h f s
  free (i.BranchConditional condition words) m t word h (c, d) s = branches (i.BranchConditional condition words) m t word (condition_holds condition m.flags) _ h refl refl refl refl s c d
  free (i.CompareBranch op rt words) m t word h (c, d) s = branches (i.CompareBranch op rt words) m t word (is_taken op (register rt m)) _ h refl refl refl refl s c d
  free (i.BranchRegister op rn) m t word h f s = absurd f
  free (i.BranchAuthenticated Braa rn rm) m t word h f s = absurd f
  free (i.BranchAuthenticated Blrab rn rm) m t word h f s = absurd f
  free (i.BranchAuthenticated Blraa rn rm) m t word h f s = calls_raw (i.BranchAuthenticated Blraa rn rm) m t word (register_or_sp rm m) (raw_of code (asked_by_branch Blraa rn rm m)) h s refl refl refl refl refl refl f.0
  free (i.Blraaz rn) m t word h f s = calls_raw (i.Blraaz rn) m t word 0 (raw_of code (asked_by_blraaz rn m)) h s refl refl refl refl refl refl f.0
  free (i.Stack Retab) m t word h f s = returns m t word h s
  free (i.Stack Pacibsp) m t word h f s = absurd f
  free (i.Stack Autibsp) m t word h f s = absurd f
  free (i.Sign op rd rn) m t word h f s = absurd f
  free (i.Authenticate Autia rd rn) m t word h f s = opens_autia rd rn m t word h f.0 f.1 s
  free (i.Authenticate Autib rd rn) m t word h f s = absurd f
  free (i.Authenticate Autda rd rn) m t word h f s = absurd f
  free (i.Authenticate Autdb rd rn) m t word h f s = absurd f
  free (i.Plain Autiza rd) m t word h f s = opens_autiza rd m t word h f.0 f.1 s
  free (i.Plain Paciza rd) m t word h f s = absurd f
  free (i.Plain Xpaci rd) m t word h f s = absurd f
  free (i.Pacga rd rn rm) m t word h f s = absurd f
  free (i.Exception Svc number) m t word h (inl e) s = subst (λ z. Here x m t (i.Exception Svc z) word → Fate x (effect code (i.Exception Svc z) m) (here m word ∷ t)) (sym (eqb-true number 3 e)) (λ h. ends m t word h s) h
  free (i.Exception Svc number) m t word h (inr c) s = serves number m t word h c s
  free (i.Exception Brk number) m t word h f s = absurd (breaks number m h.runs)
  free (i.MoveWide op rd imm hw) m t word h c s = free_straight x (i.MoveWide op rd imm hw) m t word h refl s c
  free (i.SumImmediate op rd rn imm shifted) m t word h c s = free_straight x (i.SumImmediate op rd rn imm shifted) m t word h refl s c
  free (i.SubsImmediate rd rn imm shifted) m t word h c s = free_straight x (i.SubsImmediate rd rn imm shifted) m t word h refl s c
  free (i.Sum op rd rn rm) m t word h c s = free_straight x (i.Sum op rd rn rm) m t word h refl s c
  free (i.Logical op rd rn rm) m t word h c s = free_straight x (i.Logical op rd rn rm) m t word h refl s c
  free (i.MultiplyAdd op rd rn rm ra) m t word h c s = free_straight x (i.MultiplyAdd op rd rn rm ra) m t word h refl s c
  free (i.Divide op rd rn rm) m t word h c s = free_straight x (i.Divide op rd rn rm) m t word h refl s c
  free (i.Shift op rd rn rm) m t word h c s = free_straight x (i.Shift op rd rn rm) m t word h refl s c
  free (i.Bitfield op rd rn immr imms) m t word h c s = free_straight x (i.Bitfield op rd rn immr imms) m t word h refl s c
  free (i.Csinc rd rn rm condition) m t word h c s = free_straight x (i.Csinc rd rn rm condition) m t word h refl s c
  free i.Nop m t word h c s = free_straight x i.Nop m t word h refl s c
  free (i.LoadStore op rt rn imm) m t word h c s = free_straight x (i.LoadStore op rt rn imm) m t word h refl s c
  free (i.LoadStoreWord op rt rn imm) m t word h c s = free_straight x (i.LoadStoreWord op rt rn imm) m t word h refl s c
  free (i.LoadStoreHalf op rt rn imm) m t word h c s = free_straight x (i.LoadStoreHalf op rt rn imm) m t word h refl s c
  free (i.LoadStoreByte op rt rn imm) m t word h c s = free_straight x (i.LoadStoreByte op rt rn imm) m t word h refl s c
  free (i.LoadStoreUnscaled op rt rn imm) m t word h c s = free_straight x (i.LoadStoreUnscaled op rt rn imm) m t word h refl s c
  free (i.LoadStorePair op rt rt2 rn imm) m t word h c s = free_straight x (i.LoadStorePair op rt rt2 rn imm) m t word h refl s c
