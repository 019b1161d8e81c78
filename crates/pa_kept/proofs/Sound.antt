-- What the words of code lead to, and what holds at each of them.
use Rattle.std.proofs.Common.{◌≡◌, ℕ, zero, suc, ◌-◌, ◌%◌, ◌≤◌, List, ◌⊎◌, Option, Some, None}
use Rattle.std.specs.Prelude.{Bool, true, false, eqb, ◌==◌, if◌then◌else◌}
use Rattle.pa_num.specs.Arithmetic.{add64, scaled64}
use Rattle.pa_pac.specs.declared.key.Key.TheVariants.{IA}
use Rattle.pa_a64.specs.declared.instr.Instr.{Instr}
use Rattle.pa_a64.specs.declared.instr.Instr.TheVariants as i
use Rattle.pa_a64.specs.declared.instr.SumImmediateOp.TheVariants as immediate
use Rattle.pa_a64.specs.declared.instr.LoadStoreOp.TheVariants.{Ldr}
use Rattle.pa_a64.specs.declared.instr.BranchOp.TheVariants.{B, Bl}
use Rattle.pa_a64.specs.declared.instr.BranchRegisterOp.TheVariants.{Br, Blr, Ret}
use Rattle.pa_a64.specs.declared.instr.BranchAuthenticatedOp.TheVariants.{Braa, Blraa, Blrab}
use Rattle.pa_a64.specs.declared.instr.StackOp.TheVariants.{Retab, Pacibsp, Autibsp}
use Rattle.pa_a64.specs.declared.instr.SignOp.TheVariants.{Pacia, Pacib, Pacda, Pacdb}
use Rattle.pa_a64.specs.declared.instr.AuthenticateOp.TheVariants.{Autia, Autib, Autda, Autdb}
use Rattle.pa_a64.specs.declared.instr.PlainOp.TheVariants.{Paciza, Autiza, Xpaci}
use Rattle.pa_a64.specs.declared.instr.ExceptionOp.TheVariants.{Svc, Brk}
use Rattle.pa_a64.specs.Decoding.{decoded}
use Rattle.pa_object.specs.Machine.{Machine, register}
use Rattle.pa_object.specs.Effects.{immediate_of}
use Rattle.pa_object.specs.Run.{Place}
use Rattle.pa_object.specs.Shape.{Taken, last_taken}
use Rattle.pa_kept.specs.Kept.{CodeAt, raw_since}
use Rattle.pa_kept.proofs.Attributes.{computes, is_straight, writes}

-- a place: outside code; a function's first word; where nothing is known; so many words behind a window's first, and whether
-- an authentication opened it; the ADD behind an ADRP of x16 that gave this page; so many words into a stub
pub data Class : Type 0 where
  Off : Class
  Head : Class
  Free : Class
  Within : (taken : Bool) (d : ℕ) → Class
  Adding : (v : ℕ) → Class
  Stub : (k : ℕ) → Class

module _ (w : CodeAt) (cls : ℕ → Class) where
  abbrev pub FitsStub : ℕ → ℕ → Instr → Type 0
  FitsStub k q (i.Adrp rd pages) = (eqb 30 rd ≡ false) × (cls q ≡ Stub (suc k))
  FitsStub k q (i.SumImmediate op rd rn imm shifted) = (eqb 30 rd ≡ false) × (cls q ≡ Stub (suc k))
  FitsStub k q (i.LoadStore Ldr rt rn imm) = (eqb 30 rt ≡ false) × (cls q ≡ Stub (suc k))
  FitsStub k q (i.BranchAuthenticated Braa rn rm) = Unit {0}
  FitsStub k q other = ⊥

  -- inside a window, where `b` says that an authentication opened it
  abbrev pub FitsWithin : Bool → ℕ → ℕ → Instr → Type 0
  FitsWithin b d q (i.Sign Pacia rd rn) = (rd ≡ 16) × (cls q ≡ Free)
  FitsWithin b d q (i.Plain Paciza rd) = (rd ≡ 16) × (cls q ≡ Free)
  FitsWithin b d q (i.BranchRegister Blr rn) = (rn ≡ 16) × (b ≡ true) × (w.is_after q ≡ true) × (cls q ≡ Free)
  FitsWithin b d q other = (computes other ≡ true) × (writes 16 other ≡ false) × (d ≤ 6) × (cls q ≡ Within b (suc d))

  abbrev pub FitsFree : ℕ → ℕ → Instr → Type 0
  FitsFree a q (i.Adrp rd pages) =
      (cls q ≡ Free) ⊎ ((rd ≡ 16) × (cls q ≡ Adding (add64 (a - a % 4096) (scaled64 4096 pages))))
  FitsFree a q (i.Branch B words) = cls (add64 a (scaled64 4 words)) ≡ Free
  FitsFree a q (i.Branch Bl words) =
      (w.is_after q ≡ true) × (cls q ≡ Free)
      × ((cls (add64 a (scaled64 4 words)) ≡ Head) ⊎ (cls (add64 a (scaled64 4 words)) ≡ Stub 0))
  FitsFree a q (i.BranchConditional condition words) = (cls q ≡ Free) × (cls (add64 a (scaled64 4 words)) ≡ Free)
  FitsFree a q (i.CompareBranch op rt words) = (cls q ≡ Free) × (cls (add64 a (scaled64 4 words)) ≡ Free)
  FitsFree a q (i.BranchRegister op rn) = ⊥
  FitsFree a q (i.BranchAuthenticated Braa rn rm) = ⊥
  FitsFree a q (i.BranchAuthenticated Blrab rn rm) = ⊥
  FitsFree a q (i.BranchAuthenticated Blraa rn rm) = (w.is_after q ≡ true) × (cls q ≡ Free)
  FitsFree a q (i.Blraaz rn) = (w.is_after q ≡ true) × (cls q ≡ Free)
  FitsFree a q (i.Stack Retab) = Unit {0}
  FitsFree a q (i.Stack Pacibsp) = ⊥
  FitsFree a q (i.Stack Autibsp) = ⊥
  FitsFree a q (i.Sign op rd rn) = ⊥
  FitsFree a q (i.Authenticate Autia rd rn) = (rd ≡ 16) × (cls q ≡ Within true 1)
  FitsFree a q (i.Authenticate Autib rd rn) = ⊥
  FitsFree a q (i.Authenticate Autda rd rn) = ⊥
  FitsFree a q (i.Authenticate Autdb rd rn) = ⊥
  FitsFree a q (i.Plain Autiza rd) = (rd ≡ 16) × (cls q ≡ Within true 1)
  FitsFree a q (i.Plain Paciza rd) = ⊥
  FitsFree a q (i.Plain Xpaci rd) = ⊥
  FitsFree a q (i.Pacga rd rn rm) = ⊥
  FitsFree a q (i.Exception Svc number) = ((number == 3) ≡ true) ⊎ (cls q ≡ Free)
  FitsFree a q (i.Exception Brk number) = Unit {0}
  FitsFree a q other = cls q ≡ Free

  abbrev pub FitsAdding : ℕ → ℕ → Instr → Type 0
  FitsAdding v q (i.SumImmediate immediate.Add rd rn imm shifted) =
      (rd ≡ 16) × (rn ≡ 16) × (w.is_entry (add64 v (immediate_of imm shifted)) ≡ true) × (cls q ≡ Within false 2)
  FitsAdding v q other = ⊥

  -- an instruction at a place of this class, where q is the next place
  abbrev pub Fits : ℕ → ℕ → Class → Instr → Type 0
  Fits a q Off instr = ⊥
  Fits a q Head instr = (instr ≡ i.Stack Pacibsp) × (w.is_entry a ≡ true) × (cls q ≡ Free)
  Fits a q Free instr = FitsFree a q instr
  Fits a q (Within b d) instr = FitsWithin b d q instr
  Fits a q (Adding v) instr = FitsAdding v q instr
  Fits a q (Stub k) instr = (k ≤ 3) × FitsStub k q instr

  -- the word at a place, which fits its class
  pub record Stands (a : ℕ) (c : Class) : Type 0 where
    pub word : ℕ
    pub instr : Instr
    pub there : w.word a ≡ Some word
    pub decodes : decoded word ≡ Some instr
    pub fits : Fits a (add64 a 4) c instr

  abbrev pub Has : ℕ → Class → Type 0
  Has a Off = Unit {0}
  Has a c = Stands a c

  pub record Sound : Type 0 where
    pub has : (a : ℕ) → Has a (cls a)
    pub heads : (a : ℕ) → w.is_entry a ≡ true → cls a ≡ Head
    pub backs : (a : ℕ) → w.is_after a ≡ true → cls a ≡ Free

-- the oldest instruction that left a raw code pointer is at most so far back
abbrev pub Below : Option ℕ → ℕ → Type 0
Below None d = Unit {0}
Below (Some n) d = suc n ≤ d

-- the last authentication, under IA, gave what x16 holds
abbrev pub TakenIn : Bool → Machine → Type 0
TakenIn true m = (y : ℕ) × (last_taken m.log ≡ Some (record { key = IA; modifier = y; raw = register 16 m }))
TakenIn false m = Unit {0}

-- what holds at a place of this class
abbrev pub At : CodeAt → Class → Machine → List Place → Type 0
At w Off m t = ⊥
At w Head m t = (w.is_after (register 30 m) ≡ true) × Below (raw_since t) 5
At w Free m t = raw_since t ≡ None
At w (Within b d) m t = (w.is_entry (register 16 m) ≡ true) × Below (raw_since t) d × (d ≤ 7) × TakenIn b m
At w (Adding v) m t = (register 16 m ≡ v) × (raw_since t ≡ None)
At w (Stub k) m t = (w.is_after (register 30 m) ≡ true) × (raw_since t ≡ Some k)
