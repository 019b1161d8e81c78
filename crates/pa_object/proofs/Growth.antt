-- What instructions and runs never take back: output and log only grow, regions keep their places, their lengths and their
-- rights, and a run counts its instructions.
use Rattle.std.proofs.Common.{◌≡◌, ℕ, zero, suc, ◌+◌, ◌-◌, ◌*◌, ◌<◌, ◌≤◌, ◌⊎◌, inl, inr, Bool, true, false, cond, List, [], ◌∷◌, ◌++◌, length, map, set, Option, Some, None, refl, sym, ap, subst, ◌∙◌, arith, append_assoc, append-nil, length-append, zero-add, suc-add, one-add}
use Rattle.std.specs.Prelude.{◌==◌, ◌&&◌, eqb, leb}
use Rattle.std.proofs.lemmas.Bool.{and_parts, leb-true, ne_eqb}
use Rattle.pa_pac.specs.Log.{Log}
use Rattle.pa_pac.specs.Signing.{Code}
use Rattle.pa_a64.specs.declared.instr.Instr.{Instr}
use Rattle.pa_a64.specs.declared.instr.Instr.TheVariants as i
use Rattle.pa_a64.specs.declared.instr.SumOp.TheVariants as sum
use Rattle.pa_a64.specs.declared.instr.LoadStoreOp.TheVariants.{Ldr, Str}
use Rattle.pa_a64.specs.declared.instr.LoadStoreWordOp.TheVariants.{Ldrw, Strw, Ldrsw}
use Rattle.pa_a64.specs.declared.instr.LoadStoreHalfOp.TheVariants.{Ldrh, Strh, Ldrsh}
use Rattle.pa_a64.specs.declared.instr.LoadStoreByteOp.TheVariants.{Ldrb, Strb, Ldrsb}
use Rattle.pa_a64.specs.declared.instr.LoadStoreUnscaledOp.TheVariants.{Ldur, Stur}
use Rattle.pa_a64.specs.declared.instr.LoadStorePairOp.TheVariants.{Ldp, Stp}
use Rattle.pa_a64.specs.declared.instr.BranchOp.TheVariants.{B, Bl}
use Rattle.pa_a64.specs.declared.instr.BranchRegisterOp.TheVariants.{Br, Blr, Ret}
use Rattle.pa_a64.specs.declared.instr.BranchAuthenticatedOp.TheVariants.{Braa, Blraa, Blrab}
use Rattle.pa_a64.specs.declared.instr.StackOp.TheVariants.{Retab, Pacibsp, Autibsp}
use Rattle.pa_a64.specs.declared.instr.PlainOp.TheVariants.{Paciza, Autiza, Xpaci}
use Rattle.pa_a64.specs.declared.instr.ExceptionOp.TheVariants.{Svc, Brk}
use Rattle.pa_mem.specs.Memory.{Region, Right, Read, Write, Run, has, allowed, store, bytes_at, with_bytes}
use Rattle.pa_mem.proofs.Bytes.{Outline, outline, outlines-with_bytes}
use Rattle.pa_mem.proofs.Ranges.{outlines-store}
use Rattle.pa_object.specs.declared.end.End.{End}
use Rattle.pa_object.specs.declared.end.End.TheVariants as end
use Rattle.pa_object.specs.declared.end.Trap.{Trap}
use Rattle.pa_object.specs.declared.end.Trap.TheVariants.{FetchAbort, BadWord}
use Rattle.pa_object.specs.declared.script.Deed.{Deed}
use Rattle.pa_object.specs.declared.script.Deed.TheVariants as deed
use Rattle.pa_object.specs.declared.script.Item.{Item}
use Rattle.pa_object.specs.Machine.{Machine, next}
use Rattle.pa_object.specs.Traps.{trap_of}
use Rattle.pa_object.specs.Effects.{effect, called, prints, reads, exits}
use Rattle.pa_object.specs.Script.{deed_fits, all_fit, ordered_from}
use Rattle.pa_object.specs.Run.{Script, ends, step, on_word, on_instr, unless_trap, unless_ended, done_to, applied, applied_all, advance, advance_by}
use Rattle.pa_a64.specs.Decoding.{decoded}
use Rattle.pa_mem.specs.Memory.{fetch}

-- an output with at most n bytes more
pub record OutputGrows (n : ℕ) (old new : List ℕ) : Type 0 where
  pub bytes : List ℕ
  pub grown : new ≡ old ++ bytes
  pub few : length bytes ≤ n

-- a log with at most n entries more, the newest first
pub record LogGrows (n : ℕ) (old new : Log) : Type 0 where
  pub entries : Log
  pub grown : new ≡ entries ++ old
  pub few : length entries ≤ n

-- what n instructions leave of what was there
pub record Leaves (n : ℕ) (old new : Machine) : Type 0 where
  pub output : OutputGrows n old.output new.output
  pub log : LogGrows (2 * n) old.log new.log
  pub memory : map outline new.memory ≡ map outline old.memory

-- ---- one instruction

-- the same output, and these entries
logs : (old new : Machine) (entries : Log) → length entries ≤ 2 → new.log ≡ entries ++ old.log → new.output ≡ old.output → map outline new.memory ≡ map outline old.memory → Leaves 1 old new
logs old new entries few l o m = record {
  output = record { bytes = []; grown = o ∙ sym (append-nil old.output); few = omega arith };
  log = record { entries = entries; grown = l; few = few };
  memory = m;
}

-- the same output and log
keeps : (old new : Machine) → new.log ≡ old.log → new.output ≡ old.output → map outline new.memory ≡ map outline old.memory → Leaves 1 old new
keeps old new l o m = logs old new [] (omega arith) l o m

outlines-two : (memory : List Region) (at value at2 value2 : ℕ) → map outline (store 8 (store 8 memory at value) at2 value2) ≡ map outline memory
outlines-two memory at value at2 value2 = outlines-store 8 (store 8 memory at value) at2 value2 ∙ outlines-store 8 memory at value

called_leaves : (number : ℕ) (m : Machine) → Leaves 1 m (called number m)
called_leaves number m = at (number == 1) (number == 2)
  where
    other : (b : Bool) → Leaves 1 m (cond b (next (reads m)) (exits m))
    other true = keeps m _ refl refl refl
    other false = keeps m _ refl refl refl

    at : (a b : Bool) → Leaves 1 m (cond a (next (prints m)) (cond b (next (reads m)) (exits m)))
    at true b = record {
      output = record { bytes = _; grown = refl; few = omega arith };
      log = record { entries = []; grown = refl; few = omega arith };
      memory = refl;
    }
    at false b = other b

pub effect_leaves : (code : Code) (instr : Instr) (m : Machine) → Leaves 1 m (effect code instr m)
unfolding effect
effect_leaves code (i.Sum sum.Add rd rn rm) m = keeps m _ refl refl refl
effect_leaves code (i.LoadStore Str rt rn imm) m = keeps m _ refl refl (outlines-store 8 _ _ _)
effect_leaves code (i.LoadStoreWord Strw rt rn imm) m = keeps m _ refl refl (outlines-store 4 _ _ _)
effect_leaves code (i.LoadStoreHalf Strh rt rn imm) m = keeps m _ refl refl (outlines-store 2 _ _ _)
effect_leaves code (i.LoadStoreByte Strb rt rn imm) m = keeps m _ refl refl (outlines-store 1 _ _ _)
effect_leaves code (i.LoadStoreUnscaled Stur rt rn imm) m = keeps m _ refl refl (outlines-store 8 _ _ _)
effect_leaves code (i.LoadStorePair Stp rt rt2 rn imm) m = keeps m _ refl refl (outlines-two _ _ _ _ _)
effect_leaves code (i.Branch B words) m = keeps m _ refl refl refl
effect_leaves code (i.BranchRegister Br rn) m = logs m _ (_ ∷ []) (omega arith) refl refl refl
effect_leaves code (i.BranchRegister Blr rn) m = logs m _ (_ ∷ []) (omega arith) refl refl refl
effect_leaves code (i.BranchRegister Ret rn) m = logs m _ (_ ∷ []) (omega arith) refl refl refl
effect_leaves code (i.BranchAuthenticated Braa rn rm) m = logs m _ (_ ∷ _ ∷ []) (omega arith) refl refl refl
effect_leaves code (i.BranchAuthenticated Blraa rn rm) m = logs m _ (_ ∷ _ ∷ []) (omega arith) refl refl refl
effect_leaves code (i.BranchAuthenticated Blrab rn rm) m = logs m _ (_ ∷ _ ∷ []) (omega arith) refl refl refl
effect_leaves code (i.Blraaz rn) m = logs m _ (_ ∷ _ ∷ []) (omega arith) refl refl refl
effect_leaves code (i.Stack Retab) m = logs m _ (_ ∷ _ ∷ []) (omega arith) refl refl refl
effect_leaves code (i.Stack Pacibsp) m = logs m _ (_ ∷ []) (omega arith) refl refl refl
effect_leaves code (i.Stack Autibsp) m = logs m _ (_ ∷ []) (omega arith) refl refl refl
effect_leaves code (i.Sign op rd rn) m = logs m _ (_ ∷ []) (omega arith) refl refl refl
effect_leaves code (i.Authenticate op rd rn) m = logs m _ (_ ∷ []) (omega arith) refl refl refl
effect_leaves code (i.Plain Paciza rd) m = logs m _ (_ ∷ []) (omega arith) refl refl refl
effect_leaves code (i.Plain Autiza rd) m = logs m _ (_ ∷ []) (omega arith) refl refl refl
effect_leaves code (i.Plain Xpaci rd) m = keeps m _ refl refl refl
effect_leaves code (i.Pacga rd rn rm) m = logs m _ (_ ∷ []) (omega arith) refl refl refl
effect_leaves code (i.Exception Svc number) m = called_leaves number m
effect_leaves code _ m = keeps m _ refl refl refl

called_counts : (number : ℕ) (m : Machine) → (called number m).count ≡ suc m.count
called_counts number m = at (number == 1) (number == 2)
  where
    other : (b : Bool) → (cond b (next (reads m)) (exits m)).count ≡ suc m.count
    other true = refl
    other false = refl

    at : (a b : Bool) → (cond a (next (prints m)) (cond b (next (reads m)) (exits m))).count ≡ suc m.count
    at true b = refl
    at false b = other b

pub effect_counts : (code : Code) (instr : Instr) (m : Machine) → trap_of code instr m ≡ None → (effect code instr m).count ≡ suc m.count
unfolding effect trap_of
effect_counts code (i.Sum sum.Add rd rn rm) m t = refl
effect_counts code (i.LoadStore Ldr rt rn imm) m t = refl
effect_counts code (i.LoadStoreWord Ldrw rt rn imm) m t = refl
effect_counts code (i.LoadStoreHalf Ldrh rt rn imm) m t = refl
effect_counts code (i.LoadStoreByte Ldrb rt rn imm) m t = refl
effect_counts code (i.LoadStoreUnscaled Ldur rt rn imm) m t = refl
effect_counts code (i.LoadStorePair Ldp rt rt2 rn imm) m t = refl
effect_counts code (i.Branch B words) m t = refl
effect_counts code (i.BranchRegister Br rn) m t = refl
effect_counts code (i.BranchAuthenticated Braa rn rm) m t = refl
effect_counts code (i.Stack Retab) m t = refl
effect_counts code (i.Plain Paciza rd) m t = refl
effect_counts code (i.Exception Svc number) m t = called_counts number m
effect_counts code (i.Exception Brk number) m t = cc
effect_counts code _ m t = refl

-- a step traps and changes nothing but the end, or it does its instruction, which is counted
pub data Stepped (old new : Machine) : Type 0 where
  traps : (trap : Trap) → new ≡ ends (end.Trap trap) old → Stepped old new
  goes : Leaves 1 old new → new.count ≡ suc old.count → Stepped old new

pub step_stepped : (code : Code) (m : Machine) → Stepped m (step code m)
unfolding step
step_stepped code m = at (fetch m.memory m.pc)
  where
    ran : (instr : Instr) (trap : Option Trap) → trap_of code instr m ≡ trap → Stepped m (unless_trap trap m (effect code instr m))
    ran instr None e = goes (effect_leaves code instr m) (effect_counts code instr m e)
    ran instr (Some trap) e = traps trap refl

    found : (instr : Option Instr) → Stepped m (on_instr code instr m)
    found None = traps BadWord refl
    found (Some instr) = ran instr (trap_of code instr m) refl

    at : (word : Option ℕ) → Stepped m (on_word code word m)
    at None = traps FetchAbort refl
    at (Some word) = found (decoded word)

-- ---- growth of growth

OutputGrows-same : (n : ℕ) (bytes : List ℕ) → OutputGrows n bytes bytes
OutputGrows-same n bytes = record { bytes = []; grown = sym (append-nil bytes); few = omega arith }

LogGrows-same : (n : ℕ) (log : Log) → LogGrows n log log
LogGrows-same n log = record { entries = []; grown = refl; few = omega arith }

Leaves-same : (n : ℕ) (m : Machine) → Leaves n m m
Leaves-same n m = record { output = OutputGrows-same n m.output; log = LogGrows-same (2 * n) m.log; memory = refl }

OutputGrows-then : (n k : ℕ) (a b c : List ℕ) → OutputGrows n a b → OutputGrows k b c → OutputGrows (n + k) a c
OutputGrows-then n k a b c g h =
    let one = g.few in
    let two = h.few in
    record {
      bytes = g.bytes ++ h.bytes;
      grown = h.grown ∙ ap (λ l. l ++ h.bytes) g.grown ∙ append_assoc a g.bytes h.bytes;
      few = omega (arith, length-append g.bytes h.bytes);
    }

LogGrows-then : (n k : ℕ) (a b c : Log) → LogGrows n a b → LogGrows k b c → LogGrows (n + k) a c
LogGrows-then n k a b c g h =
    let one = g.few in
    let two = h.few in
    record {
      entries = h.entries ++ g.entries;
      grown = h.grown ∙ ap (λ l. h.entries ++ l) g.grown ∙ sym (append_assoc h.entries g.entries a);
      few = omega (arith, length-append h.entries g.entries);
    }

LogGrows-more : (n k : ℕ) (a b : Log) → n ≤ k → LogGrows n a b → LogGrows k a b
LogGrows-more n k a b le g = let few = g.few in record { entries = g.entries; grown = g.grown; few = omega arith }

pub Leaves-then : (n k : ℕ) (a b c : Machine) → Leaves n a b → Leaves k b c → Leaves (n + k) a c
Leaves-then n k a b c g h = record {
  output = OutputGrows-then n k a.output b.output c.output g.output h.output;
  log = LogGrows-more (2 * n + 2 * k) (2 * (n + k)) a.log c.log (omega arith) (LogGrows-then (2 * n) (2 * k) a.log b.log c.log g.log h.log);
  memory = h.memory ∙ g.memory;
}

-- ---- the second writer

pub outlines-deed : (deed : Deed) (memory : List Region) → map outline (done_to deed memory) ≡ map outline memory
outlines-deed (deed.Write at bytes) memory = outlines-with_bytes memory at bytes
outlines-deed (deed.Copy to from count) memory = outlines-with_bytes memory to (bytes_at count memory from)

-- the second writer changes bytes of memory, and nothing else
pub record Wrote (old new : Machine) : Type 0 where
  pub rest : new ≡ record old { memory = new.memory }
  pub memory : map outline new.memory ≡ map outline old.memory

Wrote-then : (a b c : Machine) → Wrote a b → Wrote b c → Wrote a c
Wrote-then a b c g h = record { rest = h.rest ∙ ap (λ (x : Machine). record x { memory = c.memory }) g.rest; memory = h.memory ∙ g.memory }

pub applied_all_wrote : (script : Script) (number : ℕ) (m : Machine) → Wrote m (applied_all script number m)
unfolding applied_all
applied_all_wrote [] number m = record { rest = refl; memory = refl }
applied_all_wrote (item ∷ items) number m =
    let first = cond (item.step == number) (applied item m) m in
    Wrote-then m first (applied_all items number first) (one (item.step == number)) (applied_all_wrote items number first)
  where
    one : (b : Bool) → Wrote m (cond b (applied item m) m)
    one true = record { rest = refl; memory = outlines-deed item.deed m.memory }
    one false = record { rest = refl; memory = refl }

-- ---- a run

Stepped_leaves : (m n : Machine) → Stepped m n → Leaves 1 m n
Stepped_leaves m n (traps trap e) = subst (Leaves 1 m) (sym e) (keeps m (ends (end.Trap trap) m) refl refl refl)
Stepped_leaves m n (goes l c) = l

pub step_leaves : (code : Code) (m : Machine) → Leaves 1 m (step code m)
step_leaves code m = Stepped_leaves m (step code m) (step_stepped code m)

-- a step after the second writer
written_leaves : (m w n : Machine) → Wrote m w → Leaves 1 w n → Leaves 1 m n
written_leaves m w n wrote l = record {
  output = subst (λ x. OutputGrows 1 x n.output) (ap (λ (x : Machine). x.output) wrote.rest) l.output;
  log = subst (λ x. LogGrows 2 x n.log) (ap (λ (x : Machine). x.log) wrote.rest) l.log;
  memory = l.memory ∙ wrote.memory;
}

module _ (code : Code) (script : Script) where
  -- where a machine has no end, it advances by what comes before the instruction and by the instruction
  pub advance-goes : (m : Machine) → m.ended ≡ None → advance code script m ≡ step code (applied_all script m.count m)
  unfolding advance
  advance-goes m e = ap (λ o. unless_ended o m (step code (applied_all script m.count m))) e

  -- an ended machine stays
  pub advance-ended : (m : Machine) (e : End) → m.ended ≡ Some e → advance code script m ≡ m
  unfolding advance
  advance-ended m e h = ap (λ o. unless_ended o m (step code (applied_all script m.count m))) h

  pub advance_by-ended : (n : ℕ) (m : Machine) (e : End) → m.ended ≡ Some e → advance_by code script n m ≡ m
  unfolding advance_by
  advance_by-ended zero m e h = refl
  advance_by-ended (suc n) m e h = ap (advance_by code script n) (advance-ended m e h) ∙ advance_by-ended n m e h

  pub advance_by-add : (n k : ℕ) (m : Machine) → advance_by code script (n + k) m ≡ advance_by code script k (advance_by code script n m)
  unfolding advance_by
  advance_by-add zero k m = ap (λ j. advance_by code script j m) (zero-add k)
  advance_by-add (suc n) k m = ap (λ j. advance_by code script j m) (suc-add n k) ∙ advance_by-add n k (advance code script m)

  pub advance_leaves : (m : Machine) → Leaves 1 m (advance code script m)
  unfolding advance
  advance_leaves m = at m.ended
    where
      at : (o : Option End) → Leaves 1 m (unless_ended o m (step code (applied_all script m.count m)))
      at None = let w = applied_all script m.count m in written_leaves m w (step code w) (applied_all_wrote script m.count m) (step_leaves code w)
      at (Some e) = Leaves-same 1 m

  pub advance_by_leaves : (n : ℕ) (m : Machine) → Leaves n m (advance_by code script n m)
  unfolding advance_by
  advance_by_leaves zero m = Leaves-same 0 m
  advance_by_leaves (suc n) m =
      let more = Leaves-then 1 n m (advance code script m) (advance_by code script n (advance code script m)) (advance_leaves m) (advance_by_leaves n (advance code script m)) in
      subst (λ k. Leaves k m (advance_by code script n (advance code script m))) (one-add n) more

-- ---- what a run counts

-- the end is no trap
abbrev pub IsFine : Option End → Type 0
IsFine None = Unit {0}
IsFine (Some (end.Exit status)) = Unit {0}
IsFine (Some (end.Trap trap)) = ⊥
IsFine (Some end.Bound) = Unit {0}

-- one advance of a machine that goes on: a trap, which changes the end alone, or one instruction, which is counted
pub data Advanced (old new : Machine) : Type 0 where
  trapped : (trap : Trap) → new.ended ≡ Some (end.Trap trap) → new.count ≡ old.count → Advanced old new
  counted : new.count ≡ suc old.count → Advanced old new

module _ (code : Code) (script : Script) where
  pub advance_advanced : (m : Machine) → m.ended ≡ None → Advanced m (advance code script m)
  advance_advanced m e =
      let w = applied_all script m.count m in
      let same : w.count ≡ m.count = ap (λ (x : Machine). x.count) (applied_all_wrote script m.count m).rest in
      subst (Advanced m) (sym (advance-goes code script m e)) (by (step code w) (step_stepped code w) same)
    where
      by : (n : Machine) → Stepped (applied_all script m.count m) n → (applied_all script m.count m).count ≡ m.count → Advanced m n
      by n (traps trap q) same = trapped trap (ap (λ (x : Machine). x.ended) q) (ap (λ (x : Machine). x.count) q ∙ same)
      by n (goes l c) same = counted (c ∙ ap suc same)

  pub advance-count : (m : Machine) → m.ended ≡ None → IsFine (advance code script m).ended → (advance code script m).count ≡ suc m.count
  advance-count m e fine = by (advance_advanced m e)
    where
      by : Advanced m (advance code script m) → (advance code script m).count ≡ suc m.count
      by (trapped trap q c) = absurd (subst IsFine q fine)
      by (counted c) = c

  advance_count_le : (m : Machine) → (advance code script m).count ≤ suc m.count
  advance_count_le m = at m.ended refl
    where
      by : Advanced m (advance code script m) → (advance code script m).count ≤ suc m.count
      by (trapped trap q c) = omega arith
      by (counted c) = omega arith

      at : (o : Option End) → m.ended ≡ o → (advance code script m).count ≤ suc m.count
      at None e = by (advance_advanced m e)
      at (Some e) q = let c = ap (λ (x : Machine). x.count) (advance-ended code script m e q) in omega arith

  -- a run never counts more instructions than it was given
  pub advance_by_count_le : (n : ℕ) (m : Machine) → (advance_by code script n m).count ≤ m.count + n
  unfolding advance_by
  advance_by_count_le zero m = omega arith
  advance_by_count_le (suc n) m = let more = advance_by_count_le n (advance code script m) in let one = advance_count_le m in omega arith

  -- where an advance has no end, there was none before it
  pub advance-None : (m : Machine) → (advance code script m).ended ≡ None → m.ended ≡ None
  advance-None m q = at m.ended refl
    where
      at : (o : Option End) → m.ended ≡ o → m.ended ≡ None
      at None e = e
      at (Some e) h = absurd (let p = ap (λ (x : Machine). x.ended) (advance-ended code script m e h) in cc)

  pub advance_by-None : (n : ℕ) (m : Machine) → (advance_by code script n m).ended ≡ None → m.ended ≡ None
  unfolding advance_by
  advance_by-None zero m q = q
  advance_by-None (suc n) m q = advance-None m (advance_by-None n (advance code script m) q)

  -- a run without an end ran exactly as many instructions as it was given
  pub advance_by-count : (n : ℕ) (m : Machine) → (advance_by code script n m).ended ≡ None → (advance_by code script n m).count ≡ m.count + n
  unfolding advance_by
  advance_by-count zero m q = omega arith
  advance_by-count (suc n) m q =
      let after = advance_by-None n (advance code script m) q in
      let one = advance-count m (advance-None m after) (subst IsFine (sym after) tt) in
      let more = advance_by-count n (advance code script m) q in
      omega arith

  -- a run without a trap, by the number of instructions that it ran
  pub record Ran (n : ℕ) (m : Machine) : Type 0 where
    pub steps : ℕ
    pub most : steps ≤ n
    pub same : advance_by code script steps m ≡ advance_by code script n m
    pub counted : (advance_by code script n m).count ≡ m.count + steps

  pub advance_by_ran : (n : ℕ) (m : Machine) → IsFine (advance_by code script n m).ended → Ran n m
  unfolding advance_by
  advance_by_ran zero m fine = record { steps = 0; most = omega arith; same = refl; counted = omega arith }
  advance_by_ran (suc n) m fine = at (λ f. advance_by_ran n (advance code script m) f) m.ended refl
    where
      still : (o : Option End) → (advance code script m).ended ≡ o → IsFine (advance code script m).ended
      still None q = subst IsFine (sym q) tt
      still (Some e) q = subst (λ (x : Machine). IsFine x.ended) (advance_by-ended code script n (advance code script m) e q) fine

      at : (IsFine (advance_by code script n (advance code script m)).ended → Ran n (advance code script m)) → (o : Option End) → m.ended ≡ o → Ran (suc n) m
      at more (Some e) q =
          let stays = advance_by-ended code script (suc n) m e q in
          record { steps = 0; most = omega arith; same = sym stays; counted = ap (λ (x : Machine). x.count) stays ∙ omega arith }
      at more None q =
          let rest = more fine in
          let one = advance-count m q (still (advance code script m).ended refl) in
          let most = rest.most in
          let all = rest.counted in
          record { steps = suc rest.steps; most = omega arith; same = rest.same; counted = omega arith }

-- an ended run stays as it is at every greater number
pub advance_by-later : (code : Code) (script : Script) (n k : ℕ) (m : Machine) (e : End) → n ≤ k → (advance_by code script n m).ended ≡ Some e → advance_by code script k m ≡ advance_by code script n m
advance_by-later code script n k m e le q =
    let split : k ≡ n + (k - n) = omega arith in
    ap (λ j. advance_by code script j m) split ∙ advance_by-add code script n (k - n) m ∙ advance_by-ended code script (k - n) (advance_by code script n m) e q

-- ---- rights

has-outline : (right : Right) (one two : Region) → outline one ≡ outline two → has right one ≡ has right two
has-outline Read one two e = ap (λ (o : Outline). o.reads) e
has-outline Write one two e = ap (λ (o : Outline). o.writes) e
has-outline Run one two e = ap (λ (o : Outline). o.runs) e

-- where regions keep their places, lengths and rights, what is allowed stays
pub allowed-outlines : (right : Right) (one two : List Region) (at n : ℕ) → map outline one ≡ map outline two → allowed right one at n ≡ allowed right two at n
unfolding allowed
allowed-outlines right [] [] at n e = refl
allowed-outlines right [] (b ∷ two) at n e = cc
allowed-outlines right (a ∷ one) [] at n e = cc
allowed-outlines right (a ∷ one) (b ∷ two) at n e =
    let head : outline a ≡ outline b = cc in
    let tail : map outline one ≡ map outline two = cc in
    rw (has-outline right a b head, ap (λ (o : Outline). o.base) head, ap (λ (o : Outline). o.size) head, allowed-outlines right one two at n tail)

-- ---- items

deed_fits-outlines : (d : Deed) (one two : List Region) → map outline one ≡ map outline two → deed_fits d one ≡ deed_fits d two
deed_fits-outlines (deed.Write at bytes) one two e = allowed-outlines Write one two at (length bytes) e
deed_fits-outlines (deed.Copy to from count) one two e = rw (allowed-outlines Read one two from count e, allowed-outlines Write one two to count e)

pub all_fit-outlines : (items : List Item) (one two : List Region) → map outline one ≡ map outline two → all_fit items one ≡ all_fit items two
all_fit-outlines [] one two e = refl
all_fit-outlines (item ∷ items) one two e = rw (deed_fits-outlines item.deed one two e, all_fit-outlines items one two e)

-- items of greater numbers are not applied
pub applied_all-before : (items : List Item) (from number : ℕ) (m : Machine) → ordered_from from items ≡ true → number < from → applied_all items number m ≡ m
unfolding applied_all
applied_all-before [] from number m h lt = refl
applied_all-before (item ∷ items) from number m h lt =
    let parts = and_parts (leb from item.step) (ordered_from item.step items) h in
    let le : from ≤ item.step = leb-true from item.step parts.0 in
    let other : eqb item.step number ≡ false = ne_eqb item.step number (omega arith) in
    rw other (applied_all-before items item.step number m parts.1 (omega arith))
