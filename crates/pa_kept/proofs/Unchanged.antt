-- What no instruction and no script changes: what is fetched, where regions lie and their rights, and how many registers
-- there are.
use Rattle.std.proofs.Common.{◌≡◌, ℕ, ◌*◌, List, [], ◌∷◌, length, map, refl, sym, ap, ◌∙◌, arith, Option, Some, None}
use Rattle.std.specs.Prelude.{Bool, true, false, cond, eqb, ◌==◌, ◌&&◌, slice_set}
use Rattle.std.proofs.Common.{length-set}
use Rattle.std.proofs.lemmas.Bool.{and_parts, true≢false}
use Rattle.pa_num.specs.Arithmetic.{add64}
use Rattle.pa_pac.specs.Signing.{Code}
use Rattle.pa_a64.specs.declared.instr.Instr.{Instr}
use Rattle.pa_a64.specs.declared.instr.Instr.TheVariants as i
use Rattle.pa_a64.specs.declared.instr.SumOp.TheVariants as sum
use Rattle.pa_a64.specs.declared.instr.LoadStoreOp.TheVariants.{Ldr, Str}
use Rattle.pa_a64.specs.declared.instr.LoadStoreWordOp.TheVariants.{Ldrw, Strw, Ldrsw}
use Rattle.pa_a64.specs.declared.instr.LoadStoreHalfOp.TheVariants.{Ldrh, Strh, Ldrsh}
use Rattle.pa_a64.specs.declared.instr.LoadStoreByteOp.TheVariants.{Ldrb, Strb, Ldrsb}
use Rattle.pa_a64.specs.declared.instr.LoadStoreUnscaledOp.TheVariants.{Ldur, Stur}
use Rattle.pa_a64.specs.declared.instr.LoadStorePairOp.TheVariants.{Ldp, Stp}
use Rattle.pa_a64.specs.declared.instr.BranchOp.TheVariants.{B, Bl}
use Rattle.pa_a64.specs.declared.instr.BranchRegisterOp.TheVariants.{Br, Blr, Ret}
use Rattle.pa_a64.specs.declared.instr.BranchAuthenticatedOp.TheVariants.{Braa, Blraa, Blrab}
use Rattle.pa_a64.specs.declared.instr.StackOp.TheVariants.{Retab, Pacibsp, Autibsp}
use Rattle.pa_a64.specs.declared.instr.PlainOp.TheVariants.{Paciza, Autiza, Xpaci}
use Rattle.pa_a64.specs.declared.instr.ExceptionOp.TheVariants.{Svc, Brk}
use Rattle.pa_mem.specs.Memory.{Region, Write, allowed, store, fetch, with_bytes, bytes_at, all_apart, write_xor_run}
use Rattle.pa_mem.proofs.Bytes.{outline, outlines-with_bytes, all_apart-with_bytes, write_xor_run-with_bytes}
use Rattle.pa_mem.proofs.Ranges.{allowed-store, outlines-store, all_apart-store, write_xor_run-store}
use Rattle.pa_mem.proofs.Runs.{fetch-store, fetch-with_bytes}
use Rattle.pa_object.specs.Machine.{Machine, next}
use Rattle.pa_object.specs.Traps.{trap_of, abort_unless, pair_allowed}
use Rattle.pa_object.specs.Effects.{effect, called, prints, reads, exits}
use Rattle.pa_object.proofs.Growth.{effect_counts}

-- a memory with the regions and the code of the first one
pub record Same (first memory : List Region) : Type 0 where
  pub outlines : map outline memory ≡ map outline first
  pub words : (at : ℕ) → fetch memory at ≡ fetch first at
  pub apart : all_apart memory ≡ true
  pub rights : write_xor_run memory ≡ true

pub store_same : (n : ℕ) (first memory : List Region) (at value : ℕ) → Same first memory → allowed Write memory at n ≡ true → Same first (store n memory at value)
store_same n first memory at value s w = record {
  outlines = outlines-store n memory at value ∙ s.outlines;
  words = λ c. fetch-store n memory at value c s.apart s.rights w ∙ s.words c;
  apart = all_apart-store n memory at value ∙ s.apart;
  rights = write_xor_run-store n memory at value ∙ s.rights;
}

pub bytes_same : (first memory : List Region) (at : ℕ) (bytes : List ℕ) → Same first memory → allowed Write memory at (length bytes) ≡ true → Same first (with_bytes memory at bytes)
bytes_same first memory at bytes s w = record {
  outlines = outlines-with_bytes memory at bytes ∙ s.outlines;
  words = λ c. fetch-with_bytes memory at bytes c s.apart s.rights w ∙ s.words c;
  apart = all_apart-with_bytes memory at bytes ∙ s.apart;
  rights = write_xor_run-with_bytes memory at bytes ∙ s.rights;
}

pub record Still (first : List Region) (m : Machine) : Type 0 where
  pub same : Same first m.memory
  pub long : length m.registers ≡ 31

no_abort : (b : Bool) → abort_unless b ≡ None → b ≡ true
no_abort true e = refl
no_abort false e = absurd (grind (arith, e))

set_long : (l : List ℕ) (d v : ℕ) → length l ≡ 31 → length (slice_set l d v) ≡ 31
set_long l d v e = length-set l d v ∙ e

cond_long : (b : Bool) (l : List ℕ) (d v : ℕ) → length l ≡ 31 → length (cond b l (slice_set l d v)) ≡ 31
cond_long true l d v e = e
cond_long false l d v e = set_long l d v e

two_long : (l : List ℕ) (d v d2 v2 : ℕ) → length l ≡ 31 → length (slice_set (slice_set l d v) d2 v2) ≡ 31
two_long l d v d2 v2 e = set_long (slice_set l d v) d2 v2 (set_long l d v e)

pair_parts : (a b : Bool) → cond a b false ≡ true → (a ≡ true) × (b ≡ true)
pair_parts true b e = (refl, e)
pair_parts false b e = absurd (true≢false (sym e))

called_still : (first : List Region) (number : ℕ) (m : Machine) → Still first m → Still first (called number m)
called_still first number m s = at (number == 1) (number == 2)
  where
    other : (b : Bool) → Still first (cond b (next (reads m)) (exits m))
    other true = record { same = s.same; long = set_long _ _ _ s.long }
    other false = record { same = s.same; long = s.long }

    at : (a b : Bool) → Still first (cond a (next (prints m)) (cond b (next (reads m)) (exits m)))
    at true b = record { same = s.same; long = set_long _ _ _ s.long }
    at false b = other b

-- an instruction that doesn't trap
pub effect_still : (first : List Region) (code : Code) (instr : Instr) (m : Machine) → Still first m → trap_of code instr m ≡ None → Still first (effect code instr m)
unfolding effect trap_of
effect_still first code (i.MoveWide op rd imm hw) m s e = record { same = s.same; long = set_long _ _ _ s.long }
effect_still first code (i.SumImmediate op rd rn imm shifted) m s e = record { same = s.same; long = cond_long (eqb rd 31) _ _ _ s.long }
effect_still first code (i.SubsImmediate rd rn imm shifted) m s e = record { same = s.same; long = set_long _ _ _ s.long }
effect_still first code (i.Sum sum.Add rd rn rm) m s e = record { same = s.same; long = set_long _ _ _ s.long }
effect_still first code (i.Sum sum.Sub rd rn rm) m s e = record { same = s.same; long = set_long _ _ _ s.long }
effect_still first code (i.Sum sum.Subs rd rn rm) m s e = record { same = s.same; long = set_long _ _ _ s.long }
effect_still first code (i.Logical op rd rn rm) m s e = record { same = s.same; long = set_long _ _ _ s.long }
effect_still first code (i.MultiplyAdd op rd rn rm ra) m s e = record { same = s.same; long = set_long _ _ _ s.long }
effect_still first code (i.Divide op rd rn rm) m s e = record { same = s.same; long = set_long _ _ _ s.long }
effect_still first code (i.Shift op rd rn rm) m s e = record { same = s.same; long = set_long _ _ _ s.long }
effect_still first code (i.Bitfield op rd rn immr imms) m s e = record { same = s.same; long = set_long _ _ _ s.long }
effect_still first code (i.Csinc rd rn rm condition) m s e = record { same = s.same; long = set_long _ _ _ s.long }
effect_still first code (i.Adrp rd pages) m s e = record { same = s.same; long = set_long _ _ _ s.long }
effect_still first code (i.LoadStore Ldr rt rn imm) m s e = record { same = s.same; long = set_long _ _ _ s.long }
effect_still first code (i.LoadStore Str rt rn imm) m s e = record { same = store_same 8 first m.memory _ _ s.same (no_abort _ e); long = s.long }
effect_still first code (i.LoadStoreWord Ldrw rt rn imm) m s e = record { same = s.same; long = set_long _ _ _ s.long }
effect_still first code (i.LoadStoreWord Strw rt rn imm) m s e = record { same = store_same 4 first m.memory _ _ s.same (no_abort _ e); long = s.long }
effect_still first code (i.LoadStoreWord Ldrsw rt rn imm) m s e = record { same = s.same; long = set_long _ _ _ s.long }
effect_still first code (i.LoadStoreHalf Ldrh rt rn imm) m s e = record { same = s.same; long = set_long _ _ _ s.long }
effect_still first code (i.LoadStoreHalf Strh rt rn imm) m s e = record { same = store_same 2 first m.memory _ _ s.same (no_abort _ e); long = s.long }
effect_still first code (i.LoadStoreHalf Ldrsh rt rn imm) m s e = record { same = s.same; long = set_long _ _ _ s.long }
effect_still first code (i.LoadStoreByte Ldrb rt rn imm) m s e = record { same = s.same; long = set_long _ _ _ s.long }
effect_still first code (i.LoadStoreByte Strb rt rn imm) m s e = record { same = store_same 1 first m.memory _ _ s.same (no_abort _ e); long = s.long }
effect_still first code (i.LoadStoreByte Ldrsb rt rn imm) m s e = record { same = s.same; long = set_long _ _ _ s.long }
effect_still first code (i.LoadStoreUnscaled Ldur rt rn imm) m s e = record { same = s.same; long = set_long _ _ _ s.long }
effect_still first code (i.LoadStoreUnscaled Stur rt rn imm) m s e = record { same = store_same 8 first m.memory _ _ s.same (no_abort _ e); long = s.long }
effect_still first code (i.LoadStorePair Ldp rt rt2 rn imm) m s e = record { same = s.same; long = two_long _ _ _ _ _ s.long }
effect_still first code (i.LoadStorePair Stp rt rt2 rn imm) m s e = let b = pair_parts _ _ (no_abort _ e) in record { same = store_same 8 first _ _ _ (store_same 8 first m.memory _ _ s.same b.0) (allowed-store 8 Write m.memory _ _ _ 8 ∙ b.1); long = s.long }
effect_still first code (i.Branch B words) m s e = record { same = s.same; long = s.long }
effect_still first code (i.Branch Bl words) m s e = record { same = s.same; long = set_long _ _ _ s.long }
effect_still first code (i.BranchRegister Br rn) m s e = record { same = s.same; long = s.long }
effect_still first code (i.BranchRegister Blr rn) m s e = record { same = s.same; long = set_long _ _ _ s.long }
effect_still first code (i.BranchRegister Ret rn) m s e = record { same = s.same; long = s.long }
effect_still first code (i.BranchAuthenticated Braa rn rm) m s e = record { same = s.same; long = s.long }
effect_still first code (i.BranchAuthenticated Blraa rn rm) m s e = record { same = s.same; long = set_long _ _ _ s.long }
effect_still first code (i.BranchAuthenticated Blrab rn rm) m s e = record { same = s.same; long = set_long _ _ _ s.long }
effect_still first code (i.Blraaz rn) m s e = record { same = s.same; long = set_long _ _ _ s.long }
effect_still first code (i.Stack Retab) m s e = record { same = s.same; long = s.long }
effect_still first code (i.Stack Pacibsp) m s e = record { same = s.same; long = set_long _ _ _ s.long }
effect_still first code (i.Stack Autibsp) m s e = record { same = s.same; long = set_long _ _ _ s.long }
effect_still first code (i.Sign op rd rn) m s e = record { same = s.same; long = set_long _ _ _ s.long }
effect_still first code (i.Authenticate op rd rn) m s e = record { same = s.same; long = set_long _ _ _ s.long }
effect_still first code (i.Plain Paciza rd) m s e = record { same = s.same; long = set_long _ _ _ s.long }
effect_still first code (i.Plain Autiza rd) m s e = record { same = s.same; long = set_long _ _ _ s.long }
effect_still first code (i.Plain Xpaci rd) m s e = record { same = s.same; long = set_long _ _ _ s.long }
effect_still first code (i.Pacga rd rn rm) m s e = record { same = s.same; long = set_long _ _ _ s.long }
effect_still first code (i.Exception Svc number) m s e = called_still first number m s
effect_still first code other m s e = record { same = s.same; long = s.long }
