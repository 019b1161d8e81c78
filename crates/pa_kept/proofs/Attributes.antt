-- Instructions that neither branch nor make an event, and the registers that they write.
use Rattle.std.proofs.Common.{◌≡◌, ℕ, refl, sym, ◌∙◌, ap}
use Rattle.std.specs.Prelude.{Bool, true, false, cond, eqb, ◌||◌, slice_set, slice_index}
use Rattle.std.proofs.Common.{List, get_or, get_or-set_other}
use Rattle.std.proofs.lemmas.Bool.{or_parts, true≢false, eqb-false}
use Rattle.pa_pac.specs.Signing.{Code}
use Rattle.pa_a64.specs.declared.instr.Instr.{Instr}
use Rattle.pa_a64.specs.declared.instr.Instr.TheVariants as i
use Rattle.pa_a64.specs.declared.instr.SumOp.TheVariants as sum
use Rattle.pa_a64.specs.declared.instr.LoadStoreOp.TheVariants.{Ldr, Str}
use Rattle.pa_a64.specs.declared.instr.LoadStoreWordOp.TheVariants.{Ldrw, Strw, Ldrsw}
use Rattle.pa_a64.specs.declared.instr.LoadStoreHalfOp.TheVariants.{Ldrh, Strh, Ldrsh}
use Rattle.pa_a64.specs.declared.instr.LoadStoreByteOp.TheVariants.{Ldrb, Strb, Ldrsb}
use Rattle.pa_a64.specs.declared.instr.LoadStoreUnscaledOp.TheVariants.{Ldur, Stur}
use Rattle.pa_a64.specs.declared.instr.LoadStorePairOp.TheVariants.{Ldp, Stp}
use Rattle.pa_object.specs.Machine.{Machine, register, after}
use Rattle.pa_object.specs.Effects.{effect}
use Rattle.pa_kept.specs.Rows.{begins_raw, ends_raw}

-- computes with registers alone
abbrev pub computes : Instr → Bool
computes (i.MoveWide op rd imm hw) = true
computes (i.SumImmediate op rd rn imm shifted) = true
computes (i.SubsImmediate rd rn imm shifted) = true
computes (i.Sum op rd rn rm) = true
computes (i.Logical op rd rn rm) = true
computes (i.MultiplyAdd op rd rn rm ra) = true
computes (i.Divide op rd rn rm) = true
computes (i.Shift op rd rn rm) = true
computes (i.Bitfield op rd rn immr imms) = true
computes (i.Csinc rd rn rm condition) = true
computes (i.Adrp rd pages) = true
computes i.Nop = true
computes other = false

-- computes, loads or stores
abbrev pub is_straight : Instr → Bool
is_straight (i.LoadStore op rt rn imm) = true
is_straight (i.LoadStoreWord op rt rn imm) = true
is_straight (i.LoadStoreHalf op rt rn imm) = true
is_straight (i.LoadStoreByte op rt rn imm) = true
is_straight (i.LoadStoreUnscaled op rt rn imm) = true
is_straight (i.LoadStorePair op rt rt2 rn imm) = true
is_straight other = computes other

-- a register that a straight row may write
abbrev pub writes : ℕ → Instr → Bool
writes r (i.MoveWide op rd imm hw) = eqb r rd
writes r (i.SumImmediate op rd rn imm shifted) = eqb r rd
writes r (i.SubsImmediate rd rn imm shifted) = eqb r rd
writes r (i.Sum op rd rn rm) = eqb r rd
writes r (i.Logical op rd rn rm) = eqb r rd
writes r (i.MultiplyAdd op rd rn rm ra) = eqb r rd
writes r (i.Divide op rd rn rm) = eqb r rd
writes r (i.Shift op rd rn rm) = eqb r rd
writes r (i.Bitfield op rd rn immr imms) = eqb r rd
writes r (i.Csinc rd rn rm condition) = eqb r rd
writes r (i.Adrp rd pages) = eqb r rd
writes r (i.LoadStore op rt rn imm) = eqb r rt
writes r (i.LoadStoreWord op rt rn imm) = eqb r rt
writes r (i.LoadStoreHalf op rt rn imm) = eqb r rt
writes r (i.LoadStoreByte op rt rn imm) = eqb r rt
writes r (i.LoadStoreUnscaled op rt rn imm) = eqb r rt
writes r (i.LoadStorePair op rt rt2 rn imm) = eqb r rt || eqb r rt2
writes r other = false

-- what a straight row leaves
pub record Straight (m n : Machine) (instr : Instr) : Type 0 where
  pub log : n.log ≡ m.log
  pub pc : n.pc ≡ after m
  pub keeps : (r : ℕ) → writes r instr ≡ false → register r n ≡ register r m
  pub begins : begins_raw instr ≡ false
  pub ends : ends_raw instr ≡ false

pub set_keeps : (l : List ℕ) (d v r : ℕ) → eqb r d ≡ false → get_or (slice_set l d v) r 0 ≡ get_or l r 0
set_keeps l d v r e = get_or-set_other l d r v 0 (eqb-false r d e)

cond_keeps : (b : Bool) (l : List ℕ) (d v r : ℕ) → eqb r d ≡ false → get_or (cond b l (slice_set l d v)) r 0 ≡ get_or l r 0
cond_keeps true l d v r e = refl
cond_keeps false l d v r e = set_keeps l d v r e

two_keep : (l : List ℕ) (d v d2 v2 r : ℕ) → (eqb r d || eqb r d2) ≡ false → get_or (slice_set (slice_set l d v) d2 v2) r 0 ≡ get_or l r 0
two_keep l d v d2 v2 r e = let q = or_parts _ _ e in set_keeps (slice_set l d v) d2 v2 r q.1 ∙ set_keeps l d v r q.0

pub straight_row : (code : Code) (instr : Instr) (m : Machine) → is_straight instr ≡ true → Straight m (effect code instr m) instr
unfolding effect
straight_row code (i.MoveWide op rd imm hw) m e = record { log = refl; pc = refl; keeps = λ r f. set_keeps _ _ _ _ f; begins = refl; ends = refl }
straight_row code (i.SumImmediate op rd rn imm shifted) m e = record { log = refl; pc = refl; keeps = λ r f. cond_keeps (eqb rd 31) _ _ _ _ f; begins = refl; ends = refl }
straight_row code (i.SubsImmediate rd rn imm shifted) m e = record { log = refl; pc = refl; keeps = λ r f. set_keeps _ _ _ _ f; begins = refl; ends = refl }
straight_row code (i.Sum sum.Add rd rn rm) m e = record { log = refl; pc = refl; keeps = λ r f. set_keeps _ _ _ _ f; begins = refl; ends = refl }
straight_row code (i.Sum sum.Sub rd rn rm) m e = record { log = refl; pc = refl; keeps = λ r f. set_keeps _ _ _ _ f; begins = refl; ends = refl }
straight_row code (i.Sum sum.Subs rd rn rm) m e = record { log = refl; pc = refl; keeps = λ r f. set_keeps _ _ _ _ f; begins = refl; ends = refl }
straight_row code (i.Logical op rd rn rm) m e = record { log = refl; pc = refl; keeps = λ r f. set_keeps _ _ _ _ f; begins = refl; ends = refl }
straight_row code (i.MultiplyAdd op rd rn rm ra) m e = record { log = refl; pc = refl; keeps = λ r f. set_keeps _ _ _ _ f; begins = refl; ends = refl }
straight_row code (i.Divide op rd rn rm) m e = record { log = refl; pc = refl; keeps = λ r f. set_keeps _ _ _ _ f; begins = refl; ends = refl }
straight_row code (i.Shift op rd rn rm) m e = record { log = refl; pc = refl; keeps = λ r f. set_keeps _ _ _ _ f; begins = refl; ends = refl }
straight_row code (i.Bitfield op rd rn immr imms) m e = record { log = refl; pc = refl; keeps = λ r f. set_keeps _ _ _ _ f; begins = refl; ends = refl }
straight_row code (i.Csinc rd rn rm condition) m e = record { log = refl; pc = refl; keeps = λ r f. set_keeps _ _ _ _ f; begins = refl; ends = refl }
straight_row code (i.Adrp rd pages) m e = record { log = refl; pc = refl; keeps = λ r f. set_keeps _ _ _ _ f; begins = refl; ends = refl }
straight_row code i.Nop m e = record { log = refl; pc = refl; keeps = λ r f. refl; begins = refl; ends = refl }
straight_row code (i.LoadStore Ldr rt rn imm) m e = record { log = refl; pc = refl; keeps = λ r f. set_keeps _ _ _ _ f; begins = refl; ends = refl }
straight_row code (i.LoadStore Str rt rn imm) m e = record { log = refl; pc = refl; keeps = λ r f. refl; begins = refl; ends = refl }
straight_row code (i.LoadStoreWord Ldrw rt rn imm) m e = record { log = refl; pc = refl; keeps = λ r f. set_keeps _ _ _ _ f; begins = refl; ends = refl }
straight_row code (i.LoadStoreWord Strw rt rn imm) m e = record { log = refl; pc = refl; keeps = λ r f. refl; begins = refl; ends = refl }
straight_row code (i.LoadStoreWord Ldrsw rt rn imm) m e = record { log = refl; pc = refl; keeps = λ r f. set_keeps _ _ _ _ f; begins = refl; ends = refl }
straight_row code (i.LoadStoreHalf Ldrh rt rn imm) m e = record { log = refl; pc = refl; keeps = λ r f. set_keeps _ _ _ _ f; begins = refl; ends = refl }
straight_row code (i.LoadStoreHalf Strh rt rn imm) m e = record { log = refl; pc = refl; keeps = λ r f. refl; begins = refl; ends = refl }
straight_row code (i.LoadStoreHalf Ldrsh rt rn imm) m e = record { log = refl; pc = refl; keeps = λ r f. set_keeps _ _ _ _ f; begins = refl; ends = refl }
straight_row code (i.LoadStoreByte Ldrb rt rn imm) m e = record { log = refl; pc = refl; keeps = λ r f. set_keeps _ _ _ _ f; begins = refl; ends = refl }
straight_row code (i.LoadStoreByte Strb rt rn imm) m e = record { log = refl; pc = refl; keeps = λ r f. refl; begins = refl; ends = refl }
straight_row code (i.LoadStoreByte Ldrsb rt rn imm) m e = record { log = refl; pc = refl; keeps = λ r f. set_keeps _ _ _ _ f; begins = refl; ends = refl }
straight_row code (i.LoadStoreUnscaled Ldur rt rn imm) m e = record { log = refl; pc = refl; keeps = λ r f. set_keeps _ _ _ _ f; begins = refl; ends = refl }
straight_row code (i.LoadStoreUnscaled Stur rt rn imm) m e = record { log = refl; pc = refl; keeps = λ r f. refl; begins = refl; ends = refl }
straight_row code (i.LoadStorePair Ldp rt rt2 rn imm) m e = record { log = refl; pc = refl; keeps = λ r f. two_keep m.registers _ _ _ _ _ f; begins = refl; ends = refl }
straight_row code (i.LoadStorePair Stp rt rt2 rn imm) m e = record { log = refl; pc = refl; keeps = λ r f. refl; begins = refl; ends = refl }
straight_row code other m e = absurd (true≢false (sym e))
