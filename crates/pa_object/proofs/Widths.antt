-- Registers and places stay numbers of 64 bits, and memory and the input stay of bytes, in every run.
use Rattle.std.proofs.Common.{◌≡◌, ℕ, zero, suc, ◌+◌, ◌%◌, ◌^◌, ◌<◌, ◌≤◌, Bool, true, false, cond, eqb, List, [], ◌∷◌, set, Option, Some, None, refl, sym, subst, arith, lit<}
use Rattle.std.specs.Prelude.{◌==◌}
use Rattle.std.proofs.lemmas.Bool.{and_parts, cond_both}
use Rattle.pa_num.specs.Arithmetic.{add64}
use Rattle.pa_pac.specs.Signing.{Code}
use Rattle.pa_pac.proofs.Laws.{canonical-lt, sign-lt, auth-lt, generic_code-lt}
use Rattle.pa_a64.specs.declared.instr.Instr.{Instr}
use Rattle.pa_a64.specs.declared.instr.Instr.TheVariants as i
use Rattle.pa_a64.specs.declared.instr.SumOp.TheVariants as sum
use Rattle.pa_a64.specs.declared.instr.LoadStoreOp.TheVariants.{Ldr, Str}
use Rattle.pa_a64.specs.declared.instr.LoadStoreWordOp.TheVariants.{Ldrw, Strw, Ldrsw}
use Rattle.pa_a64.specs.declared.instr.LoadStoreHalfOp.TheVariants.{Ldrh, Strh, Ldrsh}
use Rattle.pa_a64.specs.declared.instr.LoadStoreByteOp.TheVariants.{Ldrb, Strb, Ldrsb}
use Rattle.pa_a64.specs.declared.instr.LoadStoreUnscaledOp.TheVariants.{Ldur, Stur}
use Rattle.pa_a64.specs.declared.instr.LoadStorePairOp.TheVariants.{Ldp, Stp}
use Rattle.pa_a64.specs.declared.instr.BranchOp.TheVariants.{B, Bl}
use Rattle.pa_a64.specs.declared.instr.BranchRegisterOp.TheVariants.{Br, Blr, Ret}
use Rattle.pa_a64.specs.declared.instr.BranchAuthenticatedOp.TheVariants.{Braa, Blraa, Blrab}
use Rattle.pa_a64.specs.declared.instr.StackOp.TheVariants.{Retab, Pacibsp, Autibsp}
use Rattle.pa_a64.specs.declared.instr.PlainOp.TheVariants.{Paciza, Autiza, Xpaci}
use Rattle.pa_a64.specs.declared.instr.ExceptionOp.TheVariants.{Svc, Brk}
use Rattle.pa_a64.specs.Decoding.{InRange, decoded}
use Rattle.pa_a64.proofs.RoundTrip.{encoded-decoded}
use Rattle.pa_mem.specs.Memory.{Region, AreBytes, IsBytes, fetch, load, bytes_at}
use Rattle.pa_mem.proofs.Bytes.{IsBytes-with_bytes, byte_at-lt}
use Rattle.pa_mem.proofs.Ranges.{IsBytes-store, load-lt}
use Rattle.pa_object.specs.declared.end.End.{End}
use Rattle.pa_object.specs.declared.end.Trap.{Trap}
use Rattle.pa_object.specs.declared.script.Deed.{Deed}
use Rattle.pa_object.specs.declared.script.Deed.TheVariants as deed
use Rattle.pa_object.specs.Machine.{Machine, register, register_or_sp, with_register, with_register_or_sp, goes_to, after, next, condition_holds}
use Rattle.pa_object.specs.Traps.{Asked, answer, trap_of, asked_by_branch, asked_by_blraaz, asked_of_link, asked_by_authenticate, asked_by_autiza}
use Rattle.pa_object.specs.Effects.{effect, called, prints, reads, exits, first_or_end, behind_first, raw_or_zero, raw_of, with_memory, links}
use Rattle.pa_object.specs.Script.{writes_bytes, all_lines, is_line}
use Rattle.pa_object.specs.Run.{Script, step, on_word, on_instr, unless_trap, unless_ended, done_to, applied, applied_all, advance, advance_by}
use Rattle.pa_object.specs.Widths.{AreWords, HasWidths}
use Rattle.pa_object.proofs.Numbers.{add64-lt, moved-lt, immediate_sum-lt, logical-lt, multiplied-lt, quotient-lt, shifted_by-lt, sign_extended-lt, bitfield-lt, sub64-lt}
use Rattle.pa_object.proofs.Scripts.{are_bytes-AreBytes, line-bytes}

-- ---- parts of a machine

AreWords-set : (values : List ℕ) (j v : ℕ) → v < 2 ^ 64 → AreWords values → AreWords (set values j v)
AreWords-set [] j v lt w = w
AreWords-set (x ∷ values) zero v lt w = go
  where
    go : AreWords (v ∷ values)
    go zero = lt
    go (suc i) = w (suc i)
AreWords-set (x ∷ values) (suc j) v lt w = go (AreWords-set values j v lt (λ i. w (suc i)))
  where
    go : AreWords (set values j v) → AreWords (x ∷ set values j v)
    go more zero = w 0
    go more (suc i) = more i

wide : (new : Machine) → AreWords new.registers → new.sp < 2 ^ 64 → new.pc < 2 ^ 64 → IsBytes new.memory → AreBytes new.input → HasWidths new
wide new r s p m b = record { registers = r; sp = s; pc = p; memory = m; input = b }

goes : (m : Machine) (target : ℕ) → HasWidths m → target < 2 ^ 64 → HasWidths (goes_to target m)
goes m target w lt = wide (goes_to target m) w.registers w.sp lt w.memory w.input

-- a register gets a value
set_to : (m : Machine) (rd v : ℕ) → HasWidths m → v < 2 ^ 64 → HasWidths (with_register rd v m)
set_to m rd v w lt = wide (with_register rd v m) (AreWords-set m.registers rd v lt w.registers) w.sp w.pc w.memory w.input

computed : (m : Machine) (rd v : ℕ) → HasWidths m → v < 2 ^ 64 → HasWidths (next (with_register rd v m))
computed m rd v w lt = goes (with_register rd v m) (after m) (set_to m rd v w lt) (add64-lt m.pc 4)

-- a machine that differs only in flags or log, whose numbers are the same
same : (m new : Machine) → new.registers ≡ m.registers → new.sp ≡ m.sp → new.pc ≡ m.pc → new.memory ≡ m.memory → new.input ≡ m.input → HasWidths m → HasWidths new
same m new r s p e b w = wide new (subst AreWords (sym r) w.registers) (subst (λ x. x < 2 ^ 64) (sym s) w.sp) (subst (λ x. x < 2 ^ 64) (sym p) w.pc) (subst IsBytes (sym e) w.memory) (subst AreBytes (sym b) w.input)

or_sp : (m : Machine) (r : ℕ) → HasWidths m → register_or_sp r m < 2 ^ 64
or_sp m r w = cond_both (eqb r 31) m.sp (register r m) (λ v. v < 2 ^ 64) (λ _. w.sp) (λ _. w.registers r)

set_or_sp : (m : Machine) (rd v : ℕ) → HasWidths m → v < 2 ^ 64 → HasWidths (with_register_or_sp rd v m)
set_or_sp m rd v w lt =
    wide (with_register_or_sp rd v m)
    (cond_both (eqb rd 31) m.registers (set m.registers rd v) AreWords (λ _. w.registers) (λ _. AreWords-set m.registers rd v lt w.registers))
    (cond_both (eqb rd 31) v m.sp (λ x. x < 2 ^ 64) (λ _. lt) (λ _. w.sp)) w.pc w.memory w.input

stored : (n : ℕ) (m : Machine) (at value : ℕ) → HasWidths m → HasWidths (with_memory n at value m)
stored n m at value w = wide (with_memory n at value m) w.registers w.sp w.pc (IsBytes-store n m.memory at value w.memory) w.input

onward : (m : Machine) → HasWidths m → HasWidths (next m)
onward m w = goes m (after m) w (add64-lt m.pc 4)

linked : (m : Machine) → HasWidths m → HasWidths (links m)
linked m w = set_to m 30 (after m) w (add64-lt m.pc 4)

-- ---- what is loaded and what is authenticated

load_below : (n : ℕ) (memory : List Region) (at : ℕ) → 256 ^ n ≤ 2 ^ 64 → IsBytes memory → load n memory at < 2 ^ 64
load_below n memory at le b = omega (arith, load-lt n memory at b)

raw-lt : (code : Code) (asked : Asked) → raw_of code asked < 2 ^ 64
raw-lt code asked = at (answer code asked) refl
  where
    at : (o : Option ℕ) → answer code asked ≡ o → raw_or_zero o < 2 ^ 64
    at None e = lit< tt
    at (Some raw) e = auth-lt code asked.key asked.modifier asked.value raw e

-- ---- one instruction

first-lt : (input : List ℕ) → AreBytes input → first_or_end input < 2 ^ 64
first-lt [] b = lit< tt
first-lt (byte ∷ bytes) b = let low = b 0 in omega arith

behind-bytes : (input : List ℕ) → AreBytes input → AreBytes (behind_first input)
behind-bytes [] b = b
behind-bytes (byte ∷ bytes) b = λ i. b (suc i)

called_widths : (number : ℕ) (m : Machine) → HasWidths m → HasWidths (called number m)
called_widths number m w = at (number == 1) (number == 2)
  where
    other : (b : Bool) → HasWidths (cond b (next (reads m)) (exits m))
    other true = onward (reads m) (wide (reads m) (AreWords-set m.registers 0 (first_or_end m.input) (first-lt m.input w.input) w.registers) w.sp w.pc w.memory (behind-bytes m.input w.input))
    other false = wide (exits m) w.registers w.sp w.pc w.memory w.input

    at : (a b : Bool) → HasWidths (cond a (next (prints m)) (cond b (next (reads m)) (exits m)))
    at true b = onward (prints m) (wide (prints m) (AreWords-set m.registers 0 (register 0 m % 256) (omega arith) w.registers) w.sp w.pc w.memory w.input)
    at false b = other b

branch_target : (m : Machine) (taken : Bool) (offset : ℕ) → cond taken (add64 m.pc offset) (after m) < 2 ^ 64
branch_target m true offset = add64-lt m.pc offset
branch_target m false offset = add64-lt m.pc 4

pub effect_widths : (code : Code) (instr : Instr) (m : Machine) → InRange instr → HasWidths m → HasWidths (effect code instr m)
unfolding effect
effect_widths code (i.MoveWide op rd imm hw) m f w = computed m rd _ w (moved-lt op (register rd m) imm hw f.1 f.2 (w.registers rd))
effect_widths code (i.SumImmediate op rd rn imm shifted) m f w = onward (with_register_or_sp rd _ m) (set_or_sp m rd _ w (immediate_sum-lt op _ _))
effect_widths code (i.SubsImmediate rd rn imm shifted) m f w = computed (record m { flags = _ }) rd _ (same m (record m { flags = _ }) refl refl refl refl refl w) (sub64-lt _ _)
effect_widths code (i.Sum sum.Add rd rn rm) m f w = computed m rd _ w (add64-lt _ _)
effect_widths code (i.Sum sum.Sub rd rn rm) m f w = computed m rd _ w (sub64-lt _ _)
effect_widths code (i.Sum sum.Subs rd rn rm) m f w = computed (record m { flags = _ }) rd _ (same m (record m { flags = _ }) refl refl refl refl refl w) (sub64-lt _ _)
effect_widths code (i.Logical op rd rn rm) m f w = computed m rd _ w (logical-lt op _ _ (w.registers rn) (w.registers rm))
effect_widths code (i.MultiplyAdd op rd rn rm ra) m f w = computed m rd _ w (multiplied-lt op _ _ _)
effect_widths code (i.Divide op rd rn rm) m f w = computed m rd _ w (quotient-lt op _ _ (w.registers rn) (w.registers rm))
effect_widths code (i.Shift op rd rn rm) m f w = computed m rd _ w (shifted_by-lt op _ _ (w.registers rn))
effect_widths code (i.Bitfield op rd rn immr imms) m f w = computed m rd _ w (bitfield-lt op _ immr imms f.2 f.3)
effect_widths code (i.Csinc rd rn rm condition) m f w = computed m rd _ w (cond_both (condition_holds condition m.flags) (register rn m) (add64 (register rm m) 1) (λ v. v < 2 ^ 64) (λ _. w.registers rn) (λ _. add64-lt (register rm m) 1))
effect_widths code (i.Adrp rd pages) m f w = computed m rd _ w (add64-lt _ _)
effect_widths code i.Nop m f w = onward m w
effect_widths code (i.LoadStore Ldr rt rn imm) m f w = computed m rt _ w (load_below 8 _ _ (omega arith) w.memory)
effect_widths code (i.LoadStore Str rt rn imm) m f w = onward (with_memory 8 _ _ m) (stored 8 m _ _ w)
effect_widths code (i.LoadStoreWord Ldrw rt rn imm) m f w = computed m rt _ w (load_below 4 _ _ (omega arith) w.memory)
effect_widths code (i.LoadStoreWord Strw rt rn imm) m f w = onward (with_memory 4 _ _ m) (stored 4 m _ _ w)
effect_widths code (i.LoadStoreWord Ldrsw rt rn imm) m f w = computed m rt _ w (sign_extended-lt _ 32 (omega arith))
effect_widths code (i.LoadStoreHalf Ldrh rt rn imm) m f w = computed m rt _ w (load_below 2 _ _ (omega arith) w.memory)
effect_widths code (i.LoadStoreHalf Strh rt rn imm) m f w = onward (with_memory 2 _ _ m) (stored 2 m _ _ w)
effect_widths code (i.LoadStoreHalf Ldrsh rt rn imm) m f w = computed m rt _ w (sign_extended-lt _ 16 (omega arith))
effect_widths code (i.LoadStoreByte Ldrb rt rn imm) m f w = computed m rt _ w (load_below 1 _ _ (omega arith) w.memory)
effect_widths code (i.LoadStoreByte Strb rt rn imm) m f w = onward (with_memory 1 _ _ m) (stored 1 m _ _ w)
effect_widths code (i.LoadStoreByte Ldrsb rt rn imm) m f w = computed m rt _ w (sign_extended-lt _ 8 (omega arith))
effect_widths code (i.LoadStoreUnscaled Ldur rt rn imm) m f w = computed m rt _ w (load_below 8 _ _ (omega arith) w.memory)
effect_widths code (i.LoadStoreUnscaled Stur rt rn imm) m f w = onward (with_memory 8 _ _ m) (stored 8 m _ _ w)
effect_widths code (i.LoadStorePair Ldp rt rt2 rn imm) m f w = computed (with_register rt _ m) rt2 _ (set_to m rt _ w (load_below 8 _ _ (omega arith) w.memory)) (load_below 8 _ _ (omega arith) w.memory)
effect_widths code (i.LoadStorePair Stp rt rt2 rn imm) m f w = onward (with_memory 8 _ _ (with_memory 8 _ _ m)) (stored 8 (with_memory 8 _ _ m) _ _ (stored 8 m _ _ w))
effect_widths code (i.Branch B words) m f w = goes m _ w (add64-lt _ _)
effect_widths code (i.Branch Bl words) m f w = goes (links m) _ (linked m w) (add64-lt _ _)
effect_widths code (i.BranchConditional condition words) m f w = goes m _ w (branch_target m _ _)
effect_widths code (i.CompareBranch op rt words) m f w = goes m _ w (branch_target m _ _)
effect_widths code (i.BranchRegister Br rn) m f w = wide _ w.registers w.sp (w.registers rn) w.memory w.input
effect_widths code (i.BranchRegister Blr rn) m f w = let l = linked m w in wide _ l.registers l.sp (w.registers rn) l.memory l.input
effect_widths code (i.BranchRegister Ret rn) m f w = wide _ w.registers w.sp (w.registers rn) w.memory w.input
effect_widths code (i.BranchAuthenticated Braa rn rm) m f w = wide _ w.registers w.sp (raw-lt code (asked_by_branch Braa rn rm m)) w.memory w.input
effect_widths code (i.BranchAuthenticated Blraa rn rm) m f w = let l = linked m w in wide _ l.registers l.sp (raw-lt code (asked_by_branch Blraa rn rm m)) l.memory l.input
effect_widths code (i.BranchAuthenticated Blrab rn rm) m f w = let l = linked m w in wide _ l.registers l.sp (raw-lt code (asked_by_branch Blrab rn rm m)) l.memory l.input
effect_widths code (i.Blraaz rn) m f w = let l = linked m w in wide _ l.registers l.sp (raw-lt code (asked_by_blraaz rn m)) l.memory l.input
effect_widths code (i.Stack Retab) m f w = wide _ w.registers w.sp (raw-lt code (asked_of_link m)) w.memory w.input
effect_widths code (i.Stack Pacibsp) m f w = let s = set_to m 30 _ w (sign-lt code _ m.sp (register 30 m) (w.registers 30)) in wide _ s.registers s.sp (add64-lt _ _) s.memory s.input
effect_widths code (i.Stack Autibsp) m f w = let s = set_to m 30 _ w (raw-lt code (asked_of_link m)) in wide _ s.registers s.sp (add64-lt _ _) s.memory s.input
effect_widths code (i.Sign op rd rn) m f w = let s = set_to m rd _ w (sign-lt code _ (register_or_sp rn m) (register rd m) (w.registers rd)) in wide _ s.registers s.sp (add64-lt _ _) s.memory s.input
effect_widths code (i.Authenticate op rd rn) m f w = let s = set_to m rd _ w (raw-lt code (asked_by_authenticate op rd rn m)) in wide _ s.registers s.sp (add64-lt _ _) s.memory s.input
effect_widths code (i.Plain Paciza rd) m f w = let s = set_to m rd _ w (sign-lt code _ 0 (register rd m) (w.registers rd)) in wide _ s.registers s.sp (add64-lt _ _) s.memory s.input
effect_widths code (i.Plain Autiza rd) m f w = let s = set_to m rd _ w (raw-lt code (asked_by_autiza rd m)) in wide _ s.registers s.sp (add64-lt _ _) s.memory s.input
effect_widths code (i.Plain Xpaci rd) m f w = computed m rd _ w (canonical-lt _)
effect_widths code (i.Pacga rd rn rm) m f w = let s = set_to m rd _ w (generic_code-lt code _ _) in wide _ s.registers s.sp (add64-lt _ _) s.memory s.input
effect_widths code (i.Exception Svc number) m f w = called_widths number m w
effect_widths code (i.Exception Brk number) m f w = w

-- ---- a step, and a run

step_widths : (code : Code) (m : Machine) → HasWidths m → HasWidths (step code m)
unfolding step
step_widths code m w = at (fetch m.memory m.pc)
  where
    ran : (instr : Instr) (trap : Option Trap) → InRange instr → HasWidths (unless_trap trap m (effect code instr m))
    ran instr None f = effect_widths code instr m f w
    ran instr (Some trap) f = wide _ w.registers w.sp w.pc w.memory w.input

    found : (word : ℕ) (instr : Option Instr) → decoded word ≡ instr → HasWidths (on_instr code instr m)
    found word None e = wide _ w.registers w.sp w.pc w.memory w.input
    found word (Some instr) e = ran instr (trap_of code instr m) (encoded-decoded word instr e).0

    at : (word : Option ℕ) → HasWidths (on_word code word m)
    at None = wide _ w.registers w.sp w.pc w.memory w.input
    at (Some word) = found word (decoded word) refl

read_bytes : (n : ℕ) (memory : List Region) (at : ℕ) → IsBytes memory → AreBytes (bytes_at n memory at)
unfolding bytes_at
read_bytes zero memory at b i = omega arith
read_bytes (suc n) memory at b zero = byte_at-lt memory at b
read_bytes (suc n) memory at b (suc i) = read_bytes n memory (at + 1) b i

deed_widths : (d : Deed) (memory : List Region) → writes_bytes d ≡ true → IsBytes memory → IsBytes (done_to d memory)
deed_widths (deed.Write at bytes) memory t b = IsBytes-with_bytes memory at bytes (are_bytes-AreBytes bytes t) b
deed_widths (deed.Copy to from count) memory t b = IsBytes-with_bytes memory to (bytes_at count memory from) (read_bytes count memory from b) b

items_widths : (items : Script) (number : ℕ) (m : Machine) → all_lines items ≡ true → HasWidths m → HasWidths (applied_all items number m)
unfolding applied_all
items_widths [] number m t w = w
items_widths (item ∷ items) number m t w = at (λ (k : Machine) (v : HasWidths k). items_widths items number k (lines).1 v) (item.step == number)
  where
    lines : (is_line item ≡ true) × (all_lines items ≡ true)
    lines = and_parts (is_line item) (all_lines items) t

    at : ((k : Machine) → HasWidths k → HasWidths (applied_all items number k)) → (b : Bool) → HasWidths (applied_all items number (cond b (applied item m) m))
    at more false = more m w
    at more true = more (applied item m) (wide (applied item m) w.registers w.sp w.pc (deed_widths item.deed m.memory (line-bytes item lines.0) w.memory) w.input)

advance_widths : (code : Code) (script : Script) (m : Machine) → all_lines script ≡ true → HasWidths m → HasWidths (advance code script m)
unfolding advance
advance_widths code script m t w = at m.ended
  where
    at : (o : Option End) → HasWidths (unless_ended o m (step code (applied_all script m.count m)))
    at None = step_widths code (applied_all script m.count m) (items_widths script m.count m t w)
    at (Some e) = w

-- beside any script of lines the numbers keep their widths
pub run_widths : (code : Code) (script : Script) (n : ℕ) (m : Machine) → all_lines script ≡ true → HasWidths m → HasWidths (advance_by code script n m)
unfolding advance_by
run_widths code script zero m t w = w
run_widths code script (suc n) m t w = run_widths code script n (advance code script m) t (advance_widths code script m t w)
