-- A row depends on no register that it doesn't read: with another value there it traps alike, and does the same to all else.
use Rattle.std.proofs.Common.{◌≡◌, ◌≢◌, ℕ, suc, ◌%◌, Bool, true, false, cond, eqb, List, [], ◌∷◌, ◌++◌, set, get_or, refl, sym, ap, ◌∙◌, ◌⊎◌, inl, inr, get_or-set_other}
use Rattle.std.specs.Prelude.{◌==◌, ◌||◌, if◌then◌else◌}
use Rattle.std.proofs.lemmas.Bool.{cases_eq, eq-eqb, ne_eqb, eqb-true, or_parts, true≢false}
use Rattle.std.proofs.lemmas.List.{set-set, set_comm}
use Rattle.pa_num.specs.Arithmetic.{scaled64}
use Rattle.pa_pac.specs.declared.key.Key.TheVariants.{IA, IB, GA}
use Rattle.pa_pac.specs.declared.event.Way.TheVariants as way
use Rattle.pa_pac.specs.Signing.{Code, sign, generic_code}
use Rattle.pa_a64.specs.declared.instr.Instr.{Instr}
use Rattle.pa_a64.specs.declared.instr.Instr.TheVariants as i
use Rattle.pa_a64.specs.declared.instr.SumOp.TheVariants as sum
use Rattle.pa_a64.specs.declared.instr.LoadStoreOp.TheVariants.{Ldr, Str}
use Rattle.pa_a64.specs.declared.instr.LoadStoreWordOp.TheVariants.{Ldrw, Strw, Ldrsw}
use Rattle.pa_a64.specs.declared.instr.LoadStoreHalfOp.TheVariants.{Ldrh, Strh, Ldrsh}
use Rattle.pa_a64.specs.declared.instr.LoadStoreByteOp.TheVariants.{Ldrb, Strb, Ldrsb}
use Rattle.pa_a64.specs.declared.instr.LoadStoreUnscaledOp.TheVariants.{Ldur, Stur}
use Rattle.pa_a64.specs.declared.instr.LoadStorePairOp.TheVariants.{Ldp, Stp}
use Rattle.pa_a64.specs.declared.instr.BranchOp.TheVariants.{B, Bl}
use Rattle.pa_a64.specs.declared.instr.BranchRegisterOp.TheVariants.{Br, Blr, Ret}
use Rattle.pa_a64.specs.declared.instr.BranchAuthenticatedOp.TheVariants.{Braa, Blraa, Blrab}
use Rattle.pa_a64.specs.declared.instr.StackOp.TheVariants.{Retab, Pacibsp, Autibsp}
use Rattle.pa_a64.specs.declared.instr.PlainOp.TheVariants.{Paciza, Autiza, Xpaci}
use Rattle.pa_a64.specs.declared.instr.ExceptionOp.TheVariants.{Svc, Brk}
use Rattle.pa_object.specs.Machine.{Machine, register, register_or_sp, with_register, with_register_or_sp, goes_to, after, next, signs, lands, flags_of_difference}
use Rattle.pa_object.specs.Traps.{trap_of, asked_by_branch, asked_by_blraaz, asked_of_link, asked_by_authenticate, asked_by_autiza}
use Rattle.pa_object.specs.Effects.{effect, immediate_of, way_to, raw_of, accepts, key_of_sign, called, prints, reads as reads_byte, exits, first_or_end, behind_first}
use Rattle.pa_object.specs.Rows.{writes, reads, names}

-- ---- registers

other : (registers : List ℕ) (r j v : ℕ) → eqb r j ≡ false → get_or (set registers r v) j 0 ≡ get_or registers j 0
other registers r j v ne = get_or-set_other registers r j v 0 (λ e. true≢false (sym (eq-eqb r j (sym e)) ∙ ne))

other_or_sp : (sp : ℕ) (registers : List ℕ) (r j v : ℕ) → eqb r j ≡ false → cond (eqb j 31) sp (get_or (set registers r v) j 0) ≡ cond (eqb j 31) sp (get_or registers j 0)
other_or_sp sp registers r j v ne = ap (λ x. cond (eqb j 31) sp x) (other registers r j v ne)

-- a write behind another: it replaces it in the same register, and comes first elsewhere
written : (registers : List ℕ) (r v rd x : ℕ) → set (set registers r v) rd x ≡ cond (eqb r rd) (set registers rd x) (set (set registers rd x) r v)
written registers r v rd x = at (cases_eq r rd)
  where
    at : ((r ≡ rd) ⊎ (r ≢ rd)) → set (set registers r v) rd x ≡ cond (eqb r rd) (set registers rd x) (set (set registers rd x) r v)
    at (inl e) = rw (e, eq-eqb rd rd refl) (set-set registers rd v x)
    at (inr n) = rw (ne_eqb r rd n) (set_comm registers r rd v x n)

pub puts : (n : Machine) (r v rd x : ℕ) → with_register rd x (with_register r v n) ≡ cond (eqb r rd) (with_register rd x n) (with_register r v (with_register rd x n))
puts n r v rd x = ap (λ l. record n { registers = l }) (written n.registers r v rd x) ∙ through (eqb r rd)
  where
    through : (b : Bool) → record n { registers = cond b (set n.registers rd x) (set (set n.registers rd x) r v) } ≡ cond b (with_register rd x n) (with_register r v (with_register rd x n))
    through true = refl
    through false = refl

-- what a row leaves where this register had another value: the same where it writes it, else the same beside that value
abbrev pub Unread : Code → Instr → Machine → (r v : ℕ) → Type 0
Unread code instr m r v =
    effect code instr (with_register r v m) ≡ if writes instr r then effect code instr m else with_register r v (effect code instr m)

-- ---- groups of rows

-- the stack pointer or a register gets a number
puts_or_sp : (n : Machine) (r v rd x : ℕ) → eqb r 31 ≡ false
    → with_register_or_sp rd x (with_register r v n) ≡ cond (eqb r rd) (with_register_or_sp rd x n) (with_register r v (with_register_or_sp rd x n))
puts_or_sp n r v rd x general = at (eqb rd 31) refl
  where
    at : (b : Bool) → eqb rd 31 ≡ b → with_register_or_sp rd x (with_register r v n) ≡ cond (eqb r rd) (with_register_or_sp rd x n) (with_register r v (with_register_or_sp rd x n))
    at true e = rw (eqb-true rd 31 e, general) refl
    at false e = rw e (puts n r v rd x)

apart : (registers : List ℕ) (r v j x : ℕ) → eqb r j ≡ false → set (set registers r v) j x ≡ set (set registers j x) r v
apart registers r v j x ne = set_comm registers r j v x (λ e. true≢false (sym (eq-eqb r j e) ∙ ne))

pair : (registers : List ℕ) (r v one two x y : ℕ) → eqb r one ≡ false → eqb r two ≡ false → set (set (set registers r v) one x) two y ≡ set (set (set registers one x) two y) r v
pair registers r v one two x y first second = ap (λ l. set l two y) (apart registers r v one x first) ∙ apart (set registers one x) r v two y second

called_unread : (number : ℕ) (m : Machine) (r v : ℕ) → eqb r 0 ≡ false → called number (with_register r v m) ≡ with_register r v (called number m)
called_unread number m r v ne = rw (other m.registers r 0 v ne) (at (number == 1) (number == 2))
  where
    in_place : (n : Machine) (x : ℕ) → record n { registers = set (set n.registers r v) 0 x } ≡ record n { registers = set (set n.registers 0 x) r v }
    in_place n x = ap (λ l. record n { registers = l }) (apart n.registers r v 0 x ne)

    more : (b : Bool) → cond b (next (reads_byte (with_register r v m))) (record (with_register r v m) { count = suc m.count; ended = (exits m).ended }) ≡ with_register r v (cond b (next (reads_byte m)) (exits m))
    more true = in_place (next (record m { input = behind_first m.input })) (first_or_end m.input)
    more false = refl

    at : (a b : Bool) → cond a (record (next m) { registers = set (set m.registers r v) 0 (register 0 m % 256); output = m.output ++ register 0 m % 256 ∷ [] }) (cond b (next (reads_byte (with_register r v m))) (record (with_register r v m) { count = suc m.count; ended = (exits m).ended }))
        ≡ with_register r v (cond a (next (prints m)) (cond b (next (reads_byte m)) (exits m)))
    at true b = in_place (record (next m) { output = m.output ++ register 0 m % 256 ∷ [] }) (register 0 m % 256)
    at false b = more b

-- ---- each row

pub effect_unread : (code : Code) (instr : Instr) (m : Machine) (r v : ℕ) → eqb r 31 ≡ false → reads instr r ≡ false → Unread code instr m r v
unfolding effect
effect_unread code (i.MoveWide op rd imm hw) m r v g h = rw (other m.registers r rd v h) (puts (next m) r v rd _)
effect_unread code (i.SumImmediate op rd rn imm shifted) m r v g h = rw (other_or_sp m.sp m.registers r rn v h) (puts_or_sp (next m) r v rd _ g)
effect_unread code (i.SubsImmediate rd rn imm shifted) m r v g h =
    let n = next (record m { flags = flags_of_difference (register_or_sp rn m) (immediate_of imm shifted) }) in
    rw (other_or_sp m.sp m.registers r rn v h) (puts n r v rd _)
effect_unread code (i.Sum sum.Add rd rn rm) m r v g h =
    let p = or_parts (eqb r rn) (eqb r rm) h in
    rw (other m.registers r rn v p.0, other m.registers r rm v p.1) (puts (next m) r v rd _)
effect_unread code (i.Sum sum.Sub rd rn rm) m r v g h =
    let p = or_parts (eqb r rn) (eqb r rm) h in
    rw (other m.registers r rn v p.0, other m.registers r rm v p.1) (puts (next m) r v rd _)
effect_unread code (i.Sum sum.Subs rd rn rm) m r v g h =
    let p = or_parts (eqb r rn) (eqb r rm) h in
    let n = next (record m { flags = flags_of_difference (register rn m) (register rm m) }) in
    rw (other m.registers r rn v p.0, other m.registers r rm v p.1) (puts n r v rd _)
effect_unread code (i.Logical op rd rn rm) m r v g h =
    let p = or_parts (eqb r rn) (eqb r rm) h in
    rw (other m.registers r rn v p.0, other m.registers r rm v p.1) (puts (next m) r v rd _)
effect_unread code (i.MultiplyAdd op rd rn rm ra) m r v g h =
    let p = or_parts (eqb r rn) (eqb r rm || eqb r ra) h in
    let q = or_parts (eqb r rm) (eqb r ra) p.1 in
    rw (other m.registers r rn v p.0, other m.registers r rm v q.0, other m.registers r ra v q.1) (puts (next m) r v rd _)
effect_unread code (i.Divide op rd rn rm) m r v g h =
    let p = or_parts (eqb r rn) (eqb r rm) h in
    rw (other m.registers r rn v p.0, other m.registers r rm v p.1) (puts (next m) r v rd _)
effect_unread code (i.Shift op rd rn rm) m r v g h =
    let p = or_parts (eqb r rn) (eqb r rm) h in
    rw (other m.registers r rn v p.0, other m.registers r rm v p.1) (puts (next m) r v rd _)
effect_unread code (i.Bitfield op rd rn immr imms) m r v g h = rw (other m.registers r rn v h) (puts (next m) r v rd _)
effect_unread code (i.Csinc rd rn rm condition) m r v g h =
    let p = or_parts (eqb r rn) (eqb r rm) h in
    rw (other m.registers r rn v p.0, other m.registers r rm v p.1) (puts (next m) r v rd _)
effect_unread code (i.Adrp rd pages) m r v g h = puts (next m) r v rd _
effect_unread code i.Nop m r v g h = refl
effect_unread code (i.Branch B words) m r v g h = refl
effect_unread code (i.Branch Bl words) m r v g h = puts (goes_to (way_to (scaled64 4 words) m) m) r v 30 (after m)
effect_unread code (i.BranchConditional condition words) m r v g h = refl
effect_unread code (i.CompareBranch op rt words) m r v g h = rw (other m.registers r rt v h) refl
effect_unread code (i.BranchRegister Br rn) m r v g h = rw (other m.registers r rn v h) refl
effect_unread code (i.BranchRegister Blr rn) m r v g h = rw (other m.registers r rn v h) (puts (lands way.Call (register rn m) m) r v 30 (after m))
effect_unread code (i.BranchRegister Ret rn) m r v g h = rw (other m.registers r rn v h) refl
effect_unread code (i.LoadStore Ldr rt rn imm) m r v g h =
    let p = or_parts (eqb r rt) (eqb r rn) h in
    rw (other_or_sp m.sp m.registers r rn v p.1) (puts (next m) r v rt _)
effect_unread code (i.LoadStore Str rt rn imm) m r v g h =
    let p = or_parts (eqb r rt) (eqb r rn) h in
    rw (other_or_sp m.sp m.registers r rn v p.1, other m.registers r rt v p.0) refl
effect_unread code (i.LoadStoreWord Ldrw rt rn imm) m r v g h =
    let p = or_parts (eqb r rt) (eqb r rn) h in
    rw (other_or_sp m.sp m.registers r rn v p.1) (puts (next m) r v rt _)
effect_unread code (i.LoadStoreWord Ldrsw rt rn imm) m r v g h =
    let p = or_parts (eqb r rt) (eqb r rn) h in
    rw (other_or_sp m.sp m.registers r rn v p.1) (puts (next m) r v rt _)
effect_unread code (i.LoadStoreWord Strw rt rn imm) m r v g h =
    let p = or_parts (eqb r rt) (eqb r rn) h in
    rw (other_or_sp m.sp m.registers r rn v p.1, other m.registers r rt v p.0) refl
effect_unread code (i.LoadStoreHalf Ldrh rt rn imm) m r v g h =
    let p = or_parts (eqb r rt) (eqb r rn) h in
    rw (other_or_sp m.sp m.registers r rn v p.1) (puts (next m) r v rt _)
effect_unread code (i.LoadStoreHalf Ldrsh rt rn imm) m r v g h =
    let p = or_parts (eqb r rt) (eqb r rn) h in
    rw (other_or_sp m.sp m.registers r rn v p.1) (puts (next m) r v rt _)
effect_unread code (i.LoadStoreHalf Strh rt rn imm) m r v g h =
    let p = or_parts (eqb r rt) (eqb r rn) h in
    rw (other_or_sp m.sp m.registers r rn v p.1, other m.registers r rt v p.0) refl
effect_unread code (i.LoadStoreByte Ldrb rt rn imm) m r v g h =
    let p = or_parts (eqb r rt) (eqb r rn) h in
    rw (other_or_sp m.sp m.registers r rn v p.1) (puts (next m) r v rt _)
effect_unread code (i.LoadStoreByte Ldrsb rt rn imm) m r v g h =
    let p = or_parts (eqb r rt) (eqb r rn) h in
    rw (other_or_sp m.sp m.registers r rn v p.1) (puts (next m) r v rt _)
effect_unread code (i.LoadStoreByte Strb rt rn imm) m r v g h =
    let p = or_parts (eqb r rt) (eqb r rn) h in
    rw (other_or_sp m.sp m.registers r rn v p.1, other m.registers r rt v p.0) refl
effect_unread code (i.LoadStoreUnscaled Ldur rt rn imm) m r v g h =
    let p = or_parts (eqb r rt) (eqb r rn) h in
    rw (other_or_sp m.sp m.registers r rn v p.1) (puts (next m) r v rt _)
effect_unread code (i.LoadStoreUnscaled Stur rt rn imm) m r v g h =
    let p = or_parts (eqb r rt) (eqb r rn) h in
    rw (other_or_sp m.sp m.registers r rn v p.1, other m.registers r rt v p.0) refl
effect_unread code (i.LoadStorePair Ldp rt rt2 rn imm) m r v g h =
    let p = or_parts (eqb r rt) (eqb r rt2 || eqb r rn) h in
    let q = or_parts (eqb r rt2) (eqb r rn) p.1 in
    rw (other_or_sp m.sp m.registers r rn v q.1, p.0, q.0) (ap (λ l. record (next m) { registers = l }) (pair m.registers r v rt rt2 _ _ p.0 q.0))
effect_unread code (i.LoadStorePair Stp rt rt2 rn imm) m r v g h =
    let p = or_parts (eqb r rt) (eqb r rt2 || eqb r rn) h in
    let q = or_parts (eqb r rt2) (eqb r rn) p.1 in
    rw (other_or_sp m.sp m.registers r rn v q.1, other m.registers r rt v p.0, other m.registers r rt2 v q.0) refl
effect_unread code (i.BranchAuthenticated Braa rn rm) m r v g h =
    let p = or_parts (eqb r rn) (eqb r rm) h in
    rw (other m.registers r rn v p.0, other_or_sp m.sp m.registers r rm v p.1) refl
effect_unread code (i.BranchAuthenticated Blraa rn rm) m r v g h =
    let p = or_parts (eqb r rn) (eqb r rm) h in
    let asked = asked_by_branch Blraa rn rm m in
    rw (other m.registers r rn v p.0, other_or_sp m.sp m.registers r rm v p.1) (puts (lands way.Call (raw_of code asked) (accepts code asked m)) r v 30 (after m))
effect_unread code (i.BranchAuthenticated Blrab rn rm) m r v g h =
    let p = or_parts (eqb r rn) (eqb r rm) h in
    let asked = asked_by_branch Blrab rn rm m in
    rw (other m.registers r rn v p.0, other_or_sp m.sp m.registers r rm v p.1) (puts (lands way.Call (raw_of code asked) (accepts code asked m)) r v 30 (after m))
effect_unread code (i.Blraaz rn) m r v g h =
    let asked = asked_by_blraaz rn m in
    rw (other m.registers r rn v h) (puts (lands way.Call (raw_of code asked) (accepts code asked m)) r v 30 (after m))
effect_unread code (i.Stack Retab) m r v g h = rw (other m.registers r 30 v h) refl
effect_unread code (i.Stack Pacibsp) m r v g h =
    let raw = register 30 m in
    rw (other m.registers r 30 v h) (puts (next (signs IB m.sp raw (sign code IB m.sp raw) m)) r v 30 (sign code IB m.sp raw))
effect_unread code (i.Stack Autibsp) m r v g h =
    let asked = asked_of_link m in
    rw (other m.registers r 30 v h) (puts (next (accepts code asked m)) r v 30 (raw_of code asked))
effect_unread code (i.Sign op rd rn) m r v g h =
    let p = or_parts (eqb r rd) (eqb r rn) h in
    let key = key_of_sign op in
    let modifier = register_or_sp rn m in
    let signed = sign code key modifier (register rd m) in
    rw (other m.registers r rd v p.0, other_or_sp m.sp m.registers r rn v p.1) (puts (next (signs key modifier (register rd m) signed m)) r v rd signed)
effect_unread code (i.Authenticate op rd rn) m r v g h =
    let p = or_parts (eqb r rd) (eqb r rn) h in
    let asked = asked_by_authenticate op rd rn m in
    rw (other m.registers r rd v p.0, other_or_sp m.sp m.registers r rn v p.1) (puts (next (accepts code asked m)) r v rd (raw_of code asked))
effect_unread code (i.Plain Paciza rd) m r v g h =
    let raw = register rd m in
    rw (other m.registers r rd v h) (puts (next (signs IA 0 raw (sign code IA 0 raw) m)) r v rd (sign code IA 0 raw))
effect_unread code (i.Plain Autiza rd) m r v g h =
    let asked = asked_by_autiza rd m in
    rw (other m.registers r rd v h) (puts (next (accepts code asked m)) r v rd (raw_of code asked))
effect_unread code (i.Plain Xpaci rd) m r v g h = rw (other m.registers r rd v h) (puts (next m) r v rd _)
effect_unread code (i.Pacga rd rn rm) m r v g h =
    let p = or_parts (eqb r rn) (eqb r rm) h in
    let modifier = register_or_sp rm m in
    let signed = generic_code code (register rn m) modifier in
    rw (other m.registers r rn v p.0, other_or_sp m.sp m.registers r rm v p.1) (puts (next (signs GA modifier (register rn m) signed m)) r v rd signed)
effect_unread code (i.Exception Svc number) m r v g h = rw h (called_unread number m r v h)
effect_unread code (i.Exception Brk number) m r v g h = refl

-- ---- traps

pub trap_unread : (code : Code) (instr : Instr) (m : Machine) (r v : ℕ) → reads instr r ≡ false → trap_of code instr (with_register r v m) ≡ trap_of code instr m
unfolding trap_of
trap_unread code (i.LoadStore op rt rn imm) m r v h = rw (other_or_sp m.sp m.registers r rn v (or_parts (eqb r rt) (eqb r rn) h).1) refl
trap_unread code (i.LoadStoreWord op rt rn imm) m r v h = rw (other_or_sp m.sp m.registers r rn v (or_parts (eqb r rt) (eqb r rn) h).1) refl
trap_unread code (i.LoadStoreHalf op rt rn imm) m r v h = rw (other_or_sp m.sp m.registers r rn v (or_parts (eqb r rt) (eqb r rn) h).1) refl
trap_unread code (i.LoadStoreByte op rt rn imm) m r v h = rw (other_or_sp m.sp m.registers r rn v (or_parts (eqb r rt) (eqb r rn) h).1) refl
trap_unread code (i.LoadStoreUnscaled op rt rn imm) m r v h = rw (other_or_sp m.sp m.registers r rn v (or_parts (eqb r rt) (eqb r rn) h).1) refl
trap_unread code (i.LoadStorePair op rt rt2 rn imm) m r v h =
    let p = or_parts (eqb r rt) (eqb r rt2 || eqb r rn) h in
    rw (other_or_sp m.sp m.registers r rn v (or_parts (eqb r rt2) (eqb r rn) p.1).1) refl
trap_unread code (i.BranchAuthenticated op rn rm) m r v h =
    let p = or_parts (eqb r rn) (eqb r rm) h in
    rw (other m.registers r rn v p.0, other_or_sp m.sp m.registers r rm v p.1) refl
trap_unread code (i.Blraaz rn) m r v h = rw (other m.registers r rn v h) refl
trap_unread code (i.Stack Retab) m r v h = rw (other m.registers r 30 v h) refl
trap_unread code (i.Stack Autibsp) m r v h = rw (other m.registers r 30 v h) refl
trap_unread code (i.Authenticate op rd rn) m r v h =
    let p = or_parts (eqb r rd) (eqb r rn) h in
    rw (other m.registers r rd v p.0, other_or_sp m.sp m.registers r rn v p.1) refl
trap_unread code (i.Plain Paciza rd) m r v h = refl
trap_unread code (i.Plain Autiza rd) m r v h = rw (other m.registers r rd v h) refl
trap_unread code (i.Exception Svc number) m r v h = refl
trap_unread code _ m r v h = refl

-- ---- a register that no operand is

-- a row that doesn't name a register does the same beside any value there
pub effect_unnamed : (code : Code) (instr : Instr) (m : Machine) (r v : ℕ) → eqb r 31 ≡ false → names instr r ≡ false
    → effect code instr (with_register r v m) ≡ with_register r v (effect code instr m)
effect_unnamed code instr m r v g h =
    let p = or_parts (writes instr r) (reads instr r) h in
    effect_unread code instr m r v g p.1 ∙ ap (λ b. cond b (effect code instr m) (with_register r v (effect code instr m))) p.0
