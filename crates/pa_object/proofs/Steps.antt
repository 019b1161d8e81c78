-- What each instruction does, one lemma for a row, and how instructions follow each other.
use Rattle.std.proofs.Common.{◌≡◌, ◌≢◌, ℕ, suc, ◌+◌, ◌-◌, ◌*◌, ◌%◌, ◌^◌, ◌<◌, ◌≤◌, true, false, cond, eqb, ltb, List, [], ◌∷◌, ◌++◌, length, get_or, set, refl, ap, ◌∙◌, arith, Some, None, ◌⊎◌, inl, inr, get_or-set_same, get_or-set_other}
use Rattle.std.specs.Prelude.{ℤ, pos, ◌&&◌}
use Rattle.std.specs.Int.{w32, cast_signed}
use Rattle.std.proofs.lemmas.List.{set_past}
use Rattle.std.proofs.lemmas.Bool.{cases_eq, cases_lt, eq-eqb, ne_eqb, lt-ltb, le-ltb}
use Rattle.pa_num.specs.Arithmetic.{wrap, add64, sub64, scaled64, with_part}
use Rattle.pa_pac.specs.declared.key.Key.TheVariants.{IB}
use Rattle.pa_pac.specs.declared.event.Way.TheVariants as way
use Rattle.pa_pac.specs.declared.event.Event.TheVariants as event
use Rattle.pa_pac.specs.declared.event.When.TheVariants.{Step}
use Rattle.pa_pac.specs.Log.{is_known}
use Rattle.pa_pac.specs.Signing.{Code, sign, auth}
use Rattle.pa_a64.specs.declared.instr.Instr.{Instr}
use Rattle.pa_a64.specs.declared.instr.Instr.TheVariants as i
use Rattle.pa_a64.specs.declared.instr.MoveWideOp.TheVariants.{Movz, Movk}
use Rattle.pa_a64.specs.declared.instr.SumImmediateOp.TheVariants as immediate
use Rattle.pa_a64.specs.declared.instr.LoadStorePairOp.TheVariants.{Ldp, Stp}
use Rattle.pa_a64.specs.declared.instr.BranchOp.TheVariants.{Bl}
use Rattle.pa_a64.specs.declared.instr.StackOp.TheVariants.{Retab, Pacibsp}
use Rattle.pa_a64.specs.declared.instr.ExceptionOp.TheVariants.{Svc}
use Rattle.pa_mem.specs.Memory.{Read, Write, allowed, load, store, fetch}
use Rattle.pa_object.specs.declared.end.End.TheVariants.{Exit}
use Rattle.pa_object.specs.Machine.{Machine}
use Rattle.pa_object.specs.Traps.{trap_of}
use Rattle.pa_object.specs.Effects.{effect}
use Rattle.pa_object.specs.Run.{step, on_word, on_instr, unless_trap, unless_ended, advance, applied_all, Place, Watched, trailed, placed, watched_once, watched}
use Rattle.pa_object.specs.Placed.{Stands}

-- ---- numbers of 64 bits

pub wrap_small : (x : ℕ) → x < 2 ^ 64 → wrap x ≡ x
unfolding wrap
wrap_small x h = omega arith

pub add64_small : (x y : ℕ) → x + y < 2 ^ 64 → add64 x y ≡ x + y
unfolding add64
add64_small x y h = wrap_small (x + y) h

pub sub64_small : (x y : ℕ) → y ≤ x → x < 2 ^ 64 → sub64 x y ≡ x - y
unfolding sub64 wrap
sub64_small x y le h = omega arith

pub scaled64_small : (n k : ℕ) → n * k < 2 ^ 64 → scaled64 n (pos k) ≡ n * k
unfolding scaled64
scaled64_small n k h = wrap_small (n * k) h

-- a register after a write, at any numbers
pub register-set : (registers : List ℕ) (i j v : ℕ) → get_or (set registers i v) j 0 ≡ cond (eqb j i && ltb i (length registers)) v (get_or registers j 0)
register-set registers i j v = go (cases_eq j i) (cases_lt i (length registers))
  where
    go : ((j ≡ i) ⊎ (j ≡ i → ⊥)) → ((i < length registers) ⊎ (length registers ≤ i)) → get_or (set registers i v) j 0 ≡ cond (eqb j i && ltb i (length registers)) v (get_or registers j 0)
    go (inl e) (inl h) = rw (e, eq-eqb i i refl, lt-ltb i (length registers) h) (get_or-set_same registers i v 0 h)
    go (inl e) (inr h) = rw (e, eq-eqb i i refl, le-ltb i (length registers) h, set_past registers i v h)
    go (inr n) h = rw (ne_eqb j i n) (get_or-set_other registers i j v 0 n)

-- ---- one instruction

-- the place of the instruction that a machine runs next
abbrev pub here : (m : Machine) {instr : Instr} → Stands m.memory m.pc instr → Place
here m c = record { at = m.pc; word = c.word }

-- a machine and what it ran
abbrev pub watching : Machine → List Place → Watched
watching m trail = record { machine = m; trail = trail }

module _ (code : Code) where
  pub step_at : (m : Machine) (instr : Instr) → Stands m.memory m.pc instr → trap_of code instr m ≡ None → step code m ≡ effect code instr m
  unfolding step
  step_at m instr c t =
      ap (λ w. on_word code w m) c.fetched ∙ ap (λ x. on_instr code x m) c.decodes ∙ ap (λ x. unless_trap x m (effect code instr m)) t

  module _ (m : Machine) (pc_fits : m.pc + 4 < 2 ^ 64) where
    pub movz_step : (rd imm hw : ℕ) → Stands m.memory m.pc (i.MoveWide Movz rd imm hw) → step code m ≡ record m { registers = set m.registers rd (imm * 2 ^ (16 * hw)); pc = m.pc + 4; count = suc m.count }
    unfolding trap_of effect
    movz_step rd imm hw c = step_at m _ c refl ∙ rw (add64_small m.pc 4 pc_fits)

    pub movk_step : (rd imm hw : ℕ) → Stands m.memory m.pc (i.MoveWide Movk rd imm hw) → step code m ≡ record m { registers = set m.registers rd (with_part (get_or m.registers rd 0) hw imm); pc = m.pc + 4; count = suc m.count }
    unfolding trap_of effect
    movk_step rd imm hw c = step_at m _ c refl ∙ rw (add64_small m.pc 4 pc_fits)

    pub add_sp_step : (imm : ℕ) → Stands m.memory m.pc (i.SumImmediate immediate.Add 31 31 imm false) → m.sp + imm < 2 ^ 64 → step code m ≡ record m { sp = m.sp + imm; pc = m.pc + 4; count = suc m.count }
    unfolding trap_of effect
    add_sp_step imm c k = step_at m _ c refl ∙ rw (add64_small m.pc 4 pc_fits, add64_small m.sp imm k)

    pub sub_sp_step : (imm : ℕ) → Stands m.memory m.pc (i.SumImmediate immediate.Sub 31 31 imm false) → imm ≤ m.sp → m.sp < 2 ^ 64 → step code m ≡ record m { sp = m.sp - imm; pc = m.pc + 4; count = suc m.count }
    unfolding trap_of effect
    sub_sp_step imm c le k = step_at m _ c refl ∙ rw (add64_small m.pc 4 pc_fits, sub64_small m.sp imm le k)

    -- a pair of registers at the stack pointer
    pub stp_sp_step : (rt rt2 imm v w : ℕ) → Stands m.memory m.pc (i.LoadStorePair Stp rt rt2 31 (pos imm)) → get_or m.registers rt 0 ≡ v → get_or m.registers rt2 0 ≡ w → m.sp + 8 * imm + 8 < 2 ^ 64
        → allowed Write m.memory (m.sp + 8 * imm) 8 ≡ true → allowed Write m.memory (m.sp + 8 * imm + 8) 8 ≡ true
        → step code m ≡ record m { memory = store 8 (store 8 m.memory (m.sp + 8 * imm) v) (m.sp + 8 * imm + 8) w; pc = m.pc + 4; count = suc m.count }
    unfolding trap_of effect
    stp_sp_step rt rt2 imm v w c e f k a b =
        let scaled : scaled64 8 (pos imm) ≡ 8 * imm = scaled64_small 8 imm (omega arith) in
        let at : add64 m.sp (8 * imm) ≡ m.sp + 8 * imm = add64_small m.sp (8 * imm) (omega arith) in
        let second : add64 (m.sp + 8 * imm) 8 ≡ m.sp + 8 * imm + 8 = add64_small (m.sp + 8 * imm) 8 k in
        step_at m _ c (rw (scaled, at, second, a, b)) ∙ rw (scaled, at, second, add64_small m.pc 4 pc_fits, e, f)

    pub ldp_sp_step : (rt rt2 imm : ℕ) → Stands m.memory m.pc (i.LoadStorePair Ldp rt rt2 31 (pos imm)) → m.sp + 8 * imm + 8 < 2 ^ 64
        → allowed Read m.memory (m.sp + 8 * imm) 8 ≡ true → allowed Read m.memory (m.sp + 8 * imm + 8) 8 ≡ true
        → step code m ≡ record m { registers = set (set m.registers rt (load 8 m.memory (m.sp + 8 * imm))) rt2 (load 8 m.memory (m.sp + 8 * imm + 8)); pc = m.pc + 4; count = suc m.count }
    unfolding trap_of effect
    ldp_sp_step rt rt2 imm c k a b =
        let scaled : scaled64 8 (pos imm) ≡ 8 * imm = scaled64_small 8 imm (omega arith) in
        let at : add64 m.sp (8 * imm) ≡ m.sp + 8 * imm = add64_small m.sp (8 * imm) (omega arith) in
        let second : add64 (m.sp + 8 * imm) 8 ≡ m.sp + 8 * imm + 8 = add64_small (m.sp + 8 * imm) 8 k in
        step_at m _ c (rw (scaled, at, second, a, b)) ∙ rw (scaled, at, second, add64_small m.pc 4 pc_fits)

    pub bl_step : (words : ℤ) (target : ℕ) → Stands m.memory m.pc (i.Branch Bl words) → add64 m.pc (scaled64 4 words) ≡ target → step code m ≡ record m { registers = set m.registers 30 (m.pc + 4); pc = target; count = suc m.count }
    unfolding trap_of effect
    bl_step words target c e = step_at m _ c refl ∙ rw (add64_small m.pc 4 pc_fits, e)

    -- the link register is signed over the stack pointer
    pub pacibsp_step : (v : ℕ) → Stands m.memory m.pc (i.Stack Pacibsp) → get_or m.registers 30 0 ≡ v
        → step code m ≡ record m { registers = set m.registers 30 (sign code IB m.sp v); pc = m.pc + 4; count = suc m.count; log = record { when = Step m.count; event = event.Sign IB m.sp v (sign code IB m.sp v) } ∷ m.log }
    unfolding trap_of effect
    pacibsp_step v c e = step_at m _ c refl ∙ rw (e, add64_small m.pc 4 pc_fits)

    -- the low byte of x0 is printed
    pub print_step : (v : ℕ) → Stands m.memory m.pc (i.Exception Svc 1) → get_or m.registers 0 0 ≡ v
        → step code m ≡ record m { registers = set m.registers 0 (v % 256); output = m.output ++ v % 256 ∷ []; pc = m.pc + 4; count = suc m.count }
    unfolding trap_of effect
    print_step v c e = step_at m _ c refl ∙ rw (e, add64_small m.pc 4 pc_fits)

  -- these go to no next place
  module _ (m : Machine) where
    pub retab_step : (v raw : ℕ) → Stands m.memory m.pc (i.Stack Retab) → get_or m.registers 30 0 ≡ v → auth code IB m.sp v ≡ Some raw
        → step code m ≡ record m {
          pc = raw;
          count = suc m.count;
          log = record { when = Step m.count; event = event.Land way.Return raw } ∷ record { when = Step m.count; event = event.Take IB m.sp raw (is_known m.log IB m.sp raw) } ∷ m.log;
        }
    unfolding trap_of effect
    retab_step v raw c e f = step_at m _ c (rw (e, f)) ∙ rw (e, f)

    pub exit_step : (v : ℕ) → Stands m.memory m.pc (i.Exception Svc 3) → get_or m.registers 0 0 ≡ v → step code m ≡ record m { ended = Some (Exit (cast_signed w32 (v % 2 ^ 32))); count = suc m.count }
    unfolding trap_of effect
    exit_step v c e = step_at m _ c refl ∙ rw e

  -- ---- several instructions

  -- an instruction that ran, with its place
  pub once : (m later : Machine) (trail : List Place) (instr : Instr) (c : Stands m.memory m.pc instr) → m.ended ≡ None → step code m ≡ later → later.count ≡ suc m.count → watched_once code [] (watching m trail) ≡ watching later (here m c ∷ trail)
  unfolding advance applied_all
  once m later trail instr c going e counted =
      let done : advance code [] m ≡ later = ap (λ o. unless_ended o m (step code m)) going ∙ e in
      let differs : m.count ≢ later.count = λ same. omega arith in
      ap (λ x. record { machine = x; trail = trailed m x trail }) done
      ∙ ap (λ b. watching later (cond b trail (placed m.pc (fetch m.memory m.pc) trail))) (ne_eqb m.count later.count differs)
      ∙ ap (λ w. watching later (placed m.pc w trail)) c.fetched

  pub reach : (n : ℕ) (m later : Machine) (trail : List Place) (w : Watched) (instr : Instr) (c : Stands m.memory m.pc instr) → m.ended ≡ None → step code m ≡ later → later.count ≡ suc m.count
      → watched code [] n (watching later (here m c ∷ trail)) ≡ w → watched code [] (suc n) (watching m trail) ≡ w
  unfolding watched
  reach n m later trail w instr c going e counted rest = ap (λ x. watched code [] n x) (once m later trail instr c going e counted) ∙ rest

  pub no_step : (w : Watched) → watched code [] 0 w ≡ w
  unfolding watched
  no_step w = refl
