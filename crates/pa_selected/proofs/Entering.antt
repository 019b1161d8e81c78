-- The beginning of a function: PACIBSP signs the return address over the caller's stack pointer before anything is stored, and the
-- signed address is stored in the new frame.
use Rattle.std.proofs.Common.{◌≡◌, ℕ, suc, ◌+◌, ◌-◌, ◌*◌, ◌%◌, ◌^◌, ◌≤◌, ◌<◌, true, [], ◌∷◌, length, get_or, set, None, refl, sym, ap, subst, ◌∙◌, arith, get_or-set_same, get_or-set_other}
use Rattle.std.specs.Prelude.{pos}
use Rattle.pa_pac.specs.declared.key.Key.TheVariants.{IB}
use Rattle.pa_pac.specs.declared.event.Event.TheVariants as event
use Rattle.pa_pac.specs.declared.event.When.TheVariants.{Step}
use Rattle.pa_pac.specs.Signing.{Code, sign}
use Rattle.pa_pac.proofs.Laws.{sign-lt}
use Rattle.pa_a64.specs.declared.instr.Instr.TheVariants as i
use Rattle.pa_a64.specs.declared.instr.SumImmediateOp.TheVariants as immediate
use Rattle.pa_a64.specs.declared.instr.LoadStorePairOp.TheVariants.{Stp}
use Rattle.pa_mem.specs.Memory.{Write, allowed, load, store}
use Rattle.pa_mem.proofs.Bytes.{allowed-part}
use Rattle.pa_mem.proofs.Ranges.{load-store-allowed, allowed-store}
use Rattle.pa_object.specs.Machine.{Machine, register}
use Rattle.pa_object.specs.Placed.{Stands, HasCode}
use Rattle.pa_object.specs.Run.{advance_by}
use Rattle.pa_object.proofs.Placed.{HasCode-append}
use Rattle.pa_object.proofs.Growth.{advance_by-add}
use Rattle.pa_object.proofs.Steps.{pacibsp_step, stp_sp_step}
use Rattle.pa_lir.specs.declared.function.LirFn.{LirFn}
use Rattle.pa_frame.specs.Frames.{size_of_frame}
use Rattle.pa_select.specs.Accesses.{moved_by}
use Rattle.pa_select.specs.Selected.{prologue}
use Rattle.pa_select.proofs.Costs.{length-moved_by}
use Rattle.pa_selected.specs.Calls.{IsRunning}
use Rattle.pa_selected.proofs.Straight.{one}
use Rattle.pa_selected.proofs.Leaving.{slides_down}

-- the instructions before the parameters are stored
abbrev pub opening : LirFn → ℕ
opening f = 2 + length (moved_by immediate.Sub 31 31 (size_of_frame f))

-- The frame is there: the return address stands in it signed under the stack pointer of the caller. No other register but x30 has
-- changed.
pub record Opened (code : Code) (f : LirFn) (m : Machine) : Type 0 where
  pub later : Machine
  pub runs : advance_by code [] (opening f) m ≡ later
  pub pc : later.pc ≡ m.pc + 4 * opening f
  pub count : later.count ≡ m.count + opening f
  pub sp : later.sp ≡ m.sp - size_of_frame f
  pub registers : later.registers ≡ set m.registers 30 (sign code IB m.sp (register 30 m))
  pub memory : later.memory ≡ store 8 (store 8 m.memory (m.sp - size_of_frame f) (register 29 m)) (m.sp - size_of_frame f + 8) (sign code IB m.sp (register 30 m))
  pub saved : load 8 later.memory (m.sp - size_of_frame f + 8) ≡ sign code IB m.sp (register 30 m)
  pub input : later.input ≡ m.input
  pub output : later.output ≡ m.output
  pub ended : later.ended ≡ None
  pub log : later.log ≡ record { when = Step m.count; event = event.Sign IB m.sp (register 30 m) (sign code IB m.sp (register 30 m)) } ∷ m.log

module _ (code : Code) (f : LirFn) (m : Machine) (running : IsRunning m) (room : m.pc + 32 < 2 ^ 64) (fits : size_of_frame f ≤ m.sp) (writes : allowed Write m.memory (m.sp - size_of_frame f) (size_of_frame f) ≡ true) where
  abbrev base : ℕ
  base = m.sp - size_of_frame f

  abbrev link : ℕ
  link = sign code IB m.sp (register 30 m)

  -- behind the PACIBSP
  abbrev signed : Machine
  signed = record m { registers = set m.registers 30 link; pc = m.pc + 4; count = suc m.count; log = record { when = Step m.count; event = event.Sign IB m.sp (register 30 m) link } ∷ m.log }

  word_allowed : (i : ℕ) → i ≤ 8 → allowed Write m.memory (base + i) 8 ≡ true
  word_allowed i low = allowed-part Write m.memory base (size_of_frame f) i 8 writes (omega arith)

  link_fits : link < 2 ^ 64
  link_fits = sign-lt code IB m.sp (register 30 m) (running.widths.registers 30)

  pub opens : HasCode m.memory m.pc (prologue f) → Opened code f m
  opens c =
      let size = size_of_frame f in
      let down = moved_by immediate.Sub 31 31 size in
      let low = running.widths.sp in
      let first = one code m signed running.going (pacibsp_step code m (omega arith) (register 30 m) c.0 refl) in
      let parts = HasCode-append m.memory (m.pc + 4) down _ c.1 in
      let slid = slides_down code signed size running.going (omega arith) low fits parts.0 in
      let short = length-moved_by immediate.Sub 31 31 size in
      let k = slid.later in
      let s = slid.slides in
      let stp : Stands k.memory k.pc (i.LoadStorePair Stp 29 30 31 (pos 0)) = subst (λ x. Stands x k.pc (i.LoadStorePair Stp 29 30 31 (pos 0))) (sym s.memory) (subst (λ p. Stands m.memory p (i.LoadStorePair Stp 29 30 31 (pos 0))) (sym s.pc) parts.1.0) in
      let frame_pointer : get_or k.registers 29 0 ≡ register 29 m = ap (λ r. get_or r 29 0) s.registers ∙ get_or-set_other m.registers 30 29 link 0 (λ e. omega arith) in
      let link_there : get_or k.registers 30 0 ≡ link = ap (λ r. get_or r 30 0) s.registers ∙ get_or-set_same m.registers 30 link 0 (omega (arith, running.wide)) in
      let may : (n i : ℕ) → n ≡ base + i → i ≤ 8 → allowed Write k.memory n 8 ≡ true = λ n i e small. ap (λ x. allowed Write x n 8) s.memory ∙ (ap (λ a. allowed Write m.memory a 8) e ∙ word_allowed i small) in
      let done = stp_sp_step code k (omega (arith, s.pc, short)) 29 30 0 (register 29 m) link stp frame_pointer link_there (omega (arith, s.sp)) (may (k.sp + 8 * 0) 0 (omega (arith, s.sp)) (omega arith)) (may (k.sp + 8 * 0 + 8) 8 (omega (arith, s.sp)) (omega arith)) in
      let one_at : k.sp + 8 * 0 ≡ base = omega (arith, s.sp) in
      let stored : store 8 (store 8 k.memory (k.sp + 8 * 0) (register 29 m)) (k.sp + 8 * 0 + 8) link ≡ store 8 (store 8 m.memory base (register 29 m)) (base + 8) link =
      ap (λ x. store 8 (store 8 x (k.sp + 8 * 0) (register 29 m)) (k.sp + 8 * 0 + 8) link) s.memory ∙ ap (λ a. store 8 (store 8 m.memory a (register 29 m)) (a + 8) link) one_at in
      record {
        later = record k { memory = store 8 (store 8 k.memory (k.sp + 8 * 0) (register 29 m)) (k.sp + 8 * 0 + 8) link; pc = k.pc + 4; count = suc k.count };
        runs = ap (λ n. advance_by code [] n m) (opening_is (length down)) ∙ (advance_by-add code [] 1 (length down + 1) m
            ∙ (ap (advance_by code [] (length down + 1)) first ∙ (advance_by-add code [] (length down) 1 signed ∙ (ap (advance_by code [] 1) s.runs ∙ one code k _ s.ended done))));
        pc = omega (arith, s.pc);
        count = omega (arith, s.count);
        sp = s.sp;
        registers = s.registers;
        memory = stored;
        saved = ap (λ x. load 8 x (base + 8)) stored
            ∙ (load-store-allowed Write 8 (store 8 m.memory base (register 29 m)) (base + 8) link (allowed-store 8 Write m.memory base (register 29 m) (base + 8) 8 ∙ word_allowed 8 (omega arith)) ∙ small link_fits);
        input = s.input;
        output = s.output;
        ended = s.ended;
        log = s.log;
      }
    where
      opening_is : (n : ℕ) → 2 + n ≡ 1 + (n + 1)
      opening_is n = omega arith

      small : link < 2 ^ 64 → link % 256 ^ 8 ≡ link
      small h = omega arith
