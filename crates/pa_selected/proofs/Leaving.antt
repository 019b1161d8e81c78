-- The end of a function: its registers are read back, the stack pointer is the caller's again, and RETAB authenticates the return
-- address.
use Rattle.std.proofs.Common.{◌≡◌, ℕ, suc, ◌+◌, ◌-◌, ◌*◌, ◌/◌, ◌%◌, ◌^◌, ◌≤◌, ◌<◌, Bool, true, false, cond, ltb, [], ◌∷◌, length, get_or, set, Some, None, refl, sym, ap, subst, ◌∙◌, arith, length-set, get_or-set_same, get_or-set_other}
use Rattle.std.specs.Prelude.{slice_get}
use Rattle.pa_pac.specs.declared.key.Key.TheVariants.{IB}
use Rattle.pa_pac.specs.declared.event.Way.TheVariants as way
use Rattle.pa_pac.specs.declared.event.Event.TheVariants as event
use Rattle.pa_pac.specs.declared.event.When.{When}
use Rattle.pa_pac.specs.declared.event.When.TheVariants.{Step}
use Rattle.pa_pac.specs.Log.{is_known}
use Rattle.pa_pac.specs.Signing.{Code, canonical, sign, auth}
use Rattle.pa_pac.proofs.Laws.{auth-sign}
use Rattle.pa_a64.specs.declared.instr.Instr.TheVariants as i
use Rattle.pa_a64.specs.declared.instr.SumImmediateOp.{SumImmediateOp}
use Rattle.pa_a64.specs.declared.instr.SumImmediateOp.TheVariants as immediate
use Rattle.pa_a64.specs.declared.instr.StackOp.TheVariants.{Retab}
use Rattle.pa_mem.specs.Memory.{Read, allowed, load}
use Rattle.pa_mem.proofs.Bytes.{allowed-part}
use Rattle.pa_object.specs.Machine.{Machine, register}
use Rattle.pa_object.specs.Effects.{immediate_sum, immediate_of}
use Rattle.pa_object.specs.Placed.{Stands, HasCode}
use Rattle.pa_object.specs.Run.{step, advance_by}
use Rattle.pa_object.proofs.Placed.{HasCode-append}
use Rattle.pa_object.proofs.Growth.{advance_by-add}
use Rattle.pa_object.proofs.Steps.{add64_small, sub64_small, ldp_sp_step, retab_step}
use Rattle.pa_object.proofs.StepsComputing.{sum_immediate_step}
use Rattle.pa_lir.specs.declared.op.Op.TheVariants as op
use Rattle.pa_lir.specs.declared.function.LirFn.{LirFn}
use Rattle.pa_lir.specs.Parts.{held}
use Rattle.pa_lir.specs.Meaning.{Open}
use Rattle.pa_a64.specs.declared.instr.LoadStoreOp.TheVariants.{Ldr}
use Rattle.pa_frame.specs.Frames.{place_of_temp, size_of_frame}
use Rattle.pa_select.specs.Accesses.{moved_by}
use Rattle.pa_select.specs.Selected.{load_temp, epilogue}
use Rattle.pa_select.proofs.Costs.{length-access, length-moved_by}
use Rattle.pa_selected.specs.Calls.{IsRunning, HasFrameAt, IsOpen, IsAt}
use Rattle.pa_selected.specs.Values.{Addresses}
use Rattle.pa_selected.specs.Worlds.{World, IsPlaced}
use Rattle.pa_selected.proofs.Straight.{Goes, one, fine_later, code_later}
use Rattle.pa_selected.proofs.Slots.{frame_later, loads_temp}
use Rattle.pa_selected.proofs.Storing.{slot}
use Rattle.pa_selected.proofs.Steps.{code_of_op, room_at}

-- ---- the stack pointer moves

-- So many instructions change the stack pointer alone, to this address.
pub record Slides (code : Code) (n : ℕ) (m later : Machine) (to : ℕ) : Type 0 where
  pub runs : advance_by code [] n m ≡ later
  pub pc : later.pc ≡ m.pc + 4 * n
  pub count : later.count ≡ m.count + n
  pub sp : later.sp ≡ to
  pub registers : later.registers ≡ m.registers
  pub memory : later.memory ≡ m.memory
  pub input : later.input ≡ m.input
  pub output : later.output ≡ m.output
  pub log : later.log ≡ m.log
  pub ended : later.ended ≡ None

pub record Slid (code : Code) (n : ℕ) (m : Machine) (to : ℕ) : Type 0 where
  pub later : Machine
  pub slides : Slides code n m later to

module _ (code : Code) where
  abbrev slid_to : Machine → ℕ → Machine
  slid_to m to = record m { sp = to; pc = m.pc + 4; count = suc m.count }

  slide_one : (m : Machine) (op : SumImmediateOp) (imm : ℕ) (shifted : Bool) (to : ℕ) → m.pc + 4 < 2 ^ 64 → immediate_sum op m.sp (immediate_of imm shifted) ≡ to → Stands m.memory m.pc (i.SumImmediate op 31 31 imm shifted)
      → step code m ≡ slid_to m to
  slide_one m op imm shifted to low e c = sum_immediate_step code m op 31 31 imm shifted c ∙ rw (e, add64_small m.pc 4 low) refl

  -- by a number that is added or taken away at once, or in two parts
  slides_by : (m : Machine) (op : SumImmediateOp) (amount middle to : ℕ) → m.ended ≡ None → m.pc + 8 < 2 ^ 64 → immediate_sum op m.sp amount ≡ to → immediate_sum op m.sp (4096 * (amount / 4096)) ≡ middle → immediate_sum op middle (amount % 4096) ≡ to
      → HasCode m.memory m.pc (moved_by op 31 31 amount) → Slid code (length (moved_by op 31 31 amount)) m to
  slides_by m op amount middle to going low near far rest c = go (ltb amount 4096) c
    where
      go : (b : Bool) → HasCode m.memory m.pc (cond b (i.SumImmediate op 31 31 amount false ∷ []) (i.SumImmediate op 31 31 (amount / 4096) true ∷ i.SumImmediate op 31 31 (amount % 4096) false ∷ []))
          → Slid code (length (cond b (i.SumImmediate op 31 31 amount false ∷ []) (i.SumImmediate op 31 31 (amount / 4096) true ∷ i.SumImmediate op 31 31 (amount % 4096) false ∷ []))) m to
      go true c = record {
        later = slid_to m to;
        slides = record {
          runs = one code m (slid_to m to) going (slide_one m op amount false to (omega arith) near c.0);
          pc = omega arith;
          count = omega arith;
          sp = refl;
          registers = refl;
          memory = refl;
          input = refl;
          output = refl;
          log = refl;
          ended = going;
        };
      }
      go false c =
          let k = slid_to m middle in
          let first = one code m k going (slide_one m op (amount / 4096) true middle (omega arith) far c.0) in
          let second = one code k (slid_to k to) going (slide_one k op (amount % 4096) false to (omega arith) rest c.1.0) in
          record {
            later = slid_to k to;
            slides = record {
              runs = advance_by-add code [] 1 1 m ∙ (ap (advance_by code [] 1) first ∙ second);
              pc = omega arith;
              count = omega arith;
              sp = refl;
              registers = refl;
              memory = refl;
              input = refl;
              output = refl;
              log = refl;
              ended = going;
            };
          }

  pub slides_up : (m : Machine) (amount : ℕ) → m.ended ≡ None → m.pc + 8 < 2 ^ 64 → m.sp + amount < 2 ^ 64 → HasCode m.memory m.pc (moved_by immediate.Add 31 31 amount) → Slid code (length (moved_by immediate.Add 31 31 amount)) m (m.sp + amount)
  slides_up m amount going low fits c =
      slides_by m immediate.Add amount (m.sp + 4096 * (amount / 4096)) (m.sp + amount) going low (add64_small m.sp amount fits) (add64_small m.sp (4096 * (amount / 4096)) (omega arith))
      (add64_small (m.sp + 4096 * (amount / 4096)) (amount % 4096) (omega arith) ∙ omega arith) c

  pub slides_down : (m : Machine) (amount : ℕ) → m.ended ≡ None → m.pc + 8 < 2 ^ 64 → m.sp < 2 ^ 64 → amount ≤ m.sp → HasCode m.memory m.pc (moved_by immediate.Sub 31 31 amount) → Slid code (length (moved_by immediate.Sub 31 31 amount)) m (m.sp - amount)
  slides_down m amount going low fits some c =
      slides_by m immediate.Sub amount (m.sp - 4096 * (amount / 4096)) (m.sp - amount) going low (sub64_small m.sp amount some fits) (sub64_small m.sp (4096 * (amount / 4096)) (omega arith) fits)
      (sub64_small (m.sp - 4096 * (amount / 4096)) (amount % 4096) (omega arith) (omega arith) ∙ omega arith) c

-- ---- the epilogue

-- The function is left: the next instruction is at the return address that its caller signed. x0 is as it was.
pub record Left (code : Code) (m : Machine) (size back least most x0 : ℕ) : Type 0 where
  pub later : Machine
  pub number : ℕ
  pub some : least ≤ number
  pub few : number ≤ most
  pub runs : advance_by code [] number m ≡ later
  pub pc : later.pc ≡ back
  pub count : later.count ≡ m.count + number
  pub sp : later.sp ≡ m.sp + size
  pub result : register 0 later ≡ x0
  pub memory : later.memory ≡ m.memory
  pub input : later.input ≡ m.input
  pub output : later.output ≡ m.output
  pub ended : later.ended ≡ None
  pub taken : When
  pub landed : When
  pub known : Bool
  pub log : later.log ≡ record { when = landed; event = event.Land way.Return back } ∷ record { when = taken; event = event.Take IB (m.sp + size) back known } ∷ m.log

module _ (code : Code) (f : LirFn) (m : Machine) (running : IsRunning m) (frame : HasFrameAt f m) (room : m.pc + 32 < 2 ^ 64) (back : ℕ) (saved : load 8 m.memory (m.sp + 8) ≡ sign code IB (m.sp + size_of_frame f) back) (is_canonical : canonical back ≡ back) where
  -- behind the LDP
  abbrev read_back : Machine
  read_back = record m { registers = set (set m.registers 29 (load 8 m.memory (m.sp + 8 * 0))) 30 (load 8 m.memory (m.sp + 8 * 0 + 8)); pc = m.pc + 4; count = suc m.count }

  word_allowed : (i : ℕ) → i ≤ 8 → allowed Read m.memory (m.sp + i) 8 ≡ true
  word_allowed i low = allowed-part Read m.memory m.sp (size_of_frame f) i 8 frame.reads (omega arith)

  reads : HasCode m.memory m.pc (epilogue f) → step code m ≡ read_back
  reads c =
      let high = frame.low in
      ldp_sp_step code m (omega arith) 29 30 0 c.0 (omega arith) (ap (λ a. allowed Read m.memory a 8) (omega arith) ∙ word_allowed 0 (omega arith)) (ap (λ a. allowed Read m.memory a 8) (omega arith) ∙ word_allowed 8 (omega arith))

  link : register 30 read_back ≡ sign code IB (m.sp + size_of_frame f) back
  link =
      let wide = length-set m.registers 29 (load 8 m.memory (m.sp + 8 * 0)) ∙ running.wide in
      get_or-set_same (set m.registers 29 (load 8 m.memory (m.sp + 8 * 0))) 30 (load 8 m.memory (m.sp + 8 * 0 + 8)) 0 (omega (arith, wide))
      ∙ (ap (load 8 m.memory) (omega arith) ∙ saved)

  result : register 0 read_back ≡ register 0 m
  result =
      get_or-set_other (set m.registers 29 (load 8 m.memory (m.sp + 8 * 0))) 30 0 (load 8 m.memory (m.sp + 8 * 0 + 8)) 0 (λ e. omega arith)
      ∙ get_or-set_other m.registers 29 0 (load 8 m.memory (m.sp + 8 * 0)) 0 (λ e. omega arith)

  pub epilogue_leaves : HasCode m.memory m.pc (epilogue f) → Left code m (size_of_frame f) back 1 4 (register 0 m)
  epilogue_leaves c =
      let size = size_of_frame f in
      let high = frame.low in
      let up = moved_by immediate.Add 31 31 size in
      let short = length-moved_by immediate.Add 31 31 size in
      let parts = HasCode-append m.memory (m.pc + 4) up (i.Stack Retab ∷ []) c.1 in
      let slid = slides_up code read_back size running.going (omega arith) (omega arith) parts.0 in
      let k = slid.later in
      let s = slid.slides in
      let retab : Stands k.memory k.pc (i.Stack Retab) = subst (λ x. Stands x k.pc (i.Stack Retab)) (sym s.memory) (subst (λ p. Stands m.memory p (i.Stack Retab)) (sym s.pc) parts.1.0) in
      let there : register 30 k ≡ sign code IB (m.sp + size) back = ap (λ r. get_or r 30 0) s.registers ∙ link in
      let accepts : auth code IB k.sp (sign code IB (m.sp + size) back) ≡ Some back = ap (λ p. auth code IB p (sign code IB (m.sp + size) back)) s.sp ∙ auth-sign code IB (m.sp + size) back is_canonical in
      let last = one code k _ s.ended (retab_step code k (sign code IB (m.sp + size) back) back retab there accepts) in
      record {
        later = record k {
          pc = back;
          count = suc k.count;
          log = record { when = Step k.count; event = event.Land way.Return back } ∷ record { when = Step k.count; event = event.Take IB k.sp back (is_known k.log IB k.sp back) } ∷ k.log;
        };
        number = 1 + (length up + 1);
        some = omega arith;
        few = omega (arith, short);
        runs = advance_by-add code [] 1 (length up + 1) m
            ∙ (ap (advance_by code [] (length up + 1)) (one code m read_back running.going (reads c))
            ∙ (advance_by-add code [] (length up) 1 read_back ∙ (ap (advance_by code [] 1) s.runs ∙ last)));
        pc = refl;
        count = omega (arith, s.count);
        sp = s.sp;
        result = ap (λ r. get_or r 0 0) s.registers ∙ result;
        memory = s.memory;
        input = s.input;
        output = s.output;
        ended = s.ended;
        taken = Step k.count;
        landed = Step k.count;
        known = is_known k.log IB k.sp back;
        log = ap (λ p. record { when = Step k.count; event = event.Land way.Return back } ∷ record { when = Step k.count; event = event.Take IB p back (is_known k.log IB k.sp back) } ∷ k.log) s.sp
            ∙ ap (λ l. record { when = Step k.count; event = event.Land way.Return back } ∷ record { when = Step k.count; event = event.Take IB (m.sp + size) back (is_known k.log IB k.sp back) } ∷ l) s.log;
      }

-- ---- the operation

-- behind straight code that leaves memory and makes x0
left_then : (code : Code) (n : ℕ) (m middle : Machine) (touched : ℕ → Bool) (size back least most x0 : ℕ) → Goes code n m middle m.memory touched → Left code middle size back least most x0 → Left code m size back least (n + most) x0
left_then code n m middle touched size back least most x0 g h = record {
  later = h.later;
  number = n + h.number;
  some = omega (arith, h.some);
  few = omega (arith, h.few);
  runs = advance_by-add code [] n h.number m ∙ (ap (advance_by code [] h.number) g.runs ∙ h.runs);
  pc = h.pc;
  count = omega (arith, g.count, h.count);
  sp = h.sp ∙ ap (λ s. s + size) g.sp;
  result = h.result;
  memory = h.memory ∙ g.memory;
  input = h.input ∙ g.input;
  output = h.output ∙ g.output;
  ended = h.ended;
  taken = h.taken;
  landed = h.landed;
  known = h.known;
  log = h.log ∙ (ap (λ s. record { when = h.landed; event = event.Land way.Return back } ∷ record { when = h.taken; event = event.Take IB (s + size) back h.known } ∷ middle.log) g.sp
      ∙ ap (λ l. record { when = h.landed; event = event.Land way.Return back } ∷ record { when = h.taken; event = event.Take IB (m.sp + size) back h.known } ∷ l) g.log);
}

fewer : (code : Code) (m : Machine) (size back least most more x0 : ℕ) → most ≤ more → Left code m size back least most x0 → Left code m size back least more x0
fewer code m size back least most more x0 le h = record {
  later = h.later;
  number = h.number;
  some = h.some;
  few = omega (arith, h.few, le);
  runs = h.runs;
  pc = h.pc;
  count = h.count;
  sp = h.sp;
  result = h.result;
  memory = h.memory;
  input = h.input;
  output = h.output;
  ended = h.ended;
  taken = h.taken;
  landed = h.landed;
  known = h.known;
  log = h.log;
}

module _ (w : World) (addresses : Addresses) (o : Open) (m : Machine) (call : IsOpen addresses o m) (placed : IsPlaced w m.memory o.function) (at : IsAt w o m)
    (back : ℕ) (saved : load 8 m.memory (m.sp + 8) ≡ sign w.pac IB (m.sp + size_of_frame o.function) back) (is_canonical : canonical back ≡ back) where
  -- without a result
  pub none_returns : slice_get o.function.ops o.at ≡ Some (op.Return None) → Left w.pac m (size_of_frame o.function) back 1 6 (register 0 m)
  none_returns e =
      fewer w.pac m _ back 1 4 6 _ (omega arith)
      (epilogue_leaves w.pac o.function m call.running call.frame (omega (arith, room_at w o m placed at)) back saved is_canonical (code_of_op w o m (op.Return None) placed at e))

  -- with that of a temporary
  pub some_returns : (t : ℕ) → t < held o.function → slice_get o.function.ops o.at ≡ Some (op.Return (Some t)) → Left w.pac m (size_of_frame o.function) back 1 6 (slot o.function m t)
  some_returns t few e =
      let f = o.function in
      let low = room_at w o m placed at in
      let load_x0 = load_temp f 0 t in
      let parts = HasCode-append m.memory m.pc load_x0 (epilogue f) (code_of_op w o m (op.Return (Some t)) placed at e) in
      let made = loads_temp w.pac f m call.running call.frame (omega (arith, low)) 0 t (omega arith) few parts.0 in
      let k = made.later in
      let g = made.goes in
      let short = length-access Ldr 0 (place_of_temp f t) in
      let running = fine_later w.pac _ m k m.memory _ call.running g in
      let frame = frame_later w.pac f _ m k m.memory _ call.frame g in
      let still : load 8 k.memory (k.sp + 8) ≡ sign w.pac IB (k.sp + size_of_frame f) back =
      ap (λ x. load 8 x (k.sp + 8)) g.memory ∙ (ap (λ s. load 8 m.memory (s + 8)) g.sp ∙ (saved ∙ ap (λ s. sign w.pac IB (s + size_of_frame f) back) (sym g.sp))) in
      let rest = code_later w.pac _ m k m.memory _ (epilogue f) call.running g parts.1 in
      let left = epilogue_leaves w.pac f k running frame (omega (arith, g.pc, short, low)) back still is_canonical rest in
      fewer w.pac m _ back 1 (length load_x0 + 4) 6 _ (omega (arith, short))
      (left_then w.pac (length load_x0) m k _ _ back 1 4 (slot f m t) g (subst (Left w.pac k (size_of_frame f) back 1 4) made.value left))
