-- A call of a function of the runtime: through its stub, in it, and back behind the call.
use Rattle.std.proofs.Common.{◌≡◌, ℕ, suc, ◌+◌, ◌-◌, ◌%◌, ◌^◌, ◌≤◌, ◌<◌, true, List, [], ◌∷◌, ◌++◌, length, get_or, set, None, refl, sym, ap, subst, ◌∙◌, arith, length-set, get_or-set_same, get_or-set_other}
use Rattle.pa_pac.specs.declared.key.Key.TheVariants.{IA, IB}
use Rattle.pa_pac.specs.declared.event.Way.TheVariants as way
use Rattle.pa_pac.specs.declared.event.Event.TheVariants as event
use Rattle.pa_pac.specs.declared.event.When.TheVariants.{Step}
use Rattle.std.specs.Prelude.{◌==◌}
use Rattle.std.specs.List.{list_any}
use Rattle.std.proofs.lemmas.Bool.{eq-eqb, or_right}
use Rattle.pa_ctype.specs.Traces.{Enter}
use Rattle.pa_lir.specs.Meaning.{Flat}
use Rattle.pa_pac.specs.Log.{is_known}
use Rattle.pa_pac.specs.Signing as signing
use Rattle.pa_pac.specs.Signing.{canonical, sign, auth}
use Rattle.pa_pac.proofs.Laws.{auth-sign}
use Rattle.pa_a64.specs.declared.instr.Instr.TheVariants as i
use Rattle.pa_a64.specs.declared.instr.StackOp.TheVariants.{Retab, Pacibsp}
use Rattle.pa_a64.specs.declared.instr.ExceptionOp.TheVariants.{Svc}
use Rattle.pa_mem.specs.Memory.{load}
use Rattle.pa_object.specs.Machine.{Machine, register, next}
use Rattle.pa_object.specs.Effects.{prints, reads, first_or_end, behind_first}
use Rattle.pa_lir.specs.Meaning.{putchar, getchar}
use Rattle.pa_object.specs.Placed.{Stands, HasCode}
use Rattle.pa_object.specs.Run.{Watched, step, advance_by}
use Rattle.pa_object.specs.Stub.{stub}
use Rattle.pa_object.proofs.Growth.{advance_by-add}
use Rattle.pa_object.proofs.Steps.{add64_small, watching, pacibsp_step, retab_step}
use Rattle.pa_object.proofs.StepsBranching.{svc_print_step, svc_read_step}
use Rattle.pa_object.proofs.Shapes.{shape-import, shape-jump}
use Rattle.pa_object.proofs.StepsRun.{shape-return}
use Rattle.pa_object.proofs.Stub.{behind_stub, stub_jumps}
use Rattle.pa_selected.specs.Worlds.{World, IsImported, IsCodeAddress}
use Rattle.pa_selected.specs.Calls.{IsRunning}
use Rattle.pa_selected.specs.Runs.{import_slots}
use Rattle.pa_selected.specs.Whole.{KeepsShown}
use Rattle.pa_selected.proofs.Straight.{one}
use Rattle.pa_selected.proofs.Showing.{watched_machine, keeps_then, shows_nothing, shows_entry}

-- A function of the runtime has run: the next instruction is where its call goes back to, and x0 has what it gives.
pub record Answered (w : World) (name : List ℕ) (m : Machine) (byte : ℕ) (unread printed : List ℕ) : Type 0 where
  pub later : Machine
  pub runs : advance_by w.pac [] 7 m ≡ later
  pub pc : later.pc ≡ register 30 m
  pub count : later.count ≡ m.count + 7
  pub sp : later.sp ≡ m.sp
  pub result : register 0 later ≡ byte
  pub memory : later.memory ≡ m.memory
  pub input : later.input ≡ unread
  pub output : later.output ≡ printed
  pub ended : later.ended ≡ None
  pub shows : (before now : Flat) → now.trace ≡ Enter name ∷ before.trace → KeepsShown w before now m 7

module _ (w : World) (name : List ℕ) (number : ℕ) (m : Machine) (running : IsRunning m) (imported : IsImported w m.memory name number) (pc : m.pc ≡ w.entry name) (low : w.entry name + 16 < 2 ^ 47) (back : canonical (register 30 m) ≡ register 30 m)
    (is_slot : list_any (λ slot. slot == w.slot name) (import_slots w) ≡ true) (byte : ℕ) (input output : List ℕ)
    (answers : (k : Machine) → Stands k.memory k.pc (i.Exception Svc number) → k.input ≡ m.input → k.output ≡ m.output → register 0 k ≡ register 0 m → step w.pac k ≡ next (record k { registers = set k.registers 0 byte; input = input; output = output })) where
  abbrev behind : Machine
  behind = behind_stub w.pac (w.slot name) (w.first name) m

  reaches : advance_by w.pac [] 4 m ≡ behind
  reaches =
      let jumps = stub_jumps w.pac m [] (w.slot name) (w.first name) (subst (λ p. HasCode m.memory p (stub p (w.slot name))) (sym pc) imported.stub) running.going running.wide (omega (arith, pc, low)) (let fits = imported.slot_low in omega (arith, fits)) imported.reads imported.accepted in
      sym (watched_machine w.pac 4 (watching m [])) ∙ ap (λ (x : Watched). x.machine) jumps.runs

  abbrev link : ℕ
  link = sign w.pac IB m.sp (register 30 m)

  link_there : get_or behind.registers 30 0 ≡ register 30 m
  link_there =
      get_or-set_other (set (set m.registers 17 (w.slot name - w.slot name % 4096)) 17 (w.slot name)) 16 30 (load 8 m.memory (w.slot name)) 0 (λ e. omega arith)
      ∙ (get_or-set_other (set m.registers 17 (w.slot name - w.slot name % 4096)) 17 30 (w.slot name) 0 (λ e. omega arith) ∙ get_or-set_other m.registers 17 30 (w.slot name - w.slot name % 4096) 0 (λ e. omega arith))

  x0_there : get_or behind.registers 0 0 ≡ register 0 m
  x0_there =
      get_or-set_other (set (set m.registers 17 (w.slot name - w.slot name % 4096)) 17 (w.slot name)) 16 0 (load 8 m.memory (w.slot name)) 0 (λ e. omega arith)
      ∙ (get_or-set_other (set m.registers 17 (w.slot name - w.slot name % 4096)) 17 0 (w.slot name) 0 (λ e. omega arith) ∙ get_or-set_other m.registers 17 0 (w.slot name - w.slot name % 4096) 0 (λ e. omega arith))

  wide : length behind.registers ≡ 31
  wide = length-set _ _ _ ∙ (length-set _ _ _ ∙ (length-set _ _ _ ∙ running.wide))

  -- behind the PACIBSP
  abbrev signed : Machine
  signed = record behind {
    registers = set behind.registers 30 link;
    pc = w.first name + 4;
    count = suc behind.count;
    log = record { when = Step behind.count; event = event.Sign IB m.sp (register 30 m) link } ∷ behind.log;
  }

  signs : step w.pac behind ≡ signed
  signs = pacibsp_step w.pac behind (let high = imported.low in omega (arith, high)) (register 30 m) imported.code.0 link_there

  -- behind the SVC
  abbrev answered : Machine
  answered = next (record signed { registers = set signed.registers 0 byte; input = input; output = output })

  gives : step w.pac signed ≡ answered
  gives = answers signed imported.code.1.0 refl refl (get_or-set_other behind.registers 30 0 link 0 (λ e. omega arith) ∙ x0_there)

  answered_pc : answered.pc ≡ w.first name + 4 + 4
  answered_pc = add64_small (w.first name + 4) 4 (let high = imported.low in omega (arith, high))

  link_kept : get_or answered.registers 30 0 ≡ link
  link_kept = get_or-set_other signed.registers 0 30 byte 0 (λ e. omega arith) ∙ get_or-set_same behind.registers 30 link 0 (omega (arith, wide))

  abbrev left : Machine
  left = record answered {
    pc = register 30 m;
    count = suc answered.count;
    log = record { when = Step answered.count; event = event.Land way.Return (register 30 m) } ∷ record { when = Step answered.count; event = event.Take IB m.sp (register 30 m) (is_known answered.log IB m.sp (register 30 m)) } ∷ answered.log;
  }

  returns : step w.pac answered ≡ left
  returns = retab_step w.pac answered link (register 30 m) (subst (λ p. Stands m.memory p (i.Stack Retab)) (sym answered_pc) imported.code.1.1.0) link_kept (auth-sign w.pac IB m.sp (register 30 m) back)

  x0_given : register 0 left ≡ byte
  x0_given = get_or-set_same signed.registers 0 byte 0 (omega (arith, length-set behind.registers 30 link, wide))

  -- ---- what is shown

  -- the jump shows nothing, since its pointer is that of an import
  jump_shows : (before : Flat) → KeepsShown w before before m 4
  jump_shows before =
      shows_nothing w before before m behind 4 reaches
      (record { when = Step (m.count + 3); event = event.Land way.Jump (w.first name) } ∷ record { when = Step (m.count + 3); event = event.Take IA (w.slot name) (w.first name) (is_known m.log IA (w.slot name) (w.first name)) } ∷ [])
      (λ trail log. shape-jump (import_slots w) trail (Step (m.count + 3)) (record { when = Step (m.count + 3); event = event.Take IA (w.slot name) (w.first name) (is_known m.log IA (w.slot name) (w.first name)) } ∷ log) (w.first name)
      ∙ shape-import (import_slots w) trail (Step (m.count + 3)) log (w.slot name) (w.first name) (is_known m.log IA (w.slot name) (w.first name)) is_slot)
      (ap (λ n. record { when = Step n; event = event.Land way.Jump (w.first name) } ∷ record { when = Step n; event = event.Take IA (w.slot name) (w.first name) (is_known m.log IA (w.slot name) (w.first name)) } ∷ m.log) (omega arith)) refl

  answered_runs : advance_by w.pac [] 3 behind ≡ left
  answered_runs =
      advance_by-add w.pac [] 1 2 behind ∙ (ap (advance_by w.pac [] 2) (one w.pac behind signed running.going signs)
      ∙ (advance_by-add w.pac [] 1 1 signed ∙ (ap (advance_by w.pac [] 1) (one w.pac signed answered running.going gives) ∙ one w.pac answered left running.going returns)))

  -- the function is entered
  function_shows : (before now : Flat) → now.trace ≡ Enter name ∷ before.trace → KeepsShown w before now behind 3
  function_shows before now trace =
      let known = is_known answered.log IB m.sp (register 30 m) in
      shows_entry w before now behind left 3 answered_runs imported.code.0 signed running.going signs refl (omega arith)
      (record { when = Step answered.count; event = event.Land way.Return (register 30 m) } ∷ record { when = Step answered.count; event = event.Take IB m.sp (register 30 m) known } ∷ [])
      (λ trail log. shape-return (import_slots w) trail (Step answered.count) (Step answered.count) m.sp (register 30 m) (register 30 m) known log)
      m.sp (register 30 m) link refl name refl trace

  pub import_answers : Answered w name m byte input output
  import_answers = record {
    later = left;
    runs = advance_by-add w.pac [] 4 3 m ∙ (ap (advance_by w.pac [] 3) reaches ∙ answered_runs);
    pc = refl;
    count = omega arith;
    sp = refl;
    result = x0_given;
    memory = refl;
    input = refl;
    output = refl;
    ended = running.going;
    shows = λ before now trace. keeps_then w before before now m behind 4 3 reaches (jump_shows before) (function_shows before now trace);
  }

-- both slots are those of imports
first_is : (a b : ℕ) → list_any (λ slot. slot == a) (a ∷ b ∷ []) ≡ true
first_is a b = rw (eq-eqb a a refl) refl

second_is : (a b : ℕ) → list_any (λ slot. slot == b) (a ∷ b ∷ []) ≡ true
second_is a b = or_right (a == b) _ (rw (eq-eqb b b refl) refl)

-- The low byte of x0 is printed, and x0 has it.
pub prints_answer : (w : World) (m : Machine) → IsRunning m → IsImported w m.memory putchar 1 → m.pc ≡ w.entry putchar → IsCodeAddress (w.entry putchar) → canonical (register 30 m) ≡ register 30 m
    → Answered w putchar m (register 0 m % 256) m.input (m.output ++ register 0 m % 256 ∷ [])
prints_answer w m running imported pc address back =
    import_answers w putchar 1 m running imported pc address.low back (first_is (w.slot putchar) (w.slot getchar)) (register 0 m % 256) m.input (m.output ++ register 0 m % 256 ∷ [])
    (λ k c input output x0. svc_print_step w.pac k c ∙ same k input output x0)
  where
    same : (k : Machine) → k.input ≡ m.input → k.output ≡ m.output → register 0 k ≡ register 0 m → next (prints k) ≡ next (record k { registers = set k.registers 0 (register 0 m % 256); input = m.input; output = m.output ++ register 0 m % 256 ∷ [] })
    same k input output x0 =
        ap (λ x. next (record k { registers = set k.registers 0 (x % 256); input = k.input; output = k.output ++ x % 256 ∷ [] })) x0
        ∙ (ap (λ out. next (record k { registers = set k.registers 0 (register 0 m % 256); input = k.input; output = out ++ register 0 m % 256 ∷ [] })) output
        ∙ ap (λ i. next (record k { registers = set k.registers 0 (register 0 m % 256); input = i; output = m.output ++ register 0 m % 256 ∷ [] })) input)

-- The next byte is read into x0, or -1.
pub reads_answer : (w : World) (m : Machine) → IsRunning m → IsImported w m.memory getchar 2 → m.pc ≡ w.entry getchar → IsCodeAddress (w.entry getchar) → canonical (register 30 m) ≡ register 30 m
    → Answered w getchar m (first_or_end m.input) (behind_first m.input) m.output
reads_answer w m running imported pc address back =
    import_answers w getchar 2 m running imported pc address.low back (second_is (w.slot putchar) (w.slot getchar)) (first_or_end m.input) (behind_first m.input) m.output
    (λ k c input output x0. svc_read_step w.pac k c ∙ same k input output)
  where
    same : (k : Machine) → k.input ≡ m.input → k.output ≡ m.output → next (reads k) ≡ next (record k { registers = set k.registers 0 (first_or_end m.input); input = behind_first m.input; output = m.output })
    same k input output =
        ap (λ i. next (record k { registers = set k.registers 0 (first_or_end i); input = behind_first i; output = k.output })) input
        ∙ ap (λ out. next (record k { registers = set k.registers 0 (first_or_end m.input); input = behind_first m.input; output = out })) output
