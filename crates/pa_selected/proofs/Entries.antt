-- A function that is called is entered: its frame is there, with the signed return address and the arguments in its parameters, and
-- the whole relation holds before its first operation.
use Rattle.std.proofs.Common.{◌≡◌, ℕ, suc, ◌+◌, ◌-◌, ◌*◌, ◌^◌, ◌≤◌, ◌<◌, true, List, [], ◌∷◌, ◌++◌, length, take, get_or, Option, Some, None, refl, sym, ap, subst, ◌∙◌, arith, get_or-set_other, set}
use Rattle.std.specs.Prelude.{pos, slice_get, slice_index}
use Rattle.std.specs.List.{sum_by}
use Rattle.std.proofs.lemmas.Option.{slice_get_within, get_or_from_slice_get}
use Rattle.std.proofs.lemmas.List.{length-append, length-take, get_or-take}
use Rattle.std.proofs.lemmas.List.Sums.{sum_by-le}
use Rattle.std.proofs.lemmas.Bool.{ne_eqb}
use Rattle.pa_pac.specs.declared.key.Key.TheVariants.{IB}
use Rattle.pa_pac.specs.declared.event.Event.TheVariants as event
use Rattle.pa_pac.specs.declared.event.When.TheVariants.{Step}
use Rattle.pa_pac.specs.Signing.{sign}
use Rattle.pa_a64.specs.declared.instr.Instr.TheVariants as i
use Rattle.pa_a64.specs.declared.instr.LoadStorePairOp.TheVariants.{Stp}
use Rattle.pa_a64.specs.declared.instr.SumImmediateOp.TheVariants as immediate
use Rattle.pa_mem.specs.Memory.{Right, Read, Write, allowed, load, store, byte_at}
use Rattle.pa_mem.proofs.Bytes.{allowed-part}
use Rattle.pa_mem.proofs.Ranges.{load-alike, byte_at-store-other}
use Rattle.pa_object.specs.Machine.{Machine, register}
use Rattle.pa_object.specs.Run.{advance_by}
use Rattle.pa_object.specs.Placed.{HasCode}
use Rattle.pa_object.proofs.Placed.{HasCode-append}
use Rattle.pa_object.proofs.Growth.{advance_by-add}
use Rattle.pa_lir.specs.declared.function.LirLocal.{LirLocal}
use Rattle.pa_lir.specs.declared.function.LirFn.{LirFn}
use Rattle.pa_lir.specs.Parts.{rounded}
use Rattle.pa_lir.specs.Values.{FlatValue, Objects}
use Rattle.pa_lir.specs.Meaning.{Open, Coming, Flat, born, temp_in, putchar, getchar}
use Rattle.pa_frame.specs.Frames.{place_of_temp, size_of_frame}
use Rattle.pa_frame.proofs.Places.{bytes_within}
use Rattle.pa_select.specs.Accesses.{moved_by}
use Rattle.pa_select.specs.Selected.{prologue, store_parameters}
use Rattle.pa_select.proofs.Costs.{length-moved_by}
use Rattle.pa_selected.specs.Values.{Addresses, Living, HasObjects}
use Rattle.pa_selected.specs.Worlds.{World, IsOff, IsPlaced, Names, HasCodeAndStack, linked_body}
use Rattle.pa_selected.specs.Calls.{IsRunning, HasFrameAt, HasArguments, HasCallFrames}
use Rattle.pa_ctype.specs.Traces.{Enter}
use Rattle.pa_object.proofs.Steps.{pacibsp_step}
use Rattle.pa_selected.specs.Whole.{KeepsShown}
use Rattle.pa_selected.proofs.Showing.{shows_entry}
use Rattle.pa_selected.proofs.Straight.{runs_on, code_stays, allowed_stays}
use Rattle.pa_selected.proofs.Keeping.{frames_end, placed_later, frame_at}
use Rattle.pa_selected.proofs.Entering.{Opened, opening, opens}
use Rattle.pa_selected.proofs.Parameters.{AllLie, AreParameters, StoresArguments, arguments_later, all_stored}
use Rattle.pa_selected.proofs.Born.{local_places, arguments_more, below_free, objects_born, frames_born, words_born, older_born, younger_born, word_off, locals_born}
use Rattle.pa_selected.proofs.Giving.{Ready}
use Rattle.pa_selected.proofs.Comings.{Made}
use Rattle.pa_selected.proofs.Resuming.{LeadsLogging}

-- the newest call, at its first operation
abbrev pub entered_call : LirFn → (first : ℕ) → Option ℕ → Open
entered_call f first into = record { function = f; at = 0; temps = []; first = first; into = into }

-- So many instructions lead to the first operation of a function that was called. Its locals have new addresses.
pub record Enters (w : World) (addresses : Addresses) (objects locals : Objects) (f : LirFn) (into : Option ℕ) (os : List Open) (m : Machine) : Type 0 where
  pub later : Machine
  pub more : Addresses
  pub leads : LeadsLogging w 1 12 m later (record { when = Step m.count; event = event.Sign IB m.sp (register 30 m) (sign w.pac IB m.sp (register 30 m)) } ∷ [])
  pub ready : Ready w (addresses ++ more) (objects ++ locals) (entered_call f (length objects) into) os later
  pub shows : (before now : Flat) → now.trace ≡ Enter f.name ∷ before.trace → KeepsShown w before now m leads.number

few_parameters : (f : LirFn) (w : World) (m : Machine) → IsPlaced w m.memory f → AreParameters w.pac f [] f.parameters 0 f.locals
few_parameters f w m placed =
    let parameters = placed.selectable.well_formed.parameters in
    let small = parameters.small in
    record {
      places = λ k l e. subst (λ j. slice_get f.locals j ≡ Some l) (omega arith) e;
      small = λ k l low e. small_at k l low e;
      count = omega arith;
      few = parameters.few;
      low = let most = sum_by-le rounded 8 (take f.parameters f.locals) (λ k d low. rounded_small (get_or (take f.parameters f.locals) k d) (small k d low)) in let few = parameters.few in omega (arith, most, few, length-take f.parameters f.locals);
    }
  where
    rounded_small : (l : LirLocal) → l.size ≤ 8 → rounded l ≤ 8
    rounded_small l h = omega (arith, h)

    small_at : (k : ℕ) (l : LirLocal) → k < f.parameters → slice_get f.locals k ≡ Some l → l.size ≤ 8
    small_at k l low e =
        let within = slice_get_within f.locals k l e in
        let taken : get_or (take f.parameters f.locals) k l ≡ l = get_or-take f.parameters f.locals k l low ∙ get_or_from_slice_get f.locals k l l e in
        subst (λ (x : LirLocal). x.size ≤ 8) taken (placed.selectable.well_formed.parameters.small k l (omega (arith, within, low, length-take f.parameters f.locals)))

module _ (w : World) (addresses : Addresses) (objects : Objects) (os : List Open) (c : Coming) (m : Machine) (made : Made w addresses objects os c m) (f : LirFn) (named : Names w c.name f) (fits : w.low + size_of_frame f ≤ m.sp) where
  abbrev base : ℕ
  base = m.sp - size_of_frame f

  abbrev new : Addresses
  new = local_places f base 0 f.locals

  same_name : f.name ≡ c.name
  same_name = (made.placed.functions c.name f named).0

  placed : IsPlaced w m.memory f
  placed = (made.placed.functions c.name f named).1

  room : m.pc + 4 * length (prologue f) + 64 < 2 ^ 47
  room = let low = placed.low in let pc = made.coming.pc in omega (arith, low, pc, ap w.entry same_name)

  code : HasCode m.memory m.pc (prologue f)
  code = subst (λ p. HasCode m.memory p (prologue f)) (ap w.entry same_name ∙ sym made.coming.pc) (HasCode-append m.memory (w.entry f.name) (prologue f) (linked_body w f (length (prologue f)) f.ops) placed.code).0

  high : m.sp ≤ w.top
  high = frames_end w addresses objects m.memory (length objects) m.sp os made.frames

  stack_allowed : (right : Right) → allowed right m.memory w.low (w.top - w.low) ≡ true → allowed right m.memory base (size_of_frame f) ≡ true
  stack_allowed right may =
      ap (λ a. allowed right m.memory a (size_of_frame f)) (omega (arith, fits)) ∙ allowed-part right m.memory w.low (w.top - w.low) (base - w.low) (size_of_frame f) may (omega (arith, fits, high))

  -- ---- the frame is there

  opened : Opened w.pac f m
  opened = opens w.pac f m made.running (omega (arith, room)) (omega (arith, fits)) (stack_allowed Write made.placed.stack.writes) code

  abbrev middle : Machine
  middle = opened.later

  outside_opened : (at : ℕ) → (at < base + 16 → at < base) → byte_at middle.memory at ≡ byte_at m.memory at
  outside_opened at off =
      ap (λ x. byte_at x at) opened.memory
      ∙ (byte_at-store-other 8 (store 8 m.memory base (register 29 m)) (base + 8) (sign w.pac IB m.sp (register 30 m)) at (λ below. let there = off (omega (arith, below)) in omega (arith, there))
      ∙ byte_at-store-other 8 m.memory base (register 29 m) at (λ below. off (omega (arith, below))))

  running_opened : IsRunning middle
  running_opened = runs_on w.pac (opening f) m middle made.running opened.runs opened.ended

  frame_opened : HasFrameAt f middle
  frame_opened = record {
    reads = ap (λ s. allowed Read middle.memory s (size_of_frame f)) opened.sp ∙ (allowed_stays w.pac (opening f) m middle opened.runs Read base (size_of_frame f) ∙ stack_allowed Read made.placed.stack.reads);
    writes = ap (λ s. allowed Write middle.memory s (size_of_frame f)) opened.sp ∙ (allowed_stays w.pac (opening f) m middle opened.runs Write base (size_of_frame f) ∙ stack_allowed Write made.placed.stack.writes);
    low = let top = made.placed.stack.low in omega (arith, opened.sp, top, high, fits);
  }

  -- ---- the arguments are stored

  rest : HasCode middle.memory middle.pc (store_parameters f 0 (take f.parameters f.locals))
  rest =
      let down = moved_by immediate.Sub 31 31 (size_of_frame f) in
      let stores = store_parameters f 0 (take f.parameters f.locals) in
      let parts = HasCode-append m.memory (m.pc + 4) down (i.LoadStorePair Stp 29 30 31 (pos 0) ∷ stores) code.1 in
      code_stays w.pac (opening f) m middle made.running opened.runs stores middle.pc (subst (λ p. HasCode m.memory p stores) (omega (arith, opened.pc)) parts.1.1)

  module _ (locals : Objects) (e : born f.parameters f.locals c.arguments ≡ Some locals) where
    stored : StoresArguments w.pac f (addresses ++ new) middle (length (store_parameters f 0 (take f.parameters f.locals))) f.parameters 0 f.locals locals
    stored =
        let parameters = few_parameters f w m placed in
        let eight = parameters.few in
        let few = made.coming.few in
        all_stored w.pac f (addresses ++ new) f.parameters 0 f.locals c.arguments locals middle running_opened frame_opened (omega (arith, opened.pc, room, eight, length-moved_by immediate.Sub 31 31 (size_of_frame f)))
        (record { places = parameters.places; small = parameters.small; count = parameters.count; few = parameters.few; low = parameters.low }) (omega (arith, few))
        (arguments_later (addresses ++ new) m middle 0 c.arguments (omega (arith, few)) (λ k low. ap (λ r. get_or r k 0) opened.registers ∙ get_or-set_other m.registers 30 k (sign w.pac IB m.sp (register 30 m)) 0 (λ same. omega (arith, same, low))) (arguments_more addresses new m 0 c.arguments made.coming.arguments)) e rest

    abbrev later : Machine
    later = stored.later

    abbrev number : ℕ
    number = opening f + length (store_parameters f 0 (take f.parameters f.locals))

    runs : advance_by w.pac [] number m ≡ later
    runs = advance_by-add w.pac [] (opening f) (length (store_parameters f 0 (take f.parameters f.locals))) m ∙ (ap (advance_by w.pac [] (length (store_parameters f 0 (take f.parameters f.locals)))) opened.runs ∙ stored.goes.runs)

    temps_inside : 96 ≤ place_of_temp f 0
    temps_inside = omega arith

    frame_end : base + place_of_temp f 0 ≤ m.sp
    frame_end = omega (arith, fits, bytes_within f.locals f.parameters)

    outside : (at : ℕ) → (at < m.sp → at < base) → byte_at later.memory at ≡ byte_at m.memory at
    outside at off =
        stored.outside at (λ below. let there = off (omega (arith, below, opened.sp, frame_end)) in omega (arith, there, opened.sp))
        ∙ outside_opened at (λ below. off (omega (arith, below, frame_end, temps_inside)))

    word_outside : (at : ℕ) → IsOff at 8 w.low w.top → load 8 later.memory at ≡ load 8 m.memory at
    word_outside at off = load-alike 8 m.memory later.memory at (λ k from to. outside k (λ below. omega (arith, off, from, to, below, high, fits)))

    saved : load 8 later.memory (base + 8) ≡ sign w.pac IB (base + size_of_frame f) (register 30 m)
    saved =
        load-alike 8 middle.memory later.memory (base + 8) (λ k from to. stored.outside k (λ below. omega (arith, to, opened.sp)))
        ∙ (opened.saved ∙ ap (λ s. sign w.pac IB s (register 30 m)) (omega (arith, fits)))

    whole : base + size_of_frame f ≡ m.sp
    whole = omega (arith, fits)

    free : Living addresses objects (λ p object at size. IsOff at size w.low m.sp)
    free p q e a = below_free w addresses objects m.memory (length objects) m.sp os made.frames p q e a (slice_get_within objects p q e)

    all : AllLie f (addresses ++ new) later.memory base 0 f.locals locals
    all = subst (λ b. AllLie f (addresses ++ new) later.memory b 0 f.locals locals) opened.sp stored.lie

    stays : (right : Right) (at k : ℕ) → allowed right later.memory at k ≡ allowed right m.memory at k
    stays right at k = allowed_stays w.pac number m later runs right at k

    above : w.low ≤ base
    above = omega (arith, fits)

    top_fits : m.sp < 2 ^ 63
    top_fits = let top = made.placed.stack.low in omega (arith, high, top)

    frame_reads : allowed Read m.memory base (size_of_frame f) ≡ true
    frame_reads = stack_allowed Read made.placed.stack.reads

    frame_writes : allowed Write m.memory base (size_of_frame f) ≡ true
    frame_writes = stack_allowed Write made.placed.stack.writes

    lies : HasObjects (addresses ++ new) (objects ++ locals) later.memory
    lies = objects_born w f addresses objects locals m.memory later.memory m.sp base whole above made.lie all free outside top_fits made.placed.stack.some stays frame_reads frame_writes

    frames : HasCallFrames w (addresses ++ new) (objects ++ locals) later.memory (length (objects ++ locals)) base (entered_call f (length objects) c.into ∷ os)
    unfolding HasCallFrames temp_in
    frames = (
      record {
        named = subst (λ n. Names w n f) (sym same_name) named;
        back = register 30 m;
        saved = saved;
        caller = made.coming.back;
        temps = λ t value e. cc;
        locals = let there = locals_born w f addresses objects locals m.memory later.memory m.sp base whole above made.lie all free outside top_fits made.placed.stack.some stays frame_reads frame_writes in record { count = there.count; places = there.places };
        words = words_born w f addresses objects locals m.memory later.memory m.sp base whole above made.lie all free outside top_fits made.placed.stack.some stays frame_reads frame_writes;
        older = λ p q e a before. subst (λ s. IsOff (slice_index (addresses ++ new) p) (length q.bytes) w.low s) (sym whole) (older_born w f addresses objects locals m.memory later.memory m.sp base whole above made.lie all free outside top_fits made.placed.stack.some stays frame_reads frame_writes p q e a before);
        younger = λ p q e a before. younger_born w f addresses objects locals m.memory later.memory m.sp base whole above made.lie all free outside top_fits made.placed.stack.some stays frame_reads frame_writes p before;
      },
      subst (λ s. HasCallFrames w (addresses ++ new) (objects ++ locals) later.memory (length objects) s os) (sym whole)
          (frames_born w f addresses objects locals m.memory later.memory m.sp base whole above made.lie all free outside top_fits made.placed.stack.some stays frame_reads frame_writes (length objects) m.sp os (omega arith) (omega arith) made.frames),
    )

    code_length : length (prologue f) ≡ number
    code_length = omega (arith, length-append (moved_by immediate.Sub 31 31 (size_of_frame f)) (i.LoadStorePair Stp 29 30 31 (pos 0) ∷ store_parameters f 0 (take f.parameters f.locals)))

    pub enters_function : Enters w addresses objects locals f c.into os m
    enters_function =
        let few = stored.few in
        let eight = placed.selectable.well_formed.parameters.few in
        let short = length-moved_by immediate.Sub 31 31 (size_of_frame f) in
        let putchar_same = word_outside (w.slot putchar) made.placed.putchar.off in
        let getchar_same = word_outside (w.slot getchar) made.placed.getchar.off in
        record {
          later = later;
          more = new;
          leads = record {
            number = number;
            runs = runs;
            some = omega arith;
            few = omega (arith, few, eight, short);
            count = omega (arith, stored.goes.count, opened.count);
            input = stored.goes.input ∙ opened.input;
            output = stored.goes.output ∙ opened.output;
            log = stored.goes.log ∙ opened.log;
          };
          shows = λ before now trace.
              let pc = made.coming.pc in
              shows_entry w before now m later number runs code.0 _ made.running.going (pacibsp_step w.pac m (omega (arith, room)) (register 30 m) code.0 refl) refl (omega arith) [] (λ trail log. refl)
              m.sp (register 30 m) (sign w.pac IB m.sp (register 30 m)) (stored.goes.log ∙ opened.log) f.name (pc ∙ (ap w.entry (sym same_name) ∙ sym placed.first)) trace;
          ready = record {
            running = runs_on w.pac number m later made.running runs stored.goes.ended;
            placed = placed_later w number m later made.running runs putchar_same getchar_same made.placed;
            room = omega (arith, stored.goes.sp, opened.sp, fits);
            lie = lies;
            slots = λ p q e a. (
              word_off w f addresses objects locals m.memory later.memory m.sp base whole above made.lie all free outside top_fits made.placed.stack.some stays frame_reads frame_writes (w.slot putchar) made.placed.putchar.off high (λ p q e a. (made.slots p q e a).0) p q e a,
              word_off w f addresses objects locals m.memory later.memory m.sp base whole above made.lie all free outside top_fits made.placed.stack.some stays frame_reads frame_writes (w.slot getchar) made.placed.getchar.off high (λ p q e a. (made.slots p q e a).1) p q e a,
            );
            frames = subst (λ s. HasCallFrames w (addresses ++ new) (objects ++ locals) later.memory (length (objects ++ locals)) s (entered_call f (length objects) c.into ∷ os)) (sym (stored.goes.sp ∙ opened.sp)) frames;
            at = let pc = made.coming.pc in omega (arith, stored.goes.pc, opened.pc, pc, ap w.entry same_name, code_length);
          };
        }
