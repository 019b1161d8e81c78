-- A function whose call is made is entered, or answers if it is the runtime's: one unit of a run where a call is made.
use Rattle.std.proofs.Common.{◌≡◌, ℕ, suc, ◌+◌, ◌%◌, ◌≤◌, ◌<◌, Bool, true, false, List, [], ◌∷◌, ◌++◌, length, Option, Some, None, refl, sym, ap, subst, ◌∙◌, arith}
use Rattle.std.proofs.Math.Nat.{le-max_right}
use Rattle.std.proofs.lemmas.Slice.Eq.{bytes_eq-Decides}
use Rattle.std.specs.Prelude.{◌^◌, if◌then◌else◌}
use Rattle.std.specs.Str.{bytes_eq}
use Rattle.pa_pac.specs.Signing.{canonical}
use Rattle.pa_ctype.specs.Traces.{Enter}
use Rattle.pa_mem.specs.Memory.{load}
use Rattle.pa_object.specs.Machine.{Machine, register}
use Rattle.pa_object.specs.Effects.{first_or_end, behind_first}
use Rattle.pa_object.specs.Run.{advance_by}
use Rattle.pa_object.proofs.Growth.{advance_by-add}
use Rattle.pa_lir.specs.declared.function.LirFn.{LirFn}
use Rattle.pa_lir.specs.Parts.{frame_bound}
use Rattle.pa_lir.specs.Values.{FlatValue, Number, At, Code, Objects}
use Rattle.pa_lir.specs.Meaning.{Open, Coming, Flat, with_result, resumes, answers, prints, reads, byte_or_end, rest_of, born, enters, enters_named, entered, arrives, function_named, depth, putchar, getchar}
use Rattle.pa_selected.specs.Values.{Addresses, StandsFor, HasObjects}
use Rattle.pa_selected.specs.Worlds.{World, Names}
use Rattle.pa_selected.specs.Calls.{HasCallFrames, HasArguments, IsWaiting, GoesBack}
use Rattle.pa_selected.specs.Runs.{Simulates, IsWithinCosts, entry_cost}
use Rattle.pa_selected.specs.Whole.{DoesAs, stack_bytes}
use Rattle.pa_selected.proofs.Straight.{runs_on}
use Rattle.pa_selected.proofs.Keeping.{placed_later}
use Rattle.pa_selected.proofs.Giving.{HasState, newest_placed}
use Rattle.pa_selected.proofs.Comings.{Made}
use Rattle.pa_selected.proofs.Resuming.{canonical_low, back_low, resumes_moves}
use Rattle.pa_selected.proofs.Entries.{enters_function}
use Rattle.pa_selected.proofs.Imports.{Answered, prints_answer, reads_answer}
use Rattle.pa_selected.proofs.Showing.{keeps_then, shows_nothing}
use Rattle.pa_selected.proofs.States.{frames_depth, frame_fits, made_of, ready_simulates, most_of, within_of}

-- input is read alike
same_first : (input : List ℕ) → first_or_end input ≡ byte_or_end input
same_first [] = refl
same_first (byte ∷ bytes) = refl

same_rest : (input : List ℕ) → behind_first input ≡ rest_of input
same_rest [] = refl
same_rest (byte ∷ bytes) = refl

caller_named : (w : World) (addresses : Addresses) (objects : Objects) (o : Open) (os : List Open) (m : Machine) → HasCallFrames w addresses objects m.memory (length objects) m.sp (o ∷ os) → Names w o.function.name o.function
unfolding HasCallFrames
caller_named w addresses objects o os m frames = frames.0.named

-- ---- the runtime's functions

module _ (w : World) (addresses : Addresses) (objects : Objects) (os : List Open) (c : Coming) (m : Machine) (made : Made w addresses objects os c m) where
  -- an address that a call goes back to has no code in it
  back_canonical : (o : Open) (older : List Open) → os ≡ o ∷ older → canonical (register 30 m) ≡ register 30 m
  back_canonical o older e =
      let named = caller_named w addresses objects o older m (subst (HasCallFrames w addresses objects m.memory (length objects) m.sp) e made.frames) in
      let wait : IsWaiting w o c.into (register 30 m) = subst (λ os. GoesBack w os c.into (register 30 m)) e made.coming.back in
      let low = back_low w o c.into (register 30 m) wait m.memory (made.placed.functions o.function.name o.function named).1 in
      canonical_low (register 30 m) (omega (arith, low))

  behind_answer : (name : List ℕ) (byte : ℕ) (unread printed : List ℕ) (a : Answered w name m byte unread printed) → HasState w addresses objects os a.later
  behind_answer name byte unread printed a = record {
    running = runs_on w.pac 7 m a.later made.running a.runs a.ended;
    placed = placed_later w 7 m a.later made.running a.runs (ap (λ x. load 8 x (w.slot putchar)) a.memory) (ap (λ x. load 8 x (w.slot getchar)) a.memory) made.placed;
    room = let low = made.room in omega (arith, low, a.sp);
    lie = subst (HasObjects addresses objects) (sym a.memory) made.lie;
    slots = made.slots;
    frames = subst (λ x. HasCallFrames w addresses objects x (length objects) a.later.sp os) (sym a.memory)
        (subst (λ b. HasCallFrames w addresses objects m.memory (length objects) b os) (sym a.sp) made.frames);
  }

module _ (w : World) (started : ℕ) (s : Flat) (m : Machine) (addresses : Addresses) (simulates : Simulates w addresses s m) (within : IsWithinCosts started s m) (going : s.ended ≡ None) (c : Coming) (some : s.coming ≡ Some c) where
  abbrev Does : Flat → Type 0
  Does new = DoesAs w started m s new new.ended

  made : Made w addresses s.objects s.opens c m
  made = made_of w addresses s m c simulates some

  -- the state behind an answer, but for the open calls
  abbrev answered_with : (name input output : List ℕ) → Flat
  answered_with name input output = record s { coming = None; input = input; output = output; trace = Enter name ∷ s.trace }

  module _ (name : List ℕ) (byte : ℕ) (input output : List ℕ) where
    caller_resumed : (o : Open) (os : List Open) → s.opens ≡ o ∷ os → Answered w name m byte input output → (resumed : Option Open) → with_result c.into (Some (Number byte)) o ≡ resumed → Does (resumes resumed os (answered_with name input output))
    caller_resumed o os opens a None e = tt
    caller_resumed o os opens a (Some resumed) e =
        let here : Made w addresses s.objects (o ∷ os) c m = subst (λ os. Made w addresses s.objects os c m) opens made in
        let state = behind_answer w addresses s.objects (o ∷ os) c m here name byte input output a in
        let moves = resumes_moves w addresses s.objects o os a.later state c.into (register 30 m) here.coming.back a.pc (Some (Number byte)) resumed e
        (λ v q. subst (λ v. StandsFor addresses v (register 0 a.later)) (ap value_or q) a.result) in
        let second = moves.leads in
        let before = most_of started s m (Some c) (o ∷ os) some opens within in
        let fewest = within.fewest in
        let new : Flat = record (answered_with name input output) { opens = resumed ∷ os } in
        subst (DoesAs w started m s new) (sym going) (record {
          later = moves.later;
          number = 7 + second.number;
          runs = advance_by-add w.pac [] 7 second.number m ∙ (ap (advance_by w.pac [] second.number) a.runs ∙ second.runs);
          addresses = addresses;
          simulates = ready_simulates w addresses new moves.later resumed os moves.ready refl refl (second.input ∙ a.input) (second.output ∙ a.output);
          within = within_of started new moves.later None (resumed ∷ os) refl refl (omega (arith, fewest, a.count, second.count)) (let two = second.few in omega (arith, before, two, a.count, second.count));
          shows = keeps_then w s new new m a.later 7 second.number a.runs (a.shows s new refl) (shows_nothing w new new a.later moves.later second.number second.runs [] (λ trail log. refl) second.log refl);
        })
      where
        value_or : Option FlatValue → FlatValue
        value_or None = Number byte
        value_or (Some v) = v

    -- without an open call nothing goes on
    answer_does : ((o : Open) (os : List Open) → s.opens ≡ o ∷ os → Answered w name m byte input output) → (os : List Open) → s.opens ≡ os → Does (answers c.into (Number byte) (answered_with name input output) os)
    answer_does a [] opens = tt
    answer_does a (o ∷ os) opens = caller_resumed o os opens (a o os opens) (with_result c.into (Some (Number byte)) o) refl

  prints_does : c.name ≡ putchar → (arguments : List FlatValue) → HasArguments addresses m 0 arguments → Does (prints c.into arguments (record s { coming = None }))
  prints_does named [] h = tt
  prints_does named (Number x ∷ arguments) h =
      answer_does putchar (x % 256) s.input (s.output ++ x % 256 ∷ [])
      (λ o os opens. subst (λ y. Answered w putchar m (y % 256) s.input (s.output ++ y % 256 ∷ [])) h.0 (subst (λ i. Answered w putchar m (register 0 m % 256) i (s.output ++ register 0 m % 256 ∷ [])) simulates.input (subst (λ out. Answered w putchar m (register 0 m % 256) m.input (out ++ register 0 m % 256 ∷ [])) simulates.output
      (prints_answer w m made.running made.placed.putchar (made.coming.pc ∙ ap w.entry named) (made.placed.entries putchar) (back_canonical w addresses s.objects s.opens c m made o os opens))))) s.opens refl
  prints_does named (At object offset ∷ arguments) h = tt
  prints_does named (Code name schema ∷ arguments) h = tt

  reads_does : c.name ≡ getchar → Does (reads c.into (record s { coming = None }))
  reads_does named =
      answer_does getchar (byte_or_end s.input) (rest_of s.input) s.output
      (λ o os opens. subst (λ i. Answered w getchar m i (rest_of s.input) s.output) (same_first s.input) (subst (λ r. Answered w getchar m (first_or_end s.input) r s.output) (same_rest s.input)
      (subst (λ i. Answered w getchar m (first_or_end i) (behind_first i) s.output) simulates.input (subst (Answered w getchar m (first_or_end m.input) (behind_first m.input)) simulates.output
      (reads_answer w m made.running made.placed.getchar (made.coming.pc ∙ ap w.entry named) (made.placed.entries getchar) (back_canonical w addresses s.objects s.opens c m made o os opens)))))) s.opens refl

  -- ---- functions of the program

  enters_does : (f : LirFn) → Names w c.name f → (locals : Option Objects) → born f.parameters f.locals c.arguments ≡ locals → (enters f c.into (record s { coming = None }) locals).deep ≤ stack_bytes w → Does (enters f c.into (record s { coming = None }) locals)
  enters_does f named None e few = tt
  enters_does f named (Some locals) e few =
      let deeper = le-max_right s.deep (frame_bound f + depth s.opens) in
      let high = frames_depth w addresses s.objects m.memory (length s.objects) m.sp s.opens made.frames in
      let fits = frame_fits w f m.sp (depth s.opens) made.placed.stack.ordered high (omega (arith, few, deeper)) in
      let enter = enters_function w addresses s.objects s.opens c m made f named fits locals e in
      let leads = enter.leads in
      let before = most_of started s m (Some c) s.opens some refl within in
      let fewest = within.fewest in
      let new = enters f c.into (record s { coming = None }) (Some locals) in
      subst (DoesAs w started m s new) (sym going) (record {
        later = enter.later;
        number = leads.number;
        runs = leads.runs;
        addresses = addresses ++ enter.more;
        simulates = ready_simulates w (addresses ++ enter.more) new enter.later (entered f c.into s) s.opens enter.ready refl refl (leads.input ∙ simulates.input) (leads.output ∙ simulates.output);
        within = within_of started new enter.later None (entered f c.into s ∷ s.opens) refl refl (omega (arith, fewest, leads.count)) (let twelve = leads.few in omega (arith, before, twelve, leads.count));
        shows = enter.shows s new refl;
      })

  named_does : (f : Option LirFn) → function_named w.lir.functions c.name ≡ f → (enters_named c (record s { coming = None }) f).deep ≤ stack_bytes w → Does (enters_named c (record s { coming = None }) f)
  named_does None e few = tt
  named_does (Some f) e few = enters_does f e (born f.parameters f.locals c.arguments) refl few

  -- ---- any call that is made

  abbrev arrived : (prints_it reads_it : Bool) → Flat
  arrived prints_it reads_it =
      if prints_it then prints c.into c.arguments (record s { coming = None })
      else (if reads_it then reads c.into (record s { coming = None })
      else enters_named c (record s { coming = None }) (function_named w.lir.functions c.name))

  pub arrival_does : (arrives w.lir c (record s { coming = None })).deep ≤ stack_bytes w → Does (arrives w.lir c (record s { coming = None }))
  unfolding arrives
  arrival_does few = go (bytes_eq c.name putchar) (bytes_eq c.name getchar) refl refl few
    where
      go : (prints_it reads_it : Bool) → bytes_eq c.name putchar ≡ prints_it → bytes_eq c.name getchar ≡ reads_it → (arrived prints_it reads_it).deep ≤ stack_bytes w → Does (arrived prints_it reads_it)
      go true reads_it p q few = prints_does ((bytes_eq-Decides c.name putchar).0 p) c.arguments made.coming.arguments
      go false true p q few = reads_does ((bytes_eq-Decides c.name getchar).0 q)
      go false false p q few = named_does (function_named w.lir.functions c.name) refl few
