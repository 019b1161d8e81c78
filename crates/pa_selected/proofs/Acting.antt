-- What an operation does to the state of flat code, the machine does: one unit of a run where no call is made.
use Rattle.std.proofs.Common.{◌≡◌, ℕ, suc, ◌+◌, ◌≤◌, ◌<◌, List, [], ◌∷◌, ◌++◌, length, Option, Some, None, refl, sym, ap, subst, ◌∙◌, arith}
use Rattle.std.specs.Prelude.{slice_get}
use Rattle.pa_object.specs.Machine.{Machine}
use Rattle.pa_object.specs.Run.{advance_by}
use Rattle.pa_object.proofs.Growth.{advance_by-add}
use Rattle.pa_lir.specs.declared.op.Op.{Op}
use Rattle.pa_lir.specs.declared.op.Op.TheVariants as op
use Rattle.pa_lir.specs.Parts.{cost, counted}
use Rattle.pa_lir.specs.Values.{FlatValue, Number, At, Code, Objects}
use Rattle.pa_lir.specs.Meaning.{Open, Flat, Done, Act, Gives, Changes, Goes, Calls, Returns, act_of, with_temp, with_result, resumes, finishes, leaves, without, applied, applied_if, counts, operates, continues, status_of}
use Rattle.pa_selected.specs.Values.{Addresses}
use Rattle.pa_selected.specs.Worlds.{World, Names}
use Rattle.pa_selected.specs.Calls.{HasCallFrames}
use Rattle.pa_selected.specs.Runs.{Simulates, IsWithinCosts, entry_cost}
use Rattle.pa_selected.specs.Whole.{AreWords, Reaches, DoesAs}
use Rattle.pa_selected.proofs.Branching.{moved}
use Rattle.pa_selected.proofs.Giving.{Ready, Moves}
use Rattle.pa_selected.proofs.Resuming.{WentBack, resumes_moves}
use Rattle.pa_selected.proofs.Showing.{keeps_then, shows_nothing}
use Rattle.pa_selected.proofs.Units.{DoesAct, operation_does}
use Rattle.pa_selected.proofs.States.{ready_of, ready_simulates, made_simulates, most_of, within_of}

-- the stack is empty behind the last call
stack_empty : (w : World) (addresses : Addresses) (objects : Objects) (m : Machine) → HasCallFrames w addresses objects m.memory (length objects) m.sp [] → m.sp ≡ w.top
unfolding HasCallFrames
stack_empty w addresses objects m h = h.empty

newest_named : (w : World) (addresses : Addresses) (objects : Objects) (o : Open) (os : List Open) (m : Machine) → Ready w addresses objects o os m → Names w o.function.name o.function
unfolding HasCallFrames
newest_named w addresses objects o os m ready = ready.frames.0.named

module _ (w : World) (started : ℕ) (s : Flat) (m : Machine) (addresses : Addresses) (simulates : Simulates w addresses s m) (within : IsWithinCosts started s m) (going : s.ended ≡ None) where
  abbrev Does : Flat → Type 0
  Does new = DoesAs w started m s new new.ended

  -- the newest call is at its next operation
  moved_on : (operation : Op) (o next : Open) (os : List Open) (new : Flat) → s.coming ≡ None → s.opens ≡ o ∷ os → new.coming ≡ None → new.opens ≡ next ∷ os → new.ended ≡ None → new.input ≡ s.input → new.output ≡ s.output → new.trace ≡ s.trace
      → new.operations ≡ s.operations + counted operation → new.cost ≡ s.cost + cost operation → Moves w addresses new.objects next os m (counted operation) (cost operation) → Does new
  moved_on operation o next os new none opens none_behind behind ended input output trace operations spent moves =
      let leads = moves.leads in
      let before = most_of started s m None (o ∷ os) none opens within in
      let fewest = within.fewest in
      subst (DoesAs w started m s new) (sym ended) (record {
        later = moves.later;
        number = leads.number;
        runs = leads.runs;
        addresses = addresses;
        simulates = ready_simulates w addresses new moves.later next os moves.ready none_behind behind (leads.input ∙ (simulates.input ∙ sym input)) (leads.output ∙ (simulates.output ∙ sym output));
        within = within_of started new moves.later None (next ∷ os) none_behind behind (let some = leads.some in omega (arith, fewest, operations, some, leads.count)) (let few = leads.few in omega (arith, before, spent, few, leads.count));
        shows = shows_nothing w s new m moves.later leads.number leads.runs [] (λ trail log. refl) leads.log trace;
      })

  -- ---- the newest call returns

  module _ (operation : Op) (o : Open) (some : counted operation ≤ 1) (few : 6 ≤ cost operation) (none : s.coming ≡ None) where
    abbrev behind_return : Flat
    behind_return = record (counts operation s) { objects = without o.first (length o.function.locals) s.objects }

    ends_program : s.opens ≡ o ∷ [] → (value : Option FlatValue) → WentBack w addresses s.objects o [] value m → Does (finishes value (record behind_return { opens = [] }))
    ends_program opens (Some (Number x)) back =
        let leads = back.leads in
        let before = most_of started s m None (o ∷ []) none opens within in
        let fewest = within.fewest in
        record {
          later = back.later;
          number = leads.number;
          runs = leads.runs;
          returned = record {
            running = back.state.running;
            pc = back.pc ∙ back.goes_back;
            sp = stack_empty w addresses (without o.first (length o.function.locals) s.objects) back.later back.state.frames;
            status = ap status_of (back.result (Number x) refl);
            output = leads.output ∙ simulates.output;
          };
          fewest = let one = leads.some in omega (arith, fewest, some, one, leads.count);
          most = let six = leads.few in omega (arith, before, few, six, leads.count);
          shows = shows_nothing w s (record behind_return { opens = []; ended = Some (Done (status_of x)) }) m back.later leads.number leads.runs back.entries back.quiet leads.log refl;
        }
    ends_program opens None back = tt
    ends_program opens (Some (At object offset)) back = tt
    ends_program opens (Some (Code name schema)) back = tt

    goes_on_in_caller : (caller : Open) (os : List Open) → s.opens ≡ o ∷ caller ∷ os → (value : Option FlatValue) → WentBack w addresses s.objects o (caller ∷ os) value m → (resumed : Option Open) → with_result o.into value caller ≡ resumed → Does (resumes resumed os behind_return)
    goes_on_in_caller caller os opens value back None e = tt
    goes_on_in_caller caller os opens value back (Some resumed) e =
        let dead = without o.first (length o.function.locals) s.objects in
        let first = back.leads in
        let moves = resumes_moves w addresses dead caller os back.later back.state o.into back.back back.goes_back back.pc value resumed e back.result in
        let second = moves.leads in
        let before = most_of started s m None (o ∷ caller ∷ os) none opens within in
        let fewest = within.fewest in
        let new : Flat = record behind_return { opens = resumed ∷ os } in
        subst (DoesAs w started m s new) (sym going) (record {
          later = moves.later;
          number = first.number + second.number;
          runs = advance_by-add w.pac [] first.number second.number m ∙ (ap (advance_by w.pac [] second.number) first.runs ∙ second.runs);
          addresses = addresses;
          simulates = ready_simulates w addresses new moves.later resumed os moves.ready none refl (second.input ∙ (first.input ∙ simulates.input)) (second.output ∙ (first.output ∙ simulates.output));
          within = within_of started new moves.later None (resumed ∷ os) none refl (let one = first.some in omega (arith, fewest, some, one, first.count, second.count))
              (let six = first.few in let two = second.few in omega (arith, before, few, six, two, first.count, second.count));
          shows = keeps_then w s s new m back.later first.number second.number first.runs (shows_nothing w s s m back.later first.number first.runs back.entries back.quiet first.log refl)
              (shows_nothing w s new back.later moves.later second.number second.runs [] (λ trail log. refl) second.log refl);
        })

    returned : (value : Option FlatValue) (os : List Open) → s.opens ≡ o ∷ os → WentBack w addresses s.objects o os value m → Does (leaves o.into value os behind_return)
    returned value [] opens back = ends_program opens value back
    returned value (caller ∷ os) opens back = goes_on_in_caller caller os opens value back (with_result o.into value caller) refl

  -- ---- an operation

  acted : (o : Open) (os : List Open) → s.coming ≡ None → s.opens ≡ o ∷ os → (operation : Op) (act : Act) → DoesAct w addresses s.objects o os m (counted operation) (cost operation) act → Does (applied o os act (counts operation s))
  unfolding applied
  acted o os none opens operation (Gives to value seen) h = moved_on operation o (with_temp to value o) os _ none opens none refl going refl refl (ap (λ x. x ++ s.trace) h.1) refl refl h.0
  acted o os none opens operation (Changes object to) h = moved_on operation o (moved o (suc o.at)) os _ none opens none refl going refl refl refl refl refl h
  acted o os none opens operation (Goes at) h = moved_on operation o (moved o at) os _ none opens none refl going refl refl refl refl refl h
  acted o os none opens operation (Returns value) h = returned operation o h.1 h.2 none value os opens h.0
  acted o os none opens operation (Calls coming seen) h =
      let leads = h.0.leads in
      let before = most_of started s m None (o ∷ os) none opens within in
      let fewest = within.fewest in
      let paid = h.1 in
      let new : Flat = record (counts operation s) { coming = Some coming; trace = seen ++ s.trace } in
      subst (DoesAs w started m s new) (sym going) (record {
        later = h.0.later;
        number = leads.number;
        runs = leads.runs;
        addresses = addresses;
        simulates = made_simulates w addresses new h.0.later coming (o ∷ os) h.0.made refl opens (leads.input ∙ simulates.input) (leads.output ∙ simulates.output);
        within = within_of started new h.0.later (Some coming) (o ∷ os) refl opens (let some = leads.some in omega (arith, fewest, some, leads.count)) (let few = leads.few in omega (arith, before, few, paid, leads.count));
        shows = shows_nothing w s new m h.0.later leads.number leads.runs [] (λ trail log. refl) leads.log (ap (λ x. x ++ s.trace) h.2);
      })

  module _ (words : AreWords w) where
    operated : (o : Open) (os : List Open) → s.coming ≡ None → s.opens ≡ o ∷ os → (operation : Option Op) → slice_get o.function.ops o.at ≡ operation → Does (operates w.lir o os operation s)
    operated o os none opens None e = tt
    operated o os none opens (Some operation) e = go (act_of w.lir s.objects o operation) refl
      where
        go : (act : Option Act) → act_of w.lir s.objects o operation ≡ act → Does (applied_if o os act (counts operation s))
        go None means = tt
        go (Some act) means =
            let ready = ready_of w addresses s m o os simulates none opens in
            let named = newest_named w addresses s.objects o os m ready in
            acted o os none opens operation act (operation_does w addresses s.objects o os m ready (λ to value q. words o.function.name o.function named o.at to value q) operation act e means)

    pub continued : (os : List Open) → s.coming ≡ None → s.opens ≡ os → Does (continues w.lir os s)
    continued [] none opens = tt
    continued (o ∷ os) none opens = operated o os none opens (slice_get o.function.ops o.at) refl
