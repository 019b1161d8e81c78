-- The whole run of a program, from its first instruction to its exit.
use Rattle.std.proofs.Common.{◌≡◌, ℕ, suc, ◌+◌, ◌%◌, ◌≤◌, List, [], ◌∷◌, length, set, Option, Some, None, refl, sym, ap, subst, ◌∙◌, arith, get_or-set_same}
use Rattle.std.specs.Prelude.{ℤ}
use Rattle.pa_num.specs.Arithmetic.{add64, scaled64}
use Rattle.pa_a64.specs.declared.instr.Instr.TheVariants.{Exception}
use Rattle.pa_a64.specs.declared.instr.ExceptionOp.TheVariants.{Svc}
use Rattle.pa_object.specs.declared.end.End.TheVariants as end
use Rattle.pa_object.specs.Effects.{exits}
use Rattle.pa_object.specs.Filled.{words_between}
use Rattle.pa_object.specs.Machine.{Machine, register}
use Rattle.pa_object.specs.Placed.{HasCode}
use Rattle.pa_object.specs.Run.{Watched, step, advance_by}
use Rattle.pa_object.specs.Shape as shape
use Rattle.pa_object.proofs.Filled.{call_reaches}
use Rattle.pa_object.proofs.Growth.{advance_by-add}
use Rattle.pa_object.proofs.Steps.{bl_step}
use Rattle.pa_object.proofs.StepsBranching.{svc_exit_step}
use Rattle.pa_lir.specs.Meaning.{FlatEnd, Done, Stop, Undefined, Flat, run, begun, lmean, main}
use Rattle.pa_selected.specs.Values.{Addresses}
use Rattle.pa_selected.specs.Worlds.{World}
use Rattle.pa_selected.specs.Calls.{HasCallFrames}
use Rattle.pa_selected.specs.Runs.{Simulates, Shows, import_slots}
use Rattle.pa_selected.specs.Whole.{AreWords, KeepsShown, Reaches, ReachesEnd, DoesAs, stack_bytes}
use Rattle.pa_selected.specs.Start.{start_code, Begins, Exits, RunsAs}
use Rattle.pa_selected.proofs.Straight.{one, runs_on, code_stays}
use Rattle.pa_selected.proofs.Showing.{keeps_then, shows_nothing}
use Rattle.pa_selected.proofs.Whole.{prepended, program_does}

module _ (w : World) (addresses : Addresses) (input : List ℕ) (m : Machine) (begins : Begins w addresses input m) where
  abbrev first : Flat
  first = begun w.lir input

  -- behind the call of `main`
  abbrev called : Machine
  called = record m { registers = set m.registers 30 (m.pc + 4); pc = w.entry main; count = suc m.count }

  calls : advance_by w.pac [] 1 m ≡ called
  calls =
      let back = begins.placed.back in
      let aligned = back.aligned in
      let low = back.low in
      let target = begins.placed.entries main in
      let goal = target.low in
      let behind = begins.back in
      one w.pac m called begins.running.going
      (bl_step w.pac m (omega (arith, low, behind)) (words_between m.pc (w.entry main)) (w.entry main) begins.start.0
      (call_reaches m.pc (w.entry main) (omega (arith, aligned, behind)) target.aligned (omega (arith, low, behind)) (omega (arith, goal))))

  called_shows : KeepsShown w first first m 1
  called_shows = shows_nothing w first first m called 1 calls [] (λ trail log. refl) refl refl

  no_frame : HasCallFrames w addresses first.objects m.memory (length first.objects) m.sp []
  unfolding HasCallFrames
  no_frame = record { empty = begins.empty; globals = λ p object e alive before. begins.globals p object e alive }

  called_simulates : Simulates w addresses first called
  called_simulates = record {
    running = runs_on w.pac 1 m called begins.running calls begins.running.going;
    placed = begins.placed;
    room = let ordered = begins.placed.stack.ordered in let empty = begins.empty in omega (arith, ordered, empty);
    objects = begins.objects;
    slots = begins.slots;
    frames = no_frame;
    next = record {
      pc = refl;
      back = let wide = begins.running.wide in get_or-set_same m.registers 30 (m.pc + 4) 0 (omega (arith, wide)) ∙ sym begins.back;
      few = omega arith;
      arguments = tt;
    };
    input = begins.input;
    output = begins.output;
  }

  -- the status of `main` is that of the process
  exits_behind : (s : Flat) (status : ℤ) → ReachesEnd w (suc m.count) m first s status → Exits w m first s status
  exits_behind s status h =
      let returned = h.returned in
      let k = h.later in
      let stands = (code_stays w.pac h.number m k begins.running h.runs (start_code w m.pc) m.pc begins.start).1 in
      let at : m.pc + 4 ≡ k.pc = sym begins.back ∙ sym returned.pc in
      let here = subst (λ p. HasCode k.memory p (Exception Svc 3 ∷ [])) at stands in
      let done : advance_by w.pac [] 1 k ≡ exits k = one w.pac k (exits k) returned.running.going (svc_exit_step w.pac k here.0) in
      let fewest = h.fewest in
      let most = h.most in
      record {
        later = exits k;
        number = h.number + 1;
        runs = advance_by-add w.pac [] h.number 1 m ∙ (ap (advance_by w.pac [] 1) h.runs ∙ done);
        ended = ap (λ x. Some (end.Exit x)) returned.status;
        output = returned.output;
        fewest = omega (arith, fewest);
        most = omega (arith, most);
        shows = keeps_then w first s s m k h.number 1 h.runs h.shows (shows_nothing w s s k (exits k) 1 done [] (λ trail log. refl) refl refl);
      }

  exited : (s : Flat) (e : Option FlatEnd) → DoesAs w (suc m.count) m first s e → RunsAs w m first s e
  exited s None h = h
  exited s (Some (Done status)) h = exits_behind s status h
  exited s (Some Stop) h = tt
  exited s (Some Undefined) h = tt

  pub program_runs : (fuel : ℕ) → AreWords w → (lmean w.lir input fuel).deep ≤ stack_bytes w → RunsAs w m first (run w.lir fuel first) (run w.lir fuel first).ended
  program_runs fuel words few =
      let s = run w.lir fuel first in
      exited s s.ended (prepended w (suc m.count) 1 m called first first s s.ended calls called_shows (program_does w input fuel called addresses words called_simulates few))

-- Before a program runs it shows nothing, if nothing is shown while it is loaded.
pub begun_shows : (w : World) (input : List ℕ) (v : Watched) → shape.shape (import_slots w) v.trail v.machine.log ≡ [] → Shows w (begun w.lir input) v
begun_shows w input v none = record { names = []; trace = refl; shape = none }
