-- A call that is made: the whole relation holds before the first instruction of its function.
use Rattle.std.proofs.Common.{◌≡◌, ℕ, ◌≤◌, List, ◌∷◌, length, Option, Some, sym, ap, subst, arith}
use Rattle.std.specs.Prelude.{slice_get}
use Rattle.pa_mem.specs.Memory.{load}
use Rattle.pa_object.specs.Machine.{Machine}
use Rattle.pa_lir.specs.declared.op.Op.TheVariants as op
use Rattle.pa_lir.specs.Values.{FlatValue, Objects}
use Rattle.pa_lir.specs.Meaning.{Open, Coming, temps_of, putchar, getchar}
use Rattle.pa_selected.specs.Values.{Addresses, Living, HasObjects}
use Rattle.pa_selected.specs.Worlds.{World, HasCodeAndStack}
use Rattle.pa_selected.specs.Calls.{IsRunning, HasCallFrames, IsComing}
use Rattle.pa_selected.specs.Runs.{IsOffSlots}
use Rattle.pa_selected.proofs.Straight.{runs_on}
use Rattle.pa_selected.proofs.Calling.{call_runs, values_held, values_loaded}
use Rattle.pa_selected.proofs.Keeping.{placed_later}
use Rattle.pa_selected.proofs.Giving.{Ready, Leads, open_call, function_placed}

-- The relation where a call is made, before its function is entered.
pub record Made (w : World) (addresses : Addresses) (objects : Objects) (os : List Open) (c : Coming) (m : Machine) : Type 0 where
  pub running : IsRunning m
  pub placed : HasCodeAndStack w m.memory
  pub room : w.low ≤ m.sp
  pub lie : HasObjects addresses objects m.memory
  pub slots : Living addresses objects (λ p object at size. IsOffSlots w at size)
  pub frames : HasCallFrames w addresses objects m.memory (length objects) m.sp os
  pub coming : IsComing w addresses m os c

-- So many instructions, at least and at most, lead to it.
pub record Makes (w : World) (addresses : Addresses) (objects : Objects) (os : List Open) (c : Coming) (m : Machine) (least most : ℕ) : Type 0 where
  pub later : Machine
  pub leads : Leads w least most m later
  pub made : Made w addresses objects os c later

module _ (w : World) (addresses : Addresses) (objects : Objects) (o : Open) (os : List Open) (m : Machine) (ready : Ready w addresses objects o os m) where
  pub call_makes : (to : Option ℕ) (name ts : List ℕ) (values : List FlatValue) → slice_get o.function.ops o.at ≡ Some (op.Call to name ts) → length ts ≤ 8 → length values ≤ 8 → temps_of o ts ≡ Some values
      → Makes w addresses objects (o ∷ os) (record { name = name; arguments = values; into = to }) m 1 17
  call_makes to name ts values e few short v =
      let call = open_call w addresses objects o os m ready in
      let held = values_held addresses o m call ts values v in
      let called = call_runs w addresses o m call (function_placed w addresses objects o os m ready) ready.at to name ts e few held (ready.placed.entries name) in
      record {
        later = called.later;
        leads = record {
          number = called.number;
          runs = called.runs;
          some = called.some;
          few = omega (arith, called.few);
          count = called.count;
          input = called.input;
          output = called.output;
          log = called.log;
        };
        made = record {
          running = runs_on w.pac called.number m called.later ready.running called.runs called.ended;
          placed = placed_later w called.number m called.later ready.running called.runs (ap (λ x. load 8 x (w.slot putchar)) called.memory) (ap (λ x. load 8 x (w.slot getchar)) called.memory) ready.placed;
          room = let low = ready.room in omega (arith, called.sp);
          lie = subst (HasObjects addresses objects) (sym called.memory) ready.lie;
          slots = ready.slots;
          frames = subst (λ x. HasCallFrames w addresses objects x (length objects) called.later.sp (o ∷ os)) (sym called.memory)
              (subst (λ b. HasCallFrames w addresses objects m.memory (length objects) b (o ∷ os)) (sym called.sp) ready.frames);
          coming = record {
            pc = called.pc;
            back = record { name = name; arguments = ts; calls = e; behind = let at = ready.at in omega (arith, called.link, at) };
            few = short;
            arguments = values_loaded addresses o m called.later call 0 ts values v called.words;
          };
        };
      }
