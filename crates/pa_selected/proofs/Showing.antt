-- What instructions add to the shape of a run that is watched.
use Rattle.std.proofs.Common.{◌≡◌, ℕ, zero, suc, ◌+◌, ◌-◌, ◌≤◌, List, [], ◌∷◌, ◌++◌, length, Option, Some, None, refl, sym, ap, subst, ◌∙◌, arith}
use Rattle.pa_pac.specs.declared.key.Key.TheVariants.{IB}
use Rattle.pa_pac.specs.declared.event.Event.TheVariants as event
use Rattle.pa_pac.specs.declared.event.When.TheVariants.{Step}
use Rattle.pa_pac.specs.declared.event.Entry.{Entry}
use Rattle.pa_pac.specs.Log.{Log}
use Rattle.pa_pac.specs.Signing.{Code}
use Rattle.pa_a64.specs.declared.instr.Instr.TheVariants.{Stack}
use Rattle.pa_a64.specs.declared.instr.StackOp.TheVariants.{Pacibsp}
use Rattle.pa_ctype.specs.Traces.{Enter}
use Rattle.pa_object.specs.Machine.{Machine}
use Rattle.pa_object.specs.Placed.{Stands}
use Rattle.pa_object.specs.Run.{Place, Watched, step, advance_by, watched, watched_once}
use Rattle.pa_object.specs.Shape as shape
use Rattle.pa_object.proofs.Steps.{watching, here, reach}
use Rattle.pa_object.proofs.StepsRun.{AreBefore, shape-entered, shape-more, watched-then}
use Rattle.pa_object.proofs.Watching.{Watches, run_longer, run_watches}
use Rattle.pa_lir.specs.Meaning.{Flat}
use Rattle.pa_selected.specs.Worlds.{World}
use Rattle.pa_selected.specs.Runs.{Shows, import_slots}
use Rattle.pa_selected.specs.Whole.{KeepsShown}

-- a run that is watched is the run
pub watched_machine : (code : Code) (n : ℕ) (w : Watched) → (watched code [] n w).machine ≡ advance_by code [] n w.machine
unfolding watched advance_by
watched_machine code zero w = refl
watched_machine code (suc n) w = watched_machine code n (watched_once code [] w)

-- these entries of the log add nothing
abbrev pub ShowsNothing : World → Log → Type 0
ShowsNothing w entries = (trail : List Place) (log : Log) → shape.shape (import_slots w) trail (entries ++ log) ≡ shape.shape (import_slots w) trail log

module _ (w : World) (before now : Flat) (m later : Machine) (number : ℕ) (runs : advance_by w.pac [] number m ≡ later) where
  ended_at : (v : Watched) → v.machine ≡ m → (watched w.pac [] number v).machine ≡ later
  ended_at v e = watched_machine w.pac number v ∙ (ap (advance_by w.pac [] number) e ∙ runs)

  pub shows_nothing : (entries : Log) → ShowsNothing w entries → later.log ≡ entries ++ m.log → now.trace ≡ before.trace → KeepsShown w before now m number
  shows_nothing entries quiet log trace v e watches shows =
      let u = watched w.pac [] number v in
      let more = run_longer w.pac [] number v in
      record {
        names = shows.names;
        trace = trace ∙ shows.trace;
        shape = ap (λ (x : Machine). shape.shape (import_slots w) u.trail x.log) (ended_at v e)
            ∙ (ap (shape.shape (import_slots w) u.trail) (log ∙ ap (λ (x : Machine). entries ++ x.log) (sym e))
            ∙ (quiet u.trail v.machine.log ∙ (ap (λ t. shape.shape (import_slots w) t v.machine.log) more.trail ∙ (shape-more (import_slots w) more.places v.trail v.machine.log watches.before ∙ shows.shape))));
      }

  -- the first of the instructions enters a function
  pub shows_entry : (c : Stands m.memory m.pc (Stack Pacibsp)) (signed : Machine) → m.ended ≡ None → step w.pac m ≡ signed → signed.count ≡ suc m.count → 1 ≤ number → (entries : Log) → ShowsNothing w entries
      → (modifier raw authenticated : ℕ) → later.log ≡ entries ++ record { when = Step m.count; event = event.Sign IB modifier raw authenticated } ∷ m.log
      → (name : List ℕ) → m.pc ≡ w.first name → now.trace ≡ Enter name ∷ before.trace → KeepsShown w before now m number
  shows_entry c signed going first count some entries quiet modifier raw authenticated log name at trace v e watches shows =
      let got = import_slots w in
      let u = watched w.pac [] number v in
      let middle = watching signed (here m c ∷ v.trail) in
      let rest = watched w.pac [] (number - 1) middle in
      let same : u ≡ rest = ap (λ n. watched w.pac [] n v) (omega (arith, some)) ∙ (ap (λ x. watched w.pac [] (suc (number - 1)) (watching x v.trail)) e ∙ reach w.pac (number - 1) m signed v.trail rest _ c going first count refl) in
      let more = run_longer w.pac [] (number - 1) middle in
      let sign : Entry = record { when = Step m.count; event = event.Sign IB modifier raw authenticated } in
      record {
        names = name ∷ shows.names;
        trace = trace ∙ ap (λ t. Enter name ∷ t) shows.trace;
        shape = ap (λ (x : Machine). shape.shape got u.trail x.log) (ended_at v e)
            ∙ (ap (shape.shape got u.trail) log
            ∙ (quiet u.trail (sign ∷ m.log)
            ∙ (ap (λ t. shape.shape got t (sign ∷ m.log)) (ap (λ (x : Watched). x.trail) same ∙ more.trail)
            ∙ (shape-entered got more.places (here m c) [] v.trail m.count modifier raw authenticated m.log (sym (watches.counted ∙ ap (λ (x : Machine). x.count) e)) (subst (λ (x : Machine). AreBefore (length v.trail) x.log) e watches.before)
            ∙ (ap (λ a. shape.Enter a ∷ shape.shape got v.trail m.log) at ∙ ap (λ x. shape.Enter (w.first name) ∷ x) (ap (λ (x : Machine). shape.shape got v.trail x.log) (sym e) ∙ shows.shape))))));
      }

-- one part of a run behind another
pub keeps_then : (w : World) (a b c : Flat) (m middle : Machine) (n k : ℕ) → advance_by w.pac [] n m ≡ middle → KeepsShown w a b m n → KeepsShown w b c middle k → KeepsShown w a c m (n + k)
keeps_then w a b c m middle n k runs one two v e watches shows =
    let u = watched w.pac [] n v in
    subst (Shows w c) (sym (watched-then w.pac [] n k v u (watched w.pac [] k u) refl refl)) (two u (ended_at w a b m middle n runs v e) (run_watches w.pac [] n v watches) (one v e watches shows))
