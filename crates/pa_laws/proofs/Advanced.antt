-- What one advance of a watched run does to trail, log and input.
use Rattle.std.proofs.Common.{◌≡◌, ◌≢◌, ℕ, suc, cond, ◌∷◌, ◌++◌, Option, Some, None, refl, sym, ap, ◌∙◌, arith}
use Rattle.std.proofs.lemmas.Bool.{eq-eqb, ne_eqb}
use Rattle.pa_pac.specs.Signing.{Code}
use Rattle.pa_a64.specs.declared.instr.Instr.{Instr}
use Rattle.pa_a64.specs.Decoding.{decoded}
use Rattle.pa_mem.specs.Memory.{fetch}
use Rattle.pa_object.specs.declared.end.End.{End}
use Rattle.pa_object.specs.Machine.{Machine}
use Rattle.pa_object.specs.Effects.{effect}
use Rattle.pa_object.specs.Rows.{events, entries_at}
use Rattle.pa_object.specs.Run.{Script, applied_all, advance, Watched, placed, watched_once}
use Rattle.pa_object.proofs.Growth.{applied_all_wrote, advance-goes, advance-ended, effect_counts}
use Rattle.pa_object.proofs.Rows.{effect_events}
use Rattle.pa_object.proofs.Stepping.{StepIs, traps, does, step_is}

-- no instruction ran
pub record Rests (w v : Watched) : Type 0 where
  pub trail : v.trail ≡ w.trail
  pub log : v.machine.log ≡ w.machine.log
  pub input : v.machine.input ≡ w.machine.input

-- an instruction ran, on a machine with the count and the input of the run's
pub record Runs (code : Code) (w v : Watched) : Type 0 where
  pub before : Machine
  pub word : ℕ
  pub instr : Instr
  pub decodes : decoded word ≡ Some instr
  pub trail : v.trail ≡ record { at = before.pc; word = word } ∷ w.trail
  pub log : v.machine.log ≡ entries_at w.machine.count (events code instr before) ++ w.machine.log
  pub same : before.input ≡ w.machine.input
  pub input : v.machine.input ≡ (effect code instr before).input

pub data Advanced (code : Code) (w v : Watched) : Type 0 where
  rests : Rests w v → Advanced code w v
  runs : Runs code w v → Advanced code w v

module _ (code : Code) (script : Script) (w : Watched) where
  -- the machine behind what comes before the instruction
  abbrev written : Machine
  written = applied_all script w.machine.count w.machine

  abbrev later : Machine
  later = advance code script w.machine

  kept : written ≡ record w.machine { memory = written.memory }
  kept = (applied_all_wrote script w.machine.count w.machine).rest

  -- a machine with the same count, log and input
  still : (new : Machine) → later ≡ new → new.count ≡ w.machine.count → new.log ≡ w.machine.log → new.input ≡ w.machine.input
      → Advanced code w (watched_once code script w)
  still new e count log input =
      let same : written.count ≡ later.count = ap (λ (m : Machine). m.count) kept ∙ sym count ∙ ap (λ (m : Machine). m.count) (sym e) in
      rests (record {
        trail = ap (λ b. cond b w.trail (placed written.pc (fetch written.memory written.pc) w.trail)) (eq-eqb written.count later.count same);
        log = ap (λ (m : Machine). m.log) e ∙ log;
        input = ap (λ (m : Machine). m.input) e ∙ input;
      })

  moved : (word : ℕ) (instr : Instr) → fetch written.memory written.pc ≡ Some word → decoded word ≡ Some instr
      → later ≡ effect code instr written → (effect code instr written).count ≡ suc written.count → Advanced code w (watched_once code script w)
  moved word instr f d e counts =
      let count : written.count ≡ w.machine.count = ap (λ (m : Machine). m.count) kept in
      let up : later.count ≡ suc written.count = ap (λ (m : Machine). m.count) e ∙ counts in
      let other : written.count ≢ later.count = λ same. omega arith in
      runs (record {
        before = written;
        word = word;
        instr = instr;
        decodes = d;
        trail = ap (λ b. cond b w.trail (placed written.pc (fetch written.memory written.pc) w.trail)) (ne_eqb written.count later.count other)
            ∙ ap (λ x. placed written.pc x w.trail) f;
        log = ap (λ (m : Machine). m.log) e ∙ effect_events code instr written
            ∙ ap (λ n. entries_at n (events code instr written) ++ written.log) count
            ∙ ap (λ (m : Machine). entries_at w.machine.count (events code instr written) ++ m.log) kept;
        same = ap (λ (m : Machine). m.input) kept;
        input = ap (λ (m : Machine). m.input) e;
      })

  pub advanced : Advanced code w (watched_once code script w)
  advanced = at w.machine.ended refl
    where
      by : w.machine.ended ≡ None → StepIs code written → Advanced code w (watched_once code script w)
      by going (traps trap q) =
          still _ (advance-goes code script w.machine going)
          (ap (λ (m : Machine). m.count) q ∙ ap (λ (m : Machine). m.count) kept)
          (ap (λ (m : Machine). m.log) q ∙ ap (λ (m : Machine). m.log) kept)
          (ap (λ (m : Machine). m.input) q ∙ ap (λ (m : Machine). m.input) kept)
      by going (does word instr f d t e) = moved word instr f d (advance-goes code script w.machine going ∙ e) (effect_counts code instr written t)

      at : (o : Option End) → w.machine.ended ≡ o → Advanced code w (watched_once code script w)
      at (Some x) e = still w.machine (advance-ended code script w.machine x e) refl refl refl
      at None e = by e (step_is code written)
