-- A run by steps gives the C meaning.
use Rattle.std.proofs.Common.{◌≡◌, ℕ, zero, suc, List, [], ◌∷◌, ◌++◌, Some, refl, sym, ap, ◌∙◌}
use Rattle.pa_ctype.specs.Values.{Objects}
use Rattle.pa_typed.specs.Units.{ProgramTree}
use Rattle.pa_cmean.specs.Results.{Meaning, End, ends, given}
use Rattle.pa_cmean.specs.Statics.{statics}
use Rattle.pa_cmean.specs.Mean.{mean}
use Rattle.pa_mean.specs.Frames.{Ended, Front, Machine}
use Rattle.pa_mean.specs.Steps.{step}
use Rattle.pa_mean.specs.Meanings.{konts, resume, in_front, ahead, meaning, after}
use Rattle.pa_mean.specs.Runs.{at_first, steps}
use Rattle.pa_mean.proofs.Statements.{step_keeps}

ahead_append : (a b : List Front) (m : Meaning) → ahead (a ++ b) m ≡ ahead a (ahead b m)
ahead_append [] b m = refl
ahead_append (front ∷ a) b m = ap (in_front front) (ahead_append a b m)

module _ (program : ProgramTree) where
  pub steps_keep : (n : ℕ) (m : Machine) → meaning program m ≡ after program (steps program n m)
  unfolding steps
  steps_keep zero m = refl
  steps_keep (suc n) m =
      let one = step program m in
      step_keeps program m ∙ ap (ahead one.fronts) (steps_keep n one.machine) ∙ sym (ahead_append one.fronts (steps program n one.machine).fronts (meaning program (steps program n one.machine).machine))

  -- a machine that has ended after so many steps gives what these put in front of its end
  pub steps_end : (n : ℕ) (m : Machine) (end : End) → (steps program n m).machine.now ≡ Ended end → meaning program m ≡ ahead (steps program n m).fronts (ends end)
  steps_end n m end e =
      let run = steps program n m in
      steps_keep n m ∙ ap (λ now. ahead run.fronts (resume program now (konts program run.machine.frames) run.machine.state)) e

  -- the C meaning is what the machine gives that calls `main`
  pub mean_is : (input : List ℕ) (fuel : ℕ) → mean program input fuel ≡ given (statics program) (λ objects. meaning program (at_first input fuel objects))
  unfolding mean konts
  mean_is input fuel = refl

  pub mean_by_steps : (input : List ℕ) (fuel : ℕ) (objects : Objects) (n : ℕ) (end : End) → statics program ≡ Some objects → (steps program n (at_first input fuel objects)).machine.now ≡ Ended end
      → mean program input fuel ≡ ahead (steps program n (at_first input fuel objects)).fronts (ends end)
  mean_by_steps input fuel objects n end s e =
      mean_is input fuel ∙ ap (λ o. given o (λ objects. meaning program (at_first input fuel objects))) s ∙ steps_end n (at_first input fuel objects) end e
