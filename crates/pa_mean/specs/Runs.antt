-- Runs by steps, from the call of `main` on (C11 5.1.2.2.1).
use Rattle.std.specs.Prelude.{ℕ, zero, suc, List, [], ◌++◌}
use Rattle.pa_ctype.specs.Values.{Objects}
use Rattle.pa_typed.specs.Units.{ProgramTree}
use Rattle.pa_cmean.specs.Calls.{main}
use Rattle.pa_cmean.specs.Mean.{at_start}
use Rattle.pa_mean.specs.Frames.{Called, Machine, Step}
use Rattle.pa_mean.specs.Steps.{step}

-- before the first step, with these globals and string literals
abbrev pub at_first : List ℕ → ℕ → Objects → Machine
at_first input fuel objects = record { now = Called main []; frames = []; state = record { left = fuel; world = at_start input objects } }

-- one step behind another
abbrev pub then_step : Step → Step → Step
then_step first second = record { fronts = first.fronts ++ second.fronts; machine = second.machine }

-- so many steps, as one
unfoldable pub steps : ProgramTree → ℕ → Machine → Step
steps program zero m = record { fronts = []; machine = m }
steps program (suc n) m = then_step (step program m) (steps program n (step program m).machine)
