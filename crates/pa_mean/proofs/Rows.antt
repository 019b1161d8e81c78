-- Small programs by steps, by hand.
use Rattle.std.proofs.Common.{◌≡◌, ℕ, [], ◌∷◌, refl, codes}
use Rattle.std.specs.Prelude.{pos}
use Rattle.pa_ctype.specs.Equality as equality
use Rattle.pa_ctype.specs.Values as values
use Rattle.pa_ctype.specs.Layouts as layouts
use Rattle.pa_typed.specs.Units.{ProgramTree, function_named, sizes_of}
use Rattle.pa_cmean.specs.Results.{Done, Stop, Undefined}
use Rattle.pa_cmean.specs.State as state
use Rattle.pa_cmean.proofs.Trees.{int, number, local, give, declare, local_tree, main, program}
use Rattle.pa_mean.specs.Frames.{Ended, Step, Worked, Entered}
use Rattle.pa_mean.specs.Steps.{step, tick_step, turn_step, given_step}
use Rattle.pa_mean.specs.Runs.{at_first, steps}

unfoldable pub taken : ProgramTree → ℕ → ℕ → Step
unfolding steps step tick_step turn_step given_step function_named sizes_of state.value_at state.born_one state.born state.died state.given_parameters state.numbered values.object_of values.cell_at values.with_object values.elements values.member_cells values.cells_by values.form_cells_by values.cells_of layouts.members_from layouts.layout_by layouts.form_layout_by layouts.laid equality.same_type equality.same_form equality.same_types
taken program n fuel = steps program n (at_first [] fuel [])

-- `int main(void) { return 0; }`
abbrev returns : ProgramTree
returns = program (main [] (give (number 0) ∷ []) ∷ [])

returns_zero : (taken returns 10 10).machine.now ≡ Ended (Done (pos 0))
unfolding taken
returns_zero = refl

its_fronts : (taken returns 10 10).fronts ≡ Worked ∷ Entered (codes "main") 272 ∷ Worked ∷ Worked ∷ Worked ∷ []
unfolding taken
its_fronts = refl

-- with less fuel than work
stops : (taken returns 10 3).machine.now ≡ Ended Stop
unfolding taken
stops = refl

-- `int main(void) { int x; return x; }`
unset : (taken (program (main (local_tree int 4 ∷ []) (declare 0 ∷ give (local 0) ∷ []) ∷ [])) 20 20).machine.now ≡ Ended Undefined
unfolding taken
unset = refl
