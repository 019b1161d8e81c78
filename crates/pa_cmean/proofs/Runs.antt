-- A run that computes: `unfolding result` opens all that it goes through.
use Rattle.std.proofs.Common.{ℕ, List}
use Rattle.pa_ctype.specs.Equality as equality
use Rattle.pa_ctype.specs.Layouts as layouts
use Rattle.pa_ctype.specs.Values as values
use Rattle.pa_cmean.specs.Results.{Meaning}
use Rattle.pa_typed.specs.Units.{ProgramTree, function_named, sizes_of}
use Rattle.pa_cmean.specs.State as state
use Rattle.pa_cmean.specs.Calls as calls
use Rattle.pa_cmean.specs.Expressions as expressions
use Rattle.pa_cmean.specs.Statements as statements
use Rattle.pa_cmean.specs.Statics as statics
use Rattle.pa_cmean.specs.Mean.{mean, run, level, perform}

unfoldable pub result : ProgramTree → List ℕ → ℕ → Meaning
unfolding mean run level perform function_named sizes_of state.tick state.turn state.choose state.value_at state.stored state.initialised_at state.born_one state.born state.died state.given_parameters state.numbered calls.puts calls.gets calls.runtime calls.enter calls.call calls.call_pointer expressions.add_pointer expressions.subtract_pointers expressions.load expressions.load_signed expressions.store expressions.eval expressions.evals statements.next_source statements.select statements.switch_on statements.block statements.cells_given statements.init_local statements.init_locals statements.evaluate statements.test statements.begin_for statements.loop statements.redo statements.exec statements.execs statements.enter_at statements.execs_from statics.constant statics.zeroed_globals statics.text_cells statics.text_objects statics.with_cells statics.with_globals statics.statics values.object_of values.cell_at values.with_cell values.with_object values.elements values.member_cells values.cells_by values.form_cells_by values.cells_of layouts.members_from layouts.layout_by layouts.form_layout_by layouts.laid equality.same_type equality.same_form equality.same_types
result = mean
