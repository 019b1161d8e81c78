use Rattle.std.proofs.Common.{◌<◌, ℕ, get_or}
use Rattle.pa_lir.specs.declared.function.LirFn.{LirFn}
use Rattle.pa_lir.specs.WellFormed.{IsWellFormed}
use Rattle.pa_lir.proofs.checks.well_formed.Given as goal

abbrev pub invariant-loop-function : goal.invariant-loop-function
invariant-loop-function l = (k : ℕ) (d : LirFn) → k < l.function-index → IsWellFormed (get_or l.lir.functions k d)
