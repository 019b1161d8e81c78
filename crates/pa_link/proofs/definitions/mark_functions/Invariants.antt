use Rattle.std.proofs.Common.{◌≡◌, fold, length}
use Rattle.pa_link.specs.Definitions.{marked_function}
use Rattle.pa_link.proofs.definitions.mark_functions.Given as goal

abbrev pub invariant-functions : goal.invariant-functions
invariant-functions l = fold marked_function l.defined l.rest ≡ fold marked_function l.initial.defined l.functions

abbrev pub decreases-functions : goal.decreases-functions
decreases-functions l = length l.rest
