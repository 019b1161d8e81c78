use Rattle.std.proofs.Common.{◌≡◌, fold, length}
use Rattle.pa_link.specs.Definitions.{marked_global}
use Rattle.pa_link.proofs.definitions.mark_globals.Given as goal

abbrev pub invariant-globals : goal.invariant-globals
invariant-globals l = fold marked_global l.defined l.rest ≡ fold marked_global l.initial.defined l.globals

abbrev pub decreases-globals : goal.decreases-globals
decreases-globals l = length l.rest
