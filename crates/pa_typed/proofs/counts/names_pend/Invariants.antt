use Rattle.std.proofs.Common.{◌≡◌, length, map, max}
use Rattle.pa_typed.specs.Counts.{names_pend}
use Rattle.pa_typed.specs.Views.{bare_local_init}
use Rattle.pa_typed.proofs.counts.names_pend.Given as goal

abbrev pub invariant-names : goal.invariant-names
invariant-names l = max l.largest (names_pend (map bare_local_init l.rest)) ≡ names_pend (map bare_local_init l.names)

abbrev pub decreases-names : goal.decreases-names
decreases-names l = length l.rest
