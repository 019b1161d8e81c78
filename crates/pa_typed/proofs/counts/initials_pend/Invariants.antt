use Rattle.std.proofs.Common.{◌≡◌, length, map, max}
use Rattle.pa_typed.specs.Counts.{initials_pend}
use Rattle.pa_typed.specs.Views.{bare_initial}
use Rattle.pa_typed.proofs.counts.initials_pend.Given as goal

abbrev pub invariant-initials : goal.invariant-initials
invariant-initials l = max l.largest (initials_pend (map bare_initial l.rest)) ≡ initials_pend (map bare_initial l.initials)

abbrev pub decreases-initials : goal.decreases-initials
decreases-initials l = length l.rest
