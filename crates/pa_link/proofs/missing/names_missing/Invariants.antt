use Rattle.std.proofs.Common.{◌≡◌, length, map}
use Rattle.pa_link.specs.Missing.{earlier, earliest, local_init_missing}
use Rattle.pa_link.proofs.missing.names_missing.Given as goal

abbrev pub invariant-names : goal.invariant-names
invariant-names l = earlier l.least (earliest (map (local_init_missing l.defined) l.rest)) ≡ earliest (map (local_init_missing l.defined) l.names)

abbrev pub decreases-names : goal.decreases-names
decreases-names l = length l.rest
