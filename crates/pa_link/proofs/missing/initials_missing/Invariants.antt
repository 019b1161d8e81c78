use Rattle.std.proofs.Common.{◌≡◌, length, map}
use Rattle.pa_link.specs.Missing.{earlier, earliest, initial_missing}
use Rattle.pa_link.proofs.missing.initials_missing.Given as goal

abbrev pub invariant-initials : goal.invariant-initials
invariant-initials l = earlier l.least (earliest (map (initial_missing l.defined) l.rest)) ≡ earliest (map (initial_missing l.defined) l.initials)

abbrev pub decreases-initials : goal.decreases-initials
decreases-initials l = length l.rest
