use Rattle.std.proofs.Common.{◌≡◌, length, map}
use Rattle.pa_link.specs.Missing.{earlier, earliest, global_missing}
use Rattle.pa_link.proofs.missing.globals_missing.Given as goal

abbrev pub invariant-globals : goal.invariant-globals
invariant-globals l = earlier l.least (earliest (map (global_missing l.defined) l.rest)) ≡ earliest (map (global_missing l.defined) l.globals)

abbrev pub decreases-globals : goal.decreases-globals
decreases-globals l = length l.rest
