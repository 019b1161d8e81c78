use Rattle.std.proofs.Common.{◌≡◌, length, map}
use Rattle.pa_link.specs.Missing.{earlier, earliest, function_missing}
use Rattle.pa_link.proofs.missing.functions_missing.Given as goal

abbrev pub invariant-functions : goal.invariant-functions
invariant-functions l = earlier l.least (earliest (map (function_missing l.defined) l.rest)) ≡ earliest (map (function_missing l.defined) l.functions)

abbrev pub decreases-functions : goal.decreases-functions
decreases-functions l = length l.rest
