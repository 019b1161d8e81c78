use Rattle.std.proofs.Common.{◌≡◌, ◌++◌, length, map}
use Rattle.pa_link.specs.Numbering.{numbered_function}
use Rattle.pa_link.proofs.parts.numbered_functions.Given as goal

abbrev pub invariant-functions : goal.invariant-functions
invariant-functions l = l.made ++ map (numbered_function l.n) l.rest ≡ map (numbered_function l.n) l.functions

abbrev pub decreases-functions : goal.decreases-functions
decreases-functions l = length l.rest
