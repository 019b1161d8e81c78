use Rattle.std.proofs.Common.{◌≡◌, ◌++◌, length, map}
use Rattle.pa_link.specs.Numbering.{numbered_global}
use Rattle.pa_link.proofs.parts.numbered_globals.Given as goal

abbrev pub invariant-globals : goal.invariant-globals
invariant-globals l = l.made ++ map (numbered_global l.n) l.rest ≡ map (numbered_global l.n) l.globals

abbrev pub decreases-globals : goal.decreases-globals
decreases-globals l = length l.rest
