use Rattle.std.proofs.Common.{◌≡◌, ◌++◌, length, map}
use Rattle.pa_link.specs.Numbering.{numbered_local_init}
use Rattle.pa_link.proofs.numbered_stmt.local_inits.Given as goal

abbrev pub invariant-names : goal.invariant-names
invariant-names l = l.made ++ map (numbered_local_init l.n) l.rest ≡ map (numbered_local_init l.n) l.names

abbrev pub decreases-names : goal.decreases-names
decreases-names l = length l.rest
