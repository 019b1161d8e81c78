use Rattle.std.proofs.Common.{◌≡◌, ◌++◌, length, map}
use Rattle.pa_link.specs.Numbering.{numbered_initial}
use Rattle.pa_link.proofs.numbered_stmt.initials.Given as goal

abbrev pub invariant-initials : goal.invariant-initials
invariant-initials l = l.made ++ map (numbered_initial l.n) l.rest ≡ map (numbered_initial l.n) l.initials

abbrev pub decreases-initials : goal.decreases-initials
decreases-initials l = length l.rest
