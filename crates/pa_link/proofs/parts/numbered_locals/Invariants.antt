use Rattle.std.proofs.Common.{◌≡◌, ◌++◌, length, map}
use Rattle.pa_link.specs.Numbering.{numbered_local}
use Rattle.pa_link.proofs.parts.numbered_locals.Given as goal

abbrev pub invariant-locals : goal.invariant-locals
invariant-locals l = l.made ++ map (numbered_local l.n) l.rest ≡ map (numbered_local l.n) l.locals

abbrev pub decreases-locals : goal.decreases-locals
decreases-locals l = length l.rest
