use Rattle.std.proofs.Common.{◌≡◌, ◌++◌, length, map}
use Rattle.pa_link.specs.Numbering.{numbered_declared}
use Rattle.pa_link.proofs.parts.numbered_declareds.Given as goal

abbrev pub invariant-declared : goal.invariant-declared
invariant-declared l = l.made ++ map (numbered_declared l.n) l.rest ≡ map (numbered_declared l.n) l.declared

abbrev pub decreases-declared : goal.decreases-declared
decreases-declared l = length l.rest
