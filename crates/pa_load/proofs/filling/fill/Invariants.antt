use Rattle.std.proofs.Common.{length}
use Rattle.pa_load.proofs.Going.{Going}
use Rattle.pa_load.proofs.filling.fill.Given as goal

abbrev pub invariant-loop-fix : goal.invariant-loop-fix
invariant-loop-fix g l = Going (g.P.Pac.code l.p) l.placed l.fixes l.fn.contents l.rest l.contents l.log.entries l.log.spare

abbrev pub decreases-loop-fix : goal.decreases-loop-fix
decreases-loop-fix g l = length l.rest
