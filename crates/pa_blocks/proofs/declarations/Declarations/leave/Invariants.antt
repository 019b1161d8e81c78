use Rattle.std.proofs.Common.{length}
use Rattle.pa_blocks.specs.Steps.{newest_of}
use Rattle.pa_blocks.proofs.Steps.{IsEnding}
use Rattle.pa_blocks.proofs.declarations.Declarations.leave.Given as goal

abbrev pub invariant-steps : goal.invariant-steps
invariant-steps l = IsEnding (newest_of l.self-inside.newest.items) l.self-inside.steps l.self-inside.level l.fn.self.around

abbrev pub decreases-steps : goal.decreases-steps
decreases-steps l = length l.self-inside.steps
