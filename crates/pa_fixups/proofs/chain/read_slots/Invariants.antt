use Rattle.std.proofs.Common.{◌-◌, length}
use Rattle.pa_fixups.proofs.Walk.{Walked}
use Rattle.pa_fixups.proofs.chain.read_slots.Given as goal

abbrev pub invariant-loop-fixes : goal.invariant-loop-fixes
invariant-loop-fixes l = Walked l.bounds l.page l.first l.at l.fixes

abbrev pub decreases-loop-fixes : goal.decreases-loop-fixes
decreases-loop-fixes l = length l.page - l.at
