use Rattle.std.proofs.Common.{◌-◌, ◌≤◌, max}
use Rattle.pa_machine.proofs.Runs.{Reached}
use Rattle.pa_machine.proofs.machine.Machine.run.Given as goal

abbrev pub invariant-loop-count : goal.invariant-loop-count
invariant-loop-count g l = record {
  reached : Reached g.P.Pac.code l.script l.items l.fn.self l.self l.count;
  most : l.count ≤ max l.bound l.fn.self.machine.count;
}

abbrev pub decreases-loop-count : goal.decreases-loop-count
decreases-loop-count g l = l.bound - l.count
