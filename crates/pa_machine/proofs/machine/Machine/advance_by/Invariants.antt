use Rattle.pa_machine.proofs.Runs.{Alone}
use Rattle.pa_machine.proofs.machine.Machine.advance_by.Given as goal

abbrev pub invariant-loop : goal.invariant-loop
invariant-loop g l = Alone g.P.Pac.code l.fn.self l.self l.counter
