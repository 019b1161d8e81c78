use Rattle.std.proofs.Common.{◌≡◌, ◌-◌}
use Rattle.pa_sip.specs.Sip.{rounds}
use Rattle.pa_sip.proofs.sip.State.rounds.Given as goal

abbrev pub invariant-loop : goal.invariant-loop
invariant-loop l = rounds (l.count - l.counter) l.self ≡ rounds l.count l.initial.self
