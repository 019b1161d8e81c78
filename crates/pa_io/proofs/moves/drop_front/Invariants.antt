use Rattle.std.proofs.Common.{◌≡◌, ◌-◌, length, take}
use Rattle.pa_io.proofs.Shifted.{Shifted}
use Rattle.pa_io.proofs.moves.drop_front.Given as goal

abbrev pub invariant-loop-at : goal.invariant-loop-at
invariant-loop-at l = Shifted l.initial.bytes l.bytes l.count l.at

abbrev pub invariant-loop : goal.invariant-loop
invariant-loop l = l.bytes ≡ take (length l.initial.bytes - l.counter) l.initial.bytes
