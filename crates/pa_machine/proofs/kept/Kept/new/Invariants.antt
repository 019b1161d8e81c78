use Rattle.std.proofs.Common.{List}
use Rattle.pa_mem.specs.Memory.{Region}
use Rattle.pa_machine.specs.Kept.{AreRight, AreOf}
use Rattle.pa_machine.proofs.kept.Kept.new.Given as goal

abbrev pub invariant-loop-number : goal.invariant-loop-number
invariant-loop-number l = record {
  right : (memory : List Region) → AreRight memory l.kept;
  own : AreOf l.space l.kept;
}
