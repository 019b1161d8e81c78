-- The status with which the program ends.
use Rattle.std.specs.Prelude.{ℕ}
use Rattle.pa_task.specs.declared.exit.Exit.{Exit}
use Rattle.pa_task.specs.declared.exit.Exit.TheVariants.{Done, Usage, Refused, ReadFault, InputFault, WriteFault, Memory}

abbrev pub status_of : Exit → ℕ
status_of Done = 0
status_of (Usage fault) = 2
status_of (Refused refusal) = 3
status_of (ReadFault file) = 4
status_of InputFault = 5
status_of WriteFault = 6
status_of Memory = 7
