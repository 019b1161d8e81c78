-- How much a step prints and logs at most.
use Rattle.std.proofs.Common.{ℕ, ◌+◌, ◌≤◌, List, length, ap, ◌∙◌, arith, length-append}
use Rattle.pa_pac.specs.Log.{Log}
use Rattle.pa_pac.specs.Signing.{Code}
use Rattle.pa_object.specs.Machine.{Machine}
use Rattle.pa_object.specs.Run.{step}
use Rattle.pa_object.proofs.Growth.{OutputGrows, LogGrows, step_leaves}

output_room : (n : ℕ) (old new : List ℕ) → OutputGrows n old new → length new ≤ length old + n
output_room n old new g = let e = ap length g.grown ∙ length-append old g.bytes in let few = g.few in omega arith

log_room : (n : ℕ) (old new : Log) → LogGrows n old new → length new ≤ length old + n
log_room n old new g = let e = ap length g.grown ∙ length-append g.entries old in let few = g.few in omega arith

pub step_logs : (code : Code) (m : Machine) → length (step code m).log ≤ length m.log + 2
step_logs code m = log_room 2 m.log (step code m).log (step_leaves code m).log

pub step_prints : (code : Code) (m : Machine) → length (step code m).output ≤ length m.output + 1
step_prints code m = output_room 1 m.output (step code m).output (step_leaves code m).output
