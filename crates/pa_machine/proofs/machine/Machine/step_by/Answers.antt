use Rattle.std.proofs.Common.{◌+◌, ◌-◌, ◌*◌, ◌≤◌, length, ap, sym, subst, arith}
use Rattle.pa_processor.specs.Processor.{Processor}
use Rattle.pa_machine.specs.Kept.{IsKept}
use Rattle.pa_machine.proofs.Keeping.{kept_step}
use Rattle.pa_machine.proofs.Room.{step_logs, step_prints}
use Rattle.pa_machine.proofs.machine.Machine.step_by.Goals as goal

pub invariant_of-self : goal.invariant_of-self
invariant_of-self g c =
    let code = g.P.Pac.code c.self.inside.p.now in
    let m = c.self.inside.processor.machine in
    let logs = step_logs code m in
    let prints = step_prints code m in
    let log = c.self.invariant.0 in
    let output = c.self.invariant.1 in
    let some : 1 ≤ c.self.inside.spare = omega (arith, ap (λ r. r.spare) c.self.view_is) in
    subst (λ (q : Processor). (length q.machine.log + 2 * (c.self.inside.spare - 1) ≤ q.log_limit) × (length q.machine.output + (c.self.inside.spare - 1) ≤ q.output_limit) × IsKept c.self.inside.kept q.machine.memory)
    (sym c.step_by.ensures) (omega arith, omega arith, kept_step code c.self.inside.kept m c.self.invariant.2)
