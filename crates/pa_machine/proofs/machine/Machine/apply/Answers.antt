use Rattle.std.proofs.Common.{◌≡◌, ◌+◌, ◌*◌, ◌≤◌, length, true, ap, sym, subst, ◌∙◌}
use Rattle.pa_object.specs.Script.{deed_fits}
use Rattle.pa_processor.specs.Processor.{Processor}
use Rattle.pa_machine.specs.Kept.{IsKept}
use Rattle.pa_machine.proofs.Keeping.{kept_deed}
use Rattle.pa_machine.proofs.machine.Machine.apply.Goals as goal

pub invariant_of-self : goal.invariant_of-self
invariant_of-self g c =
    let fits : deed_fits c.args.item.now.deed c.self.inside.processor.machine.memory ≡ true =
    ap (λ r. deed_fits c.args.item.now.deed r.machine.memory) c.self.view_is ∙ c.requires.fits in
    let kept = kept_deed c.args.item.now.deed c.self.inside.kept c.self.inside.processor.machine.memory fits c.self.invariant.2 in
    let spare = c.self.inside.spare in
    subst (λ (q : Processor). (length q.machine.log + 2 * spare ≤ q.log_limit) × (length q.machine.output + spare ≤ q.output_limit) × IsKept c.self.inside.kept q.machine.memory)
    (sym c.apply.ensures) (c.self.invariant.0, c.self.invariant.1, kept)
