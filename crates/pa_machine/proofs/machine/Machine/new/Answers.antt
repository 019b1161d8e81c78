use Rattle.std.proofs.Common.{◌≡◌, length, ap, sym, subst, arith}
use Rattle.pa_object.specs.Machine.{Machine}
use Rattle.pa_machine.specs.Kept.{IsKept}
use Rattle.pa_machine.proofs.machine.Machine.new.Goals as goal

pub invariant_of-result : goal.invariant_of-result
invariant_of-result g c =
    let none : length c.new-processor.result.machine.output ≡ 0 = ap (λ (m : Machine). length m.output) c.new-processor.ensures.machine in
    let kept : IsKept c.in_ok-kept.kept c.args.loaded.space =
    record { right = c.in_ok-kept.ensures.right c.args.loaded.space; own = c.in_ok-kept.ensures.own; apart = c.in_ok-kept.ensures.apart } in
    (omega arith, omega arith, subst (λ (m : Machine). IsKept c.in_ok-kept.kept m.memory) (sym c.new-processor.ensures.machine) kept)
