use Rattle.std.proofs.Common.{◌≡◌, ◌≤◌, true, ap, sym, subst, arith}
use Rattle.pa_object.specs.Script.{is_script}
use Rattle.pa_script.specs.Rules.{last_step}
use Rattle.pa_script.proofs.Pushes.{script-push}
use Rattle.pa_script.proofs.script.Script.push.Goals as goal

pub invariant_of-self-2 : goal.invariant_of-self-2
invariant_of-self-2 c =
    let last : last_step 0 c.self.inside.items ≤ c.args.item.step = omega (arith, c.last_step.ensures, ap (last_step 0) c.self.view_is) in
    subst (λ l. is_script l ≡ true) (sym c.in_ok-push.ensures.ok) (script-push c.self.inside.items c.args.item c.self.invariant c.requires (omega arith) last)
