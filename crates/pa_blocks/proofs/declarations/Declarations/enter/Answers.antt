use Rattle.std.proofs.Common.{◌≡◌, ◌+◌, List, reverse, sym, ap, ◌∙◌, subst, arith}
use Rattle.pa_blocks.specs.declared.declarations.Step.{Step}
use Rattle.pa_blocks.specs.Blocks.{Blocks, entered}
use Rattle.pa_blocks.specs.Steps.{newest_of, blocks_of, AreLevelled}
use Rattle.pa_blocks.proofs.Steps.{entered_levelled, entered_blocks}
use Rattle.pa_blocks.proofs.declarations.Declarations.enter.Goals as goal

pub invariant_of-self-2 : goal.invariant_of-self-2
invariant_of-self-2 c =
    let f = newest_of c.self.inside.newest.items in
    let next : c.in-Some.level ≡ c.self.inside.level + 1 = omega (arith, c.in-Some.ensures) in
    subst (λ (steps : List Step). AreLevelled f (reverse steps) c.in-Some.level) (sym c.in_ok-push.ensures.ok)
    (entered_levelled f c.self.inside.steps c.self.inside.level c.in-Some.level next c.self.invariant)

pub returns-clause-ok : goal.returns-clause-ok
returns-clause-ok c =
    let f = newest_of c.self.inside.newest.items in
    subst (λ (b : Blocks). blocks_of f (reverse c.push.new.self) ≡ entered b) c.self.view_is
    (ap (λ (steps : List Step). blocks_of f (reverse steps)) c.in_ok-push.ensures.ok ∙ entered_blocks f c.self.inside.steps)
