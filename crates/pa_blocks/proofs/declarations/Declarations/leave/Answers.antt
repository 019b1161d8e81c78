use Rattle.std.proofs.Common.{◌≡◌, ◌+◌, ◌-◌, ◌++◌, [], ◌∷◌, ℕ, List, reverse, refl, sym, ap, ◌∙◌, subst, arith}
use Rattle.pa_blocks.specs.declared.declarations.Step.{Step}
use Rattle.pa_blocks.specs.declared.declarations.Step.TheVariants.{Enter, Declare}
use Rattle.pa_blocks.specs.Blocks.{Blocks, left, left_to}
use Rattle.pa_blocks.specs.Steps.{newest_of, blocks_of, AreLevelled}
use Rattle.pa_blocks.proofs.Steps.{IsEnding, HasEnded, ends_by_name, ends_by_enter, ends_nowhere, name_known}
use Rattle.pa_blocks.proofs.declarations.Declarations.leave.Goals as goal

pub steps-init : goal.steps-init
steps-init c = record { levelled = c.self.invariant; around_is = ap (λ (b : Blocks). b.around) c.self.view_is }

pub overflow_sub-self : goal.overflow_sub-self
overflow_sub-self c =
    let last = c.in-Some.ensures ∙ ap (λ (s : Step). c.pop.new.self ++ s ∷ []) c.in-Enter.is in
    let e = ends_by_enter (newest_of c.steps.self-inside.newest.items) c.steps.self-inside.steps c.pop.new.self c.steps.self-inside.level c.args.self.now.around last c.steps.invariant in
    omega (arith, e.level_is)

pub invariant_of-self : goal.invariant_of-self
invariant_of-self c =
    let last = c.in-Some.ensures ∙ ap (λ (s : Step). c.pop.new.self ++ s ∷ []) c.in-Enter.is in
    let e = ends_by_enter (newest_of c.steps.self-inside.newest.items) c.steps.self-inside.steps c.pop.new.self c.steps.self-inside.level c.args.self.now.around last c.steps.invariant in
    let level : c.steps.self-inside.level - 1 ≡ e.below = omega (arith, e.level_is) in
    subst (λ (n : ℕ). AreLevelled (newest_of c.steps.self-inside.newest.items) (reverse c.pop.new.self) n) (sym level) e.levelled

pub returns-in-Enter : goal.returns-in-Enter
returns-in-Enter c =
    let last = c.in-Some.ensures ∙ ap (λ (s : Step). c.pop.new.self ++ s ∷ []) c.in-Enter.is in
    let e = ends_by_enter (newest_of c.steps.self-inside.newest.items) c.steps.self-inside.steps c.pop.new.self c.steps.self-inside.level c.args.self.now.around last c.steps.invariant in
    e.left_is c.args.self.now

pub put-requires : goal.put-requires
put-requires c =
    let last = c.in-Some.ensures ∙ ap (λ (s : Step). c.pop.new.self ++ s ∷ []) c.in-Declare.is in
    name_known c.steps.self-inside.newest.items c.steps.self-inside.steps c.pop.new.self c.steps.self-inside.level c.in-Declare.name c.in-Declare.before last c.steps.invariant.levelled

pub steps-preserved : goal.steps-preserved
steps-preserved c =
    let last = c.in-Some.ensures ∙ ap (λ (s : Step). c.pop.new.self ++ s ∷ []) c.in-Declare.is in
    ends_by_name (newest_of c.steps.self-inside.newest.items) (newest_of c.put.new.newest.items) c.steps.self-inside.steps c.pop.new.self c.steps.self-inside.level c.in-Declare.name c.in-Declare.before c.args.self.now.around last (λ k. c.put.ensures k) c.steps.invariant

pub returns : goal.returns
returns c =
    absurd (ends_nowhere (newest_of c.steps.self-inside.newest.items) c.steps.self-inside.steps c.steps.self-inside.level c.args.self.now.around c.in_default.ensures.0 c.steps.invariant c.requires)
