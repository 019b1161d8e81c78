use Rattle.std.proofs.Common.{◌≡◌, ℕ, ◌++◌, [], ◌∷◌, List, reverse, get_or, Option, Some, None, refl, sym, ap, ◌∙◌, subst}
use Rattle.pa_blocks.specs.declared.declarations.Known.{Known}
use Rattle.pa_blocks.specs.declared.declarations.Step.{Step}
use Rattle.pa_blocks.specs.declared.declarations.Step.TheVariants.{Declare}
use Rattle.pa_blocks.specs.Blocks.{Blocks, with_name}
use Rattle.pa_blocks.specs.Steps.{newest_of, put, blocks_of, AreLevelled}
use Rattle.pa_blocks.proofs.Steps.{declared_levelled, declared_blocks, blocks_same, levelled_same}
use Rattle.pa_blocks.proofs.declarations.Declarations.declare.Goals as goal

pub invariant_of-self-2 : goal.invariant_of-self-2
invariant_of-self-2 c =
    let f = newest_of c.make_room.new.newest.items in
    let before = c.known_of-before.ensures ∙ ap (λ (l : List (Option Known)). get_or l c.args.name None) c.deref.ensures.value in
    let e = c.in_ok-push.ensures.ok ∙ ap (λ (o : Option Known). c.self.inside.steps ++ Declare c.args.name o ∷ []) before in
    let h = levelled_same (newest_of c.self.inside.newest.items) f (λ k. sym (c.make_room.ensures.same k)) (reverse c.self.inside.steps) c.self.inside.level c.self.invariant in
    subst (λ (steps : List Step). AreLevelled (newest_of c.put.new.newest.items) (reverse steps) c.self.inside.level) (sym e)
    (declared_levelled f (newest_of c.put.new.newest.items) c.args.name c.self.inside.level c.args.means (λ k. c.put.ensures k) c.self.inside.steps h)

pub returns-clause-ok : goal.returns-clause-ok
returns-clause-ok c =
    let f = newest_of c.make_room.new.newest.items in
    let before = c.known_of-before.ensures ∙ ap (λ (l : List (Option Known)). get_or l c.args.name None) c.deref.ensures.value in
    let e = c.in_ok-push.ensures.ok ∙ ap (λ (o : Option Known). c.self.inside.steps ++ Declare c.args.name o ∷ []) before in
    let same = blocks_same f (newest_of c.self.inside.newest.items) (λ k. c.make_room.ensures.same k) (reverse c.self.inside.steps) in
    let made = declared_blocks f (newest_of c.put.new.newest.items) c.args.name c.self.inside.level c.args.means (λ k. c.put.ensures k) c.self.inside.steps in
    subst (λ (b : Blocks). blocks_of (newest_of c.put.new.newest.items) (reverse c.push.new.self) ≡ with_name c.args.name c.args.means b) c.self.view_is
    (ap (λ (steps : List Step). blocks_of (newest_of c.put.new.newest.items) (reverse steps)) e ∙ made ∙ ap (with_name c.args.name c.args.means) same)
