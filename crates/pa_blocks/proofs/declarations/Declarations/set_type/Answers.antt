use Rattle.std.proofs.Common.{◌≡◌, List, reverse, get_or, Option, Some, None, IsSome, sym, ap, ◌∙◌, subst}
use Rattle.pa_blocks.specs.declared.meant.Meant.{Meant}
use Rattle.pa_blocks.specs.declared.declarations.Known.{Known}
use Rattle.pa_blocks.specs.Blocks.{Blocks, meaning, retyped}
use Rattle.pa_blocks.specs.Steps.{newest_of, put, blocks_of, means_of, with_known_type}
use Rattle.pa_blocks.proofs.Steps.{finds, retypes, levelled, blocks_same, levelled_same}
use Rattle.pa_blocks.proofs.declarations.Declarations.set_type.Goals as goal

pub invariant_of-self : goal.invariant_of-self
invariant_of-self c =
    let f = newest_of c.self.inside.newest.items in
    let at = sym (c.known_of.ensures ∙ ap (λ (l : List (Option Known)). get_or l c.args.name None) c.deref.ensures.value) ∙ c.in-Some.is in
    let h = levelled c.args.name c.args.of f (reverse c.self.inside.steps) c.self.inside.level c.self.invariant c.in-Some.known at in
    levelled_same (put c.args.name (Some (with_known_type c.args.of c.in-Some.known)) f) (newest_of c.put.new.newest.items)
    (λ k. sym (subst (λ (o : Known). get_or c.put.new.newest.items k None ≡ put c.args.name (Some o) f k) c.with_type.ensures (c.put.ensures k))) (reverse c.self.inside.steps) c.self.inside.level h

pub unreachable-requires : goal.unreachable-requires
unreachable-requires c =
    let e = finds (newest_of c.self.inside.newest.items) (reverse c.self.inside.steps) c.self.inside.level c.self.invariant c.args.name in
    let none = sym (c.known_of.ensures ∙ ap (λ (l : List (Option Known)). get_or l c.args.name None) c.deref.ensures.value) ∙ c.in-None.is in
    let there = subst (λ (b : Blocks). IsSome (meaning b c.args.name)) (sym c.self.view_is) c.requires in
    let some = subst (λ (o : Option Meant). IsSome o) (e ∙ ap means_of none) there in
    absurd (cc some)

pub returns : goal.returns
returns c =
    let f = newest_of c.self.inside.newest.items in
    let at = sym (c.known_of.ensures ∙ ap (λ (l : List (Option Known)). get_or l c.args.name None) c.deref.ensures.value) ∙ c.in-Some.is in
    let e = retypes c.args.name c.args.of f (reverse c.self.inside.steps) c.self.inside.level c.self.invariant c.in-Some.known at in
    let same = blocks_same (newest_of c.put.new.newest.items) (put c.args.name (Some (with_known_type c.args.of c.in-Some.known)) f)
    (λ k. subst (λ (o : Known). get_or c.put.new.newest.items k None ≡ put c.args.name (Some o) f k) c.with_type.ensures (c.put.ensures k)) (reverse c.self.inside.steps) in
    subst (λ (b : Blocks). blocks_of (newest_of c.put.new.newest.items) (reverse c.self.inside.steps) ≡ retyped c.args.name c.args.of b) c.self.view_is (same ∙ e)
