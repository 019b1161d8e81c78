use Rattle.std.proofs.Common.{◌≡◌, ◌≤◌, ◌-◌, ◌∷◌, [], ◌++◌, map, Ok, Err, IfSome, rules, arith, subst, ap, ◌∙◌}
use Rattle.pa_pspec.specs.Lists.{constant_shown}
use Rattle.pa_tree.specs.Heights.{enumerator_height}
use Rattle.pa_tree.specs.Views.{enumerator_tree}
use Rattle.pa_pspec.proofs.Bodies.{constants, constants_more, constants_stop, constants_end, constants_shorter}
use Rattle.pa_pspec.proofs.ListHeights.{enumerators_height}
use Rattle.pa_pspec.proofs.type_rules.TypeRules.more_enumerators.Goals as goal

pub returns-in_err-found-clause-value : goal.returns-in_err-found-clause-value
returns-in_err-found-clause-value g c = let f = constants_stop c.args.self.now.at.names.now c.args.self.now.at.depth (constants c.args.self.now.at.names.now c.args.self.now.at.depth (enumerator_tree c.args.first.tree ∷ []) c.args.r.now) c.enumerators.all c.enumerators.r c.enumerators.invariant.same in let v = c.in_err-found.ensures.value (map enumerator_tree c.enumerators.all) in search (rules, f, v)

pub returns-in_default-clause-value : goal.returns-in_default-clause-value
returns-in_default-clause-value g c = constants_end c.args.self.now.at.names.now c.args.self.now.at.depth (constants c.args.self.now.at.names.now c.args.self.now.at.depth (enumerator_tree c.args.first.tree ∷ []) c.args.r.now) c.enumerators.all c.enumerators.r c.next_enumerator.new.r c.enumerators.invariant.same (c.in_ok-found.ensures.value (map enumerator_tree c.enumerators.all) ∙ ap (λ x. Ok (constant_shown (map enumerator_tree c.enumerators.all) x, c.next_enumerator.new.r)) c.in_default.is)

pub enumerators-smaller : goal.enumerators-smaller
enumerators-smaller g c = constants_shorter c.args.self.now.at.names.now c.args.self.now.at.depth (constants c.args.self.now.at.names.now c.args.self.now.at.depth (enumerator_tree c.args.first.tree ∷ []) c.args.r.now) c.enumerators.all c.enumerators.r ((map enumerator_tree c.enumerators.all) ++ enumerator_tree c.in-Some.constant.tree ∷ []) c.next_enumerator.new.r (c.in_ok-found.ensures.value (map enumerator_tree c.enumerators.all) ∙ ap (λ x. Ok (constant_shown (map enumerator_tree c.enumerators.all) x, c.next_enumerator.new.r)) c.in-Some.is)

pub enumerators-preserved : goal.enumerators-preserved
enumerators-preserved g c = let m = subst (λ f. IfSome f (λ m. (m.height ≡ enumerator_height (enumerator_tree m.tree)) × (m.height ≤ c.args.self.now.at.depth))) c.in-Some.is c.in_ok-found.ensures.measured in
    let h = enumerators_height c.enumerators.all c.push-in-enumerators.new.self c.in-Some.constant.tree c.in_ok-push-2.ensures.ok in record {
      same = constants_more c.args.self.now.at.names.now c.args.self.now.at.depth (constants c.args.self.now.at.names.now c.args.self.now.at.depth (enumerator_tree c.args.first.tree ∷ []) c.args.r.now) c.enumerators.all c.enumerators.r c.push-in-enumerators.new.self c.in-Some.constant.tree c.next_enumerator.new.r c.enumerators.invariant.same c.in_ok-push-2.ensures.ok (c.in_ok-found.ensures.value (map enumerator_tree c.enumerators.all) ∙ ap (λ x. Ok (constant_shown (map enumerator_tree c.enumerators.all) x, c.next_enumerator.new.r)) c.in-Some.is);
      high = omega (arith, h, m.0, m.1, c.enumerators.invariant.high);
      fits = omega (arith, m.0, m.1, c.enumerators.invariant.fits);
    }
