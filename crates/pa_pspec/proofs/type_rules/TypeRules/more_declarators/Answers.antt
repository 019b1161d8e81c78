use Rattle.std.proofs.Common.{◌≡◌, ◌≤◌, ◌-◌, ◌∷◌, [], rules, arith, Ok, Err, sym, ◌∙◌, ap}
use Rattle.pa_tree.specs.Views.{declarator_tree}
use Rattle.pa_lex.specs.declared.token.Punct.TheVariants as p
use Rattle.pa_grammar.specs.Parser.{many, sees}
use Rattle.pa_pspec.proofs.Bodies.{takes_declarator}
use Rattle.pa_pspec.proofs.ListHeights.{declarators_height}
use Rattle.pa_grammar.proofs.Turned.{eats_is, list_more, list_stops, list_ends}
use Rattle.pa_pspec.specs.Rules as rule
use Rattle.pa_pspec.proofs.type_rules.TypeRules.more_declarators.Goals as goal

pub returns-in_err-declarator-clause-value : goal.returns-in_err-declarator-clause-value
returns-in_err-declarator-clause-value g c = let f = list_stops declarator_tree (sees p.Comma) (rule.next_declarator c.args.self.now.at).read (takes_declarator c.args.self.now.at.names.now c.args.self.now.at.depth) (many (sees p.Comma) (rule.next_declarator c.args.self.now.at).read (declarator_tree c.args.first.tree ∷ []) c.args.r.now) c.declarators.all c.declarators.r c.declarators.invariant.same (sym c.sees.ensures ∙ c.declarators-test.true) in search (rules, f)

pub declarators-preserved : goal.declarators-preserved
declarators-preserved g c = let m = c.in_ok-declarator.ensures.measured in let h = declarators_height c.declarators.all c.push-in-declarators.new.self c.in_ok-declarator.declarator.tree c.in_ok-push-2.ensures.ok in record {
  same = list_more declarator_tree (sees p.Comma) (rule.next_declarator c.args.self.now.at).read (takes_declarator c.args.self.now.at.names.now c.args.self.now.at.depth) (many (sees p.Comma) (rule.next_declarator c.args.self.now.at).read (declarator_tree c.args.first.tree ∷ []) c.args.r.now) c.declarators.all c.push-in-declarators.new.self c.in_ok-declarator.declarator.tree c.declarators.r c.next_declarator.new.r c.declarators.invariant.same c.in_ok-push-2.ensures.ok (sym c.sees.ensures ∙ c.declarators-test.true) c.in_ok-declarator.ensures.value;
  high = omega (arith, h, m.0, m.1, c.declarators.invariant.high);
  fits = omega (arith, m.0, m.1, c.declarators.invariant.fits);
}

pub declarators-smaller : goal.declarators-smaller
declarators-smaller g c = eats_is (takes_declarator c.args.self.now.at.names.now c.args.self.now.at.depth) (declarator_tree c.in_ok-declarator.declarator.tree) c.declarators.r c.next_declarator.new.r c.in_ok-declarator.ensures.value

pub returns-clause-value : goal.returns-clause-value
returns-clause-value g c = list_ends declarator_tree (sees p.Comma) (rule.next_declarator c.args.self.now.at).read (takes_declarator c.args.self.now.at.names.now c.args.self.now.at.depth) (many (sees p.Comma) (rule.next_declarator c.args.self.now.at).read (declarator_tree c.args.first.tree ∷ []) c.args.r.now) c.declarators.all c.declarators.r c.declarators.invariant.same (sym c.sees.ensures ∙ c.declarators-test.false)
