use Rattle.std.proofs.Common.{◌≡◌, ◌≤◌, ◌-◌, ◌∷◌, [], rules, arith, Ok, Err, sym, ◌∙◌, ap}
use Rattle.pa_tree.specs.Views.{parameter_tree}
use Rattle.pa_lex.specs.declared.token.Punct.TheVariants as p
use Rattle.pa_grammar.specs.Parser.{many, sees}
use Rattle.pa_grammar.specs.Reading.{parameter}
use Rattle.pa_pspec.proofs.DeclaratorParts.{takes_parameter}
use Rattle.pa_pspec.proofs.ListHeights.{parameters_height}
use Rattle.pa_grammar.proofs.Turned.{eats_is, list_more, list_stops, list_ends}
use Rattle.pa_pspec.specs.Rules as rule
use Rattle.pa_pspec.proofs.type_rules.TypeRules.more_parameters.Goals as goal

pub returns-in_err-parameter-clause-value : goal.returns-in_err-parameter-clause-value
returns-in_err-parameter-clause-value g c = let f = list_stops parameter_tree (sees p.Comma) (rule.next_parameter c.args.self.now.at).read (takes_parameter c.args.self.now.at.names.now c.args.self.now.at.depth) (many (sees p.Comma) (rule.next_parameter c.args.self.now.at).read (parameter_tree c.args.first.tree ∷ []) c.args.r.now) c.parameters.all c.parameters.r c.parameters.invariant.same (sym c.sees.ensures ∙ c.parameters-test.true) in search (rules, f)

pub parameters-preserved : goal.parameters-preserved
parameters-preserved g c = let m = c.in_ok-parameter.ensures.measured in let h = parameters_height c.parameters.all c.push-in-parameters.new.self c.in_ok-parameter.parameter.tree c.in_ok-push-2.ensures.ok in record {
  same = list_more parameter_tree (sees p.Comma) (rule.next_parameter c.args.self.now.at).read (takes_parameter c.args.self.now.at.names.now c.args.self.now.at.depth) (many (sees p.Comma) (rule.next_parameter c.args.self.now.at).read (parameter_tree c.args.first.tree ∷ []) c.args.r.now) c.parameters.all c.push-in-parameters.new.self c.in_ok-parameter.parameter.tree c.parameters.r c.next_parameter.new.r c.parameters.invariant.same c.in_ok-push-2.ensures.ok (sym c.sees.ensures ∙ c.parameters-test.true) c.in_ok-parameter.ensures.value;
  high = omega (arith, h, m.0, m.1, c.parameters.invariant.high);
  fits = omega (arith, m.0, m.1, c.parameters.invariant.fits);
}

pub parameters-smaller : goal.parameters-smaller
parameters-smaller g c = eats_is (takes_parameter c.args.self.now.at.names.now c.args.self.now.at.depth) (parameter_tree c.in_ok-parameter.parameter.tree) c.parameters.r c.next_parameter.new.r c.in_ok-parameter.ensures.value

pub returns-clause-value : goal.returns-clause-value
returns-clause-value g c = list_ends parameter_tree (sees p.Comma) (rule.next_parameter c.args.self.now.at).read (takes_parameter c.args.self.now.at.names.now c.args.self.now.at.depth) (many (sees p.Comma) (rule.next_parameter c.args.self.now.at).read (parameter_tree c.args.first.tree ∷ []) c.args.r.now) c.parameters.all c.parameters.r c.parameters.invariant.same (sym c.sees.ensures ∙ c.parameters-test.false)
