use Rattle.std.proofs.Common.{◌≡◌, ◌≤◌, ◌-◌, ◌∷◌, [], rules, arith, Ok, Err, sym, ◌∙◌, ap}
use Rattle.std.proofs.lemmas.Grind.{common_steps}
use Rattle.pa_tree.specs.Views.{qualifier_tree}
use Rattle.pa_grammar.specs.Parser.{many}
use Rattle.pa_grammar.specs.Reading.{qualifier, qualifiers, begins_qualifier}
use Rattle.pa_pspec.proofs.Qualifiers.{takes_qualifier}
use Rattle.pa_pspec.proofs.ListHeights.{qualifiers_height}
use Rattle.pa_grammar.proofs.Turned.{eats_is, list_more, list_stops, list_ends}
use Rattle.pa_pspec.specs.Rules as rule
use Rattle.pa_pspec.proofs.type_rules.TypeRules.qualifiers.Goals as goal

pub returns-in_err-qualifier-clause-value : goal.returns-in_err-qualifier-clause-value
unfolding qualifiers
returns-in_err-qualifier-clause-value g c = let f = list_stops qualifier_tree begins_qualifier (rule.qualifier c.args.self.now.at).read (takes_qualifier c.args.self.now.at.names.now c.args.self.now.at.depth) (many begins_qualifier (rule.qualifier c.args.self.now.at).read [] c.args.r.now) c.qualifiers.all c.qualifiers.r c.qualifiers.invariant.same (ap begins_qualifier (sym c.peek.ensures) ∙ sym c.begins_qualifier.ensures ∙ c.qualifiers-test.true) in search (rules, f)

pub qualifiers-preserved : goal.qualifiers-preserved
qualifiers-preserved g c = let m = c.in_ok-qualifier.ensures.measured in let h = qualifiers_height c.qualifiers.all c.push.new.self c.in_ok-qualifier.qualifier.tree c.in_ok-push.ensures.ok in record {
  same = list_more qualifier_tree begins_qualifier (rule.qualifier c.args.self.now.at).read (takes_qualifier c.args.self.now.at.names.now c.args.self.now.at.depth) (many begins_qualifier (rule.qualifier c.args.self.now.at).read [] c.args.r.now) c.qualifiers.all c.push.new.self c.in_ok-qualifier.qualifier.tree c.qualifiers.r c.qualifier.new.r c.qualifiers.invariant.same c.in_ok-push.ensures.ok (ap begins_qualifier (sym c.peek.ensures) ∙ sym c.begins_qualifier.ensures ∙ c.qualifiers-test.true) c.in_ok-qualifier.ensures.value;
  high = grind (arith, common_steps, h, m.0, m.1, c.qualifiers.invariant.high);
  fits = grind (arith, common_steps, m.0, m.1, c.qualifiers.invariant.fits);
}

pub qualifiers-smaller : goal.qualifiers-smaller
qualifiers-smaller g c = eats_is (takes_qualifier c.args.self.now.at.names.now c.args.self.now.at.depth) (qualifier_tree c.in_ok-qualifier.qualifier.tree) c.qualifiers.r c.qualifier.new.r c.in_ok-qualifier.ensures.value

pub returns-clause-value : goal.returns-clause-value
unfolding qualifiers
returns-clause-value g c = list_ends qualifier_tree begins_qualifier (rule.qualifier c.args.self.now.at).read (takes_qualifier c.args.self.now.at.names.now c.args.self.now.at.depth) (many begins_qualifier (rule.qualifier c.args.self.now.at).read [] c.args.r.now) c.qualifiers.all c.qualifiers.r c.qualifiers.invariant.same (ap begins_qualifier (sym c.peek.ensures) ∙ sym c.begins_qualifier.ensures ∙ c.qualifiers-test.false)
