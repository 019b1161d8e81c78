use Rattle.std.proofs.Common.{◌≡◌, ◌-◌, ◌≤◌, suc}
use Rattle.pa_tree.specs.Heights.{expr_height}
use Rattle.pa_tree.specs.Views.{expr_tree}
use Rattle.pa_pexpr.specs.Rules as rule
use Rattle.pa_grammar.specs.Reading as reading
use Rattle.pa_pexpr.proofs.expr_rules.ExprRules.climb.Given as goal

abbrev pub invariant-loop-turn : goal.invariant-loop-turn
invariant-loop-turn g l = record {
  same : reading.climb (l.self.at.names).now l.self.at.depth (rule.parts l.self.at) l.from l.level (suc l.self.at.depth - l._turn) (expr_tree (l.left).tree) l.r
      ≡ (rule.climb l.self.at l.from l.level l.fn.first).read l.fn.r;
  high : (l.left).height ≡ expr_height (expr_tree (l.left).tree);
  fits : (l.left).height ≤ suc l.self.at.depth;
}
