use Rattle.std.proofs.Common.{◌≡◌, ◌≤◌, length, map}
use Rattle.pa_lex.specs.declared.token.Punct.TheVariants as p
use Rattle.pa_tree.specs.Heights.{exprs_height}
use Rattle.pa_tree.specs.Views.{expr_tree, exprs_of}
use Rattle.pa_pexpr.specs.Rules as rule
use Rattle.pa_grammar.specs.Parser.{many, sees}
use Rattle.pa_pexpr.proofs.expr_rules.ExprRules.more_arguments.Given as goal

abbrev pub invariant-arguments : goal.invariant-arguments
invariant-arguments g l = record {
  same : many (sees p.Comma) (rule.next_argument l.self.at).read (map expr_tree l.all) l.r ≡ (rule.more_arguments l.self.at l.fn.first).read l.fn.r;
  high : l.height ≡ exprs_height (exprs_of (map expr_tree l.all));
  fits : l.height ≤ l.self.at.depth;
}

abbrev pub decreases-arguments : goal.decreases-arguments
decreases-arguments g l = length (l.r).ahead
