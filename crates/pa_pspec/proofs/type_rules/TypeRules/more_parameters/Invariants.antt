use Rattle.std.proofs.Common.{◌≡◌, ◌≤◌, ◌∷◌, [], length, map}
use Rattle.pa_lex.specs.declared.token.Punct.TheVariants as p
use Rattle.pa_tree.specs.Views.{parameter_tree}
use Rattle.pa_grammar.specs.Parser.{many, sees}
use Rattle.pa_grammar.specs.Parts.{height_of_parameters}
use Rattle.pa_pspec.specs.Rules as rule
use Rattle.pa_pspec.proofs.type_rules.TypeRules.more_parameters.Given as goal

abbrev pub invariant-parameters : goal.invariant-parameters
invariant-parameters g l = record {
  same : many (sees p.Comma) (rule.next_parameter l.self.at).read (map parameter_tree l.all) l.r
      ≡ many (sees p.Comma) (rule.next_parameter l.self.at).read (parameter_tree (l.fn.first).tree ∷ []) l.initial.r;
  high : l.height ≡ height_of_parameters (map parameter_tree l.all);
  fits : l.height ≤ l.self.at.depth;
}

abbrev pub decreases-parameters : goal.decreases-parameters
decreases-parameters g l = length (l.r).ahead
