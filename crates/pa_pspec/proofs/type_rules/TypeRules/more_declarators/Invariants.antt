use Rattle.std.proofs.Common.{◌≡◌, ◌≤◌, ◌∷◌, [], length, map}
use Rattle.pa_lex.specs.declared.token.Punct.TheVariants as p
use Rattle.pa_tree.specs.Views.{declarator_tree}
use Rattle.pa_grammar.specs.Parser.{many, sees}
use Rattle.pa_grammar.specs.Parts.{height_of_declarators}
use Rattle.pa_pspec.specs.Rules as rule
use Rattle.pa_pspec.proofs.type_rules.TypeRules.more_declarators.Given as goal

abbrev pub invariant-declarators : goal.invariant-declarators
invariant-declarators g l = record {
  same : many (sees p.Comma) (rule.next_declarator l.self.at).read (map declarator_tree l.all) l.r
      ≡ many (sees p.Comma) (rule.next_declarator l.self.at).read (declarator_tree (l.fn.first).tree ∷ []) l.initial.r;
  high : l.height ≡ height_of_declarators (map declarator_tree l.all);
  fits : l.height ≤ l.self.at.depth;
}

abbrev pub decreases-declarators : goal.decreases-declarators
decreases-declarators g l = length (l.r).ahead
