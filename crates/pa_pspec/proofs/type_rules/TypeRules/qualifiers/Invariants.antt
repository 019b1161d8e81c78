use Rattle.std.proofs.Common.{◌≡◌, ◌≤◌, [], length, map}
use Rattle.pa_tree.specs.Views.{qualifier_tree}
use Rattle.pa_grammar.specs.Parser.{many}
use Rattle.pa_grammar.specs.Parts.{height_of_qualifiers}
use Rattle.pa_grammar.specs.Reading.{begins_qualifier}
use Rattle.pa_pspec.specs.Rules as rule
use Rattle.pa_pspec.proofs.type_rules.TypeRules.qualifiers.Given as goal

abbrev pub invariant-qualifiers : goal.invariant-qualifiers
invariant-qualifiers g l = record {
  same : many begins_qualifier (rule.qualifier l.self.at).read (map qualifier_tree l.all) l.r
      ≡ many begins_qualifier (rule.qualifier l.self.at).read [] l.initial.r;
  high : l.height ≡ height_of_qualifiers (map qualifier_tree l.all);
  fits : l.height ≤ l.self.at.depth;
}

abbrev pub decreases-qualifiers : goal.decreases-qualifiers
decreases-qualifiers g l = length (l.r).ahead
