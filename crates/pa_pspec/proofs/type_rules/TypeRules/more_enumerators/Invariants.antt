use Rattle.std.proofs.Common.{◌≡◌, ◌≤◌, ◌∷◌, [], length, map}
use Rattle.pa_tree.specs.Views.{enumerator_tree}
use Rattle.pa_grammar.specs.Parser.{iterate}
use Rattle.pa_grammar.specs.Parts.{height_of_enumerators}
use Rattle.pa_pspec.specs.Rules as rule
use Rattle.pa_pspec.proofs.type_rules.TypeRules.more_enumerators.Given as goal

abbrev pub invariant-enumerators : goal.invariant-enumerators
invariant-enumerators g l = record {
  same : iterate (rule.enumerator_step l.self.at) (map enumerator_tree l.all) l.r
      ≡ iterate (rule.enumerator_step l.self.at) (enumerator_tree (l.fn.first).tree ∷ []) l.initial.r;
  high : l.height ≡ height_of_enumerators (map enumerator_tree l.all);
  fits : l.height ≤ l.self.at.depth;
}

abbrev pub decreases-enumerators : goal.decreases-enumerators
decreases-enumerators g l = length (l.r).ahead
