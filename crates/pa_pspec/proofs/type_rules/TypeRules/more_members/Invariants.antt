use Rattle.std.proofs.Common.{◌≡◌, ◌≤◌, ◌∷◌, [], length, map}
use Rattle.pa_tree.specs.Views.{member_tree}
use Rattle.pa_grammar.specs.Parser.{many}
use Rattle.pa_grammar.specs.Parts.{height_of_members}
use Rattle.pa_grammar.specs.Reading.{not_brace}
use Rattle.pa_pspec.specs.Rules as rule
use Rattle.pa_pspec.proofs.type_rules.TypeRules.more_members.Given as goal

abbrev pub invariant-members : goal.invariant-members
invariant-members g l = record {
  same : many not_brace (rule.member l.self.at).read (map member_tree l.all) l.r
      ≡ many not_brace (rule.member l.self.at).read (member_tree (l.fn.first).tree ∷ []) l.initial.r;
  high : l.height ≡ height_of_members (map member_tree l.all);
  fits : l.height ≤ l.self.at.depth;
}

abbrev pub decreases-members : goal.decreases-members
decreases-members g l = length (l.r).ahead
