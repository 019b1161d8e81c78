use Rattle.std.proofs.Common.{◌≡◌, ◌≤◌, ◌-◌, suc}
use Rattle.pa_tree.specs.Heights.{declarator_height}
use Rattle.pa_tree.specs.Views.{declarator_tree}
use Rattle.pa_grammar.specs.Reading.{parsers, suffixes}
use Rattle.pa_pspec.proofs.type_rules.TypeRules.suffixes.Given as goal

abbrev pub invariant-loop-turn : goal.invariant-loop-turn
invariant-loop-turn g l = record {
  same : suffixes (l.self.at.names).now l.self.at.depth (parsers (l.self.at.names).now l.self.at.depth) l.from (suc l.self.at.depth - l._turn) (declarator_tree (l.whole).tree) l.r
      ≡ suffixes (l.self.at.names).now l.self.at.depth (parsers (l.self.at.names).now l.self.at.depth) l.from (suc l.self.at.depth) (declarator_tree (l.fn.first).tree) l.fn.r;
  high : (l.whole).height ≡ declarator_height (declarator_tree (l.whole).tree);
  fits : (l.whole).height ≤ suc l.self.at.depth;
  rises : l._turn ≤ (l.whole).height;
}
