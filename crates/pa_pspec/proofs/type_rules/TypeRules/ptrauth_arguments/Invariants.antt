use Rattle.std.proofs.Common.{◌≡◌, ◌≤◌, ◌-◌, ◌∷◌, drop, map}
use Rattle.pa_tree.specs.Views.{expr_tree}
use Rattle.pa_grammar.specs.Parts.{height_of_exprs}
use Rattle.pa_grammar.specs.Reading.{parsers, conds}
use Rattle.pa_pspec.proofs.Qualifiers.{conds_behind}
use Rattle.pa_pspec.proofs.type_rules.TypeRules.ptrauth_arguments.Given as goal

abbrev pub invariant-loop-turn : goal.invariant-loop-turn
invariant-loop-turn g l = record {
  same : conds_behind (l.self.at.names).now l.self.at.depth (parsers (l.self.at.names).now l.self.at.depth) (drop 1 (map expr_tree l.all)) (2 - l._turn) l.r ≡ conds (l.self.at.names).now l.self.at.depth (parsers (l.self.at.names).now l.self.at.depth) 2 l.fn.r;
  first : map expr_tree l.all ≡ expr_tree (l.fn.first).tree ∷ drop 1 (map expr_tree l.all);
  high : l.height ≡ height_of_exprs (map expr_tree l.all);
  fits : l.height ≤ l.self.at.depth;
}
