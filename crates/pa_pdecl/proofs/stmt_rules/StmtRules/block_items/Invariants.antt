use Rattle.std.proofs.Common.{◌≡◌, [], length, map}
use Rattle.pa_tree.specs.Views.{block_item_tree}
use Rattle.pa_grammar.specs.Parser.{many}
use Rattle.pa_grammar.specs.Reading.{not_brace}
use Rattle.pa_pdecl.specs.Rules as rule
use Rattle.pa_pdecl.proofs.stmt_rules.StmtRules.block_items.Given as goal

abbrev pub invariant-items : goal.invariant-items
invariant-items g l = many not_brace (rule.block_item l.self.at).read (map block_item_tree l.items) l.r
    ≡ many not_brace (rule.block_item l.self.at).read [] l.fn.r

abbrev pub decreases-items : goal.decreases-items
decreases-items g l = length (l.r).ahead
