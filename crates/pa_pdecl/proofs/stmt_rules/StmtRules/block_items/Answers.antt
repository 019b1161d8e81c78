use Rattle.std.proofs.Common.{◌≡◌, false, sym, ◌∙◌}
use Rattle.pa_lex.specs.declared.token.Punct.TheVariants as p
use Rattle.pa_tree.specs.Cursors.{head}
use Rattle.pa_grammar.specs.Parser.{sees}
use Rattle.pa_file_grammar.proofs.Turns.{item_more, item_shortens}
use Rattle.pa_pdecl.proofs.stmt_rules.StmtRules.block_items.Goals as goal

pub items-smaller : goal.items-smaller
items-smaller g c = item_shortens c.args.self.now.at.names.now c.args.self.now.at.depth c.items.r c.block_item.new.r _ c.in_ok-item.ensures

pub items-preserved : goal.items-preserved
items-preserved g c =
    let a = c.sees.ensures in
    let b = c.if-sees.false in
    let brace : sees p.RightBrace (head (c.items.r).ahead) ≡ false = cc in
    rw c.in_ok-push.ensures.ok (sym (item_more c.args.self.now.at.names.now c.args.self.now.at.depth c.items.items c.in_ok-item.item c.items.r c.block_item.new.r brace c.in_ok-item.ensures) ∙ c.items.invariant)
