use Rattle.std.proofs.Common.{◌≡◌, true, None, map, sym, ◌∙◌}
use Rattle.pa_lex.specs.declared.token.Punct.TheVariants as p
use Rattle.pa_tree.specs.Cursors.{head}
use Rattle.pa_tree.specs.Views.{init_declarator_tree}
use Rattle.pa_grammar.specs.Parser.{sees}
use Rattle.pa_file_grammar.proofs.Turns.{declared_more, behind_none}
use Rattle.pa_pdecl.proofs.declaration.more_declarators.Goals as goal

pub items-preserved : goal.items-preserved
items-preserved c =
    let a = c.sees.ensures in
    let b = c.if-not-sees.false in
    let comma : sees p.Comma (head (c.items.r).ahead) ≡ true = cc in
    rw c.in_ok-push-2.ensures.ok (sym (declared_more None c.args.depth c.args.names.now c.items.items c.in_ok-item.item c.items.r c.expect.new.self c.init_declarator.new.r _ comma c.in_ok-expect.ensures
    (rw (behind_none (map init_declarator_tree c.items.items) c.args.names.now) c.in_ok-item.ensures)) ∙ c.items.invariant)
