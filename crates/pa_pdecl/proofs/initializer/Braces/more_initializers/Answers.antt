use Rattle.std.proofs.Common.{◌≡◌, true, false, sym, ◌∙◌}
use Rattle.pa_lex.specs.declared.token.Punct.TheVariants as p
use Rattle.pa_tree.specs.Cursors.{head}
use Rattle.pa_grammar.specs.Parser.{sees}
use Rattle.pa_file_grammar.proofs.Turns.{initializer_more}
use Rattle.pa_pdecl.proofs.initializer.Braces.more_initializers.Goals as goal

pub items-preserved : goal.items-preserved
items-preserved g c =
    let a = c.sees.ensures in
    let b = c.if-not-sees.false in
    let comma : sees p.Comma (head (c.items.r).ahead) ≡ true = cc in
    let i = c.sees-in-items.ensures in
    let j = c.if-sees.false in
    let brace : sees p.RightBrace (head (c.expect.new.self).ahead) ≡ false = cc in
    rw c.in_ok-push-2.ensures.ok (sym (initializer_more c.args.self.now.at.names.now c.args.self.now.at.depth c.items.items c.in_ok-item.item c.items.r c.expect.new.self c.initializer.new.r _ comma c.in_ok-expect.ensures brace c.in_ok-item.ensures) ∙ c.items.invariant)
