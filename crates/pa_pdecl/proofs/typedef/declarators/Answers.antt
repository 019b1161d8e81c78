use Rattle.std.proofs.Common.{◌≡◌, true, sym, ◌∙◌}
use Rattle.pa_lex.specs.declared.token.Punct.TheVariants as p
use Rattle.pa_tree.specs.Cursors.{head}
use Rattle.pa_grammar.specs.Parser.{sees}
use Rattle.pa_file_grammar.proofs.Turns.{declared_more, behind_more}
use Rattle.pa_pdecl.proofs.typedef.declarators.Goals as goal

pub items-preserved : goal.items-preserved
items-preserved c =
    let a = c.sees.ensures in
    let b = c.if-not-sees.false in
    let comma : sees p.Comma (head (c.items.r).ahead) ≡ true = cc in
    rw c.in_ok-push-2.ensures.ok (record {
      same = sym (declared_more c.args.storage c.args.depth c.args.names.now c.items.items c.in_ok-item.item c.items.r c.expect.new.self c.another.new.r _ comma c.in_ok-expect.ensures
          (rw (← c.items.invariant.noted) c.in_ok-item.ensures.value)) ∙ c.items.invariant.same;
      noted = behind_more c.args.storage c.items.items c.in_ok-item.item c.args.names.now c.items.names c.another.new.names c.items.invariant.noted c.in_ok-item.ensures.names;
    })
