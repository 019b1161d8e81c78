use Rattle.std.proofs.Common.{sym, ◌∙◌}
use Rattle.pa_file_grammar.proofs.Turns.{file_more, names_more}
use Rattle.pa_pdecl.proofs.file.file_items.Goals as goal

pub items-preserved : goal.items-preserved
items-preserved c =
    rw c.in_ok-push.ensures.ok (record {
      same = sym (file_more c.args.depth c.items.items c.in_ok-item.item c.items.r c.file_item.new.r (rw (← c.items.invariant.noted) c.in_ok-item.ensures.value)) ∙ c.items.invariant.same;
      noted = names_more c.args.depth c.items.items c.in_ok-item.item c.items.names c.file_item.new.names c.items.invariant.noted c.in_ok-item.ensures.names;
    })
