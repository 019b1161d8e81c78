use Rattle.std.proofs.Common.{[], refl, sym, ◌∙◌}
use Rattle.pa_ctype.specs.Nodes.{at}
use Rattle.pa_ctype.specs.Layouts.{table_of}
use Rattle.pa_ctype.proofs.NodeTable.{fits_at}
use Rattle.pa_ctype.proofs.Results.{some_layout}
use Rattle.pa_ctype.proofs.Depth.{layout_has}
use Rattle.pa_ctype.proofs.types.Types.align.Goals as goal

pub unwrap-requires : goal.unwrap-requires
unwrap-requires c =
    let m = at c.args.self.now.nodes in
    let fits = fits_at c.args.self.now.nodes in
    some_layout (table_of (λ name. []) m c.args.self.now.structs) (m c.args.number) c.layout_of.result (c.requires.complete (λ name. []) m fits) (c.layout_of.ensures.answer (λ name. []) m fits)

pub returns : goal.returns
returns c names m fits =
    (c.unwrap.result, layout_has (table_of names m c.args.self.now.structs) (m c.args.number) c.unwrap.result (sym (c.layout_of.ensures.value names m fits) ∙ c.unwrap.ensures), refl)
