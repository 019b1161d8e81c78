use Rattle.std.proofs.Common.{sym, ◌∙◌, ap}
use Rattle.std.specs.Option.{option_map, option_copied}
use Rattle.pa_store.specs.Views.{value_tree}
use Rattle.pa_store.proofs.Keeping.{none_read, some_read}
use Rattle.pa_store.proofs.objects.Object.read.Goals as goal

pub returns-in_err-_cell : goal.returns-in_err-_cell
returns-in_err-_cell c names =
    ap (option_map (value_tree names)) c.from_residual.ensures ∙ none_read names c.args.types.now c.args.self.now c.args.place c.cell.result _ (c.cell.ensures names) c.in_err-_cell.was

pub returns-in_err-get : goal.returns-in_err-get
returns-in_err-get c names =
    let kept = sym (ap option_copied c.in_err-get.was) ∙ c.get.ensures.value in
    ap (option_map (value_tree names)) (c.from_residual-in_err-get.ensures ∙ kept)
    ∙ some_read names c.args.types.now c.args.self.now c.args.place c.cell.result _ c.in_ok-_cell._cell (c.cell.ensures names) c.in_ok-_cell.was

pub returns : goal.returns
returns c names =
    let kept = sym (ap option_copied c.in_ok-get.was) ∙ c.get.ensures.value in
    ap (option_map (value_tree names)) kept ∙ some_read names c.args.types.now c.args.self.now c.args.place c.cell.result _ c.in_ok-_cell._cell (c.cell.ensures names) c.in_ok-_cell.was
