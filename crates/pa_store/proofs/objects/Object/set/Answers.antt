use Rattle.std.proofs.Common.{◌∙◌, ap}
use Rattle.pa_ctype.specs.Nodes.{at}
use Rattle.pa_ctype.specs.Values.{cells_in}
use Rattle.pa_store.specs.Found.{structs_in}
use Rattle.pa_store.specs.Objects.{object_tree, with_values}
use Rattle.pa_store.proofs.Keeping.{values_inserted}
use Rattle.pa_store.proofs.objects.Object.set.Goals as goal

pub returns-in-Ok-clause-ok : goal.returns-in-Ok-clause-ok
returns-in-Ok-clause-ok c t names =
    let o = c.args.self.now in
    let cells = cells_in (structs_in names t) (at t.nodes o.of) in
    ap (λ xs. record (object_tree names t o) { cells = xs }) (ap (λ es. with_values names es cells) c.in-Ok.ensures.entries ∙ values_inserted names o.values.entries c.args.place c.args.value cells)

pub returns-in-Err-clause-err : goal.returns-in-Err-clause-err
returns-in-Err-clause-err c t names =
    let o = c.args.self.now in
    ap (λ es. record (object_tree names t o) { cells = with_values names es (cells_in (structs_in names t) (at t.nodes o.of)) }) c.in-Err.ensures.err
