use Rattle.std.proofs.Common.{Some, sym, ◌∙◌, ap}
use Rattle.std.specs.Option.{option_map}
use Rattle.pa_ctype.specs.declared.ctype.Layout.{Layout}
use Rattle.pa_ctype.specs.Nodes.{at}
use Rattle.pa_ctype.specs.Values.{cells_in}
use Rattle.pa_store.specs.Found.{structs_in}
use Rattle.pa_store.specs.Views.{owner_tree}
use Rattle.pa_store.specs.Objects.{object_tree, with_values}
use Rattle.pa_store.proofs.Going.{fits_at}
use Rattle.pa_store.proofs.Keeping.{living, none_fresh, some_fresh}
use Rattle.pa_store.proofs.objects.Object.fresh.Goals as goal

pub returns-in_err-layout-clause-is : goal.returns-in_err-layout-clause-is
returns-in_err-layout-clause-is c names =
    let t = c.args.types.now in
    let laid = c.layout_of.ensures.value names (at t.nodes) (fits_at t.nodes) in
    ap (option_map (object_tree names t)) c.from_residual.ensures ∙ none_fresh (structs_in names t) (owner_tree names c.args.owner) (at t.nodes c.args.of) c.layout_of.result laid c.in_err-layout.was

pub returns-clause-well : goal.returns-clause-well
returns-clause-well c =
    let t = c.args.types.now in
    record {
      known = c.requires;
      laid = λ names. ap (option_map (λ (l : Layout). l.size)) (sym (c.layout_of.ensures.value names (at t.nodes) (fits_at t.nodes)) ∙ c.in_ok-layout.was);
    }

pub returns-clause-is : goal.returns-clause-is
returns-clause-is c names =
    let t = c.args.types.now in
    let cells = cells_in (structs_in names t) (at t.nodes c.args.of) in
    let laid = c.layout_of.ensures.value names (at t.nodes) (fits_at t.nodes) in
    ap (λ es. Some (living (owner_tree names c.args.owner) c.in_ok-layout.layout.size (with_values names es cells))) c.new.ensures.empty
    ∙ some_fresh (structs_in names t) (owner_tree names c.args.owner) (at t.nodes c.args.of) c.layout_of.result c.in_ok-layout.layout laid c.in_ok-layout.was
