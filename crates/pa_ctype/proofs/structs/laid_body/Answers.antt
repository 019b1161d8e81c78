use Rattle.std.proofs.Common.{sym, ◌∙◌, subst, ap}
use Rattle.indexmap.specs.IndexMap.{keys}
use Rattle.pa_ctype.specs.Nodes.{at}
use Rattle.pa_ctype.specs.Kept.{kept_layout, unnamed, EndsWithin}
use Rattle.pa_ctype.specs.Layouts.{layout_by, empty, struct_layout}
use Rattle.pa_ctype.proofs.Results.{struct_ends}
use Rattle.pa_ctype.proofs.structs.laid_body.Goals as goal

pub places-requires-clause-few : goal.places-requires-clause-few
places-requires-clause-few c =
    subst (λ ms. EndsWithin (layout_by (kept_layout c.args.bodies.now)) empty (unnamed (at (keys c.args.nodes.now)) ms)) (sym c.as_slice-in-Some.ensures)
    (struct_ends (layout_by (kept_layout c.args.bodies.now)) (unnamed (at (keys c.args.nodes.now)) c.args.members) c.in-Some.field-0
    (ap (λ ms. struct_layout (layout_by (kept_layout c.args.bodies.now)) (unnamed (at (keys c.args.nodes.now)) ms)) (sym c.as_slice.ensures) ∙ sym c.struct_layout-layout.ensures ∙ c.in-Some.is))
