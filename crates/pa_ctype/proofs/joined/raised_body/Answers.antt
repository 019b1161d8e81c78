use Rattle.std.proofs.Common.{◌≤◌, ◌∙◌, length, map, sym, ap, subst, arith}
use Rattle.std.specs.List.{slice_get}
use Rattle.pa_ctype.specs.Tables.{types_bound, names_bound}
use Rattle.pa_ctype.specs.Joined.{with_name}
use Rattle.pa_ctype.proofs.Laying.{entry_some}
use Rattle.pa_ctype.proofs.Joining.{types_renamed}
use Rattle.pa_ctype.proofs.joined.raised_body.Goals as goal

pub renamed-requires : goal.renamed-requires
renamed-requires c =
    let known = c.requires.known c.args.id c.in-Some.body.now (entry_some (slice_get c.args.bodies.now c.args.id) c.in-Some.body.now (sym c.in-Some.ensures)) in
    subst (λ ms. names_bound ms ≤ length c.args.names.now) (sym c.as_slice.ensures) known.1

pub laid_body-requires-clause-known : goal.laid_body-requires-clause-known
laid_body-requires-clause-known c =
    let known = (c.requires.known c.args.id c.in-Some.body.now (entry_some (slice_get c.args.bodies.now c.args.id) c.in-Some.body.now (sym c.in-Some.ensures))).0 in
    let bound = ap types_bound (c.in_ok-named.ensures ∙ ap (map (with_name c.args.names.now)) c.as_slice.ensures) ∙ types_renamed c.args.names.now c.in-Some.body.now.members in
    omega (arith, known, bound)

pub retyped-requires : goal.retyped-requires
retyped-requires c =
    let known = (c.requires.known c.args.id c.in-Some.body.now (entry_some (slice_get c.args.bodies.now c.args.id) c.in-Some.body.now (sym c.in-Some.ensures))).0 in
    let bound =
    ap types_bound (c.as_slice-2.ensures ∙ c.in_ok-laid.ensures.members ∙ c.in_ok-named.ensures ∙ ap (map (with_name c.args.names.now)) c.as_slice.ensures) ∙ types_renamed c.args.names.now c.in-Some.body.now.members in
    omega (arith, known, bound, c.requires.count)
