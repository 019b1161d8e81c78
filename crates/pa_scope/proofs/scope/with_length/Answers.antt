use Rattle.std.proofs.Common.{ℕ, List, [], refl, sym, ◌∙◌, subst}
use Rattle.pa_ctype.specs.Types.{TypeTree}
use Rattle.pa_ctype.specs.Layouts.{table_of}
use Rattle.pa_ctype.specs.Nodes.{Fits, at}
use Rattle.pa_scope.specs.Scopes.{CompletesType}
use Rattle.pa_scope.proofs.Opening.{opens, closed}
use Rattle.pa_scope.proofs.scope.with_length.Goals as goal

pub put-requires-clause-complete : goal.put-requires-clause-complete
put-requires-clause-complete c names m fits =
    let table = table_of names m c.args.types.now.structs in
    opens table m c.args.count c.node.result c.in-Some.of (sym c.in-Some.is ∙ c.open_element.ensures)
    (subst (λ (t : TypeTree). CompletesType table c.args.count t) (c.node.ensures.is m fits) (c.requires.complete names m fits))

pub unreachable-requires : goal.unreachable-requires
unreachable-requires c =
    let ns = c.args.types.now.nodes in
    let m = at ns in
    let names : ℕ → List ℕ = λ (i : ℕ). [] in
    let fits : Fits m ns = record { by = λ i h. refl } in
    let table = table_of names m c.args.types.now.structs in
    closed table m c.args.count c.node.result (c.node.ensures.proper m fits) (sym c.in-None.is ∙ c.open_element.ensures)
    (subst (λ (t : TypeTree). CompletesType table c.args.count t) (c.node.ensures.is m fits) (c.requires.complete names m fits))
