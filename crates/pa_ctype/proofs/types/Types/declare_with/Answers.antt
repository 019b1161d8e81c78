use Rattle.std.proofs.Common.{◌≡◌, ◌≤◌, ℕ, [], ◌∷◌, ◌++◌, nat_eq, length, IfSome, Some, sym, ◌∙◌, ap, subst}
use Rattle.std.specs.Option.{option_map}
use Rattle.std.proofs.lemmas.List.{map-append}
use Rattle.indexmap.specs.IndexMap.{keys, values, get}
use Rattle.pa_ctype.specs.Nodes.{at}
use Rattle.pa_ctype.specs.Kept.{members_of, kept_layout, AreFine, AreTypes, unnamed, lay, place_from}
use Rattle.pa_ctype.specs.Tables.{IsSoundIn, types_bound, names_bound, TypeTable}
use Rattle.pa_ctype.specs.Layouts.{struct_layout, layout_by, empty}
use Rattle.pa_ctype.proofs.Answering.{fine, kept_new}
use Rattle.pa_ctype.proofs.KeptGrowth.{types_add}
use Rattle.pa_ctype.proofs.types.Types.declare_with.Goals as goal

pub laid_body-requires-clause-fine : goal.laid_body-requires-clause-fine
laid_body-requires-clause-fine c = subst (λ bodies. AreFine (kept_layout bodies)) (sym c.as_slice.ensures) (fine _ _ c.self.inside.bodies _ c.self.invariant)

pub invariant_of-self-2 : goal.invariant_of-self-2
invariant_of-self-2 c =
    let types = subst (λ t. types_bound c.args.members ≤ length t.nodes) (sym c.self.view_is) c.requires.types in
    let named = subst (λ t. names_bound c.args.members ≤ t.names) (sym c.self.view_is) c.requires.names in
    let sound = subst (λ t. IsSoundIn t c.args.members) (sym c.self.view_is) c.requires.sound in
    let e = c.in_ok-body.ensures.members in
    subst (λ bodies. AreTypes (keys c.self.inside.nodes) (values c.self.inside.nodes) bodies c.self.inside.names) (sym c.in_ok-push.ensures.ok)
    (types_add _ _ c.self.inside.bodies c.self.inside.names c.in_ok-body.body c.self.invariant
    (subst (λ ms. types_bound ms ≤ length (keys c.self.inside.nodes)) (sym e) types) (subst (λ ms. names_bound ms ≤ c.self.inside.names) (sym e) named)
    (λ names m fits. kept_new _ _ c.self.inside.bodies _ c.self.invariant names m fits c.args.members c.in_ok-body.body e types named (sound names m fits)
    (c.in_ok-body.ensures.layout ∙ ap (λ bodies. struct_layout (layout_by (kept_layout bodies)) (unnamed (at (keys c.self.inside.nodes)) c.args.members)) c.as_slice.ensures)
    (subst (λ bodies. IfSome c.in_ok-body.body.layout (λ l. (name : ℕ) → get nat_eq c.in_ok-body.body.places name ≡ place_from (lay (at (keys c.self.inside.nodes)) bodies) name empty 0 c.args.members)) c.as_slice.ensures c.in_ok-body.ensures.places)))

pub returns-clause-ok : goal.returns-clause-ok
returns-clause-ok c =
    ap {B = TypeTable} (λ bodies. record { nodes = keys c.self.inside.nodes; structs = members_of bodies; names = c.self.inside.names }) c.in_ok-push.ensures.ok
    ∙ ap {B = TypeTable} (λ structs. record { nodes = keys c.self.inside.nodes; structs = structs; names = c.self.inside.names }) (map-append (option_map (λ body. body.members)) c.self.inside.bodies (Some c.in_ok-body.body ∷ []) ∙ ap (λ ms. members_of c.self.inside.bodies ++ Some ms ∷ []) c.in_ok-body.ensures.members)
    ∙ ap {A = TypeTable} {B = TypeTable} (λ t. record t { structs = t.structs ++ Some c.args.members ∷ [] }) c.self.view_is
