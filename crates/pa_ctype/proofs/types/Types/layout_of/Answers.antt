use Rattle.std.proofs.Common.{◌≡◌, ◌<◌, ◌∙◌, sym, ap, subst, length, true}
use Rattle.indexmap.specs.IndexMap.{keys}
use Rattle.pa_ctype.specs.Nodes.{at}
use Rattle.pa_ctype.specs.Kept.{kept_layout, AreFine}
use Rattle.pa_ctype.specs.Layouts.{layout_by, layout_in, IsLayoutOf}
use Rattle.pa_ctype.specs.Bounds.{is_formed}
use Rattle.pa_ctype.specs.Tables.{ForStructs}
use Rattle.pa_ctype.proofs.Answering.{fine, layout_value, layout_answered, all_formed}
use Rattle.pa_ctype.proofs.types.Types.layout_of.Goals as goal

pub type_layout-requires-clause-fine : goal.type_layout-requires-clause-fine
type_layout-requires-clause-fine c = subst (λ bodies. AreFine (kept_layout bodies)) (sym c.as_slice.ensures) (fine _ _ c.self.inside.bodies _ c.self.invariant)

pub returns-clause-answer : goal.returns-clause-answer
returns-clause-answer c =
    subst (λ t. ForStructs t (λ table m. IsLayoutOf table (m c.args.number) c.type_layout.result)) c.self.view_is
    (layout_answered _ _ c.self.inside.bodies _ c.self.invariant c.args.number (subst (λ t. c.args.number < length t.nodes) (sym c.self.view_is) c.requires) _
    (c.type_layout.ensures ∙ ap (λ bodies. layout_by (kept_layout bodies) (at (keys c.self.inside.nodes) c.args.number)) c.as_slice.ensures))

pub returns-clause-value : goal.returns-clause-value
returns-clause-value c =
    subst (λ t. ForStructs t (λ table m. c.type_layout.result ≡ layout_in table (m c.args.number))) c.self.view_is
    (layout_value _ _ c.self.inside.bodies _ c.self.invariant c.args.number (subst (λ t. c.args.number < length t.nodes) (sym c.self.view_is) c.requires) _
    (c.type_layout.ensures ∙ ap (λ bodies. layout_by (kept_layout bodies) (at (keys c.self.inside.nodes) c.args.number)) c.as_slice.ensures))

pub returns-clause-formed : goal.returns-clause-formed
returns-clause-formed c =
    subst (λ t. ForStructs t (λ table m. is_formed table (m c.args.number) ≡ true)) c.self.view_is
    (all_formed _ _ c.self.inside.bodies _ c.self.invariant c.args.number (subst (λ t. c.args.number < length t.nodes) (sym c.self.view_is) c.requires))
