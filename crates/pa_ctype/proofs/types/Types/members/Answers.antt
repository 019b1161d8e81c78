use Rattle.std.proofs.Common.{[], false, option_map, option_copied, sym, ◌∙◌, ap, subst}
use Rattle.std.specs.Option.{option_and_then}
use Rattle.std.specs.List.{slice_get}
use Rattle.pa_ctype.specs.Types.{Of, Void}
use Rattle.pa_ctype.specs.Kept.{kept_body}
use Rattle.pa_ctype.specs.Tables.{ForStructs}
use Rattle.pa_ctype.specs.Layouts.{IsSound}
use Rattle.pa_ctype.proofs.Answering.{sound}
use Rattle.pa_ctype.proofs.Laying.{members_at}
use Rattle.pa_ctype.proofs.types.Types.members.Goals as goal

pub returns-in_err-body-clause-sound : goal.returns-in_err-body-clause-sound
returns-in_err-body-clause-sound c = subst (λ t. ForStructs t (λ table m. IsSound table)) c.self.view_is (sound _ _ c.self.inside.bodies _ c.self.invariant)

pub returns-clause-members : goal.returns-clause-members
returns-clause-members c =
    ap (option_map (λ body. body.members)) (sym (ap option_copied c.in_ok-body.was) ∙ c.body_of.ensures ∙ ap (λ bodies. kept_body bodies c.args.id) c.as_slice.ensures)
    ∙ sym (members_at c.self.inside.names (λ name. []) (λ t. Of false Void) c.self.inside.bodies c.args.id) ∙ ap (λ t. option_and_then (λ body. body) (slice_get t.structs c.args.id)) c.self.view_is

pub returns-clause-sound : goal.returns-clause-sound
returns-clause-sound c = subst (λ t. ForStructs t (λ table m. IsSound table)) c.self.view_is (sound _ _ c.self.inside.bodies _ c.self.invariant)
