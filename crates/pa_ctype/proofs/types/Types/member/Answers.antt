use Rattle.std.proofs.Common.{◌≡◌, ◌<◌, Some, None, option_copied, sym, ◌∙◌, ap, subst}
use Rattle.pa_ctype.specs.Kept.{kept_body}
use Rattle.pa_ctype.specs.Tables.{ForStructs, ForNamed}
use Rattle.pa_ctype.specs.Layouts.{member_of, IsMemberOf, IsLaidStruct}
use Rattle.pa_ctype.proofs.Answering.{member_value, member_answered}
use Rattle.pa_ctype.proofs.types.Types.member.Goals as goal

pub returns-in_err-body-clause-value : goal.returns-in_err-body-clause-value
returns-in_err-body-clause-value c =
    subst (λ t. ForNamed t (λ table names. c.from_residual.result ≡ member_of table c.args.id (names c.args.name))) c.self.view_is
    (member_value _ _ c.self.inside.bodies _ c.self.invariant c.args.id c.args.name (subst (λ t. c.args.name < t.names) (sym c.self.view_is) c.requires.name)
    (subst (λ t. ForStructs t (λ table m. IsLaidStruct table c.args.id)) (sym c.self.view_is) c.requires.laid)
    None (sym (ap option_copied c.in_err-body.was) ∙ c.body_of.ensures ∙ ap (λ bodies. kept_body bodies c.args.id) c.as_slice.ensures) _ c.from_residual.ensures)

pub returns-in_err-body-clause-answer : goal.returns-in_err-body-clause-answer
returns-in_err-body-clause-answer c =
    subst (λ t. ForNamed t (λ table names. IsMemberOf table c.args.id (names c.args.name) c.from_residual.result)) c.self.view_is
    (member_answered _ _ c.self.inside.bodies _ c.self.invariant c.args.id c.args.name _
    (subst (λ t. ForNamed t (λ table names. c.from_residual.result ≡ member_of table c.args.id (names c.args.name))) (sym c.self.view_is) (returns-in_err-body-clause-value c)))

pub returns-clause-value : goal.returns-clause-value
returns-clause-value c =
    subst (λ t. ForNamed t (λ table names. c.copied.result ≡ member_of table c.args.id (names c.args.name))) c.self.view_is
    (member_value _ _ c.self.inside.bodies _ c.self.invariant c.args.id c.args.name (subst (λ t. c.args.name < t.names) (sym c.self.view_is) c.requires.name)
    (subst (λ t. ForStructs t (λ table m. IsLaidStruct table c.args.id)) (sym c.self.view_is) c.requires.laid)
    (Some c.in_ok-body.body.now) (sym (ap option_copied c.in_ok-body.was) ∙ c.body_of.ensures ∙ ap (λ bodies. kept_body bodies c.args.id) c.as_slice.ensures) _ (c.copied.ensures ∙ c.get.ensures.value))

pub returns-clause-answer : goal.returns-clause-answer
returns-clause-answer c =
    subst (λ t. ForNamed t (λ table names. IsMemberOf table c.args.id (names c.args.name) c.copied.result)) c.self.view_is
    (member_answered _ _ c.self.inside.bodies _ c.self.invariant c.args.id c.args.name _
    (subst (λ t. ForNamed t (λ table names. c.copied.result ≡ member_of table c.args.id (names c.args.name))) (sym c.self.view_is) (returns-clause-value c)))
