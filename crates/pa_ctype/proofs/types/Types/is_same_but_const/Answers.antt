use Rattle.std.proofs.Common.{ap, ◌∙◌}
use Rattle.pa_ctype.specs.Equality.{same_type}
use Rattle.pa_ctype.specs.Qualifiers.{without_const}
use Rattle.pa_ctype.proofs.Sameness.{same_plain}
use Rattle.pa_ctype.proofs.types.Types.is_same_but_const.Goals as goal

pub returns : goal.returns
returns c m fits =
    c.is_same.ensures.value m fits ∙ ap (λ t. same_type t (m c.without_const-right.result)) (c.without_const-left.ensures.is m fits)
    ∙ ap (same_type (without_const (m c.args.a))) (c.without_const-right.ensures.is m fits) ∙ same_plain (m c.args.a) (m c.args.b)
