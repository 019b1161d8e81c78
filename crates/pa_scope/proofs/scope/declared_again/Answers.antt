use Rattle.std.proofs.Common.{Bool, if◌then◌else◌, Ok, sym, ap, ◌∙◌}
use Rattle.pa_scope.specs.declared.rule.TypeRule.TheVariants.{C26}
use Rattle.pa_scope.specs.Answers.{breaks_at}
use Rattle.pa_scope.specs.Numbered.{repeats}
use Rattle.pa_scope.proofs.scope.declared_again.Goals as goal

pub returns-then-is_same : goal.returns-then-is_same
returns-then-is_same c m fits s =
    ap (repeats m c.args.place s) (sym c.both_global.ensures ∙ c.in-Some.is)
    ∙ ap (λ (b : Bool). if b then Ok s else breaks_at C26 c.args.place) (sym (c.is_same.ensures.value m fits) ∙ c.if-is_same.true)

pub returns-else-is_same : goal.returns-else-is_same
returns-else-is_same c m fits s =
    ap (repeats m c.args.place s) (sym c.both_global.ensures ∙ c.in-Some.is)
    ∙ ap (λ (b : Bool). if b then Ok s else breaks_at C26 c.args.place) (sym (c.is_same.ensures.value m fits) ∙ c.if-is_same.false)

pub returns-in-None : goal.returns-in-None
returns-in-None c m fits s = ap (repeats m c.args.place s) (sym c.both_global.ensures ∙ c.in-None.is)
