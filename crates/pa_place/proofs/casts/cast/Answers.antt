use Rattle.std.proofs.Common.{List, Option, Ok, sym, ap, ◌∙◌}
use Rattle.pa_ctype.specs.declared.ctype.Held.{Held}
use Rattle.pa_ctype.specs.Layouts.{table_of}
use Rattle.pa_scope.specs.declared.rule.TypeRule.{TypeRule}
use Rattle.pa_scope.specs.Answers.{at_place}
use Rattle.pa_rexpr.specs.Values.{unless_broken}
use Rattle.pa_rexpr.specs.Calls.{cast_value, cast}
use Rattle.pa_value.specs.Forms.{typed_of}
use Rattle.pa_place.proofs.casts.cast.Goals as goal

pub returns-in-Some-clause-is : goal.returns-in-Some-clause-is
returns-in-Some-clause-is c names m fits =
    rw c.refused.ensures
    (ap (λ (r : Option TypeRule). at_place c.args.place (unless_broken r (cast_value (m c.args.wanted) (typed_of names m c.args.form))))
    (sym (c.cast_rule.ensures names m fits) ∙ c.in-Some.is))

pub returns-in_ok-cast_value-in-None-clause-is : goal.returns-in_ok-cast_value-in-None-clause-is
returns-in_ok-cast_value-in-None-clause-is c names m fits =
    let old = c.in_ok-cast_value-in-None.ensures.grows.fits m fits in
    ap (λ (s : List (Option (List Held))). cast (table_of names m s) c.args.place (m c.args.wanted) (typed_of names m c.args.form))
    c.in_ok-cast_value-in-None.ensures.grows.structs
    ∙ ap (λ (r : Option TypeRule). at_place c.args.place (unless_broken r (cast_value (m c.args.wanted) (typed_of names m c.args.form))))
    (sym (c.cast_rule.ensures names m old) ∙ c.in-None.is)
    ∙ ap Ok (sym (c.in_ok-cast_value-in-None.ensures.is names m fits))
