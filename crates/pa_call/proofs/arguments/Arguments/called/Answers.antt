use Rattle.std.proofs.Common.{Ok, sym, ap, ◌∙◌}
use Rattle.pa_typed.specs.Views.{t_expr_tree}
use Rattle.pa_call.specs.Passing.{passed_of}
use Rattle.pa_call.proofs.Calling.{no_rule, miscounted_is, broken_is, made_is}
use Rattle.pa_call.proofs.arguments.Arguments.called.Goals as goal

pub returns-in_default-clause-is : goal.returns-in_default-clause-is
returns-in_default-clause-is c names m fits =
    rw c.refused.ensures
    (miscounted_is c.args.place c.args.by_name (t_expr_tree names m c.args.function) (passed_of names m c.args.self)
    c.with_rule.result c.with_rule.ensures (c.in_default.ensures.is names m fits))

pub returns-in-Some-rule-clause-is : goal.returns-in-Some-rule-clause-is
returns-in-Some-rule-clause-is c names m fits =
    rw c.refused-in-Some-rule.ensures
    (broken_is c.args.place c.args.by_name (t_expr_tree names m c.args.function) (passed_of names m c.args.self)
    c.in-Some-rule.rule (m c.in-Some.of) c.in-Some-rule.is (c.in-Some.ensures.is names m fits))

pub returns-clause-is : goal.returns-clause-is
returns-clause-is c names m fits =
    let old = c.in_ok-called_form.ensures.grows.fits m fits in
    made_is c.args.place c.args.by_name (t_expr_tree names m c.args.function) (passed_of names m c.args.self) (m c.in-Some.of)
    (no_rule c.args.self.rule c.in_default-rule.not-Some) (c.in-Some.ensures.is names m old)
    ∙ ap Ok (sym (c.in_ok-called_form.ensures.is names m fits))
