use Rattle.std.proofs.Common.{List, [], ◌∷◌, map, Option, ap, ◌∙◌}
use Rattle.std.proofs.lemmas.List.{map-append}
use Rattle.pa_ctype.specs.Layouts.{table_of}
use Rattle.pa_typed.specs.Typed.{TypedExpr}
use Rattle.pa_typed.specs.Views.{t_expr_tree}
use Rattle.pa_scope.specs.declared.rule.TypeRule.{TypeRule}
use Rattle.pa_value.specs.Forms.{typed_of}
use Rattle.pa_call.specs.Passing.{parameter_of, passed_of}
use Rattle.pa_call.proofs.Passed.{accepted, refused}
use Rattle.pa_call.proofs.arguments.Arguments.with.Goals as goal

pub returns-in_ok-push-in-Ok-clause-is : goal.returns-in_ok-push-in-Ok-clause-is
returns-in_ok-push-in-Ok-clause-is c names m fits =
    let old = c.given.ensures.grows.fits m fits in
    ap (λ (trees : List TypedExpr). record (passed_of names m c.args.self) { trees = trees; left = m c.in-Some.field-0.rest })
    (ap (map (t_expr_tree names m)) c.in_ok-push-in-Ok.ensures.ok
    ∙ map-append (t_expr_tree names m) c.args.self.trees (c.in-Ok.tree ∷ []))
    ∙ accepted (table_of names m c.given.new.types.structs) (passed_of names m c.args.self) (typed_of names m c.args.argument) 0
    (parameter_of m c.in-Some.field-0) (t_expr_tree names m c.in-Ok.tree) (c.in-Some.ensures.is m old) (c.in-Ok.ensures.is names m fits)

pub returns-in-Err-Refused-clause-is : goal.returns-in-Err-Refused-clause-is
returns-in-Err-Refused-clause-is c names m fits =
    let old = c.given.ensures.grows.fits m fits in
    let told = rw c.in-Err-Refused.field-0-is at (c.in-Err-Refused.ensures.is names m fits) in
    ap (λ (rule : Option TypeRule). record (passed_of names m c.args.self) { rule = rule; left = m c.in-Some.field-0.rest })
    c.with_rule.ensures
    ∙ refused (table_of names m c.given.new.types.structs) (passed_of names m c.args.self) (typed_of names m c.args.argument) 0 _
    (parameter_of m c.in-Some.field-0) c.in-Err-Refused.broken (c.in-Some.ensures.is m old) told
