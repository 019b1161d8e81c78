-- A call, by what its arguments and their count break.
use Rattle.std.proofs.Common.{◌≡◌, ℕ, Bool, Option, Some, None, Ok, refl, sym, ap}
use Rattle.pa_ctype.specs.Types.{TypeTree}
use Rattle.pa_typed.specs.Typed.{TypedExpr}
use Rattle.pa_scope.specs.declared.rule.TypeRule.{TypeRule}
use Rattle.pa_scope.specs.declared.rule.TypeRule.TheVariants.{C9}
use Rattle.pa_scope.specs.Answers.{breaks_at, first_of_two}
use Rattle.pa_rexpr.specs.Values.{Typed}
use Rattle.pa_call.specs.Passing.{Passed, miscounted, result_of, called, called_form}
use Rattle.pa_call.proofs.Laws.{with_count}

pub no_rule : (r : Option TypeRule) → ((rule : TypeRule) → r ≡ Some rule → ⊥) → r ≡ None
no_rule None h = refl
no_rule (Some rule) h = absurd (h rule refl)

module _ (place : ℕ) (by_name : Bool) (f : TypedExpr) (p : Passed) where
  pub miscounted_is : (rule : TypeRule) → Some rule ≡ first_of_two p.rule (Some C9) → None ≡ result_of p
      → called place by_name f p ≡ breaks_at rule place
  miscounted_is rule first none =
      let same : rule ≡ miscounted p.rule = cc (first, with_count p.rule) in
      rw (← none) (ap (λ (r : TypeRule). breaks_at {A = Typed} r place) (sym same))

  pub broken_is : (rule : TypeRule) (result : TypeTree) → p.rule ≡ Some rule → Some result ≡ result_of p
      → called place by_name f p ≡ breaks_at rule place
  broken_is rule result broken some = rw (← some, broken) refl

  pub made_is : (result : TypeTree) → p.rule ≡ None → Some result ≡ result_of p
      → called place by_name f p ≡ Ok (called_form by_name f p.trees result)
  made_is result none some = rw (← some, none) refl
