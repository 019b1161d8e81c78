-- An argument that is given to its parameter, or has none.
use Rattle.std.proofs.Common.{◌≡◌, ℕ, [], ◌∷◌, ◌++◌, Some, None, Result, Ok, Err, true, refl, ap}
use Rattle.pa_ctype.specs.Layouts.{Table}
use Rattle.pa_typed.specs.Typed.{TypedExpr}
use Rattle.pa_scope.specs.declared.rule.TypeRule.{TypeRule}
use Rattle.pa_scope.specs.Answers.{Broken, at_place, breaks_at, first_of_two}
use Rattle.pa_rexpr.specs.Values.{Typed, given}
use Rattle.pa_call.specs.Passing.{Passed, Parameter, first_parameter, with_argument}

tree_at : (place : ℕ) (r : Result TypedExpr TypeRule) (tree : TypedExpr) → at_place place r ≡ Ok tree → r ≡ Ok tree
tree_at place (Ok x) tree e = cc
tree_at place (Err rule) tree e = cc

same_broken : (a b : Broken) → breaks_at {A = TypedExpr} a.rule a.place ≡ breaks_at b.rule b.place → a ≡ b
same_broken a b e = cc

rule_at : (place other : ℕ) (r : Result TypedExpr TypeRule) (rule : TypeRule) → at_place place r ≡ breaks_at rule other → r ≡ Err rule
rule_at place other (Ok x) rule e = cc
rule_at place other (Err broken) rule e =
    ap Err (ap (λ (b : Broken). b.rule) (same_broken (record { rule = broken; place = place }) (record { rule = rule; place = other }) e))

module _ (table : Table) (p : Passed) (a : Typed) where
  pub surplus : None ≡ first_parameter p.left → record p { surplus = true } ≡ with_argument table p a
  surplus none = rw (← none) refl

  pub accepted : (place : ℕ) (parameter : Parameter) (tree : TypedExpr) → Some parameter ≡ first_parameter p.left
      → at_place place (given table parameter.of a) ≡ Ok tree
      → record p { trees = p.trees ++ tree ∷ []; left = parameter.rest } ≡ with_argument table p a
  accepted place parameter tree some e = rw (← some, tree_at place (given table parameter.of a) tree e) refl

  pub refused : (place other : ℕ) (parameter : Parameter) (rule : TypeRule) → Some parameter ≡ first_parameter p.left
      → at_place place (given table parameter.of a) ≡ breaks_at rule other
      → record p { rule = first_of_two p.rule (Some rule); left = parameter.rest } ≡ with_argument table p a
  refused place other parameter rule some e = rw (← some, rule_at place other (given table parameter.of a) rule e) refl
