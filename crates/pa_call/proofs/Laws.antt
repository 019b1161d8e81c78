-- Arguments that are passed one by one make the call that they make together.
use Rattle.std.proofs.Common.{◌≡◌, ℕ, suc, ◌<◌, ◌≤◌, ◌==◌, if◌then◌else◌, Bool, true, false, List, [], ◌∷◌, ◌++◌, map, length, Option, Some, None, Result, Ok, Err, refl, sym, ap, ◌∙◌, inl, inr, arith}
use Rattle.std.proofs.Math.Dec.{eqb-zero-suc, eqb-suc-zero, eqb-suc-suc}
use Rattle.std.proofs.lemmas.Bool.{cases_lt, lt-ltb, le-ltb}
use Rattle.pa_ctype.specs.Types.{TypeTree, Of, Function, TypeTrees, Nil, Cons}
use Rattle.pa_ctype.specs.Layouts.{Table}
use Rattle.pa_typed.specs.Typed.{TypedExpr, ConsTExpr}
use Rattle.pa_typed.specs.Views.{t_exprs_of}
use Rattle.pa_scope.specs.declared.rule.TypeRule.{TypeRule}
use Rattle.pa_scope.specs.declared.rule.TypeRule.TheVariants.{C9}
use Rattle.pa_scope.specs.Answers.{Answer, breaks_at, first_of_two, first_rule, rule_number}
use Rattle.pa_rexpr.specs.Values.{Typed, given}
use Rattle.pa_rexpr.specs.Calls as calls
use Rattle.pa_call.specs.Passing.{Passed, none_passed, first_rule_of, miscounted, taken, with_arguments, called}

-- ---- the first of two rules

lower : (a b : TypeRule) → rule_number b < rule_number a → first_rule_of a b ≡ b
lower a b h = rw (lt-ltb (rule_number b) (rule_number a) h) refl

upper : (a b : TypeRule) → rule_number a ≤ rule_number b → first_rule_of a b ≡ a
upper a b h = rw (le-ltb (rule_number b) (rule_number a) h) refl

rules_grouped : (a b c : TypeRule) → first_rule_of (first_rule_of a b) c ≡ first_rule_of a (first_rule_of b c)
rules_grouped a b c = elim (cases_lt (rule_number b) (rule_number a)) [
  | inl h ↦ elim (cases_lt (rule_number c) (rule_number b)) [
    | inl k ↦ rw (lower a b h, lower b c k, lower a c (omega arith)) refl
    | inr k ↦ rw (lower a b h, upper b c k, lower a b h) refl
  ]
  | inr h ↦ elim (cases_lt (rule_number c) (rule_number b)) [
    | inl k ↦ rw (upper a b h, lower b c k) refl
    | inr k ↦ rw (upper a b h, upper b c k, upper a b h, upper a c (omega arith)) refl
  ]
]

of_two : (a b : TypeRule) → first_of_two (Some a) (Some b) ≡ Some (first_rule_of a b)
of_two a b = elim (cases_lt (rule_number b) (rule_number a)) [
  | inl h ↦ rw (lt-ltb (rule_number b) (rule_number a) h) refl
  | inr h ↦ rw (le-ltb (rule_number b) (rule_number a) h) refl
]

without : (a : Option TypeRule) → first_of_two a None ≡ a
without None = refl
without (Some a) = refl

grouped : (a b c : Option TypeRule) → first_of_two (first_of_two a b) c ≡ first_of_two a (first_of_two b c)
grouped None b c = refl
grouped (Some a) None c = refl
grouped (Some a) (Some b) None = without (first_of_two (Some a) (Some b))
grouped (Some a) (Some b) (Some c) =
    ap (λ (r : Option TypeRule). first_of_two r (Some c)) (of_two a b)
    ∙ of_two (first_rule_of a b) c
    ∙ ap Some (rules_grouped a b c)
    ∙ sym (of_two a (first_rule_of b c))
    ∙ ap (first_of_two (Some a)) (sym (of_two b c))

pub with_count : (a : Option TypeRule) → first_of_two a (Some C9) ≡ Some (miscounted a)
with_count None = refl
with_count (Some a) = of_two a C9

-- ---- trees

trees_first : (ts : List TypedExpr) → calls.trees (map Ok ts ++ []) ≡ t_exprs_of ts
trees_first [] = refl
trees_first (t ∷ ts) = ap (ConsTExpr t) (trees_first ts)

trees_without : (ts : List TypedExpr) (rule : TypeRule) (es : List (Result TypedExpr TypeRule))
    → calls.trees (map Ok ts ++ Err rule ∷ es) ≡ calls.trees (map Ok ts ++ es)
trees_without [] rule es = refl
trees_without (t ∷ ts) rule es = ap (ConsTExpr t) (trees_without ts rule es)

trees_more : (ts : List TypedExpr) (t : TypedExpr) (es : List (Result TypedExpr TypeRule))
    → calls.trees (map Ok (ts ++ t ∷ []) ++ es) ≡ calls.trees (map Ok ts ++ Ok t ∷ es)
trees_more [] t es = refl
trees_more (u ∷ ts) t es = ap (ConsTExpr u) (trees_more ts t es)

-- ---- calls

module _ (table : Table) (place : ℕ) (by_name : Bool) (f : TypedExpr) (c : Bool) (result : TypeTree) where
  abbrev state : List TypedExpr → Option TypeRule → TypeTrees → Bool → Passed
  state ts rule params surplus = record { trees = ts; rule = rule; left = Of c (Function params result); surplus = surplus }

  same_call : (es fs : List (Result TypedExpr TypeRule)) (rule : Option TypeRule) → calls.trees es ≡ calls.trees fs
      → calls.called place by_name f result es rule ≡ calls.called place by_name f result fs rule
  same_call es fs None h = rw h refl
  same_call es fs (Some rule) h = refl

  -- an argument has no parameter
  too_many : (ts : List TypedExpr) (rule : Option TypeRule) (arguments : List Typed)
      → called place by_name f (with_arguments table (state ts rule Nil true) arguments) ≡ breaks_at (miscounted rule) place
  too_many ts rule [] = refl
  too_many ts rule (a ∷ arguments) = too_many ts rule arguments

  -- the rule of the parameters that are left, with these arguments
  abbrev rule_left : TypeTrees → List Typed → Option TypeRule
  rule_left params arguments =
      first_of_two (first_rule (calls.passed table params arguments)) (calls.count_rule params arguments)

  abbrev call_left : List TypedExpr → Option TypeRule → TypeTrees → List Typed → Answer Typed
  call_left ts rule params arguments =
      calls.called place by_name f result (map Ok ts ++ calls.passed table params arguments)
      (first_of_two rule (rule_left params arguments))

  ended : (ts : List TypedExpr) (rule : Option TypeRule)
      → called place by_name f (state ts rule Nil false) ≡ call_left ts rule Nil []
  ended ts None = rw (trees_first ts) refl
  ended ts (Some rule) = refl

  -- one argument is passed to its parameter, which takes it or breaks a rule, and then the others
  one_more : (ts : List TypedExpr) (rule : Option TypeRule) (t : TypeTree) (params : TypeTrees) (arguments : List Typed)
      → ((us : List TypedExpr) (other : Option TypeRule)
      → called place by_name f (with_arguments table (state us other params false) arguments) ≡ call_left us other params arguments)
      → (r : Result TypedExpr TypeRule)
      → called place by_name f (with_arguments table (taken (state ts rule (Cons t params) false) (Of c (Function params result)) r) arguments)
      ≡ calls.called place by_name f result (map Ok ts ++ r ∷ calls.passed table params arguments)
      (first_of_two rule (first_of_two (first_rule (r ∷ calls.passed table params arguments)) (calls.count_rule params arguments)))
  one_more ts rule t params arguments others (Ok e) =
      others (ts ++ e ∷ []) rule
      ∙ same_call (map Ok (ts ++ e ∷ []) ++ calls.passed table params arguments) (map Ok ts ++ Ok e ∷ calls.passed table params arguments)
      (first_of_two rule (rule_left params arguments)) (trees_more ts e (calls.passed table params arguments))
  one_more ts rule t params arguments others (Err broken) =
      others ts (first_of_two rule (Some broken))
      ∙ ap (calls.called place by_name f result (map Ok ts ++ calls.passed table params arguments))
      (grouped rule (Some broken) (rule_left params arguments)
      ∙ ap (first_of_two rule) (sym (grouped (Some broken) (first_rule (calls.passed table params arguments)) (calls.count_rule params arguments))))
      ∙ sym (same_call (map Ok ts ++ Err broken ∷ calls.passed table params arguments) (map Ok ts ++ calls.passed table params arguments)
      (first_of_two rule (first_of_two (first_rule (Err broken ∷ calls.passed table params arguments)) (calls.count_rule params arguments)))
      (trees_without ts broken (calls.passed table params arguments)))

  -- there is another count of arguments than of parameters
  miscount : (ts : List TypedExpr) (rule : Option TypeRule) (counts : Bool) → counts ≡ false
      → calls.called place by_name f result (map Ok ts ++ []) (first_of_two rule (if counts then None else Some C9)) ≡ breaks_at (miscounted rule) place
  miscount ts rule true h = cc
  miscount ts rule false h = ap (calls.called place by_name f result (map Ok ts ++ [])) (with_count rule)

  all_passed : (ts : List TypedExpr) (rule : Option TypeRule) (params : TypeTrees) (arguments : List Typed)
      → called place by_name f (with_arguments table (state ts rule params false) arguments) ≡ call_left ts rule params arguments
  all_passed ts rule Nil [] = ended ts rule
  all_passed ts rule Nil (a ∷ arguments) =
      too_many ts rule arguments ∙ sym (miscount ts rule (0 == suc (length arguments)) (eqb-zero-suc (length arguments)))
  all_passed ts rule (Cons t params) [] =
      sym (miscount ts rule (suc (calls.type_count params) == 0) (eqb-suc-zero (calls.type_count params)))
  all_passed ts rule (Cons t params) (a ∷ arguments) =
      one_more ts rule t params arguments (λ us other. all_passed us other params arguments) (given table t a)
      ∙ ap (λ (counts : Bool). calls.called place by_name f result (map Ok ts ++ given table t a ∷ calls.passed table params arguments)
      (first_of_two rule (first_of_two (first_rule (given table t a ∷ calls.passed table params arguments)) (if counts then None else Some C9))))
      (sym (eqb-suc-suc (calls.type_count params) (length arguments)))

-- A call with arguments that are passed one by one is the call with all of them.
pub one_by_one : (table : Table) (place : ℕ) (by_name : Bool) (f : Typed) (c : Bool) (params : TypeTrees) (result : TypeTree) (arguments : List Typed)
    → called place by_name f.tree (with_arguments table (none_passed (Of c (Function params result))) arguments)
    ≡ calls.call_of table place by_name f arguments (Some (Of c (Function params result)))
one_by_one table place by_name f c params result arguments = all_passed table place by_name f.tree c result [] None params arguments
