-- What an examination of a construct answers: a value, or the first rule that is broken and where.
use Rattle.std.specs.Prelude.{ℕ, nat_lt, if◌then◌else◌, List, [], ◌∷◌, Option, Some, None, Result, Ok, Err}
use Rattle.pa_scope.specs.declared.rule.TypeRule.{TypeRule}
use Rattle.pa_scope.specs.declared.rule.TypeRule.TheVariants.{C1, C2, C3, C4, C5, C6, C7, C8, C9, C10, C11, C12, C13, C14, C15, C16, C17, C18, C19, C20, C21, C22, C23, C24, C25, C26, C27}

-- a rule, and the first byte of what breaks it
pub record Broken : Type 0 where
  pub rule : TypeRule
  pub place : ℕ

abbrev pub Answer : Type 0 → Type 0
Answer A = Result A Broken

abbrev pub breaks_at : {A : Type 0} → TypeRule → ℕ → Answer A
breaks_at rule place = Err (record { rule = rule; place = place })

-- the first part, and then what is made of it
abbrev pub then_with : {A B : Type 0} → Answer A → (A → Answer B) → Answer B
then_with (Ok x) go = go x
then_with (Err b) go = Err b

-- what one construct answers, whose place this is
abbrev pub at_place : {A : Type 0} → ℕ → Result A TypeRule → Answer A
at_place place (Ok x) = Ok x
at_place place (Err rule) = breaks_at rule place

-- parts from the left to the right
abbrev pub in_order : {A : Type 0} → List (Answer A) → Answer (List A)
in_order [] = Ok []
in_order (a ∷ more) = then_with a (λ x. then_with (in_order more) (λ xs. Ok (x ∷ xs)))

-- nothing where no rule is broken
abbrev pub checked : {A : Type 0} → ℕ → Option TypeRule → A → Answer A
checked place None x = Ok x
checked place (Some rule) x = breaks_at rule place

-- at one construct the rules are tried in this order
abbrev pub rule_number : TypeRule → ℕ
rule_number C1 = 1
rule_number C2 = 2
rule_number C3 = 3
rule_number C4 = 4
rule_number C5 = 5
rule_number C6 = 6
rule_number C7 = 7
rule_number C8 = 8
rule_number C9 = 9
rule_number C10 = 10
rule_number C11 = 11
rule_number C12 = 12
rule_number C13 = 13
rule_number C14 = 14
rule_number C15 = 15
rule_number C16 = 16
rule_number C17 = 17
rule_number C18 = 18
rule_number C19 = 19
rule_number C20 = 20
rule_number C21 = 21
rule_number C22 = 22
rule_number C23 = 23
rule_number C24 = 24
rule_number C25 = 25
rule_number C26 = 26
rule_number C27 = 27

-- of two rules that are broken at one construct, the one that counts
abbrev pub first_of_two : Option TypeRule → Option TypeRule → Option TypeRule
first_of_two None other = other
first_of_two (Some rule) None = Some rule
first_of_two (Some rule) (Some other) = if nat_lt (rule_number other) (rule_number rule) then Some other else Some rule

-- the rule that a part of a construct breaks
abbrev pub rule_in : {A : Type 0} → Result A TypeRule → Option TypeRule
rule_in (Ok x) = None
rule_in (Err rule) = Some rule

-- of the rules that parts of a construct break, the one that counts
abbrev pub first_rule : {A : Type 0} → List (Result A TypeRule) → Option TypeRule
first_rule [] = None
first_rule (r ∷ rs) = first_of_two (rule_in r) (first_rule rs)
