-- The answers of `load`.
use Rattle.std.specs.Prelude.{◌≡◌, ℕ, Option, Some, None, Result, Ok, Err}
use Rattle.pa_num.specs.declared.fault.Fault.{Fault}
use Rattle.pa_num.specs.declared.fault.Fault.TheVariants.{Refused, Memory}
use Rattle.pa_load.specs.declared.rule.LoadRule.{LoadRule}
use Rattle.pa_load.specs.declared.rule.LoadRule.TheVariants.{B1}

-- a refusal tells the first import that is missing by its index, and nothing is loaded where one is; running out of memory may come
-- at any time
abbrev pub AnswersMissing : {A : Type 0} → Result A (Fault LoadRule) → (missing : Option ℕ) → Type 0
AnswersMissing (Ok value) missing = missing ≡ None
AnswersMissing (Err (Refused rule place)) missing = (rule ≡ B1) × (missing ≡ Some place)
AnswersMissing (Err Memory) missing = Unit {0}
