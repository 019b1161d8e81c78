-- Checks in a fixed order, and the first that fails with its rule and place.
use Rattle.std.specs.Prelude.{◌≡◌, ℕ, ◌-◌, Bool, true, replicate, if◌then◌else◌, List, [], ◌∷◌, Option, Some, None, Result, Ok, Err}
use Rattle.pa_num.specs.declared.fault.ImageRule.{ImageRule}
use Rattle.pa_num.specs.declared.fault.Fault.{Fault}
use Rattle.pa_num.specs.declared.fault.Fault.TheVariants.{Refused, Memory}
use Rattle.pa_layout.specs.declared.checks.Flaw.{Flaw}
use Rattle.pa_layout.specs.declared.field.FileField.{FileField}
use Rattle.pa_layout.specs.Fields.{IsAt, stands, spelled, AllFit, wrong_from, nonzero_in}

abbrev pub flaw_at : ImageRule → ℕ → Flaw
flaw_at rule place = record { rule = rule; place = place }

-- a flaw at that place, if there is one
abbrev pub at_place : ImageRule → Option ℕ → Option Flaw
at_place rule None = None
at_place rule (Some place) = Some (flaw_at rule place)

abbrev pub unless : Bool → ImageRule → ℕ → Option Flaw
unless holds rule place = if holds then None else Some (flaw_at rule place)

-- the first flaw, and where there is none the second
infixr 10 ◌then◌
abbrev pub ◌then◌ : Option Flaw → Option Flaw → Option Flaw
None then next = next
(Some flaw) then next = Some flaw

-- ---- checks as data

pub data Check : Type 0 where
  -- the fields stand one after another from the place on
  Fields : ImageRule → ℕ → List FileField → Check
  -- the field stands at the second place; the first place is the one to tell
  Told : ImageRule → ℕ → ℕ → FileField → Check
  -- the bytes from the first place up to the second are zero
  Zeros : ImageRule → ℕ → ℕ → Check
  -- the test holds; the place is the one to tell
  Holds : ImageRule → ℕ → Bool → Check

unfoldable pub flaw_of : Check → List ℕ → Option Flaw
flaw_of (Fields rule at fields) bytes = at_place rule (wrong_from at fields bytes)
flaw_of (Told rule place at field) bytes = unless (stands field at bytes) rule place
flaw_of (Zeros rule low high) bytes = at_place rule (nonzero_in low (high - low) bytes)
flaw_of (Holds rule place holds) bytes = unless holds rule place

-- the first of the checks that fails
abbrev pub first : List Check → List ℕ → Option Flaw
first [] bytes = None
first (check ∷ checks) bytes = flaw_of check bytes then first checks bytes

-- ---- what the checks say of the bytes

abbrev pub Meets : List ℕ → Check → Type 0
Meets bytes (Fields rule at fields) = IsAt bytes at (spelled fields) × AllFit fields
Meets bytes (Told rule place at field) = IsAt bytes at (spelled (field ∷ [])) × AllFit (field ∷ [])
Meets bytes (Zeros rule low high) = IsAt bytes low (replicate (high - low) 0)
Meets bytes (Holds rule place holds) = holds ≡ true

abbrev pub AllMet : List ℕ → List Check → Type 0
AllMet bytes [] = Unit {0}
AllMet bytes (check ∷ checks) = Meets bytes check × AllMet bytes checks

-- ---- answers

-- an answer is Ok exactly where there is no flaw, and otherwise tells the flaw
abbrev pub Answers : {A : Type 0} → Result A Flaw → Option Flaw → Type 0
Answers (Ok value) flaw = flaw ≡ None
Answers (Err told) flaw = flaw ≡ Some told

-- the same of a call that may refuse or lack memory
abbrev pub AnswersOrMemory : {A : Type 0} → Result A (Fault ImageRule) → Option Flaw → Type 0
AnswersOrMemory (Ok value) flaw = flaw ≡ None
AnswersOrMemory (Err (Refused rule place)) flaw = flaw ≡ Some (flaw_at rule place)
AnswersOrMemory (Err Memory) flaw = Unit {0}

-- the answer is this value
abbrev pub Gives : {A E : Type 0} → A → Result A E → Type 0
Gives value result = result ≡ Ok value

-- the answer is this value, unless memory ran out
abbrev pub GivesOrMemory : {A : Type 0} → A → Result A (Fault ImageRule) → Type 0
GivesOrMemory value (Ok given) = given ≡ value
GivesOrMemory value (Err (Refused rule place)) = ⊥
GivesOrMemory value (Err Memory) = Unit {0}

abbrev pub IfRefused : {A : Type 0} → Result A (Fault ImageRule) → (ImageRule → ℕ → Type 0) → Type 0
IfRefused (Ok value) P = Unit {0}
IfRefused (Err (Refused rule place)) P = P rule place
IfRefused (Err Memory) P = Unit {0}
