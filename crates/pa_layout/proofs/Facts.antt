-- What is known once a check has passed.
use Rattle.std.proofs.Common.{Result, Ok, Err, subst, sym, ◌≡◌, ℕ, ◌≤◌, Bool, true, false, leb, List, [], ◌∷◌, Option, Some, None, refl}
use Rattle.std.proofs.lemmas.Bool.{leb-true}
use Rattle.std.specs.Result.{IsErrAnd}
use Rattle.pa_num.specs.declared.fault.ImageRule.{ImageRule}
use Rattle.pa_num.specs.declared.fault.Fault.{Fault}
use Rattle.pa_num.specs.declared.fault.Fault.TheVariants.{Refused, Memory}
use Rattle.pa_layout.specs.declared.checks.Flaw.{Flaw}
use Rattle.pa_layout.specs.declared.field.FileField.{FileField}
use Rattle.pa_layout.specs.Flaws.{at_place, unless, Check, Fields, Holds, flaw_of, first, AnswersOrMemory, ◌then◌}
use Rattle.pa_layout.proofs.Laws.{AllAllowed, all_allowed}

pub then_none : (a b : Option Flaw) → a then b ≡ None → (a ≡ None) × (b ≡ None)
then_none None b e = (refl, e)
then_none (Some f) b e = absurd cc

pub none_then : (a b : Option Flaw) → a ≡ None → b ≡ None → a then b ≡ None
none_then a b p q = rw p q

pub unless_none : (b : Bool) (rule : ImageRule) (place : ℕ) → unless b rule place ≡ None → b ≡ true
unless_none true rule place e = refl
unless_none false rule place e = absurd cc

pub at_none : (rule : ImageRule) (o : Option ℕ) → at_place rule o ≡ None → o ≡ None
at_none rule None e = refl
at_none rule (Some n) e = absurd cc

pub holds_true : (rule : ImageRule) (place : ℕ) (holds : Bool) (bytes : List ℕ) → flaw_of (Holds rule place holds) bytes ≡ None → holds ≡ true
unfolding flaw_of
holds_true rule place holds bytes e = unless_none holds rule place e

pub holds_le : (rule : ImageRule) (place a b : ℕ) (bytes : List ℕ) → flaw_of (Holds rule place (leb a b)) bytes ≡ None → a ≤ b
holds_le rule place a b bytes e = leb-true _ _ (holds_true rule place (leb a b) bytes e)

pub fields_allowed : (rule : ImageRule) (at : ℕ) (fields : List FileField) (bytes : List ℕ) → flaw_of (Fields rule at fields) bytes ≡ None → AllAllowed fields
unfolding flaw_of
fields_allowed rule at fields bytes e = all_allowed at fields bytes (at_none rule _ e)

-- none of the checks finds anything
abbrev pub EachNone : List Check → List ℕ → Type 0
EachNone [] bytes = Unit {0}
EachNone (check ∷ checks) bytes = (flaw_of check bytes ≡ None) × EachNone checks bytes

pub each_none : (checks : List Check) (bytes : List ℕ) → first checks bytes ≡ None → EachNone checks bytes
each_none [] bytes e = tt
each_none (check ∷ checks) bytes e =
    let a = then_none (flaw_of check bytes) (first checks bytes) e in
    (a.0, each_none checks bytes a.1)

-- ---- answers of calls that allocate

-- a flaw that is handed on by `?`
pub refused_answers : {A : Type 0} (result : Result A (Fault ImageRule)) (told : Flaw) (flaw : Option Flaw) → IsErrAnd result (λ fault. fault ≡ Refused told.rule told.place) → flaw ≡ Some told → AnswersOrMemory result flaw
refused_answers {A} (Ok value) told flaw h e = absurd h
refused_answers {A} (Err fault) told flaw h e = subst (λ (f : Fault ImageRule). AnswersOrMemory {A = A} (Err f) flaw) (sym h) e
