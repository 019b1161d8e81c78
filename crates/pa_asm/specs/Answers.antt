-- The object of a text, or the first line that breaks a rule.
use Rattle.std.specs.Prelude.{◌≡◌, ℕ, List, [], Result, Ok, Err}
use Rattle.pa_num.specs.declared.fault.Fault.{Fault}
use Rattle.pa_num.specs.declared.fault.Fault.TheVariants.{Refused, Memory}
use Rattle.pa_object.specs.declared.object.Object.{Object}
use Rattle.pa_asmline.specs.Rows.{Text}
use Rattle.pa_asmline.specs.Lines.{Line}
use Rattle.pa_asm.specs.declared.rule.AsmRule.{AsmRule}
use Rattle.pa_asm.specs.Labels.{find}
use Rattle.pa_asm.specs.Parts.{Parts, AllGive, FirstBreaks}
use Rattle.pa_asm.specs.Written.{Says}

abbrev pub parts_of : Object → Parts
parts_of object = record { code = object.code; marks = object.marks; refs = object.refs }

-- the lines of the text give the object's words, marks and references; there are no globals
abbrev pub IsObjectOf : Text → Object → Type 0
IsObjectOf text object = (lines : List Line) × Says text lines × AllGive (find lines) 1 0 lines (parts_of object) × (object.globals ≡ [])

-- the line of this number is the first that breaks a rule, and it breaks this one
abbrev pub IsRefused : Text → AsmRule → (number : ℕ) → Type 0
IsRefused text rule number = (lines : List Line) × Says text lines × FirstBreaks (find lines) 1 0 lines rule number

-- a text has one object, or breaks one rule first
pub record IsSettled (text : Text) : Type 0 where
  pub one : (object other : Object) → IsObjectOf text object → IsObjectOf text other → object ≡ other
  pub one_rule : (rule other : AsmRule) (number place : ℕ) → IsRefused text rule number → IsRefused text other place → (rule ≡ other) × (number ≡ place)
  pub not_both : (object : Object) (rule : AsmRule) (number : ℕ) → IsObjectOf text object → IsRefused text rule number → ⊥

-- what `assemble` answers
abbrev pub IsAnswer : Text → Result Object (Fault AsmRule) → Type 0
IsAnswer text (Ok object) = IsObjectOf text object
IsAnswer text (Err (Refused rule number)) = IsRefused text rule number
IsAnswer text (Err Memory) = Unit {0}
