-- What lines give to an object, and which rules they break.
use Rattle.std.specs.Prelude.{◌≡◌, ◌⊎◌, ℕ, ◌+◌, Bool, true, false, List, [], ◌∷◌, ◌++◌, Some, None}
use Rattle.pa_a64.specs.declared.instr.Instr.{Instr}
use Rattle.pa_a64.specs.Decoding.{InRange, encoded}
use Rattle.pa_object.specs.declared.object.Mark.{Mark}
use Rattle.pa_object.specs.declared.object.Ref.{Ref}
use Rattle.pa_asmline.specs.declared.form.Form.{Form}
use Rattle.pa_asmline.specs.Rows.{Text}
use Rattle.pa_asmline.specs.Operands.{Operand}
use Rattle.pa_asmline.specs.Lines.{Line, Blank, Label, Row, Unknown}
use Rattle.pa_asmline.specs.Instructions.{instruction}
use Rattle.pa_asm.specs.declared.labels.Place.{Place}
use Rattle.pa_asm.specs.declared.rule.AsmRule.{AsmRule}
use Rattle.pa_asm.specs.declared.rule.AsmRule.TheVariants.{A1, A2, A4}
use Rattle.pa_asm.specs.Labels.{words}
use Rattle.pa_asm.specs.Settled.{Labels, all_settled, all_refer, rule_of}

pub record Parts : Type 0 where
  pub code : List ℕ
  pub marks : List Mark
  pub refs : List Ref

abbrev pub nothing : Parts
nothing = record { code = []; marks = []; refs = [] }

abbrev pub joined : Parts → Parts → Parts
joined first more = record { code = first.code ++ more.code; marks = first.marks ++ more.marks; refs = first.refs ++ more.refs }

-- ---- one line, with n words before it

-- the label is the first of its name
abbrev pub IsFirst : Labels → (number : ℕ) → Text → Type 0
IsFirst labels number name = (place : Place) × (labels name ≡ Some place) × (place.line ≡ number)

abbrev pub mark_of : Bool → (at : ℕ) → Text → List Mark
mark_of false at name = []
mark_of true at name = record { name = name; at = at; public = true } ∷ []

-- the instruction of a row
abbrev pub meant : Labels → (at : ℕ) → Form → List Operand → Instr
meant labels at form operands = instruction form (all_settled labels at operands)

pub record RowGives (labels : Labels) (at : ℕ) (form : Form) (operands : List Operand) (parts : Parts) : Type 0 where
  pub no_rule : rule_of (all_settled labels at operands) ≡ None
  pub in_range : InRange (meant labels at form operands)
  pub parts_are : parts ≡ record { code = encoded (meant labels at form operands) ∷ []; marks = []; refs = all_refer labels at operands }

-- a row breaks a rule by its operands, or is out of range as a whole: an `ldp` of one register twice
abbrev pub RowBreaks : Labels → (at : ℕ) → Form → List Operand → AsmRule → Type 0
RowBreaks labels at form operands rule =
    (rule_of (all_settled labels at operands) ≡ Some rule)
    ⊎ ((rule_of (all_settled labels at operands) ≡ None) × (InRange (meant labels at form operands) → ⊥) × (rule ≡ A2))

-- what a line gives, where it breaks no rule
abbrev pub Gives : Labels → (number at : ℕ) → Line → Parts → Type 0
Gives labels number at Blank parts = parts ≡ nothing
Gives labels number at (Label public name) parts = IsFirst labels number name × (parts ≡ record { code = []; marks = mark_of public at name; refs = [] })
Gives labels number at (Row form operands) parts = RowGives labels at form operands parts
Gives labels number at Unknown parts = ⊥

-- which rule it breaks
abbrev pub Breaks : Labels → (number at : ℕ) → Line → AsmRule → Type 0
Breaks labels number at Blank rule = ⊥
Breaks labels number at (Label public name) rule = (IsFirst labels number name → ⊥) × (rule ≡ A4)
Breaks labels number at (Row form operands) rule = RowBreaks labels at form operands rule
Breaks labels number at Unknown rule = rule ≡ A1

-- ---- lines, of which the first has this number and n words before it

abbrev pub AllGive : Labels → (number at : ℕ) → List Line → Parts → Type 0
AllGive labels number at [] parts = parts ≡ nothing
AllGive labels number at (line ∷ lines) parts =
    (own more : Parts) × Gives labels number at line own × AllGive labels (number + 1) (at + words line) lines more × (parts ≡ joined own more)

-- the first line that breaks a rule, and its number
abbrev pub FirstBreaks : Labels → (number at : ℕ) → List Line → AsmRule → (place : ℕ) → Type 0
FirstBreaks labels number at [] rule place = ⊥
FirstBreaks labels number at (line ∷ lines) rule place =
    (Breaks labels number at line rule × (place ≡ number))
    ⊎ ((own : Parts) × Gives labels number at line own × FirstBreaks labels (number + 1) (at + words line) lines rule place)
