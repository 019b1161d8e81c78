-- What operands are worth where the labels are known.
use Rattle.std.specs.Prelude.{ℕ, ◌-◌, Bool, true, false, nat_le, if◌then◌else◌, List, [], ◌∷◌, map, Option, Some, None}
use Rattle.std.specs.List.{list_any, flat_map}
use Rattle.pa_asmline.specs.declared.kind.Kind.TheVariants as kind
use Rattle.pa_asmline.specs.declared.kind.Range.{Range}
use Rattle.pa_asmline.specs.declared.value.Value.{Value}
use Rattle.pa_asmline.specs.declared.value.Value.TheVariants.{Number, Out, Missing}
use Rattle.pa_asmline.specs.Rows.{Text}
use Rattle.pa_asmline.specs.Operands.{Operand, Given, Named, value}
use Rattle.pa_object.specs.declared.object.Ref.{Ref}
use Rattle.pa_object.specs.declared.object.RefKind.{RefKind}
use Rattle.pa_object.specs.declared.object.RefKind.TheVariants.{Call, Page, Low}
use Rattle.pa_asm.specs.declared.labels.Place.{Place}
use Rattle.pa_asm.specs.declared.rule.AsmRule.{AsmRule}
use Rattle.pa_asm.specs.declared.rule.AsmRule.TheVariants.{A2, A3}

-- the place of each label
abbrev pub Labels : Type 0
Labels = Text → Option Place

-- from the instruction itself to a place, in words
abbrev pub distance : Range → (at to : ℕ) → Value
distance range at to = if nat_le at to then value range false (to - at) else value range true (at - to)

-- the field of a word that is filled later
abbrev pub unfilled : Value
unfilled = Number false 0

abbrev pub reached : Range → (at : ℕ) → (otherwise : Value) → Option Place → Value
reached range at otherwise None = otherwise
reached range at otherwise (Some place) = distance range at place.at

-- what an operand of the instruction at this place is worth
abbrev pub settled : Labels → (at : ℕ) → Operand → Value
settled labels at (Given own) = own
settled labels at (Named (kind.Target range) name) = reached range at Missing (labels name)
settled labels at (Named (kind.Callee range) name) = reached range at unfilled (labels name)
settled labels at (Named _ name) = unfilled

abbrev pub reference : (at : ℕ) → RefKind → Text → List Ref
reference at kind name = record { at = at; kind = kind; name = name } ∷ []

abbrev pub unless_found : Option Place → List Ref → List Ref
unless_found None refs = refs
unless_found (Some place) refs = []

-- the references that it leaves
abbrev pub refers : Labels → (at : ℕ) → Operand → List Ref
refers labels at (Given own) = []
refers labels at (Named (kind.Callee range) name) = unless_found (labels name) (reference at Call name)
refers labels at (Named kind.Page name) = reference at Page name
refers labels at (Named kind.PageOffset name) = reference at Low name
refers labels at (Named _ name) = []

abbrev pub all_settled : Labels → (at : ℕ) → List Operand → List Value
all_settled labels at operands = map (settled labels at) operands

abbrev pub all_refer : Labels → (at : ℕ) → List Operand → List Ref
all_refer labels at operands = flat_map (refers labels at) operands

abbrev pub is_out : Value → Bool
is_out Out = true
is_out Missing = false
is_out (Number negative count) = false

abbrev pub is_missing : Value → Bool
is_missing Missing = true
is_missing Out = false
is_missing (Number negative count) = false

-- the rule that the values break: a number out of range before a label that isn't there
abbrev pub rule_of : List Value → Option AsmRule
rule_of values = if list_any is_out values then Some A2 else (if list_any is_missing values then Some A3 else None)
