-- Which instructions have a line of their own.
use Rattle.std.specs.Prelude.{◌≡◌, Bool, true, false, List, map}
use Rattle.pa_a64.specs.declared.instr.Instr.{Instr}
use Rattle.pa_a64.specs.declared.instr.Instr.TheVariants as instr
use Rattle.pa_asmline.specs.declared.form.Form.{Form}
use Rattle.pa_asmline.specs.declared.value.Value.{Value}
use Rattle.pa_asmline.specs.Rows.{Text}
use Rattle.pa_asmline.specs.Operands.{Given}
use Rattle.pa_asmline.specs.Lines.{Row, IsLine}
use Rattle.pa_asmline.specs.Instructions.{instruction}

-- a branch's line names a label, so its distance hangs on the text
abbrev pub has_label : Instr → Bool
has_label (instr.Branch op words) = true
has_label (instr.BranchConditional condition words) = true
has_label (instr.CompareBranch op rt words) = true
has_label _ = false

-- some line without a name gives the instruction
pub record HasLine (i : Instr) : Type 0 where
  pub form : Form
  pub values : List Value
  pub text : Text
  pub line : IsLine (Row form (map Given values)) text
  pub means : instruction form values ≡ i
