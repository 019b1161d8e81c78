-- What the program holds, as plain data.
use Rattle.std.specs.Prelude.{Option, Some, None, List, map}
use Rattle.pa_asmline.specs.declared.line.Line.{Line}
use Rattle.pa_asmline.specs.declared.line.Line.TheVariants as line
use Rattle.pa_asmline.specs.declared.operand.Operand.{Operand}
use Rattle.pa_asmline.specs.declared.operand.Operand.TheVariants as operand
use Rattle.pa_asmline.specs.declared.row.Row.{Row}
use Rattle.arrayvec.specs.ArrayVec.{ArrayVec}
use Rattle.pa_asmline.specs.Operands as operands
use Rattle.pa_asmline.specs.Lines as lines

abbrev pub shown_operand : Operand → operands.Operand
shown_operand (operand.Given value) = operands.Given value
shown_operand (operand.Named kind name) = operands.Named kind name.now

abbrev pub shown_operands : List Operand → List operands.Operand
shown_operands = map shown_operand

abbrev pub shown : Line → lines.Line
shown line.Blank = lines.Blank
shown (line.Label public name) = lines.Label public name.now
shown (line.Row row) = lines.Row row.form (shown_operands row.operands.items)
shown line.Unknown = lines.Unknown

abbrev pub option_shown : Option Operand → Option operands.Operand
option_shown None = None
option_shown (Some operand) = Some (shown_operand operand)

abbrev pub rows_operands : Option (ArrayVec Operand) → Option (List operands.Operand)
rows_operands None = None
rows_operands (Some read) = Some (shown_operands read.items)

abbrev pub option_row : Option Row → Option lines.Line
option_row None = None
option_row (Some row) = Some (lines.Row row.form (shown_operands row.operands.items))
