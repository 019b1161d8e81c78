use Rattle.std.proofs.Common.{◌≡◌, length}
use Rattle.pa_asmline.specs.Reading.{row_among}
use Rattle.pa_asmline.proofs.row.row_among.Given as goal

abbrev pub invariant-forms : goal.invariant-forms
invariant-forms l = row_among l.ahead l.text ≡ row_among l.forms l.text

abbrev pub decreases-forms : goal.decreases-forms
decreases-forms l = length l.ahead
