use Rattle.std.proofs.Common.{◌∙◌, sym}
use Rattle.pa_symbols.proofs.Whole.{are_legal, fails}
use Rattle.pa_symbols.proofs.legal.legal_marks.Goals as goal

pub returns-then-marks_stand : goal.returns-then-marks_stand
returns-then-marks_stand c =
    (λ t. are_legal c.args.text c.args.marks.now (sym c.marks_stand.ensures ∙ c.if-marks_stand.true) (c.are_distinct.ensures.0 t), λ legal. c.are_distinct.ensures.1 legal.distinct)

pub returns-else-marks_stand : goal.returns-else-marks_stand
returns-else-marks_stand c = fails c.args.text c.args.marks.now c.marks_stand.result c.marks_stand.ensures c.if-marks_stand.false
