use Rattle.std.proofs.Common.{◌+◌, ◌∷◌, ◌∙◌, ap, sym, drop}
use Rattle.pa_asm.specs.Written.{pieces}
use Rattle.pa_asm.proofs.Cuts.{one_line, first_line}
use Rattle.pa_asm.proofs.pieces.cut_line.Goals as goal

pub returns-in-Some-clause-pieces : goal.returns-in-Some-clause-pieces
returns-in-Some-clause-pieces c =
    first_line c.args.text.now c.in-Some.at c.in-Some.ensures.0 c.in-Some.ensures.1
    ∙ ap (λ own. own ∷ pieces (drop (c.in-Some.at + 1) c.args.text.now)) (sym c.split_at.ensures.front)
    ∙ ap (λ rest. c.split_at.result.0.now ∷ pieces rest) (sym c.split_at-in-Some.ensures.back)

pub returns-in-None-clause-pieces : goal.returns-in-None-clause-pieces
returns-in-None-clause-pieces c = one_line c.args.text.now c.in-None.ensures
