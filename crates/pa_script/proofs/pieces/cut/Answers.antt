use Rattle.std.proofs.Common.{◌+◌, ◌∷◌, ◌∙◌, eqb, ap, sym, drop}
use Rattle.std.specs.List.{slice_split}
use Rattle.pa_script.proofs.Cuts.{one_piece, first_piece}
use Rattle.pa_script.proofs.pieces.cut.Goals as goal

pub returns-in-Some : goal.returns-in-Some
returns-in-Some c =
    first_piece c.args.stop c.args.text.now c.in-Some.at c.in-Some.ensures.0 c.in-Some.ensures.1
    ∙ ap (λ own. own ∷ slice_split (λ byte. eqb byte c.args.stop) (drop (c.in-Some.at + 1) c.args.text.now)) (sym c.split_at.ensures.front)
    ∙ ap (λ rest. c.split_at.result.0.now ∷ slice_split (λ byte. eqb byte c.args.stop) rest) (sym c.split_at-in-Some.ensures.back)

pub returns-in-None : goal.returns-in-None
returns-in-None c = one_piece c.args.stop c.args.text.now c.in-None.ensures
