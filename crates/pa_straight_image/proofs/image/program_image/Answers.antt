-- The image is the definition's, and so it is legal and small.
use Rattle.std.proofs.Common.{sym, subst, arith}
use Rattle.std.proofs.lemmas.Grind.{common_steps}
use Rattle.pa_image.specs.Small.{IsSmall}
use Rattle.pa_image.specs.Writing.{IsLegal}
use Rattle.pa_straight_image.specs.Image.{image_of}
use Rattle.pa_straight_image.specs.Shows.{Runs}
use Rattle.pa_straight_image.proofs.Begun.{runs}
use Rattle.pa_straight_image.proofs.Legal.{legal, small}
use Rattle.pa_straight_image.proofs.image.program_image.Goals as goal

pub returns-clause-value : goal.returns-clause-value
unfolding image_of
returns-clause-value c = grind (arith, common_steps)

pub returns-clause-legal : goal.returns-clause-legal
returns-clause-legal c = subst IsLegal (sym (returns-clause-value c)) (legal c.args.straight.now c.requires)

pub returns-clause-small : goal.returns-clause-small
returns-clause-small c = subst IsSmall (sym (returns-clause-value c)) (small c.args.straight.now c.requires)

pub returns-clause-runs : goal.returns-clause-runs
returns-clause-runs c = subst (λ image. Runs image c.args.straight.now) (sym (returns-clause-value c)) (runs c.args.straight.now c.requires)
