use Rattle.std.proofs.Common.{ap, ◌∙◌}
use Rattle.std.specs.Int.{w128}
use Rattle.std.proofs.lemmas.Int.{quot_is}
use Rattle.pa_integer.specs.Integers as spec
use Rattle.pa_integer.proofs.Ranges.{quotient_fits, quotient_is}
use Rattle.pa_integer.proofs.operators.quotient.Goals as goal

pub returns-else-right-eq0 : goal.returns-else-right-eq0
returns-else-right-eq0 c =
    let fits = quotient_fits c.args.bits c.args.signed c.args.left c.args.right c.requires.width c.requires.left in
    c.settled.ensures
    ∙ ap (spec.settled c.args.bits c.args.signed) (quot_is w128 c.args.left c.args.right c.ranges.left c.ranges.right fits)
    ∙ quotient_is c.args.bits c.args.signed c.args.left c.args.right c.if-right-eq0.false
