use Rattle.std.proofs.Common.{sym, ◌∙◌, arith}
use Rattle.pa_layout.proofs.Laws.{nonzero-eight, nonzero-next, nonzero-here}
use Rattle.pa_layout.proofs.zeros.first_nonzero.Goals as goal

pub loop-at-preserved : goal.loop-at-preserved
loop-at-preserved c =
    (omega arith, nonzero-eight c.loop-at.at c.args.high c.args.bytes.now c.loop-at-test.true (sym c.number_of_eight.ensures ∙ c.if-number_of_eight-eq0.true) ∙ c.loop-at.invariant.1)

pub returns-then-bytes-at-ne0 : goal.returns-then-bytes-at-ne0
returns-then-bytes-at-ne0 c =
    sym (nonzero-here c.loop-at-2.at c.args.high c.args.bytes.now c.loop-at-2-test.true c.if-bytes-at-ne0.true) ∙ c.loop-at-2.invariant.1

pub loop-at-2-preserved : goal.loop-at-2-preserved
loop-at-2-preserved c =
    (omega arith, nonzero-next c.loop-at-2.at c.args.high c.args.bytes.now c.loop-at-2-test.true c.if-bytes-at-ne0.false ∙ c.loop-at-2.invariant.1)
