use Rattle.std.proofs.Common.{◌∙◌, sym, arith}
use Rattle.pa_symbols.specs.Legal.{marks_stand}
use Rattle.pa_symbols.proofs.Placed.{place_small, marks_on}
use Rattle.pa_symbols.proofs.legal.marks_stand.Goals as goal

pub loop-mark-preserved : goal.loop-mark-preserved
loop-mark-preserved c =
    let stands = sym c.mark_stands.ensures ∙ c.if-not-mark_stands.false in
    let small = place_small c.args.text c.loop-mark.place c.loop-mark.least c.mark-item.result stands in
    let rest = marks_on c.args.marks.now c.loop-mark.mark-index c.args.text c.loop-mark.place c.loop-mark.least c.mark-item.result (marks_stand c.args.text 1 0 c.args.marks.now) (omega arith) c.mark-item.is stands c.loop-mark.invariant.1 in
    (omega (arith, small), rw c.len.ensures rest)
