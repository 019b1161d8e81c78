use Rattle.pa_machine.proofs.Walks.{skipped-item, skipped-all, skipped-other}
use Rattle.pa_machine.proofs.machine.items_from.Goals as goal

pub loop-item-preserved : goal.loop-item-preserved
loop-item-preserved c =
    skipped-item c.args.number c.args.items.now c.loop-item.rest.now c.in-Some.item.now c.in-Some.behind.now c.loop-item.invariant c.in-Some.ensures.cases.0 c.if-item-number.false

pub returns-then-item-number-clause-ordered : goal.returns-then-item-number-clause-ordered
returns-then-item-number-clause-ordered c =
    skipped-other c.args.number c.args.items.now c.loop-item.rest.now c.in-Some.item.now c.in-Some.behind.now c.loop-item.invariant c.in-Some.ensures.cases.0 c.if-item-number.true

pub returns-in_default-clause-ordered : goal.returns-in_default-clause-ordered
returns-in_default-clause-ordered c = skipped-all c.args.number c.loop-item.rest.now c.in_default.ensures.cases
