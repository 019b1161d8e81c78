use Rattle.pa_machine.proofs.Walks.{walked-none, walked-fits, walked-short, walked-item, over-none, over-other}
use Rattle.pa_machine.proofs.machine.Machine.apply_all.Goals as goal

pub loop-item-init : goal.loop-item-init
loop-item-init g c = walked-none c.args.number c.args.items.now c.args.self.now c.requires.fits c.requires.lines c.requires.ordered

pub apply-requires-clause-fits : goal.apply-requires-clause-fits
apply-requires-clause-fits g c =
    walked-fits c.args.number c.args.items.now c.loop-item.rest.now c.in-Some.item.now c.in-Some.behind.now c.args.self.now c.loop-item.self c.loop-item.invariant c.in-Some.ensures.cases.0

pub apply-requires-clause-short : goal.apply-requires-clause-short
apply-requires-clause-short g c =
    walked-short c.args.number c.args.items.now c.loop-item.rest.now c.in-Some.item.now c.in-Some.behind.now c.args.self.now c.loop-item.self c.loop-item.invariant c.in-Some.ensures.cases.0

pub loop-item-preserved : goal.loop-item-preserved
loop-item-preserved g c =
    walked-item c.args.number c.args.items.now c.loop-item.rest.now c.in-Some.item.now c.in-Some.behind.now c.args.self.now c.loop-item.self c.loop-item.invariant c.in-Some.ensures.cases.0 c.apply.new.self c.if-item-number.false c.apply.ensures

pub returns-then-item-number : goal.returns-then-item-number
returns-then-item-number g c =
    let over = over-other c.args.number c.args.items.now c.loop-item.rest.now c.in-Some.item.now c.in-Some.behind.now c.args.self.now c.loop-item.self c.loop-item.invariant c.in-Some.ensures.cases.0 c.if-item-number.true in
    record { machine = over.done; ordered = over.ordered; rest = c.loop-item.invariant.rest }

pub returns-in_default : goal.returns-in_default
returns-in_default g c =
    let over = over-none c.args.number c.args.items.now c.loop-item.rest.now c.args.self.now c.loop-item.self c.loop-item.invariant c.in_default.ensures.cases in
    record { machine = over.done; ordered = over.ordered; rest = c.loop-item.invariant.rest }
