use Rattle.pa_layout.proofs.Facts.{refused_answers}
use Rattle.pa_fixups.specs.Chain.{slots_flaw}
use Rattle.pa_fixups.proofs.Walk.{walk_ends, pushed_on, pushed_done}
use Rattle.pa_fixups.proofs.chain.read_slots.Goals as goal

pub returns-in_err-fix-clause-exact : goal.returns-in_err-fix-clause-exact
returns-in_err-fix-clause-exact c =
    refused_answers c.from_residual.result c.in_err-fix.field-0.0 (slots_flaw c.args.bounds.now c.args.page.now c.args.first) c.from_residual.ensures.1
    (walk_ends c.in_err-fix.field-0.0 c.args.bounds.now c.args.page.now c.args.first c.loop-fixes.at c.loop-fixes.fixes c.loop-fixes.invariant c.in_err-fix.ensures.exact)

pub returns-then-link-eq0-clause-value : goal.returns-then-link-eq0-clause-value
returns-then-link-eq0-clause-value c =
    (pushed_done c.args.bounds.now c.args.page.now c.args.first c.loop-fixes.at c.loop-fixes.fixes c.push.new.self (c.in_ok-fix.fix, c.in_ok-fix.link) c.loop-fixes.invariant c.in_ok-fix.ensures.value c.in_ok-push.ensures.ok c.if-link-eq0.true c.in_ok-fix.ensures.exact).0

pub returns-then-link-eq0-clause-exact : goal.returns-then-link-eq0-clause-exact
returns-then-link-eq0-clause-exact c =
    (pushed_done c.args.bounds.now c.args.page.now c.args.first c.loop-fixes.at c.loop-fixes.fixes c.push.new.self (c.in_ok-fix.fix, c.in_ok-fix.link) c.loop-fixes.invariant c.in_ok-fix.ensures.value c.in_ok-push.ensures.ok c.if-link-eq0.true c.in_ok-fix.ensures.exact).1

pub loop-fixes-preserved : goal.loop-fixes-preserved
loop-fixes-preserved c =
    rw c.from.ensures (pushed_on c.args.bounds.now c.args.page.now c.args.first c.loop-fixes.at c.loop-fixes.fixes c.push.new.self (c.in_ok-fix.fix, c.in_ok-fix.link) c.loop-fixes.invariant c.in_ok-fix.ensures.value c.in_ok-push.ensures.ok c.if-link-eq0.false c.in_ok-fix.ensures.exact)
