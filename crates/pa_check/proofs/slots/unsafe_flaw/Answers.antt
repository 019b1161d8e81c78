use Rattle.std.proofs.Common.{arith, sym, ◌∙◌, ◌<◌, ap, length, Some}
use Rattle.pa_check.specs.Text.{text_of}
use Rattle.pa_check.specs.Windowed.{slot_flaw}
use Rattle.pa_check.proofs.Lists.{unsafe_stops, unsafe_goes, unsafe_past}
use Rattle.pa_check.proofs.slots.unsafe_flaw.Goals as goal

pub returns-then-not-may_hold : goal.returns-then-not-may_hold
returns-then-not-may_hold c =
    let e = ap length c.as_slice-fixes.ensures in let t = c.loop-i-test.true in
    let l : c.loop-i.i < length c.args.image.now.fixes = omega arith in
    let m = rw c.as_slice-fixes.ensures at c.may_hold.ensures in
    let f = rw c.as_slice-fixes.ensures at c.slot_flaw.ensures in
    let u = c.loop-i.invariant ∙ unsafe_stops (text_of c.args.image.now) c.args.base c.args.image.now.got c.args.image.now.fixes c.loop-i.i _ l (sym m ∙ c.if-not-may_hold.true) in
    rw u (ap Some f)

pub loop-i-preserved : goal.loop-i-preserved
loop-i-preserved c =
    let e = ap length c.as_slice-fixes.ensures in let t = c.loop-i-test.true in
    let l : c.loop-i.i < length c.args.image.now.fixes = omega arith in
    let m = rw c.as_slice-fixes.ensures at c.may_hold.ensures in
    c.loop-i.invariant ∙ unsafe_goes (text_of c.args.image.now) c.args.base c.args.image.now.got c.args.image.now.fixes c.loop-i.i _ l (sym m ∙ c.if-not-may_hold.false)

pub returns : goal.returns
returns c =
    let e = ap length c.as_slice-fixes.ensures in let t = c.loop-i-test.false in
    sym (ap (slot_flaw c.args.from) (c.loop-i.invariant ∙ unsafe_past (text_of c.args.image.now) c.args.base c.args.image.now.got c.args.image.now.fixes c.loop-i.i (omega arith)))
