use Rattle.std.proofs.Common.{arith, ℕ, ◌<◌, ◌+◌, ◌-◌, ◌/◌, length, ap, sym, ◌∙◌}
use Rattle.std.specs.Prelude.{eqb}
use Rattle.pa_check.proofs.Words.{item_at, up_to, found, not_found}
use Rattle.pa_check.proofs.marks.is_marked.Goals as goal

pub loop-low-preserved-then-marks-middle : goal.loop-low-preserved-then-marks-middle
loop-low-preserved-then-marks-middle c =
    let v = c.loop-low.invariant in
    let o = v.order in let w = v.within in let t = c.loop-low-test.true in
    let middle : ℕ = c.loop-low.low + (c.loop-low.high - c.loop-low.low) / 2 in
    let l : c.loop-low.low + (c.loop-low.high - c.loop-low.low) / 2 < length c.args.marks.now = omega arith in
    let m = item_at c.args.marks.now (c.loop-low.low + (c.loop-low.high - c.loop-low.low) / 2) c.index-marks-middle.result l in
    let b = c.if-marks-middle.true in
    record {
      order = omega arith;
      within = w;
      under = λ i h g. let u = up_to c.args.marks.now i (c.loop-low.low + (c.loop-low.high - c.loop-low.low) / 2) c.requires (omega arith) l in omega arith;
      over = v.over;
    }

pub loop-low-preserved : goal.loop-low-preserved
loop-low-preserved c =
    let v = c.loop-low.invariant in
    let o = v.order in let w = v.within in let t = c.loop-low-test.true in
    let l : c.loop-low.low + (c.loop-low.high - c.loop-low.low) / 2 < length c.args.marks.now = omega arith in
    let m = item_at c.args.marks.now (c.loop-low.low + (c.loop-low.high - c.loop-low.low) / 2) c.index-marks-middle.result l in
    let b = c.if-marks-middle.false in
    record {
      order = omega arith;
      within = omega arith;
      under = v.under;
      over = λ i h g. let u = up_to c.args.marks.now (c.loop-low.low + (c.loop-low.high - c.loop-low.low) / 2) i c.requires h g in omega arith;
    }

pub returns-then-low-marks : goal.returns-then-low-marks
returns-then-low-marks c =
    let v = c.loop-low.invariant in
    let o = v.order in let t = c.loop-low-test.false in
    let l : c.loop-low.low < length c.args.marks.now = c.if-low-marks.true in
    ap (λ z. eqb z c.args.k) (item_at c.args.marks.now c.loop-low.low c.index-marks-low.result l)
    ∙ sym (found c.args.marks.now c.args.k c.loop-low.low v.under (λ i h g. v.over i (omega arith) g) c.requires l)

pub returns-else-low-marks : goal.returns-else-low-marks
returns-else-low-marks c =
    let v = c.loop-low.invariant in
    let o = v.order in let w = v.within in let t = c.loop-low-test.false in
    let b = c.if-low-marks.false in
    let e = not_found c.args.marks.now c.args.k (λ i h. v.under i (omega arith) h) in
    rw e (grind (arith, b))
