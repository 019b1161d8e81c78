use Rattle.std.proofs.Common.{arith, ◌≡◌, subst, refl}
use Rattle.pa_check.specs.Text.{text_of}
use Rattle.pa_check.specs.Passing.{IsPassed}
use Rattle.pa_check.proofs.Legal.{small}
use Rattle.pa_check.proofs.Words.{length-text}
use Rattle.pa_check.proofs.Passes.{spot_of}
use Rattle.pa_check.proofs.Settled.{passed_in, round_short, next_short, below}
use Rattle.pa_check.proofs.inside.is_inside_at.Goals as goal

pub instr_at-instr-requires : goal.instr_at-instr-requires
instr_at-instr-requires c = let a = c.requires.function.inside in let b = c.requires.to in let d = length-text c.args.image.now in let e = c.loop-before-test.true in omega arith

pub instr_at-instr-requires-2 : goal.instr_at-instr-requires-2
instr_at-instr-requires-2 c = let a = c.requires.function.inside in let b = c.requires.to in let d = length-text c.args.image.now in omega arith

pub window_behind-current-requires-clause-short : goal.window_behind-current-requires-clause-short
window_behind-current-requires-clause-short c =
    let v = c.loop-before.invariant in
    let a = c.requires.function.inside in let b = c.requires.to in let d = length-text c.args.image.now in let s = (small c.args.image.now c.requires.legal).text in
    let e = c.loop-before-test.true in
    rw c.window_round-here.ensures (below _ c.loop-before.before _ (omega arith) (round_short (text_of c.args.image.now) c.loop-before.before c.loop-before.current v.short))

pub loop-before-preserved : goal.loop-before-preserved
loop-before-preserved c =
    let v = c.loop-before.invariant in
    let b = c.requires.to in
    let e = c.loop-before-test.true in
    let f = c.settled-before.ensures.settled.from in
    let g = c.loop-before.auto.before in
    rw (c.window_behind-current.ensures, c.window_round-here.ensures) (record {
      passed = passed_in (text_of c.args.image.now) c.args.function.first c.args.function.end c.requires.function c.loop-before.before c.loop-before.current (omega arith) (omega arith) v.passed;
      short = next_short (text_of c.args.image.now) c.loop-before.before _ (round_short (text_of c.args.image.now) c.loop-before.before c.loop-before.current v.short);
    })

pub returns : goal.returns
returns c =
    let v = c.loop-before.invariant in
    let a = c.requires.function.inside in let b = c.requires.to in
    let t = c.settled-before.ensures.to in
    let e : c.loop-before.before ≡ c.args.k = omega (arith, c.loop-before.auto.before-end) in
    let p : IsPassed (text_of c.args.image.now) c.args.k c.args.function.first c.loop-before.current = subst (λ z. IsPassed (text_of c.args.image.now) z c.args.function.first c.loop-before.current) e v.passed in
    rw (spot_of (text_of c.args.image.now) c.args.k c.args.function.first c.loop-before.current p (omega arith), c.is_inside.ensures, c.window_round.ensures) refl
