use Rattle.std.proofs.Common.{arith}
use Rattle.pa_image.proofs.Small.{legal_small}
use Rattle.pa_check.specs.Text.{text_of}
use Rattle.pa_check.proofs.Legal.{small}
use Rattle.pa_check.proofs.Words.{length-text}
use Rattle.pa_check.proofs.Passes.{home}
use Rattle.pa_check.proofs.Settled.{passed_in, round_short, next_short, below}
use Rattle.pa_check.proofs.inside.keep_places.Goals as goal

pub loop-k-init : goal.loop-k-init
loop-k-init c = record {
  passed = home (text_of c.args.image.now) c.args.function.first c.args.function.end c.requires.function;
  short = tt;
  kept = rw c.clear.ensures (λ k d l. absurd (omega arith));
}

pub keep_place-wanted-requires-clause-small : goal.keep_place-wanted-requires-clause-small
keep_place-wanted-requires-clause-small c =
    let a = c.requires.function.inside in let b = c.loop-k-test.true in let d = length-text c.args.image.now in
    let s = (legal_small c.args.image.now c.requires.legal).sections.text in
    omega arith

pub window_behind-current-requires-clause-short : goal.window_behind-current-requires-clause-short
window_behind-current-requires-clause-short c =
    let v = c.loop-k.invariant in
    let a = c.requires.function.inside in let b = c.loop-k-test.true in let d = length-text c.args.image.now in let s = (small c.args.image.now c.requires.legal).text in
    rw c.window_round-here.ensures (below _ c.loop-k.k _ (omega arith) (round_short (text_of c.args.image.now) c.loop-k.k c.loop-k.current v.short))

pub loop-k-preserved : goal.loop-k-preserved
loop-k-preserved c =
    let v = c.loop-k.invariant in
    record {
      passed = rw (c.window_behind-current.ensures, c.window_round-here.ensures) (passed_in (text_of c.args.image.now) c.args.function.first c.args.function.end c.requires.function c.loop-k.k c.loop-k.current c.loop-k.auto.k c.loop-k-test.true v.passed);
      short = rw (c.window_behind-current.ensures, c.window_round-here.ensures) (next_short (text_of c.args.image.now) c.loop-k.k _ (round_short (text_of c.args.image.now) c.loop-k.k c.loop-k.current v.short));
      kept = c.keep_place-wanted.ensures;
    }
