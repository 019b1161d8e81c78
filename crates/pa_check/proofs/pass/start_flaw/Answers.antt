use Rattle.std.proofs.Common.{arith, refl, sym, ◌∙◌, ◌≡◌, ap}
use Rattle.std.specs.Prelude.{false}
use Rattle.std.proofs.lemmas.Bool.{eqb-false}
use Rattle.pa_check.specs.Text.{text_of, word_at}
use Rattle.pa_check.specs.Passing.{start_words}
use Rattle.pa_check.specs.Windowed.{flaw_from}
use Rattle.pa_check.proofs.Words.{length-text, text_main, text_start, marked_of}
use Rattle.pa_check.proofs.Flaws.{start_step, start_unmarked, marked_first}
use Rattle.pa_check.proofs.pass.start_flaw.Goals as goal

pub start_rule-requires-clause-main : goal.start_rule-requires-clause-main
start_rule-requires-clause-main c = rw (text_main c.args.image.now, c.main_of-main.ensures, c.as_slice.ensures) refl

pub start_rule-requires-clause-marked : goal.start_rule-requires-clause-marked
start_rule-requires-clause-marked c =
    let v = c.loop-k.invariant in
    let t = c.loop-k-test.true in let e = c.min-k-end.ensures in let n = c.len.ensures in
    let b = v.behind in
    rw c.requires.first (sym (marked_first c.args.image.now c.requires.legal c.loop-k.k (rw c.requires.first at b) (omega arith)))

pub returns-in-Some-clause-value : goal.returns-in-Some-clause-value
returns-in-Some-clause-value c =
    let v = c.loop-k.invariant in
    let t = c.loop-k-test.true in let e = c.min-k-end.ensures in let n = c.len.ensures in let s = c.start_size.ensures in
    let u = text_start c.args.image.now in let l = length-text c.args.image.now in
    v.seen ∙ start_step (text_of c.args.image.now) c.loop-k.k _ (omega arith) (omega arith) c.start_rule.ensures ∙ rw (c.in-Some.is, c.place.ensures) refl

pub loop-k-preserved : goal.loop-k-preserved
loop-k-preserved c =
    let v = c.loop-k.invariant in
    let t = c.loop-k-test.true in let e = c.min-k-end.ensures in let n = c.len.ensures in let s = c.start_size.ensures in
    let u = text_start c.args.image.now in let l = length-text c.args.image.now in
    let b = v.behind in
    let m : (word_at (text_of c.args.image.now) c.loop-k.k).marked ≡ false = start_unmarked (text_of c.args.image.now) c.loop-k.k (λ first window. sym c.in_default.is ∙ c.start_rule.ensures first window) in
    let f = marked_first c.args.image.now c.requires.legal c.loop-k.k (rw c.requires.first at b) (omega arith) in
    let g = eqb-false _ _ (sym f ∙ sym (marked_of c.args.image.now c.loop-k.k (omega arith)) ∙ m) in
    let h = c.requires.first in
    record {
      seen = v.seen ∙ start_step (text_of c.args.image.now) c.loop-k.k _ (omega arith) (omega arith) c.start_rule.ensures ∙ rw c.in_default.is refl;
      behind = omega (arith, g);
    }

pub returns-clause-value : goal.returns-clause-value
returns-clause-value c =
    let v = c.loop-k.invariant in
    let t = c.loop-k-test.false in let e = c.min-k-end.ensures in let n = c.len.ensures in let s = c.start_size.ensures in
    let u = text_start c.args.image.now in
    let k : c.loop-k.k ≡ start_words c.args.image.now = omega (arith, c.loop-k.auto.k-end) in
    v.seen ∙ ap (flaw_from (text_of c.args.image.now)) k

pub returns-clause-behind : goal.returns-clause-behind
returns-clause-behind c =
    let v = c.loop-k.invariant in
    let b = v.behind in
    let t = c.loop-k-test.false in let e = c.min-k-end.ensures in let n = c.len.ensures in let s = c.start_size.ensures in
    let u = text_start c.args.image.now in
    omega arith
