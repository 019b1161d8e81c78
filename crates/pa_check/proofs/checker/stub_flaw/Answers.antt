use Rattle.std.proofs.Common.{arith, sym, ◌∙◌, ◌≡◌, ◌<◌, ◌/◌, ap, length, get_or}
use Rattle.pa_a64.specs.Decoding.{decoded}
use Rattle.pa_check.specs.Rules.{stub_rule}
use Rattle.pa_check.specs.Text.{text_of}
use Rattle.pa_check.proofs.Legal.{small}
use Rattle.pa_check.proofs.Lists.{stub_stops, stub_goes, stub_past}
use Rattle.pa_check.proofs.checker.stub_flaw.Goals as goal

pub stub_rule-requires-clause-number : goal.stub_rule-requires-clause-number
stub_rule-requires-clause-number c =
    let s = (small c.args.image.now c.requires.legal).stubs in
    let e = ap length c.as_slice-words.ensures in let t = c.loop-n-test.true in omega arith

pub returns-in-Some : goal.returns-in-Some
returns-in-Some c =
    let e = ap length c.as_slice-words.ensures in let t = c.loop-n-test.true in
    let l : c.loop-n.n < length c.args.image.now.stubs = omega arith in
    let d : c.decode.result ≡ decoded (get_or c.args.image.now.stubs c.loop-n.n 0) = c.decode.ensures.instruction ∙ ap (λ words. decoded (get_or words c.loop-n.n 0)) c.as_slice-words.ensures in
    rw c.requires.stubs (sym (c.loop-n.invariant ∙ stub_stops (text_of c.args.image.now) c.args.from (c.args.image.now.got / 8) c.args.image.now.stubs c.loop-n.n c.in-Some.rule l (ap (stub_rule (text_of c.args.image.now) c.args.from (c.args.image.now.got / 8) c.loop-n.n) (sym d) ∙ sym c.stub_rule.ensures ∙ c.in-Some.is)))

pub loop-n-preserved : goal.loop-n-preserved
loop-n-preserved c =
    let e = ap length c.as_slice-words.ensures in let t = c.loop-n-test.true in
    let l : c.loop-n.n < length c.args.image.now.stubs = omega arith in
    let d : c.decode.result ≡ decoded (get_or c.args.image.now.stubs c.loop-n.n 0) = c.decode.ensures.instruction ∙ ap (λ words. decoded (get_or words c.loop-n.n 0)) c.as_slice-words.ensures in
    c.loop-n.invariant ∙ stub_goes (text_of c.args.image.now) c.args.from (c.args.image.now.got / 8) c.args.image.now.stubs c.loop-n.n l (ap (stub_rule (text_of c.args.image.now) c.args.from (c.args.image.now.got / 8) c.loop-n.n) (sym d) ∙ sym c.stub_rule.ensures ∙ c.in_default.is)

pub returns : goal.returns
returns c =
    let e = ap length c.as_slice-words.ensures in let t = c.loop-n-test.false in
    sym (c.loop-n.invariant ∙ stub_past (text_of c.args.image.now) c.args.from (c.args.image.now.got / 8) c.args.image.now.stubs c.loop-n.n (omega arith))
