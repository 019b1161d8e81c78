use Rattle.std.proofs.Common.{arith, refl, sym, ◌∙◌, ◌≡◌, ◌≤◌, subst, Some, None}
use Rattle.std.specs.Prelude.{Option, IfSome, ◌+◌}
use Rattle.pa_check.specs.declared.window.Window.{Window}
use Rattle.pa_check.specs.Text.{text_of}
use Rattle.pa_check.specs.Passing.{round_at, rule_at, IsPassed}
use Rattle.pa_check.proofs.Legal.{small}
use Rattle.pa_check.proofs.Words.{length-text}
use Rattle.pa_check.proofs.Passes.{home}
use Rattle.pa_check.proofs.Settled.{passed_in, round_short, next_short, below}
use Rattle.pa_check.proofs.Flaws.{function_stops, function_goes}
use Rattle.pa_check.proofs.pass.function_flaw.Goals as goal

pub loop-k-init : goal.loop-k-init
loop-k-init c = record { passed = home (text_of c.args.image.now) c.args.function.first c.args.function.end c.requires.function; short = tt; seen = refl }

pub instr_at-instr-requires : goal.instr_at-instr-requires
instr_at-instr-requires c = let a = c.requires.function.inside in let b = c.loop-k-test.true in let d = length-text c.args.image.now in omega arith

pub function_rule-requires-clause-small : goal.function_rule-requires-clause-small
function_rule-requires-clause-small c = let a = c.requires.function.inside in let b = c.loop-k-test.true in let d = length-text c.args.image.now in let s = (small c.args.image.now c.requires.legal).text in omega arith

pub place-requires : goal.place-requires
place-requires c = let a = c.requires.function.inside in let b = c.loop-k-test.true in let d = length-text c.args.image.now in let s = (small c.args.image.now c.requires.legal).text in omega arith

pub returns-in-Some : goal.returns-in-Some
returns-in-Some c =
    let v = c.loop-k.invariant in
    let e : rule_at (text_of c.args.image.now) c.loop-k.k c.args.function.first (round_at (text_of c.args.image.now) c.loop-k.k c.loop-k.current) ≡ Some c.in-Some.rule = subst (λ z. rule_at (text_of c.args.image.now) c.loop-k.k c.args.function.first z ≡ Some c.in-Some.rule) c.window_round-here.ensures (sym c.function_rule.ensures ∙ c.in-Some.is) in
    v.seen ∙ rw c.place.ensures (function_stops (text_of c.args.image.now) c.args.function.first c.args.function.end c.requires.function c.loop-k.k c.loop-k.current c.in-Some.rule (c.loop-k.auto.k) c.loop-k-test.true v.passed e)

pub window_behind-current-requires-clause-short : goal.window_behind-current-requires-clause-short
window_behind-current-requires-clause-short c =
    let v = c.loop-k.invariant in
    let a = c.requires.function.inside in let b = c.loop-k-test.true in let d = length-text c.args.image.now in let s = (small c.args.image.now c.requires.legal).text in
    rw c.window_round-here.ensures (below _ c.loop-k.k _ (omega arith) (round_short (text_of c.args.image.now) c.loop-k.k c.loop-k.current v.short))

pub loop-k-preserved : goal.loop-k-preserved
loop-k-preserved c =
    let v = c.loop-k.invariant in
    let e : rule_at (text_of c.args.image.now) c.loop-k.k c.args.function.first (round_at (text_of c.args.image.now) c.loop-k.k c.loop-k.current) ≡ None = subst (λ z. rule_at (text_of c.args.image.now) c.loop-k.k c.args.function.first z ≡ None) c.window_round-here.ensures (sym c.function_rule.ensures ∙ c.in_default.is) in
    rw (c.window_behind-current.ensures, c.window_round-here.ensures) (record {
      passed = passed_in (text_of c.args.image.now) c.args.function.first c.args.function.end c.requires.function c.loop-k.k c.loop-k.current c.loop-k.auto.k c.loop-k-test.true v.passed;
      short = next_short (text_of c.args.image.now) c.loop-k.k _ (round_short (text_of c.args.image.now) c.loop-k.k c.loop-k.current v.short);
      seen = v.seen ∙ function_goes (text_of c.args.image.now) c.args.function.first c.args.function.end c.requires.function c.loop-k.k c.loop-k.current c.loop-k.auto.k c.loop-k-test.true v.passed e;
    })

pub loop-k-preserved-then-breaks_nothing : goal.loop-k-preserved-then-breaks_nothing
loop-k-preserved-then-breaks_nothing c =
    let v = c.loop-k.invariant in
    let n = rw c.if-breaks_nothing.true at c.breaks_nothing.ensures in
    record {
      passed = subst (λ z. IsPassed (text_of c.args.image.now) (c.loop-k.k + 1) c.args.function.first z) (n.behind ∙ sym n.closed)
          (passed_in (text_of c.args.image.now) c.args.function.first c.args.function.end c.requires.function c.loop-k.k c.loop-k.current c.loop-k.auto.k c.loop-k-test.true v.passed);
      short = subst (λ (z : Option Window). IfSome z (λ w. w.behind ≤ c.loop-k.k + 1)) (sym n.closed) tt;
      seen = v.seen ∙ function_goes (text_of c.args.image.now) c.args.function.first c.args.function.end c.requires.function c.loop-k.k c.loop-k.current c.loop-k.auto.k c.loop-k-test.true v.passed n.rule;
    }
