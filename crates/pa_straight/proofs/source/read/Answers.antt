-- Each end tells what the whole text is of.
use Rattle.std.proofs.Common.{◌∙◌, sym, subst}
use Rattle.pa_straight.specs.Source.{opening}
use Rattle.pa_straight.proofs.SourceLaws.{HasRead, HasRead-opening, HasRead-push, strip-some, none-many, none-closing, none-behind, is_text, length-print_line}
use Rattle.pa_straight.proofs.source.read.Goals as goal

pub loop-number-init : goal.loop-number-init
loop-number-init c =
    subst (λ got. HasRead c.args.bytes.now got c.in-Some.rest.now) (sym c.new-prints.ensures)
    (HasRead-opening c.args.bytes.now c.in-Some.rest.now (strip-some c.args.bytes.now opening c.strip_prefix.result c.in-Some.rest c.strip_prefix.ensures.cases c.in-Some.is))

pub returns-then-len-eq-MOST_PRINTS : goal.returns-then-len-eq-MOST_PRINTS
returns-then-len-eq-MOST_PRINTS c =
    none-many c.args.bytes.now c.loop-number.prints c.loop-number.rest.now c.in-Some-framed.after.now c.in-Some-framed.number c.loop-number.invariant
    (sym c.len.ensures ∙ c.if-len-eq-MOST_PRINTS.true) c.in-Some-framed.ensures.1

pub loop-number-smaller : goal.loop-number-smaller
loop-number-smaller c = length-print_line _ _ _ c.in-Some-framed.ensures.1

pub loop-number-preserved : goal.loop-number-preserved
loop-number-preserved c =
    subst (λ got. HasRead c.args.bytes.now got c.in-Some-framed.after.now) (sym c.in_ok-push.ensures.ok)
    (HasRead-push c.args.bytes.now c.loop-number.prints c.loop-number.rest.now c.in-Some-framed.after.now c.in-Some-framed.number c.loop-number.invariant
    c.in-Some-framed.ensures.1 c.in-Some-framed.ensures.0 (λ e. c.if-len-eq-MOST_PRINTS.false (c.len.ensures ∙ e)))

pub returns-in_default-framed-2 : goal.returns-in_default-framed-2
returns-in_default-framed-2 c =
    none-closing c.args.bytes.now c.loop-number.prints c.loop-number.rest.now c.loop-number.invariant c.in_default-framed.ensures c.in_default-framed-2.ensures

pub returns-then-not-is_empty : goal.returns-then-not-is_empty
returns-then-not-is_empty c =
    none-behind c.args.bytes.now c.loop-number.prints c.loop-number.rest.now c.in-Some-framed-2.returns c.in-Some-framed-2.behind.now c.loop-number.invariant c.in_default-framed.ensures
    c.in-Some-framed-2.ensures.0 c.in-Some-framed-2.ensures.1 (sym c.is_empty.ensures ∙ c.if-not-is_empty.true)

pub returns : goal.returns
returns c =
    is_text c.args.bytes.now c.loop-number.prints c.loop-number.rest.now c.in-Some-framed-2.returns c.in-Some-framed-2.behind.now c.loop-number.invariant c.in_default-framed.ensures
    c.in-Some-framed-2.ensures.0 c.in-Some-framed-2.ensures.1 (sym c.is_empty.ensures ∙ c.if-not-is_empty.false)
