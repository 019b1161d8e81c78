-- Each step that fails shows that no text of this form stands there.
use Rattle.std.proofs.Common.{◌∙◌, ◌++◌, ap}
use Rattle.pa_straight.proofs.SourceLaws.{strip-none, strip-some, otherwise-front, otherwise-number, otherwise-behind, framed-from_parts}
use Rattle.pa_straight.proofs.source.framed.Goals as goal

pub returns-in_err-strip_prefix : goal.returns-in_err-strip_prefix
returns-in_err-strip_prefix c =
    rw c.from_residual.ensures (otherwise-front c.args.before.now c.args.behind.now c.args.bytes.now
    (strip-none c.args.bytes.now c.args.before.now c.strip_prefix.result c.strip_prefix.ensures.cases c.in_err-strip_prefix.was))

pub returns-in_err-number : goal.returns-in_err-number
returns-in_err-number c =
    rw c.from_residual-in_err-number.ensures (otherwise-number c.args.before.now c.args.behind.now c.args.bytes.now c.in_ok-strip_prefix.field-0.now c.requires.stops c.requires.some
    (strip-some c.args.bytes.now c.args.before.now c.strip_prefix.result c.in_ok-strip_prefix.field-0 c.strip_prefix.ensures.cases c.in_ok-strip_prefix.was)
    c.in_err-number.ensures)

pub returns-in_err-strip_prefix-2 : goal.returns-in_err-strip_prefix-2
returns-in_err-strip_prefix-2 c =
    let got = c.in_ok-number.ensures in
    let front = strip-some c.args.bytes.now c.args.before.now c.strip_prefix.result c.in_ok-strip_prefix.field-0 c.strip_prefix.ensures.cases c.in_ok-strip_prefix.was in
    rw c.from_residual-in_err-strip_prefix-2.ensures (otherwise-behind c.args.before.now c.args.behind.now c.args.bytes.now c.in_ok-number.number c.in_ok-number.rest.now c.requires.stops c.requires.some
    (front ∙ ap (λ x. c.args.before.now ++ x) got.1) got.0 got.2
    (strip-none c.in_ok-number.rest.now c.args.behind.now c.strip_prefix-2.result c.strip_prefix-2.ensures.cases c.in_err-strip_prefix-2.was))

pub returns : goal.returns
returns c =
    let got = c.in_ok-number.ensures in (
      got.0,
      framed-from_parts c.args.before.now c.args.behind.now c.args.bytes.now c.in_ok-number.number c.in_ok-strip_prefix.field-0.now c.in_ok-number.rest.now c.in_ok-strip_prefix-2.field-0.now
          (strip-some c.args.bytes.now c.args.before.now c.strip_prefix.result c.in_ok-strip_prefix.field-0 c.strip_prefix.ensures.cases c.in_ok-strip_prefix.was)
          got.1
          (strip-some c.in_ok-number.rest.now c.args.behind.now c.strip_prefix-2.result c.in_ok-strip_prefix-2.field-0 c.strip_prefix-2.ensures.cases c.in_ok-strip_prefix-2.was),
    )
