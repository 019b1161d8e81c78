-- Digits are read by what std's `parse` says of them.
use Rattle.std.proofs.Common.{◌≡◌, ◌≤◌, length, get_or, arith}
use Rattle.pa_straight.proofs.SourceLaws.{decimal-no_leading_zero, digits-IsUtf8, parse-none, parse-some, parse-great}
use Rattle.pa_straight.proofs.source.value.Goals as goal
use Rattle.pa_straight.proofs.source.value.Goals.{else-digits-gt1-via-then-digits-gt1+else-digits-eq-ZERO, else-digits-gt1-via-else-digits-gt1}

pub returns-then-digits-eq-ZERO : goal.returns-then-digits-eq-ZERO
returns-then-digits-eq-ZERO c n h e = decimal-no_leading_zero n c.args.digits.now h c.if-digits-gt1.true c.if-digits-eq-ZERO.true e

pub returns-in_default : goal.returns-in_default
returns-in_default c n h e = absurd (c.in_default.ensures.cases.0 (digits-IsUtf8 c.args.digits.now c.requires))

pub returns-in-Ok-parse : goal.returns-in-Ok-parse
returns-in-Ok-parse c =
    let small = c.if-value-le-GREATEST.true in
    let first : get_or c.args.digits.now 0 0 ≡ 48 → length c.args.digits.now ≤ 1 = λ z.
    elim c.else-digits-gt1.branch [
      | else-digits-gt1-via-then-digits-gt1+else-digits-eq-ZERO w ↦ absurd (w.if-digits-eq-ZERO.false z)
      | else-digits-gt1-via-else-digits-gt1 w ↦ omega arith
    ] in
    (omega arith, parse-some c.args.digits.now c.in-Ok.text.now c.parse.result c.in-Ok-parse.value c.in-Ok.ensures.cases.0 c.parse.ensures.value.0 c.requires c.in-Ok-parse.is first (omega arith))

pub returns-in_default-parse : goal.returns-in_default-parse
returns-in_default-parse c n h e =
    parse-great n c.args.digits.now c.in-Ok.text.now c.parse.result c.in-Ok-parse.value c.in-Ok.ensures.cases.0 c.parse.ensures.value.0 c.requires c.in-Ok-parse.is c.if-value-le-GREATEST.false h e

pub returns-in_default-parse-2 : goal.returns-in_default-parse-2
returns-in_default-parse-2 c n h e =
    parse-none n c.args.digits.now c.in-Ok.text.now c.parse.result c.in_default-parse.field-0 c.in-Ok.ensures.cases.0 c.parse.ensures.value.0 c.requires c.in_default-parse.is h e
