-- The digits at the front are the number's, since no digit follows them.
use Rattle.std.proofs.Common.{◌≡◌, ◌≤◌, ◌∙◌, ◌++◌, sym, ap, subst, length, true}
use Rattle.std.specs.Str.{all_ascii_digits}
use Rattle.pa_straight.specs.Source.{StopsNumber}
use Rattle.pa_straight.proofs.SourceLaws.{Cut, cut_digits, cut-no_number}
use Rattle.pa_straight.proofs.source.number.Goals as goal

pub split_at-requires : goal.split_at-requires
split_at-requires c = subst (λ at. at ≤ length c.args.bytes.now) (sym c.digit_count.ensures) (cut_digits c.args.bytes.now).within

pub value-requires : goal.value-requires
value-requires c =
    let cut : Cut c.args.bytes.now c.digit_count.result = subst (Cut c.args.bytes.now) (sym c.digit_count.ensures) (cut_digits c.args.bytes.now) in
    subst (λ ds. all_ascii_digits ds ≡ true) (sym c.split_at.ensures.front) cut.digits

pub returns-in_err-value : goal.returns-in_err-value
returns-in_err-value c =
    let cut : Cut c.args.bytes.now c.digit_count.result = subst (Cut c.args.bytes.now) (sym c.digit_count.ensures) (cut_digits c.args.bytes.now) in
    rw c.from_residual.ensures (cut-no_number c.args.bytes.now c.digit_count.result cut (λ n h e. c.in_err-value.ensures n h (e ∙ sym c.split_at.ensures.front)))

pub returns : goal.returns
returns c =
    let cut : Cut c.args.bytes.now c.digit_count.result = subst (Cut c.args.bytes.now) (sym c.digit_count.ensures) (cut_digits c.args.bytes.now) in
    let whole : c.args.bytes.now ≡ c.split_at.result.0.now ++ c.split_at.result.1.now = c.split_at.ensures.by_index.0 in
    (c.in_ok-value.ensures.0, whole ∙ ap (λ ds. ds ++ c.split_at.result.1.now) (sym c.in_ok-value.ensures.1), subst StopsNumber (sym c.split_at.ensures.back) cut.stops)
