use Rattle.std.proofs.Common.{sym, ◌∙◌, ap, subst, arith, Err}
use Rattle.pa_lex.specs.Reading.{IsMeaning, TakesToken}
use Rattle.pa_lex.specs.Shapes.{shown, shown_option, meant}
use Rattle.pa_lex.proofs.Readings.{form_within, takes_token, breaks_nothing, breaks_form}
use Rattle.pa_lex.proofs.reader.Reader.token.Goals as goal

pub returns-in_default : goal.returns-in_default
returns-in_default c =
    subst (λ fault. TakesToken c.args.self.now (Err fault) c.args.self.now) (sym c.refused.ensures)
    (breaks_nothing c.args.self.now c.rule.result c.place-from.result c.requires.more c.requires.stops (sym c.form.ensures ∙ ap shown_option c.in_default.is) c.rule.ensures c.place-from.ensures.value)

pub returns-in_default-2 : goal.returns-in_default-2
returns-in_default-2 c =
    subst (λ fault. TakesToken c.args.self.now (Err fault) c.args.self.now) (sym c.refused-in_default-2.ensures)
    (breaks_form c.args.self.now (shown c.in-Some.form) c.rule-in_default-2.result c.place-from.result (sym c.form.ensures ∙ ap shown_option c.in-Some.is) (subst (λ m. IsMeaning (shown c.in-Some.form) (meant m)) c.in_default-2.is c.in_ok-meaning.ensures)
    c.rule-in_default-2.ensures c.place-from.ensures.value)

pub len-requires : goal.len-requires
len-requires c = let w = form_within c.args.self.now (shown c.in-Some.form) (sym c.form.ensures ∙ ap shown_option c.in-Some.is) in omega (arith, w.within)

pub advance-requires : goal.advance-requires
advance-requires c = let w = form_within c.args.self.now (shown c.in-Some.form) (sym c.form.ensures ∙ ap shown_option c.in-Some.is) in rw c.len.ensures w.within

pub returns : goal.returns
returns c =
    takes_token c.args.self.now _ (shown c.in-Some.form) _ (sym c.form.ensures ∙ ap shown_option c.in-Some.is) (subst (λ m. IsMeaning (shown c.in-Some.form) (meant m)) c.in-Some-2.is c.in_ok-meaning.ensures) (rw (← c.len.ensures) c.advance.ensures) c.place-from.ensures.value
    c.place-to.ensures.value
