use Rattle.std.proofs.Common.{sym, arith, length}
use Rattle.std.proofs.lemmas.List.Sums.{position_or_len_is}
use Rattle.std.proofs.lemmas.Bool.{false_from_ne_true}
use Rattle.pa_layout.specs.Names.{is_zero}
use Rattle.pa_layout.proofs.names.name_length.Goals as goal

pub returns-in-Some : goal.returns-in-Some
returns-in-Some c =
    let e = c.in-Some.ensures in
    sym (position_or_len_is is_zero c.args.text.now c.in-Some.end 0 (omega (arith, e.0.high)) (λ k lt. false_from_ne_true _ (e.0.before k (omega arith) lt)) (λ _. e.1))

pub returns-in-None : goal.returns-in-None
returns-in-None c =
    let e = c.in-None.ensures in
    sym (position_or_len_is is_zero c.args.text.now (length c.args.text.now) 0 (omega arith) (λ k lt. false_from_ne_true _ (e k (omega arith) lt)) (λ lt. absurd (omega arith)))
