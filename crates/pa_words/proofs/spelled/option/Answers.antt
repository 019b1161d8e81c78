-- An option is taken, or breaks the rule that comes next.
use Rattle.std.proofs.Common.{◌≡◌, List, [], ◌∷◌, ℕ, map, length, string_bytes, arith, sym, ◌∙◌, ap, subst, refl}
use Rattle.std.specs.Prelude.{Some, None}
use Rattle.std.proofs.lemmas.Grind.{common_steps}
use Rattle.pa_words.specs.Names.{option_named}
use Rattle.pa_words.specs.Reading.{Reaches}
use Rattle.pa_words.proofs.Options.{allows_is, takes_is, takes_none}
use Rattle.pa_words.proofs.Reading.{reaches-unknown, reaches-twice, reaches-bare, reaches-wrong, reaches-option}
use Rattle.pa_words.proofs.spelled.option.Goals as goal

pub returns-in_default-clause-err : goal.returns-in_default-clause-err
returns-in_default-clause-err c all got r =
    let none : option_named c.args.word.now ≡ None = sym c.named.ensures ∙ c.in_default.is in
    reaches-unknown c.args.name all c.args.given.now got c.args.word.now (map string_bytes c.args.behind.now) c.requires.other c.requires.option
    (takes_none c.args.name c.args.word.now none) r

pub returns-then-not-takes-clause-err : goal.returns-then-not-takes-clause-err
returns-then-not-takes-clause-err c all got r =
    let named : option_named c.args.word.now ≡ Some c.in-Some.option = sym c.named.ensures ∙ c.in-Some.is in
    reaches-unknown c.args.name all c.args.given.now got c.args.word.now (map string_bytes c.args.behind.now) c.requires.other c.requires.option
    (takes_is c.args.name c.args.word.now c.in-Some.option named ∙ sym c.takes.ensures ∙ c.if-not-takes.true) r

pub returns-then-has-clause-err : goal.returns-then-has-clause-err
returns-then-has-clause-err c all got r =
    let named : option_named c.args.word.now ≡ Some c.in-Some.option = sym c.named.ensures ∙ c.in-Some.is in
    reaches-twice c.args.name all c.args.given.now got c.args.word.now (map string_bytes c.args.behind.now) c.in-Some.option c.requires.other
    c.requires.option (takes_is c.args.name c.args.word.now c.in-Some.option named ∙ sym c.takes.ensures ∙ c.if-not-takes.false) named
    (sym c.has.ensures ∙ c.if-has.true) r

no_words : {A : Type 0} (xs : List A) (f : A → List ℕ) → length xs ≡ 0 → map f xs ≡ []
no_words [] f e = refl
no_words (x ∷ xs) f e = grind (arith, common_steps, e)

pub returns-in_default-split_first-clause-err : goal.returns-in_default-split_first-clause-err
returns-in_default-split_first-clause-err c all got r =
    let named : option_named c.args.word.now ≡ Some c.in-Some.option = sym c.named.ensures ∙ c.in-Some.is in
    let none : map string_bytes c.args.behind.now ≡ [] = no_words c.args.behind.now string_bytes c.in_default-split_first.ensures.cases in
    reaches-bare c.args.name all c.args.given.now got c.args.word.now c.in-Some.option c.requires.other
    c.requires.option (takes_is c.args.name c.args.word.now c.in-Some.option named ∙ sym c.takes.ensures ∙ c.if-not-takes.false) named
    (sym c.has.ensures ∙ c.if-has.false) (subst (λ x. Reaches c.args.name all c.args.given.now got (c.args.word.now ∷ x)) none r)

pub returns-in-Some-take-clause-ok : goal.returns-in-Some-take-clause-ok
returns-in-Some-take-clause-ok c all got r =
    let named : option_named c.args.word.now ≡ Some c.in-Some.option = sym c.named.ensures ∙ c.in-Some.is in
    let split : map string_bytes c.args.behind.now ≡ c.as_str.result.now ∷ map string_bytes c.in-Some-split_first.rest.now =
    ap (map string_bytes) c.in-Some-split_first.ensures.cases.0 ∙ ap (λ x. x ∷ map string_bytes c.in-Some-split_first.rest.now) (sym c.as_str.ensures.value) in
    let next = reaches-option c.args.name all c.args.given.now got c.args.word.now c.as_str.result.now (map string_bytes c.in-Some-split_first.rest.now)
    c.in-Some.option c.requires.other c.requires.option
    (takes_is c.args.name c.args.word.now c.in-Some.option named ∙ sym c.takes.ensures ∙ c.if-not-takes.false) named
    (sym c.has.ensures ∙ c.if-has.false)
    (allows_is c.args.word.now c.as_str.result.now c.in-Some.option named ∙ c.in-Some-take.ensures.allowed)
    (subst (λ x. Reaches c.args.name all c.args.given.now got (c.args.word.now ∷ x)) split r) in
    subst (λ g. Reaches c.args.name all g got (map string_bytes c.in-Some-split_first.rest.now)) (sym c.in-Some-take.ensures.taken) next

pub returns-in-None-clause-err : goal.returns-in-None-clause-err
returns-in-None-clause-err c all got r =
    let named : option_named c.args.word.now ≡ Some c.in-Some.option = sym c.named.ensures ∙ c.in-Some.is in
    let split : map string_bytes c.args.behind.now ≡ c.as_str.result.now ∷ map string_bytes c.in-Some-split_first.rest.now =
    ap (map string_bytes) c.in-Some-split_first.ensures.cases.0 ∙ ap (λ x. x ∷ map string_bytes c.in-Some-split_first.rest.now) (sym c.as_str.ensures.value) in
    reaches-wrong c.args.name all c.args.given.now got c.args.word.now c.as_str.result.now (map string_bytes c.in-Some-split_first.rest.now)
    c.in-Some.option c.requires.other c.requires.option
    (takes_is c.args.name c.args.word.now c.in-Some.option named ∙ sym c.takes.ensures ∙ c.if-not-takes.false) named
    (sym c.has.ensures ∙ c.if-has.false)
    (allows_is c.args.word.now c.as_str.result.now c.in-Some.option named ∙ c.in-None.ensures.allowed)
    (subst (λ x. Reaches c.args.name all c.args.given.now got (c.args.word.now ∷ x)) split r)
