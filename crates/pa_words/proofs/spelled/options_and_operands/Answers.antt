-- Words are read to their end.
use Rattle.std.proofs.Common.{◌≡◌, List, [], ◌∷◌, ◌++◌, ℕ, map, string_bytes, true, false, arith, sym, ◌∙◌, ap, subst, codes, Result, Ok, Err}
use Rattle.std.specs.Prelude.{IfErr, IsErrAnd, Some}
use Rattle.std.specs.Str.{bytes_eq}
use Rattle.std.proofs.lemmas.Grind.{common_steps}
use Rattle.pa_words.specs.declared.command.UseFault.{UseFault}
use Rattle.pa_words.specs.declared.command.WordsFault.{WordsFault}
use Rattle.pa_words.specs.declared.command.WordsFault.TheVariants.{Usage}
use Rattle.pa_words.specs.declared.names.CommandName.{CommandName}
use Rattle.pa_words.specs.Answers.{IsFlaw}
use Rattle.pa_words.specs.Reading.{Reaches}
use Rattle.pa_words.specs.Usage.{is_option, first_flaw, items}
use Rattle.pa_words.proofs.Reading.{reaches-none, reaches-operand, reaches-end, reaches-all}
use Rattle.pa_words.proofs.spelled.options_and_operands.Goals as goal

pub words-init : goal.words-init
words-init c =
    subst (λ g. Reaches c.args.name (map string_bytes c.args.words.now) g c.new-operands.result (map string_bytes c.args.words.now)) (sym c.none-given.ensures)
    (subst (λ x. Reaches c.args.name (map string_bytes c.args.words.now) _ x (map string_bytes c.args.words.now)) (sym c.new-operands.ensures)
    (reaches-none c.args.name (map string_bytes c.args.words.now)))

pub words-preserved-then-eq : goal.words-preserved-then-eq
words-preserved-then-eq c =
    let all = map string_bytes c.args.words.now in
    let tail = map string_bytes c.in-Some.tail.now in
    let same : bytes_eq c.as_str-text.result.now (codes "--") ≡ true = grind (arith, common_steps, c.eq.ensures, c.if-eq.true) in
    let split : map string_bytes c.words.rest.now ≡ c.as_str-text.result.now ∷ tail =
    ap (map string_bytes) c.in-Some.ensures.cases.0 ∙ ap (λ x. x ∷ tail) (sym c.as_str-text.ensures.value) in
    let read = subst (Reaches c.args.name all c.words.given c.words.operands) split c.words.invariant in
    let next = reaches-end c.args.name all c.words.given c.words.operands c.as_str-text.result.now tail same read in
    subst (λ x. Reaches c.args.name all c.words.given x []) (sym c.in_ok-push_all.ensures) next

pub words-preserved : goal.words-preserved
words-preserved c =
    let all = map string_bytes c.args.words.now in
    let tail = map string_bytes c.in-Some.tail.now in
    let other : bytes_eq c.as_str-text.result.now (codes "--") ≡ false = grind (arith, common_steps, c.eq.ensures, c.if-eq.false) in
    let operand : is_option c.as_str-text.result.now ≡ false = grind (arith, common_steps, c.starts_with.ensures.value, c.as_bytes.ensures.value, c.if-starts_with.false) in
    let split : map string_bytes c.words.rest.now ≡ c.as_str-text.result.now ∷ tail =
    ap (map string_bytes) c.in-Some.ensures.cases.0 ∙ ap (λ x. x ∷ tail) (sym c.as_str-text.ensures.value) in
    let read = subst (Reaches c.args.name all c.words.given c.words.operands) split c.words.invariant in
    let next = reaches-operand c.args.name all c.words.given c.words.operands c.as_str-text.result.now tail other operand read in
    subst (λ x. Reaches c.args.name all c.words.given x tail) (sym (c.in_ok-push.ensures.ok ∙ ap (λ x. c.words.operands ++ x ∷ []) c.new.ensures)) next

erred : {A : Type 0} (r : Result A WordsFault) (name : CommandName) (all : List (List ℕ)) (rule : UseFault) → IsErrAnd r (λ e. e ≡ Usage rule)
    → first_flaw name [] (items all) ≡ Some rule → IfErr r (IsFlaw name all)
erred (Ok x) name all rule h f = tt
erred (Err e) name all rule h f = subst (IsFlaw name all) (sym h) f

pub returns-in_err-rest-clause-err : goal.returns-in_err-rest-clause-err
returns-in_err-rest-clause-err c =
    let all = map string_bytes c.args.words.now in
    let tail = map string_bytes c.in-Some.tail.now in
    let split : map string_bytes c.words.rest.now ≡ c.as_str-text.result.now ∷ tail =
    ap (map string_bytes) c.in-Some.ensures.cases.0 ∙ ap (λ x. x ∷ tail) (sym c.as_str-text.ensures.value) in
    let read = subst (Reaches c.args.name all c.words.given c.words.operands) split c.words.invariant in
    erred c.from_residual-in_err-rest.result c.args.name all c.in_err-rest.field-0.0 c.from_residual-in_err-rest.ensures.1
    (c.in_err-rest.ensures.err all c.words.operands read)

pub returns-clause-ok : goal.returns-clause-ok
returns-clause-ok c =
    let none : c.words.rest.now ≡ [] = grind (arith, common_steps, c.in_default.ensures.cases) in
    reaches-all c.args.name (map string_bytes c.args.words.now) c.words.given c.words.operands
    (subst (λ x. Reaches c.args.name (map string_bytes c.args.words.now) c.words.given c.words.operands (map string_bytes x)) none c.words.invariant)
