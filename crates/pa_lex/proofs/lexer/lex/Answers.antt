use Rattle.std.proofs.Common.{refl}
use Rattle.std.proofs.lemmas.Result.{err_from_is_err_and}
use Rattle.pa_lex.specs.Shapes.{spelled_of}
use Rattle.pa_lex.proofs.Readings.{token_shorter}
use Rattle.pa_lex.proofs.Whole.{settled}
use Rattle.pa_lex.proofs.Numbered.{begin, go_on, all_read, fails, lexed_distinct}
use Rattle.pa_lex.proofs.lexer.lex.Goals as goal

pub tokens-init : goal.tokens-init
tokens-init c = begin c.args.bytes.now c.new-tokens.result c.in_ok-names.names c.new-reader.result c.skip.new.self c.new-tokens.ensures c.in_ok-names.ensures c.new-reader.ensures c.skip.ensures

pub returns-in_err-token-clause-answer : goal.returns-in_err-token-clause-answer
returns-in_err-token-clause-answer c =
    let p = err_from_is_err_and c.from_residual-in_err-token.result c.from_residual-in_err-token.ensures.1 in
    rw (p.1, p.2) (fails c.args.bytes.now c.tokens.tokens c.tokens.names c.tokens.reader c.token.new.self c.in_err-token.field-0.0 c.tokens.invariant c.in_err-token.ensures)

pub tokens-smaller : goal.tokens-smaller
tokens-smaller c = token_shorter (spelled_of c.in_ok-token.field-0) c.tokens.reader c.token.new.self c.skip-in-tokens.new.self c.in_ok-token.ensures c.skip-in-tokens.ensures

pub tokens-preserved : goal.tokens-preserved
tokens-preserved c =
    rw c.in_ok-push.ensures.ok
    (go_on c.args.bytes.now c.tokens.tokens c.tokens.names c.token-in-tokens.new.self c.tokens.reader c.token.new.self c.skip-in-tokens.new.self (spelled_of c.in_ok-token.field-0) c.in_ok-token-2.token c.tokens.invariant c.in_ok-token.ensures
    c.in_ok-token-2.ensures c.skip-in-tokens.ensures)

pub returns-clause-answer : goal.returns-clause-answer
returns-clause-answer c = all_read c.args.bytes.now c.tokens.tokens c.tokens.names c.tokens.reader c.tokens.invariant (c.tokens-test.ensures.0 refl)

pub returns-clause-distinct : goal.returns-clause-distinct
returns-clause-distinct c = lexed_distinct c.args.bytes.now c.tokens.tokens c.tokens.names c.tokens.reader c.tokens.invariant

pub returns-in_err-names-clause-settled : goal.returns-in_err-names-clause-settled
returns-in_err-names-clause-settled c = settled c.args.bytes.now

pub returns-in_err-token-clause-settled : goal.returns-in_err-token-clause-settled
returns-in_err-token-clause-settled c = settled c.args.bytes.now

pub returns-in_err-token-2-clause-settled : goal.returns-in_err-token-2-clause-settled
returns-in_err-token-2-clause-settled c = settled c.args.bytes.now

pub returns-in_err-push-clause-settled : goal.returns-in_err-push-clause-settled
returns-in_err-push-clause-settled c = settled c.args.bytes.now

pub returns-clause-settled : goal.returns-clause-settled
returns-clause-settled c = settled c.args.bytes.now
