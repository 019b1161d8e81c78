use Rattle.std.proofs.Common.{◌-◌, arith}
use Rattle.pa_tree.specs.Views.{declarator_tree}
use Rattle.pa_grammar.specs.Answers.{most_levels}
use Rattle.pa_grammar.proofs.Forms.{at_naming, declarator_reader, declarator_readers}
use Rattle.pa_grammar.proofs.Runs.{read_within, answer_read, stop_left, stop_behind, answer_front, answer_refused, answer_stop}
use Rattle.pa_one_tree.proofs.whole.declarator.Goals as goal

pub overflow_sub-result : goal.overflow_sub-result
overflow_sub-result c = read_within _ _ _ _ (declarator_reader c.args.names.now (most_levels - c.args.depth) c.args.named) c.args.tokens.now c.args.at _ c.reader_at-r.ensures _ _ _ (at_naming c.args.names.now (most_levels - c.args.depth) _ _ _ c.naming.ensures c.in-Ok.ensures.value) c.left.ensures

pub returns-in-Ok-clause-answer : goal.returns-in-Ok-clause-answer
returns-in-Ok-clause-answer c = answer_read _ _ _ _ (declarator_reader c.args.names.now (most_levels - c.args.depth) c.args.named) c.args.tokens.now c.args.at _ c.reader_at-r.ensures _ _ _ (at_naming c.args.names.now (most_levels - c.args.depth) _ _ _ c.naming.ensures c.in-Ok.ensures.value) c.left.ensures

pub overflow_sub-end : goal.overflow_sub-end
overflow_sub-end c = stop_left _ _ _ _ (declarator_reader c.args.names.now (most_levels - c.args.depth) c.args.named) c.args.tokens.now c.args.at _ c.reader_at-r.ensures _ _ (at_naming c.args.names.now (most_levels - c.args.depth) _ _ _ c.naming.ensures (c.in-Err-Broken.ensures.value (λ e. cc (c.in-Err-Broken.field-0-is)))) c.left-in-Err-Broken.ensures

pub reader_at-front-requires : goal.reader_at-front-requires
reader_at-front-requires c = stop_behind _ _ _ _ (declarator_reader c.args.names.now (most_levels - c.args.depth) c.args.named) c.args.tokens.now c.args.at _ c.reader_at-r.ensures _ _ (at_naming c.args.names.now (most_levels - c.args.depth) _ _ _ c.naming.ensures (c.in-Err-Broken.ensures.value (λ e. cc (c.in-Err-Broken.field-0-is)))) c.left-in-Err-Broken.ensures c.requires.within

pub returns-then-left-eq0-clause-answer : goal.returns-then-left-eq0-clause-answer
returns-then-left-eq0-clause-answer c = answer_front _ _ _ _ (declarator_reader c.args.names.now (most_levels - c.args.depth) c.args.named) c.args.tokens.now c.args.at _ c.reader_at-r.ensures _ _ (at_naming c.args.names.now (most_levels - c.args.depth) _ _ _ c.naming.ensures (c.in-Err-Broken.ensures.value (λ e. cc (c.in-Err-Broken.field-0-is)))) c.left-in-Err-Broken.ensures _ _ _ c.requires.within c.reader_at-front.ensures (at_naming c.args.names.now (most_levels - c.args.depth) _ _ _ c.naming-in-Err-Broken.ensures c.in-Ok-read_declarator.ensures.value) (omega (arith, c.if-left-eq0.true))

pub returns-else-left-eq0-clause-answer : goal.returns-else-left-eq0-clause-answer
returns-else-left-eq0-clause-answer c = answer_refused _ _ _ (declarator_readers c.args.names.now c.args.named) (most_levels - c.args.depth) c.args.tokens.now c.args.at _ c.reader_at-r.ensures _ _ _ (at_naming c.args.names.now (most_levels - c.args.depth) _ _ _ c.naming.ensures (c.in-Err-Broken.ensures.value (λ e. cc (c.in-Err-Broken.field-0-is)))) c.left-in-Err-Broken.ensures declarator_tree _ _ _ _ (cc (c.in-Err-Broken.field-0-is)) c.refusal.ensures c.requires.within c.reader_at-front.ensures (at_naming c.args.names.now (most_levels - c.args.depth) _ _ _ c.naming-in-Err-Broken.ensures c.in-Ok-read_declarator.ensures.value) (λ z. omega (arith, z, c.if-left-eq0.false))

pub returns-else-left-eq0-clause-stop : goal.returns-else-left-eq0-clause-stop
returns-else-left-eq0-clause-stop c = answer_stop _ _ _ (declarator_readers c.args.names.now c.args.named) (most_levels - c.args.depth) c.args.tokens.now c.args.at _ c.reader_at-r.ensures _ _ _ (at_naming c.args.names.now (most_levels - c.args.depth) _ _ _ c.naming.ensures (c.in-Err-Broken.ensures.value (λ e. cc (c.in-Err-Broken.field-0-is)))) c.left-in-Err-Broken.ensures (Unit {0}) _ _ (cc (c.in-Err-Broken.field-0-is)) c.refusal.ensures

pub returns-in-Err-Broken-read_declarator-clause-answer : goal.returns-in-Err-Broken-read_declarator-clause-answer
returns-in-Err-Broken-read_declarator-clause-answer c = answer_refused _ _ _ (declarator_readers c.args.names.now c.args.named) (most_levels - c.args.depth) c.args.tokens.now c.args.at _ c.reader_at-r.ensures _ _ _ (at_naming c.args.names.now (most_levels - c.args.depth) _ _ _ c.naming.ensures (c.in-Err-Broken.ensures.value (λ e. cc (c.in-Err-Broken.field-0-is)))) c.left-in-Err-Broken.ensures declarator_tree _ _ _ _ (cc (c.in-Err-Broken.field-0-is)) c.refusal-in-Err-Broken-read_declarator.ensures c.requires.within c.reader_at-front.ensures (at_naming c.args.names.now (most_levels - c.args.depth) _ _ _ c.naming-in-Err-Broken.ensures (c.in-Err-Broken-read_declarator.ensures.value (λ e. cc (c.in-Err-Broken-read_declarator.field-0-is)))) tt

pub returns-in-Err-Broken-read_declarator-clause-stop : goal.returns-in-Err-Broken-read_declarator-clause-stop
returns-in-Err-Broken-read_declarator-clause-stop c = answer_stop _ _ _ (declarator_readers c.args.names.now c.args.named) (most_levels - c.args.depth) c.args.tokens.now c.args.at _ c.reader_at-r.ensures _ _ _ (at_naming c.args.names.now (most_levels - c.args.depth) _ _ _ c.naming.ensures (c.in-Err-Broken.ensures.value (λ e. cc (c.in-Err-Broken.field-0-is)))) c.left-in-Err-Broken.ensures (Unit {0}) _ _ (cc (c.in-Err-Broken.field-0-is)) c.refusal-in-Err-Broken-read_declarator.ensures
