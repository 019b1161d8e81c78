use Rattle.std.proofs.Common.{arith, sym, ◌∙◌}
use Rattle.pa_check.proofs.Words.{length-text}
use Rattle.pa_check.proofs.Settled.{next_word, next_over}
use Rattle.pa_check.proofs.text.next_in.Goals as goal

pub instr_at-requires : goal.instr_at-requires
instr_at-requires c = let a = c.requires.function.inside in let b = c.if-k-function.true in let d = length-text c.args.image.now in omega arith

pub returns-then-k-function : goal.returns-then-k-function
returns-then-k-function c = c.instr_at.ensures ∙ sym (next_word _ c.args.function.first c.args.function.end c.requires.function c.args.k c.requires.from c.if-k-function.true)

pub returns-else-k-function : goal.returns-else-k-function
returns-else-k-function c = sym (next_over _ c.args.function.first c.args.function.end c.requires.function c.args.k c.requires.to c.if-k-function.false)
