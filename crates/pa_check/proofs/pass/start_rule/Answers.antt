use Rattle.std.proofs.Common.{refl, sym}
use Rattle.pa_check.specs.Text.{text_of}
use Rattle.pa_check.proofs.Words.{marked_of}
use Rattle.pa_check.proofs.pass.start_rule.Goals as goal

pub returns-then-marked : goal.returns-then-marked
returns-then-marked c = λ first window. rw (marked_of c.args.image.now c.args.k c.requires.within, sym c.requires.marked, c.if-marked.true) refl

pub returns-then-is_start : goal.returns-then-is_start
returns-then-is_start c = λ first window. rw (marked_of c.args.image.now c.args.k c.requires.within, sym c.requires.marked, c.if-marked.false, sym c.instr_at-instr.ensures, sym (c.is_start.ensures (text_of c.args.image.now) c.requires.main), c.if-is_start.true) refl

pub returns-else-is_start : goal.returns-else-is_start
returns-else-is_start c = λ first window. rw (marked_of c.args.image.now c.args.k c.requires.within, sym c.requires.marked, c.if-marked.false, sym c.instr_at-instr.ensures, sym (c.is_start.ensures (text_of c.args.image.now) c.requires.main), c.if-is_start.false, c.given_rule.ensures, c.place.ensures) refl
