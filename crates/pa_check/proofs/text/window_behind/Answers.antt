use Rattle.std.proofs.Common.{refl, sym}
use Rattle.pa_check.proofs.Settled.{is_over-next}
use Rattle.pa_check.proofs.text.window_behind.Goals as goal

pub returns-then-k-function : goal.returns-then-k-function
returns-then-k-function c =
    rw (c.farther.ensures, is_over-next _ c.args.function.first c.args.function.end c.requires.function c.args.k c.requires.from c.if-k-function.true, sym c.requires.instr, sym c.goes_on.ensures, c.if-goes_on.true) refl
