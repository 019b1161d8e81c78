use Rattle.std.proofs.Common.{sym, ◌∙◌}
use Rattle.pa_check.specs.Text.{text_of}
use Rattle.pa_check.proofs.Flaws.{plain_if}
use Rattle.pa_check.proofs.pass.breaks_nothing.Goals as goal

pub returns-in-None : goal.returns-in-None
returns-in-None c =
    plain_if (text_of c.args.image.now) c.args.function.first c.args.function.end c.requires.function c.args.k c.args.instr c.args.current c.is_plain.result c.requires.from c.requires.to
    (sym c.is_between.ensures ∙ c.if-is_between.true) c.in-None.is c.requires.instr c.is_plain.ensures
