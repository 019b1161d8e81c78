use Rattle.std.proofs.Common.{sym, subst}
use Rattle.pa_asmline.specs.Lines.{IsLine}
use Rattle.pa_asmline.proofs.Whole.{line_is, one}
use Rattle.pa_asmline.proofs.line.read_line.Goals as goal

pub returns-clause-line : goal.returns-clause-line
returns-clause-line c = subst (λ l. IsLine l c.args.text.now) (sym c.line_of.ensures) (line_is c.args.text.now)

pub returns-clause-one : goal.returns-clause-one
returns-clause-one c = one c.args.text.now
