use Rattle.std.proofs.Common.{sym, ◌∙◌}
use Rattle.pa_check.proofs.Lists.{has_here, has_past}
use Rattle.pa_check.proofs.slots.has_import.Goals as goal

pub returns-then-i-fixes-clause-value : goal.returns-then-i-fixes-clause-value
returns-then-i-fixes-clause-value c = c.is_import_at.ensures ∙ sym (has_here c.args.fixes.now c.args.i _ c.requires.rising c.requires.aligned c.requires.before c.if-i-fixes.true)

pub returns-else-i-fixes-clause-value : goal.returns-else-i-fixes-clause-value
returns-else-i-fixes-clause-value c = sym (has_past c.args.fixes.now c.args.i c.requires.before c.if-i-fixes.false)
