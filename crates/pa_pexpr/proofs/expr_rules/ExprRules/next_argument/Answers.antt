use Rattle.pa_pexpr.proofs.Turns.{next_fewer}
use Rattle.pa_pexpr.proofs.expr_rules.ExprRules.next_argument.Goals as goal

pub returns-clause-fewer : goal.returns-clause-fewer
returns-clause-fewer g c = next_fewer _ _ _ _ _ _ c.in_ok-expect.ensures c.expr.ensures.value
