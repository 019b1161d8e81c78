use Rattle.std.proofs.Common.{refl}
use Rattle.pa_typed.proofs.Views.{tree-Unary}
use Rattle.pa_operator.proofs.unary.signed_value.Goals as goal

pub returns-clause-is : goal.returns-clause-is
returns-clause-is c names m fits =
    rw (c.value.ensures, tree-Unary, c.in_ok-inner.ensures.is names m fits, c.expr_type.ensures) refl
