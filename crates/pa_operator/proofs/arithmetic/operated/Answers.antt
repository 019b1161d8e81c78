use Rattle.std.proofs.Common.{refl}
use Rattle.pa_typed.proofs.Views.{tree-Binary}
use Rattle.pa_operator.proofs.arithmetic.operated.Goals as goal

pub returns-clause-is : goal.returns-clause-is
returns-clause-is c names m fits =
    let middle = c.in_ok-right.ensures.grows.fits m fits in
    rw (c.value.ensures, tree-Binary, c.in_ok-left.ensures.is names m middle, c.in_ok-right.ensures.is names m fits, c.expr_type.ensures) refl
