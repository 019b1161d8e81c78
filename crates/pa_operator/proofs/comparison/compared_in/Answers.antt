use Rattle.std.proofs.Common.{refl}
use Rattle.pa_typed.proofs.Views.{tree-Compare}
use Rattle.pa_operator.proofs.comparison.compared_in.Goals as goal

pub returns-clause-is : goal.returns-clause-is
returns-clause-is c names m fits =
    let last = c.in_ok-int.ensures.grows.fits m fits in
    let middle = c.in_ok-right.ensures.grows.fits m last in
    rw (
      c.value.ensures,
      tree-Compare,
      c.in_ok-left.ensures.is names m middle,
      c.in_ok-right.ensures.is names m last,
      c.expr_type.ensures,
      c.in_ok-int.ensures.is m fits,
    )
    refl
