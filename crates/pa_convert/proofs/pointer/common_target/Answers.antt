use Rattle.std.proofs.Common.{Some, sym, ap, ◌∙◌}
use Rattle.pa_convert.proofs.Conversions.{without_more}
use Rattle.pa_convert.proofs.pointer.common_target.Goals as goal

pub returns-in_ok-constant-clause-is : goal.returns-in_ok-constant-clause-is
returns-in_ok-constant-clause-is c m fits =
    let old = c.in_ok-constant.ensures.grows m fits in
    rw (← c.go_together.ensures m old, c.if-go_together.true, ← c.is_either_constant.ensures m old, c.if-is_either_constant.true, ← c.void_or_left-of.ensures.is m old) (ap Some (c.in_ok-constant.ensures.is m fits))

pub returns-else-is_either_constant-clause-is : goal.returns-else-is_either_constant-clause-is
returns-else-is_either_constant-clause-is c m fits =
    rw (← c.go_together.ensures m fits, c.if-go_together.true, ← c.is_either_constant.ensures m fits, c.if-is_either_constant.false, ← c.void_or_left-of.ensures.is m fits) (ap Some (sym (without_more (m c.void_or_left-of.result))))
