use Rattle.std.proofs.Common.{Some, option_map, sym, ap, ◌∙◌}
use Rattle.pa_convert.specs.Conversions.{pointer_option}
use Rattle.pa_convert.proofs.pointer.common_pointer.Goals as goal

pub returns-in_ok-pointer_to-in-Some-common-clause-is : goal.returns-in_ok-pointer_to-in-Some-common-clause-is
returns-in_ok-pointer_to-in-Some-common-clause-is c m fits =
    let middle = c.in_ok-pointer_to-in-Some-common.ensures.grows.fits m fits in
    let old = c.in_ok-common.ensures.grows.fits m middle in
    rw (← c.in-Some.ensures.is m old, ← c.in-Some-target.ensures.is m old)
    (ap Some (c.in_ok-pointer_to-in-Some-common.ensures.is m fits) ∙ ap pointer_option (sym (ap (option_map m) c.in-Some-common.is) ∙ c.in_ok-common.ensures.is m middle))

pub returns-in-None-clause-is : goal.returns-in-None-clause-is
returns-in-None-clause-is c m fits =
    let old = c.in_ok-common.ensures.grows.fits m fits in
    rw (← c.in-Some.ensures.is m old, ← c.in-Some-target.ensures.is m old) (ap pointer_option (sym (ap (option_map m) c.in-None.is) ∙ c.in_ok-common.ensures.is m fits))
