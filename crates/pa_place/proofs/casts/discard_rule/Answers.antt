use Rattle.std.proofs.Common.{refl}
use Rattle.pa_place.proofs.casts.discard_rule.Goals as goal

pub returns-then-is_bodiless : goal.returns-then-is_bodiless
returns-then-is_bodiless c names m fits =
    rw (← c.is_bodiless.ensures names m fits, c.if-is_bodiless.true) refl

pub returns-else-is_function_pointer : goal.returns-else-is_function_pointer
returns-else-is_function_pointer c names m fits =
    rw (← c.is_bodiless.ensures names m fits, c.if-is_bodiless.false, ← c.is_function_pointer.ensures m fits, c.if-is_function_pointer.false) refl
