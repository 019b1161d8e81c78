use Rattle.std.proofs.Common.{refl}
use Rattle.pa_place.proofs.casts.is_bodiless.Goals as goal

pub returns-then-is_struct : goal.returns-then-is_struct
returns-then-is_struct c names m fits =
    rw (← c.is_struct.ensures m fits, c.if-is_struct.true, ← c.is_complete.ensures names m fits) refl
