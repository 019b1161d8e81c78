use Rattle.std.proofs.Common.{refl}
use Rattle.pa_place.proofs.places.is_pointer_right.Goals as goal

pub returns-then-is_integer : goal.returns-then-is_integer
returns-then-is_integer c names m fits =
    rw (← c.is_integer.ensures m fits, c.if-is_integer.true, ← c.is_movable.ensures names m fits) refl
