use Rattle.std.proofs.Common.{refl}
use Rattle.pa_place.proofs.places.is_pointer_left.Goals as goal

pub returns-then-is_movable : goal.returns-then-is_movable
returns-then-is_movable c names m fits =
    rw (← c.is_movable.ensures names m fits, c.if-is_movable.true, ← c.is_integer.ensures m fits) refl

pub returns-else-is_movable : goal.returns-else-is_movable
returns-else-is_movable c names m fits =
    rw (← c.is_movable.ensures names m fits, c.if-is_movable.false) refl
