use Rattle.std.proofs.Common.{refl}
use Rattle.pa_place.proofs.places.subscript.Goals as goal

pub returns-then-is_pointer_left-clause-is : goal.returns-then-is_pointer_left-clause-is
returns-then-is_pointer_left-clause-is c names m fits =
    rw (← c.is_pointer_left.ensures names m fits, c.if-is_pointer_left.true) (c.element_of.ensures.is names m fits)

pub returns-then-is_pointer_right-clause-is : goal.returns-then-is_pointer_right-clause-is
returns-then-is_pointer_right-clause-is c names m fits =
    rw (← c.is_pointer_left.ensures names m fits, c.if-is_pointer_left.false, ← c.is_pointer_right.ensures names m fits, c.if-is_pointer_right.true) (c.element_of-then-is_pointer_right.ensures.is names m fits)

pub returns-else-is_pointer_right-clause-is : goal.returns-else-is_pointer_right-clause-is
returns-else-is_pointer_right-clause-is c names m fits =
    rw (← c.is_pointer_left.ensures names m fits, c.if-is_pointer_left.false, ← c.is_pointer_right.ensures names m fits, c.if-is_pointer_right.false, c.refused.ensures) refl
