use Rattle.std.proofs.Common.{refl}
use Rattle.pa_value.proofs.giving.given_rule.Goals as goal

pub returns-then-is_same_struct : goal.returns-then-is_same_struct
returns-then-is_same_struct c names m fits =
    rw (
      ← c.is_void.ensures m fits,
      c.if-is_void.false,
      ← c.are_integers.ensures m fits,
      c.if-are_integers.false,
      ← c.are_pointers.ensures m fits,
      c.if-are_pointers.false,
      ← c.is_pointer_conversion.ensures m fits,
      c.if-is_pointer_conversion.false,
      ← c.is_same_struct.ensures m fits,
      c.if-is_same_struct.true,
      ← c.struct_rule.ensures names m fits,
    )
    refl
