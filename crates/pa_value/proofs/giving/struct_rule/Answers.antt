use Rattle.std.proofs.Common.{refl}
use Rattle.pa_value.proofs.giving.struct_rule.Goals as goal

pub returns-then-is_complete : goal.returns-then-is_complete
returns-then-is_complete c names m fits = rw (← c.is_complete.ensures names m fits, c.if-is_complete.true) refl

pub returns-else-is_complete : goal.returns-else-is_complete
returns-else-is_complete c names m fits = rw (← c.is_complete.ensures names m fits, c.if-is_complete.false) refl
