use Rattle.pa_place.proofs.casts.cast_rule.Goals as goal

pub returns-then-is_void : goal.returns-then-is_void
returns-then-is_void c names m fits =
    rw (← c.is_void.ensures m fits, c.if-is_void.true) (c.discard_rule.ensures names m fits)
