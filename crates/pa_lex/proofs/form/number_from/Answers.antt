use Rattle.pa_lex.proofs.form.number_from.Goals as goal

pub returns : goal.returns
returns c = rw (c.split_at-2.ensures.front, c.suffix_len.ensures.value, c.split_at.ensures.front, c.split_at.ensures.back, c.digits_len.ensures.value, c.radix.ensures)
