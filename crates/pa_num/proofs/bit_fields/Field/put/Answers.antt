-- The word without its field, and the value in its place.
use Rattle.std.proofs.Common.{◌+◌, ◌*◌, ◌%◌, ◌^◌, ◌-◌, bit_and, bit_or, ap, ◌∙◌, arith}
use Rattle.std.specs.Int.{bit_at}
use Rattle.std.proofs.lemmas.Nat.{shl_whole}
use Rattle.pa_num.specs.Bits.{field}
use Rattle.pa_num.proofs.Bits.{ones_below, mask-shifted, cleared_is, put_is, field-with_field, bit_at-with_field_below, bit_at-with_field_above}
use Rattle.pa_num.proofs.bit_fields.Field.put.Goals as goal

pub returns-clause-value : goal.returns-clause-value
returns-clause-value g c =
    let low = g.row.LO in
    let length = g.row.LEN in
    let word = c.args.word in
    let value = c.args.value in
    let ones = ones_below length (omega arith) in
    let mask = ap (λ z. z * 2 ^ low % 2 ^ 64) ones ∙ mask-shifted low length c.requires.within in
    let moved = shl_whole value length low 64 c.requires.fits (omega arith) in
    ap (λ z. bit_or (bit_and word (2 ^ 64 - 1 - z)) (value * 2 ^ low % 2 ^ 64)) mask
    ∙ (ap (bit_or (bit_and word (2 ^ 64 - 1 - (2 ^ (length + low) - 2 ^ low)))) moved
    ∙ (ap (λ z. bit_or z (value * 2 ^ low)) (cleared_is low length word c.requires.within c.ranges.word.fits)
    ∙ put_is low length word value c.requires.fits))

pub returns-clause-got : goal.returns-clause-got
returns-clause-got g c = ap (field g.row.LO g.row.LEN) (returns-clause-value g c) ∙ field-with_field g.row.LO g.row.LEN c.args.word c.args.value c.requires.fits

pub returns-clause-under : goal.returns-clause-under
returns-clause-under g c k h = ap (λ z. bit_at z k) (returns-clause-value g c) ∙ bit_at-with_field_below g.row.LO g.row.LEN c.args.word c.args.value k h

pub returns-clause-over : goal.returns-clause-over
returns-clause-over g c k h = ap (λ z. bit_at z k) (returns-clause-value g c) ∙ bit_at-with_field_above g.row.LO g.row.LEN c.args.word c.args.value k c.requires.fits h
