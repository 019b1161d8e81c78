-- Bits of a number, from bit 0, which is worth 1.
use Rattle.std.specs.Prelude.{ℕ, ◌+◌, ◌-◌, ◌*◌, ◌/◌, ◌%◌, ◌^◌, if◌then◌else◌, ◌==◌}
use Rattle.std.specs.Int.{bit_at}

-- the number that bits low to low + length - 1 of a word stand for
abbrev pub field : (low length word : ℕ) → ℕ
field low length word = word / 2 ^ low % 2 ^ length

-- the word with this value in those bits, and its own other bits
abbrev pub with_field : (low length word value : ℕ) → ℕ
with_field low length word value =
    word / 2 ^ (low + length) * 2 ^ (low + length) + (value * 2 ^ low + word % 2 ^ low)

-- the low bits, with zeros above
abbrev pub truncated : (value bits : ℕ) → ℕ
truncated value bits = value % 2 ^ bits

-- the low bits, with copies of the highest of them above, up to bit 63
abbrev pub sign_extended : (value bits : ℕ) → ℕ
sign_extended value bits =
    if bit_at value (bits - 1) == 1 then value % 2 ^ bits + (2 ^ 64 - 2 ^ bits) else value % 2 ^ bits
