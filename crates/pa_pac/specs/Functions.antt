-- The functions for the authentication code that the project ships.
use Rattle.std.specs.Prelude.{ℕ, Bool, ◌*◌, ◌/◌, ◌%◌, ◌^◌, ◌==◌, ◌&&◌, if◌then◌else◌, List, [], ◌∷◌, ◌++◌, bit_xor}
use Rattle.std.specs.Int.{w64, to_le_bytes}
use Rattle.pa_sip.specs.Sip.{siphash}
use Rattle.pa_pac.specs.declared.key.Key.{Key}
use Rattle.pa_pac.specs.declared.pac.PacRow.{PacRow}
use Rattle.pa_pac.specs.Key.{key_number, same_key}

-- the four 16-bit parts of a number of 64 bits, together
abbrev pub folded : ℕ → ℕ
folded x = bit_xor (bit_xor (x % 2 ^ 16) (x / 2 ^ 16 % 2 ^ 16)) (bit_xor (x / 2 ^ 32 % 2 ^ 16) (x / 2 ^ 48 % 2 ^ 16))

-- the parts of the pointer and the modifier together with the key's number, in the bits from 48 up
unfoldable pub fold_value : Key → ℕ → ℕ → ℕ
fold_value key pointer modifier = bit_xor (folded (bit_xor pointer modifier)) (key_number key) * 2 ^ 48

abbrev pub is_for : PacRow → Key → ℕ → ℕ → Bool
is_for row key pointer modifier = same_key row.key key && (row.pointer == pointer && row.modifier == modifier)

-- the value of the first row with this key, pointer and modifier, or 0; a row's value is a number of 64 bits
unfoldable pub table_value : List PacRow → Key → ℕ → ℕ → ℕ
table_value [] key pointer modifier = 0
table_value (row ∷ rows) key pointer modifier =
    if is_for row key pointer modifier then row.value % 2 ^ 64 else table_value rows key pointer modifier

-- SipHash-2-4 of the key's number, the pointer and the modifier, each lowest byte first; it is a number of 64 bits
unfoldable pub sip_value : ℕ → ℕ → Key → ℕ → ℕ → ℕ
sip_value k0 k1 key pointer modifier = siphash k0 k1 (key_number key ∷ (to_le_bytes w64 pointer ++ to_le_bytes w64 modifier)) % 2 ^ 64
