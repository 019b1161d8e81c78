-- Signing and authenticating: 48 address bits, bit 55 as selector, the code in bits 63 to 56 and 54 to 48
-- (Arm Architecture Reference Manual, pointer authentication with FEAT_PAuth2, without tags).
use Rattle.std.specs.Prelude.{ℕ, ◌+◌, ◌*◌, ◌/◌, ◌%◌, ◌^◌, ◌==◌, if◌then◌else◌, Option, Some, None, bit_xor, bit_and}
use Rattle.pa_pac.specs.declared.key.Key.{Key}
use Rattle.pa_pac.specs.declared.key.Key.TheVariants.{GA}

-- a function from a key, a pointer and a modifier to a code
abbrev pub Code : Type 0
Code = Key → ℕ → ℕ → ℕ

-- the bits that hold the code: all above the address but bit 55
abbrev pub mask : ℕ
mask = 0xFF7F_0000_0000_0000

-- the address, with bits 63 to 48 all equal to bit 55
unfoldable pub canonical : ℕ → ℕ
canonical value = value % 2 ^ 48 + (value / 2 ^ 55 % 2) * 0xFFFF_0000_0000_0000

-- the value with its code put over, or taken away where it is the right one
unfoldable pub covered : Code → Key → ℕ → ℕ → ℕ
covered code key modifier value = bit_xor value (bit_and (code key (canonical value) modifier) mask)

abbrev pub sign : Code → Key → ℕ → ℕ → ℕ
sign = covered

-- what lies under the code, where it is canonical
abbrev pub accepted : ℕ → Option ℕ
accepted raw = if raw == canonical raw then Some raw else None

abbrev pub auth : Code → Key → ℕ → ℕ → Option ℕ
auth code key modifier value = accepted (covered code key modifier value)

-- the authentication code of data under the generic key: the upper half of the code, which is a number of 64 bits, with
-- zeros below
abbrev pub generic_code : Code → ℕ → ℕ → ℕ
generic_code code pointer modifier = code GA pointer modifier % 2 ^ 64 / 2 ^ 32 * 2 ^ 32
