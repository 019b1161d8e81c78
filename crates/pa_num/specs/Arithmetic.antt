-- Arithmetic on numbers of 64 bits, as the A64 instructions and flat code do it (Arm Architecture Reference Manual, shared
-- pseudocode: AddWithCarry, the shifts, and division towards zero).
use Rattle.std.specs.Prelude.{ℕ, ◌+◌, ◌-◌, ◌*◌, ◌/◌, ◌%◌, ◌^◌, Bool, true, false, not, ◌==◌, ◌&&◌, nat_le, nat_lt, if◌then◌else◌, ℤ, pos, negsuc, int_div, suc}
use Rattle.std.specs.Int.{w64, cast_signed, cast_unsigned}
use Rattle.pa_num.specs.Bits.{with_field}

-- what is left of a number in 64 bits
unfoldable pub wrap : ℕ → ℕ
wrap x = x % 2 ^ 64

unfoldable pub add64 : ℕ → ℕ → ℕ
add64 x y = wrap (x + y)

unfoldable pub sub64 : ℕ → ℕ → ℕ
sub64 x y = wrap (x + (2 ^ 64 - y))

unfoldable pub mul64 : ℕ → ℕ → ℕ
mul64 x y = wrap (x * y)

-- each bit turned
unfoldable pub not64 : ℕ → ℕ
not64 x = 2 ^ 64 - 1 - x

-- the number of 64 bits that stands for an integer, in two's complement
unfoldable pub unsigned64 : ℤ → ℕ
unsigned64 (pos n) = wrap n
unsigned64 (negsuc n) = wrap (2 ^ 64 - 1 - wrap n)

-- n times an integer, in two's complement
unfoldable pub scaled64 : ℕ → ℤ → ℕ
scaled64 n (pos k) = wrap (n * k)
scaled64 n (negsuc k) = sub64 0 (n * suc k)

-- the top bit
abbrev pub is_negative64 : ℕ → Bool
is_negative64 x = nat_le (2 ^ 63) x

-- a quotient cut towards zero; by zero it is 0
unfoldable pub udiv64 : ℕ → ℕ → ℕ
udiv64 x y = if y == 0 then 0 else x / y

-- the same of the integers that the numbers stand for; the smallest one divided by -1 is itself
unfoldable pub sdiv64 : ℕ → ℕ → ℕ
sdiv64 x y = if y == 0 then 0 else cast_unsigned w64 (int_div (cast_signed w64 x) (cast_signed w64 y))

-- shifts by an amount that counts modulo 64
unfoldable pub lsl64 : ℕ → ℕ → ℕ
lsl64 x amount = wrap (x * 2 ^ (amount % 64))

unfoldable pub lsr64 : ℕ → ℕ → ℕ
lsr64 x amount = x / 2 ^ (amount % 64)

-- the vacated bits are copies of the top one
unfoldable pub asr64 : ℕ → ℕ → ℕ
asr64 x amount = if is_negative64 x then not64 (not64 x / 2 ^ (amount % 64)) else x / 2 ^ (amount % 64)

-- one 16-bit part of a number replaced
unfoldable pub with_part : ℕ → ℕ → ℕ → ℕ
with_part x at part = with_field (16 * at) 16 x part
