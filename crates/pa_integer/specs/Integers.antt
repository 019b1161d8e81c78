-- Numbers of the integer types (C11 6.2.6.2, two's complement), their conversions (6.3.1.3) and their arithmetic (6.5). A type is
-- given by its bits and by whether it is signed. None: the behaviour is undefined.
use Rattle.std.specs.Prelude.{ℕ, zero, ◌-◌, ◌*◌, ◌%◌, ◌^◌, ℤ, pos, negsuc, ◌+ℤ◌, ◌-ℤ◌, ◌*ℤ◌, neg_ℤ, int_lt, int_le, int_div, int_rem, bit_and, bit_or, bit_xor, Bool, true, false, not, ◌||◌, ◌==◌, nat_lt, if◌then◌else◌, Option, Some, None}
use Rattle.std.specs.Int.{int_shr}
use Rattle.std.specs.Option.{option_map, option_and_then}
use Rattle.pa_typed.specs.declared.expr.BinaryOperation.{BinaryOperation}
use Rattle.pa_typed.specs.declared.expr.BinaryOperation.TheVariants.{Multiply, Divide, Remainder, Add, Subtract, ShiftLeft, ShiftRight, And, Xor, Or}
use Rattle.pa_typed.specs.declared.expr.Comparison.{Comparison}
use Rattle.pa_typed.specs.declared.expr.Comparison.TheVariants.{Less, Greater, LessEqual, GreaterEqual, Equal, NotEqual}

abbrev pub is_zero : ℤ → Bool
is_zero (pos zero) = true
is_zero _ = false

abbrev pub same_int : ℤ → ℤ → Bool
same_int (pos a) (pos b) = a == b
same_int (negsuc a) (negsuc b) = a == b
same_int _ _ = false

-- the widths of C's integer types
abbrev pub is_width : ℕ → Bool
is_width bits = (bits == 8 || bits == 16) || (bits == 32 || bits == 64)

-- the type has the number; `negsuc n` is -(n + 1)
abbrev pub is_in_range : ℕ → Bool → ℤ → Bool
is_in_range bits false (pos n) = nat_lt n (2 ^ bits)
is_in_range bits false (negsuc n) = false
is_in_range bits true (pos n) = nat_lt n (2 ^ (bits - 1))
is_in_range bits true (negsuc n) = nat_lt n (2 ^ (bits - 1))

-- the number modulo 2^bits: its bits in two's complement
abbrev pub residue : ℕ → ℤ → ℕ
residue bits (pos n) = n % 2 ^ bits
residue bits (negsuc n) = 2 ^ bits - 1 - n % 2 ^ bits

-- the number of the type whose bits these are
abbrev pub of_bits : ℕ → Bool → ℕ → ℤ
of_bits bits false n = pos n
of_bits bits true n = if nat_lt n (2 ^ (bits - 1)) then pos n else negsuc (2 ^ bits - 1 - n)

-- conversion to an integer type other than `_Bool` (6.3.1.3): modulo 2^bits, also where the type is signed
abbrev pub wrapped : ℕ → Bool → ℤ → ℤ
wrapped bits signed z = of_bits bits signed (residue bits z)

-- the result of an operator in its type (6.2.5p9, 6.5p5): unsigned ones wrap, signed ones have to fit
abbrev pub settled : ℕ → Bool → ℤ → Option ℤ
settled bits false z = Some (wrapped bits false z)
settled bits true z = if is_in_range bits true z then Some z else None

-- 6.5.5p5 and p6: quotients are cut towards zero; where one doesn't fit, its remainder is undefined too
abbrev pub quotient : ℕ → Bool → ℤ → ℤ → Option ℤ
quotient bits signed a b = if is_zero b then None else settled bits signed (int_div a b)

abbrev pub remainder : ℕ → Bool → ℤ → ℤ → Option ℤ
remainder bits signed a b = option_map (λ q. int_rem a b) (quotient bits signed a b)

-- 6.5.7p3: an amount of bits that is not negative and below the width
abbrev pub amount : ℕ → ℤ → Option ℕ
amount bits (pos n) = if nat_lt n bits then Some n else None
amount bits (negsuc n) = None

-- 6.5.7p4: a negative number may not be shifted to the left, and a signed result has to fit
abbrev pub shifted_left : ℕ → Bool → ℤ → ℕ → Option ℤ
shifted_left bits signed (pos a) n = settled bits signed (pos (a * 2 ^ n))
shifted_left bits signed (negsuc a) n = None

-- 6.5.7p5: that of a negative number is rounded down
abbrev pub shifted_right : ℤ → ℕ → Option ℤ
shifted_right a n = Some (int_shr a n)

-- 6.5.10 to 6.5.12: bit by bit
abbrev pub bitwise : (ℕ → ℕ → ℕ) → ℕ → Bool → ℤ → ℤ → Option ℤ
bitwise op bits signed a b = Some (of_bits bits signed (op (residue bits a) (residue bits b)))

-- `a op b` in a type that both have, or for a shift the left one (6.5.5 to 6.5.7, 6.5.10 to 6.5.12)
abbrev pub arithmetic : BinaryOperation → ℕ → Bool → ℤ → ℤ → Option ℤ
arithmetic Multiply bits signed a b = settled bits signed (a *ℤ b)
arithmetic Divide bits signed a b = quotient bits signed a b
arithmetic Remainder bits signed a b = remainder bits signed a b
arithmetic Add bits signed a b = settled bits signed (a +ℤ b)
arithmetic Subtract bits signed a b = settled bits signed (a -ℤ b)
arithmetic ShiftLeft bits signed a b = option_and_then (shifted_left bits signed a) (amount bits b)
arithmetic ShiftRight bits signed a b = option_and_then (shifted_right a) (amount bits b)
arithmetic And bits signed a b = bitwise bit_and bits signed a b
arithmetic Xor bits signed a b = bitwise bit_xor bits signed a b
arithmetic Or bits signed a b = bitwise bit_or bits signed a b

-- the right operand is of the same type; that of a shift has one of its own (6.5.7p3)
abbrev pub is_right_operand : BinaryOperation → ℕ → Bool → ℤ → Bool
is_right_operand ShiftLeft bits signed b = true
is_right_operand ShiftRight bits signed b = true
is_right_operand op bits signed b = is_in_range bits signed b

-- `-a` and `~a` (6.5.3.3)
abbrev pub negated : ℕ → Bool → ℤ → Option ℤ
negated bits signed a = settled bits signed (neg_ℤ a)

abbrev pub complemented : ℕ → Bool → ℤ → Option ℤ
complemented bits signed a = Some (of_bits bits signed (2 ^ bits - 1 - residue bits a))

-- 6.5.8, 6.5.9
abbrev pub compares : Comparison → ℤ → ℤ → Bool
compares Less a b = int_lt a b
compares Greater a b = int_lt b a
compares LessEqual a b = int_le a b
compares GreaterEqual a b = int_le b a
compares Equal a b = same_int a b
compares NotEqual a b = not (same_int a b)
