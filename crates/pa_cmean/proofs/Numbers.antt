-- Numbers at the limits of their types, by hand.
use Rattle.std.proofs.Common.{◌≡◌, ℕ, ◌-◌, ◌^◌, true, false, [], Option, Some, None, refl}
use Rattle.std.specs.Prelude.{ℤ, pos, negsuc}
use Rattle.pa_typed.specs.declared.expr.BinaryOperation.{BinaryOperation}
use Rattle.pa_typed.specs.declared.expr.BinaryOperation.TheVariants.{Multiply, Divide, Remainder, Add, Subtract, ShiftLeft, ShiftRight, And, Xor, Or}
use Rattle.pa_typed.specs.declared.expr.Comparison.TheVariants.{Less, Equal}
use Rattle.pa_ctype.specs.Types.{Of, Void, Boolean, Integer, Pointer}
use Rattle.pa_ctype.specs.Values.{Number, Code, Null}
use Rattle.pa_integer.specs.Integers.{wrapped, arithmetic, negated, complemented, compares}
use Rattle.pa_cmean.specs.Operations.{converted, literal}

-- the number -n
abbrev minus : ℕ → ℤ
minus n = negsuc (n - 1)

abbrev int : BinaryOperation → ℤ → ℤ → Option ℤ
int op a b = arithmetic op 32 true a b

abbrev unsigned : BinaryOperation → ℤ → ℤ → Option ℤ
unsigned op a b = arithmetic op 32 false a b

abbrev long : BinaryOperation → ℤ → ℤ → Option ℤ
long op a b = arithmetic op 64 true a b

-- signed overflow
sum_fits : int Add (pos 2147483646) (pos 1) ≡ Some (pos 2147483647)
sum_fits = refl

sum_overflows : int Add (pos 2147483647) (pos 1) ≡ None
sum_overflows = refl

difference_fits : int Subtract (minus 2147483647) (pos 1) ≡ Some (minus 2147483648)
difference_fits = refl

difference_overflows : int Subtract (minus 2147483648) (pos 1) ≡ None
difference_overflows = refl

product_fits : int Multiply (minus 65536) (pos 32768) ≡ Some (minus 2147483648)
product_fits = refl

product_overflows : int Multiply (pos 65536) (pos 32768) ≡ None
product_overflows = refl

long_sum_overflows : long Add (pos 9223372036854775807) (pos 1) ≡ None
long_sum_overflows = refl

negation_overflows : negated 32 true (minus 2147483648) ≡ None
negation_overflows = refl

-- unsigned numbers wrap
unsigned_sum : unsigned Add (pos 4294967295) (pos 1) ≡ Some (pos 0)
unsigned_sum = refl

unsigned_difference : unsigned Subtract (pos 0) (pos 1) ≡ Some (pos 4294967295)
unsigned_difference = refl

unsigned_product : unsigned Multiply (pos 4294967295) (pos 4294967295) ≡ Some (pos 1)
unsigned_product = refl

unsigned_negation : negated 32 false (pos 1) ≡ Some (pos 4294967295)
unsigned_negation = refl

-- quotients are cut towards zero, remainders have the sign of the dividend
quotient : int Divide (minus 7) (pos 2) ≡ Some (minus 3)
quotient = refl

remainder : int Remainder (minus 7) (pos 2) ≡ Some (minus 1)
remainder = refl

zero_divisor : int Divide (pos 1) (pos 0) ≡ None
zero_divisor = refl

zero_divisor_of_remainder : unsigned Remainder (pos 1) (pos 0) ≡ None
zero_divisor_of_remainder = refl

smallest_quotient : int Divide (minus 2147483648) (minus 1) ≡ None
smallest_quotient = refl

smallest_remainder : int Remainder (minus 2147483648) (minus 1) ≡ None
smallest_remainder = refl

-- shifts
left_shift : int ShiftLeft (pos 1) (pos 30) ≡ Some (pos 1073741824)
left_shift = refl

left_shift_out_of_range : int ShiftLeft (pos 1) (pos 31) ≡ None
left_shift_out_of_range = refl

left_shift_of_negative : int ShiftLeft (minus 1) (pos 1) ≡ None
left_shift_of_negative = refl

unsigned_left_shift : unsigned ShiftLeft (pos 3) (pos 31) ≡ Some (pos 2147483648)
unsigned_left_shift = refl

shift_by_width : unsigned ShiftLeft (pos 1) (pos 32) ≡ None
shift_by_width = refl

shift_by_negative : int ShiftRight (pos 1) (minus 1) ≡ None
shift_by_negative = refl

right_shift_of_negative : int ShiftRight (minus 7) (pos 1) ≡ Some (minus 4)
right_shift_of_negative = refl

-- bits
bits_and : int And (minus 1) (pos 170) ≡ Some (pos 170)
bits_and = refl

bits_xor : int Xor (minus 1) (pos 1) ≡ Some (minus 2)
bits_xor = refl

bits_or : unsigned Or (pos 12) (pos 3) ≡ Some (pos 15)
bits_or = refl

complement : complemented 32 true (pos 0) ≡ Some (minus 1)
complement = refl

unsigned_complement : complemented 32 false (pos 0) ≡ Some (pos 4294967295)
unsigned_complement = refl

-- conversions
narrowed : wrapped 8 true (pos 200) ≡ minus 56
narrowed = refl

narrowed_unsigned : wrapped 8 false (minus 1) ≡ pos 255
narrowed_unsigned = refl

widened : wrapped 64 false (minus 1) ≡ pos 18446744073709551615
widened = refl

truth_of_number : converted (Of false Boolean) (Number (pos 256)) ≡ Some (Number (pos 1))
truth_of_number = refl

truth_of_function : converted (Of false Boolean) (Code []) ≡ Some (Number (pos 1))
truth_of_function = refl

truth_of_null : converted (Of false Boolean) Null ≡ Some (Number (pos 0))
truth_of_null = refl

null : converted (Of false (Pointer (Of false Void) None)) (Number (pos 0)) ≡ Some Null
null = refl

-- -1 as 64 bits in an `int` and in an `unsigned long`
negative_literal : literal (Of false (Integer 32 true)) (2 ^ 64 - 1) ≡ Some (Number (minus 1))
negative_literal = refl

unsigned_literal : literal (Of false (Integer 64 false)) (2 ^ 64 - 1) ≡ Some (Number (pos 18446744073709551615))
unsigned_literal = refl

-- comparison
less : compares Less (minus 1) (pos 0) ≡ true
less = refl

unequal : compares Equal (minus 1) (pos 0) ≡ false
unequal = refl
