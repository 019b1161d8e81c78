-- What the operators of flat code give (C11 6.5.5 to 6.5.14); none where it is undefined.
use Rattle.std.specs.Prelude.{ℕ, ◌^◌, Bool, true, false, not, ◌&&◌, ◌==◌, nat_le, nat_lt, if◌then◌else◌, length, slice_get, Option, Some, None, option_map, bit_and, bit_or, bit_xor}
use Rattle.std.specs.Str.{bytes_eq}
use Rattle.pa_num.specs.Arithmetic.{add64, sub64, mul64, not64, udiv64, sdiv64, lsl64, lsr64, asr64}
use Rattle.pa_lir.specs.declared.op.BinOp.{BinOp}
use Rattle.pa_lir.specs.declared.op.BinOp.TheVariants.{Add, Sub, Mul, SDiv, UDiv, SRem, URem, And, Or, Xor, Shl, Lsr, Asr, Eq, Ne, SLt, SLe, ULt, ULe}
use Rattle.pa_lir.specs.declared.op.UnOp.{UnOp}
use Rattle.pa_lir.specs.declared.op.UnOp.TheVariants.{Neg, Not}
use Rattle.pa_lir.specs.Values.{FlatValue, Number, At, Code, Object, Objects, same_schema}

-- ---- numbers

abbrev pub truth : Bool → ℕ
truth true = 1
truth false = 0

-- a number of 64 bits moved so that the order of signed numbers is that of these
abbrev pub biased : ℕ → ℕ
biased x = add64 x (2 ^ 63)

abbrev pub unless_zero : ℕ → ℕ → Option ℕ
unless_zero divisor x = if divisor == 0 then None else Some x

-- what is left of a number when so many times the divisor are taken away
abbrev pub remainder : (quotient x y : ℕ) → ℕ
remainder quotient x y = sub64 x (mul64 quotient y)

abbrev pub of_numbers : BinOp → ℕ → ℕ → Option ℕ
of_numbers Add x y = Some (add64 x y)
of_numbers Sub x y = Some (sub64 x y)
of_numbers Mul x y = Some (mul64 x y)
of_numbers SDiv x y = unless_zero y (sdiv64 x y)
of_numbers UDiv x y = unless_zero y (udiv64 x y)
of_numbers SRem x y = unless_zero y (remainder (sdiv64 x y) x y)
of_numbers URem x y = unless_zero y (remainder (udiv64 x y) x y)
of_numbers And x y = Some (bit_and x y)
of_numbers Or x y = Some (bit_or x y)
of_numbers Xor x y = Some (bit_xor x y)
of_numbers Shl x y = Some (lsl64 x y)
of_numbers Lsr x y = Some (lsr64 x y)
of_numbers Asr x y = Some (asr64 x y)
of_numbers Eq x y = Some (truth (x == y))
of_numbers Ne x y = Some (truth (not (x == y)))
of_numbers SLt x y = Some (truth (nat_lt (biased x) (biased y)))
of_numbers SLe x y = Some (truth (nat_le (biased x) (biased y)))
of_numbers ULt x y = Some (truth (nat_lt x y))
of_numbers ULe x y = Some (truth (nat_le x y))

abbrev pub of_number : UnOp → ℕ → ℕ
of_number Neg x = sub64 0 x
of_number Not x = not64 x

-- ---- places

abbrev pub place_if : ℕ → ℕ → Option Object → Option FlatValue
place_if o offset None = None
place_if o offset (Some object) = if nat_le offset (length object.bytes) then Some (At o offset) else None

-- a place in its object or at the object's end; the object may be dead
abbrev pub place_in : Objects → ℕ → ℕ → Option FlatValue
place_in objects o offset = place_if o offset (slice_get objects o)

-- a living object has the byte at that offset
abbrev pub has_byte : Option Object → ℕ → Bool
has_byte None offset = false
has_byte (Some object) offset = object.alive && nat_lt offset (length object.bytes)

-- that offset is the end of a living object that has bytes
abbrev pub is_end : Option Object → ℕ → Bool
is_end None offset = false
is_end (Some object) offset = object.alive && (nat_lt 0 (length object.bytes) && offset == length object.bytes)

-- Places in two objects differ where both are at bytes of living ones, or both at the ends of living ones that have bytes. Else
-- it is undefined whether they are equal.
abbrev pub apart : Objects → ℕ → ℕ → ℕ → ℕ → Bool
apart objects o i p j =
    if has_byte (slice_get objects o) i then has_byte (slice_get objects p) j
    else is_end (slice_get objects o) i && is_end (slice_get objects p) j

-- whether places are equal
abbrev pub equal_places : Objects → ℕ → ℕ → ℕ → ℕ → Option Bool
equal_places objects o i p j = if o == p then Some (i == j) else (if apart objects o i p j then Some false else None)

-- whether values are equal; a place or a function is never null, and functions are compared under one schema
abbrev pub equal : Objects → FlatValue → FlatValue → Option Bool
equal objects (Number x) (Number y) = Some (x == y)
equal objects (Number x) (At p j) = if x == 0 then Some false else None
equal objects (Number x) (Code g t) = if x == 0 then Some false else None
equal objects (At o i) (Number y) = if y == 0 then Some false else None
equal objects (At o i) (At p j) = equal_places objects o i p j
equal objects (At o i) (Code g t) = None
equal objects (Code f s) (Number y) = if y == 0 then Some false else None
equal objects (Code f s) (At p j) = None
equal objects (Code f s) (Code g t) = if same_schema s t then Some (bytes_eq f g) else None

abbrev pub as_truth : Option Bool → Option FlatValue
as_truth b = option_map (λ b. Number (truth b)) b

abbrev pub as_number : Option ℕ → Option FlatValue
as_number n = option_map Number n

-- of two places in one object, or none
abbrev pub in_one : ℕ → ℕ → ℕ → Option FlatValue
in_one o p x = if o == p then Some (Number x) else None

-- of a place in an object and a number, in this order
abbrev pub of_place_and_number : Objects → BinOp → ℕ → ℕ → ℕ → Option FlatValue
of_place_and_number objects Add o i y = place_in objects o (add64 i y)
of_place_and_number objects Sub o i y = place_in objects o (sub64 i y)
of_place_and_number objects Eq o i y = as_truth (equal objects (At o i) (Number y))
of_place_and_number objects Ne o i y = as_truth (option_map not (equal objects (At o i) (Number y)))
of_place_and_number objects _ o i y = None

abbrev pub of_number_and_place : Objects → BinOp → ℕ → ℕ → ℕ → Option FlatValue
of_number_and_place objects Add x p j = place_in objects p (add64 j x)
of_number_and_place objects Eq x p j = as_truth (equal objects (Number x) (At p j))
of_number_and_place objects Ne x p j = as_truth (option_map not (equal objects (Number x) (At p j)))
of_number_and_place objects _ x p j = None

abbrev pub of_places : Objects → BinOp → ℕ → ℕ → ℕ → ℕ → Option FlatValue
of_places objects Sub o i p j = in_one o p (sub64 i j)
of_places objects Eq o i p j = as_truth (equal_places objects o i p j)
of_places objects Ne o i p j = as_truth (option_map not (equal_places objects o i p j))
of_places objects ULt o i p j = in_one o p (truth (nat_lt i j))
of_places objects ULe o i p j = in_one o p (truth (nat_le i j))
of_places objects _ o i p j = None

abbrev pub of_others : Objects → BinOp → FlatValue → FlatValue → Option FlatValue
of_others objects Eq u v = as_truth (equal objects u v)
of_others objects Ne u v = as_truth (option_map not (equal objects u v))
of_others objects _ u v = None

abbrev pub binary : Objects → BinOp → FlatValue → FlatValue → Option FlatValue
binary objects o (Number x) (Number y) = as_number (of_numbers o x y)
binary objects o (Number x) (At p j) = of_number_and_place objects o x p j
binary objects o (At p i) (Number y) = of_place_and_number objects o p i y
binary objects o (At p i) (At q j) = of_places objects o p i q j
binary objects o u v = of_others objects o u v

abbrev pub unary : UnOp → FlatValue → Option FlatValue
unary o (Number x) = Some (Number (of_number o x))
unary o _ = None
