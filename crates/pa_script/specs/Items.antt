-- What a line says.
use Rattle.std.specs.Prelude.{ℕ, ◌^◌, Bool, ◌==◌, ◌&&◌, nat_le, nat_lt, if◌then◌else◌, List, [], ◌∷◌, length, codes, Option, Some, None, option_and_then, option_map, Result, Ok, Err}
use Rattle.std.specs.List.{list_all}
use Rattle.std.specs.Char as char
use Rattle.std.specs.Str.{bytes_eq}
use Rattle.std.specs.Str.Parse.{digits_value}
use Rattle.hex.specs.Hex.{decode_of}
use Rattle.hex.specs.declared.error.FromHexError.{FromHexError}
use Rattle.pa_object.specs.declared.script.Deed.{Deed}
use Rattle.pa_object.specs.declared.script.Deed.TheVariants.{Write, Copy}
use Rattle.pa_object.specs.declared.script.Item.{Item}
use Rattle.pa_script.specs.Pieces.{Text, parts_of}

-- ---- numbers

abbrev pub is_digit : (radix : ℕ) → ℕ → Bool
is_digit radix byte = char.is_digit byte radix

-- the number of 1 to `most` digits of this radix, letters in either case
abbrev pub number : (radix most : ℕ) → Text → Option ℕ
number radix most digits =
    if nat_le 1 (length digits) && (nat_le (length digits) most && list_all (is_digit radix) digits) then Some (digits_value radix digits)
    else None

-- the number, where it passes a test
abbrev pub passing : (ℕ → Bool) → Option ℕ → Option ℕ
passing test None = None
passing test (Some n) = if test n then Some n else None

-- 1 to 10 decimal digits, up to the largest number of 32 bits
abbrev pub step : Text → Option ℕ
step digits = passing (λ n. nat_lt n (2 ^ 32)) (number 10 10 digits)

-- `0x` and 1 to 16 hexadecimal digits
abbrev pub address : Text → Option ℕ
address (zero_digit ∷ x ∷ digits) = if (zero_digit == 48) && (x == 120) then number 16 16 digits else None
address _ = None

-- how many bytes an item may write
abbrev pub is_size : ℕ → Bool
is_size n = nat_le 1 n && nat_le n 4096

-- 1 to 4,096 in decimal, without a leading zero
abbrev pub count : Text → Option ℕ
count [] = None
count (digit ∷ digits) = if digit == 48 then None else passing is_size (number 10 4 (digit ∷ digits))

-- ---- bytes

abbrev pub some_of : Result (List ℕ) FromHexError → Option (List ℕ)
some_of (Ok bytes) = Some bytes
some_of (Err e) = None

abbrev pub where_fit : List ℕ → Option (List ℕ)
where_fit bytes = if is_size (length bytes) then Some bytes else None

-- 1 to 4,096 bytes, each as two hexadecimal digits
abbrev pub bytes : Text → Option (List ℕ)
bytes digits = option_and_then where_fit (some_of (decode_of digits))

-- ---- items

-- ADDRESS BYTES
abbrev pub write : List Text → Option Deed
write (at ∷ digits ∷ []) = option_and_then (λ place. option_map (λ put. Write place put) (bytes digits)) (address at)
write _ = None

-- TO FROM COUNT
abbrev pub copy : List Text → Option Deed
copy (to ∷ from ∷ some ∷ []) =
    option_and_then (λ target. option_and_then (λ source. option_map (λ n. Copy target source n) (count some)) (address from)) (address to)
copy _ = None

-- the word of a deed, and its parts
abbrev pub deed : Text → List Text → Option Deed
deed word parts =
    if bytes_eq word (codes "write") then write parts else (if bytes_eq word (codes "copy") then copy parts else None)

-- STEP, and a deed
abbrev pub item_of_parts : List Text → Option Item
item_of_parts (number ∷ word ∷ parts) =
    option_and_then (λ n. option_map (λ d. record { step = n; deed = d }) (deed word parts)) (step number)
item_of_parts _ = None

-- what a line says, if it has the form
abbrev pub item_of : Text → Option Item
item_of line = item_of_parts (parts_of line)
