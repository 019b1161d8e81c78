-- Numbers that are read digit by digit.
use Rattle.std.proofs.Common.{◌≡◌, ℕ, ◌+◌, ◌*◌, ◌^◌, ◌<◌, ◌≤◌, true, List, [], ◌∷◌, length, take, get_or, arith}
use Rattle.std.specs.List.{list_all}
use Rattle.std.specs.Char.{digit_value}
use Rattle.std.specs.Str.Parse.{AllDigits, digits_value}
use Rattle.std.proofs.Math.Nat.{pow-le-pow_right}
use Rattle.std.proofs.lemmas.Bool.{and_parts, ltb-true}
use Rattle.std.proofs.lemmas.Int.Digits.{digits_value-lt, digits_value_more}
use Rattle.std.proofs.lemmas.Str.Parse.{digits_value-take-le}
use Rattle.pa_script.specs.Items.{is_digit}

all_digits : (radix : ℕ) (digits : List ℕ) → list_all (is_digit radix) digits ≡ true → AllDigits radix digits
all_digits radix [] h = tt
all_digits radix (c ∷ cs) h =
    let p = and_parts (is_digit radix c) (list_all (is_digit radix) cs) h in
    (ltb-true (digit_value c) radix p.0, all_digits radix cs p.1)

-- the number so far with one more digit has 64 bits
pub one_more : (radix most : ℕ) (digits : List ℕ) (i : ℕ) → 1 ≤ radix → radix ^ most ≤ 2 ^ 64 → length digits ≤ most → list_all (is_digit radix) digits ≡ true → i < length digits
    → digits_value radix (take i digits) * radix + digit_value (get_or digits i 0) < 2 ^ 64
one_more radix most digits i some fits short all h =
    let more = digits_value_more radix digits i h in
    let part = digits_value-take-le radix digits (i + 1) some in
    let whole = digits_value-lt radix digits (all_digits radix digits all) in
    let power : radix ^ length digits ≤ radix ^ most = pow-le-pow_right (omega arith) short in
    omega (arith, more, part, whole, power)
