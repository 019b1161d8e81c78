-- Numbers that are read digit by digit.
use Rattle.std.proofs.Common.{◌≡◌, ℕ, ◌+◌, ◌*◌, ◌^◌, ◌≤◌, List, [], ◌∷◌, Some, None, arith}
use Rattle.std.specs.Str.Parse.{digits_value_after}
use Rattle.std.specs.Char.{digit_value}
use Rattle.std.proofs.lemmas.Bool.Decides.{nat_tests}
use Rattle.std.proofs.Math.Nat.{mul-le-mul_left}
use Rattle.pa_lex.specs.Reading.{within_u64}

after_at_least : (radix n : ℕ) (cs : List ℕ) → 1 ≤ radix → n ≤ digits_value_after radix n cs
after_at_least radix n [] h = omega arith
after_at_least radix n (c ∷ cs) h =
    let more = after_at_least radix (n * radix + digit_value c) cs h in
    omega (arith, more, mul-le-mul_left n h)

large : (n : ℕ) → within_u64 n ≡ None → 2 ^ 64 ≤ n
large n e = grind (arith, nat_tests)

no_room : (n : ℕ) → 2 ^ 64 ≤ n → within_u64 n ≡ None
no_room n h = grind (arith, nat_tests)

pub stays_large : (radix n : ℕ) (cs : List ℕ) → 1 ≤ radix → within_u64 n ≡ None → within_u64 (digits_value_after radix n cs) ≡ None
stays_large radix n cs h e = let a = after_at_least radix n cs h in let b = large n e in no_room (digits_value_after radix n cs) (omega arith)

pub within_is : (n m : ℕ) → within_u64 n ≡ Some m → within_u64 m ≡ Some m
within_is n m e = grind (arith, nat_tests)
