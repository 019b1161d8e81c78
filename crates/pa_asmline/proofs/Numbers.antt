-- Numbers that are read digit by digit.
use Rattle.std.proofs.Common.{◌≡◌, ℕ, ◌+◌, ◌*◌, ◌^◌, ◌≤◌, List, [], ◌∷◌, Some, None, arith}
use Rattle.std.specs.Str.Parse.{digits_value_after}
use Rattle.std.specs.Char.{digit_value}
use Rattle.std.proofs.lemmas.Bool.Decides.{nat_tests}
use Rattle.pa_asmline.specs.Reading.{within_u32}

after_at_least : (n : ℕ) (cs : List ℕ) → n ≤ digits_value_after 10 n cs
after_at_least n [] = omega arith
after_at_least n (c ∷ cs) =
    let more = after_at_least (n * 10 + digit_value c) cs in
    omega (arith, more)

large : (n : ℕ) → within_u32 n ≡ None → 2 ^ 32 ≤ n
large n e = grind (arith, nat_tests)

no_room : (n : ℕ) → 2 ^ 32 ≤ n → within_u32 n ≡ None
no_room n h = grind (arith, nat_tests)

pub stays_large : (n : ℕ) (cs : List ℕ) → within_u32 n ≡ None → within_u32 (digits_value_after 10 n cs) ≡ None
stays_large n cs e = let a = after_at_least n cs in let b = large n e in no_room (digits_value_after 10 n cs) (omega arith)

pub within_is : (n m : ℕ) → within_u32 n ≡ Some m → within_u32 m ≡ Some m
within_is n m e = grind (arith, nat_tests)
