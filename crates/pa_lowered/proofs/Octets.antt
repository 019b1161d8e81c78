-- The bytes that hold a number of a type (C11 6.2.6.1).
use Rattle.std.proofs.Common.{◌≡◌, ℕ, zero, suc, ◌+◌, ◌*◌, ◌/◌, ◌%◌, ◌^◌, ◌<◌, ℤ, pos, negsuc, Bool, true, false, IsTrue, length, Some, refl, ap, ◌∙◌, arith}
use Rattle.std.proofs.lemmas.Bool.Decides.{nat_tests}
use Rattle.std.proofs.Math.Arith.{mod-mul}
use Rattle.std.proofs.Math.Nat.{pow-suc}
use Rattle.pa_ctype.specs.Types.{TypeTree, Of, Void, Boolean, Integer, Pointer, Array, Struct, Function}
use Rattle.pa_integer.specs.Integers.{is_width, is_in_range, residue}
use Rattle.pa_lir.specs.Values.{Number, Octet, octets, octet_before, number_in, extended, value_or, value_in}
use Rattle.pa_lower.specs.Operations.{bytes_of, is_signed}
use Rattle.pa_lowered.specs.Objects.{IsOf}
use Rattle.pa_lowered.proofs.Numbers.{by_width, both_parts}

pub length-octets : (n x : ℕ) → length (octets n x) ≡ n
unfolding octets
length-octets zero x = refl
length-octets (suc n) x = ap suc (length-octets n (x / 256))

positive : (n : ℕ) → zero < 256 ^ n
positive zero = omega arith
positive (suc n) = let p = positive n in let e = pow-suc 256 n in omega arith

-- the number modulo the range of so many bytes
number_octets : (n x : ℕ) → number_in (octets n x) ≡ Some (x % 256 ^ n)
unfolding octets number_in
number_octets zero x = ap (λ y. Some y) (omega arith)
number_octets (suc n) x =
    let low : x % (256 ^ n * 256) ≡ (x / 256 % 256 ^ n) * 256 + x % 256 = mod-mul x (positive n) (omega arith) in
    let power : x % 256 ^ suc n ≡ x % (256 ^ n * 256) = ap (λ p. x % p) (pow-suc 256 n) in
    ap (octet_before (Octet (x % 256))) (number_octets n (x / 256)) ∙ ap (λ y. Some y) (omega arith)

abbrev Holds : ℕ → Type 0
Holds bits = (signed : Bool) (z : ℤ) → IsTrue (is_in_range bits signed z) → extended (8 * (bits / 8)) signed (residue 64 z % 256 ^ (bits / 8)) ≡ residue 64 z

holds : (bits : ℕ) → IsTrue (is_width bits) → Holds bits
holds bits w = by_width Holds at_8 at_16 at_32 at_64 bits w
  where
    at_8 : Holds 8
    at_8 false (pos n) h = grind (arith, nat_tests)
    at_8 false (negsuc n) h = cc
    at_8 true (pos n) h = grind (arith, nat_tests)
    at_8 true (negsuc n) h = grind (arith, nat_tests)

    at_16 : Holds 16
    at_16 false (pos n) h = grind (arith, nat_tests)
    at_16 false (negsuc n) h = cc
    at_16 true (pos n) h = grind (arith, nat_tests)
    at_16 true (negsuc n) h = grind (arith, nat_tests)

    at_32 : Holds 32
    at_32 false (pos n) h = grind (arith, nat_tests)
    at_32 false (negsuc n) h = cc
    at_32 true (pos n) h = grind (arith, nat_tests)
    at_32 true (negsuc n) h = grind (arith, nat_tests)

    at_64 : Holds 64
    at_64 false (pos n) h = grind (arith, nat_tests)
    at_64 false (negsuc n) h = cc
    at_64 true (pos n) h = grind (arith, nat_tests)
    at_64 true (negsuc n) h = grind (arith, nat_tests)

-- what is stored of a number of the type is read again
pub octets_hold : (of : TypeTree) (z : ℤ) → IsOf of z → value_in (is_signed of) (octets (bytes_of of) (residue 64 z)) ≡ Some (Number (residue 64 z))
octets_hold of z h =
    ap (λ o. value_or o (is_signed of) (octets (bytes_of of) (residue 64 z))) (number_octets (bytes_of of) (residue 64 z))
    ∙ ap (λ n. Some (Number (extended (8 * n) (is_signed of) (residue 64 z % 256 ^ bytes_of of)))) (length-octets (bytes_of of) (residue 64 z))
    ∙ ap (λ x. Some (Number x)) (by_form of h)
  where
    by_form : (of : TypeTree) → IsOf of z → extended (8 * bytes_of of) (is_signed of) (residue 64 z % 256 ^ bytes_of of) ≡ residue 64 z
    by_form (Of k Boolean) h = bit z h
      where
        bit : (z : ℤ) → IsOf (Of k Boolean) z → extended (8 * 1) false (residue 64 z % 256 ^ 1) ≡ residue 64 z
        bit (pos zero) h = refl
        bit (pos (suc zero)) h = refl
        bit (pos (suc (suc n))) h = absurd (grind (arith, nat_tests))
        bit (negsuc n) h = cc
    by_form (Of k (Integer bits signed)) h = let parts = both_parts (is_width bits) (is_in_range bits signed z) h in holds bits parts.0 signed z parts.1
    by_form (Of k Void) h = absurd h
    by_form (Of k (Pointer to schema)) h = absurd h
    by_form (Of k (Array of count)) h = absurd h
    by_form (Of k (Struct id)) h = absurd h
    by_form (Of k (Function params result)) h = absurd h
