-- The 64 bits of a number of a type, and what extends, negates or tests them.
use Rattle.std.proofs.Common.{◌≡◌, ℕ, zero, suc, ◌^◌, ◌-◌, ℤ, pos, negsuc, neg_ℤ, Bool, true, false, IsTrue, refl, sym, ap, subst, ◌∙◌, arith, Some, None}
use Rattle.pa_integer.proofs.Ranges.{number_bound}
use Rattle.std.specs.Prelude.{◌==◌, ◌&&◌, if◌then◌else◌}
use Rattle.std.proofs.lemmas.Bool.Decides.{nat_tests}
use Rattle.pa_ctype.specs.Types.{TypeTree, Of, Void, Boolean, Integer, Pointer, Array, Struct, Function}
use Rattle.pa_ctype.specs.Values.{Number}
use Rattle.pa_integer.specs.Integers.{is_width, is_in_range, residue, wrapped, is_zero}
use Rattle.pa_num.specs.Arithmetic.{sub64, not64, wrap}
use Rattle.pa_cmean.specs.Operations.{literal}
use Rattle.pa_lir.specs.Values.{extended}
use Rattle.pa_lowered.specs.Objects.{IsOf}

-- what holds at each width
pub by_width : (P : ℕ → Type 0) → P 8 → P 16 → P 32 → P 64 → (bits : ℕ) → IsTrue (is_width bits) → P bits
by_width P a b c d bits w = at_8 (bits == 8) refl
  where
    at_64 : (t : Bool) → (bits == 64) ≡ t → (bits == 32) ≡ false → (bits == 16) ≡ false → (bits == 8) ≡ false → P bits
    at_64 true e f g h = subst P (sym (grind (arith, nat_tests))) d
    at_64 false e f g h = absurd (grind (arith, nat_tests))

    at_32 : (t : Bool) → (bits == 32) ≡ t → (bits == 16) ≡ false → (bits == 8) ≡ false → P bits
    at_32 true e f g = subst P (sym (grind (arith, nat_tests))) c
    at_32 false e f g = at_64 (bits == 64) refl e f g

    at_16 : (t : Bool) → (bits == 16) ≡ t → (bits == 8) ≡ false → P bits
    at_16 true e f = subst P (sym (grind (arith, nat_tests))) b
    at_16 false e f = at_32 (bits == 32) refl e f

    at_8 : (t : Bool) → (bits == 8) ≡ t → P bits
    at_8 true e = subst P (sym (grind (arith, nat_tests))) a
    at_8 false e = at_16 (bits == 16) refl e

-- ---- a number is what its bits stand for

abbrev Returns : ℕ → Type 0
Returns bits = (signed : Bool) (z : ℤ) → IsTrue (is_in_range bits signed z) → wrapped bits signed (pos (residue 64 z)) ≡ z

returns : (bits : ℕ) → IsTrue (is_width bits) → Returns bits
returns bits w = by_width Returns at_8 at_16 at_32 at_64 bits w
  where
    at_8 : Returns 8
    at_8 false (pos n) h = ap pos (grind (arith, nat_tests))
    at_8 false (negsuc n) h = cc
    at_8 true (pos n) h = grind (arith, nat_tests)
    at_8 true (negsuc n) h = grind (arith, nat_tests)

    at_16 : Returns 16
    at_16 false (pos n) h = ap pos (grind (arith, nat_tests))
    at_16 false (negsuc n) h = cc
    at_16 true (pos n) h = grind (arith, nat_tests)
    at_16 true (negsuc n) h = grind (arith, nat_tests)

    at_32 : Returns 32
    at_32 false (pos n) h = ap pos (grind (arith, nat_tests))
    at_32 false (negsuc n) h = cc
    at_32 true (pos n) h = grind (arith, nat_tests)
    at_32 true (negsuc n) h = grind (arith, nat_tests)

    at_64 : Returns 64
    at_64 false (pos n) h = ap pos (grind (arith, nat_tests))
    at_64 false (negsuc n) h = cc
    at_64 true (pos n) h = grind (arith, nat_tests)
    at_64 true (negsuc n) h = grind (arith, nat_tests)

-- ---- conversion

abbrev Extends : ℕ → Type 0
Extends bits = (signed : Bool) (z : ℤ) → extended bits signed (residue 64 z) ≡ residue 64 (wrapped bits signed z)

pub extends_is : (bits : ℕ) → IsTrue (is_width bits) → Extends bits
extends_is bits w = by_width Extends at_8 at_16 at_32 at_64 bits w
  where
    at_8 : Extends 8
    at_8 false (pos n) = omega arith
    at_8 false (negsuc n) = omega arith
    at_8 true (pos n) = grind (arith, nat_tests)
    at_8 true (negsuc n) = grind (arith, nat_tests)

    at_16 : Extends 16
    at_16 false (pos n) = omega arith
    at_16 false (negsuc n) = omega arith
    at_16 true (pos n) = grind (arith, nat_tests)
    at_16 true (negsuc n) = grind (arith, nat_tests)

    at_32 : Extends 32
    at_32 false (pos n) = omega arith
    at_32 false (negsuc n) = omega arith
    at_32 true (pos n) = grind (arith, nat_tests)
    at_32 true (negsuc n) = grind (arith, nat_tests)

    at_64 : Extends 64
    at_64 false (pos n) = omega arith
    at_64 false (negsuc n) = omega arith
    at_64 true (pos n) = grind (arith, nat_tests)
    at_64 true (negsuc n) = grind (arith, nat_tests)

abbrev Fits : ℕ → Type 0
Fits bits = (signed : Bool) (z : ℤ) → IsTrue (is_in_range bits signed (wrapped bits signed z))

wrapped_fits : (bits : ℕ) → IsTrue (is_width bits) → Fits bits
wrapped_fits bits w = by_width Fits at_8 at_16 at_32 at_64 bits w
  where
    at_8 : Fits 8
    at_8 false (pos n) = grind (arith, nat_tests)
    at_8 false (negsuc n) = grind (arith, nat_tests)
    at_8 true (pos n) = grind (arith, nat_tests)
    at_8 true (negsuc n) = grind (arith, nat_tests)

    at_16 : Fits 16
    at_16 false (pos n) = grind (arith, nat_tests)
    at_16 false (negsuc n) = grind (arith, nat_tests)
    at_16 true (pos n) = grind (arith, nat_tests)
    at_16 true (negsuc n) = grind (arith, nat_tests)

    at_32 : Fits 32
    at_32 false (pos n) = grind (arith, nat_tests)
    at_32 false (negsuc n) = grind (arith, nat_tests)
    at_32 true (pos n) = grind (arith, nat_tests)
    at_32 true (negsuc n) = grind (arith, nat_tests)

    at_64 : Fits 64
    at_64 false (pos n) = grind (arith, nat_tests)
    at_64 false (negsuc n) = grind (arith, nat_tests)
    at_64 true (pos n) = grind (arith, nat_tests)
    at_64 true (negsuc n) = grind (arith, nat_tests)

-- ---- numbers of a type

pub both_parts : (a b : Bool) → IsTrue (a && b) → IsTrue a × IsTrue b
both_parts true b h = (refl, h)
both_parts false b h = cc

pub both_true : (a b : Bool) → IsTrue a → IsTrue b → IsTrue (a && b)
both_true true b h k = k
both_true false b h k = cc

pub width_of : (c signed : Bool) (bits : ℕ) (z : ℤ) → IsOf (Of c (Integer bits signed)) z → IsTrue (is_width bits)
width_of c signed bits z h = (both_parts (is_width bits) (is_in_range bits signed z) h).0

pub wrapped_is_of : (c signed : Bool) (bits : ℕ) (z : ℤ) → IsTrue (is_width bits) → IsOf (Of c (Integer bits signed)) (wrapped bits signed z)
wrapped_is_of c signed bits z w = both_true (is_width bits) (is_in_range bits signed (wrapped bits signed z)) w (wrapped_fits bits w signed z)

-- a constant, by the 64 bits of its number
pub literal_is : (of : TypeTree) (z : ℤ) → IsOf of z → literal of (residue 64 z) ≡ Some (Number z)
literal_is (Of c Void) z h = absurd h
literal_is (Of c Boolean) (pos zero) h = refl
literal_is (Of c Boolean) (pos (suc zero)) h = refl
literal_is (Of c Boolean) (pos (suc (suc n))) h = absurd (grind (arith, nat_tests))
literal_is (Of c Boolean) (negsuc n) h = cc
literal_is (Of c (Integer bits signed)) z h =
    let parts = both_parts (is_width bits) (is_in_range bits signed z) h in
    ap (λ b. if b then Some (Number (wrapped bits signed (pos (residue 64 z)))) else None) parts.0 ∙ ap (λ n. Some (Number n)) (returns bits parts.0 signed z parts.1)
literal_is (Of c (Pointer to schema)) z h = absurd h
literal_is (Of c (Array of count)) z h = absurd h
literal_is (Of c (Struct id)) z h = absurd h
literal_is (Of c (Function params result)) z h = absurd h

abbrev Zeros : ℕ → Type 0
Zeros bits = (signed : Bool) (z : ℤ) → IsTrue (is_in_range bits signed z) → (residue 64 z == 0) ≡ is_zero z

zeros : (bits : ℕ) → IsTrue (is_width bits) → Zeros bits
zeros bits w = at bits w
  where
    at : (bits : ℕ) → IsTrue (is_width bits) → Zeros bits
    at bits w signed (pos zero) h = refl
    at bits w signed (pos (suc n)) h = let b = number_bound bits signed (pos (suc n)) w h in grind (arith, nat_tests)
    at bits w signed (negsuc n) h = let b = number_bound bits signed (negsuc n) w h in grind (arith, nat_tests)

-- it is 0 where its 64 bits are
pub zero_is : (of : TypeTree) (z : ℤ) → IsOf of z → (residue 64 z == 0) ≡ is_zero z
zero_is (Of c Void) z h = absurd h
zero_is (Of c Boolean) (pos zero) h = refl
zero_is (Of c Boolean) (pos (suc zero)) h = refl
zero_is (Of c Boolean) (pos (suc (suc n))) h = absurd (grind (arith, nat_tests))
zero_is (Of c Boolean) (negsuc n) h = cc
zero_is (Of c (Integer bits signed)) z h = let parts = both_parts (is_width bits) (is_in_range bits signed z) h in zeros bits parts.0 signed z parts.1
zero_is (Of c (Pointer to schema)) z h = absurd h
zero_is (Of c (Array of count)) z h = absurd h
zero_is (Of c (Struct id)) z h = absurd h
zero_is (Of c (Function params result)) z h = absurd h

abbrev Stays : ℕ → Type 0
Stays bits = (signed : Bool) (z : ℤ) → IsTrue (is_in_range bits signed z) → wrapped bits signed z ≡ z

-- a number of the type is converted to itself
pub wrapped_same : (bits : ℕ) → IsTrue (is_width bits) → Stays bits
wrapped_same bits w = by_width Stays at_8 at_16 at_32 at_64 bits w
  where
    at_8 : Stays 8
    at_8 false (pos n) h = ap pos (grind (arith, nat_tests))
    at_8 false (negsuc n) h = cc
    at_8 true (pos n) h = grind (arith, nat_tests)
    at_8 true (negsuc n) h = grind (arith, nat_tests)

    at_16 : Stays 16
    at_16 false (pos n) h = ap pos (grind (arith, nat_tests))
    at_16 false (negsuc n) h = cc
    at_16 true (pos n) h = grind (arith, nat_tests)
    at_16 true (negsuc n) h = grind (arith, nat_tests)

    at_32 : Stays 32
    at_32 false (pos n) h = ap pos (grind (arith, nat_tests))
    at_32 false (negsuc n) h = cc
    at_32 true (pos n) h = grind (arith, nat_tests)
    at_32 true (negsuc n) h = grind (arith, nat_tests)

    at_64 : Stays 64
    at_64 false (pos n) h = ap pos (grind (arith, nat_tests))
    at_64 false (negsuc n) h = cc
    at_64 true (pos n) h = grind (arith, nat_tests)
    at_64 true (negsuc n) h = grind (arith, nat_tests)

-- ---- operators on one number

pub negative_is : (z : ℤ) → sub64 0 (residue 64 z) ≡ residue 64 (neg_ℤ z)
unfolding sub64 wrap
negative_is (pos zero) = refl
negative_is (pos (suc n)) = omega arith
negative_is (negsuc n) = omega arith

-- each bit turned
abbrev pub turned_bits : ℤ → ℤ
turned_bits (pos n) = negsuc n
turned_bits (negsuc n) = pos n

pub turned_is : (z : ℤ) → not64 (residue 64 z) ≡ residue 64 (turned_bits z)
unfolding not64
turned_is (pos n) = refl
turned_is (negsuc n) = omega arith

abbrev Turns : ℕ → Type 0
Turns bits = (z : ℤ) → 2 ^ bits - 1 - residue bits z ≡ residue bits (turned_bits z)

pub complement_is : (bits : ℕ) → IsTrue (is_width bits) → Turns bits
complement_is bits w = by_width Turns at_8 at_16 at_32 at_64 bits w
  where
    at_8 : Turns 8
    at_8 (pos n) = refl
    at_8 (negsuc n) = omega arith

    at_16 : Turns 16
    at_16 (pos n) = refl
    at_16 (negsuc n) = omega arith

    at_32 : Turns 32
    at_32 (pos n) = refl
    at_32 (negsuc n) = omega arith

    at_64 : Turns 64
    at_64 (pos n) = refl
    at_64 (negsuc n) = omega arith

pub turned_in_range : (bits : ℕ) (z : ℤ) → is_in_range bits true (turned_bits z) ≡ is_in_range bits true z
turned_in_range bits (pos n) = refl
turned_in_range bits (negsuc n) = refl
