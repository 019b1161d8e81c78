-- Integer types that are the same but for `const`.
use Rattle.std.proofs.Common.{◌≡◌, ℕ, ℤ, Bool, true, false, IsTrue, refl, subst}
use Rattle.std.specs.Prelude.{◌==◌}
use Rattle.std.proofs.lemmas.Bool.{eqb-true}
use Rattle.pa_ctype.specs.Types.{TypeTree, Of, Void, Boolean, Integer, Pointer, Array, Struct, Function}
use Rattle.pa_ctype.specs.Equality.{same_bool, same_form, same_but_const}
use Rattle.pa_ctype.specs.Values as value
use Rattle.pa_ctype.specs.Values.{CValue}
use Rattle.pa_lir.specs.Values.{FlatValue}
use Rattle.pa_lower.specs.Operations.{bytes_of, is_signed}
use Rattle.pa_lower.specs.Programs.{is_integer}
use Rattle.pa_lowered.specs.Objects.{IsAddress, Map, IsOf, Stands}
use Rattle.pa_lowered.proofs.Standing.{IsVoid}
use Rattle.pa_lowered.proofs.Numbers.{both_parts}

same_flag : (a b : Bool) → same_bool a b ≡ true → a ≡ b
same_flag true true e = refl
same_flag true false e = cc
same_flag false true e = cc
same_flag false false e = refl

-- what holds of a type by its form holds of the other
same_integer : (P : TypeTree → TypeTree → Type 0) → ((k l : Bool) → P (Of k Boolean) (Of l Boolean)) → ((k l signed : Bool) (bits : ℕ) → P (Of k (Integer bits signed)) (Of l (Integer bits signed))) → (a b : TypeTree) → IsTrue (is_integer a) → same_but_const a b ≡ true → P a b
unfolding same_form
same_integer P boolean integer (Of k Boolean) (Of l Boolean) is e = boolean k l
same_integer P boolean integer (Of k (Integer bits signed)) (Of l (Integer more other)) is e =
    let parts = both_parts (bits == more) (same_bool signed other) e in
    subst (λ n. P (Of k (Integer bits signed)) (Of l (Integer n other))) (eqb-true bits more parts.0) (subst (λ s. P (Of k (Integer bits signed)) (Of l (Integer bits s))) (same_flag signed other parts.1) (integer k l signed bits))
same_integer P boolean integer (Of k Boolean) (Of l Void) is e = cc
same_integer P boolean integer (Of k Boolean) (Of l (Integer bits signed)) is e = cc
same_integer P boolean integer (Of k Boolean) (Of l (Pointer to schema)) is e = cc
same_integer P boolean integer (Of k Boolean) (Of l (Array of count)) is e = cc
same_integer P boolean integer (Of k Boolean) (Of l (Struct id)) is e = cc
same_integer P boolean integer (Of k Boolean) (Of l (Function params result)) is e = cc
same_integer P boolean integer (Of k (Integer bits signed)) (Of l Void) is e = cc
same_integer P boolean integer (Of k (Integer bits signed)) (Of l Boolean) is e = cc
same_integer P boolean integer (Of k (Integer bits signed)) (Of l (Pointer to schema)) is e = cc
same_integer P boolean integer (Of k (Integer bits signed)) (Of l (Array of count)) is e = cc
same_integer P boolean integer (Of k (Integer bits signed)) (Of l (Struct id)) is e = cc
same_integer P boolean integer (Of k (Integer bits signed)) (Of l (Function params result)) is e = cc
same_integer P boolean integer (Of k Void) b is e = cc
same_integer P boolean integer (Of k (Pointer to schema)) b is e = cc
same_integer P boolean integer (Of k (Array of count)) b is e = cc
same_integer P boolean integer (Of k (Struct id)) b is e = cc
same_integer P boolean integer (Of k (Function params result)) b is e = cc

pub same_bytes : (a b : TypeTree) → IsTrue (is_integer a) → same_but_const a b ≡ true → bytes_of a ≡ bytes_of b
same_bytes a b is e = same_integer (λ a b. bytes_of a ≡ bytes_of b) (λ k l. refl) (λ k l signed bits. refl) a b is e

pub same_sign : (a b : TypeTree) → IsTrue (is_integer a) → same_but_const a b ≡ true → is_signed a ≡ is_signed b
same_sign a b is e = same_integer (λ a b. is_signed a ≡ is_signed b) (λ k l. refl) (λ k l signed bits. refl) a b is e

pub is_integer_too : (a b : TypeTree) → IsTrue (is_integer a) → same_but_const a b ≡ true → IsTrue (is_integer b)
is_integer_too a b is e = same_integer (λ a b. IsTrue (is_integer b)) (λ k l. refl) (λ k l signed bits. refl) a b is e

of_same : (a b : TypeTree) (z : ℤ) → IsTrue (is_integer a) → same_but_const a b ≡ true → IsOf a z → IsOf b z
of_same a b z is e = same_integer (λ a b. IsOf a z → IsOf b z) (λ k l h. h) (λ k l signed bits h. h) a b is e

pub of_same_back : (a b : TypeTree) (z : ℤ) → IsTrue (is_integer a) → same_but_const a b ≡ true → IsOf b z → IsOf a z
of_same_back a b z is e = same_integer (λ a b. IsOf b z → IsOf a z) (λ k l h. h) (λ k l signed bits h. h) a b is e

pub no_address : (of : TypeTree) → IsTrue (is_integer of) → IsAddress of → ⊥
no_address (Of k Void) is h = h
no_address (Of k Boolean) is h = h
no_address (Of k (Integer bits signed)) is h = h
no_address (Of k (Pointer to schema)) is h = cc
no_address (Of k (Array of count)) is h = h
no_address (Of k (Struct id)) is h = h
no_address (Of k (Function params result)) is h = h

pub stands_same : (m : Map) (a b : TypeTree) (v : CValue) (u : FlatValue) → IsTrue (is_integer a) → same_but_const a b ≡ true → Stands m a v u → Stands m b v u
stands_same m a b (value.Number z) u is e h = (of_same a b z is e h.0, h.1)
stands_same m a b (value.At place) u is e h = absurd (no_address a is h.0)
stands_same m a b (value.Code name) u is e h = absurd (no_address a is h.0)
stands_same m a b value.Null u is e h = absurd (no_address a is h.0)

pub not_void : (of : TypeTree) → IsTrue (is_integer of) → IsVoid of → ⊥
not_void (Of k Void) is h = cc
not_void (Of k Boolean) is h = h
not_void (Of k (Integer bits signed)) is h = h
not_void (Of k (Pointer to schema)) is h = h
not_void (Of k (Array of count)) is h = h
not_void (Of k (Struct id)) is h = h
not_void (Of k (Function params result)) is h = h
