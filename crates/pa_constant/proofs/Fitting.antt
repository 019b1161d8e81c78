-- The first type of the list, by which types take the number.
use Rattle.std.proofs.Common.{◌≡◌, ℕ, ◌^◌, ◌<◌, Bool, true, false, not, nat_lt, ◌&&◌, ◌||◌, if◌then◌else◌, Option, Some, None, refl}
use Rattle.std.proofs.lemmas.Bool.{lt-ltb}
use Rattle.pa_ctype.specs.Types.{TypeTree}
use Rattle.pa_convert.specs.Conversions.{int, unsigned_int, long, unsigned_long}
use Rattle.pa_rexpr.specs.Names.{first_fit, candidates}

abbrev takes_int : ℕ → Bool → Bool → Bool
takes_int value has_u has_l = not has_u && (not has_l && nat_lt value (2 ^ 31))

abbrev takes_unsigned_int : ℕ → Bool → Bool → Bool → Bool
takes_unsigned_int value decimal has_u has_l = (has_u || not decimal) && (not has_l && nat_lt value (2 ^ 32))

abbrev takes_long : ℕ → Bool → Bool
takes_long value has_u = not has_u && nat_lt value (2 ^ 63)

abbrev pub first_taken : ℕ → Bool → Bool → Bool → Option TypeTree
first_taken value decimal has_u has_l =
    if takes_int value has_u has_l then Some int
    else if takes_unsigned_int value decimal has_u has_l then Some unsigned_int
    else if takes_long value has_u then Some long
    else if has_u || not decimal then Some unsigned_long
    else None

pub first_fit_is : (value : ℕ) (decimal has_u has_l : Bool) → value < 2 ^ 64 → first_fit value (candidates decimal has_u has_l) ≡ first_taken value decimal has_u has_l
first_fit_is value true false false h = refl
first_fit_is value false false false h = rw (lt-ltb value (2 ^ 64) h) refl
first_fit_is value true false true h = refl
first_fit_is value false false true h = rw (lt-ltb value (2 ^ 64) h) refl
first_fit_is value true true false h = rw (lt-ltb value (2 ^ 64) h) refl
first_fit_is value false true false h = rw (lt-ltb value (2 ^ 64) h) refl
first_fit_is value true true true h = rw (lt-ltb value (2 ^ 64) h) refl
first_fit_is value false true true h = rw (lt-ltb value (2 ^ 64) h) refl
