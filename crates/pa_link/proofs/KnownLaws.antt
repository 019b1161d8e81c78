-- The types of what is known stay in the table.
use Rattle.std.proofs.Common.{ℕ, zero, suc, ◌<◌, Bool, List, [], ◌∷◌, length, Option, Some, None, arith}
use Rattle.std.specs.Prelude.{slice_set, IfSome}
use Rattle.std.specs.Option.{option_or}
use Rattle.pa_link.specs.declared.known.KnownName.{KnownName}
use Rattle.pa_link.specs.Declaring.{with_declaration}
use Rattle.pa_link.specs.Declarations.{IsBelow, AreBelow, known_at}

pub known_below : (types : ℕ) (ks : List KnownName) (i : ℕ) → AreBelow types ks → i < length ks → IsBelow types (known_at ks i)
known_below types [] i h l = let no : ⊥ = omega (arith, l) in absurd no
known_below types (k ∷ ks) zero h l = h.0
known_below types (k ∷ ks) (suc i) h l = known_below types ks i h.1 (omega (arith, l))

pub set_below : (types : ℕ) (ks : List KnownName) (i : ℕ) (k : KnownName) → AreBelow types ks → IsBelow types k → AreBelow types (slice_set ks i k)
set_below types [] i k h b = tt
set_below types (x ∷ ks) zero k h b = (b, h.1)
set_below types (x ∷ ks) (suc i) k h b = (h.0, set_below types ks i k h.1 b)

pub declared_below : (types : ℕ) (k : KnownName) (defines : Bool) (of : ℕ) → IsBelow types k → of < types → IsBelow types (with_declaration k defines of)
declared_below types k defines of h l = by k.of h
  where
    by : (o : Option ℕ) → IfSome o (λ of. of < types) → IfSome (option_or o (Some of)) (λ of. of < types)
    by None h = l
    by (Some first) h = h
