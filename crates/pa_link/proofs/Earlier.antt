-- The first of places that may be there.
use Rattle.std.proofs.Common.{◌≡◌, ℕ, min, List, [], ◌∷◌, ◌++◌, Option, Some, None, refl, sym, ap, ◌∙◌, arith}
use Rattle.pa_link.specs.Missing.{earlier, earliest}

pub earlier-none : (a : Option ℕ) → earlier a None ≡ a
earlier-none None = refl
earlier-none (Some a) = refl

min-assoc : (a b c : ℕ) → min (min a b) c ≡ min a (min b c)
min-assoc a b c = omega arith

pub earlier-assoc : (a b c : Option ℕ) → earlier (earlier a b) c ≡ earlier a (earlier b c)
earlier-assoc None b c = refl
earlier-assoc (Some a) None c = refl
earlier-assoc (Some a) (Some b) None = refl
earlier-assoc (Some a) (Some b) (Some c) = ap Some (min-assoc a b c)

pub earliest-append : (ps qs : List (Option ℕ)) → earliest (ps ++ qs) ≡ earlier (earliest ps) (earliest qs)
earliest-append [] qs = refl
earliest-append (p ∷ ps) qs = ap (earlier p) (earliest-append ps qs) ∙ sym (earlier-assoc p (earliest ps) (earliest qs))

pub ruleset earlier_laws = (earlier-none, earlier-assoc)
