-- Names that are noted, and the numbers of names.
use Rattle.std.proofs.Common.{◌≡◌, ℕ, Bool, true, false, ◌||◌, List, ◌∷◌, refl, sym}
use Rattle.std.specs.Prelude.{filter_map, if◌then◌else◌}
use Rattle.std.specs.List.{list_any}
use Rattle.std.specs.Str.{bytes_eq}
use Rattle.std.proofs.lemmas.Slice.Eq.{bytes_eq-Decides}
use Rattle.pa_typed.specs.declared.unit.Declared.{Declared}
use Rattle.pa_typed.specs.Units.{name_in}
use Rattle.pa_link.specs.Names.{internal_text, noted_by}

pub or_if : (a b : Bool) → (if a then true else b) ≡ (a || b)
or_if true b = refl
or_if false b = refl

or-turn : (a t n : Bool) → ((a || t) || n) ≡ (t || (a || n))
or-turn true true n = refl
or-turn true false n = refl
or-turn false t n = refl

pub bytes_eq-flip : (a b : List ℕ) → bytes_eq a b ≡ bytes_eq b a
bytes_eq-flip a b = go (bytes_eq a b) (bytes_eq b a) refl refl
  where
    go : (x y : Bool) → bytes_eq a b ≡ x → bytes_eq b a ≡ y → x ≡ y
    go true true e f = refl
    go false false e f = refl
    go true false e f = let g = (bytes_eq-Decides b a).1 (sym ((bytes_eq-Decides a b).0 e)) in cc
    go false true e f = let g = (bytes_eq-Decides a b).1 (sym ((bytes_eq-Decides b a).0 f)) in cc

-- a declaration more
pub note_step : (names : List (List ℕ)) (d : Declared) (rest : List Declared) (text : List ℕ) (noted : Bool)
    → (list_any (bytes_eq text) (filter_map (internal_text names) (d ∷ rest)) || noted) ≡ (list_any (bytes_eq text) (filter_map (internal_text names) rest) || noted_by names d text noted)
note_step names d rest text noted = by d.public refl
  where
    by : (b : Bool) → d.public ≡ b → (list_any (bytes_eq text) (filter_map (internal_text names) (d ∷ rest)) || noted) ≡ (list_any (bytes_eq text) (filter_map (internal_text names) rest) || noted_by names d text noted)
    by true e = rw e refl
    by false e = rw e (or-turn (bytes_eq text (name_in names d.name)) (list_any (bytes_eq text) (filter_map (internal_text names) rest)) noted)
