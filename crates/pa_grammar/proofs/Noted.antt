-- Type names as a list, the last one first, and as marks by number.
use Rattle.std.proofs.Common.{◌≡◌, ℕ, Bool, true, false, List, [], ◌∷◌, ◌++◌, reverse, ◌||◌, ◌==◌, refl, sym, ◌∙◌, ap}
use Rattle.std.proofs.lemmas.List.{reverse-append}
use Rattle.std.proofs.lemmas.List.Folds.{list_any-append}
use Rattle.std.proofs.lemmas.List.Sorted.{list_any-IsPermutation, IsPermutation-reverse}
use Rattle.pa_tree.specs.Spells.{is_type}

pub reverse_snoc : (names : List ℕ) (name : ℕ) → reverse (names ++ name ∷ []) ≡ name ∷ reverse names
reverse_snoc names name = reverse-append names (name ∷ [])

pub is_type_reverse : (names : List ℕ) (name : ℕ) → is_type (reverse names) name ≡ is_type names name
is_type_reverse names name = sym (list_any-IsPermutation (λ n. n == name) names (reverse names) (IsPermutation-reverse names))

or_none : (b : Bool) → (b || false) ≡ b
or_none true = refl
or_none false = refl

pub is_type_snoc : (names : List ℕ) (n name : ℕ) → is_type (names ++ n ∷ []) name ≡ (is_type names name || n == name)
is_type_snoc names n name = list_any-append (λ m. m == name) names (n ∷ []) ∙ ap (λ b. is_type names name || b) (or_none (n == name))
