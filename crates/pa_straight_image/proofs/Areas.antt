-- Instructions in the areas of code of loaded images.
use Rattle.std.proofs.Common.{◌≡◌, ◌≢◌, ℕ, suc, ◌+◌, ◌*◌, ◌<◌, ◌≤◌, Bool, true, false, eqb, cond, List, [], ◌∷◌, ◌++◌, length, map, refl, sym, ap, subst, ◌∙◌, arith, Some, None, ◌⊎◌, inl, inr}
use Rattle.std.proofs.lemmas.Bool.{cases_eq, eq-eqb, ne_eqb}
use Rattle.std.specs.List.{AllByRecursion}
use Rattle.std.specs.Option.{option_or}
use Rattle.pa_a64.specs.declared.instr.Instr.{Instr}
use Rattle.pa_a64.specs.Decoding.{InRange, encoded}
use Rattle.pa_a64.proofs.RoundTrip.{decoded-encoded}
use Rattle.pa_mem.specs.Memory.{Region, fetch}
use Rattle.pa_object.specs.Placed.{Stands, HasCode}
use Rattle.pa_image.specs.Places.{Area, word_of, word_from}

-- the words stand in memory from a place on
abbrev pub AreFetched : List Region → ℕ → List ℕ → Type 0
AreFetched memory at [] = Unit {0}
AreFetched memory at (word ∷ words) = (fetch memory at ≡ Some word) × AreFetched memory (at + 4) words

pub HasCode-fetched : (memory : List Region) (at : ℕ) (is : List Instr) → AllByRecursion InRange is → AreFetched memory at (map encoded is) → HasCode memory at is
HasCode-fetched memory at [] fits h = tt
HasCode-fetched memory at (i ∷ is) fits h =
    (record { word = encoded i; fetched = h.0; decodes = decoded-encoded i fits.0 }, HasCode-fetched memory (at + 4) is fits.1 h.1)

-- ---- words of an area

word_from-other : (from word : ℕ) (words : List ℕ) (at : ℕ) → (from ≡ at → ⊥) → word_from from (word ∷ words) at ≡ word_from (from + 4) words at
word_from-other from word words at other = ap (λ b. cond b (Some word) (word_from (from + 4) words at)) (ne_eqb from at other)

pub word_from-low : (from : ℕ) (words : List ℕ) (at w : ℕ) → word_from from words at ≡ Some w → from ≤ at
word_from-low from [] at w e = absurd (let no : None ≡ Some w = e in cc)
word_from-low from (word ∷ words) at w e =
    elim (cases_eq from at) [
      | inl same ↦ omega arith
      | inr other ↦ let low = word_from-low (from + 4) words at w (sym (word_from-other from word words at other) ∙ e) in omega arith
    ]

word_from-behind : (from : ℕ) (words : List ℕ) (at : ℕ) → from + 4 * length words ≤ at → word_from from words at ≡ None
word_from-behind from [] at h = refl
word_from-behind from (word ∷ words) at h =
    let other : from ≢ at = λ e. omega arith in
    ap (λ b. cond b (Some word) (word_from (from + 4) words at)) (ne_eqb from at other) ∙ word_from-behind (from + 4) words at (omega arith)

word_from-next : (from word : ℕ) (words : List ℕ) (at w : ℕ) → word_from (from + 4) words at ≡ Some w → word_from from (word ∷ words) at ≡ Some w
word_from-next from word words at w e =
    let low = word_from-low (from + 4) words at w e in
    let other : from ≢ at = λ same. omega arith in
    ap (λ b. cond b (Some word) (word_from (from + 4) words at)) (ne_eqb from at other) ∙ e

-- where the words of an area are fetched, they stand there
pub area_fetched : (memory : List Region) (from : ℕ) (words : List ℕ) → ((at w : ℕ) → word_from from words at ≡ Some w → fetch memory at ≡ Some w) → AreFetched memory from words
area_fetched memory from [] h = tt
area_fetched memory from (word ∷ words) h = (
  h from word (ap (λ b. cond b (Some word) (word_from (from + 4) words from)) (eq-eqb from from refl)),
  area_fetched memory (from + 4) words (λ at w e. h at w (word_from-next from word words at w e)),
)

-- ---- words of several areas

pub word_of-first : (area : Area) (areas : List Area) (at w : ℕ) → word_from area.from area.words at ≡ Some w → word_of (area ∷ areas) at ≡ Some w
word_of-first area areas at w e = ap (λ x. option_or x (word_of areas at)) e

-- after an area the words are those of the others
pub word_of-behind : (area : Area) (areas : List Area) (at w : ℕ) → area.from + 4 * length area.words ≤ at → word_of areas at ≡ Some w → word_of (area ∷ areas) at ≡ Some w
word_of-behind area areas at w h e = ap (λ x. option_or x (word_of areas at)) (word_from-behind area.from area.words at h) ∙ e
