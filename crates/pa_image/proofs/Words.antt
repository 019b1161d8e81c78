-- Words in the bytes of a file.
use Rattle.std.proofs.Common.{◌≡◌, ℕ, zero, suc, ◌+◌, ◌-◌, ◌*◌, ◌≤◌, ◌<◌, true, eqb, leb, List, [], ◌∷◌, ◌++◌, length, map, None, refl, ap, ◌∙◌, append_assoc, arith}
use Rattle.std.proofs.lemmas.Bool.{le-leb, eq-eqb}
use Rattle.pa_layout.specs.Fields.{number, numbers, four, size_of, wrong_from, AllFit, IsAt}
use Rattle.pa_layout.proofs.Laws.{IsBytes, stand-spelled, length-spelled, Values, values_at}
use Rattle.pa_image.specs.Bytes.{words_bytes}

pub words_push : (count k at : ℕ) (bytes row : List ℕ) → k < count → row ++ numbers (count - k) 4 (at + 4 * k) bytes ≡ numbers count 4 at bytes
    → (row ++ number 4 (at + 4 * k) bytes ∷ []) ++ numbers (count - (k + 1)) 4 (at + 4 * (k + 1)) bytes ≡ numbers count 4 at bytes
words_push count k at bytes row lt e =
    let one : count - k ≡ suc (count - (k + 1)) = omega arith in
    let next : at + 4 * (k + 1) ≡ at + 4 * k + 4 = omega arith in
    rw next (append_assoc row (number 4 (at + 4 * k) bytes ∷ []) (numbers (count - (k + 1)) 4 (at + 4 * k + 4) bytes) ∙ (rw one at e))

none_wrong : (count at : ℕ) (bytes : List ℕ) → at + 4 * count ≤ length bytes → wrong_from at (map four (numbers count 4 at bytes)) bytes ≡ None
none_wrong zero at bytes le = refl
none_wrong (suc count) at bytes le =
    let inside : leb (at + 4) (length bytes) ≡ true = le-leb _ _ (omega arith) in
    let same : eqb (number 4 at bytes) (number 4 at bytes) ≡ true = eq-eqb _ _ refl in
    rw (inside, same) (none_wrong count (at + 4) bytes (omega arith))

-- words that are read stand there
pub words_stand : (count at : ℕ) (bytes : List ℕ) → IsBytes bytes → at + 4 * count ≤ length bytes → IsAt bytes at (words_bytes (numbers count 4 at bytes)) × AllFit (map four (numbers count 4 at bytes))
words_stand count at bytes fits le = stand-spelled at (map four (numbers count 4 at bytes)) bytes fits (omega arith) (none_wrong count at bytes le)

again : (row : List ℕ) (at : ℕ) (bytes : List ℕ) → Values at (map four row) bytes → numbers (length row) 4 at bytes ≡ row
again [] at bytes v = refl
again (x ∷ xs) at bytes v = let rest = again xs (at + 4) bytes v.1 in rw (v.0, rest) refl

-- and words that stand there are read
pub words_again : (count at : ℕ) (row bytes : List ℕ) → count ≡ length row → IsAt bytes at (words_bytes row) × AllFit (map four row) → numbers count 4 at bytes ≡ row
words_again count at row bytes e h = ap (λ (n : ℕ). numbers n 4 at bytes) e ∙ again row at bytes (values_at at (map four row) bytes h)

pub length-numbers4 : (count at : ℕ) (bytes : List ℕ) → length (numbers count 4 at bytes) ≡ count
length-numbers4 zero at bytes = refl
length-numbers4 (suc count) at bytes = ap suc (length-numbers4 count (at + 4) bytes)

size_of-fours : (row : List ℕ) → size_of (map four row) ≡ 4 * length row
size_of-fours [] = refl
size_of-fours (x ∷ xs) = omega (arith, size_of-fours xs)

pub length-words : (row : List ℕ) → length (words_bytes row) ≡ 4 * length row
length-words row = length-spelled (map four row) ∙ size_of-fours row
