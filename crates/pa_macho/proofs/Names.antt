-- The number that a text is, and the number in its bytes.
use Rattle.std.proofs.Common.{◌≡◌, ℕ, zero, suc, List, [], ◌∷◌, length, refl}
use Rattle.byteorder.specs.Endian.{little_from, little_number}
use Rattle.pa_layout.specs.Fields.{text_number}

moved : (i n byte : ℕ) (bytes : List ℕ) → little_from (suc i) n (byte ∷ bytes) ≡ little_from i n bytes
moved i zero byte bytes = refl
moved i (suc n) byte bytes = rw (moved (suc i) n byte bytes) refl

pub number_of_text : (bytes : List ℕ) → little_number (length bytes) bytes ≡ text_number bytes
number_of_text [] = refl
number_of_text (byte ∷ bytes) = rw (moved 0 (length bytes) byte bytes, number_of_text bytes) refl
