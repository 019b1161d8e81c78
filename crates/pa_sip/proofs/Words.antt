-- A message word by word.
use Rattle.std.proofs.Common.{set, ◌≡◌, ℕ, suc, ◌+◌, ◌-◌, ◌/◌, ◌%◌, ◌<◌, ◌≤◌, List, [], ◌∷◌, ◌++◌, length, take, drop, replicate, fold, refl, sym, ap, ◌∙◌, arith}
use Rattle.std.proofs.lemmas.List.{length-append, length-replicate, take_all, take-append-le, drop-append-le}
use Rattle.pa_sip.specs.declared.sip.State.{State}
use Rattle.pa_sip.specs.Sip.{initial, compressed, padding, word, words, message_words}

-- the words that are left, over the state so far, give what all words give over the first state
pub record Compressed (k0 k1 : ℕ) (bytes : List ℕ) (state : State) (rest : List ℕ) : Type 0 where
  pub whole : length rest % 8 ≡ length bytes % 8
  pub state_is : fold compressed state (words (length rest / 8 + 1) (rest ++ padding (length bytes))) ≡ fold compressed (initial k0 k1) (message_words bytes)

pub compressed_none : (k0 k1 : ℕ) (bytes : List ℕ) → Compressed k0 k1 bytes (initial k0 k1) bytes
compressed_none k0 k1 bytes = record { whole = refl; state_is = refl }

pub compressed_more : (k0 k1 : ℕ) (bytes : List ℕ) (state : State) (rest : List ℕ) → 8 ≤ length rest → Compressed k0 k1 bytes state rest
    → (after : List ℕ) → after ≡ drop 8 rest → length after + 8 ≡ length rest → Compressed k0 k1 bytes (compressed state (word (take 8 rest))) after
compressed_more k0 k1 bytes state rest le inv after e len =
    let count : length rest / 8 + 1 ≡ suc (length after / 8 + 1) = omega arith in
    let front : take 8 (rest ++ padding (length bytes)) ≡ take 8 rest = take-append-le 8 rest (padding (length bytes)) le in
    let back : drop 8 (rest ++ padding (length bytes)) ≡ after ++ padding (length bytes) = drop-append-le 8 rest (padding (length bytes)) le ∙ ap (λ (l : List ℕ). l ++ padding (length bytes)) (sym e) in
    record { whole = omega (arith, inv.whole); state_is = rw (front, back) at (rw count at inv.state_is) }

-- what is left at the end is one word
pub compressed_all : (k0 k1 : ℕ) (bytes : List ℕ) (state : State) (rest : List ℕ) → length rest < 8 → Compressed k0 k1 bytes state rest
    → compressed state (word (rest ++ padding (length bytes))) ≡ fold compressed (initial k0 k1) (message_words bytes)
compressed_all k0 k1 bytes state rest lt inv =
    let count : length rest / 8 + 1 ≡ 1 = omega arith in
    let padded : length (padding (length bytes)) ≡ 8 - length rest = length-append (replicate (7 - length bytes % 8) 0) (length bytes % 256 ∷ []) ∙ omega (arith, length-replicate {A = ℕ} (7 - length bytes % 8) 0, inv.whole) in
    let front : take 8 (rest ++ padding (length bytes)) ≡ rest ++ padding (length bytes) = take_all 8 (rest ++ padding (length bytes)) (omega (arith, length-append rest (padding (length bytes)))) in
    rw front at (rw count at inv.state_is)

-- a last byte behind the bytes that are left and zeros
pub filled : (rest : List ℕ) (b : ℕ) → length rest < 8 → set (rest ++ drop (length rest) (replicate 8 0)) 7 b ≡ rest ++ (replicate (7 - length rest) 0 ++ (b ∷ []))
filled [] b lt = refl
filled (_ ∷ []) b lt = refl
filled (_ ∷ _ ∷ []) b lt = refl
filled (_ ∷ _ ∷ _ ∷ []) b lt = refl
filled (_ ∷ _ ∷ _ ∷ _ ∷ []) b lt = refl
filled (_ ∷ _ ∷ _ ∷ _ ∷ _ ∷ []) b lt = refl
filled (_ ∷ _ ∷ _ ∷ _ ∷ _ ∷ _ ∷ []) b lt = refl
filled (_ ∷ _ ∷ _ ∷ _ ∷ _ ∷ _ ∷ _ ∷ []) b lt = refl
filled (_ ∷ _ ∷ _ ∷ _ ∷ _ ∷ _ ∷ _ ∷ _ ∷ more) b lt = absurd (omega arith)
