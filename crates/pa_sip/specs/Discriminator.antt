-- The discriminator of a text.
use Rattle.std.specs.Prelude.{ℕ, ◌+◌, ◌%◌, List, [], ◌∷◌, take, drop}
use Rattle.pa_sip.specs.Sip.{siphash, word}

abbrev pub key_bytes : List ℕ
key_bytes =
    0xb5 ∷ 0xd4 ∷ 0xc9 ∷ 0xeb ∷ 0x79 ∷ 0x10 ∷ 0x4a ∷ 0x79
    ∷ 0x6f ∷ 0xec ∷ 0x8b ∷ 0x1b ∷ 0x42 ∷ 0x87 ∷ 0x81 ∷ 0xd4 ∷ []

-- the hash under that key, from 1 to 65,535
unfoldable pub discriminator : List ℕ → ℕ
discriminator text = siphash (word (take 8 key_bytes)) (word (drop 8 key_bytes)) text % 65535 + 1
