-- What a script writes is of bytes, as a test and as a fact.
use Rattle.std.proofs.Common.{◌≡◌, ℕ, zero, suc, ◌<◌, true, List, [], ◌∷◌, refl, arith}
use Rattle.std.specs.Prelude.{◌&&◌, ltb, leb}
use Rattle.std.proofs.lemmas.Bool.{and_parts, and_from, ltb-true, lt-ltb}
use Rattle.pa_mem.specs.Memory.{AreBytes}
use Rattle.pa_object.specs.declared.script.Item.{Item}
use Rattle.pa_object.specs.Script.{are_bytes, writes_bytes, size_of_deed, is_line}

pub are_bytes-AreBytes : (bytes : List ℕ) → are_bytes bytes ≡ true → AreBytes bytes
are_bytes-AreBytes [] t = λ i. omega arith
are_bytes-AreBytes (byte ∷ bytes) t =
    let p = and_parts (ltb byte 256) (are_bytes bytes) t in
    go (ltb-true byte 256 p.0) (are_bytes-AreBytes bytes p.1)
  where
    go : byte < 256 → AreBytes bytes → AreBytes (byte ∷ bytes)
    go lt more zero = lt
    go lt more (suc i) = more i

pub AreBytes-are_bytes : (bytes : List ℕ) → AreBytes bytes → are_bytes bytes ≡ true
AreBytes-are_bytes [] b = refl
AreBytes-are_bytes (byte ∷ bytes) b = and_from (ltb byte 256) (are_bytes bytes) (lt-ltb byte 256 (b 0)) (AreBytes-are_bytes bytes (λ i. b (suc i)))

-- ---- lines

pub line-bytes : (item : Item) → is_line item ≡ true → writes_bytes item.deed ≡ true
line-bytes item h =
    let sizes = and_parts (leb 1 (size_of_deed item.deed)) (leb (size_of_deed item.deed) 4096 && writes_bytes item.deed) h in
    (and_parts (leb (size_of_deed item.deed) 4096) (writes_bytes item.deed) sizes.1).1
