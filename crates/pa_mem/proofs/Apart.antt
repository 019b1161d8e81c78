-- Regions that are apart: what an address of one region reads and writes.
use Rattle.std.proofs.Common.{◌≡◌, ℕ, zero, suc, ◌+◌, ◌-◌, ◌<◌, ◌≤◌, min, max, List, [], ◌∷◌, ◌++◌, length, get_or, set, take, drop, refl, sym, ap, subst, ◌∙◌, arith, length-set, get_or-set_same}
use Rattle.std.specs.Prelude.{true, false, cond}
use Rattle.std.proofs.lemmas.Bool.{leb-true, le-leb, and_parts, and_from, false_from_ne_true}
use Rattle.std.proofs.lemmas.List.{append_assoc, set-get_or, set-set, take_more_set, drop-set-lt, drop_more, take-append-drop}
use Rattle.pa_mem.specs.Memory.{Region, holds, byte_at, with_byte, bytes_at, with_bytes, apart, apart_from_all, all_apart}
use Rattle.pa_mem.specs.Place.{patched}
use Rattle.pa_mem.proofs.Bytes.{put, holds-within, within-holds, all_apart-with_byte}

apart-comm : (one two : Region) → apart one two ≡ true → apart two one ≡ true
apart-comm one two e =
    let h : min (one.base + length one.bytes) (two.base + length two.bytes) ≤ max one.base two.base = leb-true _ _ e in
    le-leb _ _ (omega arith)

-- one region begins where the other has ended, or behind
pub apart-after : (one two : Region) → two.base + length two.bytes ≤ one.base → apart one two ≡ true
apart-after one two h = le-leb _ _ (omega arith)

pub apart-before : (one two : Region) → one.base + length one.bytes ≤ two.base → apart one two ≡ true
apart-before one two h = le-leb _ _ (omega arith)

-- no address is in both
pub apart-holds : (one two : Region) (at : ℕ) → apart one two ≡ true → holds two at ≡ true → holds one at ≡ false
apart-holds one two at e h = false_from_ne_true _ (λ k.
    let w = holds-within one at k in let v = holds-within two at h in
    let low : min (one.base + length one.bytes) (two.base + length two.bytes) ≤ max one.base two.base = leb-true _ _ e in
    omega arith)

pub apart_from_all-append : (one two : Region) (regions : List Region) → apart_from_all one regions ≡ true → apart one two ≡ true → apart_from_all one (regions ++ two ∷ []) ≡ true
unfolding apart_from_all
apart_from_all-append one two [] e h = and_from _ _ h refl
apart_from_all-append one two (region ∷ regions) e h =
    let p = and_parts _ _ e in and_from _ _ p.0 (apart_from_all-append one two regions p.1 h)

-- one more region
pub all_apart-append : (regions : List Region) (one : Region) → all_apart regions ≡ true → apart_from_all one regions ≡ true → all_apart (regions ++ one ∷ []) ≡ true
unfolding all_apart apart_from_all
all_apart-append [] one e h = refl
all_apart-append (region ∷ regions) one e h =
    let p = and_parts _ _ e in let q = and_parts _ _ h in
    and_from _ _ (apart_from_all-append region one regions p.0 (apart-comm one region q.0)) (all_apart-append regions one p.1 q.1)

-- the region at a place of the list
pub record IsAt (regions : List Region) (i : ℕ) (region : Region) : Type 0 where
  pub within : i < length regions
  pub found : get_or regions i region ≡ region

apart_from_all-holds : (one : Region) (regions : List Region) (i : ℕ) (region : Region) (at : ℕ) → IsAt regions i region → apart_from_all one regions ≡ true → holds region at ≡ true → holds one at ≡ false
unfolding apart_from_all
apart_from_all-holds one [] i region at p e h = let w = p.within in absurd (omega arith)
apart_from_all-holds one (two ∷ regions) zero region at p e h =
    let q = and_parts _ _ e in apart-holds one two at q.0 (subst (λ x. holds x at ≡ true) (sym p.found) h)
apart_from_all-holds one (two ∷ regions) (suc i) region at p e h =
    let w = p.within in
    let more : IsAt regions i region = record { within = omega arith; found = p.found } in
    let q = and_parts _ _ e in apart_from_all-holds one regions i region at more q.1 h

-- a byte of a region
byte_at-region : (regions : List Region) (i : ℕ) (region : Region) (at o : ℕ) → IsAt regions i region → all_apart regions ≡ true → region.base + o ≡ at → o < length region.bytes → byte_at regions at ≡ get_or region.bytes o 0
unfolding byte_at all_apart
byte_at-region [] i region at o p e a h = let w = p.within in absurd (omega arith)
byte_at-region (one ∷ regions) zero region at o p e a h =
    let k : at - region.base ≡ o = omega arith in
    subst (λ x. cond (holds x at) (get_or x.bytes (at - x.base) 0) (byte_at regions at) ≡ get_or region.bytes o 0) (sym p.found) (rw (within-holds region at (omega arith) (omega arith), k))
byte_at-region (one ∷ regions) (suc i) region at o p e a h =
    let w = p.within in
    let more : IsAt regions i region = record { within = omega arith; found = p.found } in
    let here = within-holds region at (omega arith) (omega arith) in
    let q = and_parts _ _ e in
    rw (apart_from_all-holds one regions i region at more q.0 here) (byte_at-region regions i region at o more q.1 a h)

with_byte-region : (regions : List Region) (i : ℕ) (region : Region) (at o byte : ℕ) → IsAt regions i region → all_apart regions ≡ true → region.base + o ≡ at → o < length region.bytes → with_byte regions at byte ≡ set regions i (put region o byte)
unfolding with_byte all_apart
with_byte-region [] i region at o byte p e a h = let w = p.within in absurd (omega arith)
with_byte-region (one ∷ regions) zero region at o byte p e a h =
    let k : at - region.base ≡ o = omega arith in
    subst (λ x. cond (holds x at) (put x (at - x.base) byte ∷ regions) (x ∷ with_byte regions at byte) ≡ put region o byte ∷ regions) (sym p.found) (rw (within-holds region at (omega arith) (omega arith), k))
with_byte-region (one ∷ regions) (suc i) region at o byte p e a h =
    let w = p.within in
    let more : IsAt regions i region = record { within = omega arith; found = p.found } in
    let here = within-holds region at (omega arith) (omega arith) in
    let q = and_parts _ _ e in
    rw (apart_from_all-holds one regions i region at more q.0 here, with_byte-region regions i region at o byte more q.1 a h)

-- bytes that lie in one region
pub bytes_at-region : (n : ℕ) (regions : List Region) (i : ℕ) (region : Region) (at o : ℕ) → IsAt regions i region → all_apart regions ≡ true → region.base + o ≡ at → o + n ≤ length region.bytes → bytes_at n regions at ≡ take n (drop o region.bytes)
unfolding bytes_at
bytes_at-region zero regions i region at o p e a h = refl
bytes_at-region (suc n) regions i region at o p e a h =
    rw (byte_at-region regions i region at o p e a (omega arith), bytes_at-region n regions i region (at + 1) (o + 1) p e (omega arith) (omega arith), drop_more region.bytes o 0 (omega arith))

patched-next : (region : Region) (o byte : ℕ) (bytes : List ℕ) → o < length region.bytes → patched (put region o byte) (o + 1) bytes ≡ patched region o (byte ∷ bytes)
patched-next region o byte bytes h =
    let k : o + 1 + length bytes ≡ o + suc (length bytes) = omega arith in
    let front = take_more_set region.bytes o byte h in
    let back : drop (o + suc (length bytes)) (set region.bytes o byte) ≡ drop (o + suc (length bytes)) region.bytes = drop-set-lt (o + suc (length bytes)) region.bytes o byte (omega arith) in
    rw (k, front, back, append_assoc (take o region.bytes) (byte ∷ []) (bytes ++ drop (o + suc (length bytes)) region.bytes))

pub with_bytes-region : (bytes : List ℕ) (regions : List Region) (i : ℕ) (region : Region) (at o : ℕ) → IsAt regions i region → all_apart regions ≡ true → region.base + o ≡ at → o + length bytes ≤ length region.bytes → with_bytes regions at bytes ≡ set regions i (patched region o bytes)
unfolding with_bytes
with_bytes-region [] regions i region at o p e a h =
    let k : o + 0 ≡ o = omega arith in
    rw (k, take-append-drop o region.bytes) (sym (ap (λ x. set regions i x) (sym p.found) ∙ set-get_or regions i region))
with_bytes-region (byte ∷ bytes) regions i region at o p e a h =
    let w = p.within in
    let here = with_byte-region regions i region at o byte p e a (omega arith) in
    let size = length-set region.bytes o byte in
    let count = length-set regions i (put region o byte) in
    let next : IsAt (set regions i (put region o byte)) i (put region o byte) = record { within = omega (arith, count); found = get_or-set_same regions i (put region o byte) (put region o byte) w } in
    let kept : all_apart (set regions i (put region o byte)) ≡ true = ap all_apart (sym here) ∙ all_apart-with_byte regions at byte ∙ e in
    rw here (with_bytes-region bytes (set regions i (put region o byte)) i (put region o byte) (at + 1) (o + 1) next kept (omega arith) (omega (arith, size))
    ∙ set-set regions i (put region o byte) (patched (put region o byte) (o + 1) bytes)
    ∙ ap (λ x. set regions i x) (patched-next region o byte bytes (omega arith)))

-- the region that an index reads
pub at-read : (items now : List Region) (i : ℕ) (region : Region) → items ≡ now → region ≡ get_or items i region → i < length now → IsAt now i region
at-read items now i region e r h = record { within = h; found = ap (λ l. get_or l i region) (sym e) ∙ sym r }
