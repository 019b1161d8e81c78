-- Laws of single bytes: what a changed byte changes, and what it leaves.
use Rattle.std.proofs.Common.{◌≡◌, ◌≢◌, ℕ, zero, suc, ◌+◌, ◌-◌, ◌<◌, ◌≤◌, List, [], ◌∷◌, length, get_or, set, map, refl, sym, ◌∙◌, arith, length-set, get_or-set_same, get_or-set_other, ◌⊎◌, inl, inr, lit<}
use Rattle.std.specs.Prelude.{Bool, true, false, cond, ◌&&◌, ◌||◌, leb}
use Rattle.std.proofs.lemmas.Bool.{leb-true, ltb-true, le-leb, lt-ltb, and_parts, and_from, or_cases, or_left, or_right, true≢false}
use Rattle.pa_mem.specs.declared.access.Rights.{Rights}
use Rattle.pa_mem.specs.Memory.{Region, Right, Read, Write, Run, has, holds, allowed, inside, byte_at, with_byte, with_bytes, apart_from_all, all_apart, write_xor_run, AreBytes, IsBytes}

-- some region has this address
unfoldable pub covered : List Region → ℕ → Bool
covered [] at = false
covered (region ∷ regions) at = holds region at || covered regions at

-- where a region lies, and its rights
pub record Outline : Type 0 where
  pub base : ℕ
  pub size : ℕ
  pub reads : Bool
  pub writes : Bool
  pub runs : Bool

abbrev pub outline : Region → Outline
outline region =
    record { base = region.base; size = length region.bytes; reads = region.reads; writes = region.writes; runs = region.runs }

-- a region with one byte changed
abbrev pub put : Region → ℕ → ℕ → Region
put region i byte = record region { bytes = set region.bytes i byte }

-- what lies only in bases, lengths and rights
pub kept-with_byte : {X : Type 0} (P : List Region → X) → ((region : Region) (regions : List Region) (i byte : ℕ) → P (put region i byte ∷ regions) ≡ P (region ∷ regions)) → ((region : Region) (one two : List Region) → P one ≡ P two → P (region ∷ one) ≡ P (region ∷ two)) → (regions : List Region) (at byte : ℕ) → P (with_byte regions at byte) ≡ P regions
unfolding with_byte
kept-with_byte P head tail [] at byte = refl
kept-with_byte P head tail (region ∷ regions) at byte = go (kept-with_byte P head tail regions at byte) (holds region at)
  where
    go : P (with_byte regions at byte) ≡ P regions → (here : Bool) → P (cond here (put region (at - region.base) byte ∷ regions) (region ∷ with_byte regions at byte)) ≡ P (region ∷ regions)
    go more true = head region regions (at - region.base) byte
    go more false = tail region (with_byte regions at byte) regions more

has-put : (right : Right) (region : Region) (i byte : ℕ) → has right (put region i byte) ≡ has right region
has-put Read region i byte = refl
has-put Write region i byte = refl
has-put Run region i byte = refl

pub allowed-with_byte : (right : Right) (regions : List Region) (at byte c n : ℕ) → allowed right (with_byte regions at byte) c n ≡ allowed right regions c n
unfolding allowed
allowed-with_byte right regions at byte c n =
    kept-with_byte (λ some. allowed right some c n)
    (λ region more i b. rw (length-set region.bytes i b, has-put right region i b))
    (λ region one two e. rw e) regions at byte

pub inside-with_byte : (rights : Rights) (regions : List Region) (at byte c n : ℕ) → inside rights (with_byte regions at byte) c n ≡ inside rights regions c n
unfolding inside
inside-with_byte rights regions at byte c n =
    kept-with_byte (λ some. inside rights some c n)
    (λ region more i b. rw (length-set region.bytes i b))
    (λ region one two e. rw e) regions at byte

pub covered-with_byte : (regions : List Region) (at byte c : ℕ) → covered (with_byte regions at byte) c ≡ covered regions c
unfolding covered
covered-with_byte regions at byte c =
    kept-with_byte (λ some. covered some c)
    (λ region more i b. rw (length-set region.bytes i b))
    (λ region one two e. rw e) regions at byte

pub outlines-with_byte : (regions : List Region) (at byte : ℕ) → map outline (with_byte regions at byte) ≡ map outline regions
outlines-with_byte regions at byte =
    kept-with_byte (λ some. map outline some)
    (λ region more i b. rw (length-set region.bytes i b))
    (λ region one two e. rw e) regions at byte

pub write_xor_run-with_byte : (regions : List Region) (at byte : ℕ) → write_xor_run (with_byte regions at byte) ≡ write_xor_run regions
unfolding write_xor_run
write_xor_run-with_byte regions at byte =
    kept-with_byte write_xor_run (λ region more i b. refl) (λ region one two e. rw e) regions at byte

apart_from_all-with_byte : (one : Region) (regions : List Region) (at byte : ℕ) → apart_from_all one (with_byte regions at byte) ≡ apart_from_all one regions
unfolding apart_from_all
apart_from_all-with_byte one regions at byte =
    kept-with_byte (apart_from_all one)
    (λ region more i b. rw (length-set region.bytes i b))
    (λ region a b e. rw e) regions at byte

apart_from_all-put : (region : Region) (i byte : ℕ) (regions : List Region) → apart_from_all (put region i byte) regions ≡ apart_from_all region regions
unfolding apart_from_all
apart_from_all-put region i byte [] = refl
apart_from_all-put region i byte (two ∷ regions) = rw (length-set region.bytes i byte, apart_from_all-put region i byte regions)

pub all_apart-with_byte : (regions : List Region) (at byte : ℕ) → all_apart (with_byte regions at byte) ≡ all_apart regions
unfolding all_apart with_byte
all_apart-with_byte [] at byte = refl
all_apart-with_byte (region ∷ regions) at byte = go (all_apart-with_byte regions at byte) (holds region at)
  where
    go : all_apart (with_byte regions at byte) ≡ all_apart regions → (here : Bool) → all_apart (cond here (put region (at - region.base) byte ∷ regions) (region ∷ with_byte regions at byte)) ≡ all_apart (region ∷ regions)
    go more true = rw (apart_from_all-put region (at - region.base) byte regions)
    go more false = rw (apart_from_all-with_byte region regions at byte, more)

-- an address of a region
pub record Within (region : Region) (at : ℕ) : Type 0 where
  pub low : region.base ≤ at
  pub high : at < region.base + length region.bytes

pub holds-within : (region : Region) (at : ℕ) → holds region at ≡ true → Within region at
holds-within region at h = let p = and_parts _ _ h in record { low = leb-true _ _ p.0; high = ltb-true _ _ p.1 }

pub within-holds : (region : Region) (at : ℕ) → region.base ≤ at → at < region.base + length region.bytes → holds region at ≡ true
within-holds region at low high = and_from _ _ (le-leb _ _ low) (lt-ltb _ _ high)

holds-put : (region : Region) (i byte c : ℕ) → holds (put region i byte) c ≡ holds region c
holds-put region i byte c = rw (length-set region.bytes i byte)

-- the byte that was written
pub byte_at-with_byte-same : (regions : List Region) (at byte : ℕ) → covered regions at ≡ true → byte_at (with_byte regions at byte) at ≡ byte
unfolding covered byte_at with_byte
byte_at-with_byte-same [] at byte c = absurd (true≢false (sym c))
byte_at-with_byte-same (region ∷ regions) at byte c = go (byte_at-with_byte-same regions at byte) (holds region at) refl c
  where
    go : (covered regions at ≡ true → byte_at (with_byte regions at byte) at ≡ byte) → (here : Bool) → holds region at ≡ here → (here || covered regions at) ≡ true → byte_at (cond here (put region (at - region.base) byte ∷ regions) (region ∷ with_byte regions at byte)) at ≡ byte
    go more true e c = let w = holds-within region at e in let k : at - region.base < length region.bytes = omega arith in rw (holds-put region (at - region.base) byte at, e) (get_or-set_same region.bytes (at - region.base) byte 0 k)
    go more false e c = rw e (more c)

-- every other byte
pub byte_at-with_byte-other : (regions : List Region) (at byte c : ℕ) → c ≢ at → byte_at (with_byte regions at byte) c ≡ byte_at regions c
unfolding byte_at with_byte
byte_at-with_byte-other [] at byte c ne = refl
byte_at-with_byte-other (region ∷ regions) at byte c ne = go (byte_at-with_byte-other regions at byte c ne) (holds region at) refl
  where
    step : (there : Bool) → holds region at ≡ true → holds region c ≡ there → cond there (get_or (set region.bytes (at - region.base) byte) (c - region.base) 0) (byte_at regions c) ≡ cond there (get_or region.bytes (c - region.base) 0) (byte_at regions c)
    step true e f =
        let v = holds-within region at e in let w = holds-within region c f in
        let k : (c - region.base) ≢ (at - region.base) = omega arith in
        get_or-set_other region.bytes (at - region.base) (c - region.base) byte 0 k
    step false e f = refl

    go : byte_at (with_byte regions at byte) c ≡ byte_at regions c → (here : Bool) → holds region at ≡ here → byte_at (cond here (put region (at - region.base) byte ∷ regions) (region ∷ with_byte regions at byte)) c ≡ byte_at (region ∷ regions) c
    go more true e = rw (holds-put region (at - region.base) byte c) (step (holds region c) e refl)
    go more false e = rw more

-- an allowed range is covered
pub allowed-covered : (right : Right) (regions : List Region) (at n i : ℕ) → allowed right regions at n ≡ true → i < n → covered regions (at + i) ≡ true
unfolding allowed covered
allowed-covered right [] at n i h lt = absurd (true≢false (sym h))
allowed-covered right (region ∷ regions) at n i h lt = go (λ e. allowed-covered right regions at n i e lt) (or_cases _ _ h)
  where
    go : (allowed right regions at n ≡ true → covered regions (at + i) ≡ true) → (((leb region.base at && (leb (at + n) (region.base + length region.bytes) && has right region)) ≡ true) ⊎ (allowed right regions at n ≡ true)) → covered (region ∷ regions) (at + i) ≡ true
    go more (inl e) =
        let p = and_parts _ _ e in let q = and_parts _ _ p.1 in
        let low : region.base ≤ at = leb-true _ _ p.0 in let high : at + n ≤ region.base + length region.bytes = leb-true _ _ q.0 in
        or_left _ _ (within-holds region (at + i) (omega arith) (omega arith))
    go more (inr e) = or_right _ _ (more e)

-- a part of an allowed range
pub allowed-part : (right : Right) (regions : List Region) (at n i k : ℕ) → allowed right regions at n ≡ true → i + k ≤ n → allowed right regions (at + i) k ≡ true
unfolding allowed
allowed-part right [] at n i k h le = absurd (true≢false (sym h))
allowed-part right (region ∷ regions) at n i k h le = go (λ e. allowed-part right regions at n i k e le) (or_cases _ _ h)
  where
    go : (allowed right regions at n ≡ true → allowed right regions (at + i) k ≡ true) → (((leb region.base at && (leb (at + n) (region.base + length region.bytes) && has right region)) ≡ true) ⊎ (allowed right regions at n ≡ true)) → allowed right (region ∷ regions) (at + i) k ≡ true
    go more (inl e) =
        let p = and_parts _ _ e in let q = and_parts _ _ p.1 in
        let low : region.base ≤ at = leb-true _ _ p.0 in let high : at + n ≤ region.base + length region.bytes = leb-true _ _ q.0 in
        let lower : region.base ≤ at + i = omega arith in let higher : at + i + k ≤ region.base + length region.bytes = omega arith in
        or_left _ _ (and_from _ _ (le-leb _ _ lower) (and_from _ _ (le-leb _ _ higher) q.1))
    go more (inr e) = or_right _ _ (more e)

-- what every changed byte keeps
pub kept-with_bytes : {X : Type 0} (P : List Region → X) → ((regions : List Region) (at byte : ℕ) → P (with_byte regions at byte) ≡ P regions) → (regions : List Region) (at : ℕ) (bytes : List ℕ) → P (with_bytes regions at bytes) ≡ P regions
unfolding with_bytes
kept-with_bytes P one regions at [] = refl
kept-with_bytes P one regions at (byte ∷ bytes) =
    kept-with_bytes P one (with_byte regions at byte) (at + 1) bytes ∙ one regions at byte

pub allowed-with_bytes : (right : Right) (regions : List Region) (at : ℕ) (bytes : List ℕ) (c n : ℕ) → allowed right (with_bytes regions at bytes) c n ≡ allowed right regions c n
allowed-with_bytes right regions at bytes c n =
    kept-with_bytes (λ some. allowed right some c n) (λ some a b. allowed-with_byte right some a b c n) regions at bytes

pub inside-with_bytes : (rights : Rights) (regions : List Region) (at : ℕ) (bytes : List ℕ) (c n : ℕ) → inside rights (with_bytes regions at bytes) c n ≡ inside rights regions c n
inside-with_bytes rights regions at bytes c n =
    kept-with_bytes (λ some. inside rights some c n) (λ some a b. inside-with_byte rights some a b c n) regions at bytes

pub covered-with_bytes : (regions : List Region) (at : ℕ) (bytes : List ℕ) (c : ℕ) → covered (with_bytes regions at bytes) c ≡ covered regions c
covered-with_bytes regions at bytes c =
    kept-with_bytes (λ some. covered some c) (λ some a b. covered-with_byte some a b c) regions at bytes

pub outlines-with_bytes : (regions : List Region) (at : ℕ) (bytes : List ℕ) → map outline (with_bytes regions at bytes) ≡ map outline regions
outlines-with_bytes = kept-with_bytes (λ some. map outline some) outlines-with_byte

pub write_xor_run-with_bytes : (regions : List Region) (at : ℕ) (bytes : List ℕ) → write_xor_run (with_bytes regions at bytes) ≡ write_xor_run regions
write_xor_run-with_bytes = kept-with_bytes write_xor_run write_xor_run-with_byte

pub all_apart-with_bytes : (regions : List Region) (at : ℕ) (bytes : List ℕ) → all_apart (with_bytes regions at bytes) ≡ all_apart regions
all_apart-with_bytes = kept-with_bytes all_apart all_apart-with_byte

-- bytes stay bytes

AreBytes-set : (bytes : List ℕ) (j byte : ℕ) → byte < 256 → AreBytes bytes → AreBytes (set bytes j byte)
AreBytes-set [] j byte lt h = h
AreBytes-set (x ∷ bytes) zero byte lt h = go
  where
    go : AreBytes (byte ∷ bytes)
    go zero = lt
    go (suc i) = h (suc i)
AreBytes-set (x ∷ bytes) (suc j) byte lt h = go (AreBytes-set bytes j byte lt (λ i. h (suc i)))
  where
    go : AreBytes (set bytes j byte) → AreBytes (x ∷ set bytes j byte)
    go more zero = h 0
    go more (suc i) = more i

IsBytes-with_byte : (regions : List Region) (at byte : ℕ) → byte < 256 → IsBytes regions → IsBytes (with_byte regions at byte)
unfolding with_byte
IsBytes-with_byte [] at byte lt h = tt
IsBytes-with_byte (region ∷ regions) at byte lt h = go (IsBytes-with_byte regions at byte lt h.1) (holds region at)
  where
    go : IsBytes (with_byte regions at byte) → (here : Bool) → IsBytes (cond here (put region (at - region.base) byte ∷ regions) (region ∷ with_byte regions at byte))
    go more true = (AreBytes-set region.bytes (at - region.base) byte lt h.0, h.1)
    go more false = (h.0, more)

pub IsBytes-with_bytes : (regions : List Region) (at : ℕ) (bytes : List ℕ) → AreBytes bytes → IsBytes regions → IsBytes (with_bytes regions at bytes)
unfolding with_bytes
IsBytes-with_bytes regions at [] lt h = h
IsBytes-with_bytes regions at (byte ∷ bytes) lt h =
    IsBytes-with_bytes (with_byte regions at byte) (at + 1) bytes (λ i. lt (suc i)) (IsBytes-with_byte regions at byte (lt 0) h)

pub byte_at-lt : (regions : List Region) (at : ℕ) → IsBytes regions → byte_at regions at < 256
unfolding byte_at
byte_at-lt [] at h = lit< tt
byte_at-lt (region ∷ regions) at h = go (byte_at-lt regions at h.1) (holds region at)
  where
    go : byte_at regions at < 256 → (here : Bool) → cond here (get_or region.bytes (at - region.base) 0) (byte_at regions at) < 256
    go more true = h.0 (at - region.base)
    go more false = more
