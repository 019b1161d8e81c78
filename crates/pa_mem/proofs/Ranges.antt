-- Laws of ranges of bytes, and of numbers in memory: what is read after a write.
-- Two ranges that don't meet are told by an implication: if the first begins before the second ends, it ends before
-- the second begins.
use Rattle.std.proofs.Common.{◌≡◌, ◌≢◌, ℕ, zero, suc, ◌+◌, ◌*◌, ◌/◌, ◌%◌, ◌^◌, ◌<◌, ◌≤◌, List, [], ◌∷◌, length, get_or, map, lit<, lit≤, refl, sym, ap, subst, ◌∙◌, arith}
use Rattle.std.specs.Prelude.{true}
use Rattle.std.specs.Int.{bytes_low_first, byte_at as digit}
use Rattle.std.proofs.Math.Nat.{pow-suc, pow-succ', one-le-pow, mod-lt, div-div-eq-div-mul}
use Rattle.std.proofs.Math.Arith.{mod-mul}
use Rattle.pa_mem.specs.declared.access.Rights.{Rights}
use Rattle.pa_mem.specs.Memory.{Region, Right, Run, allowed, inside, byte_at, with_byte, bytes_at, with_bytes, load, store, fetch, all_apart, write_xor_run, AreBytes, IsBytes}
use Rattle.pa_mem.proofs.Bytes.{covered, outline, covered-with_byte, allowed-covered, byte_at-with_byte-same, byte_at-with_byte-other, allowed-with_bytes, inside-with_bytes, covered-with_bytes, outlines-with_bytes, write_xor_run-with_bytes, all_apart-with_bytes, IsBytes-with_bytes, byte_at-lt}
use Rattle.pa_mem.proofs.Numbers.{store-with_bytes, length-bytes_low_first}

-- equal bytes

pub bytes_at-alike : (n : ℕ) (one two : List Region) (at : ℕ) → ((i : ℕ) → at ≤ i → i < at + n → byte_at two i ≡ byte_at one i) → bytes_at n two at ≡ bytes_at n one at
unfolding bytes_at
bytes_at-alike zero one two at h = refl
bytes_at-alike (suc n) one two at h =
    rw (h at (omega arith) (omega arith), bytes_at-alike n one two (at + 1) (λ i low high. h i (omega arith) (omega arith)))

pub load-alike : (n : ℕ) (one two : List Region) (at : ℕ) → ((i : ℕ) → at ≤ i → i < at + n → byte_at two i ≡ byte_at one i) → load n two at ≡ load n one at
unfolding load
load-alike zero one two at h = refl
load-alike (suc n) one two at h =
    rw (h at (omega arith) (omega arith), load-alike n one two (at + 1) (λ i low high. h i (omega arith) (omega arith)))

-- after bytes are written

pub byte_at-with_bytes-other : (regions : List Region) (at : ℕ) (bytes : List ℕ) (c : ℕ) → (c < at + length bytes → c < at) → byte_at (with_bytes regions at bytes) c ≡ byte_at regions c
unfolding with_bytes
byte_at-with_bytes-other regions at [] c h = refl
byte_at-with_bytes-other regions at (byte ∷ bytes) c h =
    let ne : c ≢ at = λ e. omega arith in
    byte_at-with_bytes-other (with_byte regions at byte) (at + 1) bytes c (λ l. omega arith) ∙ byte_at-with_byte-other regions at byte c ne

pub byte_at-with_bytes-same : (regions : List Region) (at : ℕ) (bytes : List ℕ) (i : ℕ) → ((j : ℕ) → j < length bytes → covered regions (at + j) ≡ true) → i < length bytes → byte_at (with_bytes regions at bytes) (at + i) ≡ get_or bytes i 0
unfolding with_bytes
byte_at-with_bytes-same regions at [] i c h = absurd (omega arith)
byte_at-with_bytes-same regions at (byte ∷ bytes) zero c h =
    let e : at + 0 ≡ at = omega arith in
    rw (e, byte_at-with_bytes-other (with_byte regions at byte) (at + 1) bytes at (λ l. omega arith)) (byte_at-with_byte-same regions at byte (rw e at (c 0 (omega arith))))
byte_at-with_bytes-same regions at (byte ∷ bytes) (suc i) c h =
    let e : at + suc i ≡ at + 1 + i = omega arith in
    let next : (j : ℕ) → j < length bytes → covered (with_byte regions at byte) (at + 1 + j) ≡ true = λ j l. let f : at + suc j ≡ at + 1 + j = omega arith in covered-with_byte regions at byte (at + 1 + j) ∙ rw f at (c (suc j) (omega arith)) in
    rw e (byte_at-with_bytes-same (with_byte regions at byte) (at + 1) bytes i next (omega arith))

pub bytes_at-with_bytes-other : (n : ℕ) (regions : List Region) (at : ℕ) (bytes : List ℕ) (c : ℕ) → (c < at + length bytes → c + n ≤ at) → bytes_at n (with_bytes regions at bytes) c ≡ bytes_at n regions c
bytes_at-with_bytes-other n regions at bytes c h =
    bytes_at-alike n regions (with_bytes regions at bytes) c (λ i low high. byte_at-with_bytes-other regions at bytes i (λ l. omega arith))

pub load-with_bytes-other : (n : ℕ) (regions : List Region) (at : ℕ) (bytes : List ℕ) (c : ℕ) → (c < at + length bytes → c + n ≤ at) → load n (with_bytes regions at bytes) c ≡ load n regions c
load-with_bytes-other n regions at bytes c h =
    load-alike n regions (with_bytes regions at bytes) c (λ i low high. byte_at-with_bytes-other regions at bytes i (λ l. omega arith))

pub bytes_at-with_bytes-same : (bytes : List ℕ) (regions : List Region) (at : ℕ) → ((j : ℕ) → j < length bytes → covered regions (at + j) ≡ true) → bytes_at (length bytes) (with_bytes regions at bytes) at ≡ bytes
unfolding bytes_at with_bytes
bytes_at-with_bytes-same [] regions at c = refl
bytes_at-with_bytes-same (byte ∷ bytes) regions at c =
    let e : at + 0 ≡ at = omega arith in
    let next : (j : ℕ) → j < length bytes → covered (with_byte regions at byte) (at + 1 + j) ≡ true = λ j l. let f : at + suc j ≡ at + 1 + j = omega arith in covered-with_byte regions at byte (at + 1 + j) ∙ rw f at (c (suc j) (omega arith)) in
    rw (byte_at-with_bytes-other (with_byte regions at byte) (at + 1) bytes at (λ l. omega arith), byte_at-with_byte-same regions at byte (rw e at (c 0 (omega arith))), bytes_at-with_bytes-same bytes (with_byte regions at byte) (at + 1) next)

-- what a stored number keeps

pub allowed-store : (n : ℕ) (right : Right) (regions : List Region) (at value c k : ℕ) → allowed right (store n regions at value) c k ≡ allowed right regions c k
allowed-store n right regions at value c k = rw (store-with_bytes n regions at value) (allowed-with_bytes right regions at (bytes_low_first 0 n value) c k)

pub inside-store : (n : ℕ) (rights : Rights) (regions : List Region) (at value c k : ℕ) → inside rights (store n regions at value) c k ≡ inside rights regions c k
inside-store n rights regions at value c k = rw (store-with_bytes n regions at value) (inside-with_bytes rights regions at (bytes_low_first 0 n value) c k)

pub covered-store : (n : ℕ) (regions : List Region) (at value c : ℕ) → covered (store n regions at value) c ≡ covered regions c
covered-store n regions at value c = rw (store-with_bytes n regions at value) (covered-with_bytes regions at (bytes_low_first 0 n value) c)

-- bases, lengths and rights
pub outlines-store : (n : ℕ) (regions : List Region) (at value : ℕ) → map outline (store n regions at value) ≡ map outline regions
outlines-store n regions at value = rw (store-with_bytes n regions at value) (outlines-with_bytes regions at (bytes_low_first 0 n value))

pub write_xor_run-store : (n : ℕ) (regions : List Region) (at value : ℕ) → write_xor_run (store n regions at value) ≡ write_xor_run regions
write_xor_run-store n regions at value = rw (store-with_bytes n regions at value) (write_xor_run-with_bytes regions at (bytes_low_first 0 n value))

pub all_apart-store : (n : ℕ) (regions : List Region) (at value : ℕ) → all_apart (store n regions at value) ≡ all_apart regions
all_apart-store n regions at value = rw (store-with_bytes n regions at value) (all_apart-with_bytes regions at (bytes_low_first 0 n value))

digit-lt : (i w : ℕ) → digit i w < 256
digit-lt zero w = mod-lt w (lit< tt)
digit-lt (suc i) w = mod-lt (w / 256 ^ suc i) (lit< tt)

bytes_low_first-lt : (i n w : ℕ) → AreBytes (bytes_low_first i n w)
bytes_low_first-lt i zero w k = lit< tt
bytes_low_first-lt i (suc n) w zero = digit-lt i w
bytes_low_first-lt i (suc n) w (suc k) = bytes_low_first-lt (suc i) n w k

pub IsBytes-store : (n : ℕ) (regions : List Region) (at value : ℕ) → IsBytes regions → IsBytes (store n regions at value)
IsBytes-store n regions at value h =
    subst IsBytes (sym (store-with_bytes n regions at value)) (IsBytes-with_bytes regions at (bytes_low_first 0 n value) (bytes_low_first-lt 0 n value) h)

-- what is read after a number is stored

pub byte_at-store-other : (n : ℕ) (regions : List Region) (at value c : ℕ) → (c < at + n → c < at) → byte_at (store n regions at value) c ≡ byte_at regions c
byte_at-store-other n regions at value c h =
    let size = length-bytes_low_first 0 n value in
    rw (store-with_bytes n regions at value) (byte_at-with_bytes-other regions at (bytes_low_first 0 n value) c (rw size h))

pub bytes_at-store-other : (k n : ℕ) (regions : List Region) (at value c : ℕ) → (c < at + n → c + k ≤ at) → bytes_at k (store n regions at value) c ≡ bytes_at k regions c
bytes_at-store-other k n regions at value c h =
    bytes_at-alike k regions (store n regions at value) c (λ i low high. byte_at-store-other n regions at value i (λ l. omega arith))

pub load-store-other : (k n : ℕ) (regions : List Region) (at value c : ℕ) → (c < at + n → c + k ≤ at) → load k (store n regions at value) c ≡ load k regions c
load-store-other k n regions at value c h =
    load-alike k regions (store n regions at value) c (λ i low high. byte_at-store-other n regions at value i (λ l. omega arith))

pub fetch-store-other : (n : ℕ) (regions : List Region) (at value c : ℕ) → (c < at + n → c + 4 ≤ at) → fetch (store n regions at value) c ≡ fetch regions c
unfolding fetch
fetch-store-other n regions at value c h = rw (allowed-store n Run regions at value c 4, load-store-other 4 n regions at value c h)

get_or-bytes_low_first : (i n w k : ℕ) → k < n → get_or (bytes_low_first i n w) k 0 ≡ digit (i + k) w
get_or-bytes_low_first i zero w k h = absurd (omega arith)
get_or-bytes_low_first i (suc n) w zero h = let e : i ≡ i + 0 = omega arith in ap (λ j. digit j w) e
get_or-bytes_low_first i (suc n) w (suc k) h =
    let e : suc i + k ≡ i + suc k = omega arith in get_or-bytes_low_first (suc i) n w k (omega arith) ∙ ap (λ j. digit j w) e

digit-is : (i w : ℕ) → digit i w ≡ w / 256 ^ i % 256
digit-is zero w = omega arith
digit-is (suc i) w = refl

-- each byte of the stored number
pub byte_at-store-same : (n : ℕ) (regions : List Region) (at value i : ℕ) → ((j : ℕ) → j < n → covered regions (at + j) ≡ true) → i < n → byte_at (store n regions at value) (at + i) ≡ value / 256 ^ i % 256
byte_at-store-same n regions at value i c h =
    let size = length-bytes_low_first 0 n value in
    let z : 0 + i ≡ i = omega arith in
    let written : byte_at (with_bytes regions at (bytes_low_first 0 n value)) (at + i) ≡ get_or (bytes_low_first 0 n value) i 0 = byte_at-with_bytes-same regions at (bytes_low_first 0 n value) i (rw size c) (rw size h) in
    rw (store-with_bytes n regions at value, written) (get_or-bytes_low_first 0 n value i h ∙ ap (λ j. digit j value) z ∙ digit-is i value)

digits-join : (w n : ℕ) → w % 256 + 256 * (w / 256 % 256 ^ n) ≡ w % 256 ^ suc n
digits-join w n =
    let p : 0 < 256 ^ n = one-le-pow n 256 (lit≤ tt) in
    let e = mod-mul w {m = 256 ^ n} {c = 256} p (lit< tt) in
    let r : (w / 256 % 256 ^ n) * 256 + w % 256 ≡ w % 256 + 256 * (w / 256 % 256 ^ n) = omega arith in
    sym (ap (λ z. w % z) (pow-suc 256 n) ∙ e ∙ r)

digit_next : (w i : ℕ) → w / 256 ^ suc i % 256 ≡ w / 256 / 256 ^ i % 256
digit_next w i = ap (λ z. w / z % 256) (pow-succ' 256 i) ∙ ap (λ z. z % 256) (sym (div-div-eq-div-mul w 256 (256 ^ i)))

-- the number that given bytes make
pub load-of_bytes : (n : ℕ) (regions : List Region) (at w : ℕ) → ((i : ℕ) → i < n → byte_at regions (at + i) ≡ w / 256 ^ i % 256) → load n regions at ≡ w % 256 ^ n
unfolding load
load-of_bytes zero regions at w h = omega arith
load-of_bytes (suc n) regions at w h =
    let z : at + 0 ≡ at = omega arith in
    let one : w / 1 % 256 ≡ w % 256 = omega arith in
    let here : byte_at regions at ≡ w % 256 = ap (λ x. byte_at regions x) (sym z) ∙ h 0 (omega arith) ∙ one in
    let rest = load-of_bytes n regions (at + 1) (w / 256) (λ i l. let e : at + 1 + i ≡ at + suc i = omega arith in ap (λ x. byte_at regions x) e ∙ h (suc i) (omega arith) ∙ digit_next w i) in
    rw (here, rest) (digits-join w n)

pub load-store-same : (n : ℕ) (regions : List Region) (at value : ℕ) → ((j : ℕ) → j < n → covered regions (at + j) ≡ true) → load n (store n regions at value) at ≡ value % 256 ^ n
load-store-same n regions at value c =
    load-of_bytes n (store n regions at value) at value (λ i h. byte_at-store-same n regions at value i c h)

-- the same where the bytes may be written, or read, or run
pub load-store-allowed : (right : Right) (n : ℕ) (regions : List Region) (at value : ℕ) → allowed right regions at n ≡ true → load n (store n regions at value) at ≡ value % 256 ^ n
load-store-allowed right n regions at value h =
    load-store-same n regions at value (λ j l. allowed-covered right regions at n j h l)

-- a number of n bytes
pub load-lt : (n : ℕ) (regions : List Region) (at : ℕ) → IsBytes regions → load n regions at < 256 ^ n
unfolding load
load-lt zero regions at h = lit< tt
load-lt (suc n) regions at h =
    let here = byte_at-lt regions at h in let rest = load-lt n regions (at + 1) h in let p = pow-suc 256 n in omega arith
