-- Numbers as the bytes of memory, the lowest first.
use Rattle.std.proofs.Common.{◌≡◌, ℕ, zero, suc, ◌+◌, ◌/◌, ◌%◌, ◌^◌, ◌≤◌, List, length, take, refl, sym, ap, ◌∙◌, arith}
use Rattle.std.specs.Int.{bytes_low_first, byte_at as digit, to_le_bytes, w64}
use Rattle.std.proofs.Math.Nat.{pow-succ', div-div-eq-div-mul}
use Rattle.byteorder.specs.Endian.{little_number}
use Rattle.byteorder.specs.Numbers.{little_from-cons}
use Rattle.pa_mem.specs.Memory.{Region, byte_at, bytes_at, load, store, with_byte, with_bytes}

pub length-bytes_at : (n : ℕ) (regions : List Region) (at : ℕ) → length (bytes_at n regions at) ≡ n
unfolding bytes_at
length-bytes_at zero regions at = refl
length-bytes_at (suc n) regions at = ap suc (length-bytes_at n regions (at + 1))

-- the number that the bytes stand for
pub load-bytes_at : (n : ℕ) (regions : List Region) (at : ℕ) → load n regions at ≡ little_number n (bytes_at n regions at)
unfolding load bytes_at
load-bytes_at zero regions at = refl
load-bytes_at (suc n) regions at =
    rw (load-bytes_at n regions (at + 1), little_from-cons 0 n (byte_at regions at) (bytes_at n regions (at + 1)))

pub digit-next : (i w : ℕ) → digit (suc i) w ≡ digit i (w / 256)
digit-next zero w = refl
digit-next (suc i) w =
    ap (λ z. w / z % 256) (pow-succ' 256 (suc i)) ∙ ap (λ z. z % 256) (sym (div-div-eq-div-mul w 256 (256 ^ suc i)))

bytes_low_first-next : (i n w : ℕ) → bytes_low_first (suc i) n w ≡ bytes_low_first i n (w / 256)
bytes_low_first-next i zero w = refl
bytes_low_first-next i (suc n) w = rw (digit-next i w, bytes_low_first-next (suc i) n w)

-- a number is stored as its bytes
pub store-with_bytes : (n : ℕ) (regions : List Region) (at value : ℕ) → store n regions at value ≡ with_bytes regions at (bytes_low_first 0 n value)
unfolding store with_bytes
store-with_bytes zero regions at value = refl
store-with_bytes (suc n) regions at value =
    rw (store-with_bytes n (with_byte regions at (value % 256)) (at + 1) (value / 256), bytes_low_first-next 0 n value)

pub length-bytes_low_first : (i n w : ℕ) → length (bytes_low_first i n w) ≡ n
length-bytes_low_first i zero w = refl
length-bytes_low_first i (suc n) w = ap suc (length-bytes_low_first (suc i) n w)

pub take-bytes_low_first : (n i k w : ℕ) → n ≤ k → take n (bytes_low_first i k w) ≡ bytes_low_first i n w
take-bytes_low_first zero i k w h = refl
take-bytes_low_first (suc n) i zero w h = absurd (omega arith)
take-bytes_low_first (suc n) i (suc k) w h = rw (take-bytes_low_first n (suc i) k w (omega arith))

-- the lowest bytes of a number of 64 bits
pub store-to_le_bytes : (n : ℕ) (regions : List Region) (at value : ℕ) → n ≤ 8 → store n regions at value ≡ with_bytes regions at (take n (to_le_bytes w64 value))
store-to_le_bytes n regions at value h =
    store-with_bytes n regions at value ∙ ap (with_bytes regions at) (sym (take-bytes_low_first n 0 8 value h))

-- what a read gives of the bytes that it found
pub ruleset reading = (length-bytes_at, load-bytes_at)
