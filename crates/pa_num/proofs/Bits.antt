-- Bits, fields and the masks that the code takes them by.
use Rattle.std.proofs.Common.{◌≡◌, ℕ, ◌+◌, ◌-◌, ◌*◌, ◌/◌, ◌%◌, ◌^◌, ◌<◌, ◌≤◌, bit_and, bit_or, ap, sym, ◌∙◌, arith, subst, lit<}
use Rattle.std.specs.Int.{bit_at}
use Rattle.std.proofs.lemmas.Nat.{pow_pos, pow-add, shr-shr, shr_split, mod-pow-add, field_of, mod_below, mod_low, shr_high, and-not, or_block, or_shifted, and_comm, mul-add-lt}
use Rattle.std.specs.Int.Bits.{or_zero_r}
use Rattle.std.proofs.lemmas.Nat.Bits.{and_high, ones_shr, bit_at_cat_low, bit_at_cat_high, bit_at_above, bit_at_ones}
use Rattle.std.proofs.Math.Nat.{pow-le-pow_right, mod-eq_of_lt}
use Rattle.pa_num.specs.Bits.{field, with_field}

-- all ones of 64 bits, moved down so far that the lowest `bits` stay
pub ones_below : (bits : ℕ) → bits ≤ 64 → 18446744073709551615 / 2 ^ (64 - bits) ≡ 2 ^ bits - 1
ones_below bits h =
    let left : 64 - (64 - bits) ≡ bits = omega arith in
    let e : (2 ^ 64 - 1) / 2 ^ (64 - bits) ≡ 2 ^ (64 - (64 - bits)) - 1 = ones_shr 64 (64 - bits) (omega arith) in
    rw left at e

pub bit_at_low : (n bits k : ℕ) → k < bits → bit_at (n % 2 ^ bits) k ≡ bit_at n k
bit_at_low n bits k h = sym (bit_at_cat_low (n / 2 ^ bits) bits (n % 2 ^ bits) k h) ∙ ap (λ z. bit_at z k) (shr_split n bits)

pub bit_at_low_above : (n bits k : ℕ) → bits ≤ k → bit_at (n % 2 ^ bits) k ≡ 0
bit_at_low_above n bits k h = bit_at_above (n % 2 ^ bits) bits k (mod_below n (2 ^ bits) (pow_pos bits)) h

pub bit_at_shifted : (n low k : ℕ) → bit_at (n / 2 ^ low) k ≡ bit_at n (low + k)
bit_at_shifted n low k = ap (λ z. z % 2) (shr-shr n low k)

-- the field and what stands below it
pub field_and_below : (low length word : ℕ) → word % 2 ^ (low + length) ≡ field low length word * 2 ^ low + word % 2 ^ low
field_and_below low length word =
    let turned : length + low ≡ low + length = omega arith in
    let e : word % 2 ^ (length + low) ≡ field low length word * 2 ^ low + word % 2 ^ low = mod-pow-add word length low in
    subst (λ z. word % 2 ^ z ≡ field low length word * 2 ^ low + word % 2 ^ low) turned e

-- a word is what stands above its field, the field, and what stands below
pub with_field-same : (low length word : ℕ) → with_field low length word (field low length word) ≡ word
with_field-same low length word =
    ap (λ z. word / 2 ^ (low + length) * 2 ^ (low + length) + z) (sym (field_and_below low length word)) ∙ shr_split word (low + length)

pub value_fits : (low length word value : ℕ) → value < 2 ^ length → value * 2 ^ low + word % 2 ^ low < 2 ^ (low + length)
value_fits low length word value h =
    subst (λ z. value * 2 ^ low + word % 2 ^ low < z) (sym (pow-add 2 low length))
    (mul-add-lt value (2 ^ low) (word % 2 ^ low) (2 ^ length) h (mod_below word (2 ^ low) (pow_pos low)))

-- what was put is what is got
pub field-with_field : (low length word value : ℕ) → value < 2 ^ length → field low length (with_field low length word value) ≡ value
field-with_field low length word value h =
    let new = with_field low length word value in
    let turned : length + low ≡ low + length = omega arith in
    let rest : new % 2 ^ (low + length) ≡ value * 2 ^ low + word % 2 ^ low = mod_low (word / 2 ^ (low + length)) (low + length) (value * 2 ^ low + word % 2 ^ low) (value_fits low length word value h) in
    let e : new % 2 ^ (length + low) / 2 ^ low ≡ field low length new = field_of new length low in
    sym e ∙ ap (λ z. new % 2 ^ z / 2 ^ low) turned ∙ ap (λ z. z / 2 ^ low) rest ∙ shr_high value low (word % 2 ^ low) (mod_below word (2 ^ low) (pow_pos low))

-- the bits below stay
pub bit_at-with_field_below : (low length word value k : ℕ) → k < low → bit_at (with_field low length word value) k ≡ bit_at word k
bit_at-with_field_below low length word value k h =
    let above = word / 2 ^ (low + length) * 2 ^ length + value in
    let e : with_field low length word value ≡ above * 2 ^ low + word % 2 ^ low =
    let p = ap (λ z. word / 2 ^ (low + length) * z) (pow-add 2 low length) in omega arith in
    ap (λ z. bit_at z k) e ∙ bit_at_cat_low above low (word % 2 ^ low) k h ∙ bit_at_low word low k h

-- the bits above stay
pub bit_at-with_field_above : (low length word value k : ℕ) → value < 2 ^ length → low + length ≤ k → bit_at (with_field low length word value) k ≡ bit_at word k
bit_at-with_field_above low length word value k f h =
    let n = low + length in
    bit_at_cat_high (word / 2 ^ n) n (value * 2 ^ low + word % 2 ^ low) k (value_fits low length word value f) h
    ∙ (bit_at_shifted word n (k - n) ∙ (let e : n + (k - n) ≡ k = omega arith in ap (λ z. bit_at word z) e))

pub within_64 : (bits : ℕ) → bits ≤ 64 → 2 ^ bits ≤ 2 ^ 64
within_64 bits h = pow-le-pow_right {n = 2} (lit< tt) h

-- the mask of a field in 64 bits
pub mask-shifted : (low length : ℕ) → low + length ≤ 64 → (2 ^ length - 1) * 2 ^ low % 2 ^ 64 ≡ 2 ^ (length + low) - 2 ^ low
mask-shifted low length h =
    let p : 2 ^ (length + low) ≡ 2 ^ length * 2 ^ low = pow-add 2 length low in
    let one : 1 ≤ 2 ^ length = pow_pos length in
    let some : 1 ≤ 2 ^ low = pow_pos low in
    let most = within_64 (length + low) (omega arith) in
    let next : 2 ^ length - 1 + 1 ≡ 2 ^ length = omega arith in
    let times = ap (λ z. z * 2 ^ low) next in
    let e : (2 ^ length - 1) * 2 ^ low ≡ 2 ^ (length + low) - 2 ^ low = omega arith in
    rw e (mod-eq_of_lt (omega arith))

-- the word without its field
pub cleared_is : (low length word : ℕ) → low + length ≤ 64 → word < 2 ^ 64 → bit_and word (2 ^ 64 - 1 - (2 ^ (length + low) - 2 ^ low)) ≡ word / 2 ^ (low + length) * 2 ^ length * 2 ^ low + word % 2 ^ low
cleared_is low length word h f =
    let mask = 2 ^ (length + low) - 2 ^ low in
    let most = within_64 (length + low) (omega arith) in
    let some : 1 ≤ 2 ^ low = pow_pos low in
    let a : bit_and (2 ^ 64 - 1 - mask) word + bit_and mask word ≡ word = and-not 64 mask word (omega arith) f in
    let b : bit_and word mask ≡ field low length word * 2 ^ low = and_high word length low in
    let c : bit_and mask word ≡ bit_and word mask = and_comm mask word in
    let d : bit_and word (2 ^ 64 - 1 - mask) ≡ bit_and (2 ^ 64 - 1 - mask) word = and_comm word (2 ^ 64 - 1 - mask) in
    let e : with_field low length word (field low length word) ≡ word = with_field-same low length word in
    let p = ap (λ z. word / 2 ^ (low + length) * z) (pow-add 2 low length) in
    omega arith

-- the value in the place of the cleared field
pub put_is : (low length word value : ℕ) → value < 2 ^ length → bit_or (word / 2 ^ (low + length) * 2 ^ length * 2 ^ low + word % 2 ^ low) (value * 2 ^ low) ≡ with_field low length word value
put_is low length word value h =
    let above = word / 2 ^ (low + length) in
    let a : bit_or (above * 2 ^ length * 2 ^ low + word % 2 ^ low) (value * 2 ^ low + 0) ≡ bit_or (above * 2 ^ length) value * 2 ^ low + bit_or (word % 2 ^ low) 0 =
    or_block low (above * 2 ^ length) value (word % 2 ^ low) 0 (mod_below word (2 ^ low) (pow_pos low)) (pow_pos low) in
    let b : bit_or (above * 2 ^ length) value ≡ above * 2 ^ length + value = or_shifted above length value h in
    let c : bit_or (word % 2 ^ low) 0 ≡ word % 2 ^ low = or_zero_r (word % 2 ^ low) in
    let e : value * 2 ^ low + 0 ≡ value * 2 ^ low = omega arith in
    let p = ap (λ z. above * z) (pow-add 2 low length) in
    ap (bit_or (above * 2 ^ length * 2 ^ low + word % 2 ^ low)) (sym e) ∙ (a ∙ rw (b, c) (omega arith))

-- copies of a sign above `bits` bits
pub signs_above : (bits : ℕ) → bits ≤ 64 → 2 ^ 64 - 2 ^ bits ≡ (2 ^ (64 - bits) - 1) * 2 ^ bits
signs_above bits h =
    let joined : 64 - bits + bits ≡ 64 = omega arith in
    let p : 2 ^ 64 ≡ 2 ^ (64 - bits) * 2 ^ bits = ap (λ z. 2 ^ z) (sym joined) ∙ pow-add 2 (64 - bits) bits in
    let one : 1 ≤ 2 ^ (64 - bits) = pow_pos (64 - bits) in
    let next : 2 ^ (64 - bits) - 1 + 1 ≡ 2 ^ (64 - bits) = omega arith in
    let times = ap (λ z. z * 2 ^ bits) next in
    omega arith

pub bit_at-signs_below : (low bits k : ℕ) → bits ≤ 64 → k < bits → bit_at (low + (2 ^ 64 - 2 ^ bits)) k ≡ bit_at low k
bit_at-signs_below low bits k h f =
    let e : low + (2 ^ 64 - 2 ^ bits) ≡ (2 ^ (64 - bits) - 1) * 2 ^ bits + low = omega (arith, signs_above bits h) in
    ap (λ z. bit_at z k) e ∙ bit_at_cat_low (2 ^ (64 - bits) - 1) bits low k f

pub bit_at-signs_above : (low bits k : ℕ) → bits ≤ 64 → low < 2 ^ bits → bits ≤ k → k < 64 → bit_at (low + (2 ^ 64 - 2 ^ bits)) k ≡ 1
bit_at-signs_above low bits k h f g l =
    let e : low + (2 ^ 64 - 2 ^ bits) ≡ (2 ^ (64 - bits) - 1) * 2 ^ bits + low = omega (arith, signs_above bits h) in
    ap (λ z. bit_at z k) e ∙ (bit_at_cat_high (2 ^ (64 - bits) - 1) bits low k f g ∙ bit_at_ones (64 - bits) (k - bits) (omega arith))
