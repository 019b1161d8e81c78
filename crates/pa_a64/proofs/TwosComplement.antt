-- Signed fields as two's complement of their width.
use Rattle.std.proofs.Common.{◌≡◌, ℕ, suc, ◌+◌, ◌-◌, ◌*◌, ◌/◌, ◌%◌, ◌^◌, ◌<◌, ◌≤◌, ℤ, refl, sym, ap, subst, ◌∙◌, arith, w32, w64, to_z, of_z, SFits}
use mir.Val.{hbits}
use Rattle.std.specs.Prelude.{Bool, true, false, cond, ltb, pos, negsuc}
use mir.Syntax.{Width}
use Rattle.std.proofs.lemmas.Int.{to_z-of_z}
use Rattle.std.proofs.lemmas.Bool.{ltb-true, ltb-false, lt-ltb, le-ltb}
use Rattle.std.proofs.lemmas.Nat.{pow_pos, pow-add, mod_low, shr_high}
use Rattle.std.proofs.Math.Nat.{mod-eq_of_lt, pow-le-pow_right}
use Rattle.pa_num.specs.Bits.{truncated, sign_extended}
use Rattle.pa_a64.specs.Decoding.{IsSigned, bits_of_signed, signed_of_bits}

twice_half : (length : ℕ) → 1 ≤ length → 2 ^ length ≡ 2 * 2 ^ (length - 1)
twice_half length h =
    let e : 1 + (length - 1) ≡ length = omega arith in
    ap (λ z. 2 ^ z) (sym e) ∙ pow-add 2 1 (length - 1)

pub bits_fit : (length : ℕ) (z : ℤ) → 1 ≤ length → IsSigned length z → bits_of_signed length z < 2 ^ length
bits_fit length (pos n) h f = omega (arith, twice_half length h)
bits_fit length (negsuc n) h f = omega (arith, twice_half length h, pow_pos length)

pub IsSigned-signed : (length bits : ℕ) → 1 ≤ length → bits < 2 ^ length → IsSigned length (signed_of_bits length bits)
IsSigned-signed length bits h f = go (ltb bits (2 ^ (length - 1))) refl
  where
    go : (b : Bool) → ltb bits (2 ^ (length - 1)) ≡ b → IsSigned length (cond b (pos bits) (negsuc (2 ^ length - suc bits)))
    go true e = ltb-true _ _ e
    go false e = omega (arith, twice_half length h, ltb-false _ _ e)

pub signed-bits : (length : ℕ) (z : ℤ) → 1 ≤ length → IsSigned length z → signed_of_bits length (bits_of_signed length z) ≡ z
signed-bits length (pos n) h f = rw (lt-ltb _ _ f) refl
signed-bits length (negsuc n) h f =
    let twice = twice_half length h in
    let le : 2 ^ (length - 1) ≤ 2 ^ length - suc n = omega arith in
    rw (le-ltb _ _ le) (let e : 2 ^ length - suc (2 ^ length - suc n) ≡ n = omega arith in ap negsuc e)

pub bits-signed : (length bits : ℕ) → bits < 2 ^ length → bits_of_signed length (signed_of_bits length bits) ≡ bits
bits-signed length bits f = go (ltb bits (2 ^ (length - 1)))
  where
    go : (b : Bool) → bits_of_signed length (cond b (pos bits) (negsuc (2 ^ length - suc bits))) ≡ bits
    go true = refl
    go false = omega arith

within_32 : (length : ℕ) → length ≤ 32 → 2 ^ length ≤ 2 ^ 32
within_32 length h = pow-le-pow_right {n = 2} (omega arith) h

half_within : (length : ℕ) → length ≤ 32 → 2 ^ (length - 1) ≤ 2 ^ 31
half_within length h = pow-le-pow_right {n = 2} (omega arith) (let f : length - 1 ≤ 31 = omega arith in f)

-- what the code's casts and masks give
pub truncated-signed : (length : ℕ) (z : ℤ) → 1 ≤ length → length ≤ 32 → IsSigned length z → truncated (of_z w64 z) length ≡ bits_of_signed length z
truncated-signed length (pos n) h l f = mod-eq_of_lt (bits_fit length (pos n) h f)
truncated-signed length (negsuc n) h l f =
    let joined : 64 - length + length ≡ 64 = omega arith in
    let p : 2 ^ 64 ≡ 2 ^ (64 - length) * 2 ^ length = ap (λ z. 2 ^ z) (sym joined) ∙ pow-add 2 (64 - length) length in
    let next : 2 ^ (64 - length) - 1 + 1 ≡ 2 ^ (64 - length) = omega (arith, pow_pos (64 - length)) in
    let times = ap (λ z. z * 2 ^ length) next in
    let twice = twice_half length h in
    let some = pow_pos length in
    let e : 2 ^ 64 - suc n ≡ (2 ^ (64 - length) - 1) * 2 ^ length + (2 ^ length - suc n) = omega arith in
    ap (λ z. z % 2 ^ length) e ∙ mod_low (2 ^ (64 - length) - 1) length (2 ^ length - suc n) (omega arith)

pub signed-extended : (length bits : ℕ) → 1 ≤ length → length ≤ 32 → bits < 2 ^ length → to_z w64 (sign_extended bits length) ≡ signed_of_bits length bits
signed-extended length bits h l f = go (ltb bits (2 ^ (length - 1))) refl
  where
    go : (b : Bool) → ltb bits (2 ^ (length - 1)) ≡ b → to_z w64 (sign_extended bits length) ≡ cond b (pos bits) (negsuc (2 ^ length - suc bits))
    go true e =
        let lt = ltb-true _ _ e in
        let most = within_32 length l in
        let start : bits ≡ 0 * 2 ^ (length - 1) + bits = omega arith in
        let top : bits / 2 ^ (length - 1) ≡ 0 = ap (λ z. z / 2 ^ (length - 1)) start ∙ shr_high 0 (length - 1) bits lt in
        let whole : bits % 2 ^ length ≡ bits = mod-eq_of_lt f in
        let low : bits < 2 ^ 63 = omega arith in
        rw (top, whole, lt-ltb bits (2 ^ 63) low) refl
    go false e =
        let le = ltb-false _ _ e in
        let most = within_32 length l in
        let twice = twice_half length h in
        let parts : bits ≡ 1 * 2 ^ (length - 1) + (bits - 2 ^ (length - 1)) = omega arith in
        let top : bits / 2 ^ (length - 1) ≡ 1 = ap (λ z. z / 2 ^ (length - 1)) parts ∙ shr_high 1 (length - 1) (bits - 2 ^ (length - 1)) (omega arith) in
        let whole : bits % 2 ^ length ≡ bits = mod-eq_of_lt f in
        let high : 2 ^ 63 ≤ bits + (2 ^ 64 - 2 ^ length) = omega arith in
        rw (top, whole, le-ltb (bits + (2 ^ 64 - 2 ^ length)) (2 ^ 63) high)
        (let same : 2 ^ 64 - suc (bits + (2 ^ 64 - 2 ^ length)) ≡ 2 ^ length - suc bits = omega arith in ap negsuc same)

pub SFits-signed : (length : ℕ) (z : ℤ) → length ≤ 32 → IsSigned length z → SFits w32 z
SFits-signed length (pos n) l f = record { sfits = omega (arith, half_within length l) }
SFits-signed length (negsuc n) l f = record { sfits = omega (arith, half_within length l) }

-- a number that was passed on
pub bits-passed : (w : Width) (length : ℕ) (z : ℤ) → SFits w z → bits_of_signed length (to_z w (of_z w z)) ≡ bits_of_signed length z
bits-passed w length z f = ap (bits_of_signed length) (to_z-of_z w z f)

pub bits-widened : (w : Width) (length : ℕ) (y z : ℤ) → SFits w z → SFits w32 y → y ≡ to_z w (of_z w z) → bits_of_signed length (to_z w32 (of_z w32 y)) ≡ bits_of_signed length z
bits-widened w length y z f g e = bits-passed w32 length y g ∙ (ap (bits_of_signed length) e ∙ bits-passed w length z f)

half_below : (w : Width) (length : ℕ) → length ≤ hbits w + 1 → 2 ^ (length - 1) ≤ 2 ^ hbits w
half_below w length h = pow-le-pow_right {n = 2} (omega arith) (let f : length - 1 ≤ hbits w = omega arith in f)

SFits-within : (w : Width) (length : ℕ) (z : ℤ) → length ≤ hbits w + 1 → IsSigned length z → SFits w z
SFits-within w length (pos n) l f = record { sfits = omega (arith, half_below w length l) }
SFits-within w length (negsuc n) l f = record { sfits = omega (arith, half_below w length l) }

-- a field's number, taken as signed and narrowed to its type
pub signed-got : (w : Width) (length : ℕ) (z : ℤ) (bits : ℕ) → 1 ≤ length → length ≤ hbits w + 1 → z ≡ signed_of_bits length bits → bits < 2 ^ length → to_z w (of_z w z) ≡ signed_of_bits length bits
signed-got w length z bits h l e f =
    to_z-of_z w z (SFits-within w length z l (subst (IsSigned length) (sym e) (IsSigned-signed length bits h f))) ∙ e

pub signed-narrowed : (w : Width) (length : ℕ) (z : ℤ) (bits : ℕ) → 1 ≤ length → length ≤ hbits w + 1 → length ≤ 32 → z ≡ signed_of_bits length bits → bits < 2 ^ length → to_z w (of_z w (to_z w32 (of_z w32 z))) ≡ signed_of_bits length bits
signed-narrowed w length z bits h l m e f =
    let fits = subst (IsSigned length) (sym e) (IsSigned-signed length bits h f) in
    ap (λ v. to_z w (of_z w v)) (to_z-of_z w32 z (SFits-within w32 length z m fits)) ∙ signed-got w length z bits h l e f
