-- What is written into a slot is read from it, and what is read was written.
use Rattle.std.proofs.Common.{◌≡◌, ℕ, zero, suc, ◌+◌, ◌-◌, ◌*◌, ◌≤◌, ◌<◌, ◌^◌, Bool, true, false, cond, ltb, eqb, ◌&&◌, not, Ok, Err, refl, sym, ap, ◌∙◌, arith, inl, inr}
use Rattle.std.specs.Prelude.{ℤ, pos, negsuc, ◌≤ℤ◌, ◌<ℤ◌, ◌-ℤ◌, IfOk}
use Rattle.std.proofs.lemmas.Bool.{eqb-true, cases_lt, lt-ltb, le-ltb, not-false, not-true}
use Rattle.std.proofs.lemmas.Int.{ints}
use Rattle.pa_num.specs.declared.fault.ImageRule.{ImageRule}
use Rattle.pa_num.specs.declared.fault.ImageRule.TheVariants.{F3}
use Rattle.pa_num.specs.Bits.{field}
use Rattle.pa_pac.specs.declared.key.Key.{Key}
use Rattle.pa_pac.specs.declared.key.Key.TheVariants.{IA, IB, DA, DB, GA}
use Rattle.pa_pac.specs.Key.{key_number}
use Rattle.pa_fixups.specs.declared.kind.Sig.{Sig}
use Rattle.pa_fixups.specs.declared.kind.FixKind.{FixKind}
use Rattle.pa_fixups.specs.declared.kind.FixKind.TheVariants.{Rebase, Bind, AuthRebase, AuthBind}
use Rattle.pa_fixups.specs.Slots.{bit, low_bits, signed_bits, parts_of, packed, FieldsFit, key_of, sig_at, is_bind, is_auth, kind_in, kind_of, next_of, zeros_hold, slot_of, IsWordOf}

-- ---- the fields of the four words

rebase : (t h n w : ℕ) → t < 2 ^ 43 → h < 2 ^ 8 → n < 2 ^ 11 → w ≡ t + 2 ^ 43 * (h + 2 ^ 8 * n)
    → (field 0 43 w ≡ t) × (field 43 8 w ≡ h) × (field 51 11 w ≡ n) × (field 62 1 w ≡ 0) × (field 63 1 w ≡ 0)
rebase t h n w ft fh fn e = (omega arith, omega arith, omega arith, omega arith, omega arith)

bind : (o x n w : ℕ) → o < 2 ^ 16 → x < 2 ^ 19 → n < 2 ^ 11 → w ≡ o + 2 ^ 16 * (2 ^ 16 * (x + 2 ^ 19 * (n + 2 ^ 11)))
    → (field 0 16 w ≡ o) × (field 16 16 w ≡ 0) × (field 32 19 w ≡ x) × (field 51 11 w ≡ n) × (field 62 1 w ≡ 1) × (field 63 1 w ≡ 0)
bind o x n w fo fx fn e = (omega arith, omega arith, omega arith, omega arith, omega arith, omega arith)

auth_rebase : (t d a k n w : ℕ) → t < 2 ^ 32 → d < 2 ^ 16 → a < 2 → k < 4 → n < 2 ^ 11 → w ≡ t + 2 ^ 32 * (d + 2 ^ 16 * (a + 2 * (k + 4 * (n + 2 ^ 11 * 2))))
    → (field 0 32 w ≡ t) × (field 32 16 w ≡ d) × (field 48 1 w ≡ a) × (field 49 2 w ≡ k) × (field 51 11 w ≡ n) × (field 62 1 w ≡ 0) × (field 63 1 w ≡ 1)
auth_rebase t d a k n w ft fd fa fk fn e = (omega arith, omega arith, omega arith, omega arith, omega arith, omega arith, omega arith)

auth_bind : (o d a k n w : ℕ) → o < 2 ^ 16 → d < 2 ^ 16 → a < 2 → k < 4 → n < 2 ^ 11 → w ≡ o + 2 ^ 16 * (2 ^ 16 * (d + 2 ^ 16 * (a + 2 * (k + 4 * (n + 2 ^ 11 * 3)))))
    → (field 0 16 w ≡ o) × (field 16 16 w ≡ 0) × (field 32 16 w ≡ d) × (field 48 1 w ≡ a) × (field 49 2 w ≡ k) × (field 51 11 w ≡ n) × (field 62 1 w ≡ 1) × (field 63 1 w ≡ 1)
auth_bind o d a k n w fo fd fa fk fn e = (omega arith, omega arith, omega arith, omega arith, omega arith, omega arith, omega arith, omega arith)

-- ---- values and their numbers, both ways

pub key_of-key_number : (key : Key) → key_number key < 4 → key_of (key_number key) ≡ key
key_of-key_number IA h = refl
key_of-key_number IB h = refl
key_of-key_number DA h = refl
key_of-key_number DB h = refl
key_of-key_number GA h = absurd (omega arith)

key_number-key_of : (n : ℕ) → n < 4 → key_number (key_of n) ≡ n
key_number-key_of zero h = refl
key_number-key_of (suc zero) h = refl
key_number-key_of (suc (suc zero)) h = refl
key_number-key_of (suc (suc (suc zero))) h = refl
key_number-key_of (suc (suc (suc (suc n)))) h = absurd (omega arith)

bit-again : (b : Bool) → eqb (bit b) 1 ≡ b
bit-again false = refl
bit-again true = refl

bit-back : (n : ℕ) → n < 2 → bit (eqb n 1) ≡ n
bit-back zero h = refl
bit-back (suc zero) h = refl
bit-back (suc (suc n)) h = absurd (omega arith)

pub bit-lt : (b : Bool) → bit b < 2
bit-lt false = omega arith
bit-lt true = omega arith

addend-again : (z : ℤ) → negsuc 262143 ≤ℤ z → z <ℤ pos 262144 → (signed_bits 19 (low_bits 19 z) ≡ z) × (low_bits 19 z < 2 ^ 19)
addend-again (pos n) l h =
    let t : ltb n (2 ^ 18) ≡ true = lt-ltb _ _ (omega (arith, ints)) in
    (rw t refl, omega (arith, ints))
addend-again (negsuc n) l h =
    let t : ltb (2 ^ 19 - (n + 1)) (2 ^ 18) ≡ false = le-ltb _ _ (omega (arith, ints)) in
    (rw t (omega (arith, ints)), omega (arith, ints))

low_back : (z : ℤ) (x : ℕ) → z ≡ pos x -ℤ pos (2 ^ 19) → 2 ^ 18 ≤ x → x < 2 ^ 19 → (low_bits 19 z ≡ x) × (negsuc 262143 ≤ℤ z) × (z <ℤ pos 262144)
low_back (pos n) x e l h = absurd (omega (arith, ints))
low_back (negsuc n) x e l h = (omega (arith, ints), omega (arith, ints), omega (arith, ints))

addend-back : (x : ℕ) → x < 2 ^ 19 → (low_bits 19 (signed_bits 19 x) ≡ x) × (negsuc 262143 ≤ℤ signed_bits 19 x) × (signed_bits 19 x <ℤ pos 262144)
addend-back x h =
    elim (cases_lt x (2 ^ 18)) [
      | inl lt ↦ let t : ltb x (2 ^ 18) ≡ true = lt-ltb _ _ lt in rw t (refl, omega (arith, ints), omega (arith, ints))
      | inr le ↦ let t : ltb x (2 ^ 18) ≡ false = le-ltb _ _ le in rw t (low_back (pos x -ℤ pos (2 ^ 19)) x refl le h)
    ]

-- ---- what is written is read

slot_with : (w : ℕ) (b a : Bool) → is_bind w ≡ b → is_auth w ≡ a → not (b && not (eqb (field 16 16 w) 0)) ≡ true → slot_of w ≡ Ok (kind_in b a w, field 51 11 w)
slot_with w b a eb ea z = rw (eb, ea, z) refl

sig_is : (w : ℕ) (s : Sig) → key_number s.key < 4 → field 49 2 w ≡ key_number s.key → field 48 1 w ≡ bit s.addr → field 32 16 w ≡ s.disc → sig_at 32 w ≡ s
sig_is w s small ek ea ed = rw (ek, ea, ed, key_of-key_number s.key small, bit-again s.addr) refl

pub slot_of-packed : (kind : FixKind) (next : ℕ) → FieldsFit kind → next < 2 ^ 11 → slot_of (packed (parts_of kind next)) ≡ Ok (kind, next)
slot_of-packed (Rebase t h) n f fn =
    let w = packed (parts_of (Rebase t h) n) in
    let r = rebase t h n w f.0 f.1 fn (omega arith) in
    slot_with w false false (rw r.3 refl) (rw r.4 refl) refl ∙ rw (r.0, r.1, r.2) refl
slot_of-packed (Bind o z) n f fn =
    let w = packed (parts_of (Bind o z) n) in
    let s = addend-again z f.1 f.2 in
    let r = bind o (low_bits 19 z) n w f.0 s.1 fn (omega arith) in
    slot_with w true false (rw r.4 refl) (rw r.5 refl) (rw r.1 refl) ∙ rw (r.0, r.2, r.3, s.0) refl
slot_of-packed (AuthRebase t s) n f fn =
    let w = packed (parts_of (AuthRebase t s) n) in
    let r = auth_rebase t s.disc (bit s.addr) (key_number s.key) n w f.0 f.1.0 (bit-lt s.addr) f.1.1 fn (omega arith) in
    slot_with w false true (rw r.5 refl) (rw r.6 refl) refl ∙ rw (r.0, sig_is w s f.1.1 r.3 r.2 r.1, r.4) refl
slot_of-packed (AuthBind o s) n f fn =
    let w = packed (parts_of (AuthBind o s) n) in
    let r = auth_bind o s.disc (bit s.addr) (key_number s.key) n w f.0 f.1.0 (bit-lt s.addr) f.1.1 fn (omega arith) in
    slot_with w true true (rw r.6 refl) (rw r.7 refl) (rw r.1 refl) ∙ rw (r.0, sig_is w s f.1.1 r.4 r.3 r.2, r.5) refl

-- ---- what is read was written

-- the word of each pair of top bits
word_is : (b a : Bool) (w : ℕ) → w < 2 ^ 64 → is_bind w ≡ b → is_auth w ≡ a → not (b && not (eqb (field 16 16 w) 0)) ≡ true
    → (w ≡ packed (parts_of (kind_in b a w) (field 51 11 w))) × FieldsFit (kind_in b a w)
word_is false false w lt eb ea z =
    let b : field 62 1 w ≡ 0 = omega (arith, bit-back (field 62 1 w) (omega arith), ap bit eb) in
    let a : field 63 1 w ≡ 0 = omega (arith, bit-back (field 63 1 w) (omega arith), ap bit ea) in
    (omega arith, (omega arith, omega arith))
word_is true false w lt eb ea z =
    let b : field 62 1 w ≡ 1 = eqb-true _ _ eb in
    let a : field 63 1 w ≡ 0 = omega (arith, bit-back (field 63 1 w) (omega arith), ap bit ea) in
    let c : field 16 16 w ≡ 0 = eqb-true _ _ (not-false _ (not-true _ z)) in
    let s = addend-back (field 32 19 w) (omega arith) in
    (omega (arith, s.0), (omega arith, s.1, s.2))
word_is false true w lt eb ea z =
    let b : field 62 1 w ≡ 0 = omega (arith, bit-back (field 62 1 w) (omega arith), ap bit eb) in
    let a : field 63 1 w ≡ 1 = eqb-true _ _ ea in
    let k = key_number-key_of (field 49 2 w) (omega arith) in
    (omega (arith, bit-back (field 48 1 w) (omega arith), k), (omega arith, (omega arith, omega (arith, k))))
word_is true true w lt eb ea z =
    let b : field 62 1 w ≡ 1 = eqb-true _ _ eb in
    let a : field 63 1 w ≡ 1 = eqb-true _ _ ea in
    let c : field 16 16 w ≡ 0 = eqb-true _ _ (not-false _ (not-true _ z)) in
    let k = key_number-key_of (field 49 2 w) (omega arith) in
    (omega (arith, bit-back (field 48 1 w) (omega arith), k), (omega arith, (omega arith, omega (arith, k))))

pub IsWordOf-kind_of : (w : ℕ) → w < 2 ^ 64 → zeros_hold w ≡ true → IsWordOf w (kind_of w, next_of w)
IsWordOf-kind_of w lt z =
    let k = word_is (is_bind w) (is_auth w) w lt refl refl z in
    record { packs = sym k.0; fields = k.1; link = omega arith }

slot_cases : (b : Bool) (x : FixKind × ℕ) (P : FixKind × ℕ → Type 0) → (b ≡ true → P x) → IfOk {E = ImageRule} (cond b (Ok x) (Err F3)) P
slot_cases true x P h = h refl
slot_cases false x P h = tt

pub IsWordOf-slot_of : (w : ℕ) → w < 2 ^ 64 → IfOk (slot_of w) (IsWordOf w)
IsWordOf-slot_of w lt = slot_cases (zeros_hold w) (kind_of w, next_of w) (IsWordOf w) (IsWordOf-kind_of w lt)
