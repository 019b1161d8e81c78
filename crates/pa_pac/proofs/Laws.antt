-- Laws of signing and authenticating, over any function for the code.
use Rattle.std.proofs.Common.{Bool, inl, inr, eqb, ◌≡◌, ℕ, true, false, List, [], ◌∷◌, length, ◌+◌, ◌*◌, ◌%◌, ◌^◌, ◌<◌, refl, sym, ap, ◌∙◌, arith, Some, None, cond, bit_and, bit_xor}
use Rattle.std.specs.Int.Bits.{xor_mod, and_mod, xor_assoc, xor_self, xor_zero_r, and_zero_r, xor_lt, and_le_r}
use Rattle.std.specs.Int.{bit_at}
use Rattle.std.proofs.lemmas.Nat.Bits.{bit_at_xor, bit_at_and, bit_at-lt}
use Rattle.std.proofs.lemmas.Bool.{cases_eq, ne_eqb, eq-eqb, cond-true, cond-false}
use Rattle.pa_pac.specs.declared.key.Key.{Key}
use Rattle.pa_pac.specs.declared.key.Key.TheVariants.{GA}
use Rattle.pa_pac.specs.declared.pac.PacRow.{PacRow}
use Rattle.pa_pac.specs.Functions.{table_value, is_for}
use Rattle.pa_pac.specs.Schema.{blend, modifier}
use Rattle.pa_pac.specs.Signing.{generic_code, Code, mask, canonical, covered, sign, auth, accepted}

-- ---- canonical addresses

-- an address with bits 63 to 48 and bit 55 zero is canonical
pub canonical-low : (value : ℕ) → value < 2 ^ 48 → canonical value ≡ value
unfolding canonical
canonical-low value h = omega arith

pub canonical-user : (value : ℕ) → value < 2 ^ 47 → canonical value ≡ value
canonical-user value h = canonical-low value (omega arith)

pub canonical-lt : (value : ℕ) → canonical value < 2 ^ 64
unfolding canonical
canonical-lt value = omega arith

pub canonical-canonical : (value : ℕ) → canonical (canonical value) ≡ canonical value
unfolding canonical
canonical-canonical value = omega arith

-- ---- the code in its bits

masked_low : (x : ℕ) → bit_and x mask % 2 ^ 48 ≡ 0
masked_low x = and_mod x mask 48 ∙ and_zero_r (x % 2 ^ 48)

masked_selector : (x : ℕ) → bit_at (bit_and x mask) 55 ≡ 0
masked_selector x = bit_at_and x mask 55 ∙ omega arith

-- the code leaves the address bits and the selector as they are
pub canonical-covered : (code : Code) (key : Key) (modifier value : ℕ) → canonical (covered code key modifier value) ≡ canonical value
unfolding canonical covered
canonical-covered code key modifier value =
    let tag = bit_and (code key (canonical value) modifier) mask in
    let low : bit_xor value tag % 2 ^ 48 ≡ value % 2 ^ 48 =
    xor_mod value tag 48 ∙ ap (λ z. bit_xor (value % 2 ^ 48) z) (masked_low (code key (canonical value) modifier)) ∙ xor_zero_r (value % 2 ^ 48) in
    let bit = bit_at-lt value 55 in
    let one : (bit_at value 55 + 0) % 2 ≡ bit_at value 55 = omega arith in
    let selector : bit_at (bit_xor value tag) 55 ≡ bit_at value 55 =
    bit_at_xor value tag 55 ∙ ap (λ z. (bit_at value 55 + z) % 2) (masked_selector (code key (canonical value) modifier)) ∙ one in
    ap (λ z. z + bit_at (bit_xor value tag) 55 * 0xFFFF_0000_0000_0000) low ∙ ap (λ z. value % 2 ^ 48 + z * 0xFFFF_0000_0000_0000) selector

pub covered-lt : (code : Code) (key : Key) (modifier value : ℕ) → value < 2 ^ 64 → covered code key modifier value < 2 ^ 64
unfolding covered
covered-lt code key modifier value h =
    let masked = and_le_r (code key (canonical value) modifier) mask in
    xor_lt 64 value _ h (omega arith)

-- what lies under the code of what lies under the code is the value itself
pub covered-covered : (code : Code) (key : Key) (modifier value : ℕ) → covered code key modifier (covered code key modifier value) ≡ value
unfolding covered
covered-covered code key modifier value =
    let tag = bit_and (code key (canonical value) modifier) mask in
    let same : canonical (bit_xor value tag) ≡ canonical value = canonical-covered code key modifier value in
    ap (λ z. bit_xor (bit_xor value tag) (bit_and (code key z modifier) mask)) same
    ∙ xor_assoc value tag tag ∙ ap (λ z. bit_xor value z) (xor_self tag) ∙ xor_zero_r value

-- ---- signing and authenticating

-- the law by which the function for the code enters every later proof: what is signed from a canonical address is accepted
pub auth-sign : (code : Code) (key : Key) (modifier raw : ℕ) → canonical raw ≡ raw → auth code key modifier (sign code key modifier raw) ≡ Some raw
auth-sign code key modifier raw h =
    ap accepted (covered-covered code key modifier raw) ∙ ap (λ b. cond b (Some raw) None) (eq-eqb raw (canonical raw) (sym h))

accepted-some : (under raw : ℕ) → accepted under ≡ Some raw → (canonical raw ≡ raw) × (under ≡ raw)
accepted-some under raw e =
    elim (cases_eq under (canonical under)) [
      | inl same ↦
          let there : under ≡ raw = let t : eqb under (canonical under) ≡ true = eq-eqb _ _ same in cc (sym (cond-true (eqb under (canonical under)) (Some under) None t)) in
          (ap canonical (sym there) ∙ sym same ∙ there, there)
      | inr other ↦
          let t : eqb under (canonical under) ≡ false = ne_eqb _ _ other in
          absurd (cc (cond-false (eqb under (canonical under)) (Some under) None t))
    ]

pub sign-lt : (code : Code) (key : Key) (modifier raw : ℕ) → raw < 2 ^ 64 → sign code key modifier raw < 2 ^ 64
sign-lt code key modifier raw h = covered-lt code key modifier raw h

-- what is accepted is canonical, and the value is its signature
pub auth-some : (code : Code) (key : Key) (modifier value raw : ℕ) → auth code key modifier value ≡ Some raw
    → (canonical raw ≡ raw) × (sign code key modifier raw ≡ value)
auth-some code key modifier value raw e =
    let under = covered code key modifier value in
    let parts = accepted-some under raw e in
    (parts.0, ap (covered code key modifier) (sym parts.1) ∙ covered-covered code key modifier value)

pub auth-lt : (code : Code) (key : Key) (modifier value raw : ℕ) → auth code key modifier value ≡ Some raw → raw < 2 ^ 64
auth-lt code key modifier value raw e = omega (arith, canonical-lt raw, (auth-some code key modifier value raw e).0)

pub generic_code-lt : (code : Code) (pointer modifier : ℕ) → generic_code code pointer modifier < 2 ^ 64
generic_code-lt code pointer modifier = omega arith

-- ---- modifiers

pub blend-lt : (pointer integer : ℕ) → blend pointer integer < 2 ^ 64
unfolding blend
blend-lt pointer integer = omega arith

pub modifier-lt : (addr : Bool) (disc address : ℕ) → disc < 2 ^ 16 → modifier addr disc address < 2 ^ 64
modifier-lt true disc address h = blend-lt address disc
modifier-lt false disc address h = omega arith

-- ---- the value of a table

pub table_value-first : (row : PacRow) (rows : List PacRow) (key : Key) (pointer modifier : ℕ) → row.value < 2 ^ 64
    → is_for row key pointer modifier ≡ true → table_value (row ∷ rows) key pointer modifier ≡ row.value
unfolding table_value
table_value-first row rows key pointer modifier fits e = cond-true _ _ _ e ∙ omega arith

pub table_value-other : (row : PacRow) (rows : List PacRow) (key : Key) (pointer modifier : ℕ)
    → is_for row key pointer modifier ≡ false → table_value (row ∷ rows) key pointer modifier ≡ table_value rows key pointer modifier
unfolding table_value
table_value-other row rows key pointer modifier e = cond-false _ _ _ e

pub table_value-none : (rows : List PacRow) (key : Key) (pointer modifier : ℕ) → length rows ≡ 0 → table_value rows key pointer modifier ≡ 0
unfolding table_value
table_value-none [] key pointer modifier e = refl
table_value-none (row ∷ rows) key pointer modifier e = absurd (omega arith)
