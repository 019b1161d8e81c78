-- Words by their parts: what stands in the fields, and the bits that are fixed.
use Rattle.std.proofs.Common.{◌≡◌, ℕ, ◌+◌, ◌-◌, ◌*◌, ◌/◌, ◌%◌, ◌^◌, ◌<◌, List, [], ◌∷◌, refl, sym, ap, subst, ◌∙◌, arith, Option, Some, None, bit_and}
use Rattle.std.specs.Prelude.{Bool, true, false, cond, ◌&&◌, eqb, ltb}
use Rattle.std.proofs.lemmas.Bool.{and_parts, eqb-true, eq-eqb, ltb-true}
use Rattle.std.proofs.lemmas.Nat.{pow_pos, pow-add, shr-shr, shr_split, mod_below, mod_low, shr_high, shr_below, and_mask, and_block}
use Rattle.std.proofs.Math.Nat.{mod-eq_of_lt}
use Rattle.std.specs.Int.Bits.{and_zero_r}
use Rattle.pa_num.specs.Bits.{field, with_field}
use Rattle.pa_num.proofs.Bits.{field_and_below, value_fits}
use Rattle.pa_a64.specs.Parts.{Part, Fixed, Field, word, fields, fixed, after}

-- a field by its lowest bit and its width
pub data Place : Type 0 where
  At : (low width : ℕ) → Place

-- each value is below 2 to the power of its field's width, and there is one for each field
abbrev pub Fit : List Place → List ℕ → Type 0
Fit [] [] = Unit {0}
Fit [] (x ∷ xs) = ⊥
Fit (At low n ∷ ps) [] = ⊥
Fit (At low n ∷ ps) (x ∷ xs) = (x < 2 ^ n) × Fit ps xs

abbrev pub fixed_fit : List Part → Bool
fixed_fit [] = true
fixed_fit (Fixed n v ∷ ps) = ltb v (2 ^ n) && fixed_fit ps
fixed_fit (Field n ∷ ps) = fixed_fit ps

abbrev pub places_of : (low : ℕ) → List Part → List Place
places_of low [] = []
places_of low (Fixed n v ∷ ps) = places_of (low + n) ps
places_of low (Field n ∷ ps) = At low n ∷ places_of (low + n) ps

-- the fields put one after the other, as the code does
abbrev pub puts : List Place → ℕ → List ℕ → ℕ
puts [] w xs = w
puts (At low n ∷ ps) w [] = w
puts (At low n ∷ ps) w (x ∷ xs) = puts ps (with_field low n w x) xs

-- the fields got, as the code does
abbrev pub gets : List Place → ℕ → List ℕ
gets [] w = []
gets (At low n ∷ ps) w = field low n w ∷ gets ps w

-- the same two on what is left of the word, from the first part on
put_on : List Part → ℕ → List ℕ → ℕ
put_on [] w xs = w
put_on (Fixed n v ∷ ps) w xs = w % 2 ^ n + 2 ^ n * put_on ps (w / 2 ^ n) xs
put_on (Field n ∷ ps) w [] = w
put_on (Field n ∷ ps) w (x ∷ xs) = x + 2 ^ n * put_on ps (w / 2 ^ n) xs

got_from : List Part → ℕ → List ℕ
got_from [] w = []
got_from (Fixed n v ∷ ps) w = got_from ps (w / 2 ^ n)
got_from (Field n ∷ ps) w = w % 2 ^ n ∷ got_from ps (w / 2 ^ n)

low_of : (x n rest : ℕ) → x < 2 ^ n → (x + 2 ^ n * rest) % 2 ^ n ≡ x
low_of x n rest h = let e : x + 2 ^ n * rest ≡ rest * 2 ^ n + x = omega arith in ap (λ z. z % 2 ^ n) e ∙ mod_low rest n x h

rest_of : (x n rest : ℕ) → x < 2 ^ n → (x + 2 ^ n * rest) / 2 ^ n ≡ rest
rest_of x n rest h = let e : x + 2 ^ n * rest ≡ rest * 2 ^ n + x = omega arith in ap (λ z. z / 2 ^ n) e ∙ shr_high rest n x h

with_field-above : (low n w x : ℕ) → x < 2 ^ n → with_field low n w x / 2 ^ (low + n) ≡ w / 2 ^ low / 2 ^ n
with_field-above low n w x h = shr_high (w / 2 ^ (low + n)) (low + n) (x * 2 ^ low + w % 2 ^ low) (value_fits low n w x h) ∙ sym (shr-shr w low n)

with_field-upto : (low n w x : ℕ) → x < 2 ^ n → with_field low n w x % 2 ^ (low + n) ≡ x * 2 ^ low + w % 2 ^ low
with_field-upto low n w x h = mod_low (w / 2 ^ (low + n)) (low + n) (x * 2 ^ low + w % 2 ^ low) (value_fits low n w x h)

-- what the puts leave is what stood below, and above it the values
puts-split : (ps : List Part) (low w : ℕ) (xs : List ℕ) → Fit (places_of low ps) xs → puts (places_of low ps) w xs ≡ w % 2 ^ low + 2 ^ low * put_on ps (w / 2 ^ low) xs
unfolding put_on
puts-split [] low w [] h = let e = shr_split w low in omega arith
puts-split [] low w (x ∷ xs) h = absurd h
puts-split (Fixed n v ∷ ps) low w xs h =
    let rest = put_on ps (w / 2 ^ low / 2 ^ n) xs in
    let ih : puts (places_of (low + n) ps) w xs ≡ w % 2 ^ (low + n) + 2 ^ (low + n) * put_on ps (w / 2 ^ (low + n)) xs = puts-split ps (low + n) w xs h in
    let e : w % 2 ^ (low + n) ≡ w / 2 ^ low % 2 ^ n * 2 ^ low + w % 2 ^ low = field_and_below low n w in
    let q : put_on ps (w / 2 ^ (low + n)) xs ≡ rest = ap (λ z. put_on ps z xs) (sym (shr-shr w low n)) in
    let p : 2 ^ (low + n) * rest ≡ 2 ^ low * 2 ^ n * rest = ap (λ z. z * rest) (pow-add 2 low n) in
    ih ∙ (ap (λ z. w % 2 ^ (low + n) + 2 ^ (low + n) * z) q ∙ omega arith)
puts-split (Field n ∷ ps) low w [] h = absurd h
puts-split (Field n ∷ ps) low w (x ∷ xs) h =
    let next = with_field low n w x in
    let rest = put_on ps (w / 2 ^ low / 2 ^ n) xs in
    let ih : puts (places_of (low + n) ps) next xs ≡ next % 2 ^ (low + n) + 2 ^ (low + n) * put_on ps (next / 2 ^ (low + n)) xs = puts-split ps (low + n) next xs h.1 in
    let e = with_field-upto low n w x h.0 in
    let q : put_on ps (next / 2 ^ (low + n)) xs ≡ rest = ap (λ z. put_on ps z xs) (with_field-above low n w x h.0) in
    let p : 2 ^ (low + n) * rest ≡ 2 ^ low * 2 ^ n * rest = ap (λ z. z * rest) (pow-add 2 low n) in
    ih ∙ (ap (λ z. next % 2 ^ (low + n) + 2 ^ (low + n) * z) q ∙ (ap (λ z. z + 2 ^ (low + n) * rest) e ∙ omega arith))

puts-whole : (ps : List Part) (w : ℕ) (xs : List ℕ) → Fit (places_of 0 ps) xs → puts (places_of 0 ps) w xs ≡ put_on ps w xs
puts-whole ps w xs h =
    let whole : w / 1 ≡ w = omega arith in
    let e : puts (places_of 0 ps) w xs ≡ w % 1 + 1 * put_on ps (w / 1) xs = puts-split ps 0 w xs h in
    e ∙ (ap (λ z. w % 1 + 1 * put_on ps z xs) whole ∙ omega arith)

gets-split : (ps : List Part) (low w : ℕ) → gets (places_of low ps) w ≡ got_from ps (w / 2 ^ low)
unfolding got_from
gets-split [] low w = refl
gets-split (Fixed n v ∷ ps) low w = gets-split ps (low + n) w ∙ ap (got_from ps) (sym (shr-shr w low n))
gets-split (Field n ∷ ps) low w = ap (λ z. field low n w ∷ z) (gets-split ps (low + n) w ∙ ap (got_from ps) (sym (shr-shr w low n)))

gets-whole : (ps : List Part) (w : ℕ) → gets (places_of 0 ps) w ≡ got_from ps w
gets-whole ps w = let whole : w / 1 ≡ w = omega arith in gets-split ps 0 w ∙ ap (got_from ps) whole

-- putting values into the fixed bits gives the word of the values
put_on-fixed : (ps : List Part) (low : ℕ) (xs : List ℕ) → fixed_fit ps ≡ true → Fit (places_of low ps) xs → put_on ps (fixed ps) xs ≡ word ps xs
unfolding put_on word
put_on-fixed [] low [] f h = refl
put_on-fixed [] low (x ∷ xs) f h = absurd h
put_on-fixed (Fixed n v ∷ ps) low xs f h =
    let a = and_parts _ _ f in
    let lt = ltb-true _ _ a.0 in
    rw (low_of v n (fixed ps) lt, rest_of v n (fixed ps) lt, put_on-fixed ps (low + n) xs a.1 h) refl
put_on-fixed (Field n ∷ ps) low [] f h = absurd h
put_on-fixed (Field n ∷ ps) low (x ∷ xs) f h =
    let start : 2 ^ n * fixed ps ≡ 0 + 2 ^ n * fixed ps = omega arith in
    let e : 2 ^ n * fixed ps / 2 ^ n ≡ fixed ps = ap (λ z. z / 2 ^ n) start ∙ rest_of 0 n (fixed ps) (pow_pos n) in
    rw (e, put_on-fixed ps (low + n) xs f h.1) refl

pub word_from_puts : (ps : List Part) (xs : List ℕ) → fixed_fit ps ≡ true → Fit (places_of 0 ps) xs → puts (places_of 0 ps) (fixed ps) xs ≡ word ps xs
word_from_puts ps xs f h = puts-whole ps (fixed ps) xs h ∙ put_on-fixed ps 0 xs f h

-- The two ways, part by part.

pub fields_word : (ps : List Part) (low : ℕ) (xs : List ℕ) → fixed_fit ps ≡ true → Fit (places_of low ps) xs → fields ps (word ps xs) ≡ Some xs
unfolding fields word
fields_word [] low [] f h = refl
fields_word [] low (x ∷ xs) f h = absurd h
fields_word (Fixed n v ∷ ps) low xs f h =
    let a = and_parts _ _ f in
    let lt = ltb-true _ _ a.0 in
    rw (low_of v n (word ps xs) lt, rest_of v n (word ps xs) lt, eq-eqb v v refl) (fields_word ps (low + n) xs a.1 h)
fields_word (Field n ∷ ps) low [] f h = absurd h
fields_word (Field n ∷ ps) low (x ∷ xs) f h = rw (low_of x n (word ps xs) h.0, rest_of x n (word ps xs) h.0, fields_word ps (low + n) xs f h.1) refl

-- the word of the values that its fields have
pub word-fields : (ps : List Part) (low w : ℕ) (xs : List ℕ) → fields ps w ≡ Some xs → Fit (places_of low ps) xs × (word ps xs ≡ w)
unfolding fields word
word-fields [] low w xs e = go (eqb w 0) refl xs e
  where
    go : (b : Bool) → eqb w 0 ≡ b → (xs : List ℕ) → cond b (Some []) None ≡ Some xs → Fit [] xs × (word [] xs ≡ w)
    go true t [] e = (tt, sym (eqb-true w 0 t))
    go true t (x ∷ xs) e = cc
    go false t xs e = cc
word-fields (Fixed n v ∷ ps) low w xs e = go (λ f. word-fields ps (low + n) (w / 2 ^ n) xs f) (eqb (w % 2 ^ n) v) refl e
  where
    go : (fields ps (w / 2 ^ n) ≡ Some xs → Fit (places_of (low + n) ps) xs × (word ps xs ≡ w / 2 ^ n)) → (b : Bool) → eqb (w % 2 ^ n) v ≡ b → cond b (fields ps (w / 2 ^ n)) None ≡ Some xs → Fit (places_of (low + n) ps) xs × (v + 2 ^ n * word ps xs ≡ w)
    go ih true t e =
        let r = ih e in
        let low : w % 2 ^ n ≡ v = eqb-true _ _ t in
        (r.0, ap (λ z. v + 2 ^ n * z) r.1 ∙ (let q = shr_split w n in omega arith))
    go ih false t e = cc
word-fields (Field n ∷ ps) low w xs e = go (λ ys f. word-fields ps (low + n) (w / 2 ^ n) ys f) (fields ps (w / 2 ^ n)) refl xs e
  where
    go : ((ys : List ℕ) → fields ps (w / 2 ^ n) ≡ Some ys → Fit (places_of (low + n) ps) ys × (word ps ys ≡ w / 2 ^ n)) → (o : Option (List ℕ)) → fields ps (w / 2 ^ n) ≡ o → (xs : List ℕ) → after (w % 2 ^ n) o ≡ Some xs → Fit (At low n ∷ places_of (low + n) ps) xs × (word (Field n ∷ ps) xs ≡ w)
    go ih None t xs e = cc
    go ih (Some ys) t [] e = cc
    go ih (Some ys) t (x ∷ xs) e =
        let r = ih ys t in
        let same : ys ≡ xs = cc in
        let first : w % 2 ^ n ≡ x = cc in (
          (subst (λ z. z < 2 ^ n) first (mod_below w (2 ^ n) (pow_pos n)), subst (Fit (places_of (low + n) ps)) same r.0),
          ap (λ z. x + 2 ^ n * z) (subst (λ z. word ps z ≡ w / 2 ^ n) same r.1) ∙ (let q = shr_split w n in omega arith),
        )

-- The bits that are fixed.

abbrev pub mask : List Part → ℕ
mask [] = 0
mask (Fixed n v ∷ ps) = 2 ^ n - 1 + 2 ^ n * mask ps
mask (Field n ∷ ps) = 2 ^ n * mask ps

abbrev pub total : List Part → ℕ
total [] = 0
total (Fixed n v ∷ ps) = total ps + n
total (Field n ∷ ps) = total ps + n

-- the bits that `m` above and `s` below pick
masked_parts : (n w m s : ℕ) → s < 2 ^ n → bit_and w (s + 2 ^ n * m) ≡ bit_and (w % 2 ^ n) s + 2 ^ n * bit_and (w / 2 ^ n) m
masked_parts n w m s h =
    let low = w % 2 ^ n in
    let high = w / 2 ^ n in
    let a : bit_and (high * 2 ^ n + low) (m * 2 ^ n + s) ≡ bit_and high m * 2 ^ n + bit_and low s = and_block n high m low s (mod_below w (2 ^ n) (pow_pos n)) h in
    let e : high * 2 ^ n + low ≡ w = shr_split w n in
    let f : m * 2 ^ n + s ≡ s + 2 ^ n * m = omega arith in
    ap (λ z. bit_and z (s + 2 ^ n * m)) (sym e) ∙ (ap (bit_and (high * 2 ^ n + low)) (sym f) ∙ (a ∙ omega arith))

masked_fixed : (n w : ℕ) (ps : List Part) → bit_and w (2 ^ n - 1 + 2 ^ n * mask ps) ≡ w % 2 ^ n + 2 ^ n * bit_and (w / 2 ^ n) (mask ps)
masked_fixed n w ps =
    let some = pow_pos n in
    let e : bit_and (w % 2 ^ n) (2 ^ n - 1) ≡ w % 2 ^ n = and_mask (w % 2 ^ n) n ∙ mod-eq_of_lt (mod_below w (2 ^ n) some) in
    masked_parts n w (mask ps) (2 ^ n - 1) (omega arith) ∙ ap (λ z. z + 2 ^ n * bit_and (w / 2 ^ n) (mask ps)) e

masked_field : (n w : ℕ) (ps : List Part) → bit_and w (2 ^ n * mask ps) ≡ 2 ^ n * bit_and (w / 2 ^ n) (mask ps)
masked_field n w ps =
    let e : 2 ^ n * mask ps ≡ 0 + 2 ^ n * mask ps = omega arith in
    ap (bit_and w) e ∙ (masked_parts n w (mask ps) 0 (pow_pos n) ∙ rw (and_zero_r (w % 2 ^ n)) (omega arith))

fields-got : (ps : List Part) (w : ℕ) → fixed_fit ps ≡ true → w < 2 ^ total ps → bit_and w (mask ps) ≡ fixed ps → fields ps w ≡ Some (got_from ps w)
unfolding fields got_from
fields-got [] w f l e = let none : w ≡ 0 = omega arith in rw (eq-eqb w 0 none) refl
fields-got (Fixed n v ∷ ps) w f l e =
    let a = and_parts _ _ f in
    let lt = ltb-true _ _ a.0 in
    let rest = bit_and (w / 2 ^ n) (mask ps) in
    let below = mod_below w (2 ^ n) (pow_pos n) in
    let joined : w % 2 ^ n + 2 ^ n * rest ≡ v + 2 ^ n * fixed ps = sym (masked_fixed n w ps) ∙ e in
    let low : w % 2 ^ n ≡ v = sym (low_of (w % 2 ^ n) n rest below) ∙ (ap (λ z. z % 2 ^ n) joined ∙ low_of v n (fixed ps) lt) in
    let high : rest ≡ fixed ps = sym (rest_of (w % 2 ^ n) n rest below) ∙ (ap (λ z. z / 2 ^ n) joined ∙ rest_of v n (fixed ps) lt) in
    rw (eq-eqb _ _ low) (fields-got ps (w / 2 ^ n) a.1 (shr_below w (total ps) n l) high)
fields-got (Field n ∷ ps) w f l e =
    let rest = bit_and (w / 2 ^ n) (mask ps) in
    let joined : 0 + 2 ^ n * rest ≡ 0 + 2 ^ n * fixed ps = omega (arith, sym (masked_field n w ps) ∙ e) in
    let high : rest ≡ fixed ps = sym (rest_of 0 n rest (pow_pos n)) ∙ (ap (λ z. z / 2 ^ n) joined ∙ rest_of 0 n (fixed ps) (pow_pos n)) in
    rw (fields-got ps (w / 2 ^ n) f (shr_below w (total ps) n l) high) refl

-- a word with the fixed bits of these parts has in its fields what the code gets
pub fields-masked : (ps : List Part) (w : ℕ) → fixed_fit ps ≡ true → w < 2 ^ total ps → bit_and w (mask ps) ≡ fixed ps → fields ps w ≡ Some (gets (places_of 0 ps) w)
fields-masked ps w f l e = fields-got ps w f l e ∙ ap (λ z. Some z) (sym (gets-whole ps w))

-- and a word with fields has those fixed bits
pub masked-fields : (ps : List Part) (w : ℕ) (xs : List ℕ) → fields ps w ≡ Some xs → bit_and w (mask ps) ≡ fixed ps
unfolding fields
masked-fields [] w xs e = and_zero_r w
masked-fields (Fixed n v ∷ ps) w xs e = masked_fixed n w ps ∙ go (λ f. masked-fields ps (w / 2 ^ n) xs f) (eqb (w % 2 ^ n) v) refl e
  where
    go : (fields ps (w / 2 ^ n) ≡ Some xs → bit_and (w / 2 ^ n) (mask ps) ≡ fixed ps) → (b : Bool) → eqb (w % 2 ^ n) v ≡ b → cond b (fields ps (w / 2 ^ n)) None ≡ Some xs → w % 2 ^ n + 2 ^ n * bit_and (w / 2 ^ n) (mask ps) ≡ v + 2 ^ n * fixed ps
    go ih true t e = rw (eqb-true _ _ t, ih e) refl
    go ih false t e = cc
masked-fields (Field n ∷ ps) w xs e = masked_field n w ps ∙ go (λ ys f. masked-fields ps (w / 2 ^ n) ys f) (fields ps (w / 2 ^ n)) refl e
  where
    go : ((ys : List ℕ) → fields ps (w / 2 ^ n) ≡ Some ys → bit_and (w / 2 ^ n) (mask ps) ≡ fixed ps) → (o : Option (List ℕ)) → fields ps (w / 2 ^ n) ≡ o → after (w % 2 ^ n) o ≡ Some xs → 2 ^ n * bit_and (w / 2 ^ n) (mask ps) ≡ 2 ^ n * fixed ps
    go ih None t e = cc
    go ih (Some ys) t e = ap (λ z. 2 ^ n * z) (ih ys t)
