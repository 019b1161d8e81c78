-- Instructions and the words of their rows, both ways.
use Rattle.std.proofs.Common.{◌≡◌, ◌≢◌, ℕ, ◌+◌, ◌*◌, ◌/◌, ◌%◌, ◌^◌, ◌<◌, List, [], ◌∷◌, Option, Some, None, refl, sym, ap, subst, ◌∙◌, arith, rules, lit≤, lit<}
use Rattle.std.specs.Prelude.{Bool, true, false, cond, eqb, IsTrue}
use mir.Val.{bool_byte}
use Rattle.std.proofs.lemmas.Bool.{eqb-true, eq-eqb, false≢true, and_parts, ltb-true}
use Rattle.std.proofs.lemmas.Nat.{pow-add, mul-add-lt}
use Rattle.pa_num.specs.Bits.{field, with_field}
use Rattle.pa_a64.specs.declared.instr.Instr.{Instr}
use Rattle.pa_a64.specs.Decoding.{decoded, decoded_among, decoded_by, encoded, instruction, instruction_of, or_else, row, values, InRange, bits_of_signed, signed_of_bits, bit_of, is_pair}
use Rattle.pa_a64.specs.Parts.{Part, Fixed, Field, word, fields, fixed}
use Rattle.pa_a64.specs.Table.{Row, parts, rows}
use Rattle.pa_a64.proofs.Rows.{found_in_table, row_fits, total-parts, line_places, places_of-parts}
use Rattle.pa_a64.proofs.TwosComplement.{bits_fit, IsSigned-signed, signed-bits, bits-signed}
use Rattle.pa_a64.proofs.Words.{places_of, puts, Fit, fixed_fit, total, fields_word, word-fields, word_from_puts}

bit_fits : (b : Bool) → bit_of b < 2 ^ 1
bit_fits false = omega arith
bit_fits true = omega arith

bit_back : (b : Bool) → eqb (bit_of b) 1 ≡ b
bit_back false = refl
bit_back true = refl

back_bit : (n : ℕ) → n < 2 ^ 1 → bit_of (eqb n 1) ≡ n
back_bit n h = go (eqb n 1) refl
  where
    go : (b : Bool) → eqb n 1 ≡ b → bit_of b ≡ n
    go true e = sym (eqb-true n 1 e)
    go false e = let ne : n ≢ 1 = λ q. false≢true (sym e ∙ eq-eqb n 1 q) in omega arith

pages_back : (n : ℕ) → n / 4 * 4 + n % 4 ≡ n
pages_back n = omega arith

pages_parts : (high low : ℕ) → low < 4 → (rd : ℕ) → (rd ∷ (high * 4 + low) / 4 ∷ (high * 4 + low) % 4 ∷ []) ≡ (rd ∷ high ∷ low ∷ [])
pages_parts high low h rd =
    let upper : (high * 4 + low) / 4 ≡ high = omega arith in
    let lower : (high * 4 + low) % 4 ≡ low = omega arith in
    rw (upper, lower) refl

Fit-line : (i : Instr) → InRange i → Fit (line_places (row i)) (values i)
Fit-line (Instr.MoveWide op rd imm hw) h = (h.0, (h.1, (h.2, tt)))
Fit-line (Instr.SumImmediate op rd rn imm shifted) h = (h.0, (h.1, (h.2, (bit_fits shifted, tt))))
Fit-line (Instr.SubsImmediate rd rn imm shifted) h = (h.0, (h.1, (h.2, (bit_fits shifted, tt))))
Fit-line (Instr.Sum op rd rn rm) h = (h.0, (h.1, (h.2, tt)))
Fit-line (Instr.Logical op rd rn rm) h = (h.0, (h.1, (h.2, tt)))
Fit-line (Instr.MultiplyAdd op rd rn rm ra) h = (h.0, (h.1, (h.3, (h.2, tt))))
Fit-line (Instr.Divide op rd rn rm) h = (h.0, (h.1, (h.2, tt)))
Fit-line (Instr.Shift op rd rn rm) h = (h.0, (h.1, (h.2, tt)))
Fit-line (Instr.Bitfield op rd rn immr imms) h = (h.0, (h.1, (h.3, (h.2, tt))))
Fit-line (Instr.Csinc rd rn rm condition) h = (h.0, (h.1, (h.3, (h.2, tt))))
Fit-line (Instr.Adrp rd pages) h = (h.0, ((let f = bits_fit 21 pages (lit≤ tt) h.1 in omega arith), ((let f = bits_fit 21 pages (lit≤ tt) h.1 in omega arith), tt)))
Fit-line Instr.Nop h = tt
Fit-line (Instr.LoadStore op rt rn imm) h = (h.0, (h.1, (h.2, tt)))
Fit-line (Instr.LoadStoreWord op rt rn imm) h = (h.0, (h.1, (h.2, tt)))
Fit-line (Instr.LoadStoreHalf op rt rn imm) h = (h.0, (h.1, (h.2, tt)))
Fit-line (Instr.LoadStoreByte op rt rn imm) h = (h.0, (h.1, (h.2, tt)))
Fit-line (Instr.LoadStoreUnscaled op rt rn imm) h = (h.0, (h.1, (bits_fit 9 imm (lit≤ tt) h.2, tt)))
Fit-line (Instr.LoadStorePair op rt rt2 rn imm) h = (h.0, (h.2, (h.1, (bits_fit 7 imm (lit≤ tt) h.3, tt))))
Fit-line (Instr.Branch op words) h = (bits_fit 26 words (lit≤ tt) h, tt)
Fit-line (Instr.BranchConditional condition words) h = (h.0, (bits_fit 19 words (lit≤ tt) h.1, tt))
Fit-line (Instr.CompareBranch op rt words) h = (h.0, (bits_fit 19 words (lit≤ tt) h.1, tt))
Fit-line (Instr.BranchRegister op rn) h = (h, tt)
Fit-line (Instr.BranchAuthenticated op rn rm) h = (h.1, (h.0, tt))
Fit-line (Instr.Blraaz rn) h = (h, tt)
Fit-line (Instr.Stack op) h = tt
Fit-line (Instr.Sign op rd rn) h = (h.0, (h.1, tt))
Fit-line (Instr.Authenticate op rd rn) h = (h.0, (h.1, tt))
Fit-line (Instr.Plain op rd) h = (h, tt)
Fit-line (Instr.Pacga rd rn rm) h = (h.0, (h.1, (h.2, tt)))
Fit-line (Instr.Exception op imm) h = (h, tt)

pub Fit-values : (i : Instr) → InRange i → Fit (places_of 0 (parts (row i))) (values i)
Fit-values i h = subst (λ ps. Fit ps (values i)) (sym (places_of-parts (row i))) (Fit-line i h)

-- an instruction in range is what its row's values give
pub instruction-values : (i : Instr) → InRange i → instruction (row i) (values i) ≡ Some i
instruction-values (Instr.MoveWide op rd imm hw) h = refl
instruction-values (Instr.SumImmediate op rd rn imm shifted) h = rw (bit_back shifted) refl
instruction-values (Instr.SubsImmediate rd rn imm shifted) h = rw (bit_back shifted) refl
instruction-values (Instr.Sum op rd rn rm) h = refl
instruction-values (Instr.Logical op rd rn rm) h = refl
instruction-values (Instr.MultiplyAdd op rd rn rm ra) h = refl
instruction-values (Instr.Divide op rd rn rm) h = refl
instruction-values (Instr.Shift op rd rn rm) h = refl
instruction-values (Instr.Bitfield op rd rn immr imms) h = refl
instruction-values (Instr.Csinc rd rn rm condition) h = refl
instruction-values (Instr.Adrp rd pages) h = let e = pages_back (bits_of_signed 21 pages) in rw (e, signed-bits 21 pages (lit≤ tt) h.1) refl
instruction-values Instr.Nop h = refl
instruction-values (Instr.LoadStore op rt rn imm) h = refl
instruction-values (Instr.LoadStoreWord op rt rn imm) h = refl
instruction-values (Instr.LoadStoreHalf op rt rn imm) h = refl
instruction-values (Instr.LoadStoreByte op rt rn imm) h = refl
instruction-values (Instr.LoadStoreUnscaled op rt rn imm) h = rw (signed-bits 9 imm (lit≤ tt) h.2) refl
instruction-values (Instr.LoadStorePair op rt rt2 rn imm) h = let pair : is_pair op rt rt2 ≡ true = search rules in rw (pair, signed-bits 7 imm (lit≤ tt) h.3) refl
instruction-values (Instr.Branch op words) h = rw (signed-bits 26 words (lit≤ tt) h) refl
instruction-values (Instr.BranchConditional condition words) h = rw (signed-bits 19 words (lit≤ tt) h.1) refl
instruction-values (Instr.CompareBranch op rt words) h = rw (signed-bits 19 words (lit≤ tt) h.1) refl
instruction-values (Instr.BranchRegister op rn) h = refl
instruction-values (Instr.BranchAuthenticated op rn rm) h = refl
instruction-values (Instr.Blraaz rn) h = refl
instruction-values (Instr.Stack op) h = refl
instruction-values (Instr.Sign op rd rn) h = refl
instruction-values (Instr.Authenticate op rd rn) h = refl
instruction-values (Instr.Plain op rd) h = refl
instruction-values (Instr.Pacga rd rn rm) h = refl
instruction-values (Instr.Exception op imm) h = refl

-- what a row's values give is in range and has them
abbrev Reads : Row → List ℕ → Instr → Type 0
Reads r xs i = InRange i × (row i ≡ r) × (values i ≡ xs)

reads_as : (r : Row) (xs : List ℕ) (i j : Instr) → Some j ≡ Some i → Reads r xs j → Reads r xs i
reads_as r xs i j e h = let same : j ≡ i = cc in subst (Reads r xs) same h

pub values-instruction : (r : Row) (xs : List ℕ) (i : Instr) → Fit (line_places r) xs → instruction r xs ≡ Some i → Reads r xs i
values-instruction (Row.MoveWide op) (rd ∷ imm ∷ hw ∷ []) i h e = reads_as _ _ i (Instr.MoveWide op rd imm hw) e ((h.0, h.1.0, h.1.1.0), refl, refl)
values-instruction (Row.SumImmediate op) (rd ∷ rn ∷ imm ∷ sh ∷ []) i h e = reads_as _ _ i (Instr.SumImmediate op rd rn imm (eqb sh 1)) e ((h.0, h.1.0, h.1.1.0), refl, ap (λ z. rd ∷ rn ∷ imm ∷ z ∷ []) (back_bit sh h.1.1.1.0))
values-instruction Row.SubsImmediate (rd ∷ rn ∷ imm ∷ sh ∷ []) i h e = reads_as _ _ i (Instr.SubsImmediate rd rn imm (eqb sh 1)) e ((h.0, h.1.0, h.1.1.0), refl, ap (λ z. rd ∷ rn ∷ imm ∷ z ∷ []) (back_bit sh h.1.1.1.0))
values-instruction (Row.Sum op) (rd ∷ rn ∷ rm ∷ []) i h e = reads_as _ _ i (Instr.Sum op rd rn rm) e ((h.0, h.1.0, h.1.1.0), refl, refl)
values-instruction (Row.Logical op) (rd ∷ rn ∷ rm ∷ []) i h e = reads_as _ _ i (Instr.Logical op rd rn rm) e ((h.0, h.1.0, h.1.1.0), refl, refl)
values-instruction (Row.MultiplyAdd op) (rd ∷ rn ∷ ra ∷ rm ∷ []) i h e = reads_as _ _ i (Instr.MultiplyAdd op rd rn rm ra) e ((h.0, h.1.0, h.1.1.1.0, h.1.1.0), refl, refl)
values-instruction (Row.Divide op) (rd ∷ rn ∷ rm ∷ []) i h e = reads_as _ _ i (Instr.Divide op rd rn rm) e ((h.0, h.1.0, h.1.1.0), refl, refl)
values-instruction (Row.Shift op) (rd ∷ rn ∷ rm ∷ []) i h e = reads_as _ _ i (Instr.Shift op rd rn rm) e ((h.0, h.1.0, h.1.1.0), refl, refl)
values-instruction (Row.Bitfield op) (rd ∷ rn ∷ imms ∷ immr ∷ []) i h e = reads_as _ _ i (Instr.Bitfield op rd rn immr imms) e ((h.0, h.1.0, h.1.1.1.0, h.1.1.0), refl, refl)
values-instruction Row.Csinc (rd ∷ rn ∷ condition ∷ rm ∷ []) i h e = reads_as _ _ i (Instr.Csinc rd rn rm condition) e ((h.0, h.1.0, h.1.1.1.0, h.1.1.0), refl, refl)
values-instruction Row.Adrp (rd ∷ high ∷ low ∷ []) i h e =
    let fits : high * 4 + low < 2 ^ 21 = omega (arith, h.1.0, h.1.1.0) in
    let back = bits-signed 21 (high * 4 + low) fits in
    reads_as Row.Adrp (rd ∷ high ∷ low ∷ []) i (Instr.Adrp rd (signed_of_bits 21 (high * 4 + low))) e
    ((h.0, IsSigned-signed 21 (high * 4 + low) (lit≤ tt) fits), refl, rw back (pages_parts high low h.1.1.0 rd))
values-instruction Row.Nop [] i h e = reads_as _ _ i Instr.Nop e (tt, refl, refl)
values-instruction (Row.LoadStore op) (rt ∷ rn ∷ imm ∷ []) i h e = reads_as _ _ i (Instr.LoadStore op rt rn imm) e ((h.0, h.1.0, h.1.1.0), refl, refl)
values-instruction (Row.LoadStoreWord op) (rt ∷ rn ∷ imm ∷ []) i h e = reads_as _ _ i (Instr.LoadStoreWord op rt rn imm) e ((h.0, h.1.0, h.1.1.0), refl, refl)
values-instruction (Row.LoadStoreHalf op) (rt ∷ rn ∷ imm ∷ []) i h e = reads_as _ _ i (Instr.LoadStoreHalf op rt rn imm) e ((h.0, h.1.0, h.1.1.0), refl, refl)
values-instruction (Row.LoadStoreByte op) (rt ∷ rn ∷ imm ∷ []) i h e = reads_as _ _ i (Instr.LoadStoreByte op rt rn imm) e ((h.0, h.1.0, h.1.1.0), refl, refl)
values-instruction (Row.LoadStoreUnscaled op) (rt ∷ rn ∷ imm ∷ []) i h e = reads_as _ _ i (Instr.LoadStoreUnscaled op rt rn (signed_of_bits 9 imm)) e ((h.0, h.1.0, IsSigned-signed 9 imm (lit≤ tt) h.1.1.0), refl, ap (λ z. rt ∷ rn ∷ z ∷ []) (bits-signed 9 imm h.1.1.0))
values-instruction (Row.LoadStorePair op) (rt ∷ rn ∷ rt2 ∷ imm ∷ []) i h e = go (is_pair op rt rt2) refl e
  where
    go : (b : Bool) → is_pair op rt rt2 ≡ b → cond b (Some (Instr.LoadStorePair op rt rt2 rn (signed_of_bits 7 imm))) None ≡ Some i → Reads (Row.LoadStorePair op) (rt ∷ rn ∷ rt2 ∷ imm ∷ []) i
    go true t e = let pair : IsTrue (is_pair op rt rt2) = search rules in reads_as _ _ i (Instr.LoadStorePair op rt rt2 rn (signed_of_bits 7 imm)) e ((h.0, h.1.1.0, h.1.0, IsSigned-signed 7 imm (lit≤ tt) h.1.1.1.0, pair), refl, ap (λ z. rt ∷ rn ∷ rt2 ∷ z ∷ []) (bits-signed 7 imm h.1.1.1.0))
    go false t e = cc
values-instruction (Row.Branch op) (words ∷ []) i h e = reads_as _ _ i (Instr.Branch op (signed_of_bits 26 words)) e (IsSigned-signed 26 words (lit≤ tt) h.0, refl, ap (λ z. z ∷ []) (bits-signed 26 words h.0))
values-instruction Row.BranchConditional (condition ∷ words ∷ []) i h e = reads_as _ _ i (Instr.BranchConditional condition (signed_of_bits 19 words)) e ((h.0, IsSigned-signed 19 words (lit≤ tt) h.1.0), refl, ap (λ z. condition ∷ z ∷ []) (bits-signed 19 words h.1.0))
values-instruction (Row.CompareBranch op) (rt ∷ words ∷ []) i h e = reads_as _ _ i (Instr.CompareBranch op rt (signed_of_bits 19 words)) e ((h.0, IsSigned-signed 19 words (lit≤ tt) h.1.0), refl, ap (λ z. rt ∷ z ∷ []) (bits-signed 19 words h.1.0))
values-instruction (Row.BranchRegister op) (rn ∷ []) i h e = reads_as _ _ i (Instr.BranchRegister op rn) e (h.0, refl, refl)
values-instruction (Row.BranchAuthenticated op) (rm ∷ rn ∷ []) i h e = reads_as _ _ i (Instr.BranchAuthenticated op rn rm) e ((h.1.0, h.0), refl, refl)
values-instruction Row.Blraaz (rn ∷ []) i h e = reads_as _ _ i (Instr.Blraaz rn) e (h.0, refl, refl)
values-instruction (Row.Stack op) [] i h e = reads_as _ _ i (Instr.Stack op) e (tt, refl, refl)
values-instruction (Row.Sign op) (rd ∷ rn ∷ []) i h e = reads_as _ _ i (Instr.Sign op rd rn) e ((h.0, h.1.0), refl, refl)
values-instruction (Row.Authenticate op) (rd ∷ rn ∷ []) i h e = reads_as _ _ i (Instr.Authenticate op rd rn) e ((h.0, h.1.0), refl, refl)
values-instruction (Row.Plain op) (rd ∷ []) i h e = reads_as _ _ i (Instr.Plain op rd) e (h.0, refl, refl)
values-instruction Row.Pacga (rd ∷ rn ∷ rm ∷ []) i h e = reads_as _ _ i (Instr.Pacga rd rn rm) e ((h.0, h.1.0, h.1.1.0), refl, refl)
values-instruction (Row.Exception op) (imm ∷ []) i h e = reads_as _ _ i (Instr.Exception op imm) e (h.0, refl, refl)
values-instruction _ _ i h e = cc

-- The word of an instruction.

pub decoded_by-encoded : (i : Instr) → InRange i → decoded_by (row i) (encoded i) ≡ Some i
unfolding decoded_by encoded
decoded_by-encoded i h =
    ap (instruction_of (row i)) (fields_word (parts (row i)) 0 (values i) (row_fits (row i)) (Fit-values i h)) ∙ instruction-values i h

-- reading the word of an instruction gives the instruction
pub decoded-encoded : (i : Instr) → InRange i → decoded (encoded i) ≡ Some i
decoded-encoded i h = found_in_table (row i) (encoded i) i (decoded_by-encoded i h)

-- the same where the word is known
pub decoded_word : (i : Instr) (w : ℕ) → InRange i → encoded i ≡ w → decoded w ≡ Some i
decoded_word i w h e = ap decoded (sym e) ∙ decoded-encoded i h

-- an instruction that a row reads from a word is in range and has that word
pub encoded-decoded_by : (r : Row) (w : ℕ) (i : Instr) → decoded_by r w ≡ Some i → InRange i × (row i ≡ r) × (encoded i ≡ w)
unfolding decoded_by encoded
encoded-decoded_by r w i e = go (fields (parts r) w) refl e
  where
    go : (o : Option (List ℕ)) → fields (parts r) w ≡ o → instruction_of r o ≡ Some i → InRange i × (row i ≡ r) × (word (parts (row i)) (values i) ≡ w)
    go None t f = cc
    go (Some xs) t f =
        let back = word-fields (parts r) 0 w xs t in
        let reads = values-instruction r xs i (subst (λ ps. Fit ps xs) (places_of-parts r) back.0) f in
        let e : word (parts (row i)) (values i) ≡ word (parts r) xs = ap (λ z. word (parts z) (values i)) reads.1 ∙ ap (word (parts r)) reads.2 in
        (reads.0, reads.1, e ∙ back.1)

-- some row reads what the table reads
pub row_of_decoded : (rs : List Row) (w : ℕ) (i : Instr) → decoded_among rs w ≡ Some i → (r : Row) × (decoded_by r w ≡ Some i)
unfolding decoded_among
row_of_decoded [] w i e = cc
row_of_decoded (r ∷ rs) w i e = go (λ f. row_of_decoded rs w i f) (decoded_by r w) refl e
  where
    go : (decoded_among rs w ≡ Some i → (q : Row) × (decoded_by q w ≡ Some i)) → (o : Option Instr) → decoded_by r w ≡ o → or_else o (decoded_among rs w) ≡ Some i → (q : Row) × (decoded_by q w ≡ Some i)
    go ih None t f = ih f
    go ih (Some j) t f = (r, t ∙ f)

-- the instruction of a word is in range and has that word
pub encoded-decoded : (w : ℕ) (i : Instr) → decoded w ≡ Some i → InRange i × (encoded i ≡ w)
unfolding decoded
encoded-decoded w i e =
    let found = row_of_decoded rows w i e in
    let back = encoded-decoded_by found.0 w i found.1 in
    (back.0, back.2)

-- no word is of two rows
pub one_row : (q r : Row) (w : ℕ) (i j : Instr) → decoded_by q w ≡ Some i → decoded_by r w ≡ Some j → q ≡ r
one_row q r w i j e f =
    let same : i ≡ j = let a = found_in_table q w i e in let b = found_in_table r w j f in cc in
    sym (encoded-decoded_by q w i e).1 ∙ (ap row same ∙ (encoded-decoded_by r w j f).1)

-- no instruction has the word exactly where no row reads it
pub none_by_row : (r : Row) (w : ℕ) → decoded w ≡ None → decoded_by r w ≡ None
none_by_row r w e = go (decoded_by r w) refl
  where
    go : (o : Option Instr) → decoded_by r w ≡ o → o ≡ None
    go None f = refl
    go (Some i) f = let g = found_in_table r w i f in cc

pub none_of_rows : (w : ℕ) → ((r : Row) → decoded_by r w ≡ None) → decoded w ≡ None
unfolding decoded
none_of_rows w h = go (decoded_among rows w) refl
  where
    go : (o : Option Instr) → decoded_among rows w ≡ o → o ≡ None
    go None e = refl
    go (Some i) e = let found = row_of_decoded rows w i e in let none = h found.0 in cc

-- Words have 32 bits.

joined_lt : (x rest n k : ℕ) → x < 2 ^ n → rest < 2 ^ k → x + 2 ^ n * rest < 2 ^ (k + n)
joined_lt x rest n k h f =
    let e : 2 ^ (k + n) ≡ 2 ^ k * 2 ^ n = pow-add 2 k n in
    let g : rest * 2 ^ n + x < 2 ^ n * 2 ^ k = mul-add-lt rest (2 ^ n) x (2 ^ k) f h in
    omega arith

word-lt : (ps : List Part) (low : ℕ) (xs : List ℕ) → fixed_fit ps ≡ true → Fit (places_of low ps) xs → word ps xs < 2 ^ total ps
unfolding word
word-lt [] low [] f h = lit< tt
word-lt [] low (x ∷ xs) f h = absurd h
word-lt (Fixed n v ∷ ps) low xs f h = let a = and_parts _ _ f in joined_lt v (word ps xs) n (total ps) (ltb-true _ _ a.0) (word-lt ps (low + n) xs a.1 h)
word-lt (Field n ∷ ps) low [] f h = absurd h
word-lt (Field n ∷ ps) low (x ∷ xs) f h = joined_lt x (word ps xs) n (total ps) h.0 (word-lt ps (low + n) xs f h.1)

pub encoded-lt : (i : Instr) → InRange i → encoded i < 2 ^ 32
unfolding encoded
encoded-lt i h = subst (λ n. word (parts (row i)) (values i) < 2 ^ n) (total-parts (row i)) (word-lt (parts (row i)) 0 (values i) (row_fits (row i)) (Fit-values i h))

-- what the code makes: the fields put into the fixed bits of the row
pub encoded-puts : (i j : Instr) (base : ℕ) → InRange i → i ≡ j → base ≡ fixed (parts (row i)) → puts (line_places (row j)) base (values j) ≡ encoded i
unfolding encoded
encoded-puts i j base h e f =
    ap (λ z. puts (line_places (row z)) base (values z)) (sym e)
    ∙ (ap (λ z. puts (line_places (row i)) z (values i)) f
    ∙ (ap (λ z. puts z (fixed (parts (row i))) (values i)) (sym (places_of-parts (row i)))
    ∙ word_from_puts (parts (row i)) (values i) (row_fits (row i)) (Fit-values i h)))

pub then_put : (low n : ℕ) {p q w x y : ℕ} → p ≡ with_field low n q x → q ≡ w → x ≡ y → p ≡ with_field low n w y
then_put low n {p} {q} {w} {x} {y} e f g = e ∙ (ap (λ z. with_field low n z x) f ∙ ap (with_field low n w) g)

-- how a `bool` becomes a number
pub bit_of-bool : (b : Bool) → bool_byte b ≡ bit_of b
bit_of-bool false = refl
bit_of-bool true = refl

-- the two fields that hold the pages of `adrp`
pub pages_above : (bits n : ℕ) → bits < 2 ^ 21 → bits ≡ n → field 2 19 bits ≡ n / 4
pages_above bits n h e = let f : bits / 4 % 524288 ≡ bits / 4 = omega arith in f ∙ ap (λ z. z / 4) e

pub pages_below : (bits n : ℕ) → bits ≡ n → field 0 2 bits ≡ n % 4
pages_below bits n e = let f : bits / 1 % 4 ≡ bits % 4 = omega arith in f ∙ ap (λ z. z % 4) e
