-- What is read as an operand is what spells it, and the other way round.
use Rattle.std.proofs.Common.{◌≡◌, ◌⊎◌, inl, inr, ℕ, ◌+◌, ◌-◌, ◌*◌, ◌/◌, ◌%◌, ◌≤◌, ◌<◌, Bool, true, false, cond, ◌&&◌, ◌==◌, [], ◌∷◌, ◌++◌, refl, sym, ◌∙◌, ap, subst, arith, codes, Option, Some, None}
use Rattle.std.specs.Prelude.{option_and_then, nat_lt}
use Rattle.std.specs.List.{list_all}
use Rattle.std.specs.Char.{is_ascii_digit}
use Rattle.std.specs.Str.{bytes_eq}
use Rattle.std.specs.Str.Parse.{digits_value}
use Rattle.std.proofs.lemmas.Bool.Decides.{nat_tests}
use Rattle.std.proofs.lemmas.Slice.Eq.{bytes_eq-Decides}
use Rattle.pa_asmline.specs.declared.kind.Kind.{Kind}
use Rattle.pa_asmline.specs.declared.kind.Kind.TheVariants as kind
use Rattle.pa_asmline.specs.declared.kind.Range.{Range}
use Rattle.pa_asmline.specs.declared.value.Value.TheVariants.{Number}
use Rattle.pa_asmline.specs.Rows.{Text}
use Rattle.pa_asmline.specs.Operands.{Operand, Given, Named, is_name, register_text, sign, is_empty, is_numeral, value, IsRegister, IsNumber, IsNamed, Spells}
use Rattle.pa_asmline.specs.Reading.{behind, before, last_register, tens, is_ten, register, register_operand, given_register, number_of, number_operand, named_operand, operand}
use Rattle.pa_asmline.proofs.Texts.{both_true, and_then_parts, behind_splits, behind_joined, before_splits, before_joined, differs}

-- ---- registers

one_digit : (last : Text) (n : ℕ) → n < 10 → register_text last n ≡ 120 ∷ (48 + n) ∷ []
one_digit last n h = let small : nat_lt n 10 ≡ true = grind (arith, nat_tests) in rw small refl

two_digits : (last : Text) (n : ℕ) → 10 ≤ n → n < 31 → register_text last n ≡ 120 ∷ (48 + n / 10) ∷ (48 + n % 10) ∷ []
two_digits last n h k =
    let big : nat_lt n 10 ≡ false = grind (arith, nat_tests) in
    let small : nat_lt n 31 ≡ true = grind (arith, nat_tests) in
    rw (big, small) refl

last_one : (last : Text) (n : ℕ) → n < 32 → 31 ≤ n → register_text last n ≡ last
last_one last n h k =
    let same : n ≡ 31 = omega arith in
    rw same refl

abbrev IsFound : Text → Text → ℕ → Type 0
IsFound last text n = (n < 32) × (text ≡ register_text last n)

last_found : (last text : Text) (n : ℕ) (b : Bool) → bytes_eq text last ≡ b → cond b (Some 31) None ≡ Some n → IsFound last text n
last_found last text n true e h =
    let same : 31 ≡ n = cc in
    subst (IsFound last text) same (omega arith, (bytes_eq-Decides text last).0 e)
last_found last text n false e h = cc

at_last : (last text : Text) (n : ℕ) → last_register last text ≡ Some n → IsFound last text n
at_last last text n e = last_found last text n (bytes_eq text last) refl e

is_byte : (a b : ℕ) → (a == b) ≡ true → a ≡ b
is_byte a b e = grind (arith, nat_tests)

digit_bounds : (c : ℕ) → is_ascii_digit c ≡ true → (48 ≤ c) × (c ≤ 57)
digit_bounds c e = (grind (arith, nat_tests), grind (arith, nat_tests))

digit_is : (c : ℕ) → 48 ≤ c → c ≤ 57 → is_ascii_digit c ≡ true
digit_is c h k = grind (arith, nat_tests)

ten_bounds : (c : ℕ) → is_ten c ≡ true → (49 ≤ c) × (c ≤ 51)
ten_bounds c e = (grind (arith, nat_tests), grind (arith, nat_tests))

ten_is : (c : ℕ) → 49 ≤ c → c ≤ 51 → is_ten c ≡ true
ten_is c h k = grind (arith, nat_tests)

found_one : (last : Text) (x one n : ℕ) (b : Bool) → ((x == 120) && is_ascii_digit one) ≡ b → cond b (Some (one - 48)) (last_register last (x ∷ one ∷ [])) ≡ Some n → IsFound last (x ∷ one ∷ []) n
found_one last x one n true e h =
    let parts = both_true (x == 120) (is_ascii_digit one) e in
    let head : x ≡ 120 = is_byte x 120 parts.0 in
    let bounds = digit_bounds one parts.1 in
    let low : 48 ≤ one = bounds.0 in
    let high : one ≤ 57 = bounds.1 in
    let count : one - 48 ≡ n = cc in
    let back : 48 + n ≡ one = omega arith in
    let small : n < 10 = omega arith in
    (omega arith, ap (λ z. z ∷ one ∷ []) head ∙ ap (λ z. 120 ∷ z ∷ []) (sym back) ∙ sym (one_digit last n small))
found_one last x one n false e h = at_last last (x ∷ one ∷ []) n h

found_tens : (ten one n : ℕ) (b : Bool) → nat_lt (10 * (ten - 48) + (one - 48)) 31 ≡ b → cond b (Some (10 * (ten - 48) + (one - 48))) None ≡ Some n → (10 * (ten - 48) + (one - 48) < 31) × (10 * (ten - 48) + (one - 48) ≡ n)
found_tens ten one n true e h = (grind (arith, nat_tests), cc)
found_tens ten one n false e h = cc

found_two : (last : Text) (x ten one n : ℕ) (b : Bool) → ((x == 120) && (is_ten ten && is_ascii_digit one)) ≡ b → cond b (tens ten one) (last_register last (x ∷ ten ∷ one ∷ [])) ≡ Some n → IsFound last (x ∷ ten ∷ one ∷ []) n
found_two last x ten one n true e h =
    let parts = both_true (x == 120) (is_ten ten && is_ascii_digit one) e in
    let more = both_true (is_ten ten) (is_ascii_digit one) parts.1 in
    let head : x ≡ 120 = is_byte x 120 parts.0 in
    let t = ten_bounds ten more.0 in
    let o = digit_bounds one more.1 in
    let a : 49 ≤ ten = t.0 in
    let b : ten ≤ 51 = t.1 in
    let c : 48 ≤ one = o.0 in
    let d : one ≤ 57 = o.1 in
    let found = found_tens ten one n (nat_lt (10 * (ten - 48) + (one - 48)) 31) refl h in
    let fits : 10 * (ten - 48) + (one - 48) < 31 = found.0 in
    let count : 10 * (ten - 48) + (one - 48) ≡ n = found.1 in
    let tens_back : 48 + n / 10 ≡ ten = omega arith in
    let ones_back : 48 + n % 10 ≡ one = omega arith in
    (omega arith, ap (λ z. z ∷ ten ∷ one ∷ []) head ∙ ap (λ z. 120 ∷ z ∷ one ∷ []) (sym tens_back) ∙ ap (λ z. 120 ∷ (48 + n / 10) ∷ z ∷ []) (sym ones_back) ∙ sym (two_digits last n (omega arith) (omega arith)))
found_two last x ten one n false e h = at_last last (x ∷ ten ∷ one ∷ []) n h

register_found : (last text : Text) (n : ℕ) → register last text ≡ Some n → IsFound last text n
register_found last [] n e = at_last last [] n e
register_found last (x ∷ []) n e = at_last last (x ∷ []) n e
register_found last (x ∷ one ∷ []) n e = found_one last x one n ((x == 120) && is_ascii_digit one) refl e
register_found last (x ∷ ten ∷ one ∷ []) n e = found_two last x ten one n ((x == 120) && (is_ten ten && is_ascii_digit one)) refl e
register_found last (x ∷ ten ∷ one ∷ more ∷ text) n e = at_last last (x ∷ ten ∷ one ∷ more ∷ text) n e

reads_one : (last : Text) (n : ℕ) → n < 10 → register last (120 ∷ (48 + n) ∷ []) ≡ Some n
reads_one last n h =
    let digit : is_ascii_digit (48 + n) ≡ true = digit_is (48 + n) (omega arith) (omega arith) in
    let back : (48 + n) - 48 ≡ n = omega arith in
    rw (digit, back) refl

reads_two : (last : Text) (n : ℕ) → 10 ≤ n → n < 31 → register last (120 ∷ (48 + n / 10) ∷ (48 + n % 10) ∷ []) ≡ Some n
reads_two last n h k =
    let ten : is_ten (48 + n / 10) ≡ true = ten_is (48 + n / 10) (omega arith) (omega arith) in
    let one : is_ascii_digit (48 + n % 10) ≡ true = digit_is (48 + n % 10) (omega arith) (omega arith) in
    let back : 10 * ((48 + n / 10) - 48) + ((48 + n % 10) - 48) ≡ n = omega arith in
    let small : nat_lt n 31 ≡ true = grind (arith, nat_tests) in
    rw (ten, one, back, small) refl

reads_register : (last : Text) (n : ℕ) → register last last ≡ Some 31 → n < 32 → (n < 10) ⊎ ((10 ≤ n) × (n < 31)) ⊎ (31 ≤ n) → register last (register_text last n) ≡ Some n
reads_register last n e h (inl small) = rw (one_digit last n small) (reads_one last n small)
reads_register last n e h (inr (inl middle)) = rw (two_digits last n middle.0 middle.1) (reads_two last n middle.0 middle.1)
reads_register last n e h (inr (inr big)) = rw (last_one last n h big) (e ∙ ap Some (let same : 31 ≡ n = omega arith in same))

which : (n : ℕ) → (n < 10) ⊎ ((10 ≤ n) × (n < 31)) ⊎ (31 ≤ n)
which n = go (nat_lt n 10) (nat_lt n 31) refl refl
  where
    go : (a b : Bool) → nat_lt n 10 ≡ a → nat_lt n 31 ≡ b → (n < 10) ⊎ ((10 ≤ n) × (n < 31)) ⊎ (31 ≤ n)
    go true b e f = inl (grind (arith, nat_tests))
    go false true e f = inr (inl (grind (arith, nat_tests), grind (arith, nat_tests)))
    go false false e f = inr (inr (grind (arith, nat_tests)))

given_parts : (o : Option ℕ) (v : Operand) → given_register o ≡ Some v → (n : ℕ) × (o ≡ Some n) × (v ≡ Given (Number false n))
given_parts None v e = cc
given_parts (Some n) v e = (n, refl, cc)

register_sound : (last text : Text) (v : Operand) → register_operand last text ≡ Some v → IsRegister last v text
register_sound last text v e =
    let parts = given_parts (register last text) v e in
    let found = register_found last text parts.0 parts.1 in
    (parts.0, found.0, found.1, parts.2)

register_complete : (last text : Text) (v : Operand) → register last last ≡ Some 31 → IsRegister last v text → register_operand last text ≡ Some v
register_complete last text v e r =
    rw (r.2, r.3) (ap given_register (reads_register last r.0 e r.1 (which r.0)))

-- ---- numbers

number_parts : (range : Range) (negative : Bool) (digits : Text) (v : Operand) (b : Bool) → is_numeral negative digits ≡ b → cond b (Some (Given (value range negative (digits_value 10 digits)))) None ≡ Some v → (is_numeral negative digits ≡ true) × (v ≡ Given (value range negative (digits_value 10 digits)))
number_parts range negative digits v true e h = (e, cc)
number_parts range negative digits v false e h = cc

number_by : (range : Range) (byte : ℕ) (text : Text) (v : Operand) (b : Bool) → (byte == 45) ≡ b → cond b (number_of range true text) (number_of range false (byte ∷ text)) ≡ Some v → IsNumber range v (byte ∷ text)
number_by range byte text v true e h =
    let parts = number_parts range true text v (is_numeral true text) refl h in
    (true, text, parts.0, ap (λ z. z ∷ text) (is_byte byte 45 e), parts.1)
number_by range byte text v false e h =
    let parts = number_parts range false (byte ∷ text) v (is_numeral false (byte ∷ text)) refl h in
    (false, byte ∷ text, parts.0, refl, parts.1)

number_sound : (range : Range) (text : Text) (v : Operand) → number_operand range text ≡ Some v → IsNumber range v text
number_sound range [] v e = cc
number_sound range (byte ∷ text) v e = number_by range byte text v (byte == 45) refl e

no_sign : (digit : ℕ) (digits : Text) → is_numeral false (digit ∷ digits) ≡ true → (digit == 45) ≡ false
no_sign digit digits h = go (digit == 48) refl h
  where
    go : (b : Bool) → (digit == 48) ≡ b → cond b (is_empty digits && true) (is_ascii_digit digit && list_all is_ascii_digit digits) ≡ true → (digit == 45) ≡ false
    go true e k = let same : digit ≡ 48 = is_byte digit 48 e in rw same refl
    go false e k = differs is_ascii_digit digit 45 refl (both_true (is_ascii_digit digit) (list_all is_ascii_digit digits) k).0

number_reads : (range : Range) (negative : Bool) (digits : Text) → is_numeral negative digits ≡ true → number_operand range (sign negative ++ digits) ≡ Some (Given (value range negative (digits_value 10 digits)))
number_reads range true digits h = rw h refl
number_reads range false [] h = cc
number_reads range false (digit ∷ digits) h = rw (no_sign digit digits h, h) refl

number_complete : (range : Range) (text : Text) (v : Operand) → IsNumber range v text → number_operand range text ≡ Some v
number_complete range text v n = rw (n.3, n.4) (number_reads range n.0 n.1 n.2)

-- ---- names

named_by : (k : Kind) (text : Text) (v : Operand) (b : Bool) → is_name text ≡ b → cond b (Some (Named k text)) None ≡ Some v → IsNamed k v text
named_by k text v true e h = (e, cc)
named_by k text v false e h = cc

named_sound : (k : Kind) (text : Text) (v : Operand) → named_operand k text ≡ Some v → IsNamed k v text
named_sound k text v e = named_by k text v (is_name text) refl e

named_complete : (k : Kind) (text : Text) (v : Operand) → IsNamed k v text → named_operand k text ≡ Some v
named_complete k text v n = rw (n.0, n.1) refl

-- ---- operands

shift_by : (text : Text) (v : Operand) (b : Bool) → bytes_eq text (codes "lsl #12") ≡ b → cond b (Some (Given (Number false 12))) None ≡ Some v → (text ≡ codes "lsl #12") × (v ≡ Given (Number false 12))
shift_by text v true e h = ((bytes_eq-Decides _ _).0 e, cc)
shift_by text v false e h = cc

pub operand_sound : (k : Kind) (text : Text) (v : Operand) → operand k text ≡ Some v → Spells k v text
operand_sound kind.Register text v e = register_sound (codes "xzr") text v e
operand_sound kind.RegisterOrStack text v e = register_sound (codes "sp") text v e
operand_sound kind.Base text v e =
    let parts = and_then_parts (register_operand (codes "sp")) (behind (codes "[") text) v e in
    (parts.0, behind_splits (codes "[") text parts.0 parts.1, register_sound (codes "sp") parts.0 v parts.2)
operand_sound (kind.Number range) text v e =
    let parts = and_then_parts (number_operand range) (behind (codes "#") text) v e in
    (parts.0, behind_splits (codes "#") text parts.0 parts.1, number_sound range parts.0 v parts.2)
operand_sound (kind.Offset range) text v e =
    let parts = and_then_parts (λ inner. option_and_then (number_operand range) (before (codes "]") inner)) (behind (codes "#") text) v e in
    let more = and_then_parts (number_operand range) (before (codes "]") parts.0) v parts.2 in
    (more.0, behind_splits (codes "#") text parts.0 parts.1 ∙ ap (λ z. codes "#" ++ z) (before_splits (codes "]") parts.0 more.0 more.1), number_sound range more.0 v more.2)
operand_sound (kind.Shift range) text v e =
    let parts = and_then_parts (number_operand range) (behind (codes "lsl #") text) v e in
    (parts.0, behind_splits (codes "lsl #") text parts.0 parts.1, number_sound range parts.0 v parts.2)
operand_sound kind.Shift12 text v e = shift_by text v (bytes_eq text (codes "lsl #12")) refl e
operand_sound (kind.Target range) text v e = named_sound (kind.Target range) text v e
operand_sound (kind.Callee range) text v e = named_sound (kind.Callee range) text v e
operand_sound kind.Page text v e =
    let parts = and_then_parts (named_operand kind.Page) (before (codes "@PAGE") text) v e in
    (parts.0, before_splits (codes "@PAGE") text parts.0 parts.1, named_sound kind.Page parts.0 v parts.2)
operand_sound kind.PageOffset text v e =
    let parts = and_then_parts (named_operand kind.PageOffset) (before (codes "@PAGEOFF") text) v e in
    (parts.0, before_splits (codes "@PAGEOFF") text parts.0 parts.1, named_sound kind.PageOffset parts.0 v parts.2)

pub operand_complete : (k : Kind) (text : Text) (v : Operand) → Spells k v text → operand k text ≡ Some v
operand_complete kind.Register text v s = register_complete (codes "xzr") text v refl s
operand_complete kind.RegisterOrStack text v s = register_complete (codes "sp") text v refl s
operand_complete kind.Base text v s =
    ap (λ t. option_and_then (register_operand (codes "sp")) (behind (codes "[") t)) s.1
    ∙ ap (option_and_then (register_operand (codes "sp"))) (behind_joined (codes "[") s.0) ∙ register_complete (codes "sp") s.0 v refl s.2
operand_complete (kind.Number range) text v s =
    ap (λ t. option_and_then (number_operand range) (behind (codes "#") t)) s.1
    ∙ ap (option_and_then (number_operand range)) (behind_joined (codes "#") s.0) ∙ number_complete range s.0 v s.2
operand_complete (kind.Offset range) text v s =
    ap (λ t. option_and_then (λ inner. option_and_then (number_operand range) (before (codes "]") inner)) (behind (codes "#") t)) s.1
    ∙ ap (option_and_then (λ inner. option_and_then (number_operand range) (before (codes "]") inner))) (behind_joined (codes "#") (s.0 ++ codes "]"))
    ∙ ap (option_and_then (number_operand range)) (before_joined (codes "]") s.0) ∙ number_complete range s.0 v s.2
operand_complete (kind.Shift range) text v s =
    ap (λ t. option_and_then (number_operand range) (behind (codes "lsl #") t)) s.1
    ∙ ap (option_and_then (number_operand range)) (behind_joined (codes "lsl #") s.0) ∙ number_complete range s.0 v s.2
operand_complete kind.Shift12 text v s = rw (s.0, s.1) refl
operand_complete (kind.Target range) text v s = named_complete (kind.Target range) text v s
operand_complete (kind.Callee range) text v s = named_complete (kind.Callee range) text v s
operand_complete kind.Page text v s =
    ap (λ t. option_and_then (named_operand kind.Page) (before (codes "@PAGE") t)) s.1
    ∙ ap (option_and_then (named_operand kind.Page)) (before_joined (codes "@PAGE") s.0) ∙ named_complete kind.Page s.0 v s.2
operand_complete kind.PageOffset text v s =
    ap (λ t. option_and_then (named_operand kind.PageOffset) (before (codes "@PAGEOFF") t)) s.1
    ∙ ap (option_and_then (named_operand kind.PageOffset)) (before_joined (codes "@PAGEOFF") s.0) ∙ named_complete kind.PageOffset s.0 v s.2
