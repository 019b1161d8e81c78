-- The longest integer constant is the one that is read.
use Rattle.std.proofs.Common.{◌≡◌, ℕ, suc, ◌+◌, ◌≤◌, Bool, true, false, cond, not, ◌==◌, [], ◌∷◌, ◌++◌, length, take, drop, refl, sym, ◌∙◌, ap, subst, arith, append_assoc, length-append, one-add}
use Rattle.std.specs.List.{prefix_len, list_all}
use Rattle.std.specs.Char.{is_digit}
use Rattle.std.proofs.lemmas.Bool.Decides.{nat_tests}
use Rattle.std.proofs.lemmas.List.{take-append-drop, length-take-le, append-nil, append_cancel_left}
use Rattle.std.proofs.lemmas.List.Sums.{prefix_len-le-length}
use Rattle.std.proofs.Math.Seq.{drop-append_seam}
use Rattle.pa_lex.specs.declared.form.Base.{Base}
use Rattle.pa_lex.specs.declared.form.Base.TheVariants.{Decimal, Octal, LowerHexadecimal, UpperHexadecimal}
use Rattle.pa_lex.specs.Texts.{Text}
use Rattle.pa_lex.specs.Literals.{prefix, radix, may_lead, IsDigits, IsSuffix}
use Rattle.pa_lex.specs.Reading.{suffix_len, base_at, next_is}
use Rattle.pa_lex.proofs.Runs.{if_true, if_false, both_true, heads, tails, differ, StopsRun, run_bounds, run_is, run_passes, same_front}
use Rattle.pa_lex.proofs.Suffixes.{suffix_longest, suffix_fits, suffix_first, suffix_within, is_suffix_byte}

-- an integer constant of these parts begins a text
pub record IsNumberAt (base : Base) (digits suffix text rest : Text) : Type 0 where
  pub text_is : text ≡ (prefix base ++ (digits ++ suffix)) ++ rest
  pub digits_fit : IsDigits base digits
  pub suffix_fits : IsSuffix suffix

abbrev pub digit_of : Base → ℕ → Bool
digit_of base d = is_digit d (radix base)

-- how long the digits and the suffix are that are read
abbrev pub run_len : (ℕ → Bool) → Text → ℕ
run_len p t = prefix_len p t + suffix_len (drop (prefix_len p t) t)

-- no digits with a suffix are longer than what is read
run_longest : (p : ℕ → Bool) → ((c : ℕ) → is_suffix_byte c ≡ true → p c ≡ false) → (t ds s rest : Text) → t ≡ (ds ++ s) ++ rest → list_all p ds ≡ true → IsSuffix s → length (ds ++ s) ≤ run_len p t
run_longest p apart t ds [] rest e h k =
    let b : length ds ≤ prefix_len p t = run_bounds p t ds ([] ++ rest) (e ∙ append_assoc ds [] rest) h in
    omega (arith, length-append ds [])
run_longest p apart t ds (c ∷ s) rest e h k =
    let whole : t ≡ ds ++ ((c ∷ s) ++ rest) = e ∙ append_assoc ds (c ∷ s) rest in
    let n : prefix_len p t ≡ length ds = ap (prefix_len p) whole ∙ run_is p ds ((c ∷ s) ++ rest) h (apart c (suffix_first c s k)) in
    let behind : drop (prefix_len p t) t ≡ (c ∷ s) ++ rest = ap (λ m. drop m t) n ∙ ap (drop (length ds)) whole ∙ drop-append_seam ds ((c ∷ s) ++ rest) in
    let l : length (c ∷ s) ≤ suffix_len (drop (prefix_len p t) t) = subst (λ u. length (c ∷ s) ≤ suffix_len u) (sym behind) (suffix_longest (c ∷ s) rest k) in
    omega (arith, length-append ds (c ∷ s))

-- no letter of a suffix is a digit
suffix_apart : (base : Base) (c : ℕ) → is_suffix_byte c ≡ true → digit_of base c ≡ false
suffix_apart Decimal c h = grind (arith, nat_tests)
suffix_apart Octal c h = grind (arith, nat_tests)
suffix_apart LowerHexadecimal c h = grind (arith, nat_tests)
suffix_apart UpperHexadecimal c h = grind (arith, nat_tests)

digits_pass : (base : Base) (ds : Text) → IsDigits base ds → list_all (digit_of base) ds ≡ true
digits_pass base [] h = elim h [ ]
digits_pass base (d ∷ ds) h = h.1

behind_prefix : (base : Base) (ds s t rest : Text) → IsNumberAt base ds s t rest → drop (length (prefix base)) t ≡ (ds ++ s) ++ rest
behind_prefix base ds s t rest h = ap (drop (length (prefix base))) (h.text_is ∙ append_assoc (prefix base) (ds ++ s) rest) ∙ drop-append_seam (prefix base) ((ds ++ s) ++ rest)

-- among constants of one base
same_base : (base : Base) (ds s t rest : Text) → IsNumberAt base ds s t rest → length (ds ++ s) ≤ run_len (digit_of base) (drop (length (prefix base)) t)
same_base base ds s t rest h = run_longest (digit_of base) (suffix_apart base) (drop (length (prefix base)) t) ds s rest (behind_prefix base ds s t rest h) (digits_pass base ds h.digits_fit) h.suffix_fits

lower_base : (ds s t rest : Text) → IsNumberAt LowerHexadecimal ds s t rest → base_at t ≡ LowerHexadecimal
lower_base [] s t rest h = elim h.digits_fit [ ]
lower_base (d ∷ ds) s t rest h = let f : is_digit d 16 ≡ true = (both_true (is_digit d 16) (list_all (digit_of LowerHexadecimal) ds) h.digits_fit.1).0 in rw h.text_is (if_true (λ b. b ≡ LowerHexadecimal) (is_digit d 16) _ _ f refl)

upper_base : (ds s t rest : Text) → IsNumberAt UpperHexadecimal ds s t rest → base_at t ≡ UpperHexadecimal
upper_base [] s t rest h = elim h.digits_fit [ ]
upper_base (d ∷ ds) s t rest h = let f : is_digit d 16 ≡ true = (both_true (is_digit d 16) (list_all (digit_of UpperHexadecimal) ds) h.digits_fit.1).0 in rw h.text_is (if_true (λ b. b ≡ UpperHexadecimal) (is_digit d 16) _ _ f refl)

pub record IsPrefixed (x : ℕ) (text : Text) : Type 0 where
  pub digit : ℕ
  pub more : Text
  pub text_is : text ≡ 48 ∷ (x ∷ (digit ∷ more))
  pub is_hexadecimal : is_digit digit 16 ≡ true

-- what a text looks like whose base is read
abbrev BaseFits : Base → Text → Type 0
BaseFits Decimal text = next_is 48 text ≡ false
BaseFits Octal text = next_is 48 text ≡ true
BaseFits LowerHexadecimal text = IsPrefixed 120 text
BaseFits UpperHexadecimal text = IsPrefixed 88 text

hexadecimal_fits : (c x d : ℕ) (t : Text) (h a b : Bool) → c ≡ 48 → is_digit d 16 ≡ h → (x == 120) ≡ a → (x == 88) ≡ b → BaseFits (cond h (cond a LowerHexadecimal (cond b UpperHexadecimal Octal)) Octal) (c ∷ (x ∷ (d ∷ t)))
hexadecimal_fits c x d t false a b z h e f = rw z refl
hexadecimal_fits c x d t true true b z h e f = let y : x ≡ 120 = grind (arith, nat_tests) in record { digit = d; more = t; text_is = rw (z, y) refl; is_hexadecimal = h }
hexadecimal_fits c x d t true false true z h e f = let y : x ≡ 88 = grind (arith, nat_tests) in record { digit = d; more = t; text_is = rw (z, y) refl; is_hexadecimal = h }
hexadecimal_fits c x d t true false false z h e f = rw z refl

base_by : (c : ℕ) (t : Text) (b : Bool) → (c == 48) ≡ b → BaseFits (base_at (c ∷ t)) (c ∷ t)
base_by c [] true e = rw e e
base_by c [] false e = rw e e
base_by c (x ∷ []) true e = rw e e
base_by c (x ∷ []) false e = rw e e
base_by c (x ∷ (d ∷ t)) true e = if_true (λ base. BaseFits base (c ∷ (x ∷ (d ∷ t)))) (c == 48) _ _ e (let z : c ≡ 48 = grind (arith, nat_tests) in hexadecimal_fits c x d t (is_digit d 16) (x == 120) (x == 88) z refl refl refl)
base_by c (x ∷ (d ∷ t)) false e = if_false (λ base. BaseFits base (c ∷ (x ∷ (d ∷ t)))) (c == 48) _ _ e e

digits_read : (base : Base) (c : ℕ) (t : Text) → may_lead base c ≡ true → digit_of base c ≡ true → IsDigits base (take (prefix_len (digit_of base) (c ∷ t)) (c ∷ t))
digits_read base c t lead h =
    let n : prefix_len (digit_of base) (c ∷ t) ≡ suc (prefix_len (digit_of base) t) = rw h (one-add (prefix_len (digit_of base) t)) in
    subst (λ m. IsDigits base (take m (c ∷ t))) (sym n) (lead, subst (λ m. list_all (digit_of base) (take m (c ∷ t)) ≡ true) n (run_passes (digit_of base) (prefix_len (digit_of base) (c ∷ t)) (c ∷ t) (omega arith)))

decimal_first : (ds s rest : Text) (c : ℕ) (t : Text) → IsNumberAt Decimal ds s (c ∷ t) rest → (c == 48) ≡ false
decimal_first [] s rest c t h = elim h.digits_fit [ ]
decimal_first (d ∷ ds) s rest c t h = let e : c ≡ d = heads h.text_is in rw e (not_true (d == 48) h.digits_fit.0)
  where
    not_true : (b : Bool) → not b ≡ true → b ≡ false
    not_true true e = cc
    not_true false e = refl

octal_first : (ds s rest : Text) (c : ℕ) (t : Text) → IsNumberAt Octal ds s (c ∷ t) rest → (c == 48) ≡ true
octal_first [] s rest c t h = elim h.digits_fit [ ]
octal_first (d ∷ ds) s rest c t h = let e : c ≡ d = heads h.text_is in rw e h.digits_fit.0

-- before an x an octal constant is one digit
octal_short : (ds s rest : Text) (c x : ℕ) (t : Text) → is_digit x 8 ≡ false → is_suffix_byte x ≡ false → IsNumberAt Octal ds s (c ∷ (x ∷ t)) rest → length (ds ++ s) ≤ 1
octal_short [] s rest c x t o n h = elim h.digits_fit [ ]
octal_short (d ∷ []) [] rest c x t o n h = omega arith
octal_short (d ∷ []) (y ∷ s) rest c x t o n h = let e : x ≡ y = heads (tails h.text_is) in let f = suffix_first y s h.suffix_fits in let g : is_suffix_byte x ≡ true = rw e f in absurd (let z : true ≡ false = sym g ∙ n in cc)
octal_short (d ∷ (y ∷ ds)) s rest c x t o n h =
    let e : x ≡ y = heads (tails h.text_is) in
    let f = both_true (is_digit d 8) (list_all (digit_of Octal) (y ∷ ds)) h.digits_fit.1 in
    let g = both_true (is_digit y 8) (list_all (digit_of Octal) ds) f.1 in
    let k : is_digit x 8 ≡ true = subst (λ z. is_digit z 8 ≡ true) (sym e) g.0 in
    absurd (let z : true ≡ false = sym k ∙ o in cc)

-- the digits and the suffix that are read behind a prefix
abbrev read_digits : Base → Text → Text
read_digits base r = take (prefix_len (digit_of base) r) r

abbrev read_suffix : Base → Text → Text
read_suffix base r = take (suffix_len (drop (prefix_len (digit_of base) r) r)) (drop (prefix_len (digit_of base) r) r)

abbrev read_rest : Base → Text → Text
read_rest base r = drop (suffix_len (drop (prefix_len (digit_of base) r) r)) (drop (prefix_len (digit_of base) r) r)

read_len : (base : Base) (r : Text) → length (read_digits base r ++ read_suffix base r) ≡ run_len (digit_of base) r
read_len base r =
    let n : ℕ = prefix_len (digit_of base) r in
    omega (
      arith,
      length-append (read_digits base r) (read_suffix base r),
      length-take-le (prefix_len (digit_of base) r) r (prefix_len-le-length (digit_of base) r),
      length-take-le (suffix_len (drop (prefix_len (digit_of base) r) r)) (drop (prefix_len (digit_of base) r) r) (suffix_within (drop (prefix_len (digit_of base) r) r)),
    )

read_splits : (base : Base) (r : Text) → r ≡ (read_digits base r ++ read_suffix base r) ++ read_rest base r
read_splits base r =
    sym (take-append-drop (prefix_len (digit_of base) r) r)
    ∙ ap (λ x. read_digits base r ++ x) (sym (take-append-drop (suffix_len (drop (prefix_len (digit_of base) r) r)) (drop (prefix_len (digit_of base) r) r)))
    ∙ sym (append_assoc (read_digits base r) (read_suffix base r) (read_rest base r))

read_here : (base : Base) (r text : Text) → text ≡ prefix base ++ r → IsDigits base (read_digits base r) → IsNumberAt base (read_digits base r) (read_suffix base r) text (read_rest base r)
read_here base r text e d = record {
  text_is = e ∙ ap (λ x. prefix base ++ x) (read_splits base r) ∙ sym (append_assoc (prefix base) (read_digits base r ++ read_suffix base r) (read_rest base r));
  digits_fit = d;
  suffix_fits = suffix_fits (drop (prefix_len (digit_of base) r) r);
}

abbrev IsLongestNumber : Base → Text → Text → Type 0
IsLongestNumber base text r = (b : Base) (ds s rest : Text) → IsNumberAt b ds s text rest → length (prefix b ++ (ds ++ s)) ≤ length (prefix base ++ (read_digits base r ++ read_suffix base r))

-- no constant of the same base is longer
same_longest : (base : Base) (r text ds s rest : Text) → text ≡ prefix base ++ r → IsNumberAt base ds s text rest → length (prefix base ++ (ds ++ s)) ≤ length (prefix base ++ (read_digits base r ++ read_suffix base r))
same_longest base r text ds s rest e h =
    let behind : drop (length (prefix base)) text ≡ r = ap (drop (length (prefix base))) e ∙ drop-append_seam (prefix base) r in
    let l : length (ds ++ s) ≤ run_len (digit_of base) r = subst (λ x. length (ds ++ s) ≤ run_len (digit_of base) x) behind (same_base base ds s text rest h) in
    omega (arith, length-append (prefix base) (ds ++ s), length-append (prefix base) (read_digits base r ++ read_suffix base r), read_len base r)

pub record IsReadNumber (base : Base) (r text : Text) : Type 0 where
  pub here : IsNumberAt base (read_digits base r) (read_suffix base r) text (read_rest base r)
  pub longest : IsLongestNumber base text r

other_base : {A : Type 0} (a b : Base) (t : Text) → base_at t ≡ a → base_at t ≡ b → (a ≡ b → A) → A
other_base a b t e f k = k (sym e ∙ f)

decimal_right : (c : ℕ) (t : Text) → is_digit c 10 ≡ true → base_at (c ∷ t) ≡ Decimal → (c == 48) ≡ false → IsReadNumber Decimal (c ∷ t) (c ∷ t)
decimal_right c t h e z = record { here = read_here Decimal (c ∷ t) (c ∷ t) refl (digits_read Decimal c t (rw z refl) h); longest = longest_here }
  where
    longest_here : IsLongestNumber Decimal (c ∷ t) (c ∷ t)
    longest_here Decimal ds s rest k = same_longest Decimal (c ∷ t) (c ∷ t) ds s rest refl k
    longest_here Octal ds s rest k = absurd (let f : true ≡ false = sym (octal_first ds s rest c t k) ∙ z in cc)
    longest_here LowerHexadecimal ds s rest k = absurd (let f : LowerHexadecimal ≡ Decimal = sym (lower_base ds s (c ∷ t) rest k) ∙ e in cc)
    longest_here UpperHexadecimal ds s rest k = absurd (let f : UpperHexadecimal ≡ Decimal = sym (upper_base ds s (c ∷ t) rest k) ∙ e in cc)

octal_right : (c : ℕ) (t : Text) → base_at (c ∷ t) ≡ Octal → (c == 48) ≡ true → IsReadNumber Octal (c ∷ t) (c ∷ t)
octal_right c t e z = record { here = read_here Octal (c ∷ t) (c ∷ t) refl (digits_read Octal c t z (let x : c ≡ 48 = grind (arith, nat_tests) in rw x refl)); longest = longest_here }
  where
    longest_here : IsLongestNumber Octal (c ∷ t) (c ∷ t)
    longest_here Decimal ds s rest k = absurd (let f : true ≡ false = sym z ∙ decimal_first ds s rest c t k in cc)
    longest_here Octal ds s rest k = same_longest Octal (c ∷ t) (c ∷ t) ds s rest refl k
    longest_here LowerHexadecimal ds s rest k = absurd (let f : LowerHexadecimal ≡ Octal = sym (lower_base ds s (c ∷ t) rest k) ∙ e in cc)
    longest_here UpperHexadecimal ds s rest k = absurd (let f : UpperHexadecimal ≡ Octal = sym (upper_base ds s (c ∷ t) rest k) ∙ e in cc)

lower_right : (d : ℕ) (u : Text) → is_digit d 16 ≡ true → base_at (48 ∷ (120 ∷ (d ∷ u))) ≡ LowerHexadecimal → IsReadNumber LowerHexadecimal (d ∷ u) (48 ∷ (120 ∷ (d ∷ u)))
lower_right d u h e = record { here = read_here LowerHexadecimal (d ∷ u) (48 ∷ (120 ∷ (d ∷ u))) refl (digits_read LowerHexadecimal d u refl h); longest = longest_here }
  where
    longest_here : IsLongestNumber LowerHexadecimal (48 ∷ (120 ∷ (d ∷ u))) (d ∷ u)
    longest_here Decimal ds s rest k = absurd (let f : true ≡ false = decimal_first ds s rest 48 (120 ∷ (d ∷ u)) k in cc)
    longest_here Octal ds s rest k = omega (arith, octal_short ds s rest 48 120 (d ∷ u) refl refl k)
    longest_here LowerHexadecimal ds s rest k = same_longest LowerHexadecimal (d ∷ u) (48 ∷ (120 ∷ (d ∷ u))) ds s rest refl k
    longest_here UpperHexadecimal ds s rest k = absurd (let f : UpperHexadecimal ≡ LowerHexadecimal = sym (upper_base ds s (48 ∷ (120 ∷ (d ∷ u))) rest k) ∙ e in cc)

upper_right : (d : ℕ) (u : Text) → is_digit d 16 ≡ true → base_at (48 ∷ (88 ∷ (d ∷ u))) ≡ UpperHexadecimal → IsReadNumber UpperHexadecimal (d ∷ u) (48 ∷ (88 ∷ (d ∷ u)))
upper_right d u h e = record { here = read_here UpperHexadecimal (d ∷ u) (48 ∷ (88 ∷ (d ∷ u))) refl (digits_read UpperHexadecimal d u refl h); longest = longest_here }
  where
    longest_here : IsLongestNumber UpperHexadecimal (48 ∷ (88 ∷ (d ∷ u))) (d ∷ u)
    longest_here Decimal ds s rest k = absurd (let f : true ≡ false = decimal_first ds s rest 48 (88 ∷ (d ∷ u)) k in cc)
    longest_here Octal ds s rest k = omega (arith, octal_short ds s rest 48 88 (d ∷ u) refl refl k)
    longest_here LowerHexadecimal ds s rest k = absurd (let f : LowerHexadecimal ≡ UpperHexadecimal = sym (lower_base ds s (48 ∷ (88 ∷ (d ∷ u))) rest k) ∙ e in cc)
    longest_here UpperHexadecimal ds s rest k = same_longest UpperHexadecimal (d ∷ u) (48 ∷ (88 ∷ (d ∷ u))) ds s rest refl k

-- the constant that is read, with what stands behind its prefix
abbrev behind : Base → Text → Text
behind base text = drop (length (prefix base)) text

by_base : (c : ℕ) (t : Text) (base : Base) → is_digit c 10 ≡ true → base_at (c ∷ t) ≡ base → BaseFits base (c ∷ t) → IsReadNumber base (behind base (c ∷ t)) (c ∷ t)
by_base c t Decimal h e f = decimal_right c t h e f
by_base c t Octal h e f = octal_right c t e f
by_base c t LowerHexadecimal h e f = let same = f.text_is in subst (λ x. IsReadNumber LowerHexadecimal (behind LowerHexadecimal x) x) (sym same) (lower_right f.digit f.more f.is_hexadecimal (ap base_at (sym same) ∙ e))
by_base c t UpperHexadecimal h e f = let same = f.text_is in subst (λ x. IsReadNumber UpperHexadecimal (behind UpperHexadecimal x) x) (sym same) (upper_right f.digit f.more f.is_hexadecimal (ap base_at (sym same) ∙ e))

-- The longest integer constant is read where a text begins with a digit.
pub number_right : (c : ℕ) (t : Text) → is_digit c 10 ≡ true → IsReadNumber (base_at (c ∷ t)) (behind (base_at (c ∷ t)) (c ∷ t)) (c ∷ t)
number_right c t h = by_base c t (base_at (c ∷ t)) h refl (base_by c t (c == 48) refl)

suffix_stops : (base : Base) (s : Text) → IsSuffix s → StopsRun (digit_of base) s
suffix_stops base [] h = tt
suffix_stops base (c ∷ s) h = suffix_apart base c (suffix_first c s h)

-- the digits of one base and the suffix behind them are found in their text
pub parts_same : (base : Base) (ds s es r : Text) → IsDigits base ds → IsSuffix s → IsDigits base es → IsSuffix r → ds ++ s ≡ es ++ r → (ds ≡ es) × (s ≡ r)
parts_same base ds s es r h k i j e =
    let m = run_is (digit_of base) ds s (digits_pass base ds h) (suffix_stops base s k) in
    let n = run_is (digit_of base) es r (digits_pass base es i) (suffix_stops base r j) in
    same_front ds es s r e (sym m ∙ ap (prefix_len (digit_of base)) e ∙ n)

whole : (base : Base) (ds s : Text) → IsDigits base ds → IsSuffix s → IsNumberAt base ds s (prefix base ++ (ds ++ s)) []
whole base ds s h k = record { text_is = sym (append-nil (prefix base ++ (ds ++ s))); digits_fit = h; suffix_fits = k }

pub record IsSameNumber (a b : Base) (ds s es r : Text) : Type 0 where
  pub bases : a ≡ b
  pub digits : ds ≡ es
  pub suffixes : s ≡ r

one_base : (base : Base) (ds s es r : Text) → IsDigits base ds → IsSuffix s → IsDigits base es → IsSuffix r → prefix base ++ (ds ++ s) ≡ prefix base ++ (es ++ r) → IsSameNumber base base ds s es r
one_base base ds s es r h k i j e = let (d, t) = parts_same base ds s es r h k i j (append_cancel_left (prefix base) (ds ++ s) (es ++ r) e) in record { bases = refl; digits = d; suffixes = t }

octal_not : (x : ℕ) (ds s es r : Text) → is_digit x 8 ≡ false → is_suffix_byte x ≡ false → IsDigits Octal ds → IsSuffix s → IsDigits LowerHexadecimal es → ds ++ s ≡ 48 ∷ (x ∷ (es ++ r)) → ⊥
octal_not x ds s [] r o n h k i e = elim i [ ]
octal_not x ds s (d ∷ es) r o n h k i e =
    let w = whole Octal ds s h k in
    let z : IsNumberAt Octal ds s (48 ∷ (x ∷ ((d ∷ es) ++ r))) [] = subst (λ t. IsNumberAt Octal ds s t []) e w in
    let l = octal_short ds s [] 48 x ((d ∷ es) ++ r) o n z in
    let m = ap length e in
    absurd (omega arith)

decimal_not : (ds s t : Text) → IsDigits Decimal ds → ds ++ s ≡ 48 ∷ t → ⊥
decimal_not [] s t h e = elim h [ ]
decimal_not (d ∷ ds) s t h e = let z : d ≡ 48 = heads e in let f : not (48 == 48) ≡ true = subst (λ x. not (x == 48) ≡ true) z h.0 in cc

octal_head : (ds s : Text) → IsDigits Octal ds → (t : Text) × (ds ++ s ≡ 48 ∷ t)
octal_head [] s h = elim h [ ]
octal_head (d ∷ ds) s h = let z : d ≡ 48 = grind (arith, nat_tests) in (ds ++ s, rw z refl)

-- one text, one constant
pub number_same : (a b : Base) (ds s es r : Text) → IsDigits a ds → IsSuffix s → IsDigits b es → IsSuffix r → prefix a ++ (ds ++ s) ≡ prefix b ++ (es ++ r) → IsSameNumber a b ds s es r
number_same Decimal Decimal ds s es r h k i j e = one_base Decimal ds s es r h k i j e
number_same Octal Octal ds s es r h k i j e = one_base Octal ds s es r h k i j e
number_same LowerHexadecimal LowerHexadecimal ds s es r h k i j e = one_base LowerHexadecimal ds s es r h k i j e
number_same UpperHexadecimal UpperHexadecimal ds s es r h k i j e = one_base UpperHexadecimal ds s es r h k i j e
number_same Decimal Octal ds s es r h k i j e = let (t, f) = octal_head es r i in absurd (decimal_not ds s t h (e ∙ f))
number_same Decimal LowerHexadecimal ds s es r h k i j e = absurd (decimal_not ds s (120 ∷ (es ++ r)) h e)
number_same Decimal UpperHexadecimal ds s es r h k i j e = absurd (decimal_not ds s (88 ∷ (es ++ r)) h e)
number_same Octal Decimal ds s es r h k i j e = let (t, f) = octal_head ds s h in absurd (decimal_not es r t i (sym e ∙ f))
number_same Octal LowerHexadecimal ds s es r h k i j e = absurd (octal_not 120 ds s es r refl refl h k i e)
number_same Octal UpperHexadecimal ds s es r h k i j e = absurd (octal_not 88 ds s es r refl refl h k i e)
number_same LowerHexadecimal Decimal ds s es r h k i j e = absurd (decimal_not es r (120 ∷ (ds ++ s)) i (sym e))
number_same LowerHexadecimal Octal ds s es r h k i j e = absurd (octal_not 120 es r ds s refl refl i j h (sym e))
number_same LowerHexadecimal UpperHexadecimal ds s es r h k i j e = absurd (differ 120 88 refl (tails e))
number_same UpperHexadecimal Decimal ds s es r h k i j e = absurd (decimal_not es r (88 ∷ (ds ++ s)) i (sym e))
number_same UpperHexadecimal Octal ds s es r h k i j e = absurd (octal_not 88 es r ds s refl refl i j h (sym e))
number_same UpperHexadecimal LowerHexadecimal ds s es r h k i j e = absurd (differ 88 120 refl (tails e))
