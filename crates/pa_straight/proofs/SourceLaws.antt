-- A text of the first form is of one program.
use Rattle.std.proofs.Common.{◌≡◌, ◌≢◌, ℕ, suc, ◌+◌, ◌<◌, ◌≤◌, ◌^◌, Bool, true, false, List, [], ◌∷◌, ◌++◌, length, take, drop, get_or, refl, sym, ap, subst, ◌∙◌, arith, codes, ◌⊎◌, inl, inr, Result, Ok, Err, eqb, cond, Option, Some, None, MatchOption, Bor}
use Rattle.std.proofs.lemmas.Bool.{and_parts, and_from, true≢false, cases_lt, eqb-true}
use Rattle.std.proofs.lemmas.Bool.Decides.{Decides-eqb}
use Rattle.std.proofs.lemmas.Slice.Eq.{strip_prefix_is}
use Rattle.std.specs.Cmp.Lexicographic.{pointwise}
use Rattle.std.proofs.lemmas.List.{append_assoc, append-nil, take-append-drop, length-append, flat_map_more}
use Rattle.std.proofs.lemmas.List.Elements.{recursion_from_All, All-push}
use Rattle.std.proofs.lemmas.Fmt.{digits_decimal, digits_value-decimal, decimal-digits_value, decimal_injective, decimal_nonempty, decimal_digit, first_decimal, IsAscii-from_digits}
use Rattle.std.proofs.lemmas.Str.{IsUtf8-from_ascii}
use Rattle.std.proofs.lemmas.Str.Parse.{IsNumeralModel, numerals_by_value, tells_all_ascii_digits, parse_digits}
use Rattle.std.specs.List.{flat_map, prefix_len, All, AllByRecursion}
use Rattle.std.specs.Char.{is_ascii_digit}
use Rattle.std.specs.Fmt.{decimal}
use Rattle.std.specs.Str.{all_ascii_digits, IsUtf8}
use Rattle.std.specs.Str.Parse.{digits_value, ParsesUnsigned}
use Rattle.std.specs.Result.{OkIff}
use Rattle.std.proofs.lemmas.Result.{OkIff-at_ok, OkIff-at_err}
use Rattle.pa_straight.specs.declared.source.Straight.{Straight}
use Rattle.pa_straight.specs.Source.{line, framed, print_line, opening, closing, text_of, IsSource, IsTextOf, IsNoText, BeginsOtherwise, StopsNumber, IsNoNumber}

-- ---- lists

pub append-same_front : (xs ys zs : List ℕ) → xs ++ ys ≡ xs ++ zs → ys ≡ zs
append-same_front [] ys zs e = e
append-same_front (x ∷ xs) ys zs e = append-same_front xs ys zs (ap (drop 1) e)

-- ---- numbers

pub own_digits : IsNumeralModel (λ ds. all_ascii_digits ds ≡ true) (digits_value 10)
own_digits = numerals_by_value _ tells_all_ascii_digits

decimal-digits : (n : ℕ) → n < 2 ^ 31 → all_ascii_digits (decimal n) ≡ true
decimal-digits n h = digits_decimal own_digits n (omega arith)

-- digits end where no digit stands
span : (ds es y z : List ℕ) → all_ascii_digits ds ≡ true → all_ascii_digits es ≡ true → StopsNumber y → StopsNumber z → ds ++ y ≡ es ++ z → (ds ≡ es) × (y ≡ z)
span [] [] y z a b p q e = (refl, e)
span [] (c ∷ es) [] z a b p q e = cc
span [] (c ∷ es) (x ∷ y) z a b p q e =
    let same : x ≡ c = cc in
    absurd (true≢false (sym (and_parts _ _ b).0 ∙ ap is_ascii_digit (sym same) ∙ p))
span (c ∷ ds) [] y [] a b p q e = cc
span (c ∷ ds) [] y (x ∷ z) a b p q e =
    let same : c ≡ x = cc in
    absurd (true≢false (sym (and_parts _ _ a).0 ∙ ap is_ascii_digit same ∙ q))
span (c ∷ ds) (d ∷ es) y z a b p q e =
    let head : c ≡ d = cc in
    let tail : ds ++ y ≡ es ++ z = ap (drop 1) e in
    let more = span ds es y z (and_parts _ _ a).1 (and_parts _ _ b).1 p q tail in
    (ap (λ x. x ∷ ds) head ∙ ap (λ x. d ∷ x) more.0, more.1)

pub decimal-only : (m n : ℕ) (y z : List ℕ) → m < 2 ^ 31 → n < 2 ^ 31 → StopsNumber y → StopsNumber z → decimal m ++ y ≡ decimal n ++ z → (m ≡ n) × (y ≡ z)
decimal-only m n y z fits small p q e =
    let parts = span (decimal m) (decimal n) y z (decimal-digits m fits) (decimal-digits n small) p q e in
    (decimal_injective m n (omega arith) (omega arith) parts.0, parts.1)

pub StopsNumber-append : (xs ys : List ℕ) → StopsNumber xs → 0 < length xs → StopsNumber (xs ++ ys)
StopsNumber-append [] ys p h = absurd (omega arith)
StopsNumber-append (x ∷ xs) ys p h = p

-- ---- a number between two texts

pub framed-parts : (before : List ℕ) (n : ℕ) (behind rest : List ℕ) → framed before n behind ++ rest ≡ before ++ (decimal n ++ (behind ++ rest))
unfolding framed
framed-parts before n behind rest = append_assoc before (decimal n ++ behind) rest ∙ ap (λ x. before ++ x) (append_assoc (decimal n) behind rest)

pub framed-only : (before behind : List ℕ) (m n : ℕ) (x y : List ℕ) → m < 2 ^ 31 → n < 2 ^ 31 → StopsNumber behind → 0 < length behind → framed before m behind ++ x ≡ framed before n behind ++ y → (m ≡ n) × (x ≡ y)
framed-only before behind m n x y fits small stops some e =
    let both = sym (framed-parts before m behind x) ∙ e ∙ framed-parts before n behind y in
    let tails = append-same_front before _ _ both in
    let parts = decimal-only m n (behind ++ x) (behind ++ y) fits small (StopsNumber-append behind x stops some) (StopsNumber-append behind y stops some) tails in
    (parts.0, append-same_front behind x y parts.1)

-- ---- lines

print_line-only : (m n : ℕ) (x y : List ℕ) → m < 2 ^ 31 → n < 2 ^ 31 → print_line m ++ x ≡ print_line n ++ y → (m ≡ n) × (x ≡ y)
print_line-only m n x y fits small e = framed-only (codes "putchar(") (line (codes ");")) m n x y fits small refl (omega arith) e

closing-only : (m n : ℕ) (x : List ℕ) → m < 2 ^ 31 → n < 2 ^ 31 → closing m ++ x ≡ closing n → (m ≡ n) × (x ≡ [])
closing-only m n x fits small e =
    framed-only (codes "return ") (line (codes ";") ++ line (codes "}")) m n x [] fits small refl (omega arith) (e ∙ sym (append-nil (closing n)))

-- a line that prints isn't the last line
print_line-not_closing : (m n : ℕ) (x : List ℕ) → print_line m ++ x ≢ closing n
unfolding framed
print_line-not_closing m n x e = true≢false (ap (λ text. eqb (get_or text 0 0) 112) e)

abbrev lines : List ℕ → ℕ → List ℕ
lines prints n = flat_map print_line prints ++ closing n

lines-cons : (m : ℕ) (prints : List ℕ) (n : ℕ) → lines (m ∷ prints) n ≡ print_line m ++ lines prints n
lines-cons m prints n = append_assoc (print_line m) (flat_map print_line prints) (closing n)

-- what stands behind the lines that were read
pub record Left (got prints : List ℕ) (n : ℕ) (rest : List ℕ) : Type 0 where
  pub more : List ℕ
  pub all : prints ≡ got ++ more
  pub here : rest ≡ lines more n
  pub small : AllByRecursion (λ m. m < 2 ^ 31) more

left_more : (m : ℕ) (got prints : List ℕ) (n : ℕ) (rest : List ℕ) → Left got prints n rest → Left (m ∷ got) (m ∷ prints) n rest
left_more m got prints n rest left = record { more = left.more; all = ap (λ x. m ∷ x) left.all; here = left.here; small = left.small }

left_of : (got prints : List ℕ) (n : ℕ) (rest : List ℕ) → AllByRecursion (λ m. m < 2 ^ 31) got → AllByRecursion (λ m. m < 2 ^ 31) prints → flat_map print_line got ++ rest ≡ lines prints n → Left got prints n rest
left_of [] prints n rest fits small e = record { more = prints; all = refl; here = e; small = small }
left_of (m ∷ got) [] n rest fits small e =
    absurd (print_line-not_closing m n (flat_map print_line got ++ rest) (sym (append_assoc (print_line m) (flat_map print_line got) rest) ∙ e))
left_of (m ∷ got) (k ∷ prints) n rest fits small e =
    let parts = print_line-only m k (flat_map print_line got ++ rest) (lines prints n) fits.0 small.0
    (sym (append_assoc (print_line m) (flat_map print_line got) rest) ∙ e ∙ lines-cons k prints n) in
    let left = left_of got prints n rest fits.1 small.1 parts.1 in
    subst (λ x. Left (m ∷ got) (x ∷ prints) n rest) parts.0 (left_more m got prints n rest left)

-- a text whose first lines were read
pub record HasRead (text got rest : List ℕ) : Type 0 where
  pub parts : text ≡ opening ++ (flat_map print_line got ++ rest)
  pub few : length got ≤ 1000
  pub small : All (λ m. m < 2 ^ 31) got

left_in : (text got rest : List ℕ) (s : Straight) → HasRead text got rest → IsSource s → text_of s ≡ text → Left got s.prints s.returns rest
left_in text got rest s read source e =
    left_of got s.prints s.returns rest (recursion_from_All _ got read.small) (recursion_from_All _ s.prints source.small)
    (sym (append-same_front opening _ _ (e ∙ read.parts)))

-- where no line that prints stands, the last lines stand
end_of_lines : (more : List ℕ) (n : ℕ) (rest : List ℕ) → AllByRecursion (λ m. m < 2 ^ 31) more → BeginsOtherwise (codes "putchar(") (line (codes ");")) rest → rest ≡ lines more n → (more ≡ []) × (rest ≡ closing n)
end_of_lines [] n rest small other e = (refl, e)
end_of_lines (m ∷ more) n rest small other e = absurd (other m (lines more n) small.0 (e ∙ lines-cons m more n))

-- ---- what a text that was read so far is of

pub HasRead-opening : (text rest : List ℕ) → text ≡ opening ++ rest → HasRead text [] rest
HasRead-opening text rest e = record { parts = e; few = omega arith; small = λ k d h. absurd (omega arith) }

pub HasRead-push : (text got rest after : List ℕ) (n : ℕ) → HasRead text got rest → rest ≡ print_line n ++ after → n < 2 ^ 31 → length got ≢ 1000 → HasRead text (got ++ n ∷ []) after
HasRead-push text got rest after n read e fits few =
    let size = read.few in
    record {
      parts = read.parts ∙ ap (λ x. opening ++ x) (ap (λ x. flat_map print_line got ++ x) e ∙ sym (append_assoc (flat_map print_line got) (print_line n) after) ∙ ap (λ x. x ++ after) (flat_map_more print_line [] got n));
      few = omega (arith, length-append got (n ∷ []));
      small = All-push (λ m. m < 2 ^ 31) got n read.small fits;
    }

pub none-opening : (text : List ℕ) → ((rest : List ℕ) → text ≢ opening ++ rest) → IsNoText text
none-opening text none s source e = none _ (sym e)

pub none-many : (text got rest after : List ℕ) (n : ℕ) → HasRead text got rest → length got ≡ 1000 → rest ≡ print_line n ++ after → IsNoText text
none-many text got rest after n read many one s source e =
    let left = left_in text got rest s read source e in go left.more left.all left.here
  where
    go : (more : List ℕ) → s.prints ≡ got ++ more → rest ≡ lines more s.returns → ⊥
    go [] all here = print_line-not_closing n s.returns after (sym one ∙ here)
    go (m ∷ more) all here =
        let few = source.few in
        let size : length s.prints ≡ length got + length (m ∷ more) = ap length all ∙ length-append got (m ∷ more) in
        omega arith

pub none-closing : (text got rest : List ℕ) → HasRead text got rest → BeginsOtherwise (codes "putchar(") (line (codes ");")) rest
    → BeginsOtherwise (codes "return ") (line (codes ";") ++ line (codes "}")) rest → IsNoText text
none-closing text got rest read other none s source e =
    let left = left_in text got rest s read source e in
    let ends = end_of_lines left.more s.returns rest left.small other left.here in
    none s.returns [] source.status (ends.1 ∙ sym (append-nil (closing s.returns)))

pub none-behind : (text got rest : List ℕ) (n : ℕ) (behind : List ℕ) → HasRead text got rest → BeginsOtherwise (codes "putchar(") (line (codes ");")) rest
    → n < 2 ^ 31 → rest ≡ closing n ++ behind → eqb (length behind) 0 ≡ false → IsNoText text
none-behind text got rest n behind read other fits last more s source e =
    let left = left_in text got rest s read source e in
    let ends = end_of_lines left.more s.returns rest left.small other left.here in
    let none = (closing-only n s.returns behind fits source.status (sym last ∙ ends.1)).1 in
    true≢false (sym (ap (λ x. eqb (length x) 0) none) ∙ more)

same_program : (s : Straight) (prints : List ℕ) (returns : ℕ) → s.prints ≡ prints → s.returns ≡ returns → s ≡ record { prints = prints; returns = returns }
same_program s prints returns p r = ap (λ x. record { prints = x; returns = s.returns }) p ∙ ap (λ x. record { prints = prints; returns = x }) r

is_text_at : (text got rest : List ℕ) (n : ℕ) → HasRead text got rest → BeginsOtherwise (codes "putchar(") (line (codes ");")) rest
    → n < 2 ^ 31 → rest ≡ closing n → IsTextOf text (record { prints = got; returns = n })
is_text_at text got rest n read other fits last = record {
  source = record { few = read.few; small = read.small; status = fits };
  spelled = sym (read.parts ∙ ap (λ x. opening ++ (flat_map print_line got ++ x)) last);
  only = λ s source e.
      let left = left_in text got rest s read source e in
      let ends = end_of_lines left.more s.returns rest left.small other left.here in
      let same = closing-only n s.returns [] fits source.status (append-nil (closing n) ∙ sym last ∙ ends.1) in
      same_program s got n (left.all ∙ ap (λ x. got ++ x) ends.0 ∙ append-nil got) (sym same.0);
}

pub is_text : (text got rest : List ℕ) (n : ℕ) (behind : List ℕ) → HasRead text got rest → BeginsOtherwise (codes "putchar(") (line (codes ");")) rest
    → n < 2 ^ 31 → rest ≡ closing n ++ behind → eqb (length behind) 0 ≡ true → IsTextOf text (record { prints = got; returns = n })
is_text text got rest n [] read other fits last none = is_text_at text got rest n read other fits (last ∙ append-nil (closing n))
is_text text got rest n (x ∷ xs) read other fits last none = let size : suc (length xs) ≡ 0 = eqb-true _ _ none in absurd (omega arith)

-- ---- the text of a number

pub decimal-no_leading_zero : (n : ℕ) (ds : List ℕ) → n < 2 ^ 31 → 1 < length ds → get_or ds 0 0 ≡ 48 → decimal n ≢ ds
decimal-no_leading_zero n ds h long zeros e = go (cases_lt 0 n)
  where
    go : ((0 < n) ⊎ (n ≤ 0)) → ⊥
    go (inl some) =
        let first = first_decimal n some (omega arith) in
        let same : get_or (decimal n) 0 0 ≡ get_or ds 0 0 = ap (λ x. get_or x 0 0) e in
        omega arith
    go (inr none) =
        let one : length (decimal n) ≡ 1 = ap length (decimal_digit n (omega arith)) in
        let same : length (decimal n) ≡ length ds = ap length e in
        omega arith

pub digits-IsUtf8 : (ds : List ℕ) → all_ascii_digits ds ≡ true → IsUtf8 ds
digits-IsUtf8 ds h = IsUtf8-from_ascii ds (IsAscii-from_digits ds (own_digits.to ds h))

-- a number that is written so has this value
decimal-value : (n : ℕ) (ds : List ℕ) → n < 2 ^ 31 → decimal n ≡ ds → (digits_value 10 ds ≡ n) × (0 < length ds)
decimal-value n ds h e =
    let value : digits_value 10 (decimal n) ≡ n = digits_value-decimal own_digits n (omega arith) in
    let some : 0 < length (decimal n) = decimal_nonempty n (omega arith) in
    (ap (λ x. digits_value 10 x) (sym e) ∙ value, subst (λ x. 0 < length x) e some)

-- what `parse` gives of digits
parse-digits : {E : Type 0} (ds text : List ℕ) (r : Result ℕ E) → text ≡ ds → ParsesUnsigned 32 10 text r → all_ascii_digits ds ≡ true → OkIff r ((0 < length ds) × (digits_value 10 ds < 2 ^ 32)) (digits_value 10 ds)
parse-digits ds text r same h all = parse_digits own_digits 32 ds r (subst (λ x. ParsesUnsigned 32 10 x r) same h) all

pub parse-none : {E : Type 0} (n : ℕ) (ds text : List ℕ) (r : Result ℕ E) (err : E) → text ≡ ds → ParsesUnsigned 32 10 text r → all_ascii_digits ds ≡ true → r ≡ Err err → n < 2 ^ 31 → decimal n ≢ ds
parse-none n ds text r err same h all e fits w =
    let p = decimal-value n ds fits w in
    let value : digits_value 10 ds ≡ n = p.0 in
    OkIff-at_err r _ _ err (parse-digits ds text r same h all) e (p.1, omega arith)

pub parse-some : {E : Type 0} (ds text : List ℕ) (r : Result ℕ E) (v : ℕ) → text ≡ ds → ParsesUnsigned 32 10 text r → all_ascii_digits ds ≡ true → r ≡ Ok v → (get_or ds 0 0 ≡ 48 → length ds ≤ 1) → v < 2 ^ 31 → decimal v ≡ ds
parse-some ds text r v same h all e first fits =
    let p = OkIff-at_ok r _ _ v (parse-digits ds text r same h all) e in
    let some : 0 < length ds = p.0.0 in
    let value : v ≡ digits_value 10 ds = p.1 in
    subst (λ x. decimal x ≡ ds) (sym value) (decimal-digits_value own_digits ds all some (λ z. let one : length ds ≤ 1 = first z in omega arith) (omega arith))

pub parse-great : {E : Type 0} (n : ℕ) (ds text : List ℕ) (r : Result ℕ E) (v : ℕ) → text ≡ ds → ParsesUnsigned 32 10 text r → all_ascii_digits ds ≡ true → r ≡ Ok v → 2147483647 < v → n < 2 ^ 31 → decimal n ≢ ds
parse-great n ds text r v same h all e great fits w =
    let p = OkIff-at_ok r _ _ v (parse-digits ds text r same h all) e in
    let q = decimal-value n ds fits w in
    let value : v ≡ digits_value 10 ds = p.1 in
    let is : digits_value 10 ds ≡ n = q.0 in
    omega arith

-- ---- the digits at the front of a text

-- digits, and then none
pub record Cut (text : List ℕ) (at : ℕ) : Type 0 where
  pub within : at ≤ length text
  pub digits : all_ascii_digits (take at text) ≡ true
  pub stops : StopsNumber (drop at text)

cut_more : (byte : ℕ) (text : List ℕ) (at : ℕ) → is_ascii_digit byte ≡ true → Cut text at → Cut (byte ∷ text) (1 + at)
cut_more byte text at e cut =
    let w = cut.within in
    let one : suc at ≡ 1 + at = omega arith in
    subst (λ x. Cut (byte ∷ text) x) one (record { within = omega arith; digits = and_from _ _ e cut.digits; stops = cut.stops })

pub cut_digits : (text : List ℕ) → Cut text (prefix_len is_ascii_digit text)
cut_digits [] = record { within = omega arith; digits = refl; stops = tt }
cut_digits (byte ∷ text) = go (is_ascii_digit byte) refl (cut_digits text)
  where
    go : (b : Bool) → is_ascii_digit byte ≡ b → Cut text (prefix_len is_ascii_digit text) → Cut (byte ∷ text) (cond b (1 + prefix_len is_ascii_digit text) 0)
    go true e cut = cut_more byte text _ e cut
    go false e cut = record { within = omega arith; digits = refl; stops = e }

pub cut-no_number : (text : List ℕ) (at : ℕ) → Cut text at → ((n : ℕ) → n < 2 ^ 31 → decimal n ≢ take at text) → IsNoNumber text
cut-no_number text at cut none n rest fits stops e =
    let parts = span (decimal n) (take at text) rest (drop at text) (decimal-digits n fits) cut.digits stops cut.stops
    (sym e ∙ sym (take-append-drop at text)) in
    none n fits parts.0

-- ---- a text without its front

-- what `strip_prefix` ensures
abbrev Strips : List ℕ → List ℕ → Option (Bor (List ℕ)) → Type 0
Strips text front r =
    MatchOption r (pointwise eqb (take (length front) text) front ≡ false)
    (λ rest. (pointwise eqb (take (length front) text) front ≡ true) × (rest.now ≡ drop (length front) text) × (length rest.now + length front ≡ length text))

pub strip-none : (text front : List ℕ) (r : Option (Bor (List ℕ))) → Strips text front r → r ≡ None → (rest : List ℕ) → text ≢ front ++ rest
strip-none text front r h e = subst (λ x. MatchOption x ((rest : List ℕ) → text ≢ front ++ rest) (λ rest. text ≡ front ++ rest.now)) e (strip_prefix_is Decides-eqb text front r h)

pub strip-some : (text front : List ℕ) (r : Option (Bor (List ℕ))) (x : Bor (List ℕ)) → Strips text front r → r ≡ Some x → text ≡ front ++ x.now
strip-some text front r x h e = subst (λ x. MatchOption x ((rest : List ℕ) → text ≢ front ++ rest) (λ rest. text ≡ front ++ rest.now)) e (strip_prefix_is Decides-eqb text front r h)

-- ---- a text that doesn't begin with a number between two texts

pub otherwise-front : (before behind text : List ℕ) → ((rest : List ℕ) → text ≢ before ++ rest) → BeginsOtherwise before behind text
otherwise-front before behind text none n rest fits e = none (decimal n ++ (behind ++ rest)) (e ∙ framed-parts before n behind rest)

pub otherwise-number : (before behind text inner : List ℕ) → StopsNumber behind → 0 < length behind → text ≡ before ++ inner → IsNoNumber inner → BeginsOtherwise before behind text
otherwise-number before behind text inner stops some front none n rest fits e =
    none n (behind ++ rest) fits (StopsNumber-append behind rest stops some) (append-same_front before inner _ (sym front ∙ e ∙ framed-parts before n behind rest))

pub otherwise-behind : (before behind text : List ℕ) (m : ℕ) (after : List ℕ) → StopsNumber behind → 0 < length behind → text ≡ before ++ (decimal m ++ after) → m < 2 ^ 31 → StopsNumber after → ((rest : List ℕ) → after ≢ behind ++ rest) → BeginsOtherwise before behind text
otherwise-behind before behind text m after stops some front small ends none n rest fits e =
    let inner = append-same_front before _ _ (sym front ∙ e ∙ framed-parts before n behind rest) in
    none rest (decimal-only m n after (behind ++ rest) small fits ends (StopsNumber-append behind rest stops some) inner).1

pub framed-from_parts : (before behind text : List ℕ) (n : ℕ) (inner after rest : List ℕ) → text ≡ before ++ inner → inner ≡ decimal n ++ after → after ≡ behind ++ rest → text ≡ framed before n behind ++ rest
framed-from_parts before behind text n inner after rest front number back =
    front ∙ ap (λ x. before ++ x) (number ∙ ap (λ x. decimal n ++ x) back) ∙ sym (framed-parts before n behind rest)

pub length-print_line : (text rest : List ℕ) (n : ℕ) → text ≡ print_line n ++ rest → length rest < length text
unfolding framed
length-print_line text rest n e =
    let size : length text ≡ length (print_line n) + length rest = ap length e ∙ length-append (print_line n) rest in
    let line : length (print_line n) ≡ suc (length (drop 1 (print_line n))) = refl in
    omega arith
