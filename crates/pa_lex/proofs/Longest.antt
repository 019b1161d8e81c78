-- The longest form is the one that is read.
use Rattle.std.proofs.Common.{◌≡◌, ℕ, suc, ◌≤◌, Bool, true, false, cond, ◌==◌, [], ◌∷◌, ◌++◌, length, take, drop, refl, sym, ◌∙◌, ap, subst, arith, Option, Some, None, append_assoc, length-append, one-add, inl, inr}
use Rattle.std.specs.List.{prefix_len, list_all, find}
use Rattle.std.specs.Char.{is_digit}
use Rattle.std.proofs.lemmas.Bool.Decides.{nat_tests}
use Rattle.std.proofs.lemmas.List.{take-append-drop}
use Rattle.std.proofs.lemmas.List.Folds.{length-prefix_len}
use Rattle.std.proofs.Math.Seq.{drop-append_seam}
use Rattle.pa_lex.specs.declared.byte.Class.{Class}
use Rattle.pa_lex.specs.declared.byte.Class.TheVariants.{Letter, Digit, Apostrophe, DoubleQuote, Hash, Other}
use Rattle.pa_lex.specs.declared.form.Base.{Base}
use Rattle.pa_lex.specs.declared.form.Base.TheVariants.{Decimal, Octal, LowerHexadecimal, UpperHexadecimal}
use Rattle.pa_lex.specs.declared.form.Quote.{Quote}
use Rattle.pa_lex.specs.declared.form.Quote.TheVariants.{Single, Double}
use Rattle.pa_lex.specs.declared.token.Punct.{Punct}
use Rattle.pa_lex.specs.declared.token.Include.{Include}
use Rattle.pa_lex.specs.declared.token.Include.TheVariants.{Stdio, Stdint, Ptrauth}
use Rattle.pa_lex.specs.Texts.{Text, punct_text, include_text, puncts_at}
use Rattle.pa_lex.specs.Bytes.{is_letter, is_word, is_blank_line, begins}
use Rattle.pa_lex.specs.Literals.{prefix}
use Rattle.pa_lex.specs.Forms.{Form, Word, Number, Quoted, Mark, Line, form_text, quote_byte, Fits}
use Rattle.pa_lex.specs.Reading.{class_of, front, number_at, quoted_by, body_len, is_line, includes, lined, marked, punct_at, form_by, form_at}
use Rattle.pa_lex.proofs.Runs.{if_true, both_true, heads, tails, differ, run_bounds, run_passes}
use Rattle.pa_lex.proofs.Integers.{IsNumberAt, number_right}
use Rattle.pa_lex.proofs.Quotes.{body_is, body_sound}
use Rattle.pa_lex.proofs.Entries.{begins_splits, begins_joined, IsFirst, first_is, Listed, none_is, some_is}
use Rattle.pa_lex.proofs.Marks.{head_of, is_mark, ordered}

-- a form begins a text
pub record IsFormOf (form : Form) (first : Bool) (text rest : Text) : Type 0 where
  pub text_is : text ≡ form_text form ++ rest
  pub fits : Fits form first rest

-- and no longer one does
pub record IsReadForm (form : Form) (first : Bool) (text : Text) : Type 0 where
  pub here : IsFormOf form first text (drop (length (form_text form)) text)
  pub longest : (other : Form) (rest : Text) → IsFormOf other first text rest → length (form_text other) ≤ length (form_text form)

abbrev pub FormIsRight : Bool → Text → Option Form → Type 0
FormIsRight first text None = (form : Form) (rest : Text) → IsFormOf form first text rest → ⊥
FormIsRight first text (Some form) = IsReadForm form first text

pub form_rest : (form : Form) (first : Bool) (text rest : Text) → IsFormOf form first text rest → rest ≡ drop (length (form_text form)) text
form_rest form first text rest h = rw h.text_is (sym (drop-append_seam (form_text form) rest))

at_front : (form : Form) (first : Bool) (text rest : Text) → IsFormOf form first text rest → IsFormOf form first text (drop (length (form_text form)) text)
at_front form first text rest h = subst (IsFormOf form first text) (form_rest form first text rest h) h

abbrev pub form_class : Form → Class
form_class (Word text) = Letter
form_class (Number base digits suffix) = Digit
form_class (Quoted Single body) = Apostrophe
form_class (Quoted Double body) = DoubleQuote
form_class (Mark punct) = Other
form_class (Line include) = Hash

letter_class : (c : ℕ) → is_letter c ≡ true → class_of c ≡ Letter
letter_class c h = rw h refl

digit_class : (c : ℕ) → is_digit c 10 ≡ true → class_of c ≡ Digit
digit_class c h = let no_letter : is_letter c ≡ false = grind (arith, nat_tests) in rw no_letter (if_true (λ k. k ≡ Digit) (is_digit c 10) _ _ h refl)

pub head_append : (a b t : Text) (c : ℕ) → 1 ≤ length a → c ∷ t ≡ a ++ b → c ≡ head_of a
head_append [] b t c l e = absurd (omega arith)
head_append (d ∷ a) b t c l e = heads e

zero_class : (c d : ℕ) → c ≡ d → (d == 48) ≡ true → class_of c ≡ Digit
zero_class c d e h = let z : d ≡ 48 = grind (arith, nat_tests) in rw (e, z) refl

-- the byte that a form begins with
pub class_is : (form : Form) (first : Bool) (c : ℕ) (t rest : Text) → IsFormOf form first (c ∷ t) rest → class_of c ≡ form_class form
class_is (Word []) first c t rest h = elim h.fits [ ]
class_is (Word (d ∷ w)) first c t rest h = rw (heads h.text_is) (letter_class d h.fits.0)
class_is (Number Decimal [] suffix) first c t rest h = elim h.fits.0 [ ]
class_is (Number Decimal (d ∷ ds) suffix) first c t rest h = rw (heads h.text_is) (digit_class d (both_true (is_digit d 10) (list_all (λ x. is_digit x 10) ds) h.fits.0.1).0)
class_is (Number Octal [] suffix) first c t rest h = elim h.fits.0 [ ]
class_is (Number Octal (d ∷ ds) suffix) first c t rest h = zero_class c d (heads h.text_is) h.fits.0.0
class_is (Number LowerHexadecimal ds suffix) first c t rest h = zero_class c 48 (heads h.text_is) refl
class_is (Number UpperHexadecimal ds suffix) first c t rest h = zero_class c 48 (heads h.text_is) refl
class_is (Quoted Single body) first c t rest h = rw (heads h.text_is) refl
class_is (Quoted Double body) first c t rest h = rw (heads h.text_is) refl
class_is (Mark punct) first c t rest h = let k = is_mark punct in rw (head_append (punct_text punct) rest t c k.long h.text_is) k.class_is
class_is (Line Stdio) first c t rest h = rw (heads h.text_is) refl
class_is (Line Stdint) first c t rest h = rw (heads h.text_is) refl
class_is (Line Ptrauth) first c t rest h = rw (heads h.text_is) refl

-- what a byte of a class is
abbrev ClassFits : ℕ → Class → Type 0
ClassFits c Letter = is_letter c ≡ true
ClassFits c Digit = is_digit c 10 ≡ true
ClassFits c Apostrophe = c ≡ 39
ClassFits c DoubleQuote = c ≡ 34
ClassFits c Hash = c ≡ 35
ClassFits c Other = Unit {0}

class_by : (c : ℕ) (l d a q h : Bool) → is_letter c ≡ l → is_digit c 10 ≡ d → (c == 39) ≡ a → (c == 34) ≡ q → (c == 35) ≡ h → ClassFits c (cond l Letter (cond d Digit (cond a Apostrophe (cond q DoubleQuote (cond h Hash Other)))))
class_by c true d a q h e f g i j = e
class_by c false true a q h e f g i j = f
class_by c false false true q h e f g i j = grind (arith, nat_tests)
class_by c false false false true h e f g i j = grind (arith, nat_tests)
class_by c false false false false true e f g i j = grind (arith, nat_tests)
class_by c false false false false false e f g i j = tt

class_fits : (c : ℕ) → ClassFits c (class_of c)
class_fits c = class_by c (is_letter c) (is_digit c 10) (c == 39) (c == 34) (c == 35) refl refl refl refl refl

other_class : (form : Form) (first : Bool) (c : ℕ) (t rest : Text) (k : Class) → class_of c ≡ k → IsFormOf form first (c ∷ t) rest → k ≡ form_class form
other_class form first c t rest k e h = sym e ∙ class_is form first c t rest h

-- words
word_fits : (c : ℕ) (t : Text) (first : Bool) (rest : Text) → is_letter c ≡ true → Fits (Word (front is_word (c ∷ t))) first rest
word_fits c t first rest h =
    let w : is_word c ≡ true = rw h refl in
    let n : prefix_len is_word (c ∷ t) ≡ suc (prefix_len is_word t) = rw w (one-add (prefix_len is_word t)) in
    subst (λ m. Fits (Word (take m (c ∷ t))) first rest) (sym n) (h, run_passes is_word (prefix_len is_word t) t (omega arith))

word_right : (first : Bool) (c : ℕ) (t : Text) → class_of c ≡ Letter → is_letter c ≡ true → IsReadForm (Word (front is_word (c ∷ t))) first (c ∷ t)
word_right first c t k h = record {
  here = at_front (Word (front is_word (c ∷ t))) first (c ∷ t) (drop (prefix_len is_word (c ∷ t)) (c ∷ t)) (record {
    text_is = sym (take-append-drop (prefix_len is_word (c ∷ t)) (c ∷ t));
    fits = word_fits c t first (drop (prefix_len is_word (c ∷ t)) (c ∷ t)) h;
  });
  longest = longest_here;
}
  where
    longest_here : (other : Form) (rest : Text) → IsFormOf other first (c ∷ t) rest → length (form_text other) ≤ length (front is_word (c ∷ t))
    longest_here (Word []) rest o = elim o.fits [ ]
    longest_here (Word (d ∷ s)) rest o =
        let w : is_word d ≡ true = rw o.fits.0 refl in
        let b : length (d ∷ s) ≤ prefix_len is_word (c ∷ t) = run_bounds is_word (c ∷ t) (d ∷ s) rest o.text_is (rw (w, o.fits.1) refl) in
        omega (arith, length-prefix_len is_word (c ∷ t))
    longest_here (Quoted Single body) rest o = let e = other_class (Quoted Single body) first c t rest Letter k o in absurd cc
    longest_here (Quoted Double body) rest o = let e = other_class (Quoted Double body) first c t rest Letter k o in absurd cc
    longest_here other rest o = let e = other_class other first c t rest Letter k o in absurd cc

-- integer constants
as_number : (base : Base) (ds s : Text) (first : Bool) (text rest : Text) → IsFormOf (Number base ds s) first text rest → IsNumberAt base ds s text rest
as_number base ds s first text rest h = record { text_is = h.text_is; digits_fit = h.fits.0; suffix_fits = h.fits.1 }

number_reads : (first : Bool) (c : ℕ) (t : Text) → class_of c ≡ Digit → is_digit c 10 ≡ true → IsReadForm (number_at (c ∷ t)) first (c ∷ t)
number_reads first c t k h =
    let r = number_right c t h in
    let n = r.here in
    record {
      here = at_front (number_at (c ∷ t)) first (c ∷ t) _ (record { text_is = n.text_is; fits = (n.digits_fit, n.suffix_fits) });
      longest = longest_here;
    }
  where
    longest_here : (other : Form) (rest : Text) → IsFormOf other first (c ∷ t) rest → length (form_text other) ≤ length (form_text (number_at (c ∷ t)))
    longest_here (Number base ds s) rest o = (number_right c t h).longest base ds s rest (as_number base ds s first (c ∷ t) rest o)
    longest_here (Quoted Single body) rest o = let e = other_class (Quoted Single body) first c t rest Digit k o in absurd cc
    longest_here (Quoted Double body) rest o = let e = other_class (Quoted Double body) first c t rest Digit k o in absurd cc
    longest_here other rest o = let e = other_class other first c t rest Digit k o in absurd cc

-- literals
quoted_is : (quote : Quote) (body : Text) (first : Bool) (c : ℕ) (t rest : Text) → IsFormOf (Quoted quote body) first (c ∷ t) rest → body_len quote false t ≡ Some (length body)
quoted_is quote body first c t rest h =
    let e : t ≡ body ++ (quote_byte quote ∷ rest) = tails h.text_is ∙ append_assoc body (quote_byte quote ∷ []) rest in
    ap (body_len quote false) e ∙ body_is quote false body rest h.fits

quoted_here : (quote : Quote) (first : Bool) (t : Text) (n : ℕ) → body_len quote false t ≡ Some n → IsFormOf (Quoted quote (take n t)) first (quote_byte quote ∷ t) (drop (suc n) t)
quoted_here quote first t n e =
    let k = body_sound quote false t n e in
    record { text_is = ap (λ x. quote_byte quote ∷ x) (k.text_is ∙ sym (append_assoc (take n t) (quote_byte quote ∷ []) (drop (suc n) t))); fits = k.is }

abbrev quote_class : Quote → Class
quote_class quote = form_class (Quoted quote [])

-- where a quote begins, a form is a literal of its kind
quoted_only : (quote : Quote) (form : Form) → quote_class quote ≡ form_class form → (body : Text) × (form ≡ Quoted quote body)
quoted_only Single (Quoted Single body) e = (body, refl)
quoted_only Single (Quoted Double body) e = absurd cc
quoted_only Single form e = absurd cc
quoted_only Double (Quoted Double body) e = (body, refl)
quoted_only Double (Quoted Single body) e = absurd cc
quoted_only Double form e = absurd cc

pub record IsLiteral (quote : Quote) (form : Form) (t : Text) : Type 0 where
  pub body : Text
  pub is : form ≡ Quoted quote body
  pub read : body_len quote false t ≡ Some (length body)

as_literal : (quote : Quote) (form : Form) (first : Bool) (c : ℕ) (t rest : Text) → class_of c ≡ quote_class quote → IsFormOf form first (c ∷ t) rest → IsLiteral quote form t
as_literal quote form first c t rest k h =
    let (body, i) = quoted_only quote form (other_class form first c t rest (quote_class quote) k h) in
    record { body = body; is = i; read = quoted_is quote body first c t rest (subst (λ f. IsFormOf f first (c ∷ t) rest) i h) }

quoted_by_len : (quote : Quote) (first : Bool) (c : ℕ) (t : Text) (o : Option ℕ) → class_of c ≡ quote_class quote → c ≡ quote_byte quote → body_len quote false t ≡ o → FormIsRight first (c ∷ t) (quoted_by quote t o)
quoted_by_len quote first c t None k b e = λ form rest h. let l = as_literal quote form first c t rest k h in let z : None ≡ Some (length l.body) = sym e ∙ l.read in cc
quoted_by_len quote first c t (Some n) k b e = record {
  here = at_front (Quoted quote (take n t)) first (c ∷ t) (drop (suc n) t) here_of;
  longest = longest_here;
}
  where
    here_of : IsFormOf (Quoted quote (take n t)) first (c ∷ t) (drop (suc n) t)
    here_of = subst (λ x. IsFormOf (Quoted quote (take n t)) first (x ∷ t) (drop (suc n) t)) (sym b) (quoted_here quote first t n e)

    same_len : (body : Text) → body_len quote false t ≡ Some (length body) → length body ≡ n
    same_len body f = let z : Some n ≡ Some (length body) = sym e ∙ f in cc

    longest_here : (other : Form) (rest : Text) → IsFormOf other first (c ∷ t) rest → length (form_text other) ≤ length (form_text (Quoted quote (take n t)))
    longest_here other rest o =
        let l = as_literal quote other first c t rest k o in
        let h : length (take n t) ≡ n = same_len (take n t) (quoted_is quote (take n t) first c t (drop (suc n) t) here_of) in
        rw (l.is) (omega (arith, same_len l.body l.read, h, length-append l.body (quote_byte quote ∷ []), length-append (take n t) (quote_byte quote ∷ [])))

-- marks
mark_begins : (punct : Punct) (first : Bool) (c : ℕ) (t rest : Text) → IsFormOf (Mark punct) first (c ∷ t) rest → Listed punct (puncts_at c)
mark_begins punct first c t rest h = let k = is_mark punct in subst (λ x. Listed punct (puncts_at x)) (sym (head_append (punct_text punct) rest t c k.long h.text_is)) k.listed

mark_by : (first : Bool) (c : ℕ) (t : Text) (o : Option Punct) → class_of c ≡ Other → punct_at c (c ∷ t) ≡ o → FormIsRight first (c ∷ t) (marked o)
mark_by first c t None k e = none
  where
    none : (form : Form) (rest : Text) → IsFormOf form first (c ∷ t) rest → ⊥
    none (Mark punct) rest o =
        let m = mark_begins punct first c t rest o in
        let bad = none_is (λ p. begins (c ∷ t) (punct_text p)) (puncts_at c) e punct m in
        let good = begins_joined (c ∷ t) (punct_text punct) rest o.text_is in
        let z : true ≡ false = sym good ∙ bad in cc
    none (Quoted Single b) rest o = let e = other_class (Quoted Single b) first c t rest Other k o in cc
    none (Quoted Double b) rest o = let e = other_class (Quoted Double b) first c t rest Other k o in cc
    none other rest o = let e = other_class other first c t rest Other k o in cc
mark_by first c t (Some punct) k e = record {
  here = record { text_is = begins_splits (c ∷ t) (punct_text punct) found.here; fits = tt };
  longest = longest_here;
}
  where
    found : IsFirst punct_text (c ∷ t) (puncts_at c) punct
    found = first_is punct_text (c ∷ t) (puncts_at c) (ordered c) punct e

    longest_here : (other : Form) (rest : Text) → IsFormOf other first (c ∷ t) rest → length (form_text other) ≤ length (punct_text punct)
    longest_here (Mark p) rest o = found.longest p (mark_begins p first c t rest o) (begins_joined (c ∷ t) (punct_text p) rest o.text_is)
    longest_here (Quoted Single b) rest o = let e = other_class (Quoted Single b) first c t rest Other k o in absurd cc
    longest_here (Quoted Double b) rest o = let e = other_class (Quoted Double b) first c t rest Other k o in absurd cc
    longest_here other rest o = let e = other_class other first c t rest Other k o in absurd cc

-- include lines
include_listed : (include : Include) → Listed include includes
include_listed Stdio = inl refl
include_listed Stdint = inr (inl refl)
include_listed Ptrauth = inr (inr (inl refl))

pub one_include : (a b : Include) (x y : Text) → include_text a ++ x ≡ include_text b ++ y → a ≡ b
one_include Stdio Stdio x y e = refl
one_include Stdint Stdint x y e = refl
one_include Ptrauth Ptrauth x y e = refl
one_include Stdio Stdint x y e = absurd (differ 111 110 refl (ap (drop 14) e))
one_include Stdio Ptrauth x y e = absurd (differ 115 112 refl (ap (drop 10) e))
one_include Stdint Stdio x y e = absurd (differ 110 111 refl (ap (drop 14) e))
one_include Stdint Ptrauth x y e = absurd (differ 115 112 refl (ap (drop 10) e))
one_include Ptrauth Stdio x y e = absurd (differ 112 115 refl (ap (drop 10) e))
one_include Ptrauth Stdint x y e = absurd (differ 112 115 refl (ap (drop 10) e))

line_test : (include : Include) (text rest : Text) → IsFormOf (Line include) true text rest → is_line text include ≡ true
line_test include text rest h =
    let b : begins text (include_text include) ≡ true = begins_joined text (include_text include) rest h.text_is in
    let r = form_rest (Line include) true text rest h in
    let l : is_blank_line (drop (length (include_text include)) text) ≡ true = subst (λ x. is_blank_line x ≡ true) r h.fits.1 in
    rw (b, l) refl

line_by : (c : ℕ) (t : Text) (o : Option Include) → class_of c ≡ Hash → find (is_line (c ∷ t)) includes ≡ o → FormIsRight true (c ∷ t) (lined o)
line_by c t None k e = none
  where
    first : Bool
    first = true

    none : (form : Form) (rest : Text) → IsFormOf form true (c ∷ t) rest → ⊥
    none (Line include) rest o =
        let bad = none_is (is_line (c ∷ t)) includes e include (include_listed include) in
        let z : true ≡ false = sym (line_test include (c ∷ t) rest o) ∙ bad in cc
    none (Quoted Single b) rest o = let e = other_class (Quoted Single b) true c t rest Hash k o in cc
    none (Quoted Double b) rest o = let e = other_class (Quoted Double b) true c t rest Hash k o in cc
    none other rest o = let e = other_class other true c t rest Hash k o in cc
line_by c t (Some include) k e = record {
  here = record { text_is = begins_splits (c ∷ t) (include_text include) passes.0; fits = (refl, passes.1) };
  longest = longest_here;
}
  where
    passes : (begins (c ∷ t) (include_text include) ≡ true) × (is_blank_line (drop (length (include_text include)) (c ∷ t)) ≡ true)
    passes = both_true (begins (c ∷ t) (include_text include)) (is_blank_line (drop (length (include_text include)) (c ∷ t))) (some_is (is_line (c ∷ t)) includes include e)

    longest_here : (other : Form) (rest : Text) → IsFormOf other true (c ∷ t) rest → length (form_text other) ≤ length (include_text include)
    longest_here (Line i) rest o =
        let same : i ≡ include = one_include i include rest (drop (length (include_text include)) (c ∷ t)) (sym o.text_is ∙ begins_splits (c ∷ t) (include_text include) passes.0) in
        rw same (omega arith)
    longest_here (Quoted Single b) rest o = let e = other_class (Quoted Single b) true c t rest Hash k o in absurd cc
    longest_here (Quoted Double b) rest o = let e = other_class (Quoted Double b) true c t rest Hash k o in absurd cc
    longest_here other rest o = let e = other_class other true c t rest Hash k o in absurd cc

no_line : (c : ℕ) (t : Text) → class_of c ≡ Hash → FormIsRight false (c ∷ t) None
no_line c t k (Line include) rest o = let z : false ≡ true = o.fits.0 in cc
no_line c t k (Quoted Single b) rest o = let e = other_class (Quoted Single b) false c t rest Hash k o in cc
no_line c t k (Quoted Double b) rest o = let e = other_class (Quoted Double b) false c t rest Hash k o in cc
no_line c t k other rest o = let e = other_class other false c t rest Hash k o in cc

hash_right : (first : Bool) (c : ℕ) (t : Text) → class_of c ≡ Hash → FormIsRight first (c ∷ t) (form_by Hash first c t)
hash_right true c t k = line_by c t (find (is_line (c ∷ t)) includes) k refl
hash_right false c t k = no_line c t k

by_class : (first : Bool) (c : ℕ) (t : Text) (k : Class) → class_of c ≡ k → ClassFits c k → FormIsRight first (c ∷ t) (form_by k first c t)
by_class first c t Letter k h = word_right first c t k h
by_class first c t Digit k h = number_reads first c t k h
by_class first c t Apostrophe k h = quoted_by_len Single first c t (body_len Single false t) k h refl
by_class first c t DoubleQuote k h = quoted_by_len Double first c t (body_len Double false t) k h refl
by_class first c t Hash k h = hash_right first c t k
by_class first c t Other k h = mark_by first c t (punct_at c (c ∷ t)) k refl

pub form_long : (form : Form) (first : Bool) (rest : Text) → Fits form first rest → 1 ≤ length (form_text form)
form_long (Word []) first rest h = elim h [ ]
form_long (Word (c ∷ w)) first rest h = omega arith
form_long (Number base [] suffix) first rest h = elim h.0 [ ]
form_long (Number base (d ∷ ds) suffix) first rest h = omega (arith, length-append (prefix base) ((d ∷ ds) ++ suffix))
form_long (Quoted quote body) first rest h = omega arith
form_long (Mark punct) first rest h = (is_mark punct).long
form_long (Line Stdio) first rest h = omega arith
form_long (Line Stdint) first rest h = omega arith
form_long (Line Ptrauth) first rest h = omega arith

-- The longest form is read, and none only where none begins the text.
pub form_right : (first : Bool) (text : Text) → FormIsRight first text (form_at first text)
form_right first [] = λ form rest h. let e = ap length h.text_is in omega (arith, form_long form first rest h.fits, length-append (form_text form) rest)
form_right first (c ∷ t) = by_class first c t (class_of c) refl (class_fits c)
