-- One place, one token.
use Rattle.std.proofs.Common.{◌≡◌, ◌≢◌, ℕ, ◌+◌, Bool, true, false, ◌||◌, ◌==◌, [], ◌∷◌, ◌++◌, length, refl, sym, ◌∙◌, ap, subst, arith, Some, None, codes, length-append}
use Rattle.std.proofs.lemmas.Bool.Decides.{nat_tests}
use Rattle.std.proofs.lemmas.List.{append_cancel_right}
use Rattle.std.specs.Int.{cast_signed, w8}
use Rattle.pa_lex.specs.declared.byte.Class.TheVariants.{Other}
use Rattle.pa_lex.specs.declared.form.Quote.{Quote}
use Rattle.pa_lex.specs.declared.form.Quote.TheVariants.{Single, Double}
use Rattle.pa_lex.specs.declared.token.Kind.TheVariants as k
use Rattle.pa_lex.specs.declared.token.Keyword.{Keyword}
use Rattle.pa_lex.specs.Texts.{Text, punct_text, keyword_text}
use Rattle.pa_lex.specs.Bytes.{is_white, begins}
use Rattle.pa_lex.specs.Forms as forms
use Rattle.pa_lex.specs.Forms.{Form, Word, Number, Quoted, Mark, Line, form_text, quote_byte, Fits, Meaning, Means}
use Rattle.pa_lex.specs.Lexes.{Separator, White, BlockComment, LineComment, IsSeparatorAt, Cursor, opens_comment, IsFormAt, IsLongest, Spelled, IsTokenAt}
use Rattle.pa_lex.specs.Reading.{class_of, separator_at, keyword_of}
use Rattle.pa_lex.proofs.Runs.{heads, tails, differ, same_front}
use Rattle.pa_lex.proofs.Entries.{begins_joined}
use Rattle.pa_lex.proofs.Marks.{head_of, is_mark, mark_same}
use Rattle.pa_lex.proofs.Integers.{number_same}
use Rattle.pa_lex.proofs.Longest.{IsFormOf, form_class, class_is, one_include, head_append, form_long}
use Rattle.pa_lex.proofs.Separators.{none_separator}
use Rattle.pa_lex.proofs.Bodies.{stands_one}
use Rattle.pa_lex.proofs.Meanings.{keyword_is}

quote_same : (p q : Quote) → quote_byte p ≡ quote_byte q → p ≡ q
quote_same Single Single e = refl
quote_same Double Double e = refl
quote_same Single Double e = absurd (differ 39 34 {t = []} {u = []} refl (ap (λ x. x ∷ []) e))
quote_same Double Single e = absurd (differ 34 39 {t = []} {u = []} refl (ap (λ x. x ∷ []) e))

-- one text, one form
by_class : (f g : Form) (first : Bool) (rest r : Text) → Fits f first rest → Fits g first r → form_class f ≡ form_class g → form_text f ≡ form_text g → f ≡ g
by_class (Word v) (Word w) first rest r h i k e = ap Word e
by_class (Number a ds s) (Number b es t) first rest r h i k e =
    let n = number_same a b ds s es t h.0 h.1 i.0 i.1 e in
    ap (λ x. Number x ds s) n.bases ∙ ap (λ x. Number b x s) n.digits ∙ ap (λ x. Number b es x) n.suffixes
by_class (Quoted p v) (Quoted q w) first rest r h i k e =
    let same : p ≡ q = quote_same p q (heads e) in
    let t : v ++ (quote_byte p ∷ []) ≡ w ++ (quote_byte p ∷ []) = tails e ∙ ap (λ x. w ++ (quote_byte x ∷ [])) (sym same) in
    ap (λ x. Quoted x v) same ∙ ap (λ x. Quoted q x) (append_cancel_right v w (quote_byte p ∷ []) t)
by_class (Mark p) (Mark q) first rest r h i k e = ap Mark (mark_same p q e)
by_class (Line a) (Line b) first rest r h i k e = ap Line (one_include a b [] [] (ap (λ x. x ++ []) e))
by_class (Quoted Single v) g first rest r h i k e = absurd cc
by_class (Quoted Double v) g first rest r h i k e = absurd cc
by_class f (Quoted Single w) first rest r h i k e = absurd cc
by_class f (Quoted Double w) first rest r h i k e = absurd cc
by_class f g first rest r h i k e = absurd cc

pub form_only : (f g : Form) (first : Bool) (c : ℕ) (t rest r : Text) → IsFormOf f first (c ∷ t) rest → IsFormOf g first (c ∷ t) r → length (form_text f) ≡ length (form_text g) → (f ≡ g) × (rest ≡ r)
form_only f g first c t rest r h i l =
    let s = same_front (form_text f) (form_text g) rest r (sym h.text_is ∙ i.text_is) l in
    (by_class f g first rest r h.fits i.fits (sym (class_is f first c t rest h) ∙ class_is g first c t r i) s.0, s.1)

abbrev pub form_of : (form : Form) (cursor : Cursor) (rest : Text) → IsFormAt form cursor rest → IsFormOf form cursor.first cursor.ahead rest
form_of form cursor rest h = record { text_is = h.text_is; fits = h.fits }

no_text : (form : Form) (first : Bool) (text rest : Text) → IsFormOf form first text rest → text ≢ []
no_text form first text rest h e = let z = ap length (sym e ∙ h.text_is) in absurd (omega (arith, form_long form first rest h.fits, length-append (form_text form) rest))

pub form_nonempty : (form : Form) (cursor : Cursor) (rest : Text) → IsFormAt form cursor rest → cursor.ahead ≢ []
form_nonempty form cursor rest h = no_text form cursor.first cursor.ahead rest (form_of form cursor rest h)

one_by : (f g : Form) (first : Bool) (text rest r : Text) → IsFormOf f first text rest → IsFormOf g first text r → length (form_text f) ≡ length (form_text g) → (f ≡ g) × (rest ≡ r)
one_by f g first [] rest r h i l = absurd (no_text f first [] rest h refl)
one_by f g first (c ∷ t) rest r h i l = form_only f g first c t rest r h i l

-- the longest form at a place is one
pub longest_one : (f g : Form) (cursor : Cursor) (rest r : Text) → IsFormAt f cursor rest → IsLongest f cursor → IsFormAt g cursor r → IsLongest g cursor → (f ≡ g) × (rest ≡ r)
longest_one f g cursor rest r h l i m =
    let a = l g r i in
    let b = m f rest h in
    one_by f g cursor.first cursor.ahead rest r (form_of f cursor rest h) (form_of g cursor r i) (omega arith)

keyword_one : (a b : Keyword) → keyword_text a ≡ keyword_text b → a ≡ b
keyword_one a b e = let h : Some a ≡ Some b = sym (keyword_is a) ∙ ap keyword_of e ∙ keyword_is b in cc

integer_one : (value other : ℕ) (d u l e v m : Bool) → value ≡ other → d ≡ e → u ≡ v → l ≡ m → k.Integer value d u l ≡ k.Integer other e v m
integer_one value other d u l e v m p q r s = ap (λ x. k.Integer x d u l) p ∙ ap (λ x. k.Integer other x u l) q ∙ ap (λ x. k.Integer other e x l) r ∙ ap (λ x. k.Integer other e v x) s

-- a form means one thing at most
pub means_one : (form : Form) (a b : Meaning) → Means form a → Means form b → a ≡ b
means_one (Word w) (forms.Other (k.Keyword a)) (forms.Other (k.Keyword b)) h i = ap (λ x. forms.Other (k.Keyword x)) (keyword_one a b (sym h ∙ i))
means_one (Word w) (forms.Other (k.Keyword a)) (forms.Name n) h i = absurd (i.1 a h)
means_one (Word w) (forms.Name n) (forms.Other (k.Keyword b)) h i = absurd (h.1 b i)
means_one (Word w) (forms.Name n) (forms.Name m) h i = ap forms.Name (sym h.0 ∙ i.0)
means_one (Word w) (forms.Other (k.Keyword a)) b h i = elim i [ ]
means_one (Word w) (forms.Name n) b h i = elim i [ ]
means_one (Word w) a b h i = elim h [ ]
means_one (Number base ds s) (forms.Other (k.Integer v d u l)) (forms.Other (k.Integer w e x m)) h i =
    ap forms.Other (integer_one v w d u l e x m (h.value_is ∙ sym i.value_is) (h.decimal_is ∙ sym i.decimal_is) (h.unsigned_is ∙ sym i.unsigned_is) (h.long_is ∙ sym i.long_is))
means_one (Number base ds s) (forms.Other (k.Integer v d u l)) b h i = elim i [ ]
means_one (Number base ds s) a b h i = elim h [ ]
means_one (Quoted Single body) (forms.Other (k.Character v)) (forms.Other (k.Character w)) (a, r, p) (b, s, q) =
    let same : a ≡ b = heads (stands_one (a ∷ []) (b ∷ []) body r s) in ap (λ x. forms.Other (k.Character x)) (p ∙ ap (cast_signed w8) same ∙ sym q)
means_one (Quoted Single body) (forms.Other (k.Character v)) b h i = elim i [ ]
means_one (Quoted Single body) a b h i = elim h [ ]
means_one (Quoted Double body) (forms.Other (k.Text v)) (forms.Other (k.Text w)) h i = ap (λ x. forms.Other (k.Text x)) (stands_one v w body h i)
means_one (Quoted Double body) (forms.Other (k.Text v)) b h i = elim i [ ]
means_one (Quoted Double body) a b h i = elim h [ ]
means_one (Mark p) (forms.Other (k.Punct v)) (forms.Other (k.Punct w)) h i = ap (λ x. forms.Other (k.Punct x)) (sym h ∙ i)
means_one (Mark p) (forms.Other (k.Punct v)) b h i = elim i [ ]
means_one (Mark p) a b h i = elim h [ ]
means_one (Line p) (forms.Other (k.Include v)) (forms.Other (k.Include w)) h i = ap (λ x. forms.Other (k.Include x)) (sym h ∙ i)
means_one (Line p) (forms.Other (k.Include v)) b h i = elim i [ ]
means_one (Line p) a b h i = elim h [ ]

token_by : (a b : Spelled) → a.meaning ≡ b.meaning → a.from ≡ b.from → a.to ≡ b.to → a ≡ b
token_by a b p q r =
    ap (λ x. record { meaning = x; from = a.from; to = a.to }) p ∙ ap (λ x. record { meaning = b.meaning; from = x; to = a.to }) q ∙ ap (λ x. record { meaning = b.meaning; from = b.from; to = x }) r

pub record IsSameToken (a b : Spelled) (f g : Form) (rest r : Text) : Type 0 where
  pub tokens : a ≡ b
  pub forms : f ≡ g
  pub rests : rest ≡ r

-- one token at most is at a place
pub token_one : (a b : Spelled) (f g : Form) (cursor : Cursor) (rest r : Text) → IsTokenAt a f cursor rest → IsTokenAt b g cursor r → IsSameToken a b f g rest r
token_one a b f g cursor rest r h i =
    let s = longest_one f g cursor rest r h.here h.longest i.here i.longest in
    let m : Means f b.meaning = subst (λ x. Means x b.meaning) (sym s.0) i.means in
    record {
      tokens = token_by a b (means_one f a.meaning b.meaning h.means m) (h.from_is ∙ sym i.from_is) (h.to_is ∙ ap (λ x. cursor.at + length (form_text x)) s.0 ∙ sym i.to_is);
      forms = s.0;
      rests = s.1;
    }

white_class : (c : ℕ) → is_white c ≡ true → class_of c ≡ Other
white_class c h = by_tests (c == 32) (c == 9) (c == 13) (c == 10) refl refl refl refl h
  where
    by_tests : (a b d e : Bool) → (c == 32) ≡ a → (c == 9) ≡ b → (c == 13) ≡ d → (c == 10) ≡ e → ((a || (b || d)) || e) ≡ true → class_of c ≡ Other
    by_tests true b d e p q r s w = let z : c ≡ 32 = grind (arith, nat_tests) in rw z refl
    by_tests false true d e p q r s w = let z : c ≡ 9 = grind (arith, nat_tests) in rw z refl
    by_tests false false true e p q r s w = let z : c ≡ 13 = grind (arith, nat_tests) in rw z refl
    by_tests false false false true p q r s w = let z : c ≡ 10 = grind (arith, nat_tests) in rw z refl
    by_tests false false false false p q r s w = cc

-- no form begins with a white byte
not_white : (form : Form) (first : Bool) (c : ℕ) (t rest : Text) → is_white c ≡ true → IsFormOf form first (c ∷ t) rest → ⊥
not_white (Mark p) first c t rest w h =
    let m = is_mark p in
    let e : c ≡ head_of (punct_text p) = head_append (punct_text p) rest t c m.long h.text_is in
    let z : true ≡ false = sym w ∙ ap is_white e ∙ m.not_white in cc
not_white (Quoted Single v) first c t rest w h = let z = sym (white_class c w) ∙ class_is (Quoted Single v) first c t rest h in cc
not_white (Quoted Double v) first c t rest w h = let z = sym (white_class c w) ∙ class_is (Quoted Double v) first c t rest h in cc
not_white form first c t rest w h = let z = sym (white_class c w) ∙ class_is form first c t rest h in cc

opened : (text : Text) → begins text (codes "/*") ≡ true → opens_comment text ≡ true
opened text h = rw h refl

opened_line : (text : Text) → begins text (codes "//") ≡ true → opens_comment text ≡ true
opened_line text h = rw h (or_true (begins text (codes "/*")))
  where
    or_true : (b : Bool) → (b || true) ≡ true
    or_true true = refl
    or_true false = refl

-- where a form begins no separator does
no_separator : (form : Form) (cursor : Cursor) (rest : Text) → IsFormAt form cursor rest → (separator : Separator) (r : Text) → IsSeparatorAt separator cursor.ahead r → ⊥
no_separator form cursor rest h (White c) r s = not_white form cursor.first c r rest s.fits (subst (λ t. IsFormOf form cursor.first t rest) s.text_is (form_of form cursor rest h))
no_separator form cursor rest h (BlockComment body) r s =
    let o = opened cursor.ahead (begins_joined cursor.ahead (codes "/*") ((body ++ codes "*/") ++ r) s.text_is) in
    let z : true ≡ false = sym o ∙ h.no_comment in cc
no_separator form cursor rest h (LineComment body) r s =
    let o = opened_line cursor.ahead (begins_joined cursor.ahead (codes "//") (body ++ r) s.text_is) in
    let z : true ≡ false = sym o ∙ h.no_comment in cc

pub form_stops : (form : Form) (cursor : Cursor) (rest : Text) → IsFormAt form cursor rest → separator_at cursor.ahead ≡ None
form_stops form cursor rest h = none_separator cursor.ahead (no_separator form cursor rest h)
