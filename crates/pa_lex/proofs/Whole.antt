-- One list of tokens, or one first rule that is broken.
use Rattle.std.proofs.Common.{◌≡◌, ◌≢◌, ℕ, zero, suc, ◌+◌, ◌≤◌, ◌<◌, ◌^◌, Bool, true, false, cond, List, [], ◌∷◌, length, drop, refl, sym, ◌∙◌, ap, subst, arith, Option, Some, None, inl, inr, ◌⊎◌, length-append}
use Rattle.std.proofs.lemmas.Bool.{cases_lt}
use Rattle.std.specs.Str.Parse.{digits_value}
use Rattle.std.specs.List.{list_any}
use Rattle.std.specs.Int.{cast_signed, w8}
use Rattle.pa_lex.specs.declared.form.Quote.TheVariants.{Single, Double}
use Rattle.pa_lex.specs.declared.token.Kind.TheVariants as k
use Rattle.pa_lex.specs.declared.token.Keyword.{Keyword}
use Rattle.pa_lex.specs.declared.token.LexRule.{LexRule}
use Rattle.pa_lex.specs.Texts.{Text, keyword_text}
use Rattle.pa_lex.specs.Literals.{StandsFor, radix, is_decimal, is_u, is_l}
use Rattle.pa_lex.specs.Forms.{Form, Word, Number, Quoted, Mark, Line, form_text, Meaning, Name, Other, Means, rule_of}
use Rattle.pa_lex.specs.Lexes.{Separator, separator_text, Cursor, start, moved, Gap, opens_comment, IsFormAt, IsLongest, Spelled, IsTokenAt, NothingAt, rule_at, Breaks, Outcome, Whole, Broken, Stops, Reads, Lexes, IsRefused, IsSettled}
use Rattle.pa_lex.specs.Reading.{separator_at, keyword_of, form_at, form_here}
use Rattle.pa_lex.proofs.Separators.{IsReadSeparator, separator_sound, none_separator, separator_none, separator_long}
use Rattle.pa_lex.proofs.Gaps.{gap_one}
use Rattle.pa_lex.proofs.Longest.{FormIsRight, form_right, form_long}
use Rattle.pa_lex.proofs.Bodies.{stands_decided, stands_one}
use Rattle.pa_lex.proofs.Meanings.{keyword_found, keyword_none}
use Rattle.pa_lex.proofs.Tokens.{token_one, longest_one, form_stops, form_of, form_nonempty}

-- what a form means, or that it means nothing
abbrev IsDecided : Form → Type 0
IsDecided form = ((meaning : Meaning) × Means form meaning) ⊎ ((meaning : Meaning) → Means form meaning → ⊥)

name_by : (text : Text) → ((keyword : Keyword) → text ≢ keyword_text keyword) → (length text ≤ 255) ⊎ (255 < length text) → IsDecided (Word text)
name_by text none (inl h) = inl (Name text, (refl, none, h))
name_by text none (inr h) = inr means_none
  where
    means_none : (meaning : Meaning) → Means (Word text) meaning → ⊥
    means_none (Other (k.Keyword keyword)) m = none keyword m
    means_none (Name name) m = let l = m.2 in absurd (omega arith)
    means_none _ m = elim m [ ]

word_by : (text : Text) (o : Option Keyword) → keyword_of text ≡ o → IsDecided (Word text)
word_by text (Some keyword) e = inl (Other (k.Keyword keyword), keyword_found text keyword e)
word_by text None e = name_by text (keyword_none text e) (elim (cases_lt 255 (length text)) [ inl lt ↦ inr lt | inr le ↦ inl le ])

abbrev IsStood : Text → Type 0
IsStood body = ((bytes : List ℕ) × StandsFor body bytes) ⊎ ((bytes : List ℕ) → StandsFor body bytes → ⊥)

no_character : (body : Text) → ((byte : ℕ) → StandsFor body (byte ∷ []) → ⊥) → (meaning : Meaning) → Means (Quoted Single body) meaning → ⊥
no_character body none (Other (k.Character value)) (byte, stands, v) = none byte stands
no_character body none _ m = elim m [ ]

single_by : (body : Text) → IsStood body → IsDecided (Quoted Single body)
single_by body (inl ([], s)) = inr (no_character body (λ byte r. let e = stands_one [] (byte ∷ []) body s r in cc))
single_by body (inl (byte ∷ [], s)) = inl (Other (k.Character (cast_signed w8 byte)), (byte, s, refl))
single_by body (inl (b ∷ (c ∷ bytes), s)) = inr (no_character body (λ byte r. let e = stands_one (b ∷ (c ∷ bytes)) (byte ∷ []) body s r in cc))
single_by body (inr none) = inr (no_character body (λ byte. none (byte ∷ [])))

double_by : (body : Text) → IsStood body → IsDecided (Quoted Double body)
double_by body (inl (bytes, s)) = inl (Other (k.Text bytes), s)
double_by body (inr none) = inr means_none
  where
    means_none : (meaning : Meaning) → Means (Quoted Double body) meaning → ⊥
    means_none (Other (k.Text bytes)) m = none bytes m
    means_none _ m = elim m [ ]

decided : (form : Form) → IsDecided form
decided (Word text) = word_by text (keyword_of text) refl
decided (Number base digits suffix) = elim (cases_lt (digits_value (radix base) digits) (2 ^ 64)) [
  | inl lt ↦ inl (Other (k.Integer (digits_value (radix base) digits) (is_decimal base) (list_any is_u suffix) (list_any is_l suffix)), record { value_is = refl; small = lt; decimal_is = refl; unsigned_is = refl; long_is = refl })
  | inr le ↦ inr (too_large le)
]
  where
    too_large : 2 ^ 64 ≤ digits_value (radix base) digits → (meaning : Meaning) → Means (Number base digits suffix) meaning → ⊥
    too_large le (Other (k.Integer value d u l)) m = let s = m.small in let v = m.value_is in omega arith
    too_large le _ m = elim m [ ]
decided (Quoted Single body) = single_by body (stands_decided (length body) body (omega arith))
decided (Quoted Double body) = double_by body (stands_decided (length body) body (omega arith))
decided (Mark punct) = inl (Other (k.Punct punct), refl)
decided (Line include) = inl (Other (k.Include include), refl)

-- a comment that opens keeps a form from beginning
nothing_opened : (cursor : Cursor) → cursor.ahead ≢ [] → separator_at cursor.ahead ≡ None → opens_comment cursor.ahead ≡ true → NothingAt cursor
nothing_opened cursor more none o = record {
  more = more;
  no_separator = separator_none cursor.ahead none;
  no_form = λ form rest h. let z : true ≡ false = sym o ∙ h.no_comment in cc;
}

nothing_read : (cursor : Cursor) → cursor.ahead ≢ [] → separator_at cursor.ahead ≡ None → form_at cursor.first cursor.ahead ≡ None → NothingAt cursor
nothing_read cursor more none e = record {
  more = more;
  no_separator = separator_none cursor.ahead none;
  no_form = λ form rest h. let r : FormIsRight cursor.first cursor.ahead None = subst (FormIsRight cursor.first cursor.ahead) e (form_right cursor.first cursor.ahead) in r form rest (form_of form cursor rest h);
}

-- where no form is read, nothing begins
pub nothing_at : (cursor : Cursor) → cursor.ahead ≢ [] → separator_at cursor.ahead ≡ None → form_here cursor ≡ None → NothingAt cursor
nothing_at cursor more none e = by_test (opens_comment cursor.ahead) refl e
  where
    by_test : (b : Bool) → opens_comment cursor.ahead ≡ b → cond b None (form_at cursor.first cursor.ahead) ≡ None → NothingAt cursor
    by_test true o f = nothing_opened cursor more none o
    by_test false o f = nothing_read cursor more none f

-- a form that is read is the longest one here
pub record IsFormHere (form : Form) (cursor : Cursor) : Type 0 where
  pub here : IsFormAt form cursor (drop (length (form_text form)) cursor.ahead)
  pub longest : IsLongest form cursor

pub form_found : (cursor : Cursor) (form : Form) → form_here cursor ≡ Some form → IsFormHere form cursor
form_found cursor form e = by_test (opens_comment cursor.ahead) refl e
  where
    by_test : (b : Bool) → opens_comment cursor.ahead ≡ b → cond b None (form_at cursor.first cursor.ahead) ≡ Some form → IsFormHere form cursor
    by_test true o f = cc
    by_test false o f =
        let r : FormIsRight cursor.first cursor.ahead (Some form) = subst (FormIsRight cursor.first cursor.ahead) f (form_right cursor.first cursor.ahead) in
        record {
          here = record { no_comment = o; text_is = r.here.text_is; fits = r.here.fits };
          longest = λ other rest h. r.longest other rest (form_of other cursor rest h);
        }

-- no separator begins where reading stops
stop_none : (outcome : Outcome) (cursor : Cursor) → Stops outcome cursor → separator_at cursor.ahead ≡ None
unfolding separator_at
stop_none Whole cursor h = rw h refl
stop_none (Broken rule place) cursor (inl (nothing, e), p) = none_separator cursor.ahead nothing.no_separator
stop_none (Broken rule place) cursor (inr (form, rest, empty, e), p) = form_stops form cursor rest empty.here

rule_one : (rule other : LexRule) (cursor : Cursor) → Breaks rule cursor → Breaks other cursor → rule ≡ other
rule_one rule other cursor (inl (n, e)) (inl (m, f)) = e ∙ sym f
rule_one rule other cursor (inl (n, e)) (inr (form, rest, empty, f)) = absurd (n.no_form form rest empty.here)
rule_one rule other cursor (inr (form, rest, empty, e)) (inl (m, f)) = absurd (m.no_form form rest empty.here)
rule_one rule other cursor (inr (form, rest, empty, e)) (inr (g, r, void, f)) =
    let s = longest_one form g cursor rest r empty.here empty.longest void.here void.longest in
    e ∙ ap rule_of s.0 ∙ sym f

breaks_more : (rule : LexRule) (cursor : Cursor) → Breaks rule cursor → cursor.ahead ≢ []
breaks_more rule cursor (inl (n, e)) = n.more
breaks_more rule cursor (inr (form, rest, empty, e)) = form_nonempty form cursor rest empty.here

stops_one : (a b : Outcome) (cursor : Cursor) → Stops a cursor → Stops b cursor → a ≡ b
stops_one Whole Whole cursor h i = refl
stops_one Whole (Broken rule place) cursor h (i, p) = absurd (breaks_more rule cursor i h)
stops_one (Broken rule place) Whole cursor (h, p) i = absurd (breaks_more rule cursor h i)
stops_one (Broken rule place) (Broken other at) cursor (h, p) (i, q) = ap (λ x. Broken x place) (rule_one rule other cursor h i) ∙ ap (Broken other) (p ∙ sym q)

-- reading doesn't stop at a token
stop_token : (outcome : Outcome) (token : Spelled) (form : Form) (cursor : Cursor) (rest : Text) → Stops outcome cursor → IsTokenAt token form cursor rest → ⊥
stop_token Whole token form cursor rest h t = form_nonempty form cursor rest t.here h
stop_token (Broken rule place) token form cursor rest (inl (nothing, e), p) t = nothing.no_form form rest t.here
stop_token (Broken rule place) token form cursor rest (inr (g, r, empty, e), p) t =
    let s = longest_one g form cursor r rest empty.here empty.longest t.here t.longest in
    empty.means_none token.meaning (subst (λ x. Means x token.meaning) (sym s.0) t.means)

pub record IsSameReading (tokens others : List Spelled) (a b : Outcome) : Type 0 where
  pub lists : tokens ≡ others
  pub outcomes : a ≡ b

-- from one place reading goes one way
reads_one : (tokens others : List Spelled) (a b : Outcome) (cursor : Cursor) → Reads tokens a cursor → Reads others b cursor → IsSameReading tokens others a b
reads_one [] [] a b cursor (g, d, gap, s) (h, e, hap, t) =
    let same = gap_one g h cursor d e gap (stop_none a d s) hap (stop_none b e t) in
    record { lists = refl; outcomes = stops_one a b d s (subst (Stops b) (sym same) t) }
reads_one [] (k ∷ others) a b cursor (g, d, gap, s) (h, e, form, rest, hap, t, more) =
    let same = gap_one g h cursor d e gap (stop_none a d s) hap (form_stops form e rest t.here) in
    absurd (stop_token a k form e rest (subst (Stops a) same s) t)
reads_one (k ∷ tokens) [] a b cursor (h, e, form, rest, hap, t, more) (g, d, gap, s) =
    let same = gap_one g h cursor d e gap (stop_none b d s) hap (form_stops form e rest t.here) in
    absurd (stop_token b k form e rest (subst (Stops b) same s) t)
reads_one (k ∷ tokens) (l ∷ others) a b cursor (g, d, f, r, gap, s, more) (h, e, form, rest, hap, t, next) =
    let same = gap_one g h cursor d e gap (form_stops f d r s.here) hap (form_stops form e rest t.here) in
    let u = token_one k l f form d r rest s (subst (λ c. IsTokenAt l form c rest) (sym same) t) in
    let place : moved (form_text form) e rest ≡ moved (form_text f) d r =
    ap (λ c. moved (form_text form) c rest) (sym same) ∙ ap (λ x. moved (form_text x) d rest) (sym u.forms) ∙ ap (moved (form_text f) d) (sym u.rests) in
    let i = reads_one tokens others a b (moved (form_text f) d r) more (subst (Reads others b) place next) in
    record { lists = ap (λ x. x ∷ tokens) u.tokens ∙ ap (λ x. l ∷ x) i.lists; outcomes = i.outcomes }

-- what stands behind the separators
record IsPastGap (cursor : Cursor) : Type 0 where
  gap : List Separator
  last : Cursor
  is_gap : Gap gap cursor last
  stops : separator_at last.ahead ≡ None
  short : length last.ahead ≤ length cursor.ahead

separator_shorter : (separator : Separator) (t : Text) → IsReadSeparator separator t → length (drop (length (separator_text separator)) t) < length t
separator_shorter separator t h =
    let e = ap length h.text_is in
    omega (arith, separator_long separator, length-append (separator_text separator) (drop (length (separator_text separator)) t))

past_by : (cursor : Cursor) (o : Option Separator) → separator_at cursor.ahead ≡ o → ((next : Cursor) → length next.ahead < length cursor.ahead → IsPastGap next) → IsPastGap cursor
past_by cursor None e more = record { gap = []; last = cursor; is_gap = refl; stops = e; short = omega arith }
past_by cursor (Some s) e more =
    let here = separator_sound cursor.ahead s e in
    let rest : Text = drop (length (separator_text s)) cursor.ahead in
    let l = separator_shorter s cursor.ahead here in
    let p = more (moved (separator_text s) cursor rest) l in
    record { gap = s ∷ p.gap; last = p.last; is_gap = (rest, here, p.is_gap); stops = p.stops; short = (let q = p.short in omega arith) }

past_gap : (fuel : ℕ) (cursor : Cursor) → length cursor.ahead ≤ fuel → IsPastGap cursor
past_gap zero cursor h = past_by cursor (separator_at cursor.ahead) refl (λ next l. absurd (omega arith))
past_gap (suc fuel) cursor h = past_by cursor (separator_at cursor.ahead) refl (λ next l. past_gap fuel next (omega arith))

record IsReading (cursor : Cursor) : Type 0 where
  tokens : List Spelled
  outcome : Outcome
  reads : Reads tokens outcome cursor

stopped : (cursor : Cursor) (p : IsPastGap cursor) (outcome : Outcome) → Stops outcome p.last → IsReading cursor
stopped cursor p outcome s = record { tokens = []; outcome = outcome; reads = (p.gap, p.last, p.is_gap, s) }

token_by : (cursor : Cursor) (p : IsPastGap cursor) (form : Form) → IsFormHere form p.last → IsDecided form → ((next : Cursor) → length next.ahead < length p.last.ahead → IsReading next) → IsReading cursor
token_by cursor p form h (inr none) more =
    stopped cursor p (Broken (rule_of form) p.last.at) (inr (form, drop (length (form_text form)) p.last.ahead, record { here = h.here; longest = h.longest; means_none = none }, refl), refl)
token_by cursor p form h (inl (meaning, m)) more =
    let rest : Text = drop (length (form_text form)) p.last.ahead in
    let token : Spelled = record { meaning = meaning; from = p.last.at; to = p.last.at + length (form_text form) } in
    let e = ap length h.here.text_is in
    let l : length rest < length p.last.ahead = omega (arith, form_long form p.last.first rest h.here.fits, length-append (form_text form) rest) in
    let r = more (moved (form_text form) p.last rest) l in
    record {
      tokens = token ∷ r.tokens;
      outcome = r.outcome;
      reads = (p.gap, p.last, form, rest, p.is_gap, record { here = h.here; longest = h.longest; means = m; from_is = refl; to_is = refl }, r.reads);
    }

form_by : (cursor : Cursor) (p : IsPastGap cursor) → p.last.ahead ≢ [] → (o : Option Form) → form_here p.last ≡ o → ((next : Cursor) → length next.ahead < length p.last.ahead → IsReading next) → IsReading cursor
form_by cursor p ne None e more = stopped cursor p (Broken (rule_at p.last) p.last.at) (inl (nothing_at p.last ne p.stops e, refl), refl)
form_by cursor p ne (Some form) e more = token_by cursor p form (form_found p.last form e) (decided form) more

reading_by : (cursor : Cursor) (p : IsPastGap cursor) (t : Text) → p.last.ahead ≡ t → ((next : Cursor) → length next.ahead < length p.last.ahead → IsReading next) → IsReading cursor
reading_by cursor p [] e more = stopped cursor p Whole e
reading_by cursor p (c ∷ t) e more = form_by cursor p (λ z. let w : c ∷ t ≡ [] = sym e ∙ z in cc) (form_here p.last) refl more

reading : (fuel : ℕ) (cursor : Cursor) → length cursor.ahead ≤ fuel → IsReading cursor
reading zero cursor h = let p = past_gap (length cursor.ahead) cursor (omega arith) in reading_by cursor p p.last.ahead refl (λ next l. absurd (let s = p.short in omega arith))
reading (suc fuel) cursor h = let p = past_gap (length cursor.ahead) cursor (omega arith) in reading_by cursor p p.last.ahead refl (λ next l. reading fuel next (let s = p.short in omega arith))

either_by : (bytes : Text) (tokens : List Spelled) (outcome : Outcome) → Reads tokens outcome (start bytes) → ((tokens : List Spelled) × Lexes bytes tokens) ⊎ ((rule : LexRule) × (place : ℕ) × IsRefused bytes rule place)
either_by bytes tokens Whole r = inl (tokens, r)
either_by bytes tokens (Broken rule place) r = inr (rule, place, (tokens, r))

-- The bytes are one list of tokens, or break one rule first at one place.
pub settled : (bytes : Text) → IsSettled bytes
settled bytes = record {
  one = λ tokens others h i. (reads_one tokens others Whole Whole (start bytes) h i).lists;
  one_rule = λ rule other place at (tokens, h) (others, i). same_place rule other place at (reads_one tokens others (Broken rule place) (Broken other at) (start bytes) h i).outcomes;
  not_both = λ tokens rule place h (others, i). let e = (reads_one tokens others Whole (Broken rule place) (start bytes) h i).outcomes in cc;
  either = let r = reading (length bytes) (start bytes) (omega arith) in either_by bytes r.tokens r.outcome r.reads;
}
  where
    same_place : (rule other : LexRule) (place at : ℕ) → Broken rule place ≡ Broken other at → (rule ≡ other) × (place ≡ at)
    same_place rule other place at e = (cc, cc)
