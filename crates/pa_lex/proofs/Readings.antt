-- Reading a token, and tokens in a row.
use Rattle.std.proofs.Common.{◌≡◌, ◌≢◌, ℕ, ◌≤◌, ◌<◌, List, [], ◌∷◌, ◌++◌, length, take, drop, refl, sym, ◌∙◌, ap, subst, arith, Some, None, Ok, Err, length-append, append_assoc, inl, inr}
use Rattle.std.proofs.lemmas.List.{append-nil}
use Rattle.std.proofs.Math.Seq.{take-append_seam}
use Rattle.pa_num.specs.declared.fault.Fault.{Fault}
use Rattle.pa_num.specs.declared.fault.Fault.TheVariants.{Refused, Memory}
use Rattle.pa_lex.specs.declared.token.LexRule.{LexRule}
use Rattle.pa_lex.specs.Texts.{Text}
use Rattle.pa_lex.specs.Forms.{Form, form_text, rule_of}
use Rattle.pa_lex.specs.Lexes.{Separator, separator_text, Cursor, start, moved, Gap, rule_at, Breaks, Spelled, Outcome, Whole, Broken, Reads, Lexes, IsRefused}
use Rattle.pa_lex.specs.Numbering.{IsAnswer}
use Rattle.pa_lex.specs.Reading.{separator_at, form_here, passed, IsMeaning, TakesToken, Skips}
use Rattle.pa_lex.proofs.Longest.{form_long}
use Rattle.pa_lex.proofs.Whole.{IsFormHere, form_found, nothing_at}

pub record FitsAhead (form : Form) (cursor : Cursor) : Type 0 where
  pub within : length (form_text form) ≤ length cursor.ahead

-- a form that is read lies within the bytes ahead
pub form_within : (cursor : Cursor) (form : Form) → form_here cursor ≡ Some form → FitsAhead form cursor
form_within cursor form e =
    let h = form_found cursor form e in
    let l = ap length h.here.text_is in
    record { within = omega (arith, length-append (form_text form) (drop (length (form_text form)) cursor.ahead)) }

passed_is : (cursor : Cursor) (form : Form) → IsFormHere form cursor → passed (length (form_text form)) cursor ≡ moved (form_text form) cursor (drop (length (form_text form)) cursor.ahead)
passed_is cursor form h =
    let rest : Text = drop (length (form_text form)) cursor.ahead in
    let front : take (length (form_text form)) cursor.ahead ≡ form_text form = ap (take (length (form_text form))) h.here.text_is ∙ take-append_seam (form_text form) rest in
    ap (λ t. moved t cursor rest) front

-- the token of a form that means something
pub takes_token : (cursor new : Cursor) (form : Form) (token : Spelled) → form_here cursor ≡ Some form → IsMeaning form (Some token.meaning) → new ≡ passed (length (form_text form)) cursor → token.from ≡ cursor.at → token.to ≡ new.at → TakesToken cursor (Ok token) new
takes_token cursor new form token e m n f t =
    let h = form_found cursor form e in
    let place = n ∙ passed_is cursor form h in
    (form, drop (length (form_text form)) cursor.ahead, record { here = h.here; longest = h.longest; means = m; from_is = f; to_is = t ∙ ap (λ c. c.at) place }, place)

-- no form begins
pub breaks_nothing : (cursor : Cursor) (rule : LexRule) (place : ℕ) → cursor.ahead ≢ [] → separator_at cursor.ahead ≡ None → form_here cursor ≡ None → rule ≡ rule_at cursor → place ≡ cursor.at → Breaks rule cursor × (place ≡ cursor.at)
breaks_nothing cursor rule place more stops e r p = (inl (nothing_at cursor more stops e, r), p)

-- the longest form means nothing
pub breaks_form : (cursor : Cursor) (form : Form) (rule : LexRule) (place : ℕ) → form_here cursor ≡ Some form → IsMeaning form None → rule ≡ rule_of form → place ≡ cursor.at → Breaks rule cursor × (place ≡ cursor.at)
breaks_form cursor form rule place e none r p =
    let h = form_found cursor form e in
    (inr (form, drop (length (form_text form)) cursor.ahead, record { here = h.here; longest = h.longest; means_none = none }, r), p)

gap_append : (gap more : List Separator) (from middle to : Cursor) → Gap gap from middle → Gap more middle to → Gap (gap ++ more) from to
gap_append [] more from middle to g h = subst (λ c. Gap more c to) (sym g) h
gap_append (s ∷ gap) more from middle to (rest, here, g) h = (rest, here, gap_append gap more (moved (separator_text s) from rest) middle to g h)

-- separators in front
reads_behind : (gap : List Separator) (tokens : List Spelled) (outcome : Outcome) (from to : Cursor) → Gap gap from to → Reads tokens outcome to → Reads tokens outcome from
reads_behind gap [] outcome from to g (more, last, h, s) = (gap ++ more, last, gap_append gap more from to last g h, s)
reads_behind gap (k ∷ tokens) outcome from to g (more, begin, form, rest, h, t, r) = (gap ++ more, begin, form, rest, gap_append gap more from to begin g h, t, r)

-- whatever is read from here on, is read behind these tokens from the start
pub record IsReadUpTo (bytes : Text) (tokens : List Spelled) (cursor : Cursor) : Type 0 where
  pub extend : (more : List Spelled) (outcome : Outcome) → Reads more outcome cursor → Reads (tokens ++ more) outcome (start bytes)

-- up to here the bytes are these tokens, and no separator begins here
pub record IsAtToken (bytes : Text) (tokens : List Spelled) (cursor : Cursor) : Type 0 where
  pub read : IsReadUpTo bytes tokens cursor
  pub stops : separator_at cursor.ahead ≡ None

pub read_skips : (bytes : Text) (tokens : List Spelled) (from to : Cursor) → IsReadUpTo bytes tokens from → Skips from to → IsAtToken bytes tokens to
read_skips bytes tokens from to h s = record {
  read = record { extend = λ more outcome r. h.extend more outcome (reads_behind s.gap.0 more outcome from to s.gap.1 r) };
  stops = s.stops;
}

pub read_start : (bytes : Text) (from : Cursor) → from ≡ start bytes → IsReadUpTo bytes [] from
read_start bytes from e = record { extend = λ more outcome r. subst (Reads more outcome) e r }

pub read_token : (bytes : Text) (tokens : List Spelled) (token : Spelled) (cursor new : Cursor) → IsAtToken bytes tokens cursor → TakesToken cursor (Ok token) new → IsReadUpTo bytes (tokens ++ token ∷ []) new
read_token bytes tokens token cursor new h (form, rest, t, e) = record { extend = longer }
  where
    longer : (more : List Spelled) (outcome : Outcome) → Reads more outcome new → Reads ((tokens ++ token ∷ []) ++ more) outcome (start bytes)
    longer more outcome r =
        let next : Reads (token ∷ more) outcome cursor = ([], cursor, form, rest, refl, t, subst (Reads more outcome) e r) in
        subst (λ ks. Reads ks outcome (start bytes)) (sym (append_assoc tokens (token ∷ []) more)) (h.read.extend (token ∷ more) outcome next)

pub read_end : (bytes : Text) (tokens : List Spelled) (cursor : Cursor) → IsAtToken bytes tokens cursor → cursor.ahead ≡ [] → Lexes bytes tokens
read_end bytes tokens cursor h e =
    let last : Reads [] Whole cursor = ([], cursor, refl, e) in
    subst (λ ks. Lexes bytes ks) (append-nil tokens) (h.read.extend [] Whole last)

pub read_refused : (bytes : Text) (tokens : List Spelled) (cursor new : Cursor) (rule : LexRule) (place : ℕ) → IsAtToken bytes tokens cursor → TakesToken cursor (Err (Refused rule place)) new → IsRefused bytes rule place
read_refused bytes tokens cursor new rule place h t =
    let last : Reads [] (Broken rule place) cursor = ([], cursor, refl, t) in
    (tokens ++ [], h.read.extend [] (Broken rule place) last)

pub read_fails : (bytes : Text) (tokens : List Spelled) (cursor new : Cursor) (fault : Fault LexRule) → IsAtToken bytes tokens cursor → TakesToken cursor (Err fault) new → IsAnswer bytes (Err fault)
read_fails bytes tokens cursor new (Refused rule place) h t = read_refused bytes tokens cursor new rule place h t
read_fails bytes tokens cursor new Memory h t = tt

gap_shorter : (gap : List Separator) (from to : Cursor) → Gap gap from to → length to.ahead ≤ length from.ahead
gap_shorter [] from to g = let e : length from.ahead ≡ length to.ahead = ap (λ c. length c.ahead) g in omega arith
gap_shorter (s ∷ gap) from to (rest, here, g) =
    let e = ap length here.text_is in
    omega (arith, gap_shorter gap (moved (separator_text s) from rest) to g, length-append (separator_text s) rest)

-- a token and the separators behind it leave fewer bytes ahead
pub token_shorter : (token : Spelled) (cursor new last : Cursor) → TakesToken cursor (Ok token) new → Skips new last → length last.ahead < length cursor.ahead
token_shorter token cursor new last (form, rest, t, e) s =
    let l = ap length t.here.text_is in
    let n : length new.ahead ≡ length rest = ap (λ c. length c.ahead) e in
    omega (arith, gap_shorter s.gap.0 new last s.gap.1, form_long form cursor.first rest t.here.fits, length-append (form_text form) rest)
