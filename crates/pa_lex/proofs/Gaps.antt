-- Separators in a row.
use Rattle.std.proofs.Common.{◌≡◌, ℕ, ◌≤◌, List, [], ◌∷◌, length, take, drop, refl, sym, ◌∙◌, ap, subst, arith, Option, Some, None, length-append}
use Rattle.std.proofs.Math.Seq.{take-append_seam}
use Rattle.pa_lex.specs.Texts.{Text}
use Rattle.pa_lex.specs.Lexes.{Separator, separator_text, Cursor, moved, Gap}
use Rattle.pa_lex.specs.Reading.{separator_at, len_of, passed, Skips}
use Rattle.pa_lex.proofs.Separators.{separator_is, separator_sound, separator_rest, separator_long, IsReadSeparator}

-- behind the longest gap is one place
pub gap_one : (gap other : List Separator) (from to end : Cursor) → Gap gap from to → separator_at to.ahead ≡ None → Gap other from end → separator_at end.ahead ≡ None → to ≡ end
gap_one [] [] from to end g n h m = sym g ∙ h
gap_one [] (s ∷ other) from to end g n (rest, here, h) m =
    let e : separator_at from.ahead ≡ None = subst (λ c. separator_at c.ahead ≡ None) (sym g) n in
    let f : Some s ≡ None = sym (separator_is s from.ahead rest here) ∙ e in cc
gap_one (s ∷ gap) [] from to end (rest, here, g) n h m =
    let e : separator_at from.ahead ≡ None = subst (λ c. separator_at c.ahead ≡ None) (sym h) m in
    let f : Some s ≡ None = sym (separator_is s from.ahead rest here) ∙ e in cc
gap_one (s ∷ gap) (r ∷ other) from to end (rest, here, g) n (tail, there, h) m =
    let f : Some s ≡ Some r = sym (separator_is s from.ahead rest here) ∙ separator_is r from.ahead tail there in
    let same : s ≡ r = cc in
    let rests : rest ≡ tail = separator_rest s from.ahead rest here ∙ ap (λ x. drop (length (separator_text x)) from.ahead) same ∙ sym (separator_rest r from.ahead tail there) in
    let next : moved (separator_text s) from rest ≡ moved (separator_text r) from tail = ap (λ x. moved (separator_text x) from rest) same ∙ ap (λ x. moved (separator_text r) from x) rests in
    gap_one gap other (moved (separator_text s) from rest) to end g n (subst (λ c. Gap other c end) (sym next) h) m

-- whatever gap begins at b is the end of one that begins at a
pub record IsBehindGap (a b : Cursor) : Type 0 where
  pub extend : (more : List Separator) (last : Cursor) → Gap more b last → (whole : List Separator) × Gap whole a last

pub record IsNextSeparator (cursor : Cursor) (n : ℕ) : Type 0 where
  pub separator : Separator
  pub read : separator_at cursor.ahead ≡ Some separator
  pub here : IsReadSeparator separator cursor.ahead
  pub len_is : length (separator_text separator) ≡ n

pub next_separator : (cursor : Cursor) (n : ℕ) → len_of (separator_at cursor.ahead) ≡ Some n → IsNextSeparator cursor n
next_separator cursor n e = by_option (separator_at cursor.ahead) refl e
  where
    by_option : (o : Option Separator) → separator_at cursor.ahead ≡ o → len_of o ≡ Some n → IsNextSeparator cursor n
    by_option None f g = cc
    by_option (Some s) f g = record { separator = s; read = f; here = separator_sound cursor.ahead s f; len_is = cc }

pub record IsInside (t : Text) (n : ℕ) : Type 0 where
  pub long : 1 ≤ n
  pub within : n ≤ length t

pub separator_within : (cursor : Cursor) (n : ℕ) → len_of (separator_at cursor.ahead) ≡ Some n → IsInside cursor.ahead n
separator_within cursor n e =
    let k = next_separator cursor n e in
    let s = k.separator in
    let l = ap length k.here.text_is in
    record { long = omega (arith, separator_long s, k.len_is); within = omega (arith, k.len_is, length-append (separator_text s) (drop (length (separator_text s)) cursor.ahead)) }

passed_is : (cursor : Cursor) (s : Separator) (n : ℕ) → IsReadSeparator s cursor.ahead → length (separator_text s) ≡ n → moved (separator_text s) cursor (drop (length (separator_text s)) cursor.ahead) ≡ passed n cursor
passed_is cursor s n here e =
    let front : separator_text s ≡ take n cursor.ahead =
    sym (take-append_seam (separator_text s) (drop (length (separator_text s)) cursor.ahead)) ∙ ap (take (length (separator_text s))) (sym here.text_is) ∙ ap (λ m. take m cursor.ahead) e in
    ap (λ t. moved t cursor (drop (length (separator_text s)) cursor.ahead)) front ∙ ap (λ m. moved (take n cursor.ahead) cursor (drop m cursor.ahead)) e

pub behind_none : (a : Cursor) → IsBehindGap a a
behind_none a = record { extend = λ more last g. (more, g) }

pub behind_more : (a b : Cursor) (n : ℕ) → IsBehindGap a b → len_of (separator_at b.ahead) ≡ Some n → IsBehindGap a (passed n b)
behind_more a b n h e = record { extend = longer }
  where
    longer : (more : List Separator) (last : Cursor) → Gap more (passed n b) last → (whole : List Separator) × Gap whole a last
    longer more last g =
        let k = next_separator b n e in
        let s = k.separator in
        h.extend (s ∷ more) last (drop (length (separator_text s)) b.ahead, k.here, subst (λ c. Gap more c last) (sym (passed_is b s n k.here k.len_is)) g)

len_none : (o : Option Separator) → len_of o ≡ None → o ≡ None
len_none None e = refl
len_none (Some s) e = cc

pub behind_all : (a b : Cursor) → IsBehindGap a b → len_of (separator_at b.ahead) ≡ None → Skips a b
behind_all a b h e = record { gap = h.extend [] b refl; stops = len_none (separator_at b.ahead) e }
