-- The longest piece of a literal is the one that is read.
use Rattle.std.proofs.Common.{◌≡◌, ◌≢◌, ℕ, ◌≤◌, min, Bool, true, false, ◌==◌, List, [], ◌∷◌, ◌++◌, length, take, drop, refl, sym, ◌∙◌, ap, subst, arith, Option, Some, None}
use Rattle.std.specs.List.{prefix_len, list_all}
use Rattle.std.specs.Char.{is_digit}
use Rattle.std.proofs.lemmas.Bool.Decides.{nat_tests}
use Rattle.std.proofs.lemmas.List.{take-append-drop, length-take-le}
use Rattle.std.proofs.lemmas.List.Sums.{prefix_len-le-length}
use Rattle.pa_lex.specs.Texts.{Text}
use Rattle.pa_lex.specs.Literals.{Piece, Plain, Simple, OctalEscape, HexadecimalEscape, piece_text, simple_escape, IsPieceAt, IsLongestPiece}
use Rattle.pa_lex.specs.Reading.{front, simple_at, hexadecimal_escape, escape_at, piece_at}
use Rattle.pa_lex.proofs.Runs.{if_true, if_false, run_bounds, run_passes, both_true, heads, tails}

abbrev pub octal : ℕ → Bool
octal d = is_digit d 8

abbrev pub hexadecimal : ℕ → Bool
hexadecimal d = is_digit d 16

-- the piece that is read begins the text, and no longer one does
pub record IsReadPiece (piece : Piece) (text : Text) : Type 0 where
  pub here : IsPieceAt piece text (drop (length (piece_text piece)) text)
  pub longest : IsLongestPiece piece text

abbrev pub PieceIsRight : Text → Option Piece → Type 0
PieceIsRight text None = (piece : Piece) (rest : Text) → IsPieceAt piece text rest → ⊥
PieceIsRight text (Some piece) = IsReadPiece piece text

-- a piece that is not plain begins with a backslash
escape_begins : (piece : Piece) (c : ℕ) (t rest : Text) → c ≢ 92 → IsPieceAt piece (c ∷ t) rest → piece ≡ Plain c
escape_begins (Plain byte) c t rest ne h = ap Plain (sym (heads h.text_is))
escape_begins (Simple letter byte) c t rest ne h = absurd (ne (heads h.text_is))
escape_begins (OctalEscape digits) c t rest ne h = absurd (ne (heads h.text_is))
escape_begins (HexadecimalEscape digits) c t rest ne h = absurd (ne (heads h.text_is))

plain_right : (c : ℕ) (t : Text) → c ≢ 92 → IsReadPiece (Plain c) (c ∷ t)
plain_right c t ne = record {
  here = record { text_is = refl; fits = ne };
  longest = λ other rest h. rw (escape_begins other c t rest ne h) (omega arith);
}

-- an octal digit is no letter of a simple escape, and no x
pub octal_simple : (c : ℕ) → is_digit c 8 ≡ true → simple_escape c ≡ None
octal_simple c h = grind (arith, nat_tests)

octal_x : (c : ℕ) → is_digit c 8 ≡ true → (c == 120) ≡ false
octal_x c h = grind (arith, nat_tests)

nonempty : {A : Type 0} (xs : List A) → 1 ≤ length xs → xs ≡ [] → ⊥
nonempty xs h e = let z = ap length e in absurd (omega arith)

not_first : (p : ℕ → Bool) (digits rest : Text) (c : ℕ) (t : Text) → 1 ≤ length digits → list_all p digits ≡ true → c ∷ t ≡ digits ++ rest → p c ≡ true
not_first p [] rest c t h l e = absurd (omega arith)
not_first p (d ∷ digits) rest c t h l e = rw (heads e) ((both_true (p d) (list_all p digits) l).0)

pub record IsHexadecimalAt (piece : Piece) (text rest : Text) : Type 0 where
  pub digits : Text
  pub is : piece ≡ HexadecimalEscape digits
  pub long : 1 ≤ length digits
  pub passes : list_all hexadecimal digits ≡ true
  pub text_is : text ≡ digits ++ rest

-- behind `\x` stand hexadecimal digits
at_x : (piece : Piece) (u rest : Text) → IsPieceAt piece (92 ∷ 120 ∷ u) rest → IsHexadecimalAt piece u rest
at_x (Plain byte) u rest h = absurd (h.fits (sym (heads h.text_is)))
at_x (Simple letter byte) u rest h = let e : letter ≡ 120 = sym (heads (tails h.text_is)) in let f : simple_escape 120 ≡ Some byte = rw e at h.fits in cc
at_x (OctalEscape digits) u rest h = let e : is_digit 120 8 ≡ true = not_first octal digits rest 120 u h.fits.0 h.fits.2 (tails h.text_is) in cc
at_x (HexadecimalEscape digits) u rest h = record { digits = digits; is = refl; long = h.fits.0; passes = h.fits.1; text_is = tails (tails h.text_is) }

pub record IsOctalAt (piece : Piece) (text rest : Text) : Type 0 where
  pub digits : Text
  pub is : piece ≡ OctalEscape digits
  pub long : 1 ≤ length digits
  pub short : length digits ≤ 3
  pub passes : list_all octal digits ≡ true
  pub text_is : text ≡ digits ++ rest

-- behind a backslash and before an octal digit stands an octal escape
at_octal : (piece : Piece) (c : ℕ) (u rest : Text) → is_digit c 8 ≡ true → IsPieceAt piece (92 ∷ c ∷ u) rest → IsOctalAt piece (c ∷ u) rest
at_octal (Plain byte) c u rest o h = absurd (h.fits (sym (heads h.text_is)))
at_octal (Simple letter byte) c u rest o h =
    let e : letter ≡ c = sym (heads (tails h.text_is)) in
    let f : simple_escape c ≡ Some byte = rw e at h.fits in
    let g = octal_simple c o in cc
at_octal (OctalEscape digits) c u rest o h = record { digits = digits; is = refl; long = h.fits.0; short = h.fits.1; passes = h.fits.2; text_is = tails h.text_is }
at_octal (HexadecimalEscape digits) c u rest o h = let e : c ≡ 120 = heads (tails h.text_is) in let f : is_digit 120 8 ≡ true = rw e at o in cc

-- behind a backslash and before any other byte stands a simple escape
at_simple : (piece : Piece) (c : ℕ) (u rest : Text) → c ≢ 120 → is_digit c 8 ≡ false → IsPieceAt piece (92 ∷ c ∷ u) rest
    → (byte : ℕ) × (piece ≡ Simple c byte) × (simple_escape c ≡ Some byte) × (u ≡ rest)
at_simple (Plain byte) c u rest x o h = absurd (h.fits (sym (heads h.text_is)))
at_simple (Simple letter byte) c u rest x o h = let e : letter ≡ c = sym (heads (tails h.text_is)) in (byte, rw e refl, rw e at h.fits, tails (tails h.text_is))
at_simple (OctalEscape digits) c u rest x o h = let e : is_digit c 8 ≡ true = not_first octal digits rest c u h.fits.0 h.fits.2 (tails h.text_is) in cc
at_simple (HexadecimalEscape digits) c u rest x o h = absurd (x (heads (tails h.text_is)))

hexadecimal_by : (u digits : Text) → front hexadecimal u ≡ digits → PieceIsRight (92 ∷ 120 ∷ u) (hexadecimal_escape digits)
hexadecimal_by u [] e = none
  where
    none : (piece : Piece) (rest : Text) → IsPieceAt piece (92 ∷ 120 ∷ u) rest → ⊥
    none piece rest h =
        let x = at_x piece u rest h in
        let l : length x.digits ≤ prefix_len hexadecimal u = run_bounds hexadecimal u x.digits rest x.text_is x.passes in
        let n : length (front hexadecimal u) ≡ prefix_len hexadecimal u = length-take-le (prefix_len hexadecimal u) u (prefix_len-le-length hexadecimal u) in
        let z : length (front hexadecimal u) ≡ 0 = rw e refl in
        let long = x.long in omega arith
hexadecimal_by u (d ∷ digits) e = record {
  here = record {
    text_is = ap (λ t. 92 ∷ 120 ∷ t) (sym (take-append-drop (prefix_len hexadecimal u) u) ∙ ap (λ t. t ++ drop (prefix_len hexadecimal u) u) e ∙ ap (λ n. (d ∷ digits) ++ drop n u) (same_len));
    fits = (omega arith, subst (λ t. list_all hexadecimal t ≡ true) e (run_passes hexadecimal (prefix_len hexadecimal u) u (omega arith)));
  };
  longest = longest_here;
}
  where
    len_is : length (front hexadecimal u) ≡ prefix_len hexadecimal u
    len_is = length-take-le (prefix_len hexadecimal u) u (prefix_len-le-length hexadecimal u)

    same_len : prefix_len hexadecimal u ≡ length (d ∷ digits)
    same_len = sym len_is ∙ ap length e

    longest_here : IsLongestPiece (HexadecimalEscape (d ∷ digits)) (92 ∷ 120 ∷ u)
    longest_here other rest h =
        let x = at_x other u rest h in
        let l : length x.digits ≤ prefix_len hexadecimal u = run_bounds hexadecimal u x.digits rest x.text_is x.passes in
        rw (x.is) (omega (arith, same_len))

octal_of : (c : ℕ) (u : Text) (n : ℕ) → is_digit c 8 ≡ true → n ≡ min (prefix_len octal (c ∷ u)) 3 → 1 ≤ n → PieceIsRight (92 ∷ c ∷ u) (Some (OctalEscape (take n (c ∷ u))))
octal_of c u n o e l = record {
  here = record {
    text_is = ap (λ t. 92 ∷ t) (sym (take-append-drop n (c ∷ u)) ∙ ap (λ m. take n (c ∷ u) ++ drop m (c ∷ u)) (sym len_is));
    fits = (omega (arith, len_is), omega (arith, len_is), run_passes octal n (c ∷ u) (omega arith));
  };
  longest = longest_here;
}
  where
    len_is : length (take n (c ∷ u)) ≡ n
    len_is = length-take-le n (c ∷ u) (omega (arith, prefix_len-le-length octal (c ∷ u)))

    longest_here : IsLongestPiece (OctalEscape (take n (c ∷ u))) (92 ∷ c ∷ u)
    longest_here other rest h =
        let x = at_octal other c u rest o h in
        let b : length x.digits ≤ prefix_len octal (c ∷ u) = run_bounds octal (c ∷ u) x.digits rest x.text_is x.passes in
        let short = x.short in
        rw (x.is) (omega (arith, len_is))

octal_right : (c : ℕ) (u : Text) → is_digit c 8 ≡ true → PieceIsRight (92 ∷ c ∷ u) (Some (OctalEscape (take (min (prefix_len octal (c ∷ u)) 3) (c ∷ u))))
octal_right c u o =
    let one : 1 ≤ prefix_len octal (c ∷ u) = rw o (omega arith) in
    octal_of c u (min (prefix_len octal (c ∷ u)) 3) o refl (omega arith)

simple_by : (c : ℕ) (u : Text) (o : Option ℕ) → c ≢ 120 → is_digit c 8 ≡ false → simple_escape c ≡ o → PieceIsRight (92 ∷ c ∷ u) (simple_at c o)
simple_by c u None x o e = λ piece rest h. let (byte, i, s, t) = at_simple piece c u rest x o h in cc
simple_by c u (Some byte) x o e = record { here = record { text_is = refl; fits = e }; longest = longest_here }
  where
    longest_here : IsLongestPiece (Simple c byte) (92 ∷ c ∷ u)
    longest_here other rest h = let (b, i, s, t) = at_simple other c u rest x o h in rw i (omega arith)

not_equal : (a b : ℕ) → (a == b) ≡ false → a ≢ b
not_equal a b e h = grind (arith, nat_tests)

is_equal : (a b : ℕ) → (a == b) ≡ true → a ≡ b
is_equal a b e = grind (arith, nat_tests)

escape_by : (c : ℕ) (u : Text) (x o : Bool) → (c == 120) ≡ x → is_digit c 8 ≡ o → PieceIsRight (92 ∷ c ∷ u) (escape_at (c ∷ u))
escape_by c u true o e f = rw e (rw (is_equal c 120 e) (hexadecimal_by u (front hexadecimal u) refl))
escape_by c u false true e f = rw e (if_true (PieceIsRight (92 ∷ c ∷ u)) (is_digit c 8) _ _ f (octal_right c u f))
escape_by c u false false e f = rw e (if_false (PieceIsRight (92 ∷ c ∷ u)) (is_digit c 8) _ _ f (simple_by c u (simple_escape c) (not_equal c 120 e) f refl))

lone_backslash : (piece : Piece) (rest : Text) → IsPieceAt piece (92 ∷ []) rest → ⊥
lone_backslash (Plain byte) rest h = h.fits (sym (heads h.text_is))
lone_backslash (Simple letter byte) rest h = let e = tails h.text_is in cc
lone_backslash (OctalEscape []) rest h = let l = h.fits.0 in absurd (omega arith)
lone_backslash (OctalEscape (d ∷ digits)) rest h = let e = tails h.text_is in cc
lone_backslash (HexadecimalEscape digits) rest h = let e = tails h.text_is in cc

piece_by : (c : ℕ) (t : Text) (b : Bool) → (c == 92) ≡ b → PieceIsRight (c ∷ t) (piece_at (c ∷ t))
piece_by c t false e = rw e (plain_right c t (not_equal c 92 e))
piece_by c [] true e = rw e (rw (is_equal c 92 e) lone_backslash)
piece_by c (d ∷ u) true e = rw e (rw (is_equal c 92 e) (escape_by d u (d == 120) (is_digit d 8) refl refl))

-- The longest piece is read, and none only where none begins the text.
pub piece_right : (c : ℕ) (t : Text) → PieceIsRight (c ∷ t) (piece_at (c ∷ t))
piece_right c t = piece_by c t (c == 92) refl
