-- What a literal's body stands for.
use Rattle.std.proofs.Common.{◌≡◌, ◌≢◌, ℕ, zero, suc, ◌≤◌, Bool, true, false, cond, List, [], ◌∷◌, ◌++◌, length, drop, refl, sym, ◌∙◌, ap, subst, arith, ◌==◌, Option, Some, None, ◌⊎◌, inl, inr, nat_le, length-append, length-drop, append_assoc}
use Rattle.std.specs.List.{list_all}
use Rattle.std.proofs.lemmas.Bool.Decides.{nat_tests}
use Rattle.std.proofs.lemmas.List.{append-nil}
use Rattle.std.proofs.Math.Seq.{drop-length}
use Rattle.pa_lex.specs.Texts.{Text}
use Rattle.pa_lex.specs.Literals.{Piece, Plain, Simple, OctalEscape, HexadecimalEscape, piece_text, piece_value, simple_escape, IsPiece, IsPieceAt, IsLongestPiece, StandsFor}
use Rattle.std.specs.Bool.{then_some}
use Rattle.pa_lex.specs.Reading.{fitted, piece_at, character_at, IsCharacterOf}
use Rattle.pa_lex.proofs.Runs.{both_true, same_front, heads, tails}
use Rattle.pa_lex.proofs.Pieces.{octal, PieceIsRight, IsReadPiece, piece_right, octal_simple}

-- one text, one piece
piece_same : (p q : Piece) → IsPiece p → IsPiece q → piece_text p ≡ piece_text q → p ≡ q
piece_same (Plain a) (Plain b) h k e = ap Plain (heads e)
piece_same (Plain a) (Simple m b) h k e = absurd (h (heads e))
piece_same (Plain a) (OctalEscape es) h k e = absurd (h (heads e))
piece_same (Plain a) (HexadecimalEscape es) h k e = absurd (h (heads e))
piece_same (Simple l a) (Plain b) h k e = absurd (k (sym (heads e)))
piece_same (Simple l a) (Simple m b) h k e = let s : l ≡ m = heads (tails e) in let t : simple_escape m ≡ Some a = rw s at h in let same : a ≡ b = cc in rw (s, same) refl
piece_same (Simple l a) (OctalEscape []) h k e = let z = k.0 in absurd (omega arith)
piece_same (Simple l a) (OctalEscape (d ∷ es)) h k e = let s : l ≡ d = heads (tails e) in let o = octal_simple d (both_true (octal d) (list_all octal es) k.2).0 in let t : simple_escape d ≡ Some a = rw s at h in cc
piece_same (Simple l a) (HexadecimalEscape []) h k e = let z = k.0 in absurd (omega arith)
piece_same (Simple l a) (HexadecimalEscape (d ∷ es)) h k e = let s = tails (tails e) in cc
piece_same (OctalEscape ds) (Plain b) h k e = absurd (k (sym (heads e)))
piece_same (OctalEscape []) q h k e = let z = h.0 in absurd (omega arith)
piece_same (OctalEscape (d ∷ ds)) (Simple m b) h k e = let s : d ≡ m = heads (tails e) in let o = octal_simple d (both_true (octal d) (list_all octal ds) h.2).0 in let t : simple_escape d ≡ Some b = rw (← s) at k in cc
piece_same (OctalEscape ds) (OctalEscape es) h k e = ap OctalEscape (tails e)
piece_same (OctalEscape (d ∷ ds)) (HexadecimalEscape es) h k e = let s : d ≡ 120 = heads (tails e) in let o : octal 120 ≡ true = subst (λ z. octal z ≡ true) s ((both_true (octal d) (list_all octal ds) h.2).0) in cc
piece_same (HexadecimalEscape ds) (Plain b) h k e = absurd (k (sym (heads e)))
piece_same (HexadecimalEscape []) q h k e = let z = h.0 in absurd (omega arith)
piece_same (HexadecimalEscape (d ∷ ds)) (Simple m b) h k e = let s = tails (tails e) in cc
piece_same (HexadecimalEscape ds) (OctalEscape []) h k e = let z = k.0 in absurd (omega arith)
piece_same (HexadecimalEscape ds) (OctalEscape (d ∷ es)) h k e = let s : d ≡ 120 = sym (heads (tails e)) in let o : octal 120 ≡ true = subst (λ z. octal z ≡ true) s ((both_true (octal d) (list_all octal es) k.2).0) in cc
piece_same (HexadecimalEscape ds) (HexadecimalEscape es) h k e = ap HexadecimalEscape (tails (tails e))

piece_long : (p : Piece) → 1 ≤ length (piece_text p)
piece_long (Plain a) = omega arith
piece_long (Simple l a) = omega arith
piece_long (OctalEscape ds) = omega arith
piece_long (HexadecimalEscape ds) = omega arith

-- the longest piece is the one that is read, and the rest is what stands behind it
pub record IsThePiece (piece : Piece) (text rest : Text) : Type 0 where
  pub read : piece_at text ≡ Some piece
  pub rest_is : rest ≡ drop (length (piece_text piece)) text

piece_by : (p : Piece) (t r : Text) (o : Option Piece) → piece_at t ≡ o → PieceIsRight t o → IsPieceAt p t r → IsLongestPiece p t → IsThePiece p t r
piece_by p t r None e n h l = absurd (n p r h)
piece_by p t r (Some q) e n h l =
    let a = n.longest p r h in
    let b = l q (drop (length (piece_text q)) t) n.here in
    let s = same_front (piece_text q) (piece_text p) (drop (length (piece_text q)) t) r (sym n.here.text_is ∙ h.text_is) (omega arith) in
    let same : q ≡ p = piece_same q p n.here.fits h.fits s.0 in
    record { read = e ∙ ap Some same; rest_is = sym s.1 ∙ ap (λ x. drop (length (piece_text x)) t) same }

pub piece_is : (p : Piece) (t r : Text) → IsPieceAt p t r → IsLongestPiece p t → IsThePiece p t r
piece_is p [] r h l = let e = ap length h.text_is in absurd (omega (arith, piece_long p, length-append (piece_text p) r))
piece_is p (c ∷ t) r h l = piece_by p (c ∷ t) r (piece_at (c ∷ t)) refl (piece_right c t) h l

-- a piece that is read, with its byte
pub record IsCharacter (piece : Piece) (text : Text) (byte n : ℕ) : Type 0 where
  pub piece_read : piece_at text ≡ Some piece
  pub right : IsReadPiece piece text
  pub byte_is : piece_value piece ≡ byte
  pub small : byte ≤ 255
  pub len_is : length (piece_text piece) ≡ n

fitted_some : (p : Piece) (byte n : ℕ) → fitted p ≡ Some (byte, n) → (piece_value p ≡ byte) × (byte ≤ 255) × (length (piece_text p) ≡ n)
fitted_some p byte n e = fitted_by (nat_le (piece_value p) 255) refl e
  where
    fitted_by : (b : Bool) → nat_le (piece_value p) 255 ≡ b → cond {A = Option (ℕ × ℕ)} b (Some (piece_value p, length (piece_text p))) None ≡ Some (byte, n) → (piece_value p ≡ byte) × (byte ≤ 255) × (length (piece_text p) ≡ n)
    fitted_by true t f = let pair : ◌≡◌ {A = ℕ × ℕ} (piece_value p, length (piece_text p)) (byte, n) = cc in
        let v : piece_value p ≡ byte = ap (λ q. q.0) pair in (v, (let le : piece_value p ≤ 255 = grind (arith, nat_tests) in omega arith), ap (λ q. q.1) pair)
    fitted_by false t f = cc

character_by : (c : ℕ) (t : Text) (byte n : ℕ) (o : Option Piece) → piece_at (c ∷ t) ≡ o → PieceIsRight (c ∷ t) o → character_at (c ∷ t) ≡ Some (byte, n) → (p : Piece) × IsCharacter p (c ∷ t) byte n
unfolding character_at
character_by c t byte n None e r h = let z : ◌≡◌ {A = Option (ℕ × ℕ)} None (Some (byte, n)) = rw e at h in cc
character_by c t byte n (Some p) e r h =
    let f = fitted_some p byte n (rw e at h) in
    (p, record { piece_read = e; right = r; byte_is = f.0; small = f.1; len_is = f.2 })

pub character_is : (t : Text) (byte n : ℕ) → character_at t ≡ Some (byte, n) → (p : Piece) × IsCharacter p t byte n
unfolding character_at
character_is [] byte n h = cc
character_is (c ∷ t) byte n h = character_by c t byte n (piece_at (c ∷ t)) refl (piece_right c t) h

-- one more byte in front
pub stands_more : (t : Text) (byte n : ℕ) (bytes : List ℕ) → character_at t ≡ Some (byte, n) → StandsFor (drop n t) bytes → StandsFor t (byte ∷ bytes)
stands_more t byte n bytes h s =
    let (p, k) = character_is t byte n h in
    (p, drop (length (piece_text p)) t, k.right.here, k.right.longest, k.byte_is, k.small, subst (λ m. StandsFor (drop m t) bytes) (sym k.len_is) s)

pub record Continues (t : Text) (byte n : ℕ) (bytes : List ℕ) : Type 0 where
  pub more : List ℕ
  pub bytes_are : bytes ≡ byte ∷ more
  pub stands : StandsFor (drop n t) more

fitted_is : (p : Piece) (byte : ℕ) → piece_value p ≡ byte → byte ≤ 255 → fitted p ≡ Some (byte, length (piece_text p))
fitted_is p byte e h = let le : nat_le (piece_value p) 255 ≡ true = grind (arith, nat_tests) in rw (le, e) refl

character_found : (p : Piece) (t : Text) (byte : ℕ) → piece_at t ≡ Some p → piece_value p ≡ byte → byte ≤ 255 → character_at t ≡ Some (byte, length (piece_text p))
unfolding character_at
character_found p t byte e v h = rw e (fitted_is p byte v h)

-- the first byte is the one that is read
pub stands_front : (t : Text) (byte n : ℕ) (bytes : List ℕ) → character_at t ≡ Some (byte, n) → StandsFor t bytes → Continues t byte n bytes
stands_front t byte n [] h s = let (p, k) = character_is t byte n h in let e = ap length k.right.here.text_is in absurd (omega (arith, piece_long p, length-append (piece_text p) (drop (length (piece_text p)) t), ap length s))
stands_front t byte n (b ∷ bytes) h (p, r, here, longest, value, small, rest) =
    let i = piece_is p t r here longest in
    let f : ◌≡◌ {A = Option (ℕ × ℕ)} (Some (byte, n)) (Some (b, length (piece_text p))) = sym h ∙ character_found p t b i.read value small in
    let pair : ◌≡◌ {A = ℕ × ℕ} (byte, n) (b, length (piece_text p)) = cc in
    record {
      more = bytes;
      bytes_are = ap (λ x. x ∷ bytes) (sym (ap (λ q. q.0) pair));
      stands = subst (λ m. StandsFor (drop m t) bytes) (sym (ap (λ q. q.1) pair)) (subst (λ u. StandsFor u bytes) i.rest_is rest);
    }

-- where no byte is read, a text that isn't empty stands for none
pub stands_none : (t : Text) (bytes : List ℕ) → t ≢ [] → character_at t ≡ None → StandsFor t bytes → ⊥
stands_none t [] ne h s = ne s
stands_none t (b ∷ bytes) ne h (p, r, here, longest, value, small, rest) =
    let i = piece_is p t r here longest in
    let f : ◌≡◌ {A = Option (ℕ × ℕ)} None (Some (b, length (piece_text p))) = sym h ∙ character_found p t b i.read value small in cc

character_long : (t : Text) (byte n : ℕ) → character_at t ≡ Some (byte, n) → 1 ≤ n
character_long t byte n h = let (p, k) = character_is t byte n h in omega (arith, piece_long p, k.len_is)

pub record IsWithin (t : Text) (n : ℕ) : Type 0 where
  pub long : 1 ≤ n
  pub within : n ≤ length t

-- the piece has a byte at least and lies within the text
pub character_within : (t : Text) (byte n : ℕ) → character_at t ≡ Some (byte, n) → IsWithin t n
character_within t byte n h =
    let (p, k) = character_is t byte n h in
    let e = ap length k.right.here.text_is in
    record { long = character_long t byte n h; within = omega (arith, length-append (piece_text p) (drop (length (piece_text p)) t), k.len_is) }

-- a text stands for one list of bytes at most
pub stands_one : (bytes others : List ℕ) (t : Text) → StandsFor t bytes → StandsFor t others → bytes ≡ others
stands_one [] [] t s r = refl
stands_one [] (b ∷ others) t s (p, r, here, longest, value, small, rest) = let e = ap length here.text_is in absurd (omega (arith, piece_long p, length-append (piece_text p) r, ap length s))
stands_one (b ∷ bytes) others t (p, r, here, longest, value, small, rest) s =
    let i = piece_is p t r here longest in
    let f = character_found p t b i.read value small in
    let c = stands_front t b (length (piece_text p)) others f s in
    ap (λ x. b ∷ x) (stands_one bytes c.more r rest (subst (λ u. StandsFor u c.more) (sym i.rest_is) c.stands)) ∙ sym c.bytes_are

stands_by : (c : ℕ) (t : Text) (o : Option (ℕ × ℕ)) → character_at (c ∷ t) ≡ o → ((n : ℕ) → 1 ≤ n → ((bytes : List ℕ) × StandsFor (drop n (c ∷ t)) bytes) ⊎ ((bytes : List ℕ) → StandsFor (drop n (c ∷ t)) bytes → ⊥))
    → ((bytes : List ℕ) × StandsFor (c ∷ t) bytes) ⊎ ((bytes : List ℕ) → StandsFor (c ∷ t) bytes → ⊥)
stands_by c t None e more = inr (λ bytes s. stands_none (c ∷ t) bytes (λ z. cc) e s)
stands_by c t (Some p) e more = elim (more p.1 (character_long (c ∷ t) p.0 p.1 e)) [
  | inl q ↦ inl (p.0 ∷ q.0, stands_more (c ∷ t) p.0 p.1 q.0 e q.1)
  | inr none ↦ inr (λ bytes s. let k = stands_front (c ∷ t) p.0 p.1 bytes e s in none k.more k.stands)
]

-- a text stands for bytes, or for none
pub stands_decided : (fuel : ℕ) (t : Text) → length t ≤ fuel → ((bytes : List ℕ) × StandsFor t bytes) ⊎ ((bytes : List ℕ) → StandsFor t bytes → ⊥)
stands_decided fuel [] h = inl ([], refl)
stands_decided zero (c ∷ t) h = absurd (omega arith)
stands_decided (suc fuel) (c ∷ t) h = stands_by c t (character_at (c ∷ t)) refl (λ n l. stands_decided fuel (drop n (c ∷ t)) (omega (arith, length-drop n (c ∷ t))))

-- the bytes so far and what the rest stands for are what the body stands for
pub record IsReadTo (body : Text) (bytes : List ℕ) (rest : Text) : Type 0 where
  pub builds : (more : List ℕ) → StandsFor rest more → StandsFor body (bytes ++ more)
  pub only : (all : List ℕ) → StandsFor body all → (more : List ℕ) × StandsFor rest more × (all ≡ bytes ++ more)

pub read_none : (body : Text) → IsReadTo body [] body
read_none body = record { builds = λ more s. s; only = λ all s. (all, s, refl) }

pub read_more : (body : Text) (bytes : List ℕ) (rest : Text) (byte n : ℕ) → IsReadTo body bytes rest → character_at rest ≡ Some (byte, n) → IsReadTo body (bytes ++ byte ∷ []) (drop n rest)
read_more body bytes rest byte n h e = record {
  builds = λ more s. rw append_assoc (h.builds (byte ∷ more) (stands_more rest byte n more e s));
  only = only_more;
}
  where
    only_more : (all : List ℕ) → StandsFor body all → (more : List ℕ) × StandsFor (drop n rest) more × (all ≡ (bytes ++ byte ∷ []) ++ more)
    only_more all s =
        let (more, r, a) = h.only all s in
        let k = stands_front rest byte n more e r in
        (k.more, k.stands, a ∙ ap (λ x. bytes ++ x) k.bytes_are ∙ sym (append_assoc bytes (byte ∷ []) k.more))

pub read_fails : (body : Text) (bytes : List ℕ) (rest : Text) (all : List ℕ) → IsReadTo body bytes rest → rest ≢ [] → character_at rest ≡ None → StandsFor body all → ⊥
read_fails body bytes rest all h ne e s = let (more, r, a) = h.only all s in stands_none rest more ne e r

pub read_all : (body : Text) (bytes : List ℕ) (rest : Text) → IsReadTo body bytes rest → rest ≡ [] → StandsFor body bytes
read_all body bytes rest h e = subst (StandsFor body) (append-nil bytes) (h.builds [] e)

pub stands_nonempty : (t : Text) (byte : ℕ) (bytes : List ℕ) → StandsFor t (byte ∷ bytes) → t ≢ []
stands_nonempty t byte bytes (p, r, here, longest, value, small, rest) e = let z = ap length here.text_is in absurd (omega (arith, piece_long p, length-append (piece_text p) r, ap length e))

-- a body of one piece stands for one byte, and no other body does
pub one_byte : (body : Text) (byte n : ℕ) → character_at body ≡ Some (byte, n) → n ≡ length body → StandsFor body (byte ∷ [])
one_byte body byte n e l = stands_more body byte n [] e (rw l (drop-length body))

pub not_one_byte : (body : Text) (byte n other : ℕ) → character_at body ≡ Some (byte, n) → n ≢ length body → StandsFor body (other ∷ []) → ⊥
not_one_byte body byte n other e l s =
    let k = stands_front body byte n (other ∷ []) e s in
    let z : [] ≡ k.more = tails k.bytes_are in
    let d : drop n body ≡ [] = subst (StandsFor (drop n body)) (sym z) k.stands in
    let w = character_within body byte n e in
    l (omega (arith, length-drop n body, ap length d, w.within))

pub no_byte : (body : Text) (other : ℕ) → character_at body ≡ None → StandsFor body (other ∷ []) → ⊥
no_byte body other e s = stands_none body (other ∷ []) (stands_nonempty body other [] s) e s

pub character_answer : (body : Text) (byte n : ℕ) (b : Bool) (r : Option ℕ) → character_at body ≡ Some (byte, n) → (n == length body) ≡ b → r ≡ then_some b byte → IsCharacterOf body r
character_answer body byte n true r e l a = rw a (one_byte body byte n e (grind (arith, nat_tests)))
character_answer body byte n false r e l a = rw a (λ other. not_one_byte body byte n other e (λ z. grind (arith, nat_tests)))

pub character_missing : (body : Text) (r : Option ℕ) → character_at body ≡ None → r ≡ None → IsCharacterOf body r
character_missing body r e a = rw a (λ other. no_byte body other e)
