-- Numbers, and the characters of literals.
use Rattle.std.specs.Prelude.{◌≡◌, ◌≢◌, ◌⊎◌, ℕ, ◌≤◌, Bool, true, false, not, ◌||◌, ◌==◌, if◌then◌else◌, List, [], ◌∷◌, ◌++◌, length, Option, Some, None, codes}
use Rattle.std.specs.List.{list_all}
use Rattle.std.specs.Char.{is_digit}
use Rattle.std.specs.Str.Parse.{digits_value}
use Rattle.pa_lex.specs.declared.form.Base.{Base}
use Rattle.pa_lex.specs.declared.form.Base.TheVariants.{Decimal, Octal, LowerHexadecimal, UpperHexadecimal}
use Rattle.pa_lex.specs.Texts.{Text}

-- what stands before the digits
abbrev pub prefix : Base → Text
prefix Decimal = []
prefix Octal = []
prefix LowerHexadecimal = codes "0x"
prefix UpperHexadecimal = codes "0X"

abbrev pub radix : Base → ℕ
radix Decimal = 10
radix Octal = 8
radix LowerHexadecimal = 16
radix UpperHexadecimal = 16

abbrev pub is_decimal : Base → Bool
is_decimal Decimal = true
is_decimal _ = false

-- whether the digits may begin with this byte: a decimal constant doesn't begin with 0, an octal one does
abbrev pub may_lead : Base → ℕ → Bool
may_lead Decimal c = not (c == 48)
may_lead Octal c = c == 48
may_lead _ c = true

-- the digits of an integer constant (C11 6.4.4.1)
abbrev pub IsDigits : Base → Text → Type 0
IsDigits base [] = ⊥
IsDigits base (c ∷ t) = (may_lead base c ≡ true) × (list_all (λ d. is_digit d (radix base)) (c ∷ t) ≡ true)

-- the suffixes of an integer constant: u, and l or ll, each in either case and each missing or not
abbrev pub IsUnsignedSuffix : Text → Type 0
IsUnsignedSuffix u = (u ≡ []) ⊎ ((u ≡ codes "u") ⊎ (u ≡ codes "U"))

abbrev pub IsLongSuffix : Text → Type 0
IsLongSuffix l = (l ≡ []) ⊎ ((l ≡ codes "l") ⊎ ((l ≡ codes "L") ⊎ ((l ≡ codes "ll") ⊎ (l ≡ codes "LL"))))

-- both together, either one first
abbrev pub IsSuffix : Text → Type 0
IsSuffix s = (u l : Text) × IsUnsignedSuffix u × IsLongSuffix l × ((s ≡ u ++ l) ⊎ (s ≡ l ++ u))

abbrev pub is_u : ℕ → Bool
is_u c = c == 117 || c == 85

abbrev pub is_l : ℕ → Bool
is_l c = c == 108 || c == 76

-- what stands for one byte of a literal: the byte itself, a backslash and a letter, one to three octal digits, or
-- hexadecimal digits (C11 6.4.4.4)
pub data Piece : Type 0 where
  Plain : (byte : ℕ) → Piece
  Simple : (letter : ℕ) (byte : ℕ) → Piece
  OctalEscape : (digits : Text) → Piece
  HexadecimalEscape : (digits : Text) → Piece

abbrev pub piece_text : Piece → Text
piece_text (Plain byte) = byte ∷ []
piece_text (Simple letter byte) = 92 ∷ letter ∷ []
piece_text (OctalEscape digits) = 92 ∷ digits
piece_text (HexadecimalEscape digits) = 92 ∷ 120 ∷ digits

-- the byte of a simple escape: ' " ? \ a b f n r t v
abbrev pub simple_escape : ℕ → Option ℕ
simple_escape c =
    if c == 39 then Some 39 else
    (if c == 34 then Some 34 else
    (if c == 63 then Some 63 else
    (if c == 92 then Some 92 else
    (if c == 97 then Some 7 else
    (if c == 98 then Some 8 else
    (if c == 102 then Some 12 else
    (if c == 110 then Some 10 else
    (if c == 114 then Some 13 else
    (if c == 116 then Some 9 else
    (if c == 118 then Some 11 else None))))))))))

abbrev pub IsPiece : Piece → Type 0
IsPiece (Plain byte) = byte ≢ 92
IsPiece (Simple letter byte) = simple_escape letter ≡ Some byte
IsPiece (OctalEscape digits) = (1 ≤ length digits) × (length digits ≤ 3) × (list_all (λ d. is_digit d 8) digits ≡ true)
IsPiece (HexadecimalEscape digits) = (1 ≤ length digits) × (list_all (λ d. is_digit d 16) digits ≡ true)

abbrev pub piece_value : Piece → ℕ
piece_value (Plain byte) = byte
piece_value (Simple letter byte) = byte
piece_value (OctalEscape digits) = digits_value 8 digits
piece_value (HexadecimalEscape digits) = digits_value 16 digits

pub record IsPieceAt (piece : Piece) (text rest : Text) : Type 0 where
  pub text_is : text ≡ piece_text piece ++ rest
  pub fits : IsPiece piece

abbrev pub IsLongestPiece : Piece → Text → Type 0
IsLongestPiece piece text = (other : Piece) (rest : Text) → IsPieceAt other text rest → length (piece_text other) ≤ length (piece_text piece)

-- a text is pieces that stand for these bytes, each the longest at its place
abbrev pub StandsFor : Text → List ℕ → Type 0
StandsFor text [] = text ≡ []
StandsFor text (byte ∷ bytes) =
    (piece : Piece) × (rest : Text) × IsPieceAt piece text rest × IsLongestPiece piece text × (piece_value piece ≡ byte) × (byte ≤ 255) × StandsFor rest bytes
