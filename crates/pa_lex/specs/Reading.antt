-- Reading what stands at the front of a text: functions, for the contracts of the parts of `lex`.
use Rattle.std.specs.Prelude.{◌≡◌, ℕ, ◌+◌, min, Bool, false, not, ◌&&◌, ◌==◌, nat_lt, nat_le, ◌^◌, Result, Ok, Err, if◌then◌else◌, List, [], ◌∷◌, length, take, drop, Option, Some, None, option_and_then}
use Rattle.std.specs.List.{prefix_len, find}
use Rattle.std.specs.Char.{is_digit}
use Rattle.std.specs.Str.{bytes_eq}
use Rattle.pa_lex.specs.declared.byte.Class.{Class}
use Rattle.pa_lex.specs.declared.byte.Class.TheVariants.{Letter, Digit, Apostrophe, DoubleQuote, Hash, Other}
use Rattle.pa_lex.specs.declared.form.Base.{Base}
use Rattle.pa_lex.specs.declared.form.Base.TheVariants.{Decimal, Octal, LowerHexadecimal, UpperHexadecimal}
use Rattle.pa_lex.specs.declared.form.Quote.{Quote}
use Rattle.pa_lex.specs.declared.form.Quote.TheVariants.{Single, Double}
use Rattle.pa_lex.specs.declared.token.Keyword.{Keyword}
use Rattle.pa_lex.specs.declared.token.Punct.{Punct}
use Rattle.pa_lex.specs.declared.token.Include.{Include}
use Rattle.pa_lex.specs.declared.token.Include.TheVariants.{Stdio, Stdint, Ptrauth}
use Rattle.pa_lex.specs.Texts.{Text, keyword_text, punct_text, include_text, puncts_at, keywords_at}
use Rattle.pa_lex.specs.Bytes.{is_letter, is_word, is_white, is_line_feed, is_blank_line, begins}
use Rattle.pa_lex.specs.Literals.{prefix, radix, is_u, is_l, Piece, Plain, Simple, OctalEscape, HexadecimalEscape, piece_text, piece_value, simple_escape, StandsFor}
use Rattle.pa_num.specs.declared.fault.Fault.{Fault}
use Rattle.pa_num.specs.declared.fault.Fault.TheVariants.{Refused, Memory}
use Rattle.pa_lex.specs.declared.token.LexRule.{LexRule}
use Rattle.pa_lex.specs.Forms.{Form, Word, Number, Quoted, Mark, Line, quote_byte, form_text, Meaning, Means}
use Rattle.pa_lex.specs.Lexes.{Separator, White, BlockComment, LineComment, separator_text, Cursor, opens_comment, moved, Gap, Spelled, IsTokenAt, Breaks}

-- what a byte can begin
abbrev pub class_of : ℕ → Class
class_of c =
    if is_letter c then Letter else
    (if is_digit c 10 then Digit else
    (if c == 39 then Apostrophe else
    (if c == 34 then DoubleQuote else
    (if c == 35 then Hash else Other))))

-- the bytes at the front that pass a test
abbrev pub front : (ℕ → Bool) → Text → Text
front passes text = take (prefix_len passes text) text

abbrev pub hexadecimal_at : ℕ → ℕ → Base
hexadecimal_at x d = if is_digit d 16 then (if x == 120 then LowerHexadecimal else (if x == 88 then UpperHexadecimal else Octal)) else Octal

abbrev pub base_at : Text → Base
base_at [] = Decimal
base_at (c ∷ []) = if c == 48 then Octal else Decimal
base_at (c ∷ x ∷ []) = if c == 48 then Octal else Decimal
base_at (c ∷ x ∷ d ∷ t) = if c == 48 then hexadecimal_at x d else Decimal

abbrev pub unsigned_len : Text → ℕ
unsigned_len [] = 0
unsigned_len (c ∷ t) = if is_u c then 1 else 0

abbrev pub long_len : Text → ℕ
long_len [] = 0
long_len (c ∷ []) = if is_l c then 1 else 0
long_len (c ∷ d ∷ t) = if is_l c then (if c == d then 2 else 1) else 0

-- how long the suffix of an integer constant is
unfoldable pub suffix_len : Text → ℕ
suffix_len text =
    if nat_lt 0 (unsigned_len text) then unsigned_len text + long_len (drop (unsigned_len text) text)
    else long_len text + unsigned_len (drop (long_len text) text)

abbrev pub number_by : Base → ℕ → Text → Form
number_by base n rest = Number base (take n rest) (take (suffix_len (drop n rest)) (drop n rest))

abbrev pub number_from : Base → Text → Form
number_from base rest = number_by base (prefix_len (λ d. is_digit d (radix base)) rest) rest

-- the integer constant at the front
abbrev pub number_at : Text → Form
number_at text = number_from (base_at text) (drop (length (prefix (base_at text))) text)

abbrev pub plus_one : Option ℕ → Option ℕ
plus_one None = None
plus_one (Some n) = Some (1 + n)

-- how long a literal is up to its quote; `taken` says whether the first byte belongs to a backslash before it
unfoldable pub body_len : Quote → Bool → Text → Option ℕ
body_len quote taken [] = None
body_len quote taken (c ∷ t) =
    if is_line_feed c then None else
    (if taken then plus_one (body_len quote false t) else
    (if c == quote_byte quote then Some 0 else plus_one (body_len quote (c == 92) t)))

abbrev pub quoted_by : Quote → Text → Option ℕ → Option Form
quoted_by quote text None = None
quoted_by quote text (Some n) = Some (Quoted quote (take n text))

abbrev pub quoted_at : Quote → Text → Option Form
quoted_at quote text = quoted_by quote text (body_len quote false text)

abbrev pub is_line : Text → Include → Bool
is_line text include = begins text (include_text include) && is_blank_line (drop (length (include_text include)) text)

abbrev pub includes : List Include
includes = Stdio ∷ Stdint ∷ Ptrauth ∷ []

abbrev pub marked : Option Punct → Option Form
marked None = None
marked (Some punct) = Some (Mark punct)

abbrev pub lined : Option Include → Option Form
lined None = None
lined (Some include) = Some (Line include)

abbrev pub punct_at : ℕ → Text → Option Punct
punct_at c text = find (λ p. begins text (punct_text p)) (puncts_at c)

abbrev pub form_by : Class → Bool → ℕ → Text → Option Form
form_by Letter first c t = Some (Word (front is_word (c ∷ t)))
form_by Digit first c t = Some (number_at (c ∷ t))
form_by Apostrophe first c t = quoted_at Single t
form_by DoubleQuote first c t = quoted_at Double t
form_by Hash first c t = if first then lined (find (is_line (c ∷ t)) includes) else None
form_by Other first c t = marked (punct_at c (c ∷ t))

-- the longest form at the front, comments aside
abbrev pub form_at : Bool → Text → Option Form
form_at first [] = None
form_at first (c ∷ t) = form_by (class_of c) first c t

-- the byte of a piece and how many bytes it has, where the byte is one
abbrev pub fitted : Piece → Option (ℕ × ℕ)
fitted piece = if nat_le (piece_value piece) 255 then Some (piece_value piece, length (piece_text piece)) else None

abbrev pub simple_at : ℕ → Option ℕ → Option Piece
simple_at letter None = None
simple_at letter (Some byte) = Some (Simple letter byte)

abbrev pub hexadecimal_escape : Text → Option Piece
hexadecimal_escape [] = None
hexadecimal_escape (d ∷ digits) = Some (HexadecimalEscape (d ∷ digits))

-- the escape whose bytes behind the backslash stand at the front
abbrev pub escape_at : Text → Option Piece
escape_at [] = None
escape_at (c ∷ t) =
    if c == 120 then hexadecimal_escape (front (λ d. is_digit d 16) t) else
    (if is_digit c 8 then Some (OctalEscape (take (min (prefix_len (λ d. is_digit d 8) (c ∷ t)) 3) (c ∷ t)))
    else simple_at c (simple_escape c))

-- the longest piece at the front
abbrev pub piece_at : Text → Option Piece
piece_at [] = None
piece_at (c ∷ t) = if c == 92 then escape_at t else Some (Plain c)

-- the byte of that piece, and how many bytes the piece has
unfoldable pub character_at : Text → Option (ℕ × ℕ)
character_at text = option_and_then fitted (piece_at text)

-- a number, where it has 64 bits
abbrev pub within_u64 : ℕ → Option ℕ
within_u64 n = if nat_lt n (2 ^ 64) then Some n else None

abbrev pub within_byte : ℕ → Option ℕ
within_byte n = if nat_le n 255 then Some n else None

-- whether a byte comes next
abbrev pub next_is : ℕ → Text → Bool
next_is byte [] = false
next_is byte (c ∷ t) = c == byte

-- where the first `*/` stands
unfoldable pub close : Text → Option ℕ
close [] = None
close (c ∷ t) = if c == 42 && next_is 47 t then Some 0 else plus_one (close t)

abbrev pub block : Text → Option ℕ → Option Separator
block text None = None
block text (Some n) = Some (BlockComment (take n text))

-- the comment whose bytes behind the first slash stand at the front
abbrev pub comment_at : Text → Option Separator
comment_at [] = None
comment_at (c ∷ t) = if c == 47 then Some (LineComment (front (λ d. not (is_line_feed d)) t)) else (if c == 42 then block t (close t) else None)

-- the separator at the front
unfoldable pub separator_at : Text → Option Separator
separator_at [] = None
separator_at (c ∷ t) = if is_white c then Some (White c) else (if c == 47 then comment_at t else None)

abbrev pub len_of : Option Separator → Option ℕ
len_of None = None
len_of (Some separator) = Some (length (separator_text separator))

-- the place behind the next n bytes
abbrev pub passed : ℕ → Cursor → Cursor
passed n cursor = moved (take n cursor.ahead) cursor (drop n cursor.ahead)

-- what `skip` does: behind the separators no further one stands
pub record Skips (old new : Cursor) : Type 0 where
  pub gap : (gap : List Separator) × Gap gap old new
  pub stops : separator_at new.ahead ≡ None

-- the longest form at a place where no separator begins
abbrev pub form_here : Cursor → Option Form
form_here cursor = if opens_comment cursor.ahead then None else form_at cursor.first cursor.ahead

-- what a form means, if it means something
abbrev pub IsMeaning : Form → Option Meaning → Type 0
IsMeaning form None = (meaning : Meaning) → Means form meaning → ⊥
IsMeaning form (Some meaning) = Means form meaning

-- what a literal's body stands for, if it stands for bytes
abbrev pub IsStoodFor : Text → Option (List ℕ) → Type 0
IsStoodFor body None = (bytes : List ℕ) → StandsFor body bytes → ⊥
IsStoodFor body (Some bytes) = StandsFor body bytes

abbrev pub IsCharacterOf : Text → Option ℕ → Type 0
IsCharacterOf body None = (byte : ℕ) → StandsFor body (byte ∷ []) → ⊥
IsCharacterOf body (Some byte) = StandsFor body (byte ∷ [])

-- the keyword that a word is
abbrev pub find_keyword : ℕ → Text → Option Keyword
find_keyword c text = find (λ keyword. bytes_eq (keyword_text keyword) text) (keywords_at c)

unfoldable pub keyword_of : Text → Option Keyword
keyword_of [] = None
keyword_of (c ∷ t) = find_keyword c (c ∷ t)

-- what `token` answers, where a token or a broken rule is next
abbrev pub TakesToken : Cursor → Result Spelled (Fault LexRule) → Cursor → Type 0
TakesToken old (Ok token) new = (form : Form) × (rest : Text) × IsTokenAt token form old rest × (new ≡ moved (form_text form) old rest)
TakesToken old (Err (Refused rule place)) new = Breaks rule old × (place ≡ old.at)
TakesToken old (Err Memory) new = Unit {0}
