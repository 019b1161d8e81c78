-- What tokens look like, and what they mean.
use Rattle.std.specs.Prelude.{◌≡◌, ◌≢◌, ℕ, ◌≤◌, ◌<◌, ◌^◌, ◌&&◌, Bool, true, false, not, ◌==◌, if◌then◌else◌, [], ◌∷◌, ◌++◌, length}
use Rattle.std.specs.List.{list_any}
use Rattle.std.specs.Str.Parse.{digits_value}
use Rattle.std.specs.Int.{cast_signed, w8}
use Rattle.pa_lex.specs.declared.form.Base.{Base}
use Rattle.pa_lex.specs.declared.form.Quote.{Quote}
use Rattle.pa_lex.specs.declared.form.Quote.TheVariants.{Single, Double}
use Rattle.pa_lex.specs.declared.token.Keyword.{Keyword}
use Rattle.pa_lex.specs.declared.token.Punct.{Punct}
use Rattle.pa_lex.specs.declared.token.Include.{Include}
use Rattle.pa_lex.specs.declared.token.Kind.{Kind}
use Rattle.pa_lex.specs.declared.token.Kind.TheVariants as k
use Rattle.pa_lex.specs.declared.token.LexRule.{LexRule}
use Rattle.pa_lex.specs.declared.token.LexRule.TheVariants.{X1, X3, X5}
use Rattle.pa_lex.specs.Texts.{Text, keyword_text, punct_text, include_text}
use Rattle.pa_lex.specs.Bytes.{is_letter, is_word, is_line_feed, is_blank_line}
use Rattle.pa_lex.specs.Literals.{prefix, radix, is_decimal, IsDigits, IsSuffix, is_u, is_l, StandsFor}
use Rattle.std.specs.List.{list_all}

-- what a token looks like, before it is asked what it means
pub data Form : Type 0 where
  Word : (text : Text) → Form
  Number : (base : Base) (digits suffix : Text) → Form
  Quoted : (quote : Quote) (body : Text) → Form
  Mark : (punct : Punct) → Form
  Line : (include : Include) → Form

abbrev pub quote_byte : Quote → ℕ
quote_byte Single = 39
quote_byte Double = 34

abbrev pub form_text : Form → Text
form_text (Word text) = text
form_text (Number base digits suffix) = prefix base ++ (digits ++ suffix)
form_text (Quoted quote body) = quote_byte quote ∷ body ++ quote_byte quote ∷ []
form_text (Mark punct) = punct_text punct
form_text (Line include) = include_text include

abbrev pub IsWord : Text → Type 0
IsWord [] = ⊥
IsWord (c ∷ t) = (is_letter c ≡ true) × (list_all is_word t ≡ true)

-- no line feed, and a quote of the kind only behind a backslash; a backslash takes the byte behind it along, and `taken`
-- says whether this is such a byte
unfoldable pub is_body : Quote → Bool → Text → Bool
is_body quote taken [] = not taken
is_body quote taken (c ∷ t) =
    not (is_line_feed c) && (if taken then is_body quote false t else (not (c == quote_byte quote) && is_body quote (c == 92) t))

-- a form in front of the rest; `first` says whether a line begins with it
abbrev pub Fits : Form → Bool → Text → Type 0
Fits (Word text) first rest = IsWord text
Fits (Number base digits suffix) first rest = IsDigits base digits × IsSuffix suffix
Fits (Quoted quote body) first rest = is_body quote false body ≡ true
Fits (Mark punct) first rest = Unit {0}
Fits (Line include) first rest = (first ≡ true) × (is_blank_line rest ≡ true)

abbrev pub NoKeyword : Text → Type 0
NoKeyword text = (keyword : Keyword) → text ≢ keyword_text keyword

pub record IsInteger (base : Base) (digits suffix : Text) (value : ℕ) (decimal unsigned long : Bool) : Type 0 where
  pub value_is : value ≡ digits_value (radix base) digits
  pub small : value < 2 ^ 64
  pub decimal_is : decimal ≡ is_decimal base
  pub unsigned_is : unsigned ≡ list_any is_u suffix
  pub long_is : long ≡ list_any is_l suffix

-- what a token means: a name, or what has no name
pub data Meaning : Type 0 where
  Name : (text : Text) → Meaning
  Other : (kind : Kind) → Meaning

-- the meaning of a form
abbrev pub Means : Form → Meaning → Type 0
Means (Word text) (Name name) = (text ≡ name) × NoKeyword text × (length text ≤ 255)
Means (Word text) (Other (k.Keyword keyword)) = text ≡ keyword_text keyword
Means (Number base digits suffix) (Other (k.Integer value decimal unsigned long)) = IsInteger base digits suffix value decimal unsigned long
Means (Quoted Single body) (Other (k.Character value)) = (byte : ℕ) × StandsFor body (byte ∷ []) × (value ≡ cast_signed w8 byte)
Means (Quoted Double body) (Other (k.Text bytes)) = StandsFor body bytes
Means (Mark punct) (Other (k.Punct p)) = punct ≡ p
Means (Line include) (Other (k.Include i)) = include ≡ i
Means _ _ = ⊥

-- the rule that a form breaks which means nothing: a name is too long, a number too large, a literal has a bad escape or
-- another count of characters
abbrev pub rule_of : Form → LexRule
rule_of (Word text) = X5
rule_of (Number base digits suffix) = X3
rule_of _ = X1
