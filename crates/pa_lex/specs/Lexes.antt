-- Which bytes are which tokens, and which rule they break first.
use Rattle.std.specs.Prelude.{◌≡◌, ◌≢◌, ℕ, ◌+◌, ◌≤◌, Bool, true, false, not, ◌&&◌, ◌||◌, ◌==◌, ◌⊎◌, if◌then◌else◌, List, [], ◌∷◌, ◌++◌, length, codes}
use Rattle.std.specs.List.{list_all}
use Rattle.pa_lex.specs.declared.token.LexRule.{LexRule}
use Rattle.pa_lex.specs.declared.token.LexRule.TheVariants.{X1, X2, X4}
use Rattle.pa_lex.specs.Texts.{Text}
use Rattle.pa_lex.specs.Bytes.{is_white, is_line_feed, begins}
use Rattle.pa_lex.specs.Forms.{Form, form_text, Fits, Meaning, Means, rule_of}

-- what separates tokens (C11 6.4.9): a white byte, a comment up to the first `*/`, a comment up to the line's end
pub data Separator : Type 0 where
  White : (byte : ℕ) → Separator
  BlockComment : (body : Text) → Separator
  LineComment : (body : Text) → Separator

abbrev pub separator_text : Separator → Text
separator_text (White byte) = byte ∷ []
separator_text (BlockComment body) = codes "/*" ++ (body ++ codes "*/")
separator_text (LineComment body) = codes "//" ++ body

-- a text stands nowhere in another
abbrev pub Lacks : Text → Text → Type 0
Lacks part text = (front back : Text) → text ≢ front ++ (part ++ back)

abbrev pub IsLineEnd : Text → Type 0
IsLineEnd [] = Unit {0}
IsLineEnd (c ∷ t) = is_line_feed c ≡ true

abbrev pub Separates : Separator → Text → Type 0
Separates (White byte) rest = is_white byte ≡ true
Separates (BlockComment body) rest = Lacks (codes "*/") body
Separates (LineComment body) rest = (list_all (λ c. not (is_line_feed c)) body ≡ true) × IsLineEnd rest

pub record IsSeparatorAt (separator : Separator) (text rest : Text) : Type 0 where
  pub text_is : text ≡ separator_text separator ++ rest
  pub fits : Separates separator rest

-- a place in the bytes: how many are behind it, whether a line begins here, and the bytes ahead
pub record Cursor : Type 0 where
  pub at : ℕ
  pub first : Bool
  pub ahead : Text

abbrev pub start : Text → Cursor
start bytes = record { at = 0; first = true; ahead = bytes }

-- whether a line begins behind a text
unfoldable pub starts_line : Bool → Text → Bool
starts_line first [] = first
starts_line first (c ∷ t) = starts_line (is_line_feed c) t

-- the place behind a text, with the rest ahead
abbrev pub moved : Text → Cursor → Text → Cursor
moved text cursor rest = record { at = cursor.at + length text; first = starts_line cursor.first text; ahead = rest }

-- from one place to another stand these separators
abbrev pub Gap : List Separator → Cursor → Cursor → Type 0
Gap [] from to = from ≡ to
Gap (separator ∷ more) from to =
    (rest : Text) × IsSeparatorAt separator from.ahead rest × Gap more (moved (separator_text separator) from rest) to

abbrev pub opens_comment : Text → Bool
opens_comment text = begins text (codes "/*") || begins text (codes "//")

pub record IsFormAt (form : Form) (cursor : Cursor) (rest : Text) : Type 0 where
  pub no_comment : opens_comment cursor.ahead ≡ false
  pub text_is : cursor.ahead ≡ form_text form ++ rest
  pub fits : Fits form cursor.first rest

abbrev pub IsLongest : Form → Cursor → Type 0
IsLongest form cursor = (other : Form) (rest : Text) → IsFormAt other cursor rest → length (form_text other) ≤ length (form_text form)

-- a token with its place, whose name is not yet a number
pub record Spelled : Type 0 where
  pub meaning : Meaning
  pub from : ℕ
  pub to : ℕ

-- the token at a place: no comment and no longer token begins there
pub record IsTokenAt (token : Spelled) (form : Form) (cursor : Cursor) (rest : Text) : Type 0 where
  pub here : IsFormAt form cursor rest
  pub longest : IsLongest form cursor
  pub means : Means form token.meaning
  pub from_is : token.from ≡ cursor.at
  pub to_is : token.to ≡ cursor.at + length (form_text form)

-- neither a token nor a separator begins at a place before the end
pub record NothingAt (cursor : Cursor) : Type 0 where
  pub more : cursor.ahead ≢ []
  pub no_separator : (separator : Separator) (rest : Text) → IsSeparatorAt separator cursor.ahead rest → ⊥
  pub no_form : (form : Form) (rest : Text) → IsFormAt form cursor rest → ⊥

-- a comment or a literal begins
abbrev pub opens : Text → Bool
opens [] = false
opens (c ∷ t) = (c == 34 || c == 39) || opens_comment (c ∷ t)

-- a line begins with `#`
abbrev pub is_directive : Cursor → Bool
is_directive cursor = cursor.first && begins cursor.ahead (codes "#")

-- the rule that is broken where nothing begins: a comment or a literal has no end, another line begins with `#`, or a
-- byte begins no token
abbrev pub rule_at : Cursor → LexRule
rule_at cursor = if opens cursor.ahead then X2 else (if is_directive cursor then X4 else X1)

-- the longest form at a place means nothing
pub record IsEmptyAt (form : Form) (cursor : Cursor) (rest : Text) : Type 0 where
  pub here : IsFormAt form cursor rest
  pub longest : IsLongest form cursor
  pub means_none : (meaning : Meaning) → Means form meaning → ⊥

abbrev pub Breaks : LexRule → Cursor → Type 0
Breaks rule cursor =
    (NothingAt cursor × (rule ≡ rule_at cursor)) ⊎ ((form : Form) × (rest : Text) × IsEmptyAt form cursor rest × (rule ≡ rule_of form))

-- where reading comes to: the end, or a rule that is broken and its place
pub data Outcome : Type 0 where
  Whole : Outcome
  Broken : (rule : LexRule) (place : ℕ) → Outcome

abbrev pub Stops : Outcome → Cursor → Type 0
Stops Whole cursor = cursor.ahead ≡ []
Stops (Broken rule place) cursor = Breaks rule cursor × (place ≡ cursor.at)

-- from a place on stand separators and these tokens in turn, and separators up to that outcome
abbrev pub Reads : List Spelled → Outcome → Cursor → Type 0
Reads [] outcome cursor = (gap : List Separator) × (last : Cursor) × Gap gap cursor last × Stops outcome last
Reads (token ∷ tokens) outcome cursor =
    (gap : List Separator) × (begin : Cursor) × (form : Form) × (rest : Text) × Gap gap cursor begin × IsTokenAt token form begin rest
    × Reads tokens outcome (moved (form_text form) begin rest)

-- the bytes are these tokens
abbrev pub Lexes : Text → List Spelled → Type 0
Lexes bytes tokens = Reads tokens Whole (start bytes)

-- the bytes break that rule first, at that place
abbrev pub IsRefused : Text → LexRule → ℕ → Type 0
IsRefused bytes rule place = (tokens : List Spelled) × Reads tokens (Broken rule place) (start bytes)

-- the bytes are one list of tokens, or break one rule first at one place
pub record IsSettled (bytes : Text) : Type 0 where
  pub one : (tokens others : List Spelled) → Lexes bytes tokens → Lexes bytes others → tokens ≡ others
  pub one_rule : (rule other : LexRule) (place at : ℕ) → IsRefused bytes rule place → IsRefused bytes other at → (rule ≡ other) × (place ≡ at)
  pub not_both : (tokens : List Spelled) (rule : LexRule) (place : ℕ) → Lexes bytes tokens → IsRefused bytes rule place → ⊥
  pub either : ((tokens : List Spelled) × Lexes bytes tokens) ⊎ ((rule : LexRule) × (place : ℕ) × IsRefused bytes rule place)
