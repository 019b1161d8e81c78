-- Places between the tokens of a file, and what stands from one to another.
use Rattle.std.specs.Prelude.{◌≡◌, ℕ, List, [], ◌∷◌, Option, Some, None}
use Rattle.pa_lex.specs.declared.token.Kind.{Kind}
use Rattle.pa_lex.specs.declared.token.Kind.TheVariants as kind
use Rattle.pa_lex.specs.declared.token.Keyword.{Keyword}
use Rattle.pa_lex.specs.declared.token.Punct.{Punct}
use Rattle.pa_lex.specs.declared.token.Token.{Token}

-- where the token before this place ends in the file, and the tokens ahead
pub record Cursor : Type 0 where
  pub ended : ℕ
  pub ahead : List Token

abbrev pub start : List Token → Cursor
start tokens = record { ended = 0; ahead = tokens }

-- the next token
abbrev pub head : List Token → Option Token
head [] = None
head (t ∷ ts) = Some t

abbrev pub from_of : Option Token → ℕ
from_of None = 0
from_of (Some t) = t.from

-- where the next token begins in the file
abbrev pub begin : Cursor → ℕ
begin c = from_of (head c.ahead)

abbrev pub place_by : ℕ → Option Token → ℕ
place_by ended None = ended
place_by ended (Some t) = t.from

-- where the next token begins in the file, or the last one ends
abbrev pub place : Cursor → ℕ
place c = place_by c.ended (head c.ahead)

-- a token of this kind and with these ends stands between
pub record Takes (kind : Kind) (from to : ℕ) (c d : Cursor) : Type 0 where
  pub ahead : c.ahead ≡ record { kind = kind; from = from; to = to } ∷ d.ahead
  pub ended : d.ended ≡ to

-- a token of this kind stands between
pub record Shifts (kind : Kind) (c d : Cursor) : Type 0 where
  pub from : ℕ
  pub to : ℕ
  pub takes : Takes kind from to c d

-- from and to are the ends of what stands between
pub record Lies (from to : ℕ) (c d : Cursor) : Type 0 where
  pub from_is : from ≡ begin c
  pub to_is : to ≡ d.ended

-- nothing stands between, and from and to are where the token before ends
pub record Nothing (from to : ℕ) (c d : Cursor) : Type 0 where
  pub same : c ≡ d
  pub from_is : from ≡ c.ended
  pub to_is : to ≡ c.ended

abbrev pub Mark : Punct → Cursor → Cursor → Type 0
Mark p = Shifts (kind.Punct p)

abbrev pub Word : Keyword → Cursor → Cursor → Type 0
Word w = Shifts (kind.Keyword w)
