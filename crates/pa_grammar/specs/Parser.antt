-- What reads tokens from a place on, and what it gives there.
use Rattle.std.specs.Prelude.{ℕ, zero, suc, Bool, false, nat_le, List, [], ◌∷◌, ◌++◌, length, Option, Some, None, Result, Ok, Err, if◌then◌else◌}
use Rattle.pa_lex.specs.declared.token.Punct.{Punct}
use Rattle.pa_lex.specs.declared.token.Punct.TheVariants as p
use Rattle.pa_lex.specs.declared.token.Token.{Token}
use Rattle.pa_grammar.specs.declared.rule.SynRule.{SynRule}
use Rattle.pa_grammar.specs.declared.rule.SynRule.TheVariants.{S1, S2}
use Rattle.pa_grammar.specs.declared.rule.ParseError.{ParseError}
use Rattle.pa_grammar.specs.declared.rule.ParseError.TheVariants.{Broken}
use Rattle.pa_tree.specs.Cursors.{Cursor, head}
use Rattle.pa_grammar.specs.Tokens.{is_mark}

-- a refusal: the rule, and where
pub record Stop : Type 0 where
  pub rule : ParseError
  pub at : Cursor

abbrev pub Outcome : Type 0 → Type 0
Outcome A = Result (A × Cursor) Stop

abbrev pub Parser : Type 0 → Type 0
Parser A = Cursor → Outcome A

abbrev pub and_then : {A B : Type 0} → Outcome A → (A → Parser B) → Outcome B
and_then (Ok p) f = f p.0 p.1
and_then (Err e) f = Err e

infixr 10 ◌>>=◌
abbrev pub ◌>>=◌ : {A B : Type 0} → Parser A → (A → Parser B) → Parser B
p >>= f = λ c. and_then (p c) f

infixr 10 ◌>>◌
abbrev pub ◌>>◌ : {A B : Type 0} → Parser A → Parser B → Parser B
p >> q = p >>= (λ _. q)

abbrev pub pure : {A : Type 0} → A → Parser A
pure a = λ c. Ok (a, c)

abbrev pub refuse : {A : Type 0} → SynRule → Parser A
refuse rule = λ c. Err (record { rule = Broken rule; at = c })

-- goes on as the next token says
abbrev pub look : {A : Type 0} → (Option Token → Parser A) → Parser A
look f = λ c. f (head c.ahead) c

abbrev pub rest : List Token → List Token
rest [] = []
rest (t ∷ ts) = ts

-- behind this token, which is the next one
abbrev pub after : Token → Parser (Unit {0})
after t = λ c. Ok (tt, record { ended = t.to; ahead = rest c.ahead })

-- the end of the last token
abbrev pub ended : Parser ℕ
ended = λ c. Ok (c.ended, c)

-- no more than so many levels
abbrev pub needs : ℕ → ℕ → Parser (Unit {0})
needs n d = if nat_le n d then pure tt else refuse S2

-- the next token is this punctuator
abbrev pub sees : Punct → Option Token → Bool
sees x None = false
sees x (Some t) = is_mark x t.kind

abbrev pub mark_at : Punct → Option Token → Parser (Unit {0})
mark_at x None = refuse S1
mark_at x (Some t) = if is_mark x t.kind then after t else refuse S1

-- takes this punctuator
abbrev pub mark : Punct → Parser (Unit {0})
mark x = look (mark_at x)

-- what a step gives: the answer, or the state to go on with
pub data Next (S A : Type 0) : Type 0 where
  Done : A → Next S A
  More : S → Next S A

abbrev pub goes : {S A : Type 0} → (S → Parser A) → Next S A → Parser A
goes f (Done a) = pure a
goes f (More s) = f s

unfoldable pub loop : {S A : Type 0} → (S → Parser (Next S A)) → ℕ → S → Parser A
loop step zero s = step s >>= goes (λ _. refuse S2)
loop step (suc n) s = step s >>= goes (loop step n)

-- A step again and again. A step that goes on takes a token, so there are turns enough.
unfoldable pub iterate : {S A : Type 0} → (S → Parser (Next S A)) → S → Parser A
iterate step s = λ c. loop step (length c.ahead) s c

-- one more item where the next token passes the test
abbrev pub item_at : {A : Type 0} → (Option Token → Bool) → Parser A → List A → Option Token → Parser (Next (List A) (List A))
item_at more item items h = if more h then (item >>= (λ x. pure (More (items ++ x ∷ [])))) else pure (Done items)

abbrev pub item_step : {A : Type 0} → (Option Token → Bool) → Parser A → List A → Parser (Next (List A) (List A))
item_step more item items = look (item_at more item items)

-- items as long as the next token passes the test
abbrev pub many : {A : Type 0} → (Option Token → Bool) → Parser A → List A → Parser (List A)
many more item = iterate (item_step more item)

-- items with commas between
abbrev pub commas : {A : Type 0} → Parser A → Parser (List A)
commas item = item >>= (λ x. many (sees p.Comma) (mark p.Comma >> item) (x ∷ []))
