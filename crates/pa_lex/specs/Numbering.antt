-- Names by number, and what `lex` answers.
use Rattle.std.specs.Prelude.{◌≡◌, ℕ, if◌then◌else◌, List, [], ◌∷◌, ◌++◌, map, get_or, Result, Ok, Err, IfOk, codes}
use Rattle.std.specs.List.{list_any}
use Rattle.std.specs.Str.{bytes_eq}
use Rattle.pa_num.specs.declared.fault.Fault.{Fault}
use Rattle.pa_num.specs.declared.fault.Fault.TheVariants.{Refused, Memory}
use Rattle.pa_lex.specs.declared.token.Kind.{Kind}
use Rattle.pa_lex.specs.declared.token.Kind.TheVariants as k
use Rattle.pa_lex.specs.declared.token.Token.{Token}
use Rattle.pa_lex.specs.declared.token.LexRule.{LexRule}
use Rattle.pa_lex.specs.declared.lexer.Lexed.{Lexed}
use Rattle.pa_lex.specs.Texts.{Text}
use Rattle.pa_lex.specs.Forms.{Meaning, Name, Other}
use Rattle.pa_lex.specs.Lexes.{Spelled, Lexes, IsRefused}

-- the types of `<stdint.h>` (C11 7.20.1.1), which are the first names of every file
abbrev pub stdint_types : List Text
stdint_types =
    codes "int8_t" ∷ codes "int16_t" ∷ codes "int32_t" ∷ codes "int64_t"
    ∷ codes "uint8_t" ∷ codes "uint16_t" ∷ codes "uint32_t" ∷ codes "uint64_t" ∷ []

-- their numbers
abbrev pub stdint_numbers : List ℕ
stdint_numbers = 0 ∷ 1 ∷ 2 ∷ 3 ∷ 4 ∷ 5 ∷ 6 ∷ 7 ∷ []

-- a further name, if it is none of these
abbrev pub with_name : List Text → Text → List Text
with_name names text = if list_any (bytes_eq text) names then names else names ++ text ∷ []

abbrev pub meaning_in : List Text → Kind → Meaning
meaning_in names (k.Name number) = Name (get_or names number [])
meaning_in names kind = Other kind

-- a token, with its name looked up
abbrev pub spelled : List Text → Token → Spelled
spelled names token = record { meaning = meaning_in names token.kind; from = token.from; to = token.to }

-- these names and that of a token
abbrev pub noted : List Text → Meaning → List Text
noted names (Name text) = with_name names text
noted names (Other kind) = names

-- these names and those of tokens, in order of first sight
abbrev pub numbering : List Text → List Spelled → List Text
numbering names [] = names
numbering names (token ∷ tokens) = numbering (noted names token.meaning) tokens

-- a meaning has no number of a name
abbrev pub HasNoNumber : Meaning → Type 0
HasNoNumber (Other (k.Name number)) = ⊥
HasNoNumber meaning = Unit {0}

-- a kind stands for a meaning, whose name is noted, and does so whatever names follow
pub record IsNumberedKind (meaning : Meaning) (kind : Kind) (old new : List Text) : Type 0 where
  pub names : new ≡ noted old meaning
  pub same : (more : List Text) → meaning_in (new ++ more) kind ≡ meaning

-- so does a token
pub record IsNumbered (token : Spelled) (made : Token) (old new : List Text) : Type 0 where
  pub kind : IsNumberedKind token.meaning made.kind old new
  pub from : made.from ≡ token.from
  pub to : made.to ≡ token.to

-- what is made of a meaning, and of a token, where memory suffices
abbrev pub NumbersKind : {E : Type 0} → Meaning → Result Kind E → List Text → List Text → Type 0
NumbersKind meaning r old new = IfOk r (λ kind. IsNumberedKind meaning kind old new)

abbrev pub NumbersToken : {E : Type 0} → Spelled → Result Token E → List Text → List Text → Type 0
NumbersToken token r old new = IfOk r (λ made. IsNumbered token made old new)

-- the bytes are these tokens, by the names of these numbers
pub record IsLexed (bytes : Text) (lexed : Lexed) : Type 0 where
  pub tokens : List Spelled
  pub tokens_are : map (spelled lexed.names) lexed.tokens ≡ tokens
  pub lexes : Lexes bytes tokens
  pub numbered : lexed.names ≡ numbering stdint_types tokens

-- what `lex` answers
abbrev pub IsAnswer : Text → Result Lexed (Fault LexRule) → Type 0
IsAnswer bytes (Ok lexed) = IsLexed bytes lexed
IsAnswer bytes (Err (Refused rule place)) = IsRefused bytes rule place
IsAnswer bytes (Err Memory) = Unit {0}
