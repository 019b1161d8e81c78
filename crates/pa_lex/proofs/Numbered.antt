-- Tokens by number while names are noted.
use Rattle.std.proofs.Common.{◌≡◌, ℕ, Bool, true, false, cond, List, [], ◌∷◌, ◌++◌, map, slice_get, Some, refl, sym, ◌∙◌, ap, subst, append_assoc, Ok, Err}
use Rattle.std.proofs.lemmas.List.{append-nil, map-append}
use Rattle.std.proofs.lemmas.Option.{get_or_from_slice_get, slice_get_within}
use Rattle.std.proofs.lemmas.List.{get_or_append_left}
use Rattle.std.proofs.lemmas.Map.Keys.{IsDistinct-push}
use Rattle.std.proofs.lemmas.Slice.Eq.{bytes_eq-Decides}
use Rattle.std.specs.Cmp.{IsEquivalence}
use Rattle.std.specs.List.{list_any, IsDistinct}
use Rattle.std.specs.Str.{bytes_eq}
use Rattle.pa_num.specs.declared.fault.Fault.{Fault}
use Rattle.pa_lex.specs.declared.form.Quote.TheVariants.{Single, Double}
use Rattle.pa_lex.specs.declared.token.Kind.{Kind}
use Rattle.pa_lex.specs.declared.token.Kind.TheVariants as k
use Rattle.pa_lex.specs.declared.token.Token.{Token}
use Rattle.pa_lex.specs.declared.token.LexRule.{LexRule}
use Rattle.pa_lex.specs.Texts.{Text}
use Rattle.pa_lex.specs.Forms.{Form, Word, Number, Quoted, Mark, Line, Meaning, Name, Other, Means}
use Rattle.pa_lex.specs.Lexes.{Cursor, start, Spelled}
use Rattle.pa_lex.specs.Numbering.{with_name, noted, numbering, stdint_types, meaning_in, spelled, HasNoNumber, IsNumbered, IsAnswer}
use Rattle.pa_lex.specs.Reading.{TakesToken, Skips}
use Rattle.pa_lex.proofs.Readings.{IsAtToken, read_start, read_skips, read_token, read_end, read_fails}

no_number : (form : Form) (n : ℕ) → Means form (Other (k.Name n)) → ⊥
no_number (Word w) n m = elim m [ ]
no_number (Number b d s) n m = elim m [ ]
no_number (Quoted Single t) n m = elim m [ ]
no_number (Quoted Double t) n m = elim m [ ]
no_number (Mark p) n m = elim m [ ]
no_number (Line i) n m = elim m [ ]

-- what a form means has no number
pub nameless : (form : Form) (meaning : Meaning) → Means form meaning → HasNoNumber meaning
nameless form (Other (k.Name n)) m = no_number form n m
nameless form _ m = tt

-- names only grow
pub record IsGrown (old new : List Text) : Type 0 where
  pub added : List Text
  pub is : new ≡ old ++ added

grown_by : (names : List Text) (text : Text) (b : Bool) → list_any (bytes_eq text) names ≡ b → IsGrown names (with_name names text)
grown_by names text true e = record { added = []; is = ap (λ b. cond b names (names ++ text ∷ [])) e ∙ sym (append-nil names) }
grown_by names text false e = record { added = text ∷ []; is = ap (λ b. cond b names (names ++ text ∷ [])) e }

noted_grows : (names : List Text) (meaning : Meaning) → IsGrown names (noted names meaning)
noted_grows names (Name text) = grown_by names text (list_any (bytes_eq text) names) refl
noted_grows names (Other kind) = record { added = []; is = sym (append-nil names) }

numbering_snoc : (names : List Text) (tokens : List Spelled) (token : Spelled) → numbering names (tokens ++ token ∷ []) ≡ noted (numbering names tokens) token.meaning
numbering_snoc names [] token = refl
numbering_snoc names (t ∷ ts) token = numbering_snoc (noted names t.meaning) ts token

-- a name that is looked up is found whatever names follow
pub name_same : (names : List Text) (number : ℕ) (text : Text) → slice_get names number ≡ Some text → (more : List Text) → meaning_in (names ++ more) (k.Name number) ≡ Name text
name_same names number text e more = ap Name (get_or_append_left names more [] number (slice_get_within names number text e) ∙ get_or_from_slice_get names number text [] e)

pub other_same : (names : List Text) (kind : Kind) → HasNoNumber (Other kind) → meaning_in names kind ≡ Other kind
other_same names (k.Name n) h = elim h [ ]
other_same names _ h = refl

spelled_same : (token : Spelled) (made : Token) (old new more : List Text) → IsNumbered token made old new → spelled (new ++ more) made ≡ token
spelled_same token made old new more n =
    ap (λ x. record { meaning = x; from = made.from; to = made.to }) (n.kind.same more) ∙ ap (λ x. record { meaning = token.meaning; from = x; to = made.to }) n.from ∙ ap (λ x. record { meaning = token.meaning; from = token.from; to = x }) n.to

-- the tokens read so far, by number, and their names
pub record IsNumberedUpTo (bytes : Text) (tokens : List Token) (names : List Text) (reader : Cursor) : Type 0 where
  pub read : List Spelled
  pub stands : IsAtToken bytes read reader
  pub same : (more : List Text) → map (spelled (names ++ more)) tokens ≡ read
  pub numbered : names ≡ numbering stdint_types read

pub begin : (bytes : Text) (tokens : List Token) (names : List Text) (from to : Cursor) → tokens ≡ [] → names ≡ stdint_types → from ≡ start bytes → Skips from to → IsNumberedUpTo bytes tokens names to
begin bytes tokens names from to t n f s = record {
  read = [];
  stands = read_skips bytes [] from to (read_start bytes from f) s;
  same = λ more. ap (map (spelled (names ++ more))) t;
  numbered = n;
}

map_snoc : (names : List Text) (tokens : List Token) (token : Token) (read : List Spelled) (t : Spelled) → map (spelled names) tokens ≡ read → spelled names token ≡ t → map (spelled names) (tokens ++ token ∷ []) ≡ read ++ t ∷ []
map_snoc names tokens token read t r e = map-append (spelled names) tokens (token ∷ []) ∙ ap (λ x. x ++ map (spelled names) (token ∷ [])) r ∙ ap (λ x. read ++ x ∷ []) e

pub go_on : (bytes : Text) (tokens : List Token) (names new : List Text) (reader behind to : Cursor) (token : Spelled) (made : Token) → IsNumberedUpTo bytes tokens names reader → TakesToken reader (Ok token) behind → IsNumbered token made names new
    → Skips behind to → IsNumberedUpTo bytes (tokens ++ made ∷ []) new to
go_on bytes tokens names new reader behind to token made h t n s =
    let grown = noted_grows names token.meaning in
    let longer : (more : List Text) → new ++ more ≡ names ++ (grown.added ++ more) = λ more. ap (λ x. x ++ more) (n.kind.names ∙ grown.is) ∙ append_assoc names grown.added more in
    record {
      read = h.read ++ token ∷ [];
      stands = read_skips bytes (h.read ++ token ∷ []) behind to (read_token bytes h.read token reader behind h.stands t) s;
      same = λ more. map_snoc (new ++ more) tokens made h.read token (ap (λ x. map (spelled x) tokens) (longer more) ∙ h.same (grown.added ++ more)) (spelled_same token made names new more n);
      numbered = n.kind.names ∙ ap (λ x. noted x token.meaning) h.numbered ∙ sym (numbering_snoc stdint_types h.read token);
    }

pub all_read : (bytes : Text) (tokens : List Token) (names : List Text) (reader : Cursor) → IsNumberedUpTo bytes tokens names reader → reader.ahead ≡ [] → IsAnswer bytes (Ok (record { tokens = tokens; names = names }))
all_read bytes tokens names reader h e = record {
  tokens = h.read;
  tokens_are = ap (λ x. map (spelled x) tokens) (sym (append-nil names)) ∙ h.same [];
  lexes = read_end bytes h.read reader h.stands e;
  numbered = h.numbered;
}

pub fails : (bytes : Text) (tokens : List Token) (names : List Text) (reader behind : Cursor) (fault : Fault LexRule) → IsNumberedUpTo bytes tokens names reader → TakesToken reader (Err fault) behind → IsAnswer bytes (Err fault)
fails bytes tokens names reader behind fault h t = read_fails bytes h.read reader behind fault h.stands t

self_equal : (text : Text) → bytes_eq text text ≡ true
self_equal text = (bytes_eq-Decides text text).1 refl

same_text : (text other : Text) → bytes_eq text other ≡ true → text ≡ other
same_text text other e = (bytes_eq-Decides text other).0 e

flip_by : (text other : Text) (a b : Bool) → bytes_eq text other ≡ a → bytes_eq other text ≡ b → a ≡ b
flip_by text other true true e f = refl
flip_by text other false false e f = refl
flip_by text other true false e f = sym (self_equal text) ∙ ap (λ z. bytes_eq z text) (same_text text other e) ∙ f
flip_by text other false true e f = sym e ∙ ap (λ z. bytes_eq z other) (sym (same_text other text f)) ∙ self_equal other

equal_texts : IsEquivalence bytes_eq
equal_texts = record {
  refl = self_equal;
  symm = λ text other. flip_by text other (bytes_eq text other) (bytes_eq other text) refl refl;
  congr = λ text other third e. ap (λ t. bytes_eq t third) (same_text text other e);
}

distinct_by : (names : List Text) (text : Text) (b : Bool) → list_any (bytes_eq text) names ≡ b → IsDistinct bytes_eq names → IsDistinct bytes_eq (with_name names text)
distinct_by names text true e d = subst (IsDistinct bytes_eq) (sym (ap (λ b. cond b names (names ++ text ∷ [])) e)) d
distinct_by names text false e d = subst (IsDistinct bytes_eq) (sym (ap (λ b. cond b names (names ++ text ∷ [])) e)) (IsDistinct-push equal_texts names text d e)

noted_distinct : (names : List Text) (meaning : Meaning) → IsDistinct bytes_eq names → IsDistinct bytes_eq (noted names meaning)
noted_distinct names (Name text) d = distinct_by names text (list_any (bytes_eq text) names) refl d
noted_distinct names (Other kind) d = d

numbering_distinct : (names : List Text) (tokens : List Spelled) → IsDistinct bytes_eq names → IsDistinct bytes_eq (numbering names tokens)
numbering_distinct names [] d = d
numbering_distinct names (t ∷ ts) d = numbering_distinct (noted names t.meaning) ts (noted_distinct names t.meaning d)

first_distinct : IsDistinct bytes_eq stdint_types
unfolding IsDistinct
first_distinct = ((refl, (refl, (refl, (refl, (refl, (refl, (refl, tt))))))), ((refl, (refl, (refl, (refl, (refl, (refl, tt)))))), ((refl, (refl, (refl, (refl, (refl, tt))))), ((refl, (refl, (refl, (refl, tt)))), ((refl, (refl, (refl, tt))), ((refl, (refl, tt)), ((refl, tt), (tt, tt))))))))

pub lexed_distinct : (bytes : Text) (tokens : List Token) (names : List Text) (reader : Cursor) → IsNumberedUpTo bytes tokens names reader → IsDistinct bytes_eq names
lexed_distinct bytes tokens names reader h = subst (IsDistinct bytes_eq) (sym h.numbered) (numbering_distinct stdint_types h.read first_distinct)
