-- Specifiers depend on the readers of expressions in their own depth, where one has room, and on those below, where a body has.
use Rattle.std.proofs.Common.{◌≡◌, ◌≤◌, ◌-◌, ℕ, zero, suc, List, [], ◌∷◌, ◌++◌, length, Option, Some, None, Bool, true, false, ◌&&◌, cond, if◌then◌else◌, Ok, Err, nat_le, refl, ◌∙◌, ap, arith}
use Rattle.std.proofs.lemmas.Bool.{leb-true}
use Rattle.pa_lex.specs.declared.token.Kind.{Kind}
use Rattle.pa_lex.specs.declared.token.Kind.TheVariants as kind
use Rattle.pa_lex.specs.declared.token.Keyword.{Keyword}
use Rattle.pa_lex.specs.declared.token.Keyword.TheVariants as w
use Rattle.pa_lex.specs.declared.token.Token.{Token}
use Rattle.pa_lex.specs.declared.token.Punct.TheVariants as p
use Rattle.pa_tree.specs.declared.expr.Tag.{Tag}
use Rattle.pa_tree.specs.declared.operator.IntegerWord.{IntegerWord}
use Rattle.pa_tree.specs.Cursors.{Cursor, head, from_of}
use Rattle.pa_tree.specs.Exprs.{ExprTree, BaseTree, QualifierTree, EnumeratorTree, SpecsTree, OfSpecs, StructTag, EnumTag}
use Rattle.pa_tree.specs.Operators.{word_in}
use Rattle.pa_tree.specs.Views.{qualifiers_of}
use Rattle.pa_grammar.specs.declared.rule.SynRule.TheVariants.{S2}
use Rattle.pa_grammar.specs.Parser.{Parser, Outcome, Stop, and_then, ◌>>=◌, ◌>>◌, pure, refuse, look, after, ended, needs, sees, Next, Done, More, goes, loop, iterate, item_step, many}
use Rattle.pa_grammar.specs.Reading as reading
use Rattle.pa_grammar.specs.Reading.{Parsers, parsers, no_parsers, begins_qualifier, not_brace, conds, qualifier, qualifiers, member, enumerator, enumerator_step, base, specs_level, expr_level, opened_level}
use Rattle.pa_grammar.specs.Tokens.{is_word}

-- both give the same everywhere
pub record Same {A : Type 0} (q r : Parser A) : Type 0 where
  pub holds : (c : Cursor) → q c ≡ r c

itself : {A : Type 0} {q : Parser A} → Same q q
itself = record { holds = λ c. refl }

bind_at : {A B : Type 0} (o : Outcome A) (f g : A → Parser B) → ((a : A) → Same (f a) (g a)) → and_then o f ≡ and_then o g
bind_at (Ok a) f g h = (h a.0).holds a.1
bind_at (Err s) f g h = refl

same_bind : {A B : Type 0} {q r : Parser A} {f g : A → Parser B} → Same q r → ((a : A) → Same (f a) (g a)) → Same (q >>= f) (r >>= g)
same_bind {q = q} {r = r} {f = f} {g = g} e h = record { holds = λ c. ap (λ o. and_then o f) (e.holds c) ∙ bind_at (r c) f g h }

same_then : {A B : Type 0} {q r : Parser A} {f g : Parser B} → Same q r → Same f g → Same (q >> f) (r >> g)
same_then e h = same_bind e (λ _. h)

same_look : {A : Type 0} {f g : Option Token → Parser A} → ((h : Option Token) → Same (f h) (g h)) → Same (look f) (look g)
same_look e = record { holds = λ c. (e (head c.ahead)).holds c }

same_if : {A : Type 0} (b : Bool) {q r f g : Parser A} → Same q r → Same f g → Same (cond b q f) (cond b r g)
same_if true e h = e
same_if false e h = h

abbrev step : Bool → Parser (Unit {0})
step b = if b then pure tt else refuse S2

room : {A : Type 0} (b : Bool) (f g : Parser A) → (b ≡ true → Same f g) → Same (step b >> f) (step b >> g)
room true f g h = record { holds = λ c. (h refl).holds c }
room false f g h = record { holds = λ c. refl }

same_needs : {A : Type 0} (n d : ℕ) {f g : Parser A} → (n ≤ d → Same f g) → Same (needs n d >> f) (needs n d >> g)
same_needs n d {f = f} {g = g} h = room (nat_le n d) f g (λ e. h (leb-true n d e))

goes_at : {S A : Type 0} (f g : S → Parser A) (o : Outcome (Next S A)) → ((s : S) → Same (f s) (g s)) → and_then o (goes f) ≡ and_then o (goes g)
goes_at f g (Ok (Done a, c)) h = refl
goes_at f g (Ok (More s, c)) h = (h s).holds c
goes_at f g (Err s) h = refl

module _ {S A : Type 0} (f g : S → Parser (Next S A)) (same : (s : S) → Same (f s) (g s)) where
  loop_at : (n : ℕ) (s : S) (c : Cursor) → loop f n s c ≡ loop g n s c
  unfolding loop
  loop_at zero s c = rw ((same s).holds c) refl
  loop_at (suc n) s c = ap (λ o. and_then o (goes (loop f n))) ((same s).holds c) ∙ goes_at (loop f n) (loop g n) (g s c) (λ t. record { holds = loop_at n t })

  same_iterate : (s : S) → Same (iterate f s) (iterate g s)
  unfolding iterate
  same_iterate s = record { holds = λ c. loop_at (length c.ahead) s c }

same_item : {A : Type 0} (more : Option Token → Bool) (f g : Parser A) → Same f g → (all : List A) → Same (item_step more f all) (item_step more g all)
same_item more f g e all = same_look (λ h. same_if (more h) {q = f >>= (λ x. pure (More (all ++ x ∷ [])))} {r = g >>= (λ x. pure (More (all ++ x ∷ [])))} {f = pure (Done all)} {g = pure (Done all)} (same_bind {q = f} {r = g} {f = λ x. pure (More (all ++ x ∷ []))} {g = λ x. pure (More (all ++ x ∷ []))} e (λ x. itself)) itself)

same_many : {A : Type 0} (more : Option Token → Bool) {f g : Parser A} → Same f g → (all : List A) → Same (many more f all) (many more g all)
same_many more {f = f} {g = g} e all = same_iterate (item_step more f) (item_step more g) (same_item more f g e) all

module _ (names : List ℕ) (d : ℕ) (h₁ b₁ h₂ b₂ : Parsers) where
  module _ (same : (level : ℕ) → Same (h₁.expr level) (h₂.expr level)) where
    same_conds_at : (q r : Parser (List ExprTree)) → Same q r → (h : Option Token) → Same (reading.conds_at names d h₁ q h) (reading.conds_at names d h₂ r h)
    same_conds_at q r e h = same_if (sees p.Comma h) (same_then itself (same_bind (same 2) (λ x. same_bind e (λ es. itself)))) itself

    same_conds : (n : ℕ) → Same (conds names d h₁ n) (conds names d h₂ n)
    unfolding conds
    same_conds zero = itself
    same_conds (suc n) = same_look (same_conds_at (conds names d h₁ n) (conds names d h₂ n) (same_conds n))

    same_ptrauth : (from : ℕ) → Same (reading.ptrauth names d h₁ b₁ from) (reading.ptrauth names d h₂ b₂ from)
    same_ptrauth from = same_then itself (same_bind (same 2) (λ e. same_bind (same_conds 2) (λ es. itself)))

  module _ (same : 1 ≤ d → (level : ℕ) → Same (h₁.expr level) (h₂.expr level)) where
    same_qualifier_at : (h : Option Token) → Same (reading.qualifier_at names d h₁ b₁ h) (reading.qualifier_at names d h₂ b₂ h)
    same_qualifier_at None = itself
    same_qualifier_at (Some t) = same_if (is_word w.Const t.kind) itself (same_needs 1 d (λ k. same_then {A = Unit {0}} {q = after t} {r = after t} itself (same_ptrauth (same k) t.from)))

    same_qualifiers : Same (qualifiers names d h₁ b₁) (qualifiers names d h₂ b₂)
    unfolding qualifiers
    same_qualifiers = same_many begins_qualifier {f = qualifier names d h₁ b₁} {g = qualifier names d h₂ b₂} (same_look same_qualifier_at) []

  module _ (same : 2 ≤ d → b₁ ≡ b₂) where
    same_member : b₁ ≡ b₂ → Same (member names d h₁ b₁) (member names d h₂ b₂)
    unfolding member
    same_member e = record { holds = λ c. rw e refl }

    same_struct : (from : ℕ) (tag : Option Tag) → Same (reading.struct_body names d h₁ b₁ from tag) (reading.struct_body names d h₂ b₂ from tag)
    same_struct from tag = same_needs 2 d (λ k. same_then itself (same_bind (same_member (same k)) (λ m. same_bind (same_many not_brace (same_member (same k)) (m ∷ [])) (λ ms. itself))))

    same_enumerator : b₁ ≡ b₂ → Same (enumerator names d h₁ b₁) (enumerator names d h₂ b₂)
    unfolding enumerator
    same_enumerator e = record { holds = λ c. rw e refl }

    same_step : b₁ ≡ b₂ → (all : List EnumeratorTree) → Same (enumerator_step names d h₁ b₁ all) (enumerator_step names d h₂ b₂ all)
    unfolding enumerator
    same_step e all = record { holds = λ c. rw e refl }

    same_enum : (from : ℕ) (tag : Option Tag) → Same (reading.enum_body names d h₁ b₁ from tag) (reading.enum_body names d h₂ b₂ from tag)
    same_enum from tag = same_needs 2 d (λ k. same_then itself (same_bind (same_enumerator (same k)) (λ x. same_bind (same_iterate (enumerator_step names d h₁ b₁) (enumerator_step names d h₂ b₂) (same_step (same k)) (x ∷ [])) (λ xs. itself))))

    module _ (bodies : Bool) (f g : Option Tag → Parser BaseTree) (alone : Tag → ℕ → BaseTree) (e : (tag : Option Tag) → Same (f tag) (g tag)) where
      same_tagged : (tag : Tag) (h : Option Token) → Same (reading.tagged_at names d h₁ b₁ bodies f alone tag h) (reading.tagged_at names d h₂ b₂ bodies g alone tag h)
      same_tagged tag h = same_if (bodies && sees p.LeftBrace h) (e (Some tag)) itself

      same_struct_at : (h : Option Token) → Same (reading.struct_at names d h₁ b₁ bodies f alone h) (reading.struct_at names d h₂ b₂ bodies g alone h)
      same_struct_at h = same_if (bodies && sees p.LeftBrace h) (e None) (same_bind itself (λ tag. same_look (same_tagged tag)))

    same_words : (t : Token) (o : Option IntegerWord) → Same (reading.words_at names d h₁ b₁ t o) (reading.words_at names d h₂ b₂ t o)
    same_words t None = itself
    same_words t (Some x) = itself

    same_word : (bodies : Bool) (t : Token) (x : Keyword) → Same (reading.base_word names d h₁ b₁ bodies t x) (reading.base_word names d h₂ b₂ bodies t x)
    same_word bodies t w.Void = itself
    same_word bodies t w.Bool = itself
    same_word bodies t w.Struct = same_then {A = Unit {0}} {q = after t} {r = after t} itself (same_look (same_struct_at bodies (reading.struct_body names d h₁ b₁ t.from) (reading.struct_body names d h₂ b₂ t.from) (λ tag z. StructTag tag t.from z) (same_struct t.from)))
    same_word bodies t w.Enum = same_then {A = Unit {0}} {q = after t} {r = after t} itself (same_look (same_struct_at bodies (reading.enum_body names d h₁ b₁ t.from) (reading.enum_body names d h₂ b₂ t.from) (λ tag z. EnumTag tag t.from z) (same_enum t.from)))
    same_word bodies t x = same_words t (word_in x)

    same_base_by : (bodies : Bool) (t : Token) (k : Kind) → Same (reading.base_by names d h₁ b₁ bodies t k) (reading.base_by names d h₂ b₂ bodies t k)
    same_base_by bodies t (kind.Name n) = itself
    same_base_by bodies t (kind.Keyword x) = same_word bodies t x
    same_base_by bodies t _ = itself

    same_base_at : (bodies : Bool) (h : Option Token) → Same (reading.base_at names d h₁ b₁ bodies h) (reading.base_at names d h₂ b₂ bodies h)
    same_base_at bodies None = itself
    same_base_at bodies (Some t) = same_base_by bodies t t.kind

    same_base : (bodies : Bool) → Same (base names d h₁ b₁ bodies) (base names d h₂ b₂ bodies)
    unfolding base
    same_base bodies = same_look (same_base_at bodies)

module _ (names : List ℕ) (d : ℕ) (bodies : Bool) where
  abbrev whole_behind : Option Token → List QualifierTree → BaseTree → List QualifierTree → Parser SpecsTree
  whole_behind h b x a = ended >>= (λ z. pure (OfSpecs (qualifiers_of b) x (qualifiers_of a) (from_of h) z))

  abbrev whole_from : Option Token → Parser SpecsTree
  whole_from h = qualifiers names d (parsers names d) (parsers names d) >>= (λ b. base names d (parsers names d) (parsers names (d - 1)) bodies >>= (λ x. qualifiers names d (parsers names d) (parsers names d) >>= whole_behind h b x))

  abbrev pub whole : Parser SpecsTree
  whole = look whole_from

  same_specs : (here below : Parsers) → (1 ≤ d → (level : ℕ) → Same (here.expr level) ((parsers names d).expr level)) → (2 ≤ d → below ≡ parsers names (d - 1)) → Same (specs_level names d here below bodies) whole
  unfolding specs_level
  same_specs here below e k = same_look (λ h. same_bind (same_qualifiers names d here below (parsers names d) (parsers names d) e) (λ b. same_bind (same_base names d here below (parsers names d) (parsers names (d - 1)) k bodies) (λ x. same_bind {f = whole_behind h b x} {g = whole_behind h b x} (same_qualifiers names d here below (parsers names d) (parsers names d) e) (λ a. itself))))

pub specs_whole : (names : List ℕ) (d : ℕ) (bodies : Bool) (c : Cursor) → (parsers names d).specs bodies c ≡ whole names d bodies c
unfolding parsers
specs_whole names zero bodies c = (same_specs names 0 bodies (no_parsers names) (no_parsers names) (λ k. absurd (omega arith)) (λ k. absurd (omega arith))).holds c
specs_whole names (suc n) bodies c = (same_specs names (suc n) bodies (record { expr = expr_level names n (parsers names n); opened = opened_level names n (parsers names n); specs = λ bodies. refuse S2; declarator = λ name. refuse S2 }) (parsers names n) (λ _ level. itself) (λ _. ap (parsers names) (omega arith))).holds c

module _ (names : List ℕ) (d : ℕ) (bodies : Bool) (c : Cursor) where
  pub specs_read : (b a : List QualifierTree) (x : BaseTree) (m n e : Cursor) → qualifiers names d (parsers names d) (parsers names d) c ≡ Ok (b, m) → base names d (parsers names d) (parsers names (d - 1)) bodies m ≡ Ok (x, n)
      → qualifiers names d (parsers names d) (parsers names d) n ≡ Ok (a, e) → (parsers names d).specs bodies c ≡ Ok (OfSpecs (qualifiers_of b) x (qualifiers_of a) (from_of (head c.ahead)) e.ended, e)
  specs_read b a x m n e f g h = specs_whole names d bodies c ∙ rw f (rw g (rw h refl))

  pub no_qualifiers_before : (s : Stop) → qualifiers names d (parsers names d) (parsers names d) c ≡ Err s → (parsers names d).specs bodies c ≡ Err s
  no_qualifiers_before s f = specs_whole names d bodies c ∙ rw f refl

  pub no_base : (b : List QualifierTree) (m : Cursor) (s : Stop) → qualifiers names d (parsers names d) (parsers names d) c ≡ Ok (b, m) → base names d (parsers names d) (parsers names (d - 1)) bodies m ≡ Err s → (parsers names d).specs bodies c ≡ Err s
  no_base b m s f g = specs_whole names d bodies c ∙ rw f (rw g refl)

  pub no_qualifiers_after : (b : List QualifierTree) (x : BaseTree) (m n : Cursor) (s : Stop) → qualifiers names d (parsers names d) (parsers names d) c ≡ Ok (b, m) → base names d (parsers names d) (parsers names (d - 1)) bodies m ≡ Ok (x, n)
      → qualifiers names d (parsers names d) (parsers names d) n ≡ Err s → (parsers names d).specs bodies c ≡ Err s
  no_qualifiers_after b x m n s f g h = specs_whole names d bodies c ∙ rw f (rw g (rw h refl))
