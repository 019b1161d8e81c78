-- What is read of specifiers and declarators is in the grammar.
use Rattle.std.proofs.Common.{◌≡◌, ◌≤◌, ℕ, zero, suc, List, [], ◌∷◌, ◌++◌, Option, Some, None, Bool, true, false, not, ◌&&◌, ◌||◌, cond, refl, sym, ◌∙◌, ap, arith, append_assoc, append-nil, inl, inr}
use Rattle.pa_lex.specs.declared.token.Kind.{Kind}
use Rattle.pa_lex.specs.declared.token.Kind.TheVariants as kind
use Rattle.pa_lex.specs.declared.token.Keyword.{Keyword}
use Rattle.pa_lex.specs.declared.token.Keyword.TheVariants as w
use Rattle.pa_lex.specs.declared.token.Punct.TheVariants as p
use Rattle.pa_lex.specs.declared.token.Token.{Token}
use Rattle.pa_tree.specs.declared.expr.Tag.{Tag}
use Rattle.pa_tree.specs.declared.operator.IntegerWord.{IntegerWord}
use Rattle.pa_tree.specs.declared.operator.IntegerWord.TheVariants as word
use Rattle.pa_grammar.specs.declared.rule.SynRule.TheVariants.{S2}
use Rattle.pa_grammar.specs.declared.rule.Naming.{Naming}
use Rattle.pa_grammar.specs.declared.rule.Naming.TheVariants as naming
use Rattle.pa_tree.specs.Cursors.{Cursor, head, begin, from_of, Takes, Mark, Word}
use Rattle.pa_tree.specs.Exprs.{ExprTree, OfSpecs, QualifierTree, Const, BaseTree, Void, Boolean, Words, TypedefName, StructTag, EnumTag, EnumeratorTree, DeclaratorTree, Named, Absent, Pointer, Grouped, Array, Function, ParametersTree, OnlyVoid, Listed, ParameterTree, OfParameter, NoQualifiers, ParameterTrees, NoParameters, ConsParameter, MaybeExprTree, SomeExpr}
use Rattle.pa_tree.specs.Heights.{exprs_height, maybe_expr_height, qualifiers_height, base_height, declarator_height, parameters_height, parameter_list_height}
use Rattle.pa_tree.specs.Operators.{word_of, word_in, are_integer_type}
use Rattle.pa_tree.specs.Spells.{is_type, has_name, is_absent, is_only_void, expr_count, CommaExprs, QualifiersSpell, BaseSpells, DeclaratorSpells, ParametersSpell, WordsSpell, LastComma, MaybeTagSpells, EnumeratorValue, LengthSpells, ParameterListSpells, TagSpells}
use Rattle.pa_tree.specs.Views.{exprs_of, qualifiers_of, parameters_of}
use Rattle.pa_tree.proofs.Operators.{word_of_in}
use Rattle.pa_grammar.specs.Tokens.{is_mark, is_word}
use Rattle.pa_grammar.specs.Parser.{Parser, ◌>>=◌, pure, refuse, look, ended, sees, More, iterate}
use Rattle.pa_grammar.specs.Reading as reading
use Rattle.pa_grammar.specs.Reading.{Parsers, text_step, text_at, text_by, word_step, word_at, word_by, integer_word, next, next_at, next_by, plain_name, name_at, name_by, type_name, type_name_from, conds, conds_at, gone, going, turn, last, climb, operand, operand_at, operand_by, level_from, expr_level, opened_level}
use Rattle.pa_grammar.proofs.Tokens.{is_mark-true, is_word-true}
use Rattle.pa_grammar.proofs.Meets.{Meets, meets_bind, meets_then, meets_refuse, meets_look, meets_if, meets_weaken}
use Rattle.pa_grammar.proofs.Eats.{meets_needs}
use Rattle.pa_grammar.proofs.Iterated.{After, meets_iterate}
use Rattle.pa_grammar.proofs.Chains.{Behind, Added, meets_after, shifts, meets_mark, meets_many, meets_many_where, meets_commas, nothing_added, one_added}
use Rattle.pa_grammar.proofs.Sound.{Fits, IsDeclarator, IsSpecs, AreSound, meets_name, meets_expr, meets_opened, and_left, and_right}
use Rattle.pa_grammar.proofs.Lists.{IsExpr, IsQualifier, IsMember, IsEnumerator, IsNamed, IsParameter, qualifiers_spell, members_spell, comma_enumerators, comma_declarators, comma_parameters}

-- words of an integer type behind some
record Worded (before : List IntegerWord) (c : Cursor) (all : List IntegerWord) (d : Cursor) : Type 0 where
  words : List IntegerWord
  all_is : all ≡ before ++ words
  lawful : are_integer_type all ≡ true
  spells : WordsSpell words c d

words_snoc : (xs : List IntegerWord) (x : IntegerWord) (c m d : Cursor) → WordsSpell xs c m → Word (word_of x) m d → WordsSpell (xs ++ x ∷ []) c d
words_snoc [] x c m d h s = (d, rw h s, refl)
words_snoc (y ∷ ys) x c m d (n, k, h) s = (n, k, words_snoc ys x n m d h s)

word_added : (before : List IntegerWord) (c : Cursor) (all : List IntegerWord) (x : IntegerWord) (m d : Cursor) → Worded before c all m → are_integer_type (all ++ x ∷ []) ≡ true → Word (word_of x) m d → Worded before c (all ++ x ∷ []) d
word_added before c all x m d h l s = record {
  words = h.words ++ x ∷ [];
  all_is = ap (λ y. y ++ x ∷ []) h.all_is ∙ append_assoc before h.words (x ∷ []);
  lawful = l;
  spells = words_snoc h.words x c m d h.spells s;
}

word_case : (before : List IntegerWord) (c : Cursor) (all : List IntegerWord) (m : Cursor) (t : Token) (k : Keyword) (o : Option IntegerWord) → Worded before c all m → t.kind ≡ kind.Keyword k → word_in k ≡ o → Some t ≡ head m.ahead
    → Meets (integer_word all t o) m (After word_step (Worded before c) (Worded before c))
word_case before c all m t k None i q y e = record { holds = i }
word_case before c all m t k (Some x) i q y e = meets_if (are_integer_type (all ++ x ∷ []))
    (λ l. meets_then {q = pure (More (all ++ x ∷ []))} (meets_after t m e) (λ _ d h. record { holds = word_added before c all x m d i l (shifts (rw (q ∙ ap kind.Keyword (word_of_in k x y)) at h)) }))
    (λ l. record { holds = i })

word_kind : (before : List IntegerWord) (c : Cursor) (all : List IntegerWord) (m : Cursor) (t : Token) (k : Kind) → Worded before c all m → t.kind ≡ k → Some t ≡ head m.ahead → Meets (word_by all t k) m (After word_step (Worded before c) (Worded before c))
word_kind before c all m t (kind.Keyword k) i q e = word_case before c all m t k (word_in k) i q refl e
word_kind before c all m t _ i q e = record { holds = i }

word_head : (before : List IntegerWord) (c : Cursor) (all : List IntegerWord) (m : Cursor) (h : Option Token) → Worded before c all m → h ≡ head m.ahead → Meets (word_at all h) m (After word_step (Worded before c) (Worded before c))
word_head before c all m None i e = record { holds = i }
word_head before c all m (Some t) i e = word_kind before c all m t t.kind i refl e

word_turn : (before : List IntegerWord) (c : Cursor) (all : List IntegerWord) (m : Cursor) → Worded before c all m → Meets (word_step all) m (After word_step (Worded before c) (Worded before c))
word_turn before c all m i = meets_look (λ h e. word_head before c all m h i e)

meets_words : (before : List IntegerWord) (c : Cursor) → are_integer_type before ≡ true → Meets (iterate word_step before) c (Worded before c)
meets_words before c l = meets_iterate word_step (Worded before c) (Worded before c) (word_turn before c) before c (record { words = []; all_is = sym (append-nil before); lawful = l; spells = refl })

or_right : (x y : Bool) → (x || y) ≡ false → y ≡ false
or_right true y e = cc
or_right false y e = e

not_true : (x : Bool) → not x ≡ true → x ≡ false
not_true true e = cc
not_true false e = refl

-- one word alone is an integer type
one_word : (x : IntegerWord) → are_integer_type (x ∷ []) ≡ true
one_word word.Char = refl
one_word word.Short = refl
one_word word.Int = refl
one_word word.Long = refl
one_word word.Signed = refl
one_word word.Unsigned = refl

qualifier_word : (k : Kind) → reading.begins_qualifier_by k ≡ true → is_word w.Const k ≡ false → k ≡ kind.Keyword w.Ptrauth
qualifier_word k e n = is_word-true w.Ptrauth k (rw n at e)

module _ (names : List ℕ) where
  module _ (d : ℕ) (here below : Parsers) (gh : (level : ℕ) (c : Cursor) → level ≤ 14 → Meets (here.expr level) c (λ t e. IsExpr names d level t c e)) where
    -- no more than so many further expressions
    record Further (n : ℕ) (c : Cursor) (xs : List ExprTree) (e : Cursor) : Type 0 where
      spells : CommaExprs names 2 (exprs_of xs) c e
      fits : exprs_height (exprs_of xs) ≤ d
      few : expr_count (exprs_of xs) ≤ n

    conds_head : (n : ℕ) (more : Parser (List ExprTree)) (c : Cursor) (h : Option Token) → ((m : Cursor) → Meets more m (Further n m)) → Meets (conds_at names d here more h) c (Further (suc n) c)
    conds_head n more c h g = meets_if (sees p.Comma h)
        (λ _. meets_then (meets_mark p.Comma c) (λ _ m k. meets_bind (gh 2 m (omega arith)) (λ x o (a, b). meets_bind (g o) (λ xs e r. record {
          holds =
              record { spells = (m, o, k, a, r.spells); fits = (let f = r.fits in omega (arith, b, f)); few = (let f = r.few in omega (arith, f)) };
        }))))
        (λ _. record { holds = record { spells = refl; fits = omega arith; few = omega arith } })

    meets_conds : (n : ℕ) (c : Cursor) → Meets (conds names d here n) c (Further n c)
    unfolding conds
    meets_conds zero c = record { holds = record { spells = refl; fits = omega arith; few = omega arith } }
    meets_conds (suc n) c = meets_look (λ h _. conds_head n (conds names d here n) c h (meets_conds n))

    ptrauth_of : (s c : Cursor) → Word w.Ptrauth s c → Meets (reading.ptrauth names d here below (begin s)) c (λ q e. IsQualifier names d q s e)
    ptrauth_of s c k = meets_then (meets_mark p.LeftParenthesis c) (λ _ m o. meets_bind (gh 2 m (omega arith)) (λ x n (a, b). meets_bind (meets_conds 2 n) (λ xs i r. meets_then (meets_mark p.RightParenthesis i) (λ _ e z. record {
      holds =
          ((c, m, i, k, o, (n, r.few, a, r.spells), z, record { from_is = refl; to_is = refl }), (let f = r.fits in omega (arith, b, f)));
    }))))

    qualifier_kind : (t : Token) (k : Kind) (c : Cursor) → reading.begins_qualifier_by k ≡ true → t.kind ≡ k → Some t ≡ head c.ahead → Meets (reading.qualifier_by names d here below t k) c (λ q e. IsQualifier names d q c e)
    qualifier_kind t k c y q e = meets_if (is_word w.Const k)
        (λ x. meets_then {q = pure (Const t.from t.to)} (meets_after t c e) (λ _ m h. record { holds = (rw (q ∙ is_word-true w.Const k x) at h, omega arith) }))
        (λ x. meets_needs 1 d (λ _. meets_then {q = reading.ptrauth names d here below t.from} (meets_after t c e) (λ _ m h. rw (ap from_of e) (ptrauth_of c m (shifts (rw (q ∙ qualifier_word k y x) at h))))))

    qualifier_head : (h : Option Token) (c : Cursor) → reading.begins_qualifier h ≡ true → h ≡ head c.ahead → Meets (reading.qualifier_at names d here below h) c (λ q e. IsQualifier names d q c e)
    qualifier_head None c y e = meets_refuse
    qualifier_head (Some t) c y e = qualifier_kind t t.kind c y refl e

    meets_qualifier : (c : Cursor) → reading.begins_qualifier (head c.ahead) ≡ true → Meets (reading.qualifier names d here below) c (λ q e. IsQualifier names d q c e)
    meets_qualifier c y = meets_look (λ h e. qualifier_head h c (rw e y) e)

    pub record Qualified (c : Cursor) (xs : List QualifierTree) (e : Cursor) : Type 0 where
      pub spells : QualifiersSpell names (qualifiers_of xs) c e
      pub fits : qualifiers_height (qualifiers_of xs) ≤ d

    pub meets_qualifiers : (c : Cursor) → Meets (reading.qualifiers names d here below) c (Qualified c)
    unfolding reading.qualifiers
    meets_qualifiers c = meets_weaken (meets_many_where (IsQualifier names d) reading.begins_qualifier (reading.qualifier names d here below) meets_qualifier [] c)
        (λ xs e r. let y = qualifiers_spell names d r.items c e r.chain in rw r.all_is (record { spells = y.0; fits = y.1 }))

    module _ (below_d : ℕ) (same : d ≤ suc below_d) (g : AreSound names below_d below) (deep : 2 ≤ d → suc below_d ≤ d) where
      member_head : (h : Option Token) (c : Cursor) → h ≡ head c.ahead → Meets (reading.member_from names d here below h) c (λ x e. IsMember names below_d x c e)
      member_head h c e = meets_bind (g.specs true c) (λ s m (a, b). meets_bind (meets_commas (IsNamed names below_d) (below.declarator naming.Named) (g.declarator naming.Named) m) (λ ds n r. meets_then (meets_mark p.Semicolon n) (λ _ o k. record {
        holds =
            (let y = comma_declarators names below_d r.others r.middle n r.chain in let l = y.1 in let f = r.first_is in let u = f.2 in rw r.all_is
            ((m, n, a, (r.middle, f.0, f.1, y.0), k, record { from_is = ap from_of e; to_is = refl }), omega (arith, b, l, u)));
      })))

      meets_member : (c : Cursor) → Meets (reading.member names d here below) c (λ x e. IsMember names below_d x c e)
      unfolding reading.member
      meets_member c = meets_look (λ h e. member_head h c e)

      value_head : (h : Option Token) (c : Cursor) → Meets (reading.value_at names d here below h) c (λ v e. EnumeratorValue names v c e × (maybe_expr_height v ≤ below_d))
      value_head h c = meets_if (sees p.Assign h)
          (λ _. meets_then (meets_mark p.Assign c) (λ _ m k. meets_bind {f = λ e. pure (SomeExpr e)} (g.expr 2 m (omega arith)) (λ x e (a, b). record { holds = ((m, k, a), b) })))
          (λ _. record { holds = (refl, omega arith) })

      enumerator_head : 1 ≤ below_d → (h : Option Token) (c : Cursor) → h ≡ head c.ahead → Meets (reading.enumerator_from names d here below h) c (λ x e. IsEnumerator names below_d x c e)
      enumerator_head one h c e = meets_bind (meets_name names c) (λ n m (a, b). meets_bind (meets_look (λ i _. value_head i m)) (λ v o (u, l). record {
        holds =
            ((m, (a, shifts b), u, record { from_is = ap from_of e; to_is = refl }), omega (arith, l, one));
      }))

      meets_enumerator : 1 ≤ below_d → (c : Cursor) → Meets (reading.enumerator names d here below) c (λ x e. IsEnumerator names below_d x c e)
      unfolding reading.enumerator
      meets_enumerator one c = meets_look (λ h e. enumerator_head one h c e)

      -- enumerators behind some, and perhaps a last comma
      record Enumerated (before : List EnumeratorTree) (c : Cursor) (all : List EnumeratorTree) (e : Cursor) : Type 0 where
        middle : Cursor
        added : Added (Behind (IsEnumerator names below_d)) before c all middle
        comma : LastComma middle e

      enumerator_behind_head : 1 ≤ below_d → (before : List EnumeratorTree) (c : Cursor) (all : List EnumeratorTree) (m n : Cursor) (h : Option Token) → Added (Behind (IsEnumerator names below_d)) before c all m → Mark p.Comma m n
          → Meets (reading.enumerator_behind names d here below all h) n (After (reading.enumerator_step names d here below) (Added (Behind (IsEnumerator names below_d)) before c) (Enumerated before c))
      enumerator_behind_head one before c all m n h i k = meets_if (sees p.RightBrace h)
          (λ _. record { holds = record { middle = m; added = i; comma = inr k } })
          (λ _. meets_bind (meets_enumerator one n) (λ x o r. record { holds = one_added (Behind (IsEnumerator names below_d)) before all x c m o i (n, k, r) }))

      enumerator_turn_head : 1 ≤ below_d → (before : List EnumeratorTree) (c : Cursor) (all : List EnumeratorTree) (m : Cursor) (h : Option Token) → Added (Behind (IsEnumerator names below_d)) before c all m
          → Meets (reading.enumerator_at names d here below all h) m (After (reading.enumerator_step names d here below) (Added (Behind (IsEnumerator names below_d)) before c) (Enumerated before c))
      enumerator_turn_head one before c all m h i = meets_if (sees p.Comma h)
          (λ _. meets_then {q = look (reading.enumerator_behind names d here below all)} (meets_mark p.Comma m) (λ _ n k. meets_look (λ j _. enumerator_behind_head one before c all m n j i k)))
          (λ _. record { holds = record { middle = m; added = i; comma = inl refl } })

      meets_enumerators : 1 ≤ below_d → (before : List EnumeratorTree) (c : Cursor) → Meets (iterate (reading.enumerator_step names d here below) before) c (Enumerated before c)
      meets_enumerators one before c = meets_iterate (reading.enumerator_step names d here below) (Added (Behind (IsEnumerator names below_d)) before c) (Enumerated before c)
          (λ all m i. meets_look (λ h _. enumerator_turn_head one before c all m h i)) before c (nothing_added (Behind (IsEnumerator names below_d)) before c)

      abbrev IsBase : Bool → Cursor → BaseTree → Cursor → Type 0
      IsBase bodies c x e = BaseSpells names bodies x c e × (base_height x ≤ d)

      struct_body_of : (tag : Option Tag) (s c m : Cursor) → Word w.Struct s c → MaybeTagSpells names tag c m → Meets (reading.struct_body names d here below (begin s) tag) m (IsBase true s)
      struct_body_of tag s c m k t = meets_needs 2 d (λ two. meets_then (meets_mark p.LeftBrace m) (λ _ n o. meets_bind (meets_member n) (λ x i a. meets_bind (meets_many (IsMember names below_d) reading.not_brace (reading.member names d here below) meets_member (x ∷ []) i) (λ xs j r. meets_then (meets_mark p.RightBrace j) (λ _ e z. record {
        holds =
            (let y = members_spell names below_d r.items i j r.chain in let l = y.1 in let u = a.1 in let v = deep two in rw r.all_is
            ((c, m, n, j, refl, k, t, o, (λ bad. cc), (i, a.0, y.0), z, record { from_is = refl; to_is = refl }), omega (arith, l, u, v)));
      })))))

      enum_body_of : (tag : Option Tag) (s c m : Cursor) → Word w.Enum s c → MaybeTagSpells names tag c m → Meets (reading.enum_body names d here below (begin s) tag) m (IsBase true s)
      enum_body_of tag s c m k t = meets_needs 2 d (λ two. meets_then (meets_mark p.LeftBrace m) (λ _ n o. meets_bind (meets_enumerator (let v = deep two in omega (arith, same, two, v)) n) (λ x i a. meets_bind (meets_enumerators (omega (arith, same, two)) (x ∷ []) i) (λ xs j r. meets_then (meets_mark p.RightBrace j) (λ _ e z. record {
        holds =
            (let q = r.added in let y = comma_enumerators names below_d q.items i r.middle q.chain in let l = y.1 in let u = a.1 in let v = deep two in rw q.all_is
            ((c, m, n, r.middle, j, refl, k, t, o, (i, a.0, y.0), r.comma, z, record { from_is = refl; to_is = refl }), omega (arith, l, u, v)));
      })))))

      -- a body is spelled where it may stand
      allowed : (bodies : Bool) (x : BaseTree) (c e : Cursor) → bodies ≡ true → IsBase true c x e → IsBase bodies c x e
      allowed true x c e q h = h
      allowed false x c e q h = cc

      tagged_head : (bodies : Bool) (body : Option Tag → Parser BaseTree) (alone : Tag → ℕ → BaseTree) (s m n : Cursor) (tag : Tag) (h : Option Token)
          → Meets (body (Some tag)) n (IsBase true s) → IsBase bodies s (alone tag n.ended) n → Meets (reading.tagged_at names d here below bodies body alone tag h) n (IsBase bodies s)
      tagged_head bodies body alone s m n tag h b a = meets_if (bodies && sees p.LeftBrace h) (λ q. meets_weaken b (λ x e r. allowed bodies x s e (and_left _ _ q) r)) (λ _. record { holds = a })

      struct_head : (bodies : Bool) (body : Option Tag → Parser BaseTree) (alone : Tag → ℕ → BaseTree) (s m : Cursor) (h : Option Token)
          → ((tag : Option Tag) (n : Cursor) → MaybeTagSpells names tag m n → Meets (body tag) n (IsBase true s))
          → ((tag : Tag) (n : Cursor) → TagSpells names tag m n → IsBase bodies s (alone tag n.ended) n) → Meets (reading.struct_at names d here below bodies body alone h) m (IsBase bodies s)
      struct_head bodies body alone s m h b a = meets_if (bodies && sees p.LeftBrace h) (λ q. meets_weaken (b None m refl) (λ x e r. allowed bodies x s e (and_left _ _ q) r))
          (λ _. meets_bind (meets_name names m) (λ tag n t. meets_look (λ i _. tagged_head bodies body alone s m n tag i (b (Some tag) n t) (a tag n t))))

      words_case : (bodies : Bool) (t : Token) (k : Keyword) (c : Cursor) (o : Option IntegerWord) → t.kind ≡ kind.Keyword k → word_in k ≡ o → Some t ≡ head c.ahead → Meets (reading.words_at names d here below t o) c (IsBase bodies c)
      words_case bodies t k c None q y e = meets_refuse
      words_case bodies t k c (Some x) q y e = meets_then (meets_after t c e) (λ _ m h. meets_bind {f = λ xs. ended >>= (λ z. pure (Words xs t.from z))} (meets_words (x ∷ []) m (one_word x)) (λ xs n r. record {
        holds =
            ((r.lawful, rw r.all_is (m, shifts (rw (q ∙ ap kind.Keyword (word_of_in k x y)) at h), r.spells), record { from_is = ap from_of e; to_is = refl }), omega arith);
      }))

      word_base : (bodies : Bool) (t : Token) (k : Keyword) (c : Cursor) → t.kind ≡ kind.Keyword k → Some t ≡ head c.ahead → Meets (reading.base_word names d here below bodies t k) c (IsBase bodies c)
      word_base bodies t w.Void c q e = meets_then {q = pure (Void t.from t.to)} (meets_after t c e) (λ _ m h. record { holds = (rw q at h, omega arith) })
      word_base bodies t w.Bool c q e = meets_then {q = pure (Boolean t.from t.to)} (meets_after t c e) (λ _ m h. record { holds = (rw q at h, omega arith) })
      word_base bodies t w.Struct c q e = meets_then (meets_after t c e) (λ _ m h. meets_look {f = reading.struct_at names d here below bodies (reading.struct_body names d here below t.from) (λ tag z. StructTag tag t.from z)} (λ i _. rw (ap from_of e)
          (struct_head bodies (reading.struct_body names d here below (begin c)) (λ tag z. StructTag tag (begin c) z) c m i (λ tag n y. struct_body_of tag c m n (shifts (rw q at h)) y)
          (λ tag n y. ((m, shifts (rw q at h), y, record { from_is = refl; to_is = refl }), omega arith)))))
      word_base bodies t w.Enum c q e = meets_then (meets_after t c e) (λ _ m h. meets_look {f = reading.struct_at names d here below bodies (reading.enum_body names d here below t.from) (λ tag z. EnumTag tag t.from z)} (λ i _. rw (ap from_of e)
          (struct_head bodies (reading.enum_body names d here below (begin c)) (λ tag z. EnumTag tag (begin c) z) c m i (λ tag n y. enum_body_of tag c m n (shifts (rw q at h)) y)
          (λ tag n y. ((m, shifts (rw q at h), y, record { from_is = refl; to_is = refl }), omega arith)))))
      word_base bodies t k c q e = words_case bodies t k c (word_in k) q refl e

      base_kind : (bodies : Bool) (t : Token) (k : Kind) (c : Cursor) → t.kind ≡ k → Some t ≡ head c.ahead → Meets (reading.base_by names d here below bodies t k) c (IsBase bodies c)
      base_kind bodies t (kind.Name n) c q e = meets_if (is_type names n) (λ y. meets_then {q = pure (TypedefName n t.from t.to)} (meets_after t c e) (λ _ m h. record { holds = ((y, rw q at h), omega arith) })) (λ y. meets_refuse)
      base_kind bodies t (kind.Keyword k) c q e = word_base bodies t k c q e
      base_kind bodies t _ c q e = meets_refuse

      base_head : (bodies : Bool) (h : Option Token) (c : Cursor) → h ≡ head c.ahead → Meets (reading.base_at names d here below bodies h) c (IsBase bodies c)
      base_head bodies None c e = meets_refuse
      base_head bodies (Some t) c e = base_kind bodies t t.kind c refl e

      meets_base : (bodies : Bool) (c : Cursor) → Meets (reading.base names d here below bodies) c (IsBase bodies c)
      unfolding reading.base
      meets_base bodies c = meets_look (λ h e. base_head bodies h c e)

      specs_head : (bodies : Bool) (h : Option Token) (c : Cursor) → h ≡ head c.ahead → Meets (reading.specs_from names d here below bodies h) c (λ s e. IsSpecs names bodies d s c e)
      specs_head bodies h c e = meets_bind (meets_qualifiers c) (λ b m r. meets_bind (meets_base bodies m) (λ x n (u, l). meets_bind (meets_qualifiers n) (λ a o t. record {
        holds =
            ((m, n, r.spells, u, t.spells, record { from_is = ap from_of e; to_is = refl }), (let i = r.fits in let j = t.fits in omega (arith, i, j, l)));
      })))

      pub meets_specs : (bodies : Bool) (c : Cursor) → Meets (reading.specs_level names d here below bodies) c (λ s e. IsSpecs names bodies d s c e)
      unfolding reading.specs_level
      meets_specs bodies c = meets_look (λ h e. specs_head bodies h c e)

  module _ (d : ℕ) (below : Parsers) (g : AreSound names d below) where
    abbrev IsLength : Cursor → MaybeExprTree → Cursor → Type 0
    IsLength c n e = LengthSpells names n c e × (maybe_expr_height n ≤ d)

    length_head : (h : Option Token) (c : Cursor) → Meets (reading.length_at names d below h) c (IsLength c)
    length_head h c = meets_if (sees p.RightBracket h) (λ _. record { holds = (refl, omega arith) }) (λ _. meets_bind {f = λ e. pure (SomeExpr e)} (g.expr 2 c (omega arith)) (λ x e r. record { holds = r }))

    -- a declarator without a star in front, from s on
    record Direct (s : Cursor) (x : DeclaratorTree) (e : Cursor) : Type 0 where
      spells : DeclaratorSpells names 1 x s e
      fits : declarator_height x ≤ suc d

    -- with the same name or none
    record Suffixed (s : Cursor) (of x : DeclaratorTree) (e : Cursor) : Type 0 where
      direct : Direct s x e
      name : has_name x ≡ has_name of

    array_of : (of : DeclaratorTree) (s c m : Cursor) → DeclaratorSpells names 1 of s c → declarator_height of ≤ d → Mark p.LeftBracket c m → Meets (reading.array names d below (begin s) of) m (Suffixed s of)
    array_of of s c m h f k = meets_bind (meets_look (λ i _. length_head i m)) (λ n o (a, b). meets_then (meets_mark p.RightBracket o) (λ _ e z. record {
      holds =
          record { direct = record { spells = (c, m, o, h, k, a, z, record { from_is = refl; to_is = refl }); fits = omega (arith, f, b) }; name = refl };
    }))

    parameter_head : (h : Option Token) (c : Cursor) → h ≡ head c.ahead → Meets (reading.parameter_from names d below h) c (λ x e. IsParameter names d x c e)
    parameter_head h c e = meets_bind (g.specs false c) (λ s m (a, b). meets_bind (g.declarator naming.Either m) (λ x n (_, u, l). record { holds = ((m, a, u, record { from_is = ap from_of e; to_is = refl }), omega (arith, b, l)) }))

    meets_parameter : (c : Cursor) → Meets (reading.parameter names d below) c (λ x e. IsParameter names d x c e)
    unfolding reading.parameter
    meets_parameter c = meets_look (λ h e. parameter_head h c e)

    abbrev AreParameters : Cursor → ParametersTree → Cursor → Type 0
    AreParameters c ps e = ParametersSpell names ps c e × (parameters_height ps ≤ d)

    -- `void` alone is read as a parameter
    only_void : (xs : ParameterTrees) (a z : ℕ) (c e : Cursor) → is_only_void xs ≡ true → ParameterListSpells names xs c e → a ≡ begin c → z ≡ e.ended → Takes (kind.Keyword w.Void) a z c e
    only_void (ConsParameter (OfParameter (OfSpecs NoQualifiers (Void u v) NoQualifiers i j) (Absent k l) x y) NoParameters) a z c e q (m, (n, (o, r, s1, s2, s3, s4), t, s5), s6) ea ez =
        let first : c ≡ o = s1 in
        let second : r ≡ n = s3 in
        let third : n ≡ m = t.same in
        let fourth : m ≡ e = s6 in
        let all : r ≡ e = second ∙ third ∙ fourth in
        let takes : Takes (kind.Keyword w.Void) u v c e = rw (first, ← all) s2 in
        let start : u ≡ a = sym (ea ∙ ap (λ y. from_of (head y)) takes.ahead) in
        let stop : v ≡ z = sym takes.ended ∙ sym ez in
        rw (← start, ← stop) takes
    only_void _ a z c e q h ea ez = cc

    as_parameters_are : (xs : List ParameterTree) (a z : ℕ) (c e : Cursor) → ParameterListSpells names (parameters_of xs) c e → parameter_list_height (parameters_of xs) ≤ d → a ≡ begin c → z ≡ e.ended → AreParameters c (reading.as_parameters xs a z) e
    as_parameters_are xs a z c e h l ea ez = by_case (is_only_void (parameters_of xs)) refl
      where
        by_case : (b : Bool) → is_only_void (parameters_of xs) ≡ b → AreParameters c (cond b (OnlyVoid a z) (Listed (parameters_of xs) a z)) e
        by_case true q = (only_void (parameters_of xs) a z c e q h ea ez, omega arith)
        by_case false q = ((q, h, record { from_is = ea; to_is = ez }), l)

    parameters_head : (h : Option Token) (c : Cursor) → h ≡ head c.ahead → Meets (reading.parameters_at names d below h) c (AreParameters c)
    parameters_head h c e = meets_if (sees p.RightParenthesis h) (λ _. record { holds = (record { same = refl; from_is = refl; to_is = refl }, omega arith) })
        (λ _. meets_bind (meets_commas (IsParameter names d) (reading.parameter names d below) meets_parameter c) (λ ps m r. record {
          holds =
              (let y = comma_parameters names d r.others r.middle m r.chain in let f = r.first_is in let u = f.1 in let v = y.1 in rw r.all_is
              (as_parameters_are (r.first ∷ r.others) (from_of h) m.ended c m (r.middle, f.0, y.0) (omega (arith, u, v)) (ap from_of e) refl));
        }))

    function_of : (of : DeclaratorTree) (s c m : Cursor) → DeclaratorSpells names 1 of s c → declarator_height of ≤ d → Mark p.LeftParenthesis c m → Meets (reading.function names d below (begin s) of) m (Suffixed s of)
    function_of of s c m h f k = meets_bind (meets_look (λ i e. parameters_head i m e)) (λ ps o (a, b). meets_then (meets_mark p.RightParenthesis o) (λ _ e z. record {
      holds =
          record { direct = record { spells = (c, m, o, h, k, a, z, record { from_is = refl; to_is = refl }); fits = omega (arith, f, b) }; name = refl };
    }))

    -- one more part, or none
    abbrev MaybeSuffixed : Cursor → DeclaratorTree → Cursor → Option DeclaratorTree → Cursor → Type 0
    MaybeSuffixed s of c None e = c ≡ e
    MaybeSuffixed s of c (Some x) e = Suffixed s of x e

    suffix_kind : (of : DeclaratorTree) (s c : Cursor) (t : Token) (k : Kind) → Direct s of c → t.kind ≡ k → Some t ≡ head c.ahead → Meets (reading.suffix_by names d below (begin s) of t k) c (MaybeSuffixed s of c)
    suffix_kind of s c t k h q e = meets_if (is_mark p.LeftBracket k)
        (λ y. meets_needs (declarator_height of) d (λ f. meets_then (meets_after t c e) (λ _ m a. meets_bind {f = λ x. pure (Some x)} (array_of of s c m h.spells f (shifts (rw (q ∙ is_mark-true p.LeftBracket k y) at a))) (λ x n r. record { holds = r }))))
        (λ _. meets_if (is_mark p.LeftParenthesis k)
        (λ y. meets_needs (declarator_height of) d (λ f. meets_then (meets_after t c e) (λ _ m a. meets_bind {f = λ x. pure (Some x)} (function_of of s c m h.spells f (shifts (rw (q ∙ is_mark-true p.LeftParenthesis k y) at a))) (λ x n r. record { holds = r }))))
        (λ _. record { holds = refl }))

    suffix_head : (of : DeclaratorTree) (s c : Cursor) (h : Option Token) → Direct s of c → h ≡ head c.ahead → Meets (reading.suffix_at names d below (begin s) of h) c (MaybeSuffixed s of c)
    suffix_head of s c None h e = record { holds = refl }
    suffix_head of s c (Some t) h e = suffix_kind of s c t t.kind h refl e

    meets_suffix : (of : DeclaratorTree) (s c : Cursor) → Direct s of c → Meets (reading.suffix names d below (begin s) of) c (MaybeSuffixed s of c)
    unfolding reading.suffix
    meets_suffix of s c h = meets_look (λ i e. suffix_head of s c i h e)

    go_on : (more : DeclaratorTree → Parser DeclaratorTree) (of : DeclaratorTree) (o : Option DeclaratorTree) (s c m : Cursor) → Direct s of c → MaybeSuffixed s of c o m
        → ((x : DeclaratorTree) (n : Cursor) → Suffixed s of x n → Meets (more x) n (Suffixed s of)) → Meets (reading.suffixed names d below more of o) m (Suffixed s of)
    go_on more of None s c m h same f = rw (← same) (record { holds = record { direct = h; name = refl } })
    go_on more of (Some x) s c m h r f = f x m r

    meets_suffixes : (n : ℕ) (of : DeclaratorTree) (s c : Cursor) → Direct s of c → Meets (reading.suffixes names d below (begin s) n of) c (Suffixed s of)
    unfolding reading.suffixes
    meets_suffixes zero of s c h = meets_bind (meets_suffix of s c h) (λ o m r. go_on (λ x. refuse S2) of o s c m h r (λ x i y. meets_refuse))
    meets_suffixes (suc n) of s c h = meets_bind (meets_suffix of s c h) (λ o m r. go_on (reading.suffixes names d below (begin s) n) of o s c m h r
        (λ x i y. meets_weaken (meets_suffixes n x s i y.direct) (λ z j t. record { direct = t.direct; name = t.name ∙ y.name })))

    -- a direct declarator is a declarator
    loosened : (x : DeclaratorTree) (s e : Cursor) → DeclaratorSpells names 1 x s e → DeclaratorSpells names 0 x s e
    loosened (Named name a z) s e h = h
    loosened (Absent a z) s e h = h
    loosened (Pointer qualifiers of a z) s e h = let bad = h.2 in absurd (omega (arith, bad))
    loosened (Grouped inner a z) s e h = h
    loosened (Array of length a z) s e h = h
    loosened (Function of parameters a z) s e h = h

    as_declarator : (name : Naming) (of : DeclaratorTree) (s : Cursor) (x : DeclaratorTree) (e : Cursor) → Fits name (has_name of) → Suffixed s of x e → IsDeclarator names name (suc d) x s e
    as_declarator name of s x e f r = (rw r.name f, loosened x s e (r.direct).spells, (r.direct).fits)

    nothing_is : (name : Naming) (c : Cursor) → reading.takes_none name ≡ true → IsDeclarator names name (suc d) (Absent c.ended c.ended) c c
    nothing_is naming.Named c q = cc
    nothing_is naming.Unnamed c q = (refl, record { same = refl; from_is = refl; to_is = refl }, omega arith)
    nothing_is naming.Either c q = (tt, record { same = refl; from_is = refl; to_is = refl }, omega arith)

    -- behind a parenthesis that begins no list of parameters something is declared
    not_absent : (x : DeclaratorTree) (s c e : Cursor) → DeclaratorSpells names 0 x s c → Mark p.RightParenthesis c e → sees p.RightParenthesis (head s.ahead) ≡ false → is_absent x ≡ false
    not_absent (Absent a z) s c e h k q = let same = h.same in let bad : true ≡ false = ap (λ y. sees p.RightParenthesis (head y)) (sym (ap (λ y. y.ahead) same ∙ (k.takes).ahead)) ∙ q in cc
    not_absent (Named name a z) s c e h k q = refl
    not_absent (Pointer qualifiers of a z) s c e h k q = refl
    not_absent (Grouped inner a z) s c e h k q = refl
    not_absent (Array of length a z) s c e h k q = refl
    not_absent (Function of parameters a z) s c e h k q = refl

    -- a name is never absent
    named_not_absent : (x : DeclaratorTree) → has_name x ≡ true → is_absent x ≡ false
    named_not_absent (Absent a z) h = cc
    named_not_absent (Named name a z) h = refl
    named_not_absent (Pointer qualifiers of a z) h = refl
    named_not_absent (Grouped inner a z) h = refl
    named_not_absent (Array of length a z) h = refl
    named_not_absent (Function of parameters a z) h = refl

    -- what the parentheses hold where they hold no parameters
    something : (name : Naming) (h : Option Token) (x : DeclaratorTree) (s c e : Cursor) → (reading.takes_none name && (reading.begins_type names h || sees p.RightParenthesis h)) ≡ false → h ≡ head s.ahead → Fits name (has_name x)
        → DeclaratorSpells names 0 x s c → Mark p.RightParenthesis c e → is_absent x ≡ false
    something naming.Named h x s c e q w f u k = named_not_absent x f
    something naming.Unnamed h x s c e q w f u k = not_absent x s c e u k (rw w at (or_right (reading.begins_type names h) (sees p.RightParenthesis h) q))
    something naming.Either h x s c e q w f u k = not_absent x s c e u k (rw w at (or_right (reading.begins_type names h) (sees p.RightParenthesis h) q))

    absent_fits : (name : Naming) → reading.takes_none name ≡ true → Fits name false
    absent_fits naming.Named q = cc
    absent_fits naming.Unnamed q = refl
    absent_fits naming.Either q = tt

    name_fits : (name : Naming) → reading.takes_name name ≡ true → Fits name true
    name_fits naming.Named q = refl
    name_fits naming.Unnamed q = cc
    name_fits naming.Either q = tt

    -- a direct declarator that fits
    record DirectFits (name : Naming) (s : Cursor) (x : DeclaratorTree) (e : Cursor) : Type 0 where
      direct : Direct s x e
      fits_name : Fits name (has_name x)

    grouped_of : (name : Naming) (s c : Cursor) (h : Option Token) → (reading.takes_none name && (reading.begins_type names h || sees p.RightParenthesis h)) ≡ false → h ≡ head c.ahead → Mark p.LeftParenthesis s c
        → Meets (reading.grouped names d below name (begin s)) c (DirectFits name s)
    grouped_of name s c h q w k = meets_bind (g.declarator name c) (λ x m (f, u, l). meets_then (meets_mark p.RightParenthesis m) (λ _ e z. record {
      holds =
          record { direct = record { spells = (c, m, something name h x c m e q w f u z, k, u, z, record { from_is = refl; to_is = refl }); fits = omega (arith, l) }; fits_name = f };
    }))

    open_head : (name : Naming) (s c : Cursor) (h : Option Token) → h ≡ head c.ahead → Mark p.LeftParenthesis s c → Meets (reading.open_at names d below name (begin s) s.ended h) c (DirectFits name s)
    open_head name s c h w k = meets_if (reading.takes_none name && (reading.begins_type names h || sees p.RightParenthesis h))
        (λ q. meets_weaken (function_of (Absent s.ended s.ended) s s c (record { same = refl; from_is = refl; to_is = refl }) (omega arith) k) (λ x e r. record { direct = r.direct; fits_name = rw r.name (absent_fits name (and_left _ _ q)) }))
        (λ q. grouped_of name s c h q w k)

    direct_fits : (name : Naming) (s c : Cursor) (x : DeclaratorTree) → DirectFits name s x c → Meets (reading.suffixes names d below (begin s) (suc d) x) c (λ y e. IsDeclarator names name (suc d) y s e)
    direct_fits name s c x h = meets_weaken (meets_suffixes (suc d) x s c h.direct) (λ y e r. as_declarator name x s y e h.fits_name r)

    direct_mark_of : (name : Naming) (t : Token) (c : Cursor) (k : Kind) → t.kind ≡ k → Some t ≡ head c.ahead → Meets (reading.direct_mark names d below name t c.ended k) c (λ y e. IsDeclarator names name (suc d) y c e)
    direct_mark_of name t c k q w = meets_if (is_mark p.LeftParenthesis k)
        (λ y. meets_needs (reading.least name) d (λ _. meets_then {q = look (reading.open_at names d below name t.from c.ended) >>= reading.suffixes names d below t.from (suc d)} (meets_after t c w) (λ _ m a. rw (ap from_of w)
        (meets_bind {f = reading.suffixes names d below (begin c) (suc d)} (meets_look {f = reading.open_at names d below name (begin c) c.ended} (λ i v. open_head name c m i v (shifts (rw (q ∙ is_mark-true p.LeftParenthesis k y) at a)))) (λ x n r. direct_fits name c n x r)))))
        (λ _. meets_if (reading.takes_none name)
        (λ y. rw (ap from_of w) (direct_fits name c c (Absent c.ended c.ended) (record { direct = record { spells = record { same = refl; from_is = refl; to_is = refl }; fits = omega arith }; fits_name = absent_fits name y })))
        (λ _. meets_refuse))

    direct_kind : (name : Naming) (t : Token) (c : Cursor) (k : Kind) → t.kind ≡ k → Some t ≡ head c.ahead → Meets (reading.direct_by names d below name t c.ended k) c (λ y e. IsDeclarator names name (suc d) y c e)
    direct_kind name t c (kind.Name n) q w = meets_if (reading.takes_name name && not (is_type names n))
        (λ y. meets_then {q = reading.suffixes names d below t.from (suc d) (Named n t.from t.to)} (meets_after t c w) (λ _ m a. rw (ap from_of w) (direct_fits name c m (Named n (begin c) t.to)
        (record { direct = record { spells = (not_true _ (and_right _ _ y), rw (← ap from_of w) (rw q at a)); fits = omega arith }; fits_name = name_fits name (and_left _ _ y) }))))
        (λ _. meets_if (reading.takes_none name) (λ y. record { holds = nothing_is name c y }) (λ _. meets_refuse))
    direct_kind name t c (kind.Integer value decimal unsigned long) q w = direct_mark_of name t c (kind.Integer value decimal unsigned long) q w
    direct_kind name t c (kind.Character value) q w = direct_mark_of name t c (kind.Character value) q w
    direct_kind name t c (kind.Text bytes) q w = direct_mark_of name t c (kind.Text bytes) q w
    direct_kind name t c (kind.Punct x) q w = direct_mark_of name t c (kind.Punct x) q w
    direct_kind name t c (kind.Keyword x) q w = direct_mark_of name t c (kind.Keyword x) q w
    direct_kind name t c (kind.Include x) q w = direct_mark_of name t c (kind.Include x) q w

    pointer_of : (name : Naming) (s c : Cursor) → Mark p.Star s c → Meets (reading.pointer names d below name (begin s)) c (λ y e. IsDeclarator names name (suc d) y s e)
    pointer_of name s c k = meets_bind (meets_qualifiers d below below g.expr c) (λ qs m r. meets_bind (g.declarator name m) (λ x n (f, u, l). record {
      holds =
          (f, (c, m, refl, k, r.spells, u, record { from_is = refl; to_is = refl }), (let i = r.fits in omega (arith, l, i)));
    }))

    declarator_head : (name : Naming) (c : Cursor) (h : Option Token) → h ≡ head c.ahead → Meets (reading.declarator_at names d below name c.ended h) c (λ y e. IsDeclarator names name (suc d) y c e)
    declarator_head name c None w = meets_if (reading.takes_none name) (λ y. record { holds = nothing_is name c y }) (λ _. meets_refuse)
    declarator_head name c (Some t) w = meets_if (is_mark p.Star t.kind)
        (λ y. meets_needs (reading.least name) d (λ _. meets_then {q = reading.pointer names d below name t.from} (meets_after t c w) (λ _ m a. rw (ap from_of w) (pointer_of name c m (shifts (rw (is_mark-true p.Star t.kind y) at a))))))
        (λ _. direct_kind name t c t.kind refl w)

    pub meets_declarator : (name : Naming) (c : Cursor) → Meets (reading.declarator_level names d below name) c (λ y e. IsDeclarator names name (suc d) y c e)
    unfolding reading.declarator_level
    meets_declarator name c = record { holds = (meets_look {f = reading.declarator_at names d below name c.ended} {c = c} (λ h w. declarator_head name c h w)).holds }

  no_room_meets : {A : Type 0} (begins : Kind → Bool) (c : Cursor) (Q : A → Cursor → Type 0) (h : Option Token) → Meets (reading.no_room names {A = A} begins h) c Q
  no_room_meets begins c Q None = meets_refuse
  no_room_meets begins c Q (Some t) = meets_if (begins t.kind) (λ _. meets_refuse) (λ _. meets_refuse)

  no_expr_meets : (c : Cursor) (Q : ExprTree → Cursor → Type 0) → Meets (reading.no_expr names) c Q
  unfolding reading.no_expr
  no_expr_meets c Q = meets_look (λ h _. no_room_meets (reading.begins_expr_by names) c Q h)

  bare_nothing : (name : Naming) (c : Cursor) → reading.takes_none name ≡ true → IsDeclarator names name 0 (Absent c.ended c.ended) c c
  bare_nothing naming.Named c q = cc
  bare_nothing naming.Unnamed c q = (refl, record { same = refl; from_is = refl; to_is = refl }, omega arith)
  bare_nothing naming.Either c q = (tt, record { same = refl; from_is = refl; to_is = refl }, omega arith)

  bare_head : (name : Naming) (c : Cursor) (h : Option Token) → Meets (reading.bare_at names name c.ended h) c (λ y e. IsDeclarator names name 0 y c e)
  bare_head name c None = meets_if (reading.takes_none name) (λ y. record { holds = bare_nothing name c y }) (λ _. meets_refuse)
  bare_head name c (Some t) = meets_if (reading.begins_declarator names name t.kind) (λ _. meets_refuse) (λ _. meets_if (reading.takes_none name) (λ y. record { holds = bare_nothing name c y }) (λ _. meets_refuse))

  bare_meets : (name : Naming) (c : Cursor) → Meets (reading.bare_declarator names name) c (λ y e. IsDeclarator names name 0 y c e)
  unfolding reading.bare_declarator
  bare_meets name c = record { holds = (meets_look {f = reading.bare_at names name c.ended} {c = c} (λ h _. bare_head name c h)).holds }

  none_sound : AreSound names 0 (reading.no_parsers names)
  none_sound = record { expr = λ level c l. no_expr_meets c _; opened = λ o c k. no_expr_meets c _; specs = λ bodies c. meets_refuse; declarator = bare_meets }

  -- What the readers of a depth give is in the grammar, and no deeper.
  pub sound : (d : ℕ) → AreSound names d (reading.parsers names d)
  unfolding reading.parsers
  sound zero = record {
    expr = λ level c l. no_expr_meets c _;
    opened = λ o c k. no_expr_meets c _;
    specs = meets_specs 0 (reading.no_parsers names) (reading.no_parsers names) (λ level c l. no_expr_meets c _) 0 (omega arith) none_sound (λ bad. absurd (omega arith));
    declarator = bare_meets;
  }
  sound (suc d) = record {
    expr = meets_expr names d (reading.parsers names d) (sound d);
    opened = meets_opened names d (reading.parsers names d) (sound d);
    specs = meets_specs (suc d) _ (reading.parsers names d) (meets_expr names d (reading.parsers names d) (sound d)) d (omega arith) (sound d) (λ _. omega arith);
    declarator = meets_declarator d (reading.parsers names d) (sound d);
  }
