-- The readers are local.
use Rattle.std.proofs.Common.{◌≡◌, ℕ, zero, suc, List, [], ◌∷◌, ◌++◌, Option, Some, None, Bool, true, false, nat_le, arith, ◌<◌, length}
use Rattle.pa_lex.specs.declared.token.Kind.{Kind}
use Rattle.pa_lex.specs.declared.token.Kind.TheVariants as kind
use Rattle.pa_lex.specs.declared.token.Keyword.{Keyword}
use Rattle.pa_lex.specs.declared.token.Keyword.TheVariants as w
use Rattle.pa_lex.specs.declared.token.Punct.TheVariants as p
use Rattle.pa_lex.specs.declared.token.Token.{Token}
use Rattle.pa_tree.specs.declared.expr.Tag.{Tag}
use Rattle.pa_tree.specs.declared.operator.PrefixOperator.{PrefixOperator}
use Rattle.pa_tree.specs.declared.operator.IntegerWord.{IntegerWord}
use Rattle.pa_grammar.specs.declared.rule.SynRule.TheVariants.{S1, S2}
use Rattle.pa_grammar.specs.declared.rule.Naming.{Naming}
use Rattle.pa_grammar.specs.declared.rule.Naming.TheVariants as naming
use Rattle.pa_tree.specs.Cursors.{Cursor, head}
use Rattle.pa_tree.specs.Operators.{word_in, prefix_of, are_integer_type}
use Rattle.pa_tree.specs.Exprs.{ExprTree, DeclaratorTree, BaseTree, EnumeratorTree, Const}
use Rattle.pa_grammar.specs.Tokens.{is_mark, is_word, same_mark, same_word}
use Rattle.pa_grammar.specs.Infixes.{Infix, Between, Choice, Indexed, Called, Dotted, Arrowed, Stepped, infix_in}
use Rattle.pa_grammar.specs.Parser.{Parser, pure, look, sees, Done, More, iterate}
use Rattle.pa_grammar.specs.Reading as reading
use Rattle.pa_grammar.specs.Reading.{Parsers, text_by, text_at, text_step, integer_word, word_by, word_at, word_step, next_by, next_at, next, begins_qualifier, not_brace, name_by, name_at, plain_name, type_name, conds, gone, going, turn, last, climb, operand, operand_by, operand_at, expr_level, opened_level, no_room, no_expr, qualifier, qualifiers, member, enumerator, enumerator_step, base, base_by, base_word, words_at, struct_at, tagged_at, specs_level, suffix, suffixed, suffixes, parameter, declarator_level, bare_declarator, no_parsers, parsers}
use Rattle.pa_grammar.proofs.Local.{Local, local_bind, local_then, local_pure, local_refuse, local_ended, local_after, local_look, local_if}
use Rattle.pa_grammar.proofs.Meets.{Meets, meets_bind, meets_then, meets_refuse, meets_look, meets_if, meets_weaken}
use Rattle.pa_grammar.proofs.Iterated.{Shorter, Shrinks, local_iterate}
use Rattle.pa_grammar.proofs.Eats.{Eats, Fewer, eats_left, eats_right, eats_look, eats_mark, local_no_more, meets_after_fewer, meets_needs, mark-local, needs-local, many-local, commas-local}

ruleset locals = (local_bind, local_then, local_pure, local_refuse, local_ended, local_after, local_if, mark-local, needs-local)

text_by-local : (bytes : List ℕ) (t : Token) (k : Kind) → Local (text_by bytes t k)
text_by-local bytes t (kind.Text more) = search locals depth 16
text_by-local bytes t _ = local_pure (Done bytes)

text_at-local : (bytes : List ℕ) (h : Option Token) → Local (text_at bytes h)
text_at-local bytes None = local_pure (Done bytes)
text_at-local bytes (Some t) = text_by-local bytes t t.kind

text_by-fewer : (bytes : List ℕ) (t : Token) (k : Kind) (c : Cursor) → Some t ≡ head c.ahead → Meets (text_by bytes t k) c (Shorter text_step c)
text_by-fewer bytes t (kind.Text more) c e = meets_then {q = pure (More (bytes ++ more))} (meets_after_fewer t c e) (λ _ m l. record { holds = l })
text_by-fewer bytes t _ c e = record { holds = tt }

text_at-fewer : (bytes : List ℕ) (h : Option Token) (c : Cursor) → h ≡ head c.ahead → Meets (text_at bytes h) c (Shorter text_step c)
text_at-fewer bytes None c e = record { holds = tt }
text_at-fewer bytes (Some t) c e = text_by-fewer bytes t t.kind c e

pub text-shrinks : Shrinks text_step
text-shrinks = record { holds = λ bytes c. meets_look (λ h e. text_at-fewer bytes h c e) }

pub texts-local : (bytes : List ℕ) → Local (iterate text_step bytes)
texts-local bytes = local_iterate text_step text-shrinks (λ b. local_look (text_at-local b)) bytes

integer_word-local : (words : List IntegerWord) (t : Token) (o : Option IntegerWord) → Local (integer_word words t o)
integer_word-local words t None = local_pure (Done words)
integer_word-local words t (Some x) = local_if (are_integer_type (words ++ x ∷ [])) (local_then (local_after t) (local_pure (More (words ++ x ∷ [])))) (local_pure (Done words))

word_by-local : (words : List IntegerWord) (t : Token) (k : Kind) → Local (word_by words t k)
word_by-local words t (kind.Keyword x) = integer_word-local words t (word_in x)
word_by-local words t _ = local_pure (Done words)

word_at-local : (words : List IntegerWord) (h : Option Token) → Local (word_at words h)
word_at-local words None = local_pure (Done words)
word_at-local words (Some t) = word_by-local words t t.kind

integer_word-fewer : (words : List IntegerWord) (t : Token) (o : Option IntegerWord) (c : Cursor) → Some t ≡ head c.ahead → Meets (integer_word words t o) c (Shorter word_step c)
integer_word-fewer words t None c e = record { holds = tt }
integer_word-fewer words t (Some x) c e = meets_if (are_integer_type (words ++ x ∷ [])) (λ q. meets_then {q = pure (More (words ++ x ∷ []))} (meets_after_fewer t c e) (λ _ m l. record { holds = l })) (λ q. record { holds = tt })

word_by-fewer : (words : List IntegerWord) (t : Token) (k : Kind) (c : Cursor) → Some t ≡ head c.ahead → Meets (word_by words t k) c (Shorter word_step c)
word_by-fewer words t (kind.Keyword x) c e = integer_word-fewer words t (word_in x) c e
word_by-fewer words t _ c e = record { holds = tt }

word_at-fewer : (words : List IntegerWord) (h : Option Token) (c : Cursor) → h ≡ head c.ahead → Meets (word_at words h) c (Shorter word_step c)
word_at-fewer words None c e = record { holds = tt }
word_at-fewer words (Some t) c e = word_by-fewer words t t.kind c e

pub word-shrinks : Shrinks word_step
word-shrinks = record { holds = λ words c. meets_look (λ h e. word_at-fewer words h c e) }

pub words-local : (words : List IntegerWord) → Local (iterate word_step words)
words-local words = local_iterate word_step word-shrinks (λ b. local_look (word_at-local b)) words

next_by-local : (level : ℕ) (left : ExprTree) (t : Token) (o : Option Infix) → Local (next_by level left t o)
next_by-local level left t None = local_pure None
next_by-local level left t (Some x) = local_if _ (local_pure (Some (x, t))) (local_pure None)

next_at-local : (level : ℕ) (left : ExprTree) (h : Option Token) → Local (next_at level left h)
next_at-local level left None = local_pure None
next_at-local level left (Some t) = next_by-local level left t (infix_in t.kind)

next-local : (level : ℕ) (left : ExprTree) → Local (next level left)
unfolding next
next-local level left = local_look (next_at-local level left)

-- the readers of a depth are local
pub record AreLocal (b : Parsers) : Type 0 where
  pub expr : (level : ℕ) → Local (b.expr level)
  pub opened : (from : ℕ) → Local (b.opened from)
  pub specs : (bodies : Bool) → Local (b.specs bodies)
  pub declarator : (name : Naming) → Local (b.declarator name)

module _ (names : List ℕ) where
  name_by-local : (t : Token) (k : Kind) → Local (name_by names t k)
  name_by-local t (kind.Name n) = search locals depth 16
  name_by-local t _ = local_refuse S1

  name_at-local : (h : Option Token) → Local (name_at names h)
  name_at-local None = local_refuse S1
  name_at-local (Some t) = name_by-local t t.kind

  plain_name-local : Local (plain_name names)
  unfolding plain_name
  plain_name-local = local_look name_at-local

  module _ (d : ℕ) (below : Parsers) (g : AreLocal below) where
    type_name_from-local : (h : Option Token) → Local (reading.type_name_from names d below h)
    type_name_from-local h = local_bind (g.specs false) (λ s. local_bind (g.declarator naming.Unnamed) (λ x. local_bind local_ended (λ z. local_pure _)))

    type_name-local : Local (type_name names d below)
    unfolding type_name
    type_name-local = local_look type_name_from-local

    arguments_at-local : (h : Option Token) → Local (reading.arguments_at names d below h)
    arguments_at-local h = local_if (sees p.RightParenthesis h) (local_pure []) (commas-local (below.expr 1) (g.expr 1))

    gone-local : (from : ℕ) (left : ExprTree) (x : Infix) → Local (gone names d below from left x)
    gone-local from left (Between op) = local_bind (g.expr _) (λ r. local_bind local_ended (λ z. local_pure _))
    gone-local from left Choice = local_bind (g.expr 0) (λ x. local_then (mark-local p.Colon) (local_bind (g.expr 2) (λ y. local_bind local_ended (λ z. local_pure _))))
    gone-local from left Indexed = local_bind (g.expr 0) (λ x. local_then (mark-local p.RightBracket) (local_bind local_ended (λ z. local_pure _)))
    gone-local from left Called = local_bind (local_look arguments_at-local) (λ xs. local_then (mark-local p.RightParenthesis) (local_bind local_ended (λ z. local_pure _)))
    gone-local from left Dotted = local_bind plain_name-local (λ n. local_bind local_ended (λ z. local_pure _))
    gone-local from left Arrowed = local_bind plain_name-local (λ n. local_bind local_ended (λ z. local_pure _))
    gone-local from left (Stepped s) = local_bind local_ended (λ z. local_pure _)

    turn-local : (from : ℕ) (left : ExprTree) (more : ExprTree → Parser ExprTree) (o : Option (Infix × Token)) → ((x : ExprTree) → Local (more x)) → Local (turn names d below from left more o)
    turn-local from left more None m = local_pure left
    turn-local from left more (Some q) m = local_bind (local_then (needs-local _ d) (local_then (local_after q.1) (gone-local from left q.0))) m

    last-local : (left : ExprTree) (o : Option (Infix × Token)) → Local (last names d below left o)
    last-local left None = local_pure left
    last-local left (Some q) = local_refuse S2

    climb-local : (from level n : ℕ) (left : ExprTree) → Local (climb names d below from level n left)
    unfolding climb
    climb-local from level zero left = local_bind (next-local level left) (last-local left)
    climb-local from level (suc n) left = local_bind (next-local level left) (λ o. turn-local from left (climb names d below from level n) o (climb-local from level n))

    paren-local : (from : ℕ) → Local (reading.paren names d below from)
    paren-local from = local_bind (g.expr 0) (λ e. local_then (mark-local p.RightParenthesis) (local_bind local_ended (λ z. local_pure _)))

    cast-local : (from : ℕ) → Local (reading.cast names d below from)
    cast-local from = local_bind type_name-local (λ t. local_then (mark-local p.RightParenthesis) (local_bind (g.expr 13) (λ e. local_bind local_ended (λ z. local_pure _))))

    bracket-local : (level from : ℕ) (h : Option Token) → Local (reading.bracket_at names d below level from h)
    bracket-local level from h = local_if (reading.begins_type names h) (local_if (nat_le level 13) (cast-local from) (local_refuse S1)) (paren-local from)

    in_front-local : (t : Token) (o : Option PrefixOperator) → Local (reading.in_front names d below t o)
    in_front-local t None = local_refuse S1
    in_front-local t (Some op) = local_then (needs-local 1 d) (local_then (local_after t) (local_bind (g.expr _) (λ e. local_bind local_ended (λ z. local_pure _))))

    sizeof_open-local : (from place : ℕ) (h : Option Token) → Local (reading.sizeof_open names d below from place h)
    sizeof_open-local from place h = local_if (reading.begins_type names h)
        (local_bind type_name-local (λ t. local_then (mark-local p.RightParenthesis) (local_bind local_ended (λ z. local_pure _))))
        (local_bind (g.opened place) (λ e. local_bind local_ended (λ z. local_pure _)))

    sizeof-local : (from : ℕ) (h : Option Token) → Local (reading.sizeof_at names d below from h)
    sizeof-local from h = local_if (sees p.LeftParenthesis h) (local_then (mark-local p.LeftParenthesis) (local_look (sizeof_open-local from _))) (local_bind (g.expr 14) (λ e. local_bind local_ended (λ z. local_pure _)))

    operand_by-local : (level : ℕ) (t : Token) (k : Kind) → Local (operand_by names d below level t k)
    operand_by-local level t (kind.Name n) = search locals depth 16
    operand_by-local level t (kind.Integer value decimal unsigned long) = search locals depth 16
    operand_by-local level t (kind.Character value) = search locals depth 16
    operand_by-local level t (kind.Text bytes) = local_then (local_after t) (local_bind (texts-local bytes) (λ x. local_bind local_ended (λ z. local_pure _)))
    operand_by-local level t (kind.Punct x) = local_if (same_mark x p.LeftParenthesis) (local_then (needs-local 1 d) (local_then (local_after t) (local_look (bracket-local level _)))) (in_front-local t (prefix_of x))
    operand_by-local level t (kind.Keyword x) = local_if (same_word x w.Sizeof) (local_then (local_after t) (local_look (sizeof-local _))) (local_refuse S1)
    operand_by-local level t (kind.Include x) = local_refuse S1

    operand_at-local : (level : ℕ) (h : Option Token) → Local (operand_at names d below level h)
    operand_at-local level None = local_refuse S1
    operand_at-local level (Some t) = operand_by-local level t t.kind

    operand-local : (level : ℕ) → Local (operand names d below level)
    unfolding operand
    operand-local level = local_look (operand_at-local level)

    level_from-local : (level : ℕ) (h : Option Token) → Local (reading.level_from names d below level h)
    level_from-local level h = local_bind (operand-local level) (climb-local _ level (suc d))

    expr_level-local : (level : ℕ) → Local (expr_level names d below level)
    unfolding expr_level
    expr_level-local level = local_look (level_from-local level)

    opened_level-local : (from : ℕ) → Local (opened_level names d below from)
    unfolding opened_level
    opened_level-local from = local_bind (paren-local from) (climb-local from 14 (suc d))

  no_room-local : {A : Type 0} (begins : Kind → Bool) (h : Option Token) → Local (no_room names {A = A} begins h)
  no_room-local begins None = local_refuse S1
  no_room-local begins (Some t) = local_if (begins t.kind) (local_refuse S2) (local_refuse S1)

  no_expr-local : Local (no_expr names)
  unfolding no_expr
  no_expr-local = local_look (no_room-local _)

  module _ (d : ℕ) (here below : Parsers) (gh : (level : ℕ) → Local (here.expr level)) (g : AreLocal below) where
    conds_at-local : (more : Parser (List ExprTree)) → Local more → (h : Option Token) → Local (reading.conds_at names d here more h)
    conds_at-local more l h = local_if (sees p.Comma h) (local_then (mark-local p.Comma) (local_bind (gh 2) (λ e. local_bind l (λ es. local_pure _)))) (local_pure [])

    here_conds-local : (n : ℕ) → Local (conds names d here n)
    unfolding conds
    here_conds-local zero = local_pure []
    here_conds-local (suc n) = local_look (conds_at-local (conds names d here n) (here_conds-local n))

    ptrauth-local : (from : ℕ) → Local (reading.ptrauth names d here below from)
    ptrauth-local from = local_then (mark-local p.LeftParenthesis) (local_bind (gh 2) (λ e. local_bind (here_conds-local 2) (λ es. local_then (mark-local p.RightParenthesis) (local_bind local_ended (λ z. local_pure _)))))

    qualifier_at-local : (h : Option Token) → Local (reading.qualifier_at names d here below h)
    qualifier_at-local None = local_refuse S1
    qualifier_at-local (Some t) = local_if (is_word w.Const t.kind) (local_then (local_after t) (local_pure _)) (local_then (needs-local 1 d) (local_then (local_after t) (ptrauth-local _)))

    pub qualifier-local : Local (qualifier names d here below)
    qualifier-local = local_look qualifier_at-local

    qualifier_at-fewer : (c : Cursor) (h : Option Token) → h ≡ head c.ahead → Meets (reading.qualifier_at names d here below h) c (Fewer c)
    qualifier_at-fewer c None e = meets_refuse
    qualifier_at-fewer c (Some t) e = meets_if (is_word w.Const t.kind) (λ q. meets_then {q = pure (Const t.from t.to)} (meets_after_fewer t c e) (λ _ m l. record { holds = l }))
        (λ q. meets_needs 1 d (λ _. meets_then (meets_after_fewer t c e) (λ _ n l. meets_weaken (local_no_more (ptrauth-local t.from) n) (λ x o k. omega (arith, l, k)))))

    pub qualifier-eats : Eats (qualifier names d here below)
    qualifier-eats = record { holds = λ c. meets_look (λ h e. qualifier_at-fewer c h e) }

    pub qualifiers-local : Local (qualifiers names d here below)
    unfolding qualifiers
    qualifiers-local = many-local begins_qualifier (qualifier names d here below) qualifier-local qualifier-eats []

    member_from-local : (h : Option Token) → Local (reading.member_from names d here below h)
    member_from-local h = local_bind (g.specs true) (λ s. local_bind (commas-local (below.declarator naming.Named) (g.declarator naming.Named)) (λ ds. local_then (mark-local p.Semicolon) (local_bind local_ended (λ z. local_pure _))))

    pub member-local : Local (member names d here below)
    unfolding member
    member-local = local_look member_from-local

    member_from-eats : (h : Option Token) → Eats (reading.member_from names d here below h)
    member_from-eats h = eats_right (g.specs true) (λ s. eats_right (commas-local (below.declarator naming.Named) (g.declarator naming.Named)) (λ ds. eats_left (eats_mark p.Semicolon) (λ _. local_bind local_ended (λ z. local_pure _))))

    pub member-eats : Eats (member names d here below)
    unfolding member
    member-eats = eats_look member_from-eats

    struct_body-local : (from : ℕ) (tag : Option Tag) → Local (reading.struct_body names d here below from tag)
    struct_body-local from tag = local_then (needs-local 2 d) (local_then (mark-local p.LeftBrace) (local_bind member-local (λ m. local_bind (many-local not_brace (member names d here below) member-local member-eats (m ∷ [])) (λ ms. local_then (mark-local p.RightBrace) (local_bind local_ended (λ z. local_pure _))))))

    value-local : (h : Option Token) → Local (reading.value_at names d here below h)
    value-local h = local_if (sees p.Assign h) (local_then (mark-local p.Assign) (local_bind (g.expr 2) (λ e. local_pure _))) (local_pure _)

    enumerator_from-local : (h : Option Token) → Local (reading.enumerator_from names d here below h)
    enumerator_from-local h = local_bind plain_name-local (λ n. local_bind (local_look value-local) (λ v. local_bind local_ended (λ z. local_pure _)))

    pub enumerator-local : Local (enumerator names d here below)
    unfolding enumerator
    enumerator-local = local_look enumerator_from-local

    enumerator_behind-local : (items : List EnumeratorTree) (h : Option Token) → Local (reading.enumerator_behind names d here below items h)
    enumerator_behind-local items h = local_if (sees p.RightBrace h) (local_pure _) (local_bind enumerator-local (λ x. local_pure _))

    enumerator_at-local : (items : List EnumeratorTree) (h : Option Token) → Local (reading.enumerator_at names d here below items h)
    enumerator_at-local items h = local_if (sees p.Comma h) (local_then (mark-local p.Comma) (local_look (enumerator_behind-local items))) (local_pure _)

    pub enumerator_step-local : (items : List EnumeratorTree) → Local (enumerator_step names d here below items)
    enumerator_step-local items = local_look (enumerator_at-local items)

    enumerator_behind-fewer : (items : List EnumeratorTree) (c m : Cursor) (h : Option Token) → length m.ahead < length c.ahead → Meets (reading.enumerator_behind names d here below items h) m (Shorter (enumerator_step names d here below) c)
    enumerator_behind-fewer items c m h l = meets_if (sees p.RightBrace h) (λ q. record { holds = tt }) (λ q. meets_bind (local_no_more enumerator-local m) (λ x o k. record { holds = omega (arith, l, k) }))

    enumerator_at-fewer : (items : List EnumeratorTree) (c : Cursor) (h : Option Token) → Meets (reading.enumerator_at names d here below items h) c (Shorter (enumerator_step names d here below) c)
    enumerator_at-fewer items c h = meets_if (sees p.Comma h) (λ q. meets_then {q = look (reading.enumerator_behind names d here below items)} ((eats_mark p.Comma).holds c) (λ _ m l. meets_look (λ i _. enumerator_behind-fewer items c m i l))) (λ q. record { holds = tt })

    pub enumerator-shrinks : Shrinks (enumerator_step names d here below)
    enumerator-shrinks = record { holds = λ items c. meets_look (λ h e. enumerator_at-fewer items c h) }

    enum_body-local : (from : ℕ) (tag : Option Tag) → Local (reading.enum_body names d here below from tag)
    enum_body-local from tag = local_then (needs-local 2 d) (local_then (mark-local p.LeftBrace) (local_bind enumerator-local (λ x. local_bind (local_iterate (enumerator_step names d here below) enumerator-shrinks enumerator_step-local (x ∷ [])) (λ xs. local_then (mark-local p.RightBrace) (local_bind local_ended (λ z. local_pure _))))))

    tagged-local : (bodies : Bool) (body : Option Tag → Parser BaseTree) (alone : Tag → ℕ → BaseTree) → ((tag : Option Tag) → Local (body tag)) → (tag : Tag) (h : Option Token) → Local (tagged_at names d here below bodies body alone tag h)
    tagged-local bodies body alone l tag h = local_if _ (l (Some tag)) (local_bind local_ended (λ z. local_pure _))

    struct-local : (bodies : Bool) (body : Option Tag → Parser BaseTree) (alone : Tag → ℕ → BaseTree) → ((tag : Option Tag) → Local (body tag)) → (h : Option Token) → Local (struct_at names d here below bodies body alone h)
    struct-local bodies body alone l h = local_if _ (l None) (local_bind plain_name-local (λ tag. local_look (tagged-local bodies body alone l tag)))

    words_at-local : (t : Token) (o : Option IntegerWord) → Local (words_at names d here below t o)
    words_at-local t None = local_refuse S1
    words_at-local t (Some x) = local_then (local_after t) (local_bind (words-local (x ∷ [])) (λ xs. local_bind local_ended (λ z. local_pure _)))

    base_word-local : (bodies : Bool) (t : Token) (x : Keyword) → Local (base_word names d here below bodies t x)
    base_word-local bodies t w.Void = local_then (local_after t) (local_pure _)
    base_word-local bodies t w.Bool = local_then (local_after t) (local_pure _)
    base_word-local bodies t w.Struct = local_then (local_after t) (local_look (struct-local bodies _ _ (struct_body-local _)))
    base_word-local bodies t w.Enum = local_then (local_after t) (local_look (struct-local bodies _ _ (enum_body-local _)))
    base_word-local bodies t x = words_at-local t (word_in x)

    base_by-local : (bodies : Bool) (t : Token) (k : Kind) → Local (base_by names d here below bodies t k)
    base_by-local bodies t (kind.Name n) = search locals depth 16
    base_by-local bodies t (kind.Keyword x) = base_word-local bodies t x
    base_by-local bodies t _ = local_refuse S1

    base_at-local : (bodies : Bool) (h : Option Token) → Local (reading.base_at names d here below bodies h)
    base_at-local bodies None = local_refuse S1
    base_at-local bodies (Some t) = base_by-local bodies t t.kind

    base-local : (bodies : Bool) → Local (base names d here below bodies)
    unfolding base
    base-local bodies = local_look (base_at-local bodies)

    specs_from-local : (bodies : Bool) (h : Option Token) → Local (reading.specs_from names d here below bodies h)
    specs_from-local bodies h = local_bind qualifiers-local (λ b. local_bind (base-local bodies) (λ x. local_bind qualifiers-local (λ a. local_bind local_ended (λ z. local_pure _))))

    specs_level-local : (bodies : Bool) → Local (specs_level names d here below bodies)
    unfolding specs_level
    specs_level-local bodies = local_look (specs_from-local bodies)

  module _ (d : ℕ) (below : Parsers) (g : AreLocal below) where
    length_at-local : (h : Option Token) → Local (reading.length_at names d below h)
    length_at-local h = local_if (sees p.RightBracket h) (local_pure _) (local_bind (g.expr 2) (λ e. local_pure _))

    array-local : (from : ℕ) (of : DeclaratorTree) → Local (reading.array names d below from of)
    array-local from of = local_bind (local_look length_at-local) (λ n. local_then (mark-local p.RightBracket) (local_bind local_ended (λ z. local_pure _)))

    parameter_from-local : (h : Option Token) → Local (reading.parameter_from names d below h)
    parameter_from-local h = local_bind (g.specs false) (λ s. local_bind (g.declarator naming.Either) (λ x. local_bind local_ended (λ z. local_pure _)))

    pub parameter-local : Local (parameter names d below)
    unfolding parameter
    parameter-local = local_look parameter_from-local

    parameters_at-local : (h : Option Token) → Local (reading.parameters_at names d below h)
    parameters_at-local h = local_if (sees p.RightParenthesis h) (local_bind local_ended (λ a. local_pure _)) (local_bind (commas-local (parameter names d below) parameter-local) (λ ps. local_bind local_ended (λ z. local_pure _)))

    function-local : (from : ℕ) (of : DeclaratorTree) → Local (reading.function names d below from of)
    function-local from of = local_bind (local_look parameters_at-local)
        (λ ps. local_then (mark-local p.RightParenthesis) (local_bind local_ended (λ z. local_pure _)))

    suffix_at-local : (from : ℕ) (of : DeclaratorTree) (h : Option Token) → Local (reading.suffix_at names d below from of h)
    suffix_at-local from of None = local_pure None
    suffix_at-local from of (Some t) = local_if (is_mark p.LeftBracket t.kind) (local_then (needs-local _ d) (local_then (local_after t) (local_bind (array-local from of) (λ x. local_pure _))))
        (local_if (is_mark p.LeftParenthesis t.kind) (local_then (needs-local _ d) (local_then (local_after t) (local_bind (function-local from of) (λ x. local_pure _)))) (local_pure None))

    suffix-local : (from : ℕ) (of : DeclaratorTree) → Local (suffix names d below from of)
    unfolding suffix
    suffix-local from of = local_look (suffix_at-local from of)

    suffixed-local : (more : DeclaratorTree → Parser DeclaratorTree) (of : DeclaratorTree) (o : Option DeclaratorTree) → ((x : DeclaratorTree) → Local (more x)) → Local (suffixed names d below more of o)
    suffixed-local more of None m = local_pure of
    suffixed-local more of (Some x) m = m x

    suffixes-local : (from n : ℕ) (of : DeclaratorTree) → Local (suffixes names d below from n of)
    unfolding suffixes
    suffixes-local from zero of = local_bind (suffix-local from of) (λ o. suffixed-local _ of o (λ x. local_refuse S2))
    suffixes-local from (suc n) of = local_bind (suffix-local from of) (λ o. suffixed-local _ of o (suffixes-local from n))

    pointer-local : (name : Naming) (from : ℕ) → Local (reading.pointer names d below name from)
    pointer-local name from = local_bind (qualifiers-local d below below g.expr g) (λ qs. local_bind (g.declarator name) (λ x. local_bind local_ended (λ z. local_pure _)))

    grouped-local : (name : Naming) (from : ℕ) → Local (reading.grouped names d below name from)
    grouped-local name from = local_bind (g.declarator name) (λ x. local_then (mark-local p.RightParenthesis) (local_bind local_ended (λ z. local_pure _)))

    open-local : (name : Naming) (from end : ℕ) (h : Option Token) → Local (reading.open_at names d below name from end h)
    open-local name from end h = local_if _ (function-local from _) (grouped-local name from)

    direct_mark-local : (name : Naming) (t : Token) (end : ℕ) (k : Kind) → Local (reading.direct_mark names d below name t end k)
    direct_mark-local name t end k = local_if (is_mark p.LeftParenthesis k) (local_then (needs-local _ d) (local_then (local_after t) (local_bind (local_look (open-local name _ end)) (suffixes-local _ (suc d)))))
        (local_if (reading.takes_none name) (suffixes-local _ (suc d) _) (local_refuse S1))

    direct_by-local : (name : Naming) (t : Token) (end : ℕ) (k : Kind) → Local (reading.direct_by names d below name t end k)
    direct_by-local name t end (kind.Name n) = local_if _ (local_then (local_after t) (suffixes-local _ (suc d) _)) (local_if (reading.takes_none name) (local_pure _) (local_refuse S1))
    direct_by-local name t end k = direct_mark-local name t end k

    declarator_at-local : (name : Naming) (end : ℕ) (h : Option Token) → Local (reading.declarator_at names d below name end h)
    declarator_at-local name end None = local_if (reading.takes_none name) (local_pure _) (local_refuse S1)
    declarator_at-local name end (Some t) = local_if (is_mark p.Star t.kind) (local_then (needs-local _ d) (local_then (local_after t) (pointer-local name _))) (direct_by-local name t end t.kind)

    declarator_level-local : (name : Naming) → Local (declarator_level names d below name)
    unfolding declarator_level
    declarator_level-local name = local_bind local_ended (λ end. local_look (declarator_at-local name end))

  bare_at-local : (name : Naming) (end : ℕ) (h : Option Token) → Local (reading.bare_at names name end h)
  bare_at-local name end None = local_if (reading.takes_none name) (local_pure _) (local_refuse S1)
  bare_at-local name end (Some t) = local_if (reading.begins_declarator names name t.kind) (local_refuse S2) (local_if (reading.takes_none name) (local_pure _) (local_refuse S1))

  bare-local : (name : Naming) → Local (bare_declarator names name)
  unfolding bare_declarator
  bare-local name = local_bind local_ended (λ end. local_look (bare_at-local name end))

  pub none-local : AreLocal (no_parsers names)
  none-local = record { expr = λ level. no_expr-local; opened = λ from. no_expr-local; specs = λ bodies. local_refuse S2; declarator = bare-local }

  pub parsers-local : (d : ℕ) → AreLocal (parsers names d)
  unfolding parsers
  parsers-local zero = record { expr = λ level. no_expr-local; opened = λ from. no_expr-local; specs = specs_level-local 0 _ _ (λ level. no_expr-local) none-local; declarator = bare-local }
  parsers-local (suc d) = record {
    expr = expr_level-local d (parsers names d) (parsers-local d);
    opened = opened_level-local d (parsers names d) (parsers-local d);
    specs = specs_level-local (suc d) _ (parsers names d) (expr_level-local d (parsers names d) (parsers-local d)) (parsers-local d);
    declarator = declarator_level-local d (parsers names d) (parsers-local d);
  }
