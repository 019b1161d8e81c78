-- More depth changes no answer, and of the refusals only those by depth.
use Rattle.std.proofs.Common.{◌≡◌, ◌≢◌, ◌≤◌, ◌-◌, ◌+◌, ℕ, zero, suc, List, [], ◌∷◌, Option, Some, None, Ok, Err, Bool, true, false, cond, refl, nat_le, length, arith, subst, ◌||◌, ◌&&◌, not}
use Rattle.std.proofs.lemmas.Bool.{leb-true, le-leb}
use Rattle.pa_lex.specs.declared.token.Kind.{Kind}
use Rattle.pa_lex.specs.declared.token.Kind.TheVariants as kind
use Rattle.pa_lex.specs.declared.token.Keyword.{Keyword}
use Rattle.pa_lex.specs.declared.token.Keyword.TheVariants as w
use Rattle.pa_lex.specs.declared.token.Punct.{Punct}
use Rattle.pa_lex.specs.declared.token.Punct.TheVariants as p
use Rattle.pa_lex.specs.declared.token.Token.{Token}
use Rattle.pa_tree.specs.declared.expr.Tag.{Tag}
use Rattle.pa_tree.specs.declared.operator.PrefixOperator.{PrefixOperator}
use Rattle.pa_tree.specs.declared.operator.IntegerWord.{IntegerWord}
use Rattle.pa_grammar.specs.declared.rule.SynRule.{SynRule}
use Rattle.pa_grammar.specs.declared.rule.SynRule.TheVariants.{S1, S2}
use Rattle.pa_grammar.specs.declared.rule.Naming.{Naming}
use Rattle.pa_grammar.specs.declared.rule.Naming.TheVariants as naming
use Rattle.pa_grammar.specs.declared.rule.ParseError.TheVariants.{Broken}
use Rattle.pa_tree.specs.Cursors.{Cursor, head, from_of}
use Rattle.pa_tree.specs.Operators.{word_in, prefix_of}
use Rattle.pa_tree.specs.Spells.{is_type}
use Rattle.pa_tree.specs.Exprs.{Absent, Named, StructTag, EnumTag, ExprTree, DeclaratorTree, BaseTree, EnumeratorTree}
use Rattle.pa_tree.specs.Heights.{expr_height, declarator_height}
use Rattle.pa_grammar.specs.Tokens.{is_mark, is_word, same_mark, same_word}
use Rattle.pa_grammar.specs.Infixes.{Infix, Between, Choice, Indexed, Called, Dotted, Arrowed, Stepped}
use Rattle.pa_grammar.specs.Parser.{Parser, Outcome, Stop, and_then, ◌>>=◌, ◌>>◌, pure, refuse, look, after, ended, needs, mark, sees, Next, Done, More, goes, loop, iterate, item_at, many, commas}
use Rattle.pa_grammar.specs.Reading as reading
use Rattle.pa_grammar.specs.Reading.{Parsers, is_some, begins_qualifier, not_brace, type_name, conds, gone, turn, last, climb, operand, operand_by, operand_at, expr_level, opened_level, no_room, no_expr, plain_name, begins_expr_by, qualifier, qualifiers, member, enumerator, enumerator_step, base, base_by, base_word, words_at, base_at, specs_level, tagged_at, struct_at, parameter, suffix, suffixes, suffixed, declarator_level, bare_declarator, no_parsers, parsers}

-- o gives what p gives, but where p stops for depth
abbrev pub Kept : {A : Type 0} → Outcome A → Outcome A → Type 0
Kept (Ok q) o = o ≡ Ok q
Kept (Err s) o = s.rule ≢ Broken S2 → o ≡ Err s

pub record Deeper {A : Type 0} (p q : Parser A) : Type 0 where
  pub holds : (c : Cursor) → Kept (p c) (q c)

kept : {A : Type 0} (o : Outcome A) → Kept o o
kept (Ok q) = refl
kept (Err s) = λ h. refl

pub deeper_same : {A : Type 0} {p : Parser A} → Deeper p p
deeper_same {p = p} = record { holds = λ c. kept (p c) }

bind_kept : {A B : Type 0} (o o' : Outcome A) (f g : A → Parser B) → Kept o o' → ((a : A) → Deeper (f a) (g a)) → Kept (and_then o f) (and_then o' g)
bind_kept (Ok q) o' f g h k = rw h ((k (q.0)).holds (q.1))
bind_kept (Err s) o' f g h k = λ n. rw (h n) refl

trans_kept : {A : Type 0} (o p q : Outcome A) → Kept o p → Kept p q → Kept o q
trans_kept (Ok a) p q h k = let e : p ≡ Ok a = h in rw e at k
trans_kept (Err s) p q h k = λ n. (rw (h n) at k) n

pub deeper_trans : {A : Type 0} {p q r : Parser A} → Deeper p q → Deeper q r → Deeper p r
deeper_trans {p = p} {q = q} {r = r} h k = record { holds = λ c. trans_kept (p c) (q c) (r c) (h.holds c) (k.holds c) }

pub deeper_bind : {A B : Type 0} {p q : Parser A} {f g : A → Parser B} → Deeper p q → ((a : A) → Deeper (f a) (g a)) → Deeper (p >>= f) (q >>= g)
deeper_bind {p = p} {q = q} {f = f} {g = g} h k = record { holds = λ c. bind_kept (p c) (q c) f g (h.holds c) k }

pub deeper_then : {A B : Type 0} {p q : Parser A} {f g : Parser B} → Deeper p q → Deeper f g → Deeper (p >> f) (q >> g)
deeper_then h k = deeper_bind h (λ _. k)

pub deeper_look : {A : Type 0} {f g : Option Token → Parser A} → ((o : Option Token) → Deeper (f o) (g o)) → Deeper (look f) (look g)
deeper_look h = record { holds = λ c. (h (head c.ahead)).holds c }

pub deeper_if : {A : Type 0} (b : Bool) {p q f g : Parser A} → Deeper p q → Deeper f g → Deeper (cond b p f) (cond b q g)
deeper_if true h k = h
deeper_if false h k = k

pub deeper_refuse : {A : Type 0} {q : Parser A} → Deeper (refuse {A = A} S2) q
deeper_refuse = record { holds = λ c n. absurd (n refl) }

needs_kept : (n d : ℕ) (b : Bool) (c : Cursor) → nat_le n d ≡ b → Kept (cond b (pure tt) (refuse S2) c) (needs n (suc d) c)
needs_kept n d true c e = rw (le-leb n (suc d) (let h : n ≤ d = leb-true n d e in omega arith)) refl
needs_kept n d false c e = λ h. absurd (h refl)

pub deeper_after : (t : Token) → Deeper (after t) (after t)
deeper_after t = deeper_same

pub deeper_mark : (x : Punct) → Deeper (mark x) (mark x)
deeper_mark x = deeper_same

pub deeper_stop : {A : Type 0} (rule : SynRule) → Deeper (refuse {A = A} rule) (refuse rule)
deeper_stop rule = deeper_same

pub deeper_ended : Deeper ended ended
deeper_ended = deeper_same

pub deeper_needs : (n d : ℕ) → Deeper (needs n d) (needs n (suc d))
deeper_needs n d = record { holds = λ c. needs_kept n d (nat_le n d) c refl }

module _ {S A : Type 0} (step further : S → Parser (Next S A)) (g : (s : S) → Deeper (step s) (further s)) where
  goes-deeper : (f h : S → Parser A) → ((s : S) → Deeper (f s) (h s)) → (r : Next S A) → Deeper (goes f r) (goes h r)
  goes-deeper f h k (Done a) = deeper_same
  goes-deeper f h k (More s) = k s

  loop-deeper : (n : ℕ) (s : S) → Deeper (loop step n s) (loop further n s)
  unfolding loop
  loop-deeper zero s = deeper_bind (g s) (goes-deeper (λ _. refuse S2) (λ _. refuse S2) (λ _. deeper_same))
  loop-deeper (suc n) s = deeper_bind (g s) (goes-deeper (loop step n) (loop further n) (loop-deeper n))

  iterated : (s : S) → Deeper (iterate step s) (iterate further s)
  unfolding iterate
  iterated s = record { holds = λ c. (loop-deeper (length c.ahead) s).holds c }

pub iterate-deeper : {S A : Type 0} {step further : S → Parser (Next S A)} → ((s : S) → Deeper (step s) (further s)) → (s : S) → Deeper (iterate step s) (iterate further s)
iterate-deeper {step = step} {further = further} g s = iterated step further g s

item_at-deeper : {A : Type 0} (more : Option Token → Bool) {item further : Parser A} → Deeper item further → (items : List A) (h : Option Token) → Deeper (item_at more item items h) (item_at more further items h)
item_at-deeper more g items h = deeper_if (more h) (deeper_bind g (λ x. deeper_same)) deeper_same

pub many-deeper : {A : Type 0} (more : Option Token → Bool) {item further : Parser A} → Deeper item further → (items : List A) → Deeper (many more item items) (many more further items)
many-deeper more g items = iterate-deeper (λ xs. deeper_look (item_at-deeper more g xs)) items

commas-deeper : {A : Type 0} {item further : Parser A} → Deeper item further → Deeper (commas item) (commas further)
commas-deeper g = deeper_bind g (λ x. many-deeper (sees p.Comma) (deeper_then deeper_same g) (x ∷ []))

-- the readers of a depth, and those of one more
pub record AreDeeper (b d : Parsers) : Type 0 where
  pub expr : (level : ℕ) → Deeper (b.expr level) (d.expr level)
  pub opened : (from : ℕ) → Deeper (b.opened from) (d.opened from)
  pub specs : (bodies : Bool) → Deeper (b.specs bodies) (d.specs bodies)
  pub declarator : (name : Naming) → Deeper (b.declarator name) (d.declarator name)

module _ (names : List ℕ) where
  deeper_plain : Deeper (plain_name names) (plain_name names)
  deeper_plain = deeper_same

  module _ (d : ℕ) (below deep : Parsers) (g : AreDeeper below deep) where
    type_name_from-deeper : (h : Option Token) → Deeper (reading.type_name_from names d below h) (reading.type_name_from names (suc d) deep h)
    type_name_from-deeper h = deeper_bind (g.specs false) (λ s. deeper_bind (g.declarator naming.Unnamed) (λ x. deeper_same))

    type_name-deeper : Deeper (type_name names d below) (type_name names (suc d) deep)
    unfolding type_name
    type_name-deeper = deeper_look type_name_from-deeper

    arguments_at-deeper : (h : Option Token) → Deeper (reading.arguments_at names d below h) (reading.arguments_at names (suc d) deep h)
    arguments_at-deeper h = deeper_if (sees p.RightParenthesis h) deeper_same (commas-deeper (g.expr 1))

    gone-deeper : (from : ℕ) (left : ExprTree) (x : Infix) → Deeper (gone names d below from left x) (gone names (suc d) deep from left x)
    gone-deeper from left (Between op) = deeper_bind (g.expr _) (λ r. deeper_same)
    gone-deeper from left Choice = deeper_bind (g.expr 0) (λ x. deeper_then deeper_same (deeper_bind (g.expr 2) (λ y. deeper_same)))
    gone-deeper from left Indexed = deeper_bind (g.expr 0) (λ x. deeper_same)
    gone-deeper from left Called = deeper_bind (deeper_look arguments_at-deeper) (λ xs. deeper_same)
    gone-deeper from left Dotted = deeper_same
    gone-deeper from left Arrowed = deeper_same
    gone-deeper from left (Stepped s) = deeper_same

    turn-deeper : (from : ℕ) (left : ExprTree) (more further : ExprTree → Parser ExprTree) (o : Option (Infix × Token)) → ((x : ExprTree) → Deeper (more x) (further x)) → Deeper (turn names d below from left more o) (turn names (suc d) deep from left further o)
    turn-deeper from left more further None m = deeper_same
    turn-deeper from left more further (Some q) m = deeper_bind (deeper_then (deeper_needs (expr_height left) d) (deeper_then (deeper_after q.1) (gone-deeper from left q.0))) m

    last-deeper : (from : ℕ) (left : ExprTree) (further : ExprTree → Parser ExprTree) (o : Option (Infix × Token)) → Deeper (last names d below left o) (turn names (suc d) deep from left further o)
    last-deeper from left further None = deeper_same
    last-deeper from left further (Some q) = deeper_refuse

    -- one turn more is left in one more of depth
    climb-deeper : (from level n : ℕ) (left : ExprTree) → Deeper (climb names d below from level n left) (climb names (suc d) deep from level (suc n) left)
    unfolding climb
    climb-deeper from level zero left = deeper_bind deeper_same (last-deeper from left (climb names (suc d) deep from level zero))
    climb-deeper from level (suc n) left = deeper_bind deeper_same (λ o. turn-deeper from left (climb names d below from level n) (climb names (suc d) deep from level (suc n)) o (climb-deeper from level n))

    paren-deeper : (from : ℕ) → Deeper (reading.paren names d below from) (reading.paren names (suc d) deep from)
    paren-deeper from = deeper_bind (g.expr 0) (λ e. deeper_same)

    cast-deeper : (from : ℕ) → Deeper (reading.cast names d below from) (reading.cast names (suc d) deep from)
    cast-deeper from = deeper_bind type_name-deeper (λ t. deeper_then deeper_same (deeper_bind (g.expr 13) (λ e. deeper_same)))

    bracket-deeper : (level from : ℕ) (h : Option Token) → Deeper (reading.bracket_at names d below level from h) (reading.bracket_at names (suc d) deep level from h)
    bracket-deeper level from h = deeper_if (reading.begins_type names h) (deeper_if (nat_le level 13) (cast-deeper from) deeper_same) (paren-deeper from)

    in_front-deeper : (t : Token) (o : Option PrefixOperator) → Deeper (reading.in_front names d below t o) (reading.in_front names (suc d) deep t o)
    in_front-deeper t None = deeper_same
    in_front-deeper t (Some op) = deeper_then (deeper_needs 1 d) (deeper_then (deeper_after t) (deeper_bind (g.expr _) (λ e. deeper_same)))

    sizeof_open-deeper : (from place : ℕ) (h : Option Token) → Deeper (reading.sizeof_open names d below from place h) (reading.sizeof_open names (suc d) deep from place h)
    sizeof_open-deeper from place h = deeper_if (reading.begins_type names h)
        (deeper_bind type_name-deeper (λ t. deeper_same))
        (deeper_bind (g.opened place) (λ e. deeper_same))

    sizeof-deeper : (from : ℕ) (h : Option Token) → Deeper (reading.sizeof_at names d below from h) (reading.sizeof_at names (suc d) deep from h)
    sizeof-deeper from h = deeper_if (sees p.LeftParenthesis h) (deeper_then deeper_same (deeper_look (sizeof_open-deeper from _))) (deeper_bind (g.expr 14) (λ e. deeper_same))

    operand_by-deeper : (level : ℕ) (t : Token) (k : Kind) → Deeper (operand_by names d below level t k) (operand_by names (suc d) deep level t k)
    operand_by-deeper level t (kind.Name n) = deeper_same
    operand_by-deeper level t (kind.Integer value decimal unsigned long) = deeper_same
    operand_by-deeper level t (kind.Character value) = deeper_same
    operand_by-deeper level t (kind.Text bytes) = deeper_same
    operand_by-deeper level t (kind.Punct x) = deeper_if (same_mark x p.LeftParenthesis) (deeper_then (deeper_needs 1 d) (deeper_then (deeper_after t) (deeper_look (bracket-deeper level t.from)))) (in_front-deeper t (prefix_of x))
    operand_by-deeper level t (kind.Keyword x) = deeper_if (same_word x w.Sizeof) (deeper_then (deeper_after t) (deeper_look (sizeof-deeper t.from))) (deeper_stop S1)
    operand_by-deeper level t (kind.Include x) = deeper_same

    operand_at-deeper : (level : ℕ) (h : Option Token) → Deeper (operand_at names d below level h) (operand_at names (suc d) deep level h)
    operand_at-deeper level None = deeper_same
    operand_at-deeper level (Some t) = operand_by-deeper level t t.kind

    operand-deeper : (level : ℕ) → Deeper (operand names d below level) (operand names (suc d) deep level)
    unfolding operand
    operand-deeper level = deeper_look (operand_at-deeper level)

    level_from-deeper : (level : ℕ) (h : Option Token) → Deeper (reading.level_from names d below level h) (reading.level_from names (suc d) deep level h)
    level_from-deeper level h = deeper_bind (operand-deeper level) (climb-deeper (from_of h) level (suc d))

    expr_level-deeper : (level : ℕ) → Deeper (expr_level names d below level) (expr_level names (suc d) deep level)
    unfolding expr_level
    expr_level-deeper level = deeper_look (level_from-deeper level)

    opened_level-deeper : (from : ℕ) → Deeper (opened_level names d below from) (opened_level names (suc d) deep from)
    unfolding opened_level
    opened_level-deeper from = deeper_bind (paren-deeper from) (climb-deeper from 14 (suc d))

  module _ (d : ℕ) (here here2 below deep : Parsers) (gh : (level : ℕ) → Deeper (here.expr level) (here2.expr level)) (g : AreDeeper below deep) where
    conds_at-deeper : (more further : Parser (List ExprTree)) → Deeper more further → (h : Option Token) → Deeper (reading.conds_at names d here more h) (reading.conds_at names (suc d) here2 further h)
    conds_at-deeper more further l h = deeper_if (sees p.Comma h) (deeper_then deeper_same (deeper_bind (gh 2) (λ e. deeper_bind l (λ es. deeper_same)))) deeper_same

    here_conds-deeper : (n : ℕ) → Deeper (conds names d here n) (conds names (suc d) here2 n)
    unfolding conds
    here_conds-deeper zero = deeper_same
    here_conds-deeper (suc n) = deeper_look (conds_at-deeper (conds names d here n) (conds names (suc d) here2 n) (here_conds-deeper n))

    ptrauth-deeper : (from : ℕ) → Deeper (reading.ptrauth names d here below from) (reading.ptrauth names (suc d) here2 deep from)
    ptrauth-deeper from = deeper_then deeper_same (deeper_bind (gh 2) (λ e. deeper_bind (here_conds-deeper 2) (λ es. deeper_same)))

    qualifier_at-deeper : (h : Option Token) → Deeper (reading.qualifier_at names d here below h) (reading.qualifier_at names (suc d) here2 deep h)
    qualifier_at-deeper None = deeper_same
    qualifier_at-deeper (Some t) = deeper_if (is_word w.Const t.kind) deeper_same (deeper_then (deeper_needs 1 d) (deeper_then (deeper_after t) (ptrauth-deeper t.from)))

    qualifier-deeper : Deeper (qualifier names d here below) (qualifier names (suc d) here2 deep)
    qualifier-deeper = deeper_look qualifier_at-deeper

    qualifiers-deeper : Deeper (qualifiers names d here below) (qualifiers names (suc d) here2 deep)
    unfolding qualifiers
    qualifiers-deeper = many-deeper begins_qualifier qualifier-deeper []

    member_from-deeper : (h : Option Token) → Deeper (reading.member_from names d here below h) (reading.member_from names (suc d) here2 deep h)
    member_from-deeper h = deeper_bind (g.specs true) (λ s. deeper_bind (commas-deeper (g.declarator naming.Named)) (λ ds. deeper_same))

    member-deeper : Deeper (member names d here below) (member names (suc d) here2 deep)
    unfolding member
    member-deeper = deeper_look member_from-deeper

    struct_body-deeper : (from : ℕ) (tag : Option Tag) → Deeper (reading.struct_body names d here below from tag) (reading.struct_body names (suc d) here2 deep from tag)
    struct_body-deeper from tag = deeper_then (deeper_needs 2 d) (deeper_then (deeper_mark p.LeftBrace) (deeper_bind member-deeper (λ m. deeper_bind (many-deeper not_brace member-deeper (m ∷ [])) (λ ms. deeper_same))))

    value-deeper : (h : Option Token) → Deeper (reading.value_at names d here below h) (reading.value_at names (suc d) here2 deep h)
    value-deeper h = deeper_if (sees p.Assign h) (deeper_then deeper_same (deeper_bind (g.expr 2) (λ e. deeper_same))) deeper_same

    enumerator_from-deeper : (h : Option Token) → Deeper (reading.enumerator_from names d here below h) (reading.enumerator_from names (suc d) here2 deep h)
    enumerator_from-deeper h = deeper_bind deeper_plain (λ n. deeper_bind (deeper_look value-deeper) (λ v. deeper_same))

    enumerator-deeper : Deeper (enumerator names d here below) (enumerator names (suc d) here2 deep)
    unfolding enumerator
    enumerator-deeper = deeper_look enumerator_from-deeper

    enumerator_behind-deeper : (items : List EnumeratorTree) (h : Option Token) → Deeper (reading.enumerator_behind names d here below items h) (reading.enumerator_behind names (suc d) here2 deep items h)
    enumerator_behind-deeper items h = deeper_if (sees p.RightBrace h) deeper_same (deeper_bind enumerator-deeper (λ x. deeper_same))

    enumerator_at-deeper : (items : List EnumeratorTree) (h : Option Token) → Deeper (reading.enumerator_at names d here below items h) (reading.enumerator_at names (suc d) here2 deep items h)
    enumerator_at-deeper items h = deeper_if (sees p.Comma h) (deeper_then (deeper_mark p.Comma) (deeper_look (enumerator_behind-deeper items))) deeper_same

    enumerator_step-deeper : (items : List EnumeratorTree) → Deeper (enumerator_step names d here below items) (enumerator_step names (suc d) here2 deep items)
    enumerator_step-deeper items = deeper_look (enumerator_at-deeper items)

    enum_body-deeper : (from : ℕ) (tag : Option Tag) → Deeper (reading.enum_body names d here below from tag) (reading.enum_body names (suc d) here2 deep from tag)
    enum_body-deeper from tag = deeper_then (deeper_needs 2 d) (deeper_then (deeper_mark p.LeftBrace) (deeper_bind enumerator-deeper (λ x. deeper_bind (iterate-deeper enumerator_step-deeper (x ∷ [])) (λ xs. deeper_same))))

    tagged-deeper : (bodies : Bool) (body further : Option Tag → Parser BaseTree) (alone : Tag → ℕ → BaseTree) → ((tag : Option Tag) → Deeper (body tag) (further tag)) → (tag : Tag) (h : Option Token) → Deeper (tagged_at names d here below bodies body alone tag h) (tagged_at names (suc d) here2 deep bodies further alone tag h)
    tagged-deeper bodies body further alone l tag h = deeper_if (bodies && sees p.LeftBrace h) (l (Some tag)) deeper_same

    struct-deeper : (bodies : Bool) (body further : Option Tag → Parser BaseTree) (alone : Tag → ℕ → BaseTree) → ((tag : Option Tag) → Deeper (body tag) (further tag)) → (h : Option Token) → Deeper (struct_at names d here below bodies body alone h) (struct_at names (suc d) here2 deep bodies further alone h)
    struct-deeper bodies body further alone l h = deeper_if (bodies && sees p.LeftBrace h) (l None) (deeper_bind deeper_plain (λ tag. deeper_look (tagged-deeper bodies body further alone l tag)))

    words_at-deeper : (t : Token) (o : Option IntegerWord) → Deeper (words_at names d here below t o) (words_at names (suc d) here2 deep t o)
    words_at-deeper t None = deeper_same
    words_at-deeper t (Some x) = deeper_same

    base_word-deeper : (bodies : Bool) (t : Token) (x : Keyword) → Deeper (base_word names d here below bodies t x) (base_word names (suc d) here2 deep bodies t x)
    base_word-deeper bodies t w.Void = deeper_same
    base_word-deeper bodies t w.Bool = deeper_same
    base_word-deeper bodies t w.Struct = deeper_then (deeper_after t)
        (deeper_look (struct-deeper bodies (reading.struct_body names d here below t.from) (reading.struct_body names (suc d) here2 deep t.from) (λ tag z. StructTag tag t.from z) (struct_body-deeper t.from)))
    base_word-deeper bodies t w.Enum = deeper_then (deeper_after t)
        (deeper_look (struct-deeper bodies (reading.enum_body names d here below t.from) (reading.enum_body names (suc d) here2 deep t.from) (λ tag z. EnumTag tag t.from z) (enum_body-deeper t.from)))
    base_word-deeper bodies t x = words_at-deeper t (word_in x)

    base_by-deeper : (bodies : Bool) (t : Token) (k : Kind) → Deeper (base_by names d here below bodies t k) (base_by names (suc d) here2 deep bodies t k)
    base_by-deeper bodies t (kind.Name n) = deeper_same
    base_by-deeper bodies t (kind.Keyword x) = base_word-deeper bodies t x
    base_by-deeper bodies t _ = deeper_same

    base_at-deeper : (bodies : Bool) (h : Option Token) → Deeper (reading.base_at names d here below bodies h) (reading.base_at names (suc d) here2 deep bodies h)
    base_at-deeper bodies None = deeper_same
    base_at-deeper bodies (Some t) = base_by-deeper bodies t t.kind

    base-deeper : (bodies : Bool) → Deeper (base names d here below bodies) (base names (suc d) here2 deep bodies)
    unfolding base
    base-deeper bodies = deeper_look (base_at-deeper bodies)

    specs_from-deeper : (bodies : Bool) (h : Option Token) → Deeper (reading.specs_from names d here below bodies h) (reading.specs_from names (suc d) here2 deep bodies h)
    specs_from-deeper bodies h = deeper_bind qualifiers-deeper (λ b. deeper_bind (base-deeper bodies) (λ x. deeper_bind qualifiers-deeper (λ a. deeper_same)))

    specs_level-deeper : (bodies : Bool) → Deeper (specs_level names d here below bodies) (specs_level names (suc d) here2 deep bodies)
    unfolding specs_level
    specs_level-deeper bodies = deeper_look (specs_from-deeper bodies)

  module _ (d : ℕ) (below deep : Parsers) (g : AreDeeper below deep) where
    length_at-deeper : (h : Option Token) → Deeper (reading.length_at names d below h) (reading.length_at names (suc d) deep h)
    length_at-deeper h = deeper_if (sees p.RightBracket h) deeper_same (deeper_bind (g.expr 2) (λ e. deeper_same))

    array-deeper : (from : ℕ) (of : DeclaratorTree) → Deeper (reading.array names d below from of) (reading.array names (suc d) deep from of)
    array-deeper from of = deeper_bind (deeper_look length_at-deeper) (λ n. deeper_same)

    parameter_from-deeper : (h : Option Token) → Deeper (reading.parameter_from names d below h) (reading.parameter_from names (suc d) deep h)
    parameter_from-deeper h = deeper_bind (g.specs false) (λ s. deeper_bind (g.declarator naming.Either) (λ x. deeper_same))

    parameter-deeper : Deeper (parameter names d below) (parameter names (suc d) deep)
    unfolding parameter
    parameter-deeper = deeper_look parameter_from-deeper

    parameters_at-deeper : (h : Option Token) → Deeper (reading.parameters_at names d below h) (reading.parameters_at names (suc d) deep h)
    parameters_at-deeper h = deeper_if (sees p.RightParenthesis h) deeper_same (deeper_bind (commas-deeper parameter-deeper) (λ ps. deeper_same))

    function-deeper : (from : ℕ) (of : DeclaratorTree) → Deeper (reading.function names d below from of) (reading.function names (suc d) deep from of)
    function-deeper from of = deeper_bind (deeper_look parameters_at-deeper)
        (λ ps. deeper_same)

    suffix_at-deeper : (from : ℕ) (of : DeclaratorTree) (h : Option Token) → Deeper (reading.suffix_at names d below from of h) (reading.suffix_at names (suc d) deep from of h)
    suffix_at-deeper from of None = deeper_same
    suffix_at-deeper from of (Some t) = deeper_if (is_mark p.LeftBracket t.kind) (deeper_then (deeper_needs (declarator_height of) d) (deeper_then (deeper_after t) (deeper_bind (array-deeper from of) (λ x. deeper_same))))
        (deeper_if (is_mark p.LeftParenthesis t.kind) (deeper_then (deeper_needs (declarator_height of) d) (deeper_then (deeper_after t) (deeper_bind (function-deeper from of) (λ x. deeper_same)))) deeper_same)

    suffix-deeper : (from : ℕ) (of : DeclaratorTree) → Deeper (suffix names d below from of) (suffix names (suc d) deep from of)
    unfolding suffix
    suffix-deeper from of = deeper_look (suffix_at-deeper from of)

    suffixed-deeper : (more further : DeclaratorTree → Parser DeclaratorTree) (of : DeclaratorTree) (o : Option DeclaratorTree) → ((x : DeclaratorTree) → Deeper (more x) (further x)) → Deeper (suffixed names d below more of o) (suffixed names (suc d) deep further of o)
    suffixed-deeper more further of None m = deeper_same
    suffixed-deeper more further of (Some x) m = m x

    suffixes-deeper : (from n : ℕ) (of : DeclaratorTree) → Deeper (suffixes names d below from n of) (suffixes names (suc d) deep from (suc n) of)
    unfolding suffixes
    suffixes-deeper from zero of = deeper_bind (suffix-deeper from of) (λ o. suffixed-deeper _ (suffixes names (suc d) deep from zero) of o (λ x. deeper_refuse))
    suffixes-deeper from (suc n) of = deeper_bind (suffix-deeper from of) (λ o. suffixed-deeper (suffixes names d below from n) (suffixes names (suc d) deep from (suc n)) of o (suffixes-deeper from n))

    pointer-deeper : (name : Naming) (from : ℕ) → Deeper (reading.pointer names d below name from) (reading.pointer names (suc d) deep name from)
    pointer-deeper name from = deeper_bind (qualifiers-deeper d below deep below deep g.expr g) (λ qs. deeper_bind (g.declarator name) (λ x. deeper_same))

    grouped-deeper : (name : Naming) (from : ℕ) → Deeper (reading.grouped names d below name from) (reading.grouped names (suc d) deep name from)
    grouped-deeper name from = deeper_bind (g.declarator name) (λ x. deeper_same)

    open-deeper : (name : Naming) (from end : ℕ) (h : Option Token) → Deeper (reading.open_at names d below name from end h) (reading.open_at names (suc d) deep name from end h)
    open-deeper name from end h = deeper_if (reading.takes_none name && (reading.begins_type names h || sees p.RightParenthesis h)) (function-deeper from (Absent end end)) (grouped-deeper name from)

    direct_mark-deeper : (name : Naming) (t : Token) (end : ℕ) (k : Kind) → Deeper (reading.direct_mark names d below name t end k) (reading.direct_mark names (suc d) deep name t end k)
    direct_mark-deeper name t end k = deeper_if (is_mark p.LeftParenthesis k) (deeper_then (deeper_needs (reading.least name) d) (deeper_then (deeper_after t) (deeper_bind (deeper_look (open-deeper name t.from end)) (suffixes-deeper t.from (suc d)))))
        (deeper_if (reading.takes_none name) (suffixes-deeper t.from (suc d) (Absent end end)) deeper_same)

    direct_by-deeper : (name : Naming) (t : Token) (end : ℕ) (k : Kind) → Deeper (reading.direct_by names d below name t end k) (reading.direct_by names (suc d) deep name t end k)
    direct_by-deeper name t end (kind.Name n) = deeper_if (reading.takes_name name && not (is_type names n)) (deeper_then (deeper_after t) (suffixes-deeper t.from (suc d) (Named n t.from t.to))) deeper_same
    direct_by-deeper name t end k = direct_mark-deeper name t end k

    declarator_at-deeper : (name : Naming) (end : ℕ) (h : Option Token) → Deeper (reading.declarator_at names d below name end h) (reading.declarator_at names (suc d) deep name end h)
    declarator_at-deeper name end None = deeper_if (reading.takes_none name) deeper_same deeper_same
    declarator_at-deeper name end (Some t) = deeper_if (is_mark p.Star t.kind) (deeper_then (deeper_needs (reading.least name) d) (deeper_then (deeper_after t) (pointer-deeper name t.from))) (direct_by-deeper name t end t.kind)

    declarator_level-deeper : (name : Naming) → Deeper (declarator_level names d below name) (declarator_level names (suc d) deep name)
    unfolding declarator_level
    declarator_level-deeper name = deeper_bind deeper_ended (λ end. deeper_look (declarator_at-deeper name end))

  -- In no depth: what begins no tree there begins none in a depth of one.
  or_left : (a b : Bool) → a || b ≡ false → a ≡ false
  or_left true b e = e
  or_left false b e = refl

  or_right : (a b : Bool) → a || b ≡ false → b ≡ false
  or_right true b e = absurd cc
  or_right false b e = e

  none_of : {A : Type 0} (o : Option A) → is_some o ≡ false → o ≡ None
  none_of None e = refl
  none_of (Some x) e = absurd cc

  not_false : (b : Bool) → not b ≡ false → b ≡ true
  not_false true e = refl
  not_false false e = absurd cc

  begins_not : (level : ℕ) (t : Token) (k : Kind) (c : Cursor) → begins_expr_by names k ≡ false → operand_by names 0 (parsers names 0) level t k c ≡ Err (record { rule = Broken S1; at = c })
  begins_not level t (kind.Name n) c e = rw (not_false (is_type names n) e) refl
  begins_not level t (kind.Integer value decimal unsigned long) c e = absurd cc
  begins_not level t (kind.Character value) c e = absurd cc
  begins_not level t (kind.Text bytes) c e = absurd cc
  begins_not level t (kind.Punct x) c e = rw (or_left (same_mark x p.LeftParenthesis) (is_some (prefix_of x)) e, none_of (prefix_of x) (or_right (same_mark x p.LeftParenthesis) (is_some (prefix_of x)) e)) refl
  begins_not level t (kind.Keyword x) c e = rw e refl
  begins_not level t (kind.Include x) c e = refl

  by_begins : (level : ℕ) (f : ExprTree → Parser ExprTree) (c : Cursor) (t : Token) (b : Bool) → begins_expr_by names t.kind ≡ b → Kept (cond b (refuse {A = ExprTree} S2) (refuse S1) c) (and_then (operand_by names 0 (parsers names 0) level t t.kind c) f)
  by_begins level f c t true e = λ n. absurd (n refl)
  by_begins level f c t false e = λ n. rw (begins_not level t t.kind c e) refl

  none_expr : (level : ℕ) (f : ExprTree → Parser ExprTree) (c : Cursor) (h : Option Token) → Kept (no_room names (begins_expr_by names) h c) (and_then (operand_at names 0 (parsers names 0) level h c) f)
  none_expr level f c None = λ _. refl
  none_expr level f c (Some t) = by_begins level f c t (begins_expr_by names t.kind) refl

  no_expr-deeper : (level : ℕ) → Deeper (no_expr names) (expr_level names 0 (parsers names 0) level)
  unfolding no_expr expr_level operand
  no_expr-deeper level = record { holds = λ c. none_expr level (climb names 0 (parsers names 0) (from_of (head c.ahead)) level 1) c (head c.ahead) }

  stays : (b : Bool) (c : Cursor) (f g : ExprTree → Parser ExprTree) → Kept (cond b (refuse S2) (refuse S1) c) (and_then (and_then (cond b (refuse S2) (refuse S1) c) f) g)
  stays true c f g = λ _. refl
  stays false c f g = λ _. refl

  no_room_stays : (h : Option Token) (c : Cursor) (f g : ExprTree → Parser ExprTree) → Kept (no_room names (begins_expr_by names) h c) (and_then (and_then (no_room names (begins_expr_by names) h c) f) g)
  no_room_stays None c f g = λ _. refl
  no_room_stays (Some t) c f g = stays (begins_expr_by names t.kind) c f g

  opened-first : (from : ℕ) → Deeper (no_expr names) (opened_level names 0 (parsers names 0) from)
  unfolding no_expr opened_level parsers
  opened-first from = record { holds = λ c. no_room_stays (head c.ahead) c _ _ }

  off : {A : Type 0} (o : Outcome A) (b : Bool) (here other : Parser A) (c : Cursor) → b ≡ false → Kept o (other c) → Kept o (cond b here other c)
  off o true here other c e h = absurd cc
  off o false here other c e h = h

  suffixes_none : (from : ℕ) (of : DeclaratorTree) (c : Cursor) (t : Token) → Some t ≡ head c.ahead → is_mark p.LeftBracket t.kind ≡ false → is_mark p.LeftParenthesis t.kind ≡ false → suffixes names 0 (parsers names 0) from 1 of c ≡ Ok (of, c)
  unfolding suffixes suffix
  suffixes_none from of c t e l r = rw (← e, l, r) refl

  plain : (name : Naming) (end : ℕ) (c : Cursor) (t : Token) (k : Kind) → Some t ≡ head c.ahead → t.kind ≡ k → is_mark p.LeftParenthesis k ≡ false → reading.takes_none name && is_mark p.LeftBracket k ≡ false
      → Kept (cond (reading.takes_none name) (pure (Absent end end)) (refuse S1) c) (reading.direct_mark names 0 (parsers names 0) name t end k c)
  plain naming.Named end c t k e q l r = off (refuse {A = DeclaratorTree} S1 c) (is_mark p.LeftParenthesis k) _ _ c l (kept (refuse {A = DeclaratorTree} S1 c))
  plain naming.Unnamed end c t k e q l r = off (pure (Absent end end) c) (is_mark p.LeftParenthesis k) _ _ c l (suffixes_none t.from (Absent end end) c t e (rw q r) (rw q l))
  plain naming.Either end c t k e q l r = off (pure (Absent end end) c) (is_mark p.LeftParenthesis k) _ _ c l (suffixes_none t.from (Absent end end) c t e (rw q r) (rw q l))

  bare_kind : (name : Naming) (end : ℕ) (c : Cursor) (t : Token) (k : Kind) → Some t ≡ head c.ahead → t.kind ≡ k → reading.begins_declarator names name k ≡ false
      → Kept (cond (reading.takes_none name) (pure (Absent end end)) (refuse S1) c) (reading.declarator_by names 0 (parsers names 0) name t end k c)
  bare_kind name end c t (kind.Name n) e q b = off (cond (reading.takes_none name) (pure (Absent end end)) (refuse S1) c) (reading.takes_name name && not (is_type names n)) _ _ c b (kept (cond (reading.takes_none name) (pure (Absent end end)) (refuse S1) c))
  bare_kind name end c t k e q b =
      let star = or_left (is_mark p.Star k) (is_mark p.LeftParenthesis k || (reading.takes_none name && is_mark p.LeftBracket k)) b in
      let rest = or_right (is_mark p.Star k) (is_mark p.LeftParenthesis k || (reading.takes_none name && is_mark p.LeftBracket k)) b in
      off (cond (reading.takes_none name) (pure (Absent end end)) (refuse S1) c) (is_mark p.Star k) (needs (reading.least name) 0 >> after t >> reading.pointer names 0 (parsers names 0) name t.from) (reading.direct_by names 0 (parsers names 0) name t end k) c star
      (plain name end c t k e q (or_left (is_mark p.LeftParenthesis k) (reading.takes_none name && is_mark p.LeftBracket k) rest) (or_right (is_mark p.LeftParenthesis k) (reading.takes_none name && is_mark p.LeftBracket k) rest))

  bare_by : (name : Naming) (end : ℕ) (c : Cursor) (t : Token) → Some t ≡ head c.ahead → (b : Bool) → reading.begins_declarator names name t.kind ≡ b
      → Kept (cond b (refuse S2) (cond (reading.takes_none name) (pure (Absent end end)) (refuse S1)) c) (reading.declarator_by names 0 (parsers names 0) name t end t.kind c)
  bare_by name end c t e true b = λ n. absurd (n refl)
  bare_by name end c t e false b = bare_kind name end c t t.kind e refl b

  bare_at-kept : (name : Naming) (end : ℕ) (c : Cursor) (h : Option Token) → h ≡ head c.ahead → Kept (reading.bare_at names name end h c) (reading.declarator_at names 0 (parsers names 0) name end h c)
  bare_at-kept name end c None e = kept (cond (reading.takes_none name) (pure (Absent end end)) (refuse S1) c)
  bare_at-kept name end c (Some t) e = bare_by name end c t e (reading.begins_declarator names name t.kind) refl

  bare-deeper : (name : Naming) → Deeper (bare_declarator names name) (declarator_level names 0 (parsers names 0) name)
  unfolding bare_declarator declarator_level
  bare-deeper name = deeper_bind deeper_ended (λ end. record { holds = λ c. bare_at-kept name end c (head c.ahead) refl })

  first : AreDeeper (no_parsers names) (parsers names 0)
  unfolding parsers
  first = record { expr = λ level. deeper_same; opened = λ from. deeper_same; specs = λ bodies. deeper_refuse; declarator = λ name. deeper_same }

  pub parsers-deeper : (d : ℕ) → AreDeeper (parsers names d) (parsers names (suc d))
  unfolding parsers
  parsers-deeper zero = record {
    expr = no_expr-deeper;
    opened = opened-first;
    specs = specs_level-deeper 0 (no_parsers names) _ (no_parsers names) (parsers names 0) no_expr-deeper first;
    declarator = bare-deeper;
  }
  parsers-deeper (suc d) = record {
    expr = expr_level-deeper d (parsers names d) (parsers names (suc d)) (parsers-deeper d);
    opened = opened_level-deeper d (parsers names d) (parsers names (suc d)) (parsers-deeper d);
    specs = specs_level-deeper (suc d) _ _ (parsers names d) (parsers names (suc d)) (expr_level-deeper d (parsers names d) (parsers names (suc d)) (parsers-deeper d)) (parsers-deeper d);
    declarator = declarator_level-deeper d (parsers names d) (parsers names (suc d)) (parsers-deeper d);
  }

-- A reader that more depth keeps, level by level, is kept by any depth that is no less: where it stops for S1, it stops so there.
module _ {A : Type 0} (p : ℕ → Parser A) (next : (d : ℕ) → Deeper (p d) (p (suc d))) where
  much_deeper : (n d e : ℕ) → e ≡ n + d → Deeper (p d) (p e)
  much_deeper zero d e h = let same : d ≡ e = omega arith in subst (λ k. Deeper (p d) (p k)) same deeper_same
  much_deeper (suc n) d e h = deeper_trans (next d) (much_deeper n (suc d) e (omega arith))

  pub stops_deeper : (d e : ℕ) (c : Cursor) (s : Stop) → d ≤ e → s.rule ≢ Broken S2 → p d c ≡ Err s → p e c ≡ Err s
  stops_deeper d e c s l n q = (rw q at ((much_deeper (e - d) d e (omega arith)).holds c)) n
