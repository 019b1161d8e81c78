-- More depth changes no answer, and of the refusals only those by depth.
use Rattle.std.proofs.Common.{◌≡◌, ◌≢◌, ◌≤◌, ◌+◌, ◌-◌, ℕ, zero, suc, List, [], ◌∷◌, Option, Some, None, Err, Bool, true, false, cond, not, ◌&&◌, refl, subst, arith}
use Rattle.pa_lex.specs.declared.token.Kind.{Kind}
use Rattle.pa_lex.specs.declared.token.Kind.TheVariants as kind
use Rattle.pa_lex.specs.declared.token.Keyword.{Keyword}
use Rattle.pa_lex.specs.declared.token.Keyword.TheVariants as w
use Rattle.pa_lex.specs.declared.token.Punct.TheVariants as p
use Rattle.pa_lex.specs.declared.token.Token.{Token}
use Rattle.pa_tree.specs.declared.file.Storage.{Storage}
use Rattle.pa_tree.specs.declared.file.Storage.TheVariants as storage
use Rattle.pa_grammar.specs.declared.rule.SynRule.TheVariants.{S1, S2}
use Rattle.pa_grammar.specs.declared.rule.Naming.TheVariants as naming
use Rattle.pa_grammar.specs.declared.rule.ParseError.TheVariants.{Broken}
use Rattle.pa_tree.specs.Cursors.{Cursor, head, from_of}
use Rattle.pa_tree.specs.Exprs.{ExprTree, SpecsTree, DeclaratorTree}
use Rattle.pa_tree.specs.Stmts.{Expression, InitializerTree, InitDeclaratorTree, StmtTree, FileTree}
use Rattle.pa_tree.specs.Files.{behind, behind_all, behind_item}
use Rattle.pa_grammar.specs.Tokens.{is_mark}
use Rattle.pa_grammar.specs.Parser.{Parser, Outcome, Stop, and_then, ◌>>=◌, ◌>>◌, pure, refuse, look, ended, mark, sees}
use Rattle.pa_grammar.specs.Reading.{begins_type, not_brace, no_expr, no_room, begins_expr_by, parsers}
use Rattle.pa_grammar.proofs.Deeper.{Kept, Deeper, deeper_same, deeper_bind, deeper_then, deeper_look, deeper_if, deeper_refuse, deeper_after, deeper_mark, deeper_needs, deeper_trans, iterate-deeper, many-deeper, parsers-deeper}
use Rattle.pa_file_grammar.specs.Reading as reading

deeper_word : (x : Keyword) → Deeper (reading.word x) (reading.word x)
deeper_word x = deeper_same

module _ (names : List ℕ) where
  item_behind-deeper : (item further : Parser InitializerTree) → Deeper item further → (items : List InitializerTree) (h : Option Token) → Deeper (reading.item_behind names item items h) (reading.item_behind names further items h)
  item_behind-deeper item further g items h = deeper_if (sees p.RightBrace h) deeper_same (deeper_bind g (λ x. deeper_same))

  more_at-deeper : (item further : Parser InitializerTree) → Deeper item further → (items : List InitializerTree) (h : Option Token) → Deeper (reading.more_at names item items h) (reading.more_at names further items h)
  more_at-deeper item further g items h = deeper_if (sees p.Comma h) (deeper_then (deeper_mark p.Comma) (deeper_look (item_behind-deeper item further g items))) deeper_same

  more_step-deeper : (item further : Parser InitializerTree) → Deeper item further → (items : List InitializerTree) → Deeper (reading.more_step names item items) (reading.more_step names further items)
  more_step-deeper item further g items = deeper_look (more_at-deeper item further g items)

  value-deeper : (d from : ℕ) → Deeper (reading.value names d from) (reading.value names (suc d) from)
  value-deeper d from = deeper_bind ((parsers-deeper names d).expr 1) (λ e. deeper_same)

  initializer_at-deeper : (d : ℕ) (item further : Parser InitializerTree) → Deeper item further → (h : Option Token) → Deeper (reading.initializer_at names d item h) (reading.initializer_at names (suc d) further h)
  initializer_at-deeper d item further g h = deeper_if (sees p.LeftBrace h)
      (deeper_then (deeper_needs 1 d) (deeper_then (deeper_mark p.LeftBrace) (deeper_bind g (λ x. deeper_bind (iterate-deeper (more_step-deeper item further g) (x ∷ [])) (λ xs. deeper_same)))))
      (value-deeper (suc d) (from_of h))

  no_initializer_at-deeper : (h : Option Token) → Deeper (reading.no_initializer_at names h) (reading.initializer_at names 0 (reading.initializer names 0) h)
  no_initializer_at-deeper h = deeper_if (sees p.LeftBrace h) deeper_refuse (value-deeper 0 (from_of h))

  initializer-deeper : (d : ℕ) → Deeper (reading.initializer names d) (reading.initializer names (suc d))
  unfolding reading.initializer
  initializer-deeper zero = deeper_look no_initializer_at-deeper
  initializer-deeper (suc d) = deeper_look (initializer_at-deeper d (reading.initializer names d) (reading.initializer names (suc d)) (initializer-deeper d))

  assigned_at-deeper : (d : ℕ) (h : Option Token) → Deeper (reading.assigned_at names d h) (reading.assigned_at names (suc d) h)
  assigned_at-deeper d h = deeper_if (sees p.Assign h) (deeper_then deeper_same (deeper_bind (initializer-deeper d) (λ i. deeper_same))) deeper_same

  assigned-deeper : (d : ℕ) → Deeper (reading.assigned names d) (reading.assigned names (suc d))
  unfolding reading.assigned
  assigned-deeper d = deeper_look (assigned_at-deeper d)

module _ (word : Option Storage) (d : ℕ) where
  finished-deeper : (names : List ℕ) (from : ℕ) (x : DeclaratorTree) → Deeper (reading.finished word d names from x) (reading.finished word (suc d) names from x)
  finished-deeper names from x = deeper_bind (assigned-deeper (behind word x names) d) (λ i. deeper_same)

  init_declarator_from-deeper : (names : List ℕ) (h : Option Token) → Deeper (reading.init_declarator_from word d names h) (reading.init_declarator_from word (suc d) names h)
  init_declarator_from-deeper names h = deeper_bind ((parsers-deeper names d).declarator naming.Named) (finished-deeper names (from_of h))

  init_declarator-deeper : (names : List ℕ) → Deeper (reading.init_declarator word d names) (reading.init_declarator word (suc d) names)
  unfolding reading.init_declarator
  init_declarator-deeper names = deeper_look (init_declarator_from-deeper names)

  declared_at-deeper : (names : List ℕ) (items : List InitDeclaratorTree) (h : Option Token) → Deeper (reading.declared_at word d names items h) (reading.declared_at word (suc d) names items h)
  declared_at-deeper names items h = deeper_if (sees p.Comma h) (deeper_then deeper_same (deeper_bind (init_declarator-deeper (behind_all word items names)) (λ x. deeper_same))) deeper_same

  declared-deeper : (names : List ℕ) (items : List InitDeclaratorTree) → Deeper (reading.declared word d names items) (reading.declared word (suc d) names items)
  declared-deeper names items = iterate-deeper (λ xs. deeper_look (declared_at-deeper names xs)) items

module _ (names : List ℕ) where
  block_declaration_from-deeper : (d : ℕ) (h : Option Token) → Deeper (reading.block_declaration_from names d h) (reading.block_declaration_from names (suc d) h)
  block_declaration_from-deeper d h = deeper_then (deeper_needs 1 d) (deeper_bind ((parsers-deeper names d).specs false) (λ s. deeper_bind (init_declarator-deeper None d names) (λ x. deeper_bind (declared-deeper None d names (x ∷ [])) (λ xs. deeper_same))))

  block_declaration-deeper : (d : ℕ) → Deeper (reading.block_declaration names d) (reading.block_declaration names (suc d))
  unfolding reading.block_declaration
  block_declaration-deeper d = deeper_look (block_declaration_from-deeper d)

  module _ (d : ℕ) (below further : Parser StmtTree) (g : Deeper below further) where
    expr-deeper : Deeper (reading.expr names d below) (reading.expr names (suc d) further)
    expr-deeper = (parsers-deeper names d).expr 0

    maybe_at-deeper : (stop : Option Token → Bool) (h : Option Token) → Deeper (reading.maybe_at names d below stop h) (reading.maybe_at names (suc d) further stop h)
    maybe_at-deeper stop h = deeper_if (stop h) deeper_same (deeper_bind expr-deeper (λ e. deeper_same))

    maybe-deeper : (stop : Option Token → Bool) → Deeper (reading.maybe names d below stop) (reading.maybe names (suc d) further stop)
    maybe-deeper stop = deeper_look (maybe_at-deeper stop)

    item_from-deeper : (h : Option Token) → Deeper (reading.item_from names d below h) (reading.item_from names (suc d) further h)
    item_from-deeper h = deeper_if (begins_type names h) (deeper_bind (block_declaration-deeper d) (λ b. deeper_same)) (deeper_bind g (λ s. deeper_same))

    item-deeper : Deeper (reading.item names d below) (reading.item names (suc d) further)
    unfolding reading.item
    item-deeper = deeper_look item_from-deeper

    block-deeper : (from : ℕ) → Deeper (reading.block names d below from) (reading.block names (suc d) further from)
    block-deeper from = deeper_bind (many-deeper not_brace item-deeper []) (λ xs. deeper_same)

    tested-deeper : Deeper (reading.tested names d below) (reading.tested names (suc d) further)
    tested-deeper = deeper_then deeper_same (deeper_bind expr-deeper (λ e. deeper_same))

    else_at-deeper : (from : ℕ) (x : ExprTree) (s : StmtTree) (h : Option Token) → Deeper (reading.else_at names d below from x s h) (reading.else_at names (suc d) further from x s h)
    else_at-deeper from x s h = deeper_if (reading.reads_word w.Else h) (deeper_then deeper_same (deeper_bind g (λ y. deeper_same))) deeper_same

    start_from-deeper : (h : Option Token) → Deeper (reading.start_from names d below h) (reading.start_from names (suc d) further h)
    start_from-deeper h = deeper_if (begins_type names h) (deeper_bind (block_declaration-deeper d) (λ b. deeper_same)) (deeper_bind (maybe-deeper (sees p.Semicolon)) (λ e. deeper_same))

    for-deeper : (from : ℕ) → Deeper (reading.loop_for names d below from) (reading.loop_for names (suc d) further from)
    for-deeper from = deeper_then (deeper_mark p.LeftParenthesis) (deeper_bind (deeper_look start_from-deeper) (λ i. deeper_bind (maybe-deeper (sees p.Semicolon))
        (λ x. deeper_then (deeper_mark p.Semicolon) (deeper_bind (maybe-deeper (sees p.RightParenthesis)) (λ s. deeper_then (deeper_mark p.RightParenthesis) (deeper_bind g (λ b. deeper_same)))))))

    do-deeper : (from : ℕ) → Deeper (reading.loop_do names d below from) (reading.loop_do names (suc d) further from)
    do-deeper from = deeper_bind g (λ b. deeper_then (deeper_word w.While) (deeper_bind tested-deeper (λ x. deeper_same)))

    expression-deeper : (from : ℕ) → Deeper (reading.expression names d below from) (reading.expression names (suc d) further from)
    expression-deeper from = deeper_bind (maybe-deeper (sees p.Semicolon)) (λ x. deeper_same)

    by_word-deeper : (t : Token) (x : Keyword) → Deeper (reading.by_word names d below t x) (reading.by_word names (suc d) further t x)
    by_word-deeper t w.If = deeper_then (deeper_needs 1 d) (deeper_then (deeper_after t) (deeper_bind tested-deeper (λ x. deeper_bind g (λ s. deeper_look (else_at-deeper t.from x s)))))
    by_word-deeper t w.While = deeper_then (deeper_needs 1 d) (deeper_then (deeper_after t) (deeper_bind tested-deeper (λ x. deeper_bind g (λ b. deeper_same))))
    by_word-deeper t w.Do = deeper_then (deeper_needs 1 d) (deeper_then (deeper_after t) (do-deeper t.from))
    by_word-deeper t w.For = deeper_then (deeper_needs 1 d) (deeper_then (deeper_after t) (for-deeper t.from))
    by_word-deeper t w.Switch = deeper_then (deeper_needs 1 d) (deeper_then (deeper_after t) (deeper_bind tested-deeper (λ x. deeper_bind g (λ b. deeper_same))))
    by_word-deeper t w.Case = deeper_then (deeper_needs 1 d) (deeper_then (deeper_after t) (deeper_bind ((parsers-deeper names d).expr 2) (λ x. deeper_then (deeper_mark p.Colon) (deeper_bind g (λ b. deeper_same)))))
    by_word-deeper t w.Default = deeper_then (deeper_needs 1 d) (deeper_then (deeper_after t) (deeper_then (deeper_mark p.Colon) (deeper_bind g (λ b. deeper_same))))
    by_word-deeper t w.Break = deeper_same
    by_word-deeper t w.Continue = deeper_same
    by_word-deeper t w.Return = deeper_then (deeper_after t) (deeper_bind (maybe-deeper (sees p.Semicolon)) (λ x. deeper_same))
    by_word-deeper t x = expression-deeper t.from

    by_kind-deeper : (t : Token) (k : Kind) → Deeper (reading.by_kind names d below t k) (reading.by_kind names (suc d) further t k)
    by_kind-deeper t (kind.Keyword x) = by_word-deeper t x
    by_kind-deeper t (kind.Punct p.LeftBrace) = deeper_then (deeper_after t) (block-deeper t.from)
    by_kind-deeper t k = expression-deeper t.from

    stmt_at-deeper : (h : Option Token) → Deeper (reading.stmt_at names d below h) (reading.stmt_at names (suc d) further h)
    stmt_at-deeper None = deeper_same
    stmt_at-deeper (Some t) = by_kind-deeper t t.kind

    stmt_level-deeper : Deeper (reading.stmt_level names d below) (reading.stmt_level names (suc d) further)
    unfolding reading.stmt_level
    stmt_level-deeper = deeper_look stmt_at-deeper

  -- In no depth: what begins no statement there begins none in a depth of one.
  by_word_is : (t : Token) (x : Keyword) → reading.begins_stmt_word names x ≡ false → reading.by_word names 0 (reading.stmt names 0) t x ≡ reading.expression names 0 (reading.stmt names 0) t.from
  by_word_is t w.If e = absurd cc
  by_word_is t w.While e = absurd cc
  by_word_is t w.Do e = absurd cc
  by_word_is t w.For e = absurd cc
  by_word_is t w.Switch e = absurd cc
  by_word_is t w.Case e = absurd cc
  by_word_is t w.Default e = absurd cc
  by_word_is t w.Break e = absurd cc
  by_word_is t w.Continue e = absurd cc
  by_word_is t w.Return e = absurd cc
  by_word_is t x e = refl

  by_kind_is : (t : Token) (k : Kind) → reading.begins_stmt names k ≡ false → reading.by_kind names 0 (reading.stmt names 0) t k ≡ reading.expression names 0 (reading.stmt names 0) t.from
  by_kind_is t (kind.Keyword x) e = by_word_is t x e
  by_kind_is t (kind.Punct p.LeftBrace) e = absurd cc
  by_kind_is t k e = refl

  no_semicolon : (k : Kind) → reading.begins_stmt names k ≡ false → is_mark p.Semicolon k ≡ false
  no_semicolon (kind.Punct p.Semicolon) e = absurd cc
  no_semicolon k e = refl

  refused_both : (b : Bool) (c : Cursor) (f : ExprTree → Parser StmtTree) (g : ExprTree → Parser (Option ExprTree)) (i : Option ExprTree → Parser StmtTree)
      → Kept (and_then (cond b (refuse S2) (refuse S1) c) f) (and_then (and_then (cond b (refuse S2) (refuse S1) c) g) i)
  refused_both true c f g i = λ _. refl
  refused_both false c f g i = λ _. refl

  no_room_both : (h : Option Token) (c : Cursor) (f : ExprTree → Parser StmtTree) (g : ExprTree → Parser (Option ExprTree)) (i : Option ExprTree → Parser StmtTree)
      → Kept (and_then (no_room names (begins_expr_by names) h c) f) (and_then (and_then (no_room names (begins_expr_by names) h c) g) i)
  no_room_both None c f g i = λ _. refl
  no_room_both (Some t) c f g i = refused_both (begins_expr_by names t.kind) c f g i

  off_then : (b : Bool) (c : Cursor) (o : Outcome StmtTree) (here other : Parser (Option ExprTree)) (i : Option ExprTree → Parser StmtTree) → b ≡ false → Kept o (and_then (other c) i) → Kept o (and_then (cond b here other c) i)
  off_then true c o here other i e h = absurd cc
  off_then false c o here other i e h = h

  semicolon_off : (t : Token) (c : Cursor) → Some t ≡ head c.ahead → is_mark p.Semicolon t.kind ≡ false → sees p.Semicolon (head c.ahead) ≡ false
  semicolon_off t c e s = rw (← e) s

  no_expression : (from : ℕ) (t : Token) (c : Cursor) → Some t ≡ head c.ahead → is_mark p.Semicolon t.kind ≡ false
      → Kept (((parsers names 0).expr 0 >> refuse {A = StmtTree} S1) c) (reading.expression names 0 (reading.stmt names 0) from c)
  unfolding parsers no_expr
  no_expression from t c e s = off_then (sees p.Semicolon (head c.ahead)) c (((parsers names 0).expr 0 >> refuse {A = StmtTree} S1) c) (pure None) ((parsers names 0).expr 0 >>= (λ x. pure (Some x)))
      (λ x. mark p.Semicolon >> ended >>= (λ z. pure (Expression x from z))) (semicolon_off t c e s)
      (no_room_both (head c.ahead) c (λ _. refuse S1) (λ x. pure (Some x)) (λ x. mark p.Semicolon >> ended >>= (λ z. pure (Expression x from z))))

  by_begins : (t : Token) (c : Cursor) → Some t ≡ head c.ahead → (b : Bool) → reading.begins_stmt names t.kind ≡ b
      → Kept (cond b (refuse {A = StmtTree} S2) ((parsers names 0).expr 0 >> refuse S1) c) (reading.by_kind names 0 (reading.stmt names 0) t t.kind c)
  by_begins t c e true q = λ n. absurd (n refl)
  by_begins t c e false q = rw (by_kind_is t t.kind q) (no_expression t.from t c e (no_semicolon t.kind q))

  no_stmt_at-kept : (c : Cursor) (h : Option Token) → h ≡ head c.ahead → Kept (reading.no_stmt_at names h c) (reading.stmt_at names 0 (reading.stmt names 0) h c)
  no_stmt_at-kept c None e = λ _. refl
  no_stmt_at-kept c (Some t) e = by_begins t c e (reading.begins_stmt names t.kind) refl

  no_stmt-deeper : Deeper (look (reading.no_stmt_at names)) (reading.stmt_level names 0 (reading.stmt names 0))
  unfolding reading.stmt_level
  no_stmt-deeper = record { holds = λ c. no_stmt_at-kept c (head c.ahead) refl }

  stmt-deeper : (d : ℕ) → Deeper (reading.stmt names d) (reading.stmt names (suc d))
  unfolding reading.stmt
  stmt-deeper zero = no_stmt-deeper
  stmt-deeper (suc d) = stmt_level-deeper d (reading.stmt names d) (reading.stmt names (suc d)) (stmt-deeper d)

module _ (d : ℕ) where
  storage_same : (k : Kind) → reading.storage_of (suc d) k ≡ reading.storage_of d k
  storage_same (kind.Keyword w.Typedef) = refl
  storage_same (kind.Keyword w.Static) = refl
  storage_same (kind.Keyword w.Extern) = refl
  storage_same k = refl

  stored_by-deeper : (t : Token) (o : Option Storage) → Deeper (reading.stored_by d t o) (reading.stored_by (suc d) t o)
  stored_by-deeper t None = deeper_same
  stored_by-deeper t (Some x) = deeper_same

  stored_at-deeper : (h : Option Token) → Deeper (reading.stored_at d h) (reading.stored_at (suc d) h)
  stored_at-deeper None = deeper_same
  stored_at-deeper (Some t) = rw (storage_same t.kind) (stored_by-deeper t (reading.storage_of d t.kind))

  typedef_same : (o : Option Storage) → reading.is_typedef (suc d) o ≡ reading.is_typedef d o
  typedef_same None = refl
  typedef_same (Some storage.Typedef) = refl
  typedef_same (Some storage.Static) = refl
  typedef_same (Some storage.Extern) = refl

  body_at-deeper : (names : List ℕ) (word : Option Storage) (s : SpecsTree) (from begins : ℕ) (x : DeclaratorTree) (h : Option Token) → Deeper (reading.body_at d names word s from begins x h) (reading.body_at (suc d) names word s from begins x h)
  body_at-deeper names word s from begins x h = rw (typedef_same word) (deeper_if (not (reading.is_typedef d word) && sees p.LeftBrace h) (deeper_bind (stmt-deeper names d) (λ b. deeper_same))
      (deeper_bind (finished-deeper word d names begins x) (λ i. deeper_bind (declared-deeper word d names (i ∷ [])) (λ xs. deeper_same))))

  declarators_at-deeper : (names : List ℕ) (word : Option Storage) (s : SpecsTree) (from : ℕ) (h : Option Token) → Deeper (reading.declarators_at d names word s from h) (reading.declarators_at (suc d) names word s from h)
  declarators_at-deeper names word s from h = deeper_if (sees p.Semicolon h) deeper_same (deeper_bind ((parsers-deeper names d).declarator naming.Named) (λ x. deeper_look (body_at-deeper names word s from (from_of h) x)))

  external-deeper : (names : List ℕ) (from : ℕ) → Deeper (reading.external d names from) (reading.external (suc d) names from)
  external-deeper names from = deeper_bind (deeper_look stored_at-deeper) (λ word. deeper_bind ((parsers-deeper names d).specs true) (λ s. deeper_look (declarators_at-deeper names word s from)))

  file_item_by-deeper : (names : List ℕ) (t : Token) (k : Kind) → Deeper (reading.file_item_by d names t k) (reading.file_item_by (suc d) names t k)
  file_item_by-deeper names t (kind.Include x) = deeper_same
  file_item_by-deeper names t k = external-deeper names t.from

  file_item_at-deeper : (names : List ℕ) (h : Option Token) → Deeper (reading.file_item_at d names h) (reading.file_item_at (suc d) names h)
  file_item_at-deeper names None = deeper_same
  file_item_at-deeper names (Some t) = file_item_by-deeper names t t.kind

  file_item-deeper : (names : List ℕ) → Deeper (reading.file_item d names) (reading.file_item (suc d) names)
  unfolding reading.file_item
  file_item-deeper names = deeper_look (file_item_at-deeper names)

  names_same : (items : FileTree) (names : List ℕ) → reading.names_behind (suc d) items names ≡ reading.names_behind d items names
  names_same [] names = refl
  names_same (x ∷ xs) names = names_same xs (behind_item x names)

  file_step_at-deeper : (items : FileTree) (h : Option Token) → Deeper (reading.file_step_at d items h) (reading.file_step_at (suc d) items h)
  file_step_at-deeper items None = deeper_same
  file_step_at-deeper items (Some t) = rw (names_same items []) (deeper_bind (file_item-deeper (reading.names_behind d items [])) (λ x. deeper_same))

  file-deeper : Deeper (reading.file d) (reading.file (suc d))
  unfolding reading.file
  file-deeper = iterate-deeper (λ items. deeper_look (file_step_at-deeper items)) []

file_much : (n d e : ℕ) → e ≡ n + d → Deeper (reading.file d) (reading.file e)
file_much zero d e h = let same : d ≡ e = omega arith in subst (λ k. Deeper (reading.file d) (reading.file k)) same deeper_same
file_much (suc n) d e h = deeper_trans (file-deeper d) (file_much n (suc d) e (omega arith))

-- Where reading stops for S1 in a depth, it stops so in each that is more.
pub file_stops : (d e : ℕ) (c : Cursor) (s : Stop) → d ≤ e → s.rule ≢ Broken S2 → reading.file d c ≡ Err s → reading.file e c ≡ Err s
file_stops d e c s l n q = (rw q at ((file_much (e - d) d e (omega arith)).holds c)) n
