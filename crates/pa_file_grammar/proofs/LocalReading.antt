-- The readers are local.
use Rattle.std.proofs.Common.{◌≡◌, ℕ, zero, suc, List, [], ◌∷◌, ◌++◌, Option, Some, None, Bool, true, false, not, ◌&&◌, arith, ◌<◌, length}
use Rattle.pa_lex.specs.declared.token.Kind.{Kind}
use Rattle.pa_lex.specs.declared.token.Kind.TheVariants as kind
use Rattle.pa_lex.specs.declared.token.Keyword.{Keyword}
use Rattle.pa_lex.specs.declared.token.Keyword.TheVariants as w
use Rattle.pa_lex.specs.declared.token.Punct.TheVariants as p
use Rattle.pa_lex.specs.declared.token.Token.{Token}
use Rattle.pa_tree.specs.declared.file.Storage.{Storage}
use Rattle.pa_grammar.specs.declared.rule.SynRule.TheVariants.{S1, S2}
use Rattle.pa_grammar.specs.declared.rule.Naming.TheVariants as naming
use Rattle.pa_tree.specs.Cursors.{Cursor, head, from_of}
use Rattle.pa_tree.specs.Exprs.{ExprTree, SpecsTree, DeclaratorTree}
use Rattle.pa_tree.specs.Stmts.{InitializerTree, InitDeclaratorTree, StmtTree, OfFunctionDefinition, Included, Defined, FileTree}
use Rattle.pa_tree.specs.Files.{behind, behind_all}
use Rattle.pa_grammar.specs.Tokens.{is_word}
use Rattle.pa_grammar.specs.Parser.{Parser, ◌>>=◌, ◌>>◌, pure, refuse, look, after, needs, sees, More}
use Rattle.pa_grammar.specs.Reading.{begins_type, not_brace}
use Rattle.pa_grammar.proofs.Local.{Local, local_bind, local_then, local_pure, local_refuse, local_ended, local_after, local_look, local_if}
use Rattle.pa_grammar.proofs.Meets.{Meets, meets_bind, meets_then, meets_refuse, meets_look, meets_if, meets_weaken}
use Rattle.pa_grammar.proofs.Iterated.{Shorter, Shrinks, local_iterate}
use Rattle.pa_grammar.proofs.Eats.{Eats, Fewer, eats_left, eats_right, eats_look, eats_mark, local_no_more, meets_after_fewer, meets_needs, mark-local, needs-local, many-local}
use Rattle.pa_grammar.proofs.LocalReading.{parsers-local}
use Rattle.pa_file_grammar.specs.Reading as reading

word_at-local : (x : Keyword) (h : Option Token) → Local (reading.word_at x h)
word_at-local x None = local_refuse S1
word_at-local x (Some t) = local_if (is_word x t.kind) (local_after t) (local_refuse S1)

pub word-local : (x : Keyword) → Local (reading.word x)
word-local x = local_look (word_at-local x)

module _ (names : List ℕ) where
  item_behind-local : (item : Parser InitializerTree) → Local item → (items : List InitializerTree) (h : Option Token) → Local (reading.item_behind names item items h)
  item_behind-local item g items h = local_if (sees p.RightBrace h) (local_pure _) (local_bind g (λ x. local_pure _))

  more_at-local : (item : Parser InitializerTree) → Local item → (items : List InitializerTree) (h : Option Token) → Local (reading.more_at names item items h)
  more_at-local item g items h = local_if (sees p.Comma h) (local_then (mark-local p.Comma) (local_look (item_behind-local item g items))) (local_pure _)

  more_step-local : (item : Parser InitializerTree) → Local item → (items : List InitializerTree) → Local (reading.more_step names item items)
  more_step-local item g items = local_look (more_at-local item g items)

  item_behind-fewer : (item : Parser InitializerTree) → Local item → (items : List InitializerTree) (c m : Cursor) (h : Option Token) → length m.ahead < length c.ahead → Meets (reading.item_behind names item items h) m (Shorter (reading.more_step names item) c)
  item_behind-fewer item g items c m h l = meets_if (sees p.RightBrace h) (λ q. record { holds = tt }) (λ q. meets_bind (local_no_more g m) (λ x o k. record { holds = omega (arith, l, k) }))

  more_at-fewer : (item : Parser InitializerTree) → Local item → (items : List InitializerTree) (c : Cursor) (h : Option Token) → Meets (reading.more_at names item items h) c (Shorter (reading.more_step names item) c)
  more_at-fewer item g items c h = meets_if (sees p.Comma h) (λ q. meets_then {q = look (reading.item_behind names item items)} ((eats_mark p.Comma).holds c) (λ _ m l. meets_look (λ i _. item_behind-fewer item g items c m i l))) (λ q. record { holds = tt })

  pub more-shrinks : (item : Parser InitializerTree) → Local item → Shrinks (reading.more_step names item)
  more-shrinks item g = record { holds = λ items c. meets_look (λ h e. more_at-fewer item g items c h) }

  value-local : (d from : ℕ) → Local (reading.value names d from)
  value-local d from = local_bind ((parsers-local names d).expr 1) (λ e. local_bind local_ended (λ z. local_pure _))

  initializer_at-local : (d : ℕ) (item : Parser InitializerTree) → Local item → (h : Option Token) → Local (reading.initializer_at names d item h)
  initializer_at-local d item g h = local_if (sees p.LeftBrace h) (local_then (needs-local 1 d) (local_then (mark-local p.LeftBrace) (local_bind g (λ x. local_bind (local_iterate (reading.more_step names item) (more-shrinks item g) (more_step-local item g) (x ∷ [])) (λ xs. local_then (mark-local p.RightBrace) (local_bind local_ended (λ z. local_pure _)))))))
      (value-local (suc d) (from_of h))

  no_initializer_at-local : (h : Option Token) → Local (reading.no_initializer_at names h)
  no_initializer_at-local h = local_if (sees p.LeftBrace h) (local_refuse S2) (value-local 0 (from_of h))

  pub initializer-local : (d : ℕ) → Local (reading.initializer names d)
  unfolding reading.initializer
  initializer-local zero = local_look no_initializer_at-local
  initializer-local (suc d) = local_look (initializer_at-local d (reading.initializer names d) (initializer-local d))

  assigned_at-local : (d : ℕ) (h : Option Token) → Local (reading.assigned_at names d h)
  assigned_at-local d h = local_if (sees p.Assign h) (local_then (mark-local p.Assign) (local_bind (initializer-local d) (λ i. local_pure _))) (local_pure _)

  pub assigned-local : (d : ℕ) → Local (reading.assigned names d)
  unfolding reading.assigned
  assigned-local d = local_look (assigned_at-local d)

module _ (storage : Option Storage) (d : ℕ) where
  pub finished-local : (names : List ℕ) (from : ℕ) (x : DeclaratorTree) → Local (reading.finished storage d names from x)
  finished-local names from x = local_bind (assigned-local (behind storage x names) d) (λ i. local_bind local_ended (λ z. local_pure _))

  init_declarator_from-local : (names : List ℕ) (h : Option Token) → Local (reading.init_declarator_from storage d names h)
  init_declarator_from-local names h = local_bind ((parsers-local names d).declarator naming.Named) (finished-local names (from_of h))

  pub init_declarator-local : (names : List ℕ) → Local (reading.init_declarator storage d names)
  unfolding reading.init_declarator
  init_declarator-local names = local_look (init_declarator_from-local names)

  declared_at-local : (names : List ℕ) (items : List InitDeclaratorTree) (h : Option Token) → Local (reading.declared_at storage d names items h)
  declared_at-local names items h = local_if (sees p.Comma h) (local_then (mark-local p.Comma) (local_bind (init_declarator-local (behind_all storage items names)) (λ x. local_pure _))) (local_pure _)

  declared_at-fewer : (names : List ℕ) (items : List InitDeclaratorTree) (c : Cursor) (h : Option Token) → Meets (reading.declared_at storage d names items h) c (Shorter (reading.declared_step storage d names) c)
  declared_at-fewer names items c h = meets_if (sees p.Comma h) (λ q. meets_then {q = reading.init_declarator storage d (behind_all storage items names) >>= (λ x. pure (More (items ++ x ∷ [])))} ((eats_mark p.Comma).holds c)
      (λ _ m l. meets_bind (local_no_more (init_declarator-local (behind_all storage items names)) m) (λ x o k. record { holds = omega (arith, l, k) }))) (λ q. record { holds = tt })

  pub declared-shrinks : (names : List ℕ) → Shrinks (reading.declared_step storage d names)
  declared-shrinks names = record { holds = λ items c. meets_look (λ h e. declared_at-fewer names items c h) }

  pub declared-local : (names : List ℕ) (items : List InitDeclaratorTree) → Local (reading.declared storage d names items)
  declared-local names items = local_iterate (reading.declared_step storage d names) (declared-shrinks names) (λ xs. local_look (declared_at-local names xs)) items

module _ (names : List ℕ) where
  block_declaration_from-local : (d : ℕ) (h : Option Token) → Local (reading.block_declaration_from names d h)
  block_declaration_from-local d h = local_then (needs-local 1 d) (local_bind ((parsers-local names d).specs false) (λ s. local_bind (init_declarator-local None d names) (λ x. local_bind (declared-local None d names (x ∷ [])) (λ xs. local_then (mark-local p.Semicolon) (local_bind local_ended (λ z. local_pure _))))))

  pub block_declaration-local : (d : ℕ) → Local (reading.block_declaration names d)
  unfolding reading.block_declaration
  block_declaration-local d = local_look (block_declaration_from-local d)

  block_declaration_from-eats : (d : ℕ) (h : Option Token) → Eats (reading.block_declaration_from names d h)
  block_declaration_from-eats d h = eats_right (needs-local 1 d) (λ _. eats_right ((parsers-local names d).specs false) (λ s. eats_right (init_declarator-local None d names) (λ x. eats_right (declared-local None d names (x ∷ [])) (λ xs. eats_left (eats_mark p.Semicolon) (λ _. local_bind local_ended (λ z. local_pure _))))))

  pub block_declaration-eats : (d : ℕ) → Eats (reading.block_declaration names d)
  unfolding reading.block_declaration
  block_declaration-eats d = eats_look (block_declaration_from-eats d)

  module _ (d : ℕ) (below : Parser StmtTree) (g : Local below) (e : Eats below) where
    expr-local : Local (reading.expr names d below)
    expr-local = (parsers-local names d).expr 0

    maybe_at-local : (stop : Option Token → Bool) (h : Option Token) → Local (reading.maybe_at names d below stop h)
    maybe_at-local stop h = local_if (stop h) (local_pure _) (local_bind expr-local (λ e. local_pure _))

    maybe-local : (stop : Option Token → Bool) → Local (reading.maybe names d below stop)
    maybe-local stop = local_look (maybe_at-local stop)

    item_from-local : (h : Option Token) → Local (reading.item_from names d below h)
    item_from-local h = local_if (begins_type names h) (local_bind (block_declaration-local d) (λ b. local_bind local_ended (λ z. local_pure _))) (local_bind g (λ s. local_bind local_ended (λ z. local_pure _)))

    pub item-local : Local (reading.item names d below)
    unfolding reading.item
    item-local = local_look item_from-local

    item_from-fewer : (c : Cursor) (h : Option Token) → Meets (reading.item_from names d below h) c (Fewer c)
    item_from-fewer c h = meets_if (begins_type names h) (λ q. meets_bind ((block_declaration-eats d).holds c) (λ b m l. record { holds = l })) (λ q. meets_bind (e.holds c) (λ s m l. record { holds = l }))

    pub item-eats : Eats (reading.item names d below)
    unfolding reading.item
    item-eats = record { holds = λ c. meets_look (λ h _. item_from-fewer c h) }

    block-local : (from : ℕ) → Local (reading.block names d below from)
    block-local from = local_bind (many-local not_brace (reading.item names d below) item-local item-eats []) (λ xs. local_then (mark-local p.RightBrace) (local_bind local_ended (λ z. local_pure _)))

    tested-local : Local (reading.tested names d below)
    tested-local = local_then (mark-local p.LeftParenthesis) (local_bind expr-local (λ e. local_then (mark-local p.RightParenthesis) (local_pure _)))

    else_at-local : (from : ℕ) (x : ExprTree) (s : StmtTree) (h : Option Token) → Local (reading.else_at names d below from x s h)
    else_at-local from x s h = local_if (reading.reads_word w.Else h) (local_then (word-local w.Else) (local_bind g (λ y. local_bind local_ended (λ z. local_pure _)))) (local_bind local_ended (λ z. local_pure _))

    start_from-local : (h : Option Token) → Local (reading.start_from names d below h)
    start_from-local h = local_if (begins_type names h) (local_bind (block_declaration-local d) (λ b. local_bind local_ended (λ z. local_pure _))) (local_bind (maybe-local (sees p.Semicolon)) (λ e. local_then (mark-local p.Semicolon) (local_bind local_ended (λ z. local_pure _))))

    for-local : (from : ℕ) → Local (reading.loop_for names d below from)
    for-local from = local_then (mark-local p.LeftParenthesis) (local_bind (local_look start_from-local) (λ i. local_bind (maybe-local (sees p.Semicolon)) (λ x. local_then (mark-local p.Semicolon) (local_bind (maybe-local (sees p.RightParenthesis)) (λ s. local_then (mark-local p.RightParenthesis) (local_bind g (λ b. local_bind local_ended (λ z. local_pure _))))))))

    do-local : (from : ℕ) → Local (reading.loop_do names d below from)
    do-local from = local_bind g (λ b. local_then (word-local w.While) (local_bind tested-local (λ x. local_then (mark-local p.Semicolon) (local_bind local_ended (λ z. local_pure _)))))

    expression-local : (from : ℕ) → Local (reading.expression names d below from)
    expression-local from = local_bind (maybe-local (sees p.Semicolon)) (λ x. local_then (mark-local p.Semicolon) (local_bind local_ended (λ z. local_pure _)))

    expression-eats : (from : ℕ) → Eats (reading.expression names d below from)
    expression-eats from = eats_right (maybe-local (sees p.Semicolon)) (λ x. eats_left (eats_mark p.Semicolon) (λ _. local_bind local_ended (λ z. local_pure _)))

    by_word-local : (t : Token) (x : Keyword) → Local (reading.by_word names d below t x)
    by_word-local t w.If = local_then (needs-local 1 d) (local_then (local_after t) (local_bind tested-local (λ x. local_bind g (λ s. local_look (else_at-local t.from x s)))))
    by_word-local t w.While = local_then (needs-local 1 d) (local_then (local_after t) (local_bind tested-local (λ x. local_bind g (λ b. local_bind local_ended (λ z. local_pure _)))))
    by_word-local t w.Do = local_then (needs-local 1 d) (local_then (local_after t) (do-local t.from))
    by_word-local t w.For = local_then (needs-local 1 d) (local_then (local_after t) (for-local t.from))
    by_word-local t w.Switch = local_then (needs-local 1 d) (local_then (local_after t) (local_bind tested-local (λ x. local_bind g (λ b. local_bind local_ended (λ z. local_pure _)))))
    by_word-local t w.Case = local_then (needs-local 1 d) (local_then (local_after t) (local_bind ((parsers-local names d).expr 2) (λ x. local_then (mark-local p.Colon) (local_bind g (λ b. local_bind local_ended (λ z. local_pure _))))))
    by_word-local t w.Default = local_then (needs-local 1 d) (local_then (local_after t) (local_then (mark-local p.Colon) (local_bind g (λ b. local_bind local_ended (λ z. local_pure _)))))
    by_word-local t w.Break = local_then (local_after t) (local_then (mark-local p.Semicolon) (local_bind local_ended (λ z. local_pure _)))
    by_word-local t w.Continue = local_then (local_after t) (local_then (mark-local p.Semicolon) (local_bind local_ended (λ z. local_pure _)))
    by_word-local t w.Return = local_then (local_after t) (local_bind (maybe-local (sees p.Semicolon)) (λ x. local_then (mark-local p.Semicolon) (local_bind local_ended (λ z. local_pure _))))
    by_word-local t x = expression-local t.from

    by_kind-local : (t : Token) (k : Kind) → Local (reading.by_kind names d below t k)
    by_kind-local t (kind.Keyword x) = by_word-local t x
    by_kind-local t (kind.Punct p.LeftBrace) = local_then (local_after t) (block-local t.from)
    by_kind-local t k = expression-local t.from

    stmt_at-local : (h : Option Token) → Local (reading.stmt_at names d below h)
    stmt_at-local None = local_refuse S1
    stmt_at-local (Some t) = by_kind-local t t.kind

    stmt_level-local : Local (reading.stmt_level names d below)
    unfolding reading.stmt_level
    stmt_level-local = local_look stmt_at-local

    -- behind its first token
    behind_first : {A : Type 0} (t : Token) (c : Cursor) (q : Parser A) → Some t ≡ head c.ahead → Local q → Meets (after t >> q) c (Fewer c)
    behind_first t c q e l = meets_then {q = q} (meets_after_fewer t c e) (λ _ m k. meets_weaken (local_no_more l m) (λ x o i. omega (arith, k, i)))

    behind_need : {A : Type 0} (n : ℕ) (t : Token) (c : Cursor) (q : Parser A) → Some t ≡ head c.ahead → Local q → Meets (needs n d >> after t >> q) c (Fewer c)
    behind_need n t c q e l = meets_needs n d (λ _. behind_first t c q e l)

    by_word-fewer : (t : Token) (c : Cursor) → Some t ≡ head c.ahead → (x : Keyword) → Meets (reading.by_word names d below t x) c (Fewer c)
    by_word-fewer t c q w.If = behind_need 1 t c _ q (local_bind tested-local (λ x. local_bind g (λ s. local_look (else_at-local t.from x s))))
    by_word-fewer t c q w.While = behind_need 1 t c _ q (local_bind tested-local (λ x. local_bind g (λ b. local_bind local_ended (λ z. local_pure _))))
    by_word-fewer t c q w.Do = behind_need 1 t c _ q (do-local t.from)
    by_word-fewer t c q w.For = behind_need 1 t c _ q (for-local t.from)
    by_word-fewer t c q w.Switch = behind_need 1 t c _ q (local_bind tested-local (λ x. local_bind g (λ b. local_bind local_ended (λ z. local_pure _))))
    by_word-fewer t c q w.Case = behind_need 1 t c _ q (local_bind ((parsers-local names d).expr 2) (λ x. local_then (mark-local p.Colon) (local_bind g (λ b. local_bind local_ended (λ z. local_pure _)))))
    by_word-fewer t c q w.Default = behind_need 1 t c _ q (local_then (mark-local p.Colon) (local_bind g (λ b. local_bind local_ended (λ z. local_pure _))))
    by_word-fewer t c q w.Break = behind_first t c _ q (local_then (mark-local p.Semicolon) (local_bind local_ended (λ z. local_pure _)))
    by_word-fewer t c q w.Continue = behind_first t c _ q (local_then (mark-local p.Semicolon) (local_bind local_ended (λ z. local_pure _)))
    by_word-fewer t c q w.Return = behind_first t c _ q (local_bind (maybe-local (sees p.Semicolon)) (λ x. local_then (mark-local p.Semicolon) (local_bind local_ended (λ z. local_pure _))))
    by_word-fewer t c q x = (expression-eats t.from).holds c

    by_kind-fewer : (t : Token) (c : Cursor) → Some t ≡ head c.ahead → (k : Kind) → Meets (reading.by_kind names d below t k) c (Fewer c)
    by_kind-fewer t c q (kind.Keyword x) = by_word-fewer t c q x
    by_kind-fewer t c q (kind.Punct p.LeftBrace) = behind_first t c _ q (block-local t.from)
    by_kind-fewer t c q k = (expression-eats t.from).holds c

    stmt_at-fewer : (c : Cursor) (h : Option Token) → h ≡ head c.ahead → Meets (reading.stmt_at names d below h) c (Fewer c)
    stmt_at-fewer c None q = meets_refuse
    stmt_at-fewer c (Some t) q = by_kind-fewer t c q t.kind

    stmt_level-eats : Eats (reading.stmt_level names d below)
    unfolding reading.stmt_level
    stmt_level-eats = record { holds = λ c. meets_look (λ h q. stmt_at-fewer c h q) }

  no_stmt_at-local : (h : Option Token) → Local (reading.no_stmt_at names h)
  no_stmt_at-local None = local_refuse S1
  no_stmt_at-local (Some t) = local_if (reading.begins_stmt names t.kind) (local_refuse S2) (local_then ((parsers-local names 0).expr 0) (local_refuse S1))

  no_stmt_at-fewer : (c : Cursor) (h : Option Token) → Meets (reading.no_stmt_at names h) c (Fewer c)
  no_stmt_at-fewer c None = meets_refuse
  no_stmt_at-fewer c (Some t) = meets_if (reading.begins_stmt names t.kind) (λ q. meets_refuse) (λ q. meets_then {q = refuse S1} (local_no_more ((parsers-local names 0).expr 0) c) (λ x m l. meets_refuse))

  mutual
    unfolding reading.stmt

    pub stmt-local : (d : ℕ) → Local (reading.stmt names d)
    stmt-local zero = local_look no_stmt_at-local
    stmt-local (suc d) = stmt_level-local d (reading.stmt names d) (stmt-local d) (stmt-eats d)

    pub stmt-eats : (d : ℕ) → Eats (reading.stmt names d)
    stmt-eats zero = record { holds = λ c. meets_look (λ h _. no_stmt_at-fewer c h) }
    stmt-eats (suc d) = stmt_level-eats d (reading.stmt names d) (stmt-local d) (stmt-eats d)

module _ (d : ℕ) where
  stored_by-local : (t : Token) (o : Option Storage) → Local (reading.stored_by d t o)
  stored_by-local t None = local_pure None
  stored_by-local t (Some x) = local_then (local_after t) (local_pure (Some x))

  stored_at-local : (h : Option Token) → Local (reading.stored_at d h)
  stored_at-local None = local_pure None
  stored_at-local (Some t) = stored_by-local t (reading.storage_of d t.kind)

  ends-local : (word : Option Storage) (s : SpecsTree) (xs : List InitDeclaratorTree) (from : ℕ) → Local (reading.ends_declaration d word s xs from)
  ends-local word s xs from = local_then (mark-local p.Semicolon) (local_bind local_ended (λ z. local_pure _))

  ends-eats : (word : Option Storage) (s : SpecsTree) (xs : List InitDeclaratorTree) (from : ℕ) → Eats (reading.ends_declaration d word s xs from)
  ends-eats word s xs from = eats_left (eats_mark p.Semicolon) (λ _. local_bind local_ended (λ z. local_pure _))

  body_at-local : (names : List ℕ) (word : Option Storage) (s : SpecsTree) (from begins : ℕ) (x : DeclaratorTree) (h : Option Token) → Local (reading.body_at d names word s from begins x h)
  body_at-local names word s from begins x h = local_if (not (reading.is_typedef d word) && sees p.LeftBrace h) (local_bind (stmt-local names d) (λ b. local_bind local_ended (λ z. local_pure _)))
      (local_bind (finished-local word d names begins x) (λ i. local_bind (declared-local word d names (i ∷ [])) (λ xs. ends-local word s xs from)))

  body_at-fewer : (names : List ℕ) (word : Option Storage) (s : SpecsTree) (from begins : ℕ) (x : DeclaratorTree) (c : Cursor) (h : Option Token) → Meets (reading.body_at d names word s from begins x h) c (Fewer c)
  body_at-fewer names word s from begins x c h = meets_if (not (reading.is_typedef d word) && sees p.LeftBrace h) (λ q. (eats_left (stmt-eats names d) (λ b. local_bind local_ended (λ z. local_pure (Defined (OfFunctionDefinition word s x b from z) from z)))).holds c)
      (λ q. (eats_right (finished-local word d names begins x) (λ i. eats_right (declared-local word d names (i ∷ [])) (λ xs. ends-eats word s xs from))).holds c)

  body_at-eats : (names : List ℕ) (word : Option Storage) (s : SpecsTree) (from begins : ℕ) (x : DeclaratorTree) (h : Option Token) → Eats (reading.body_at d names word s from begins x h)
  body_at-eats names word s from begins x h = record { holds = λ c. body_at-fewer names word s from begins x c h }

  declarators_at-local : (names : List ℕ) (word : Option Storage) (s : SpecsTree) (from : ℕ) (h : Option Token) → Local (reading.declarators_at d names word s from h)
  declarators_at-local names word s from h = local_if (sees p.Semicolon h) (ends-local word s [] from) (local_bind ((parsers-local names d).declarator naming.Named) (λ x. local_look (body_at-local names word s from (from_of h) x)))

  declarators_at-fewer : (names : List ℕ) (word : Option Storage) (s : SpecsTree) (from : ℕ) (c : Cursor) (h : Option Token) → Meets (reading.declarators_at d names word s from h) c (Fewer c)
  declarators_at-fewer names word s from c h = meets_if (sees p.Semicolon h) (λ q. (ends-eats word s [] from).holds c) (λ q. (eats_right ((parsers-local names d).declarator naming.Named) (λ x. eats_look (body_at-eats names word s from (from_of h) x))).holds c)

  declarators_at-eats : (names : List ℕ) (word : Option Storage) (s : SpecsTree) (from : ℕ) (h : Option Token) → Eats (reading.declarators_at d names word s from h)
  declarators_at-eats names word s from h = record { holds = λ c. declarators_at-fewer names word s from c h }

  external-local : (names : List ℕ) (from : ℕ) → Local (reading.external d names from)
  external-local names from = local_bind (local_look stored_at-local) (λ word. local_bind ((parsers-local names d).specs true) (λ s. local_look (declarators_at-local names word s from)))

  external-eats : (names : List ℕ) (from : ℕ) → Eats (reading.external d names from)
  external-eats names from = eats_right (local_look stored_at-local) (λ word. eats_right ((parsers-local names d).specs true) (λ s. eats_look (declarators_at-eats names word s from)))

  file_item_by-local : (names : List ℕ) (t : Token) (k : Kind) → Local (reading.file_item_by d names t k)
  file_item_by-local names t (kind.Include x) = local_then (local_after t) (local_pure _)
  file_item_by-local names t k = external-local names t.from

  file_item_at-local : (names : List ℕ) (h : Option Token) → Local (reading.file_item_at d names h)
  file_item_at-local names None = local_refuse S1
  file_item_at-local names (Some t) = file_item_by-local names t t.kind

  pub file_item-local : (names : List ℕ) → Local (reading.file_item d names)
  unfolding reading.file_item
  file_item-local names = local_look (file_item_at-local names)

  file_item_by-fewer : (names : List ℕ) (t : Token) (c : Cursor) → Some t ≡ head c.ahead → (k : Kind) → Meets (reading.file_item_by d names t k) c (Fewer c)
  file_item_by-fewer names t c q (kind.Include x) = meets_then {q = pure (Included x t.from t.to)} (meets_after_fewer t c q) (λ _ m l. record { holds = l })
  file_item_by-fewer names t c q k = (external-eats names t.from).holds c

  file_item_at-fewer : (names : List ℕ) (c : Cursor) (h : Option Token) → h ≡ head c.ahead → Meets (reading.file_item_at d names h) c (Fewer c)
  file_item_at-fewer names c None q = meets_refuse
  file_item_at-fewer names c (Some t) q = file_item_by-fewer names t c q t.kind

  pub file_item-eats : (names : List ℕ) → Eats (reading.file_item d names)
  unfolding reading.file_item
  file_item-eats names = record { holds = λ c. meets_look (λ h q. file_item_at-fewer names c h q) }

  file_step_at-fewer : (items : FileTree) (c : Cursor) (h : Option Token) → Meets (reading.file_step_at d items h) c (Shorter (reading.file_step d) c)
  file_step_at-fewer items c None = record { holds = tt }
  file_step_at-fewer items c (Some t) = meets_bind ((file_item-eats (reading.names_behind d items [])).holds c) (λ x m l. record { holds = l })

  pub file-shrinks : Shrinks (reading.file_step d)
  file-shrinks = record { holds = λ items c. meets_look (λ h _. file_step_at-fewer items c h) }

  file_step_at-local : (items : FileTree) (h : Option Token) → Local (reading.file_step_at d items h)
  file_step_at-local items None = local_pure _
  file_step_at-local items (Some t) = local_bind (file_item-local (reading.names_behind d items [])) (λ x. local_pure _)

  -- What is read of a file depends on no token behind the one that it ends before.
  pub file-local : Local (reading.file d)
  unfolding reading.file
  file-local = local_iterate (reading.file_step d) file-shrinks (λ items. local_look (file_step_at-local items)) []
