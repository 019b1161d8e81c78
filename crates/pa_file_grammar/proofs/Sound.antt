-- What is read of statements, declarations and files is in the grammar, and no deeper than the depth.
use Rattle.std.proofs.Common.{◌≡◌, ◌≢◌, ◌≤◌, ℕ, zero, suc, List, [], ◌∷◌, ◌++◌, Option, Some, None, Ok, Bool, true, false, not, ◌&&◌, refl, sym, ◌∙◌, ap, arith, subst, append_assoc, append-nil, inl, inr}
use Rattle.pa_lex.specs.declared.token.Kind.{Kind}
use Rattle.pa_lex.specs.declared.token.Kind.TheVariants as kind
use Rattle.pa_lex.specs.declared.token.Keyword.{Keyword}
use Rattle.pa_lex.specs.declared.token.Keyword.TheVariants as w
use Rattle.pa_lex.specs.declared.token.Punct.TheVariants as p
use Rattle.pa_lex.specs.declared.token.Token.{Token}
use Rattle.pa_tree.specs.declared.file.Storage.{Storage}
use Rattle.pa_tree.specs.declared.file.Storage.TheVariants as storage
use Rattle.pa_grammar.specs.declared.rule.SynRule.TheVariants.{S1}
use Rattle.pa_grammar.specs.declared.rule.Naming.TheVariants as naming
use Rattle.pa_tree.specs.Cursors.{Cursor, start, head, begin, from_of, Shifts, Mark, Word}
use Rattle.pa_tree.specs.Exprs.{ExprTree, SpecsTree, DeclaratorTree}
use Rattle.pa_tree.specs.Stmts.{InitializerTree, InitDeclaratorTree, OfInitDeclarator, BlockDeclarationTree, StmtTree, Compound, Expression, If, IfElse, While, DoWhile, For, Switch, Case, Default, Break, Continue, Return, BlockItemTree, OfFunctionDefinition, FileItemTree, Included, Defined, FileTree}
use Rattle.pa_tree.specs.Heights.{expr_height, specs_height, declarator_height, initializer_height, initializers_height, maybe_initializer_height, init_declarator_height, init_declarators_height, block_declaration_height, option_expr_height, for_start_height, stmt_height, block_item_height, block_items_height, file_item_height, file_height}
use Rattle.pa_tree.specs.Spells.{LastComma, has_name, ExprSpells, SpecsSpell, DeclaratorSpells}
use Rattle.pa_tree.specs.Files.{is_open, is_compound, MaybeExprSpells, InitializerSpells, CommaInitializers, MaybeInitializerSpells, behind, behind_all, InitDeclaratorSpells, CommaInitDeclarators, InitDeclaratorsSpell, BlockDeclarationSpells, ForStartSpells, StmtSpells, BlockItemSpells, BlockItemsSpell, StorageSpells, storage_word, FileItemSpells, behind_item, FileItemsSpell, Spells}
use Rattle.pa_tree.specs.Views.{initializers_of, block_items_of}
use Rattle.pa_grammar.specs.Tokens.{is_word}
use Rattle.pa_grammar.specs.Parser.{Parser, ◌>>=◌, ◌>>◌, pure, refuse, look, after, ended, needs, sees, mark, More, iterate}
use Rattle.pa_grammar.specs.Reading.{parsers, begins_type, not_brace}
use Rattle.pa_grammar.proofs.Tokens.{is_word-true}
use Rattle.pa_grammar.proofs.Meets.{Meets, meets_bind, meets_then, meets_refuse, meets_look, meets_if, meets_weaken}
use Rattle.pa_grammar.proofs.Eats.{meets_needs}
use Rattle.pa_grammar.proofs.Iterated.{After, meets_iterate}
use Rattle.pa_grammar.proofs.Chains.{Chain, Added, meets_after, shifts, meets_mark, meets_many, nothing_added, one_added}
use Rattle.pa_grammar.proofs.Heads.{not_begun}
use Rattle.pa_grammar.proofs.Sound.{and_left, and_right}
use Rattle.pa_grammar.proofs.SoundSpecs.{sound}
use Rattle.pa_file_grammar.specs.Reading as reading

word_by : (x : Keyword) (c : Cursor) (h : Option Token) → h ≡ head c.ahead → Meets (reading.word_at x h) c (λ _ d. Word x c d)
word_by x c None e = meets_refuse
word_by x c (Some t) e = meets_if (is_word x t.kind) (λ q. meets_weaken (meets_after t c e) (λ _ m h. shifts (rw (is_word-true x t.kind q) at h))) (λ q. meets_refuse)

meets_word : (x : Keyword) (c : Cursor) → Meets (reading.word x) c (λ _ d. Word x c d)
meets_word x c = meets_look (λ h e. word_by x c h e)

not_true : (x : Bool) → not x ≡ true → x ≡ false
not_true true e = cc
not_true false e = refl

module _ (names : List ℕ) where
  abbrev IsInitializer : ℕ → InitializerTree → Cursor → Cursor → Type 0
  IsInitializer d i c e = InitializerSpells names i c e × (initializer_height i ≤ d)

  abbrev BehindComma : ℕ → InitializerTree → Cursor → Cursor → Type 0
  BehindComma d i c e = (m : Cursor) × Mark p.Comma c m × IsInitializer d i m e

  items_spell : (d : ℕ) (xs : List InitializerTree) (c e : Cursor) → Chain (BehindComma d) xs c e → CommaInitializers names (initializers_of xs) c e × (initializers_height (initializers_of xs) ≤ d)
  items_spell d [] c e h = (h, omega arith)
  items_spell d (x ∷ xs) c e (m, (o, k, (s, l)), h) = let r = items_spell d xs m e h in let a = r.1 in ((o, m, k, s, r.0), omega (arith, l, a))

  -- items behind some, and perhaps a last comma
  record Listed (d : ℕ) (before : List InitializerTree) (c : Cursor) (all : List InitializerTree) (e : Cursor) : Type 0 where
    middle : Cursor
    added : Added (BehindComma d) before c all middle
    comma : LastComma middle e

  module _ (d : ℕ) (item : Parser InitializerTree) (g : (c : Cursor) → Meets item c (λ i e. IsInitializer d i c e)) where
    behind_head : (before : List InitializerTree) (c : Cursor) (all : List InitializerTree) (m n : Cursor) (h : Option Token) → Added (BehindComma d) before c all m → Mark p.Comma m n → Meets (reading.item_behind names item all h) n (After (reading.more_step names item) (Added (BehindComma d) before c) (Listed d before c))
    behind_head before c all m n h i k = meets_if (sees p.RightBrace h) (λ _. record { holds = record { middle = m; added = i; comma = inr k } }) (λ _. meets_bind (g n) (λ x o r. record { holds = one_added (BehindComma d) before all x c m o i (n, k, r) }))

    more_head : (before : List InitializerTree) (c : Cursor) (all : List InitializerTree) (m : Cursor) (h : Option Token) → Added (BehindComma d) before c all m → Meets (reading.more_at names item all h) m (After (reading.more_step names item) (Added (BehindComma d) before c) (Listed d before c))
    more_head before c all m h i = meets_if (sees p.Comma h) (λ _. meets_then {q = look (reading.item_behind names item all)} (meets_mark p.Comma m) (λ _ n k. meets_look (λ j _. behind_head before c all m n j i k))) (λ _. record { holds = record { middle = m; added = i; comma = inl refl } })

    meets_items : (before : List InitializerTree) (c : Cursor) → Meets (iterate (reading.more_step names item) before) c (Listed d before c)
    meets_items before c = meets_iterate (reading.more_step names item) (Added (BehindComma d) before c) (Listed d before c) (λ all m i. meets_look (λ h _. more_head before c all m h i)) before c (nothing_added (BehindComma d) before c)

    meets_braced : (c : Cursor) → Meets (reading.braced names d item (begin c)) c (λ i e. IsInitializer (suc d) i c e)
    meets_braced c = meets_needs 1 d (λ _. meets_then (meets_mark p.LeftBrace c) (λ _ m k. meets_bind (g m) (λ x n a. meets_bind (meets_items (x ∷ []) n) (λ xs o r. meets_then (meets_mark p.RightBrace o) (λ _ e z. record {
      holds =
          (let q = r.added in let y = items_spell d q.items n r.middle q.chain in let l = y.1 in let u = a.1 in rw q.all_is ((m, r.middle, o, k, (n, a.0, y.0), r.comma, z, record { from_is = refl; to_is = refl }), omega (arith, l, u)));
    })))))

  meets_value : (d : ℕ) (c : Cursor) → Meets (reading.value names d (begin c)) c (λ i e. IsInitializer d i c e)
  meets_value d c = meets_bind ((sound names d).expr 1 c (omega arith)) (λ x e (a, b). record { holds = ((a, record { from_is = refl; to_is = refl }), b) })

  initializer_head : (d : ℕ) (item : Parser InitializerTree) → ((c : Cursor) → Meets item c (λ i e. IsInitializer d i c e)) → (c : Cursor) (h : Option Token) → h ≡ head c.ahead → Meets (reading.initializer_at names d item h) c (λ i e. IsInitializer (suc d) i c e)
  initializer_head d item g c h e = rw e (meets_if (sees p.LeftBrace (head c.ahead)) (λ _. meets_braced d item g c) (λ _. meets_value (suc d) c))

  no_initializer_head : (c : Cursor) (h : Option Token) → h ≡ head c.ahead → Meets (reading.no_initializer_at names h) c (λ i e. IsInitializer 0 i c e)
  no_initializer_head c h e = rw e (meets_if (sees p.LeftBrace (head c.ahead)) (λ _. meets_refuse) (λ _. meets_value 0 c))

  meets_initializer : (d : ℕ) (c : Cursor) → Meets (reading.initializer names d) c (λ i e. IsInitializer d i c e)
  unfolding reading.initializer
  meets_initializer zero c = meets_look (λ h e. no_initializer_head c h e)
  meets_initializer (suc d) c = meets_look (λ h e. initializer_head d (reading.initializer names d) (meets_initializer d) c h e)

  abbrev IsAssigned : ℕ → Cursor → Option InitializerTree → Cursor → Type 0
  IsAssigned d c i e = MaybeInitializerSpells names i c e × (maybe_initializer_height i ≤ d)

  assigned_head : (d : ℕ) (c : Cursor) (h : Option Token) → Meets (reading.assigned_at names d h) c (IsAssigned d c)
  assigned_head d c h = meets_if (sees p.Assign h) (λ _. meets_then (meets_mark p.Assign c) (λ _ m k. meets_bind {f = λ i. pure (Some i)} (meets_initializer d m) (λ x e r. record { holds = ((m, k, r.0), r.1) }))) (λ _. record { holds = (refl, omega arith) })

  meets_assigned : (d : ℕ) (c : Cursor) → Meets (reading.assigned names d) c (IsAssigned d c)
  unfolding reading.assigned
  meets_assigned d c = meets_look (λ h _. assigned_head d c h)

module _ (word : Option Storage) (d : ℕ) where
  abbrev IsInit : List ℕ → InitDeclaratorTree → Cursor → Cursor → Type 0
  IsInit names x c e = InitDeclaratorSpells word names x c e × (init_declarator_height x ≤ d)

  meets_finished : (names : List ℕ) (x : DeclaratorTree) (c m : Cursor) → has_name x ≡ true → DeclaratorSpells names 0 x c m → declarator_height x ≤ d → Meets (reading.finished word d names (begin c) x) m (λ i e. IsInit names i c e)
  meets_finished names x c m n h l = meets_bind (meets_assigned (behind word x names) d m) (λ i e r. record { holds = ((m, n, h, r.0, record { from_is = refl; to_is = refl }), (let b = r.1 in omega (arith, l, b))) })

  init_head : (names : List ℕ) (c : Cursor) (h : Option Token) → h ≡ head c.ahead → Meets (reading.init_declarator_from word d names h) c (λ i e. IsInit names i c e)
  init_head names c h q = rw q (meets_bind ((sound names d).declarator naming.Named c) (λ x m (n, u, l). meets_finished names x c m n u l))

  meets_init : (names : List ℕ) (c : Cursor) → Meets (reading.init_declarator word d names) c (λ i e. IsInit names i c e)
  unfolding reading.init_declarator
  meets_init names c = meets_look (λ h q. init_head names c h q)

  -- further declarators behind some
  record Further (names : List ℕ) (before : List InitDeclaratorTree) (c : Cursor) (all : List InitDeclaratorTree) (e : Cursor) : Type 0 where
    items : List InitDeclaratorTree
    all_is : all ≡ before ++ items
    spells : CommaInitDeclarators word (behind_all word before names) items c e
    fits : init_declarators_height items ≤ d

  comma_snoc : (names : List ℕ) (xs : List InitDeclaratorTree) (x : InitDeclaratorTree) (c m n e : Cursor) → CommaInitDeclarators word names xs c m → Mark p.Comma m n → InitDeclaratorSpells word (behind_all word xs names) x n e → CommaInitDeclarators word names (xs ++ x ∷ []) c e
  comma_snoc names [] x c m n e h k s = (n, e, rw h k, s, refl)
  comma_snoc names (OfInitDeclarator y i a z ∷ ys) x c m n e (u, v, b, t, h) k s = (u, v, b, t, comma_snoc (behind_all word (OfInitDeclarator y i a z ∷ []) names) ys x v m n e h k s)

  heights_snoc : (xs : List InitDeclaratorTree) (x : InitDeclaratorTree) → init_declarators_height xs ≤ d → init_declarator_height x ≤ d → init_declarators_height (xs ++ x ∷ []) ≤ d
  heights_snoc [] x l k = omega (arith, k)
  heights_snoc (y ∷ ys) x l k = let r = heights_snoc ys x (omega (arith, l)) k in omega (arith, l, r)

  behind_both : (xs ys : List InitDeclaratorTree) (names : List ℕ) → behind_all word (xs ++ ys) names ≡ behind_all word ys (behind_all word xs names)
  behind_both [] ys names = refl
  behind_both (OfInitDeclarator y i a z ∷ xs) ys names = behind_both xs ys (behind word y names)

  further_more : (names : List ℕ) (before : List InitDeclaratorTree) (c : Cursor) (all : List InitDeclaratorTree) (x : InitDeclaratorTree) (m n e : Cursor) → Further names before c all m → Mark p.Comma m n → IsInit (behind_all word all names) x n e → Further names before c (all ++ x ∷ []) e
  further_more names before c all x m n e f k (s, l) = record {
    items = f.items ++ x ∷ [];
    all_is = ap (λ y. y ++ x ∷ []) f.all_is ∙ append_assoc before f.items (x ∷ []);
    spells = comma_snoc (behind_all word before names) f.items x c m n e f.spells k (subst (λ i. InitDeclaratorSpells word i x n e) (ap (λ y. behind_all word y names) f.all_is ∙ behind_both before f.items names) s);
    fits = heights_snoc f.items x f.fits l;
  }

  declared_head : (names : List ℕ) (before : List InitDeclaratorTree) (c : Cursor) (all : List InitDeclaratorTree) (m : Cursor) (h : Option Token) → Further names before c all m → Meets (reading.declared_at word d names all h) m (After (reading.declared_step word d names) (Further names before c) (Further names before c))
  declared_head names before c all m h f = meets_if (sees p.Comma h)
      (λ _. meets_then {q = reading.init_declarator word d (behind_all word all names) >>= (λ x. pure (More (all ++ x ∷ [])))} (meets_mark p.Comma m) (λ _ n k. meets_bind {f = λ x. pure (More (all ++ x ∷ []))} (meets_init (behind_all word all names) n) (λ x e r. record { holds = further_more names before c all x m n e f k r })))
      (λ _. record { holds = f })

  meets_declared : (names : List ℕ) (before : List InitDeclaratorTree) (c : Cursor) → Meets (reading.declared word d names before) c (Further names before c)
  meets_declared names before c = meets_iterate (reading.declared_step word d names) (Further names before c) (Further names before c) (λ all m f. meets_look (λ h _. declared_head names before c all m h f)) before c
      (record { items = []; all_is = sym (append-nil before); spells = refl; fits = omega arith })

module _ (names : List ℕ) where
  abbrev IsBlock : ℕ → Cursor → BlockDeclarationTree → Cursor → Type 0
  IsBlock d c b e = BlockDeclarationSpells names b c e × (block_declaration_height b ≤ d)

  block_head : (d : ℕ) (c : Cursor) (h : Option Token) → h ≡ head c.ahead → Meets (reading.block_declaration_from names d h) c (IsBlock d c)
  block_head d c h q = rw q (meets_needs 1 d (λ _. meets_bind ((sound names d).specs false c) (λ s m (a, l). meets_bind (meets_init None d names m) (λ x n (b, k). meets_bind (meets_declared None d names (x ∷ []) n) (λ xs o f. meets_then (meets_mark p.Semicolon o) (λ _ e z. record {
    holds =
        (let i = f.fits in rw f.all_is ((m, o, a, (λ bad. cc), (n, b, f.spells), z, record { from_is = refl; to_is = refl }), omega (arith, l, k, i)));
  }))))))

  meets_block_declaration : (d : ℕ) (c : Cursor) → Meets (reading.block_declaration names d) c (IsBlock d c)
  unfolding reading.block_declaration
  meets_block_declaration d c = meets_look (λ h q. block_head d c h q)

  abbrev NoElse : Cursor → Type 0
  NoElse c = reading.reads_word w.Else (head c.ahead) ≡ false

  -- an `else` behind the statement is not its own
  record IsStmt (d : ℕ) (c : Cursor) (s : StmtTree) (e : Cursor) : Type 0 where
    spells : StmtSpells names s c e
    fits : stmt_height s ≤ d
    closed : is_open s ≡ true → NoElse e

  closed_now : (s : StmtTree) (e : Cursor) → NoElse e → (b : Bool) → is_open s ≡ b → is_open s ≡ true → NoElse e
  closed_now s e n b q h = n

  -- with an `else` behind it, it is not open
  shut : (s : StmtTree) (e n : Cursor) → (is_open s ≡ true → NoElse e) → Word w.Else e n → (b : Bool) → is_open s ≡ b → is_open s ≡ false
  shut s e n f k false q = q
  shut s e n f k true q = let bad : true ≡ false = sym (rw (k.takes).ahead refl) ∙ f q in cc

  module _ (d : ℕ) (below : Parser StmtTree) (g : (c : Cursor) → Meets below c (IsStmt d c)) where
    meets_expr : (level : ℕ) (c : Cursor) → level ≤ 14 → Meets ((parsers names d).expr level) c (λ t e. ExprSpells names level t c e × (expr_height t ≤ d))
    meets_expr = (sound names d).expr

    abbrev IsMaybe : Cursor → Option ExprTree → Cursor → Type 0
    IsMaybe c v e = MaybeExprSpells names v c e × (option_expr_height v ≤ d)

    maybe_head : (stop : Option Token → Bool) (c : Cursor) (h : Option Token) → Meets (reading.maybe_at names d below stop h) c (IsMaybe c)
    maybe_head stop c h = meets_if (stop h) (λ _. record { holds = (refl, omega arith) }) (λ _. meets_bind {f = λ x. pure (Some x)} (meets_expr 0 c (omega arith)) (λ x e r. record { holds = r }))

    meets_maybe : (stop : Option Token → Bool) (c : Cursor) → Meets (reading.maybe names d below stop) c (IsMaybe c)
    meets_maybe stop c = meets_look (λ h _. maybe_head stop c h)

    abbrev IsItem : BlockItemTree → Cursor → Cursor → Type 0
    IsItem x c e = BlockItemSpells names x c e × (block_item_height x ≤ d)

    item_head : (c : Cursor) (h : Option Token) → h ≡ head c.ahead → Meets (reading.item_from names d below h) c (λ x e. IsItem x c e)
    item_head c h q = rw q (meets_if (begins_type names (head c.ahead)) (λ _. meets_bind (meets_block_declaration d c) (λ b e r. record { holds = ((r.0, record { from_is = refl; to_is = refl }), r.1) }))
        (λ _. meets_bind (g c) (λ s e r. record { holds = ((r.spells, record { from_is = refl; to_is = refl }), r.fits) })))

    meets_item : (c : Cursor) → Meets (reading.item names d below) c (λ x e. IsItem x c e)
    unfolding reading.item
    meets_item c = meets_look (λ h q. item_head c h q)

    block_items : (xs : List BlockItemTree) (c e : Cursor) → Chain IsItem xs c e → BlockItemsSpell names (block_items_of xs) c e × (block_items_height (block_items_of xs) ≤ d)
    block_items [] c e h = (h, omega arith)
    block_items (x ∷ xs) c e (m, (s, l), h) = let r = block_items xs m e h in let a = r.1 in ((m, s, r.0), omega (arith, l, a))

    meets_block : (s c : Cursor) → Mark p.LeftBrace s c → Meets (reading.block names d below (begin s)) c (IsStmt (suc d) s)
    meets_block s c k = meets_bind (meets_many IsItem not_brace (reading.item names d below) meets_item [] c) (λ xs m r. meets_then (meets_mark p.RightBrace m) (λ _ e z. record {
      holds =
          (let y = block_items r.items c m r.chain in let l = y.1 in rw r.all_is (record { spells = (c, m, k, y.0, z, record { from_is = refl; to_is = refl }); fits = omega (arith, l); closed = λ bad. cc }));
    }))

    record IsTested (c : Cursor) (t : ExprTree) (e : Cursor) : Type 0 where
      open_ : Cursor
      behind_open : Mark p.LeftParenthesis c open_
      last : Cursor
      spells : ExprSpells names 0 t open_ last
      fits : expr_height t ≤ d
      behind_close : Mark p.RightParenthesis last e

    meets_tested : (c : Cursor) → Meets (reading.tested names d below) c (IsTested c)
    meets_tested c = meets_then {q = reading.expr names d below >>= (λ e. mark p.RightParenthesis >> pure e)} (meets_mark p.LeftParenthesis c) (λ _ m k. meets_bind {f = λ e. mark p.RightParenthesis >> pure e} (meets_expr 0 m (omega arith)) (λ t n (a, b). meets_then {q = pure t} (meets_mark p.RightParenthesis n) (λ _ e z. record {
      holds =
          record { open_ = m; behind_open = k; last = n; spells = a; fits = b; behind_close = z };
    })))

    else_head : (test : ExprTree) (x : StmtTree) (s m n i j e : Cursor) → Word w.If s m → IsTested m test i → IsStmt d i x e → (h : Option Token) → h ≡ head e.ahead → Meets (reading.else_at names d below (begin s) test x h) e (IsStmt (suc d) s)
    else_head test x s m n i j e k t r h q = rw q (meets_if (reading.reads_word w.Else (head e.ahead))
        (λ _. meets_then (meets_word w.Else e) (λ _ o z. meets_bind (g o) (λ y u f. record {
          holds =
              (let a = t.fits in let b = r.fits in let v = f.fits in record { spells = (m, t.open_, t.last, i, e, o, k, t.behind_open, t.spells, t.behind_close, r.spells, shut x e o r.closed z (is_open x) refl, z, f.spells, record { from_is = refl; to_is = refl }); fits = omega (arith, a, b, v); closed = f.closed });
        })))
        (λ y. record { holds = (let a = t.fits in let b = r.fits in record { spells = (m, t.open_, t.last, i, k, t.behind_open, t.spells, t.behind_close, r.spells, record { from_is = refl; to_is = refl }); fits = omega (arith, a, b); closed = λ _. y }) }))

    start_head : (c : Cursor) (h : Option Token) → h ≡ head c.ahead → Meets (reading.start_from names d below h) c (λ i e. ForStartSpells names i c e × (for_start_height i ≤ d))
    start_head c h q = rw q (meets_if (begins_type names (head c.ahead)) (λ _. meets_bind (meets_block_declaration d c) (λ b e r. record { holds = ((r.0, record { from_is = refl; to_is = refl }), r.1) }))
        (λ _. meets_bind (meets_maybe (sees p.Semicolon) c) (λ v m r. meets_then (meets_mark p.Semicolon m) (λ _ e z. record { holds = ((m, r.0, z, record { from_is = refl; to_is = refl }), r.1) }))))

    meets_for : (s c : Cursor) → Word w.For s c → Meets (reading.loop_for names d below (begin s)) c (IsStmt (suc d) s)
    meets_for s c k = meets_then (meets_mark p.LeftParenthesis c) (λ _ m a. meets_bind (meets_look (λ h q. start_head m h q)) (λ i n b. meets_bind (meets_maybe (sees p.Semicolon) n) (λ t o f. meets_then (meets_mark p.Semicolon o) (λ _ u j. meets_bind (meets_maybe (sees p.RightParenthesis) u) (λ v x q. meets_then (meets_mark p.RightParenthesis x) (λ _ y z. meets_bind (g y) (λ r e l. record {
      holds =
          (let b1 = b.1 in let f1 = f.1 in let q1 = q.1 in let l1 = l.fits in record { spells = (c, m, n, o, u, x, y, k, a, b.0, f.0, j, q.0, z, l.spells, record { from_is = refl; to_is = refl }); fits = omega (arith, b1, f1, q1, l1); closed = l.closed });
    })))))))

    meets_do : (s c : Cursor) → Word w.Do s c → Meets (reading.loop_do names d below (begin s)) c (IsStmt (suc d) s)
    meets_do s c k = meets_bind (g c) (λ b m r. meets_then (meets_word w.While m) (λ _ n a. meets_bind (meets_tested n) (λ t o f. meets_then (meets_mark p.Semicolon o) (λ _ e z. record {
      holds =
          (let i = r.fits in let j = f.fits in record { spells = (c, m, n, f.open_, f.last, o, k, r.spells, a, f.behind_open, f.spells, f.behind_close, z, record { from_is = refl; to_is = refl }); fits = omega (arith, i, j); closed = λ bad. cc });
    }))))

    meets_expression : (s : Cursor) → Meets (reading.expression names d below (begin s)) s (IsStmt (suc d) s)
    meets_expression s = meets_bind (meets_maybe (sees p.Semicolon) s) (λ v m r. meets_then (meets_mark p.Semicolon m) (λ _ e z. record { holds = (let l = r.1 in record { spells = (m, r.0, z, record { from_is = refl; to_is = refl }); fits = omega (arith, l); closed = λ bad. cc }) }))

    meets_if_word : (s c : Cursor) → Word w.If s c → Meets (reading.tested names d below >>= (λ e. below >>= (λ x. look (reading.else_at names d below (begin s) e x)))) c (IsStmt (suc d) s)
    meets_if_word s c k = meets_bind (meets_tested c) (λ t m f. meets_bind {f = λ x. look (reading.else_at names d below (begin s) t x)} (g m) (λ x n r. meets_look {f = reading.else_at names d below (begin s) t x} (λ h q. else_head t x s c c m m n k f r h q)))

    meets_while : (s c : Cursor) → Word w.While s c → Meets (reading.tested names d below >>= (λ e. below >>= (λ b. ended >>= (λ z. pure (While e b (begin s) z))))) c (IsStmt (suc d) s)
    meets_while s c k = meets_bind (meets_tested c) (λ t m f. meets_bind {f = λ b. ended >>= (λ z. pure (While t b (begin s) z))} (g m) (λ b e r. record { holds = (let i = r.fits in let j = f.fits in record { spells = (c, f.open_, f.last, m, k, f.behind_open, f.spells, f.behind_close, r.spells, record { from_is = refl; to_is = refl }); fits = omega (arith, i, j); closed = r.closed }) }))

    meets_switch : (s c : Cursor) → Word w.Switch s c → Meets (reading.tested names d below >>= (λ e. below >>= (λ b. ended >>= (λ z. pure (Switch e b (begin s) z))))) c (IsStmt (suc d) s)
    meets_switch s c k = meets_bind (meets_tested c) (λ t m f. meets_bind {f = λ b. ended >>= (λ z. pure (Switch t b (begin s) z))} (g m) (λ b e r. record { holds = (let i = r.fits in let j = f.fits in record { spells = (c, f.open_, f.last, m, k, f.behind_open, f.spells, f.behind_close, r.spells, record { from_is = refl; to_is = refl }); fits = omega (arith, i, j); closed = r.closed }) }))

    meets_case : (s c : Cursor) → Word w.Case s c → Meets ((parsers names d).expr 2 >>= (λ e. mark p.Colon >> below >>= (λ b. ended >>= (λ z. pure (Case e b (begin s) z))))) c (IsStmt (suc d) s)
    meets_case s c k = meets_bind (meets_expr 2 c (omega arith)) (λ t m (a, l). meets_then (meets_mark p.Colon m) (λ _ n q. meets_bind {f = λ b. ended >>= (λ z. pure (Case t b (begin s) z))} (g n) (λ b e r. record { holds = (let i = r.fits in record { spells = (c, m, n, k, a, q, r.spells, record { from_is = refl; to_is = refl }); fits = omega (arith, i, l); closed = r.closed }) })))

    meets_default : (s c : Cursor) → Word w.Default s c → Meets (mark p.Colon >> below >>= (λ b. ended >>= (λ z. pure (Default b (begin s) z)))) c (IsStmt (suc d) s)
    meets_default s c k = meets_then (meets_mark p.Colon c) (λ _ n q. meets_bind {f = λ b. ended >>= (λ z. pure (Default b (begin s) z))} (g n) (λ b e r. record { holds = (let i = r.fits in record { spells = (c, n, k, q, r.spells, record { from_is = refl; to_is = refl }); fits = omega (arith, i); closed = r.closed }) }))

    meets_return : (s c : Cursor) → Word w.Return s c → Meets (reading.maybe names d below (sees p.Semicolon) >>= (λ e. mark p.Semicolon >> ended >>= (λ z. pure (Return e (begin s) z)))) c (IsStmt (suc d) s)
    meets_return s c k = meets_bind (meets_maybe (sees p.Semicolon) c) (λ v m r. meets_then (meets_mark p.Semicolon m) (λ _ e z. record { holds = (let l = r.1 in record { spells = (c, m, k, r.0, z, record { from_is = refl; to_is = refl }); fits = omega (arith, l); closed = λ bad. cc }) }))

    -- a token that the statement begins with
    opening : {A : Type 0} {Q : A → Cursor → Type 0} (t : Token) (k : Kind) (c : Cursor) (q : Parser A) → t.kind ≡ k → Some t ≡ head c.ahead → ((m : Cursor) → Shifts k c m → Meets q m Q) → Meets (after t >> q) c Q
    opening t k c q e i f = meets_then {q = q} (meets_after t c i) (λ _ m h. f m (shifts (rw e at h)))

    needed : {A : Type 0} {Q : A → Cursor → Type 0} (t : Token) (k : Kind) (c : Cursor) (q : Parser A) → t.kind ≡ k → Some t ≡ head c.ahead → ((m : Cursor) → Shifts k c m → Meets q m Q) → Meets (needs 1 d >> after t >> q) c Q
    needed t k c q e i f = meets_needs 1 d (λ _. opening t k c q e i f)

    word_kind : (t : Token) (x : Keyword) (c : Cursor) → t.kind ≡ kind.Keyword x → Some t ≡ head c.ahead → Meets (reading.by_word names d below t x) c (IsStmt (suc d) c)
    word_kind t w.If c q e = rw (ap from_of e) (needed t (kind.Keyword w.If) c _ q e (λ m k. meets_if_word c m k))
    word_kind t w.While c q e = rw (ap from_of e) (needed t (kind.Keyword w.While) c _ q e (λ m k. meets_while c m k))
    word_kind t w.Do c q e = rw (ap from_of e) (needed t (kind.Keyword w.Do) c _ q e (λ m k. meets_do c m k))
    word_kind t w.For c q e = rw (ap from_of e) (needed t (kind.Keyword w.For) c _ q e (λ m k. meets_for c m k))
    word_kind t w.Switch c q e = rw (ap from_of e) (needed t (kind.Keyword w.Switch) c _ q e (λ m k. meets_switch c m k))
    word_kind t w.Case c q e = rw (ap from_of e) (needed t (kind.Keyword w.Case) c _ q e (λ m k. meets_case c m k))
    word_kind t w.Default c q e = rw (ap from_of e) (needed t (kind.Keyword w.Default) c _ q e (λ m k. meets_default c m k))
    word_kind t w.Break c q e = rw (ap from_of e) (opening t (kind.Keyword w.Break) c _ q e (λ m k. meets_then {q = ended >>= (λ z. pure (Break (begin c) z))} (meets_mark p.Semicolon m) (λ _ n z. record { holds = record { spells = (m, k, z, record { from_is = refl; to_is = refl }); fits = omega arith; closed = λ bad. cc } })))
    word_kind t w.Continue c q e = rw (ap from_of e) (opening t (kind.Keyword w.Continue) c _ q e (λ m k. meets_then {q = ended >>= (λ z. pure (Continue (begin c) z))} (meets_mark p.Semicolon m) (λ _ n z. record { holds = record { spells = (m, k, z, record { from_is = refl; to_is = refl }); fits = omega arith; closed = λ bad. cc } })))
    word_kind t w.Return c q e = rw (ap from_of e) (opening t (kind.Keyword w.Return) c _ q e (λ m k. meets_return c m k))
    word_kind t x c q e = rw (ap from_of e) (meets_expression c)

    stmt_kind : (t : Token) (k : Kind) (c : Cursor) → t.kind ≡ k → Some t ≡ head c.ahead → Meets (reading.by_kind names d below t k) c (IsStmt (suc d) c)
    stmt_kind t (kind.Keyword x) c q e = word_kind t x c q e
    stmt_kind t (kind.Punct p.LeftBrace) c q e = rw (ap from_of e) (opening t (kind.Punct p.LeftBrace) c _ q e (λ m k. meets_block c m k))
    stmt_kind t k c q e = rw (ap from_of e) (meets_expression c)

    stmt_head : (h : Option Token) (c : Cursor) → h ≡ head c.ahead → Meets (reading.stmt_at names d below h) c (IsStmt (suc d) c)
    stmt_head None c e = meets_refuse
    stmt_head (Some t) c e = stmt_kind t t.kind c refl e

    meets_level : (c : Cursor) → Meets (reading.stmt_level names d below) c (IsStmt (suc d) c)
    unfolding reading.stmt_level
    meets_level c = meets_look (λ h e. stmt_head h c e)

  no_stmt_head : (c : Cursor) (h : Option Token) → Meets (reading.no_stmt_at names h) c (IsStmt 0 c)
  no_stmt_head c None = meets_refuse
  no_stmt_head c (Some t) = meets_if (reading.begins_stmt names t.kind) (λ _. meets_refuse) (λ _. meets_then {q = refuse S1} ((sound names 0).expr 0 c (omega arith)) (λ x m r. meets_refuse))

  meets_stmt : (d : ℕ) (c : Cursor) → Meets (reading.stmt names d) c (IsStmt d c)
  unfolding reading.stmt
  meets_stmt zero c = meets_look (λ h _. no_stmt_head c h)
  meets_stmt (suc d) c = meets_level d (reading.stmt names d) (meets_stmt d) c

module _ (d : ℕ) where
  stored_kind : (t : Token) (k : Kind) (o : Option Storage) (c : Cursor) → t.kind ≡ k → reading.storage_of d k ≡ o → Some t ≡ head c.ahead → Meets (reading.stored_by d t o) c (λ x e. StorageSpells x c e)
  stored_kind t k None c q y e = record { holds = refl }
  stored_kind t k (Some x) c q y e = meets_then {q = pure (Some x)} (meets_after t c e) (λ _ m h. record { holds = shifts (rw (q ∙ storage_kind k x y) at h) })
    where
      storage_kind : (v : Kind) (u : Storage) → reading.storage_of d v ≡ Some u → v ≡ kind.Keyword (storage_word u)
      storage_kind (kind.Keyword w.Typedef) u f = let same : storage.Typedef ≡ u = cc in rw (← same) refl
      storage_kind (kind.Keyword w.Static) u f = let same : storage.Static ≡ u = cc in rw (← same) refl
      storage_kind (kind.Keyword w.Extern) u f = let same : storage.Extern ≡ u = cc in rw (← same) refl
      storage_kind _ u f = cc

  stored_head : (c : Cursor) (h : Option Token) → h ≡ head c.ahead → Meets (reading.stored_at d h) c (λ x e. StorageSpells x c e)
  stored_head c None e = record { holds = refl }
  stored_head c (Some t) e = stored_kind t t.kind (reading.storage_of d t.kind) c refl refl e

  typedef_no : (word : Option Storage) → reading.is_typedef d word ≡ false → word ≢ Some storage.Typedef
  typedef_no None q h = cc
  typedef_no (Some storage.Typedef) q h = cc
  typedef_no (Some storage.Static) q h = cc
  typedef_no (Some storage.Extern) q h = cc

  module _ (names : List ℕ) where
    abbrev IsFileItem : Cursor → FileItemTree → Cursor → Type 0
    IsFileItem c x e = FileItemSpells names x c e × (file_item_height x ≤ d)

    meets_ends : (word : Option Storage) (s : SpecsTree) (xs : List InitDeclaratorTree) (c m n o : Cursor) → StorageSpells word c m → SpecsSpell names true s m n → specs_height s ≤ d → InitDeclaratorsSpell word names xs n o → init_declarators_height xs ≤ d → Meets (reading.ends_declaration d word s xs (begin c)) o (IsFileItem c)
    meets_ends word s xs c m n o h t l r k = meets_then (meets_mark p.Semicolon o) (λ _ e z. record { holds = (((m, n, o, h, t, r, z, record { from_is = refl; to_is = refl }), record { from_is = refl; to_is = refl }), omega (arith, l, k)) })

    compound_first : (b : StmtTree) (c e : Cursor) → StmtSpells names b c e → sees p.LeftBrace (head c.ahead) ≡ true → is_compound b ≡ true
    compound_first (Compound items a z) c e h q = refl
    compound_first (Expression None a z) c e h q = let bad : false ≡ true = sym (rw h.1 (rw ((h.2).takes).ahead refl)) ∙ q in cc
    compound_first (Expression (Some v) a z) c e h q = let bad : false ≡ true = sym (not_begun names p.LeftBrace refl v 0 c h.0 h.1) ∙ q in cc
    compound_first (If test body a z) c e h q = let bad : false ≡ true = sym (ap (λ x. sees p.LeftBrace (head x)) ((h.4).takes).ahead) ∙ q in cc
    compound_first (IfElse test x y a z) c e h q = let bad : false ≡ true = sym (ap (λ x. sees p.LeftBrace (head x)) ((h.6).takes).ahead) ∙ q in cc
    compound_first (While test body a z) c e h q = let bad : false ≡ true = sym (ap (λ x. sees p.LeftBrace (head x)) ((h.4).takes).ahead) ∙ q in cc
    compound_first (DoWhile body test a z) c e h q = let bad : false ≡ true = sym (ap (λ x. sees p.LeftBrace (head x)) ((h.6).takes).ahead) ∙ q in cc
    compound_first (For start test step body a z) c e h q = let bad : false ≡ true = sym (ap (λ x. sees p.LeftBrace (head x)) ((h.7).takes).ahead) ∙ q in cc
    compound_first (Switch v body a z) c e h q = let bad : false ≡ true = sym (ap (λ x. sees p.LeftBrace (head x)) ((h.4).takes).ahead) ∙ q in cc
    compound_first (Case v body a z) c e h q = let bad : false ≡ true = sym (ap (λ x. sees p.LeftBrace (head x)) ((h.3).takes).ahead) ∙ q in cc
    compound_first (Default body a z) c e h q = let bad : false ≡ true = sym (ap (λ x. sees p.LeftBrace (head x)) ((h.2).takes).ahead) ∙ q in cc
    compound_first (Break a z) c e h q = let bad : false ≡ true = sym (ap (λ x. sees p.LeftBrace (head x)) ((h.1).takes).ahead) ∙ q in cc
    compound_first (Continue a z) c e h q = let bad : false ≡ true = sym (ap (λ x. sees p.LeftBrace (head x)) ((h.1).takes).ahead) ∙ q in cc
    compound_first (Return v a z) c e h q = let bad : false ≡ true = sym (ap (λ x. sees p.LeftBrace (head x)) ((h.2).takes).ahead) ∙ q in cc

    body_head : (word : Option Storage) (s : SpecsTree) (x : DeclaratorTree) (c m n o : Cursor) → StorageSpells word c m → SpecsSpell names true s m n → specs_height s ≤ d → has_name x ≡ true → DeclaratorSpells names 0 x n o → declarator_height x ≤ d → (h : Option Token) → h ≡ head o.ahead
        → Meets (reading.body_at d names word s (begin c) (begin n) x h) o (IsFileItem c)
    body_head word s x c m n o h t l y u k i q = rw q (meets_if (not (reading.is_typedef d word) && sees p.LeftBrace (head o.ahead))
        (λ z. meets_bind {f = λ b. ended >>= (λ v. pure (Defined (OfFunctionDefinition word s x b (begin c) v) (begin c) v))} (meets_stmt names d o) (λ b e r. record {
          holds =
              (let f = r.fits in (((m, n, o, typedef_no word (not_true _ (and_left _ _ z)), h, t, y, u, compound_first b o e r.spells (and_right _ _ z), r.spells, record { from_is = refl; to_is = refl }), record { from_is = refl; to_is = refl }), omega (arith, l, k, f)));
        }))
        (λ _. meets_bind {f = λ v. reading.declared word d names (v ∷ []) >>= (λ xs. reading.ends_declaration d word s xs (begin c))} (meets_finished word d names x n o y u k) (λ v j a. meets_bind {f = λ xs. reading.ends_declaration d word s xs (begin c)} (meets_declared word d names (v ∷ []) j) (λ xs e f.
        (let b = f.fits in let g = a.1 in rw f.all_is (meets_ends word s (v ∷ f.items) c m n e h t l (j, a.0, f.spells) (omega (arith, g, b))))))))

    declarators_head : (word : Option Storage) (s : SpecsTree) (c m n : Cursor) → StorageSpells word c m → SpecsSpell names true s m n → specs_height s ≤ d → (h : Option Token) → h ≡ head n.ahead → Meets (reading.declarators_at d names word s (begin c) h) n (IsFileItem c)
    declarators_head word s c m n h t l i q = rw q (meets_if (sees p.Semicolon (head n.ahead)) (λ _. meets_ends word s [] c m n n h t l refl (omega arith))
        (λ _. meets_bind {f = λ x. look (reading.body_at d names word s (begin c) (begin n) x)} ((sound names d).declarator naming.Named n) (λ x o (y, u, k). meets_look {f = reading.body_at d names word s (begin c) (begin n) x} (λ j v. body_head word s x c m n o h t l y u k j v))))

    meets_external : (c : Cursor) → Meets (reading.external d names (begin c)) c (IsFileItem c)
    meets_external c = meets_bind {f = λ word. (parsers names d).specs true >>= (λ s. look (reading.declarators_at d names word s (begin c)))} (meets_look {f = reading.stored_at d} (λ h q. stored_head c h q)) (λ word m h. meets_bind {f = λ s. look (reading.declarators_at d names word s (begin c))} ((sound names d).specs true m)
        (λ s n (t, l). meets_look {f = reading.declarators_at d names word s (begin c)} (λ i q. declarators_head word s c m n h t l i q)))

    file_item_kind : (t : Token) (k : Kind) (c : Cursor) → t.kind ≡ k → Some t ≡ head c.ahead → Meets (reading.file_item_by d names t k) c (IsFileItem c)
    file_item_kind t (kind.Include x) c q e = meets_then {q = pure (Included x t.from t.to)} (meets_after t c e) (λ _ m h. record { holds = (rw q at h, omega arith) })
    file_item_kind t k c q e = rw (ap from_of e) (meets_external c)

    file_item_head : (h : Option Token) (c : Cursor) → h ≡ head c.ahead → Meets (reading.file_item_at d names h) c (IsFileItem c)
    file_item_head None c e = meets_refuse
    file_item_head (Some t) c e = file_item_kind t t.kind c refl e

    meets_file_item : (c : Cursor) → Meets (reading.file_item d names) c (IsFileItem c)
    unfolding reading.file_item
    meets_file_item c = meets_look (λ h e. file_item_head h c e)

  items_snoc : (names : List ℕ) (xs : FileTree) (x : FileItemTree) (c m e : Cursor) → FileItemsSpell names xs c m → FileItemSpells (reading.names_behind d xs names) x m e → FileItemsSpell names (xs ++ x ∷ []) c e
  items_snoc names [] x c m e h s = (e, rw h s, refl)
  items_snoc names (y ∷ ys) x c m e (n, t, h) s = (n, t, items_snoc (behind_item y names) ys x n m e h s)

  height_snoc : (xs : FileTree) (x : FileItemTree) → file_height xs ≤ d → file_item_height x ≤ d → file_height (xs ++ x ∷ []) ≤ d
  height_snoc [] x l k = omega (arith, k)
  height_snoc (y ∷ ys) x l k = let r = height_snoc ys x (omega (arith, l)) k in omega (arith, l, r)

  -- what was read of a file
  record IsFile (c : Cursor) (x : FileTree) (e : Cursor) : Type 0 where
    spells : FileItemsSpell [] x c e
    fits : file_height x ≤ d

  record IsWhole (c : Cursor) (x : FileTree) (e : Cursor) : Type 0 where
    file : IsFile c x e
    over : None ≡ head e.ahead

  file_turn : (c : Cursor) (all : FileTree) (m : Cursor) → IsFile c all m → (h : Option Token) → h ≡ head m.ahead → Meets (reading.file_step_at d all h) m (After (reading.file_step d) (IsFile c) (IsWhole c))
  file_turn c all m i None q = record { holds = record { file = i; over = q } }
  file_turn c all m i (Some t) q = meets_bind (meets_file_item (reading.names_behind d all []) m) (λ x e r. record { holds = record { spells = items_snoc [] all x c m e i.spells r.0; fits = height_snoc all x i.fits r.1 } })

  meets_file : (c : Cursor) → Meets (reading.file d) c (IsWhole c)
  unfolding reading.file
  meets_file c = meets_iterate (reading.file_step d) (IsFile c) (IsWhole c) (λ all m i. meets_look (λ h q. file_turn c all m i h q)) [] c (record { spells = refl; fits = omega arith })

  empty_tokens : (ts : List Token) → None ≡ head ts → ts ≡ []
  empty_tokens [] e = refl
  empty_tokens (t ∷ ts) e = cc

  -- What is read is a file's tree of these tokens, and no deeper.
  pub file_sound : (x : FileTree) (tokens : List Token) (e : Cursor) → reading.file d (start tokens) ≡ Ok (x, e) → Spells x tokens × (file_height x ≤ d)
  file_sound x tokens e h = let r = (meets_file (start tokens)).holds in let q = rw h at r in let o : e.ahead ≡ [] = empty_tokens e.ahead q.over in
      (record { to = e.ended; spells = rw o at (q.file).spells }, (q.file).fits)
