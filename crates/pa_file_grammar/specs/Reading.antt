-- How statements, declarations and files are read from the left, in a depth.
use Rattle.std.specs.Prelude.{ℕ, zero, suc, Bool, true, false, ◌&&◌, not, List, [], ◌∷◌, ◌++◌, Option, Some, None, if◌then◌else◌}
use Rattle.pa_lex.specs.declared.token.Kind.{Kind}
use Rattle.pa_lex.specs.declared.token.Kind.TheVariants as kind
use Rattle.pa_lex.specs.declared.token.Keyword.{Keyword}
use Rattle.pa_lex.specs.declared.token.Keyword.TheVariants as w
use Rattle.pa_lex.specs.declared.token.Punct.TheVariants as p
use Rattle.pa_lex.specs.declared.token.Token.{Token}
use Rattle.pa_tree.specs.declared.file.Storage.{Storage}
use Rattle.pa_tree.specs.declared.file.Storage.TheVariants as storage
use Rattle.pa_grammar.specs.declared.rule.SynRule.TheVariants.{S1, S2}
use Rattle.pa_grammar.specs.declared.rule.Naming.TheVariants as naming
use Rattle.pa_tree.specs.Cursors.{from_of}
use Rattle.pa_tree.specs.Exprs.{ExprTree, SpecsTree, DeclaratorTree}
use Rattle.pa_tree.specs.Stmts.{InitializerTree, Value, Braced, InitDeclaratorTree, OfInitDeclarator, BlockDeclarationTree, OfBlockDeclaration, ForStartTree, Declares, Evaluates, StmtTree, Compound, Expression, If, IfElse, While, DoWhile, For, Switch, Case, Default, Break, Continue, Return, BlockItemTree, DeclarationItem, StatementItem, OfDeclaration, OfFunctionDefinition, FileItemTree, Included, Declared, Defined, FileTree}
use Rattle.pa_tree.specs.Views.{initializers_of, block_items_of}
use Rattle.pa_tree.specs.Files.{behind, behind_all, behind_item}
use Rattle.pa_grammar.specs.Tokens.{is_word}
use Rattle.pa_grammar.specs.Parser.{Parser, ◌>>=◌, ◌>>◌, pure, refuse, look, after, ended, needs, sees, mark, Next, Done, More, iterate, many}
use Rattle.pa_grammar.specs.Reading.{parsers, begins_type, not_brace}

-- the next token is this keyword
abbrev pub reads_word : Keyword → Option Token → Bool
reads_word x None = false
reads_word x (Some t) = is_word x t.kind

abbrev pub word_at : Keyword → Option Token → Parser (Unit {0})
word_at x None = refuse S1
word_at x (Some t) = if is_word x t.kind then after t else refuse S1

-- takes this keyword
abbrev pub word : Keyword → Parser (Unit {0})
word x = look (word_at x)

module _ (names : List ℕ) where
  abbrev pub item_behind : Parser InitializerTree → List InitializerTree → Option Token → Parser (Next (List InitializerTree) (List InitializerTree))
  item_behind item items h = if sees p.RightBrace h then pure (Done items) else (item >>= (λ x. pure (More (items ++ x ∷ []))))

  abbrev pub more_at : Parser InitializerTree → List InitializerTree → Option Token → Parser (Next (List InitializerTree) (List InitializerTree))
  more_at item items h = if sees p.Comma h then (mark p.Comma >> look (item_behind item items)) else pure (Done items)

  abbrev pub more_step : Parser InitializerTree → List InitializerTree → Parser (Next (List InitializerTree) (List InitializerTree))
  more_step item items = look (more_at item items)

  abbrev pub braced : ℕ → Parser InitializerTree → ℕ → Parser InitializerTree
  braced d item from = needs 1 d >> mark p.LeftBrace >> item >>= (λ x. iterate (more_step item) (x ∷ []) >>= (λ xs. mark p.RightBrace >> ended >>= (λ z. pure (Braced (initializers_of xs) from z))))

  abbrev pub value : ℕ → ℕ → Parser InitializerTree
  value d from = (parsers names d).expr 1 >>= (λ e. ended >>= (λ z. pure (Value e from z)))

  abbrev pub initializer_at : ℕ → Parser InitializerTree → Option Token → Parser InitializerTree
  initializer_at d item h = if sees p.LeftBrace h then braced d item (from_of h) else value (suc d) (from_of h)

  abbrev pub no_initializer_at : Option Token → Parser InitializerTree
  no_initializer_at h = if sees p.LeftBrace h then refuse S2 else value 0 (from_of h)

  unfoldable pub initializer : ℕ → Parser InitializerTree
  initializer zero = look no_initializer_at
  initializer (suc d) = look (initializer_at d (initializer d))

  abbrev pub assigned_at : ℕ → Option Token → Parser (Option InitializerTree)
  assigned_at d h = if sees p.Assign h then (mark p.Assign >> initializer d >>= (λ i. pure (Some i))) else pure None

  -- behind a declarator
  unfoldable pub assigned : ℕ → Parser (Option InitializerTree)
  assigned d = look (assigned_at d)

module _ (storage : Option Storage) (d : ℕ) where
  -- the rest of a declarator that was read from this place on
  abbrev pub finished : List ℕ → ℕ → DeclaratorTree → Parser InitDeclaratorTree
  finished names from x = assigned (behind storage x names) d >>= (λ i. ended >>= (λ z. pure (OfInitDeclarator x i from z)))

  abbrev pub init_declarator_from : List ℕ → Option Token → Parser InitDeclaratorTree
  init_declarator_from names h = (parsers names d).declarator naming.Named >>= finished names (from_of h)

  unfoldable pub init_declarator : List ℕ → Parser InitDeclaratorTree
  init_declarator names = look (init_declarator_from names)

  abbrev pub declared_at : List ℕ → List InitDeclaratorTree → Option Token → Parser (Next (List InitDeclaratorTree) (List InitDeclaratorTree))
  declared_at names items h = if sees p.Comma h then (mark p.Comma >> init_declarator (behind_all storage items names) >>= (λ x. pure (More (items ++ x ∷ [])))) else pure (Done items)

  abbrev pub declared_step : List ℕ → List InitDeclaratorTree → Parser (Next (List InitDeclaratorTree) (List InitDeclaratorTree))
  declared_step names items = look (declared_at names items)

  -- further declarators
  abbrev pub declared : List ℕ → List InitDeclaratorTree → Parser (List InitDeclaratorTree)
  declared names items = iterate (declared_step names) items

  -- the rest of a declarator that was read from this place on, and further ones
  abbrev pub all_declared : List ℕ → ℕ → DeclaratorTree → Parser (List InitDeclaratorTree)
  all_declared names from x = finished names from x >>= (λ i. declared names (i ∷ []))

module _ (names : List ℕ) where
  abbrev pub block_declaration_from : ℕ → Option Token → Parser BlockDeclarationTree
  block_declaration_from d h = needs 1 d >> (parsers names d).specs false >>= (λ s. init_declarator None d names >>= (λ x. declared None d names (x ∷ []) >>= (λ xs. mark p.Semicolon >> ended >>= (λ z. pure (OfBlockDeclaration s xs (from_of h) z)))))

  unfoldable pub block_declaration : ℕ → Parser BlockDeclarationTree
  block_declaration d = look (block_declaration_from d)

  module _ (d : ℕ) (below : Parser StmtTree) where
    abbrev pub expr : Parser ExprTree
    expr = (parsers names d).expr 0

    -- an expression, or none where its end comes
    abbrev pub maybe_at : (Option Token → Bool) → Option Token → Parser (Option ExprTree)
    maybe_at stop h = if stop h then pure None else (expr >>= (λ e. pure (Some e)))

    abbrev pub maybe : (Option Token → Bool) → Parser (Option ExprTree)
    maybe stop = look (maybe_at stop)

    abbrev pub item_from : Option Token → Parser BlockItemTree
    item_from h = if begins_type names h then (block_declaration d >>= (λ b. ended >>= (λ z. pure (DeclarationItem b (from_of h) z)))) else (below >>= (λ s. ended >>= (λ z. pure (StatementItem s (from_of h) z))))

    unfoldable pub item : Parser BlockItemTree
    item = look item_from

    abbrev pub block : ℕ → Parser StmtTree
    block from = many not_brace item [] >>= (λ xs. mark p.RightBrace >> ended >>= (λ z. pure (Compound (block_items_of xs) from z)))

    -- a condition in parentheses
    abbrev pub tested : Parser ExprTree
    tested = mark p.LeftParenthesis >> expr >>= (λ e. mark p.RightParenthesis >> pure e)

    abbrev pub else_at : ℕ → ExprTree → StmtTree → Option Token → Parser StmtTree
    else_at from e s h = if reads_word w.Else h then (word w.Else >> below >>= (λ x. ended >>= (λ z. pure (IfElse e s x from z)))) else (ended >>= (λ z. pure (If e s from z)))

    abbrev pub start_from : Option Token → Parser ForStartTree
    start_from h = if begins_type names h then (block_declaration d >>= (λ b. ended >>= (λ z. pure (Declares b (from_of h) z)))) else (maybe (sees p.Semicolon) >>= (λ e. mark p.Semicolon >> ended >>= (λ z. pure (Evaluates e (from_of h) z))))

    abbrev pub loop_for : ℕ → Parser StmtTree
    loop_for from = mark p.LeftParenthesis >> look start_from >>= (λ i. maybe (sees p.Semicolon) >>= (λ e. mark p.Semicolon >> maybe (sees p.RightParenthesis) >>= (λ s. mark p.RightParenthesis >> below >>= (λ b. ended >>= (λ z. pure (For i e s b from z))))))

    abbrev pub loop_do : ℕ → Parser StmtTree
    loop_do from = below >>= (λ b. word w.While >> tested >>= (λ e. mark p.Semicolon >> ended >>= (λ z. pure (DoWhile b e from z))))

    abbrev pub expression : ℕ → Parser StmtTree
    expression from = maybe (sees p.Semicolon) >>= (λ e. mark p.Semicolon >> ended >>= (λ z. pure (Expression e from z)))

    abbrev pub by_word : Token → Keyword → Parser StmtTree
    by_word t w.If = needs 1 d >> after t >> tested >>= (λ e. below >>= (λ s. look (else_at t.from e s)))
    by_word t w.While = needs 1 d >> after t >> tested >>= (λ e. below >>= (λ b. ended >>= (λ z. pure (While e b t.from z))))
    by_word t w.Do = needs 1 d >> after t >> loop_do t.from
    by_word t w.For = needs 1 d >> after t >> loop_for t.from
    by_word t w.Switch = needs 1 d >> after t >> tested >>= (λ e. below >>= (λ b. ended >>= (λ z. pure (Switch e b t.from z))))
    by_word t w.Case = needs 1 d >> after t >> (parsers names d).expr 2 >>= (λ e. mark p.Colon >> below >>= (λ b. ended >>= (λ z. pure (Case e b t.from z))))
    by_word t w.Default = needs 1 d >> after t >> mark p.Colon >> below >>= (λ b. ended >>= (λ z. pure (Default b t.from z)))
    by_word t w.Break = after t >> mark p.Semicolon >> ended >>= (λ z. pure (Break t.from z))
    by_word t w.Continue = after t >> mark p.Semicolon >> ended >>= (λ z. pure (Continue t.from z))
    by_word t w.Return = after t >> maybe (sees p.Semicolon) >>= (λ e. mark p.Semicolon >> ended >>= (λ z. pure (Return e t.from z)))
    by_word t x = expression t.from

    abbrev pub by_kind : Token → Kind → Parser StmtTree
    by_kind t (kind.Keyword x) = by_word t x
    by_kind t (kind.Punct p.LeftBrace) = after t >> block t.from
    by_kind t k = expression t.from

    abbrev pub stmt_at : Option Token → Parser StmtTree
    stmt_at None = refuse S1
    stmt_at (Some t) = by_kind t t.kind

    unfoldable pub stmt_level : Parser StmtTree
    stmt_level = look stmt_at

  -- keywords that a statement begins with
  abbrev pub begins_stmt_word : Keyword → Bool
  begins_stmt_word w.If = true
  begins_stmt_word w.While = true
  begins_stmt_word w.Do = true
  begins_stmt_word w.For = true
  begins_stmt_word w.Switch = true
  begins_stmt_word w.Case = true
  begins_stmt_word w.Default = true
  begins_stmt_word w.Break = true
  begins_stmt_word w.Continue = true
  begins_stmt_word w.Return = true
  begins_stmt_word _ = false

  abbrev pub begins_stmt : Kind → Bool
  begins_stmt (kind.Keyword x) = begins_stmt_word x
  begins_stmt (kind.Punct p.LeftBrace) = true
  begins_stmt (kind.Punct p.Semicolon) = true
  begins_stmt k = false

  abbrev pub no_stmt_at : Option Token → Parser StmtTree
  no_stmt_at None = refuse S1
  no_stmt_at (Some t) = if begins_stmt t.kind then refuse S2 else ((parsers names 0).expr 0 >> refuse S1)

  unfoldable pub stmt : ℕ → Parser StmtTree
  stmt zero = look no_stmt_at
  stmt (suc d) = stmt_level d (stmt d)

-- A file's items, within a depth.
module _ (d : ℕ) where
  abbrev pub storage_of : Kind → Option Storage
  storage_of (kind.Keyword w.Typedef) = Some storage.Typedef
  storage_of (kind.Keyword w.Static) = Some storage.Static
  storage_of (kind.Keyword w.Extern) = Some storage.Extern
  storage_of _ = None

  abbrev pub stored_by : Token → Option Storage → Parser (Option Storage)
  stored_by t None = pure None
  stored_by t (Some x) = after t >> pure (Some x)

  abbrev pub stored_at : Option Token → Parser (Option Storage)
  stored_at None = pure None
  stored_at (Some t) = stored_by t (storage_of t.kind)

  abbrev pub stored : Parser (Option Storage)
  stored = look stored_at

  abbrev pub is_typedef : Option Storage → Bool
  is_typedef (Some storage.Typedef) = true
  is_typedef _ = false

  abbrev pub ends_declaration : Option Storage → SpecsTree → List InitDeclaratorTree → ℕ → Parser FileItemTree
  ends_declaration word s xs from = mark p.Semicolon >> ended >>= (λ z. pure (Declared (OfDeclaration word s xs from z) from z))

  -- the body of a function
  abbrev pub defines : List ℕ → Option Storage → SpecsTree → ℕ → DeclaratorTree → Parser FileItemTree
  defines names word s from x = stmt names d >>= (λ b. ended >>= (λ z. pure (Defined (OfFunctionDefinition word s x b from z) from z)))

  abbrev pub body_at : List ℕ → Option Storage → SpecsTree → ℕ → ℕ → DeclaratorTree → Option Token → Parser FileItemTree
  body_at names word s from begins x h = if not (is_typedef word) && sees p.LeftBrace h
      then (stmt names d >>= (λ b. ended >>= (λ z. pure (Defined (OfFunctionDefinition word s x b from z) from z))))
      else (finished word d names begins x >>= (λ i. declared word d names (i ∷ []) >>= (λ xs. ends_declaration word s xs from)))

  abbrev pub declarators_at : List ℕ → Option Storage → SpecsTree → ℕ → Option Token → Parser FileItemTree
  declarators_at names word s from h = if sees p.Semicolon h then ends_declaration word s [] from
      else ((parsers names d).declarator naming.Named >>= (λ x. look (body_at names word s from (from_of h) x)))

  abbrev pub external : List ℕ → ℕ → Parser FileItemTree
  external names from = stored >>= (λ word. (parsers names d).specs true >>= (λ s. look (declarators_at names word s from)))

  abbrev pub file_item_by : List ℕ → Token → Kind → Parser FileItemTree
  file_item_by names t (kind.Include x) = after t >> pure (Included x t.from t.to)
  file_item_by names t k = external names t.from

  abbrev pub file_item_at : List ℕ → Option Token → Parser FileItemTree
  file_item_at names None = refuse S1
  file_item_at names (Some t) = file_item_by names t t.kind

  unfoldable pub file_item : List ℕ → Parser FileItemTree
  file_item names = look (file_item_at names)

  abbrev pub names_behind : FileTree → List ℕ → List ℕ
  names_behind [] names = names
  names_behind (x ∷ xs) names = names_behind xs (behind_item x names)

  abbrev pub file_step_at : FileTree → Option Token → Parser (Next FileTree FileTree)
  file_step_at items None = pure (Done items)
  file_step_at items (Some t) = file_item (names_behind items []) >>= (λ x. pure (More (items ++ x ∷ [])))

  abbrev pub file_step : FileTree → Parser (Next FileTree FileTree)
  file_step items = look (file_step_at items)

  -- a whole file
  unfoldable pub file : Parser FileTree
  file = iterate file_step []
