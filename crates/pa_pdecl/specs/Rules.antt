-- The rules of statements, declarations and files (C11 6.7 to 6.9), over the readers of the parts in a depth.
use Rattle.std.specs.Prelude.{◌≡◌, ℕ, List, [], ◌∷◌, map, Option, Result, IfOk}
use Rattle.std.specs.Option.{option_map}
use Rattle.pa_lex.specs.declared.token.Keyword.{Keyword}
use Rattle.pa_lex.specs.declared.token.Keyword.TheVariants as w
use Rattle.pa_lex.specs.declared.token.Kind.TheVariants as kind
use Rattle.pa_lex.specs.declared.token.Punct.{Punct}
use Rattle.pa_lex.specs.declared.token.Punct.TheVariants as p
use Rattle.pa_lex.specs.declared.token.Token.{Token}
use Rattle.pa_tree.specs.declared.declaration.BlockDeclaration.{BlockDeclaration}
use Rattle.pa_tree.specs.declared.declaration.InitDeclarator.{InitDeclarator}
use Rattle.pa_tree.specs.declared.declaration.Initializer.{Initializer}
use Rattle.pa_tree.specs.declared.expr.Declarator.{Declarator}
use Rattle.pa_tree.specs.declared.expr.Expr.{Expr}
use Rattle.pa_tree.specs.declared.file.FileItem.{FileItem}
use Rattle.pa_tree.specs.declared.file.Storage.{Storage}
use Rattle.pa_tree.specs.declared.stmt.BlockItem.{BlockItem}
use Rattle.pa_tree.specs.declared.stmt.ForStart.{ForStart}
use Rattle.pa_tree.specs.declared.stmt.Stmt.{Stmt}
use Rattle.pa_tree.specs.Cursors.{begin, from_of}
use Rattle.pa_tree.specs.Exprs.{ExprTree}
use Rattle.pa_tree.specs.Files.{behind, behind_all, behind_item}
use Rattle.pa_tree.specs.Stmts.{InitializerTree, InitDeclaratorTree, BlockDeclarationTree, ForStartTree, StmtTree, For, BlockItemTree, FileItemTree}
use Rattle.pa_tree.specs.Views.{expr_tree, specs_tree, declarator_tree, initializer_tree, init_declarator_tree, block_declaration_tree, for_start_tree, stmt_tree, block_item_tree, file_item_tree}
use Rattle.pa_parts.specs.declared.at.At.{At}
use Rattle.pa_pdecl.specs.declared.file.Front.{Front}
use Rattle.pa_file_grammar.specs.Reading as reading
use Rattle.pa_grammar.specs.declared.rule.ParseError.{ParseError}
use Rattle.pa_grammar.specs.Parser.{Parser, ◌>>=◌, ◌>>◌, pure, ended, mark, look, many, iterate, sees}
use Rattle.pa_grammar.specs.Reading.{not_brace}
use Rattle.pa_grammar.specs.Rule.{Rule}

-- rules of each kind of tree
abbrev pub expr_rule : Parser ExprTree → Rule Expr ExprTree
expr_rule read = record { view = expr_tree; read = read }

abbrev pub maybe_expr_rule : Parser (Option ExprTree) → Rule (Option Expr) (Option ExprTree)
maybe_expr_rule read = record { view = option_map expr_tree; read = read }

abbrev pub initializer_rule : Parser InitializerTree → Rule Initializer InitializerTree
initializer_rule read = record { view = initializer_tree; read = read }

abbrev pub declarator_rule : Parser InitDeclaratorTree → Rule InitDeclarator InitDeclaratorTree
declarator_rule read = record { view = init_declarator_tree; read = read }

abbrev pub declarators_rule : Parser (List InitDeclaratorTree) → Rule (List InitDeclarator) (List InitDeclaratorTree)
declarators_rule read = record { view = map init_declarator_tree; read = read }

abbrev pub stmt_rule : Parser StmtTree → Rule Stmt StmtTree
stmt_rule read = record { view = stmt_tree; read = read }

abbrev pub file_item_rule : Parser FileItemTree → Rule FileItem FileItemTree
file_item_rule read = record { view = file_item_tree; read = read }

module _ (at : At) where
  -- statements (C11 6.8)
  abbrev pub read_stmt : Parser StmtTree
  read_stmt = reading.stmt at.names.now at.depth

  abbrev pub read_optional : Punct → Parser (Option ExprTree)
  read_optional stop = reading.maybe at.names.now at.depth read_stmt (sees stop)

  abbrev pub stmt : Rule Stmt StmtTree
  stmt = stmt_rule read_stmt

  abbrev pub expr : Rule Expr ExprTree
  expr = expr_rule (reading.expr at.names.now at.depth read_stmt)

  abbrev pub optional_expr : Punct → Rule (Option Expr) (Option ExprTree)
  optional_expr stop = maybe_expr_rule (read_optional stop)

  abbrev pub parenthesized : Rule Expr ExprTree
  parenthesized = expr_rule (reading.tested at.names.now at.depth read_stmt)

  abbrev pub block_item : Rule BlockItem BlockItemTree
  block_item = record { view = block_item_tree; read = reading.item at.names.now at.depth read_stmt }

  abbrev pub block_items : Rule (List BlockItem) (List BlockItemTree)
  block_items = record { view = map block_item_tree; read = many not_brace block_item.read [] }

  abbrev pub for_start : Rule ForStart ForStartTree
  for_start = record { view = for_start_tree; read = look (reading.start_from at.names.now at.depth read_stmt) }

  abbrev pub else_part : ℕ → Expr → Stmt → Rule Stmt StmtTree
  else_part from test when_true = stmt_rule (look (reading.else_at at.names.now at.depth read_stmt from (expr_tree test) (stmt_tree when_true)))

  abbrev pub expr_stmt : ℕ → Rule Stmt StmtTree
  expr_stmt from = stmt_rule (reading.expression at.names.now at.depth read_stmt from)

  abbrev pub keyword_stmt : Token → Keyword → Rule Stmt StmtTree
  keyword_stmt t keyword = stmt_rule (reading.by_word at.names.now at.depth read_stmt t keyword)

  abbrev pub if_stmt : Token → Rule Stmt StmtTree
  if_stmt t = keyword_stmt t w.If

  abbrev pub while_stmt : Token → Rule Stmt StmtTree
  while_stmt t = keyword_stmt t w.While

  abbrev pub do_stmt : Token → Rule Stmt StmtTree
  do_stmt t = keyword_stmt t w.Do

  abbrev pub for_stmt : Token → Rule Stmt StmtTree
  for_stmt t = keyword_stmt t w.For

  abbrev pub switch_stmt : Token → Rule Stmt StmtTree
  switch_stmt t = keyword_stmt t w.Switch

  abbrev pub case_stmt : Token → Rule Stmt StmtTree
  case_stmt t = keyword_stmt t w.Case

  abbrev pub default_stmt : Token → Rule Stmt StmtTree
  default_stmt t = keyword_stmt t w.Default

  abbrev pub break_stmt : Token → Rule Stmt StmtTree
  break_stmt t = keyword_stmt t w.Break

  abbrev pub continue_stmt : Token → Rule Stmt StmtTree
  continue_stmt t = keyword_stmt t w.Continue

  abbrev pub return_stmt : Token → Rule Stmt StmtTree
  return_stmt t = keyword_stmt t w.Return

  abbrev pub punct_stmt : Token → Punct → Rule Stmt StmtTree
  punct_stmt t punct = stmt_rule (reading.by_kind at.names.now at.depth read_stmt t (kind.Punct punct))

  abbrev pub compound_stmt : Token → Rule Stmt StmtTree
  compound_stmt t = punct_stmt t p.LeftBrace

  abbrev pub stmt_level : Rule Stmt StmtTree
  stmt_level = stmt_rule (reading.stmt_level at.names.now at.depth read_stmt)

  -- the parts of a `for` (C11 6.8.5.3), each behind those that are read: behind the `)`
  abbrev pub read_for_body : ℕ → ForStartTree → Option ExprTree → Option ExprTree → Parser StmtTree
  read_for_body from start test step = read_stmt >>= (λ b. ended >>= (λ z. pure (For start test step b from z)))

  -- behind the second `;`
  abbrev pub read_for_step : ℕ → ForStartTree → Option ExprTree → Parser StmtTree
  read_for_step from start test = read_optional p.RightParenthesis >>= (λ s. mark p.RightParenthesis >> read_for_body from start test s)

  -- behind the first `;`
  abbrev pub read_for_test : ℕ → ForStartTree → Parser StmtTree
  read_for_test from start = read_optional p.Semicolon >>= (λ e. mark p.Semicolon >> read_for_step from start e)

  abbrev pub for_body : ℕ → ForStart → Option Expr → Option Expr → Rule Stmt StmtTree
  for_body from start test step = stmt_rule (read_for_body from (for_start_tree start) (option_map expr_tree test) (option_map expr_tree step))

  abbrev pub for_step : ℕ → ForStart → Option Expr → Rule Stmt StmtTree
  for_step from start test = stmt_rule (read_for_step from (for_start_tree start) (option_map expr_tree test))

  abbrev pub for_test : ℕ → ForStart → Rule Stmt StmtTree
  for_test from start = stmt_rule (read_for_test from (for_start_tree start))

  -- initializers in braces (C11 6.7.9)
  abbrev pub read_initializer : Parser InitializerTree
  read_initializer = reading.initializer at.names.now at.depth

  abbrev pub initializer_inside : Rule Initializer InitializerTree
  initializer_inside = initializer_rule read_initializer

  abbrev pub more_initializers : Initializer → Rule (List Initializer) (List InitializerTree)
  more_initializers first = record { view = map initializer_tree; read = iterate (reading.more_step at.names.now read_initializer) (initializer_tree first ∷ []) }

  abbrev pub braced : ℕ → Rule Initializer InitializerTree
  braced from = initializer_rule (reading.braced at.names.now at.depth read_initializer from)

-- Rules in a depth, under these type names.
module _ (names : List ℕ) (depth : ℕ) where
  abbrev pub statement : Rule Stmt StmtTree
  statement = stmt_rule (reading.stmt names depth)

  abbrev pub value : Rule Initializer InitializerTree
  value = initializer_rule (look (λ h. reading.value names depth (from_of h)))

  abbrev pub initializer : Rule Initializer InitializerTree
  initializer = initializer_rule (reading.initializer names depth)

  abbrev pub assigned : Rule (Option Initializer) (Option InitializerTree)
  assigned = record { view = option_map initializer_tree; read = reading.assigned names depth }

  abbrev pub block_declaration : Rule BlockDeclaration BlockDeclarationTree
  block_declaration = record { view = block_declaration_tree; read = reading.block_declaration names depth }

  -- items of a file (C11 6.9)
  abbrev pub function_body : Front → Declarator → Rule FileItem FileItemTree
  function_body front declarator = file_item_rule (reading.defines depth names front.storage (specs_tree front.specs) front.from (declarator_tree declarator))

  -- behind the first declarator: a function's body, or the rest of a declaration
  abbrev pub tail : Front → ℕ → Declarator → Rule FileItem FileItemTree
  tail front from declarator = file_item_rule (look (reading.body_at depth names front.storage (specs_tree front.specs) front.from from (declarator_tree declarator)))

  abbrev pub external : Rule FileItem FileItemTree
  external = file_item_rule (λ c. reading.external depth names (begin c) c)

  abbrev pub file_item : Rule FileItem FileItemTree
  file_item = file_item_rule (reading.file_item depth names)

-- where no statement has room
abbrev pub no_stmt : List ℕ → Rule Stmt StmtTree
no_stmt names = stmt_rule (look (reading.no_stmt_at names))

abbrev pub declaration_end : ℕ → Front → List InitDeclarator → Rule FileItem FileItemTree
declaration_end depth front declarators = file_item_rule (reading.ends_declaration depth front.storage (specs_tree front.specs) (map init_declarator_tree declarators) front.from)

abbrev pub file_items : ℕ → Rule (List FileItem) (List FileItemTree)
file_items depth = record { view = map file_item_tree; read = reading.file depth }

-- Declarators with their initializers (C11 6.7) behind this word, in a depth, under these type names.
module _ (storage : Option Storage) (depth : ℕ) (names : List ℕ) where
  -- the rest of a declarator that begins at this place
  abbrev pub rest : ℕ → Declarator → Rule InitDeclarator InitDeclaratorTree
  rest from declarator = declarator_rule (reading.finished storage depth names from (declarator_tree declarator))

  abbrev pub init_declarator : Rule InitDeclarator InitDeclaratorTree
  init_declarator = declarator_rule (reading.init_declarator storage depth names)

  abbrev pub more_declared : InitDeclarator → Rule (List InitDeclarator) (List InitDeclaratorTree)
  more_declared first = declarators_rule (reading.declared storage depth names (init_declarator_tree first ∷ []))

  -- an init-declarator-list whose first declarator begins at this place
  abbrev pub list : ℕ → Declarator → Rule (List InitDeclarator) (List InitDeclaratorTree)
  list from declarator = declarators_rule (reading.all_declared storage depth names from (declarator_tree declarator))

-- the type names behind what was read
abbrev pub NamesBehind : Option Storage → List ℕ → Result InitDeclarator ParseError → List ℕ → Type 0
NamesBehind storage old r new = IfOk r (λ x. new ≡ behind_all storage (init_declarator_tree x ∷ []) old)

abbrev pub NamesBehindAll : Option Storage → List ℕ → Result (List InitDeclarator) ParseError → List ℕ → Type 0
NamesBehindAll storage old r new = IfOk r (λ xs. new ≡ behind_all storage (map init_declarator_tree xs) old)

abbrev pub NamesBehindItem : List ℕ → Result FileItem ParseError → List ℕ → Type 0
NamesBehindItem old r new = IfOk r (λ x. new ≡ behind_item (file_item_tree x) old)

-- the type names behind a declarator of the program
abbrev pub names_behind : Option Storage → Declarator → List ℕ → List ℕ
names_behind storage declarator names = behind storage (declarator_tree declarator) names
