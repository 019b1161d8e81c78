-- How deep a tree is: the largest count on a path from it down. On a path each of these counts one: an expression, a
-- parenthesised expression or declarator, a declared name, each `*` of a declarator and each of its array and function parts, the
-- body of a struct or an enumeration, an initializer in braces, a statement.
use Rattle.std.specs.Prelude.{ℕ, suc, max, List, [], ◌∷◌, Option, Some, None}
use Rattle.pa_tree.specs.Exprs.{ExprTree, Identifier, Integer, Character, Text, Paren, Index, Call, Dot, Arrow, Postfix, Prefix, SizeofExpr, SizeofType, Cast, Binary, Conditional, TypeNameTree, OfTypeName, SpecsTree, OfSpecs, QualifierTree, Const, Ptrauth, BaseTree, Void, Boolean, Words, TypedefName, StructTag, StructBody, EnumTag, EnumBody, MemberTree, OfMember, EnumeratorTree, OfEnumerator, DeclaratorTree, Named, Absent, Pointer, Grouped, Array, Function, ParametersTree, Empty, OnlyVoid, Listed, ParameterTree, OfParameter, ExprTrees, NoExprs, ConsExpr, QualifierTrees, NoQualifiers, ConsQualifier, MemberTrees, NoMembers, ConsMember, EnumeratorTrees, NoEnumerators, ConsEnumerator, DeclaratorTrees, NoDeclarators, ConsDeclarator, ParameterTrees, NoParameters, ConsParameter, MaybeExprTree, NoExpr, SomeExpr}
use Rattle.pa_tree.specs.Stmts.{InitializerTree, Value, Braced, InitializerTrees, NoInitializers, ConsInitializer, InitDeclaratorTree, OfInitDeclarator, BlockDeclarationTree, OfBlockDeclaration, ForStartTree, Declares, Evaluates, StmtTree, Compound, Expression, If, IfElse, While, DoWhile, For, Switch, Case, Default, Break, Continue, Return, BlockItemTree, DeclarationItem, StatementItem, BlockItemTrees, NoBlockItems, ConsBlockItem, OfDeclaration, OfFunctionDefinition, FileItemTree, Included, Declared, Defined, FileTree}

abbrev mutual
  pub expr_height : ExprTree → ℕ
  expr_height (Identifier name a z) = 1
  expr_height (Integer value decimal unsigned long a z) = 1
  expr_height (Character value a z) = 1
  expr_height (Text bytes a z) = 1
  expr_height (Paren inner a z) = suc (expr_height inner)
  expr_height (Index of at a z) = suc (max (expr_height of) (expr_height at))
  expr_height (Call of arguments a z) = suc (max (expr_height of) (exprs_height arguments))
  expr_height (Dot of member a z) = suc (expr_height of)
  expr_height (Arrow of member a z) = suc (expr_height of)
  expr_height (Postfix op of a z) = suc (expr_height of)
  expr_height (Prefix op of a z) = suc (expr_height of)
  expr_height (SizeofExpr of a z) = suc (expr_height of)
  expr_height (SizeofType of a z) = suc (type_name_height of)
  expr_height (Cast wanted of a z) = suc (max (type_name_height wanted) (expr_height of))
  expr_height (Binary op left right a z) = suc (max (expr_height left) (expr_height right))
  expr_height (Conditional test when_true when_false a z) = suc (max (expr_height test) (max (expr_height when_true) (expr_height when_false)))

  pub exprs_height : ExprTrees → ℕ
  exprs_height NoExprs = 0
  exprs_height (ConsExpr e es) = max (expr_height e) (exprs_height es)

  pub maybe_expr_height : MaybeExprTree → ℕ
  maybe_expr_height NoExpr = 0
  maybe_expr_height (SomeExpr e) = expr_height e

  pub type_name_height : TypeNameTree → ℕ
  type_name_height (OfTypeName specs declarator a z) = max (specs_height specs) (declarator_height declarator)

  pub specs_height : SpecsTree → ℕ
  specs_height (OfSpecs before base after a z) = max (qualifiers_height before) (max (base_height base) (qualifiers_height after))

  pub qualifier_height : QualifierTree → ℕ
  qualifier_height (Const a z) = 0
  qualifier_height (Ptrauth arguments a z) = exprs_height arguments

  pub qualifiers_height : QualifierTrees → ℕ
  qualifiers_height NoQualifiers = 0
  qualifiers_height (ConsQualifier q qs) = max (qualifier_height q) (qualifiers_height qs)

  pub base_height : BaseTree → ℕ
  base_height (Void a z) = 0
  base_height (Boolean a z) = 0
  base_height (Words words a z) = 0
  base_height (TypedefName name a z) = 0
  base_height (StructTag tag a z) = 0
  base_height (StructBody tag members a z) = suc (members_height members)
  base_height (EnumTag tag a z) = 0
  base_height (EnumBody tag enumerators a z) = suc (enumerators_height enumerators)

  pub member_height : MemberTree → ℕ
  member_height (OfMember specs declarators a z) = max (specs_height specs) (declarators_height declarators)

  pub members_height : MemberTrees → ℕ
  members_height NoMembers = 0
  members_height (ConsMember m ms) = max (member_height m) (members_height ms)

  pub enumerator_height : EnumeratorTree → ℕ
  enumerator_height (OfEnumerator name value a z) = max 1 (maybe_expr_height value)

  pub enumerators_height : EnumeratorTrees → ℕ
  enumerators_height NoEnumerators = 0
  enumerators_height (ConsEnumerator e es) = max (enumerator_height e) (enumerators_height es)

  pub declarator_height : DeclaratorTree → ℕ
  declarator_height (Named name a z) = 1
  declarator_height (Absent a z) = 0
  declarator_height (Pointer qualifiers of a z) = suc (max (qualifiers_height qualifiers) (declarator_height of))
  declarator_height (Grouped inner a z) = suc (declarator_height inner)
  declarator_height (Array of length a z) = suc (max (declarator_height of) (maybe_expr_height length))
  declarator_height (Function of parameters a z) = suc (max (declarator_height of) (parameters_height parameters))

  pub declarators_height : DeclaratorTrees → ℕ
  declarators_height NoDeclarators = 0
  declarators_height (ConsDeclarator d ds) = max (declarator_height d) (declarators_height ds)

  pub parameters_height : ParametersTree → ℕ
  parameters_height (Empty a z) = 0
  parameters_height (OnlyVoid a z) = 0
  parameters_height (Listed parameters a z) = parameter_list_height parameters

  pub parameter_height : ParameterTree → ℕ
  parameter_height (OfParameter specs declarator a z) = max (specs_height specs) (declarator_height declarator)

  pub parameter_list_height : ParameterTrees → ℕ
  parameter_list_height NoParameters = 0
  parameter_list_height (ConsParameter p ps) = max (parameter_height p) (parameter_list_height ps)

abbrev mutual
  pub initializer_height : InitializerTree → ℕ
  initializer_height (Value value a z) = expr_height value
  initializer_height (Braced items a z) = suc (initializers_height items)

  pub initializers_height : InitializerTrees → ℕ
  initializers_height NoInitializers = 0
  initializers_height (ConsInitializer i is) = max (initializer_height i) (initializers_height is)

abbrev pub maybe_initializer_height : Option InitializerTree → ℕ
maybe_initializer_height None = 0
maybe_initializer_height (Some i) = initializer_height i

abbrev pub init_declarator_height : InitDeclaratorTree → ℕ
init_declarator_height (OfInitDeclarator declarator initializer a z) = max (declarator_height declarator) (maybe_initializer_height initializer)

abbrev pub init_declarators_height : List InitDeclaratorTree → ℕ
init_declarators_height [] = 0
init_declarators_height (d ∷ ds) = max (init_declarator_height d) (init_declarators_height ds)

abbrev pub block_declaration_height : BlockDeclarationTree → ℕ
block_declaration_height (OfBlockDeclaration specs declarators a z) = max (specs_height specs) (init_declarators_height declarators)

abbrev pub option_expr_height : Option ExprTree → ℕ
option_expr_height None = 0
option_expr_height (Some e) = expr_height e

abbrev pub for_start_height : ForStartTree → ℕ
for_start_height (Declares declaration a z) = block_declaration_height declaration
for_start_height (Evaluates value a z) = option_expr_height value

abbrev mutual
  pub stmt_height : StmtTree → ℕ
  stmt_height (Compound items a z) = suc (block_items_height items)
  stmt_height (Expression value a z) = suc (option_expr_height value)
  stmt_height (If test body a z) = suc (max (expr_height test) (stmt_height body))
  stmt_height (IfElse test when_true when_false a z) = suc (max (expr_height test) (max (stmt_height when_true) (stmt_height when_false)))
  stmt_height (While test body a z) = suc (max (expr_height test) (stmt_height body))
  stmt_height (DoWhile body test a z) = suc (max (stmt_height body) (expr_height test))
  stmt_height (For start test step body a z) = suc (max (for_start_height start) (max (option_expr_height test) (max (option_expr_height step) (stmt_height body))))
  stmt_height (Switch value body a z) = suc (max (expr_height value) (stmt_height body))
  stmt_height (Case value body a z) = suc (max (expr_height value) (stmt_height body))
  stmt_height (Default body a z) = suc (stmt_height body)
  stmt_height (Break a z) = 1
  stmt_height (Continue a z) = 1
  stmt_height (Return value a z) = suc (option_expr_height value)

  pub block_item_height : BlockItemTree → ℕ
  block_item_height (DeclarationItem declaration a z) = block_declaration_height declaration
  block_item_height (StatementItem statement a z) = stmt_height statement

  pub block_items_height : BlockItemTrees → ℕ
  block_items_height NoBlockItems = 0
  block_items_height (ConsBlockItem i is) = max (block_item_height i) (block_items_height is)

abbrev pub file_item_height : FileItemTree → ℕ
file_item_height (Included include a z) = 0
file_item_height (Declared (OfDeclaration storage specs declarators _ _) a z) = max (specs_height specs) (init_declarators_height declarators)
file_item_height (Defined (OfFunctionDefinition storage specs declarator body _ _) a z) = max (specs_height specs) (max (declarator_height declarator) (stmt_height body))

-- the depth of a file is that of its deepest declaration or definition
abbrev pub file_height : FileTree → ℕ
file_height [] = 0
file_height (i ∷ is) = max (file_item_height i) (file_height is)
