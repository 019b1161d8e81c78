-- How many nodes a tree has: each declared name, each statement, each expression and each initializer list in braces counts one.
-- Parentheses count nothing, and tags are no declared names.
use Rattle.std.specs.Prelude.{ℕ, suc, ◌+◌, List, [], ◌∷◌, Option, Some, None}
use Rattle.pa_tree.specs.Exprs.{ExprTree, Identifier, Integer, Character, Text, Paren, Index, Call, Dot, Arrow, Postfix, Prefix, SizeofExpr, SizeofType, Cast, Binary, Conditional, TypeNameTree, OfTypeName, SpecsTree, OfSpecs, QualifierTree, Const, Ptrauth, BaseTree, Void, Boolean, Words, TypedefName, StructTag, StructBody, EnumTag, EnumBody, MemberTree, OfMember, EnumeratorTree, OfEnumerator, DeclaratorTree, Named, Absent, Pointer, Grouped, Array, Function, ParametersTree, Empty, OnlyVoid, Listed, ParameterTree, OfParameter, ExprTrees, NoExprs, ConsExpr, QualifierTrees, NoQualifiers, ConsQualifier, MemberTrees, NoMembers, ConsMember, EnumeratorTrees, NoEnumerators, ConsEnumerator, DeclaratorTrees, NoDeclarators, ConsDeclarator, ParameterTrees, NoParameters, ConsParameter, MaybeExprTree, NoExpr, SomeExpr}
use Rattle.pa_tree.specs.Stmts.{InitializerTree, Value, Braced, InitializerTrees, NoInitializers, ConsInitializer, InitDeclaratorTree, OfInitDeclarator, BlockDeclarationTree, OfBlockDeclaration, ForStartTree, Declares, Evaluates, StmtTree, Compound, Expression, If, IfElse, While, DoWhile, For, Switch, Case, Default, Break, Continue, Return, BlockItemTree, DeclarationItem, StatementItem, BlockItemTrees, NoBlockItems, ConsBlockItem, OfDeclaration, OfFunctionDefinition, FileItemTree, Included, Declared, Defined, FileTree}

abbrev mutual
  pub expr_nodes : ExprTree → ℕ
  expr_nodes (Identifier name a z) = 1
  expr_nodes (Integer value decimal unsigned long a z) = 1
  expr_nodes (Character value a z) = 1
  expr_nodes (Text bytes a z) = 1
  expr_nodes (Paren inner a z) = expr_nodes inner
  expr_nodes (Index of at a z) = suc (expr_nodes of + expr_nodes at)
  expr_nodes (Call of arguments a z) = suc (expr_nodes of + exprs_nodes arguments)
  expr_nodes (Dot of member a z) = suc (expr_nodes of)
  expr_nodes (Arrow of member a z) = suc (expr_nodes of)
  expr_nodes (Postfix op of a z) = suc (expr_nodes of)
  expr_nodes (Prefix op of a z) = suc (expr_nodes of)
  expr_nodes (SizeofExpr of a z) = suc (expr_nodes of)
  expr_nodes (SizeofType of a z) = suc (type_name_nodes of)
  expr_nodes (Cast wanted of a z) = suc (type_name_nodes wanted + expr_nodes of)
  expr_nodes (Binary op left right a z) = suc (expr_nodes left + expr_nodes right)
  expr_nodes (Conditional test when_true when_false a z) = suc (expr_nodes test + (expr_nodes when_true + expr_nodes when_false))

  pub exprs_nodes : ExprTrees → ℕ
  exprs_nodes NoExprs = 0
  exprs_nodes (ConsExpr e es) = expr_nodes e + exprs_nodes es

  pub maybe_expr_nodes : MaybeExprTree → ℕ
  maybe_expr_nodes NoExpr = 0
  maybe_expr_nodes (SomeExpr e) = expr_nodes e

  pub type_name_nodes : TypeNameTree → ℕ
  type_name_nodes (OfTypeName specs declarator a z) = specs_nodes specs + declarator_nodes declarator

  pub specs_nodes : SpecsTree → ℕ
  specs_nodes (OfSpecs before base after a z) = qualifiers_nodes before + (base_nodes base + qualifiers_nodes after)

  pub qualifier_nodes : QualifierTree → ℕ
  qualifier_nodes (Const a z) = 0
  qualifier_nodes (Ptrauth arguments a z) = exprs_nodes arguments

  pub qualifiers_nodes : QualifierTrees → ℕ
  qualifiers_nodes NoQualifiers = 0
  qualifiers_nodes (ConsQualifier q qs) = qualifier_nodes q + qualifiers_nodes qs

  pub base_nodes : BaseTree → ℕ
  base_nodes (Void a z) = 0
  base_nodes (Boolean a z) = 0
  base_nodes (Words words a z) = 0
  base_nodes (TypedefName name a z) = 0
  base_nodes (StructTag tag a z) = 0
  base_nodes (StructBody tag members a z) = members_nodes members
  base_nodes (EnumTag tag a z) = 0
  base_nodes (EnumBody tag enumerators a z) = enumerators_nodes enumerators

  pub member_nodes : MemberTree → ℕ
  member_nodes (OfMember specs declarators a z) = specs_nodes specs + declarators_nodes declarators

  pub members_nodes : MemberTrees → ℕ
  members_nodes NoMembers = 0
  members_nodes (ConsMember m ms) = member_nodes m + members_nodes ms

  pub enumerator_nodes : EnumeratorTree → ℕ
  enumerator_nodes (OfEnumerator name value a z) = suc (maybe_expr_nodes value)

  pub enumerators_nodes : EnumeratorTrees → ℕ
  enumerators_nodes NoEnumerators = 0
  enumerators_nodes (ConsEnumerator e es) = enumerator_nodes e + enumerators_nodes es

  pub declarator_nodes : DeclaratorTree → ℕ
  declarator_nodes (Named name a z) = 1
  declarator_nodes (Absent a z) = 0
  declarator_nodes (Pointer qualifiers of a z) = qualifiers_nodes qualifiers + declarator_nodes of
  declarator_nodes (Grouped inner a z) = declarator_nodes inner
  declarator_nodes (Array of length a z) = declarator_nodes of + maybe_expr_nodes length
  declarator_nodes (Function of parameters a z) = declarator_nodes of + parameters_nodes parameters

  pub declarators_nodes : DeclaratorTrees → ℕ
  declarators_nodes NoDeclarators = 0
  declarators_nodes (ConsDeclarator d ds) = declarator_nodes d + declarators_nodes ds

  pub parameters_nodes : ParametersTree → ℕ
  parameters_nodes (Empty a z) = 0
  parameters_nodes (OnlyVoid a z) = 0
  parameters_nodes (Listed parameters a z) = parameter_list_nodes parameters

  pub parameter_nodes : ParameterTree → ℕ
  parameter_nodes (OfParameter specs declarator a z) = specs_nodes specs + declarator_nodes declarator

  pub parameter_list_nodes : ParameterTrees → ℕ
  parameter_list_nodes NoParameters = 0
  parameter_list_nodes (ConsParameter p ps) = parameter_nodes p + parameter_list_nodes ps

abbrev mutual
  pub initializer_nodes : InitializerTree → ℕ
  initializer_nodes (Value value a z) = expr_nodes value
  initializer_nodes (Braced items a z) = suc (initializers_nodes items)

  pub initializers_nodes : InitializerTrees → ℕ
  initializers_nodes NoInitializers = 0
  initializers_nodes (ConsInitializer i is) = initializer_nodes i + initializers_nodes is

abbrev pub maybe_initializer_nodes : Option InitializerTree → ℕ
maybe_initializer_nodes None = 0
maybe_initializer_nodes (Some i) = initializer_nodes i

abbrev pub init_declarator_nodes : InitDeclaratorTree → ℕ
init_declarator_nodes (OfInitDeclarator declarator initializer a z) = declarator_nodes declarator + maybe_initializer_nodes initializer

abbrev pub init_declarators_nodes : List InitDeclaratorTree → ℕ
init_declarators_nodes [] = 0
init_declarators_nodes (d ∷ ds) = init_declarator_nodes d + init_declarators_nodes ds

abbrev pub block_declaration_nodes : BlockDeclarationTree → ℕ
block_declaration_nodes (OfBlockDeclaration specs declarators a z) = specs_nodes specs + init_declarators_nodes declarators

abbrev pub option_expr_nodes : Option ExprTree → ℕ
option_expr_nodes None = 0
option_expr_nodes (Some e) = expr_nodes e

abbrev pub for_start_nodes : ForStartTree → ℕ
for_start_nodes (Declares declaration a z) = block_declaration_nodes declaration
for_start_nodes (Evaluates value a z) = option_expr_nodes value

abbrev mutual
  pub stmt_nodes : StmtTree → ℕ
  stmt_nodes (Compound items a z) = suc (block_items_nodes items)
  stmt_nodes (Expression value a z) = suc (option_expr_nodes value)
  stmt_nodes (If test body a z) = suc (expr_nodes test + stmt_nodes body)
  stmt_nodes (IfElse test when_true when_false a z) = suc (expr_nodes test + (stmt_nodes when_true + stmt_nodes when_false))
  stmt_nodes (While test body a z) = suc (expr_nodes test + stmt_nodes body)
  stmt_nodes (DoWhile body test a z) = suc (stmt_nodes body + expr_nodes test)
  stmt_nodes (For start test step body a z) = suc (for_start_nodes start + (option_expr_nodes test + (option_expr_nodes step + stmt_nodes body)))
  stmt_nodes (Switch value body a z) = suc (expr_nodes value + stmt_nodes body)
  stmt_nodes (Case value body a z) = suc (expr_nodes value + stmt_nodes body)
  stmt_nodes (Default body a z) = suc (stmt_nodes body)
  stmt_nodes (Break a z) = 1
  stmt_nodes (Continue a z) = 1
  stmt_nodes (Return value a z) = suc (option_expr_nodes value)

  pub block_item_nodes : BlockItemTree → ℕ
  block_item_nodes (DeclarationItem declaration a z) = block_declaration_nodes declaration
  block_item_nodes (StatementItem statement a z) = stmt_nodes statement

  pub block_items_nodes : BlockItemTrees → ℕ
  block_items_nodes NoBlockItems = 0
  block_items_nodes (ConsBlockItem i is) = block_item_nodes i + block_items_nodes is

abbrev pub file_item_nodes : FileItemTree → ℕ
file_item_nodes (Included include a z) = 0
file_item_nodes (Declared (OfDeclaration storage specs declarators _ _) a z) = specs_nodes specs + init_declarators_nodes declarators
file_item_nodes (Defined (OfFunctionDefinition storage specs declarator body _ _) a z) = specs_nodes specs + (declarator_nodes declarator + stmt_nodes body)

abbrev pub file_nodes : FileTree → ℕ
file_nodes [] = 0
file_nodes (i ∷ is) = file_item_nodes i + file_nodes is
