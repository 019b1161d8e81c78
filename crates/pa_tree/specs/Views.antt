-- The trees of the program as plain data.
use Rattle.std.specs.Prelude.{List, [], ◌∷◌, map, Option, Some, None}
use Rattle.std.specs.Option.{option_map}
use Rattle.pa_tree.specs.declared.expr.Base.{Base, fold-Base}
use Rattle.pa_tree.specs.declared.expr.Declarator.{Declarator, fold-Declarator}
use Rattle.pa_tree.specs.declared.expr.Expr.{Expr, fold-Expr}
use Rattle.pa_tree.specs.declared.expr.Parameters.{Parameters, fold-Parameters}
use Rattle.pa_tree.specs.declared.expr.Qualifier.{Qualifier, fold-Qualifier}
use Rattle.pa_tree.specs.declared.expr.Enumerator.{Enumerator, fold-Enumerator}
use Rattle.pa_tree.specs.declared.expr.Member.{Member, fold-Member}
use Rattle.pa_tree.specs.declared.expr.Parameter.{Parameter, fold-Parameter}
use Rattle.pa_tree.specs.declared.expr.Specs.{Specs, fold-Specs}
use Rattle.pa_tree.specs.declared.expr.TypeName.{TypeName, fold-TypeName}
use Rattle.pa_tree.specs.declared.expr.Base.TheOpen.{Base-F, Declarator-F, Expr-F, Parameters-F, Qualifier-F, Enumerator-F, Member-F, Parameter-F, Specs-F, TypeName-F}
use Rattle.pa_tree.specs.declared.declaration.Initializer.{Initializer, fold-Initializer}
use Rattle.pa_tree.specs.declared.declaration.Initializer.TheOpen.{Initializer-F}
use Rattle.pa_tree.specs.declared.stmt.BlockItem.{BlockItem, fold-BlockItem}
use Rattle.pa_tree.specs.declared.stmt.Stmt.{Stmt, fold-Stmt}
use Rattle.pa_tree.specs.declared.stmt.BlockItem.TheOpen.{BlockItem-F, Stmt-F}
use Rattle.pa_tree.specs.declared.declaration.InitDeclarator.{InitDeclarator}
use Rattle.pa_tree.specs.declared.declaration.BlockDeclaration.{BlockDeclaration}
use Rattle.pa_tree.specs.declared.stmt.ForStart.{ForStart}
use Rattle.pa_tree.specs.declared.file.Declaration.{Declaration}
use Rattle.pa_tree.specs.declared.file.FunctionDefinition.{FunctionDefinition}
use Rattle.pa_tree.specs.declared.file.FileItem.{FileItem}
use Rattle.pa_tree.specs.declared.file.File.{File}
use Rattle.pa_tree.specs.declared.stmt.ForStart.TheVariants as start
use Rattle.pa_tree.specs.declared.file.FileItem.TheVariants as item
use Rattle.pa_tree.specs.Exprs.{BaseTree, DeclaratorTree, ExprTree, ParametersTree, QualifierTree, EnumeratorTree, MemberTree, ParameterTree, SpecsTree, TypeNameTree, ExprTrees, QualifierTrees, MemberTrees, EnumeratorTrees, DeclaratorTrees, ParameterTrees, MaybeExprTree, Void, Boolean, Words, TypedefName, StructTag, StructBody, EnumTag, EnumBody, Named, Absent, Pointer, Grouped, Array, Function, Identifier, Integer, Character, Text, Paren, Index, Call, Dot, Arrow, Postfix, Prefix, SizeofExpr, SizeofType, Cast, Binary, Conditional, Empty, OnlyVoid, Listed, Const, Ptrauth, OfEnumerator, OfMember, OfParameter, OfSpecs, OfTypeName, NoExprs, NoQualifiers, NoMembers, NoEnumerators, NoDeclarators, NoParameters, ConsExpr, ConsQualifier, ConsMember, ConsEnumerator, ConsDeclarator, ConsParameter, NoExpr, SomeExpr}
use Rattle.pa_tree.specs.Stmts.{InitializerTree, InitializerTrees, Value, Braced, NoInitializers, ConsInitializer, InitDeclaratorTree, OfInitDeclarator, BlockDeclarationTree, OfBlockDeclaration, ForStartTree, Declares, Evaluates, BlockItemTree, StmtTree, BlockItemTrees, DeclarationItem, StatementItem, Compound, Expression, If, IfElse, While, DoWhile, For, Switch, Case, Default, Break, Continue, Return, NoBlockItems, ConsBlockItem, DeclarationTree, OfDeclaration, FunctionDefinitionTree, OfFunctionDefinition, FileItemTree, Included, Declared, Defined, FileTree}

abbrev pub exprs_of : List ExprTree → ExprTrees
exprs_of [] = NoExprs
exprs_of (t ∷ ts) = ConsExpr t (exprs_of ts)

abbrev pub qualifiers_of : List QualifierTree → QualifierTrees
qualifiers_of [] = NoQualifiers
qualifiers_of (t ∷ ts) = ConsQualifier t (qualifiers_of ts)

abbrev pub members_of : List MemberTree → MemberTrees
members_of [] = NoMembers
members_of (t ∷ ts) = ConsMember t (members_of ts)

abbrev pub enumerators_of : List EnumeratorTree → EnumeratorTrees
enumerators_of [] = NoEnumerators
enumerators_of (t ∷ ts) = ConsEnumerator t (enumerators_of ts)

abbrev pub declarators_of : List DeclaratorTree → DeclaratorTrees
declarators_of [] = NoDeclarators
declarators_of (t ∷ ts) = ConsDeclarator t (declarators_of ts)

abbrev pub parameters_of : List ParameterTree → ParameterTrees
parameters_of [] = NoParameters
parameters_of (t ∷ ts) = ConsParameter t (parameters_of ts)

abbrev pub maybe_expr : Option ExprTree → MaybeExprTree
maybe_expr None = NoExpr
maybe_expr (Some t) = SomeExpr t

abbrev pub expr_layer : Expr-F BaseTree DeclaratorTree ExprTree ParametersTree QualifierTree EnumeratorTree MemberTree ParameterTree SpecsTree TypeNameTree → ExprTree
expr_layer (Expr-F.Identifier name from to) = Identifier name from to
expr_layer (Expr-F.Integer value decimal unsigned long from to) = Integer value decimal unsigned long from to
expr_layer (Expr-F.Character value from to) = Character value from to
expr_layer (Expr-F.Text bytes from to) = Text bytes from to
expr_layer (Expr-F.Paren inner from to) = Paren inner from to
expr_layer (Expr-F.Index of at from to) = Index of at from to
expr_layer (Expr-F.Call of arguments from to) = Call of (exprs_of arguments) from to
expr_layer (Expr-F.Dot of member from to) = Dot of member from to
expr_layer (Expr-F.Arrow of member from to) = Arrow of member from to
expr_layer (Expr-F.Postfix op of from to) = Postfix op of from to
expr_layer (Expr-F.Prefix op of from to) = Prefix op of from to
expr_layer (Expr-F.SizeofExpr of from to) = SizeofExpr of from to
expr_layer (Expr-F.SizeofType of from to) = SizeofType of from to
expr_layer (Expr-F.Cast wanted of from to) = Cast wanted of from to
expr_layer (Expr-F.Binary op left right from to) = Binary op left right from to
expr_layer (Expr-F.Conditional test when_true when_false from to) = Conditional test when_true when_false from to

abbrev pub type_name_layer : TypeName-F BaseTree DeclaratorTree ExprTree ParametersTree QualifierTree EnumeratorTree MemberTree ParameterTree SpecsTree TypeNameTree → TypeNameTree
type_name_layer t = OfTypeName t.specs t.declarator t.from t.to

abbrev pub specs_layer : Specs-F BaseTree DeclaratorTree ExprTree ParametersTree QualifierTree EnumeratorTree MemberTree ParameterTree SpecsTree TypeNameTree → SpecsTree
specs_layer t = OfSpecs (qualifiers_of t.before) t.base (qualifiers_of t.after) t.from t.to

abbrev pub qualifier_layer : Qualifier-F BaseTree DeclaratorTree ExprTree ParametersTree QualifierTree EnumeratorTree MemberTree ParameterTree SpecsTree TypeNameTree → QualifierTree
qualifier_layer (Qualifier-F.Const from to) = Const from to
qualifier_layer (Qualifier-F.Ptrauth arguments from to) = Ptrauth (exprs_of arguments) from to

abbrev pub base_layer : Base-F BaseTree DeclaratorTree ExprTree ParametersTree QualifierTree EnumeratorTree MemberTree ParameterTree SpecsTree TypeNameTree → BaseTree
base_layer (Base-F.Void from to) = Void from to
base_layer (Base-F.Boolean from to) = Boolean from to
base_layer (Base-F.Words words from to) = Words words from to
base_layer (Base-F.TypedefName name from to) = TypedefName name from to
base_layer (Base-F.StructTag tag from to) = StructTag tag from to
base_layer (Base-F.StructBody tag members from to) = StructBody tag (members_of members) from to
base_layer (Base-F.EnumTag tag from to) = EnumTag tag from to
base_layer (Base-F.EnumBody tag enumerators from to) = EnumBody tag (enumerators_of enumerators) from to

abbrev pub member_layer : Member-F BaseTree DeclaratorTree ExprTree ParametersTree QualifierTree EnumeratorTree MemberTree ParameterTree SpecsTree TypeNameTree → MemberTree
member_layer t = OfMember t.specs (declarators_of t.declarators) t.from t.to

abbrev pub enumerator_layer : Enumerator-F BaseTree DeclaratorTree ExprTree ParametersTree QualifierTree EnumeratorTree MemberTree ParameterTree SpecsTree TypeNameTree → EnumeratorTree
enumerator_layer t = OfEnumerator t.name (maybe_expr t.value) t.from t.to

abbrev pub declarator_layer : Declarator-F BaseTree DeclaratorTree ExprTree ParametersTree QualifierTree EnumeratorTree MemberTree ParameterTree SpecsTree TypeNameTree → DeclaratorTree
declarator_layer (Declarator-F.Named name from to) = Named name from to
declarator_layer (Declarator-F.Absent from to) = Absent from to
declarator_layer (Declarator-F.Pointer qualifiers of from to) = Pointer (qualifiers_of qualifiers) of from to
declarator_layer (Declarator-F.Grouped inner from to) = Grouped inner from to
declarator_layer (Declarator-F.Array of length from to) = Array of (maybe_expr length) from to
declarator_layer (Declarator-F.Function of parameters from to) = Function of parameters from to

abbrev pub parameters_layer : Parameters-F BaseTree DeclaratorTree ExprTree ParametersTree QualifierTree EnumeratorTree MemberTree ParameterTree SpecsTree TypeNameTree → ParametersTree
parameters_layer (Parameters-F.Empty from to) = Empty from to
parameters_layer (Parameters-F.OnlyVoid from to) = OnlyVoid from to
parameters_layer (Parameters-F.Listed parameters from to) = Listed (parameters_of parameters) from to

abbrev pub parameter_layer : Parameter-F BaseTree DeclaratorTree ExprTree ParametersTree QualifierTree EnumeratorTree MemberTree ParameterTree SpecsTree TypeNameTree → ParameterTree
parameter_layer t = OfParameter t.specs t.declarator t.from t.to

unfoldable pub expr_tree : Expr → ExprTree
expr_tree = fold-Expr BaseTree DeclaratorTree ExprTree ParametersTree QualifierTree EnumeratorTree MemberTree ParameterTree SpecsTree TypeNameTree base_layer declarator_layer expr_layer parameters_layer qualifier_layer enumerator_layer member_layer parameter_layer specs_layer type_name_layer

unfoldable pub type_name_tree : TypeName → TypeNameTree
type_name_tree = fold-TypeName BaseTree DeclaratorTree ExprTree ParametersTree QualifierTree EnumeratorTree MemberTree ParameterTree SpecsTree TypeNameTree base_layer declarator_layer expr_layer parameters_layer qualifier_layer enumerator_layer member_layer parameter_layer specs_layer type_name_layer

unfoldable pub specs_tree : Specs → SpecsTree
specs_tree = fold-Specs BaseTree DeclaratorTree ExprTree ParametersTree QualifierTree EnumeratorTree MemberTree ParameterTree SpecsTree TypeNameTree base_layer declarator_layer expr_layer parameters_layer qualifier_layer enumerator_layer member_layer parameter_layer specs_layer type_name_layer

unfoldable pub qualifier_tree : Qualifier → QualifierTree
qualifier_tree = fold-Qualifier BaseTree DeclaratorTree ExprTree ParametersTree QualifierTree EnumeratorTree MemberTree ParameterTree SpecsTree TypeNameTree base_layer declarator_layer expr_layer parameters_layer qualifier_layer enumerator_layer member_layer parameter_layer specs_layer type_name_layer

unfoldable pub base_tree : Base → BaseTree
base_tree = fold-Base BaseTree DeclaratorTree ExprTree ParametersTree QualifierTree EnumeratorTree MemberTree ParameterTree SpecsTree TypeNameTree base_layer declarator_layer expr_layer parameters_layer qualifier_layer enumerator_layer member_layer parameter_layer specs_layer type_name_layer

unfoldable pub member_tree : Member → MemberTree
member_tree = fold-Member BaseTree DeclaratorTree ExprTree ParametersTree QualifierTree EnumeratorTree MemberTree ParameterTree SpecsTree TypeNameTree base_layer declarator_layer expr_layer parameters_layer qualifier_layer enumerator_layer member_layer parameter_layer specs_layer type_name_layer

unfoldable pub enumerator_tree : Enumerator → EnumeratorTree
enumerator_tree = fold-Enumerator BaseTree DeclaratorTree ExprTree ParametersTree QualifierTree EnumeratorTree MemberTree ParameterTree SpecsTree TypeNameTree base_layer declarator_layer expr_layer parameters_layer qualifier_layer enumerator_layer member_layer parameter_layer specs_layer type_name_layer

unfoldable pub declarator_tree : Declarator → DeclaratorTree
declarator_tree = fold-Declarator BaseTree DeclaratorTree ExprTree ParametersTree QualifierTree EnumeratorTree MemberTree ParameterTree SpecsTree TypeNameTree base_layer declarator_layer expr_layer parameters_layer qualifier_layer enumerator_layer member_layer parameter_layer specs_layer type_name_layer

unfoldable pub parameters_tree : Parameters → ParametersTree
parameters_tree = fold-Parameters BaseTree DeclaratorTree ExprTree ParametersTree QualifierTree EnumeratorTree MemberTree ParameterTree SpecsTree TypeNameTree base_layer declarator_layer expr_layer parameters_layer qualifier_layer enumerator_layer member_layer parameter_layer specs_layer type_name_layer

unfoldable pub parameter_tree : Parameter → ParameterTree
parameter_tree = fold-Parameter BaseTree DeclaratorTree ExprTree ParametersTree QualifierTree EnumeratorTree MemberTree ParameterTree SpecsTree TypeNameTree base_layer declarator_layer expr_layer parameters_layer qualifier_layer enumerator_layer member_layer parameter_layer specs_layer type_name_layer

abbrev pub initializers_of : List InitializerTree → InitializerTrees
initializers_of [] = NoInitializers
initializers_of (t ∷ ts) = ConsInitializer t (initializers_of ts)

abbrev pub initializer_layer : Initializer-F InitializerTree → InitializerTree
initializer_layer (Initializer-F.Value value from to) = Value (expr_tree value) from to
initializer_layer (Initializer-F.Braced items from to) = Braced (initializers_of items) from to

unfoldable pub initializer_tree : Initializer → InitializerTree
initializer_tree = fold-Initializer InitializerTree initializer_layer

abbrev pub init_declarator_tree : InitDeclarator → InitDeclaratorTree
init_declarator_tree t = OfInitDeclarator (declarator_tree t.declarator) (option_map initializer_tree t.initializer) t.from t.to

abbrev pub block_declaration_tree : BlockDeclaration → BlockDeclarationTree
block_declaration_tree t = OfBlockDeclaration (specs_tree t.specs) (map init_declarator_tree t.declarators) t.from t.to

abbrev pub for_start_tree : ForStart → ForStartTree
for_start_tree (start.Declares declaration from to) = Declares (block_declaration_tree declaration) from to
for_start_tree (start.Evaluates value from to) = Evaluates (option_map expr_tree value) from to

abbrev pub block_items_of : List BlockItemTree → BlockItemTrees
block_items_of [] = NoBlockItems
block_items_of (t ∷ ts) = ConsBlockItem t (block_items_of ts)

abbrev pub stmt_layer : Stmt-F BlockItemTree StmtTree → StmtTree
stmt_layer (Stmt-F.Compound items from to) = Compound (block_items_of items) from to
stmt_layer (Stmt-F.Expression value from to) = Expression (option_map expr_tree value) from to
stmt_layer (Stmt-F.If test when_true from to) = If (expr_tree test) when_true from to
stmt_layer (Stmt-F.IfElse test when_true when_false from to) = IfElse (expr_tree test) when_true when_false from to
stmt_layer (Stmt-F.While test body from to) = While (expr_tree test) body from to
stmt_layer (Stmt-F.DoWhile body test from to) = DoWhile body (expr_tree test) from to
stmt_layer (Stmt-F.For start test step body from to) = For (for_start_tree start) (option_map expr_tree test) (option_map expr_tree step) body from to
stmt_layer (Stmt-F.Switch value body from to) = Switch (expr_tree value) body from to
stmt_layer (Stmt-F.Case value body from to) = Case (expr_tree value) body from to
stmt_layer (Stmt-F.Default body from to) = Default body from to
stmt_layer (Stmt-F.Break from to) = Break from to
stmt_layer (Stmt-F.Continue from to) = Continue from to
stmt_layer (Stmt-F.Return value from to) = Return (option_map expr_tree value) from to

abbrev pub block_item_layer : BlockItem-F BlockItemTree StmtTree → BlockItemTree
block_item_layer (BlockItem-F.DeclarationItem declaration from to) = DeclarationItem (block_declaration_tree declaration) from to
block_item_layer (BlockItem-F.StatementItem statement from to) = StatementItem statement from to

unfoldable pub stmt_tree : Stmt → StmtTree
stmt_tree = fold-Stmt BlockItemTree StmtTree block_item_layer stmt_layer

unfoldable pub block_item_tree : BlockItem → BlockItemTree
block_item_tree = fold-BlockItem BlockItemTree StmtTree block_item_layer stmt_layer

abbrev pub declaration_tree : Declaration → DeclarationTree
declaration_tree t = OfDeclaration t.storage (specs_tree t.specs) (map init_declarator_tree t.declarators) t.from t.to

abbrev pub function_definition_tree : FunctionDefinition → FunctionDefinitionTree
function_definition_tree t = OfFunctionDefinition t.storage (specs_tree t.specs) (declarator_tree t.declarator) (stmt_tree t.body) t.from t.to

abbrev pub file_item_tree : FileItem → FileItemTree
file_item_tree (item.Included include from to) = Included include from to
file_item_tree (item.Declared declaration from to) = Declared (declaration_tree declaration) from to
file_item_tree (item.Defined definition from to) = Defined (function_definition_tree definition) from to

abbrev pub file_tree : File → FileTree
file_tree f = map file_item_tree f.items
