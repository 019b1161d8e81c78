-- The trees of the program as plain data, a variant at a time.
use Rattle.std.proofs.Common.{◌≡◌, ℕ, ℤ, Bool, List, map, Option, Some, None, ap, sym, ◌∙◌}
use Rattle.std.specs.Option.{option_map}
use Rattle.pa_tree.specs.declared.operator.Step.{Step}
use Rattle.pa_tree.specs.declared.operator.PrefixOperator.{PrefixOperator}
use Rattle.pa_tree.specs.declared.operator.BinaryOperator.{BinaryOperator}
use Rattle.pa_tree.specs.declared.operator.IntegerWord.{IntegerWord}
use Rattle.pa_tree.specs.declared.expr.Tag.{Tag}
use Rattle.pa_tree.specs.declared.expr.Base.{Base, fold-Base, fold-roll-Base}
use Rattle.pa_tree.specs.declared.expr.Base.TheVariants as vBase
use Rattle.pa_tree.specs.declared.expr.Declarator.{Declarator, fold-Declarator, fold-roll-Declarator}
use Rattle.pa_tree.specs.declared.expr.Declarator.TheVariants as vDeclarator
use Rattle.pa_tree.specs.declared.expr.Expr.{Expr, fold-Expr, fold-roll-Expr}
use Rattle.pa_tree.specs.declared.expr.Expr.TheVariants as vExpr
use Rattle.pa_tree.specs.declared.expr.Parameters.{Parameters, fold-Parameters, fold-roll-Parameters}
use Rattle.pa_tree.specs.declared.expr.Parameters.TheVariants as vParameters
use Rattle.pa_tree.specs.declared.expr.Qualifier.{Qualifier, fold-Qualifier, fold-roll-Qualifier}
use Rattle.pa_tree.specs.declared.expr.Qualifier.TheVariants as vQualifier
use Rattle.pa_tree.specs.declared.expr.Enumerator.{Enumerator, fold-roll-Enumerator, roll-Enumerator}
use Rattle.pa_tree.specs.declared.expr.Member.{Member, fold-roll-Member, roll-Member}
use Rattle.pa_tree.specs.declared.expr.Parameter.{Parameter, fold-roll-Parameter, roll-Parameter}
use Rattle.pa_tree.specs.declared.expr.Specs.{Specs, fold-roll-Specs, roll-Specs}
use Rattle.pa_tree.specs.declared.expr.TypeName.{TypeName, fold-roll-TypeName, roll-TypeName}
use Rattle.pa_tree.specs.declared.expr.Base.TheOpen.{Base-F, Declarator-F, Expr-F, Parameters-F, Qualifier-F}
use Rattle.pa_tree.specs.declared.declaration.Initializer.{Initializer, fold-Initializer, fold-roll-Initializer}
use Rattle.pa_tree.specs.declared.declaration.Initializer.TheVariants as vInitializer
use Rattle.pa_tree.specs.declared.declaration.Initializer.TheOpen.{Initializer-F}
use Rattle.pa_tree.specs.declared.stmt.BlockItem.{BlockItem, fold-BlockItem, fold-roll-BlockItem}
use Rattle.pa_tree.specs.declared.stmt.BlockItem.TheVariants as vBlockItem
use Rattle.pa_tree.specs.declared.stmt.Stmt.{Stmt, fold-Stmt, fold-roll-Stmt}
use Rattle.pa_tree.specs.declared.stmt.Stmt.TheVariants as vStmt
use Rattle.pa_tree.specs.declared.stmt.BlockItem.TheOpen.{BlockItem-F, Stmt-F}
use Rattle.pa_tree.specs.declared.declaration.BlockDeclaration.{BlockDeclaration}
use Rattle.pa_tree.specs.declared.stmt.ForStart.{ForStart}
use Rattle.pa_tree.specs.Exprs.{BaseTree, DeclaratorTree, ExprTree, ParametersTree, QualifierTree, EnumeratorTree, MemberTree, ParameterTree, SpecsTree, TypeNameTree, Void, Boolean, Words, TypedefName, StructTag, StructBody, EnumTag, EnumBody, Named, Absent, Pointer, Grouped, Array, Function, Identifier, Integer, Character, Text, Paren, Index, Call, Dot, Arrow, Postfix, Prefix, SizeofExpr, SizeofType, Cast, Binary, Conditional, Empty, OnlyVoid, Listed, Const, Ptrauth, OfEnumerator, OfMember, OfParameter, OfSpecs, OfTypeName}
use Rattle.pa_tree.specs.Stmts.{InitializerTree, Value, Braced, BlockItemTree, StmtTree, DeclarationItem, StatementItem, Compound, Expression, If, IfElse, While, DoWhile, For, Switch, Case, Default, Break, Continue, Return}
use Rattle.pa_tree.specs.Views.{base_tree, declarator_tree, expr_tree, parameters_tree, qualifier_tree, enumerator_tree, member_tree, parameter_tree, specs_tree, type_name_tree, base_layer, declarator_layer, expr_layer, parameters_layer, qualifier_layer, enumerator_layer, member_layer, parameter_layer, specs_layer, type_name_layer, exprs_of, qualifiers_of, members_of, enumerators_of, declarators_of, parameters_of, maybe_expr, initializer_tree, initializer_layer, initializers_of, block_item_tree, stmt_tree, block_item_layer, stmt_layer, block_items_of, block_declaration_tree, for_start_tree}

pub tree-Identifier : (name : ℕ) (from to : ℕ) → expr_tree (vExpr.Identifier name from to) ≡ Identifier name from to
unfolding expr_tree type_name_tree specs_tree qualifier_tree base_tree member_tree enumerator_tree declarator_tree parameters_tree parameter_tree
tree-Identifier name from to = ap (fold-Expr BaseTree DeclaratorTree ExprTree ParametersTree QualifierTree EnumeratorTree MemberTree ParameterTree SpecsTree TypeNameTree base_layer declarator_layer expr_layer parameters_layer qualifier_layer enumerator_layer member_layer parameter_layer specs_layer type_name_layer) (sym (vExpr.rolls-Identifier name from to)) ∙ fold-roll-Expr BaseTree DeclaratorTree ExprTree ParametersTree QualifierTree EnumeratorTree MemberTree ParameterTree SpecsTree TypeNameTree base_layer declarator_layer expr_layer parameters_layer qualifier_layer enumerator_layer member_layer parameter_layer specs_layer type_name_layer (Expr-F.Identifier name from to)

pub tree-Integer : (value : ℕ) (decimal : Bool) (unsigned : Bool) (long : Bool) (from to : ℕ) → expr_tree (vExpr.Integer value decimal unsigned long from to) ≡ Integer value decimal unsigned long from to
unfolding expr_tree type_name_tree specs_tree qualifier_tree base_tree member_tree enumerator_tree declarator_tree parameters_tree parameter_tree
tree-Integer value decimal unsigned long from to = ap (fold-Expr BaseTree DeclaratorTree ExprTree ParametersTree QualifierTree EnumeratorTree MemberTree ParameterTree SpecsTree TypeNameTree base_layer declarator_layer expr_layer parameters_layer qualifier_layer enumerator_layer member_layer parameter_layer specs_layer type_name_layer) (sym (vExpr.rolls-Integer value decimal unsigned long from to)) ∙ fold-roll-Expr BaseTree DeclaratorTree ExprTree ParametersTree QualifierTree EnumeratorTree MemberTree ParameterTree SpecsTree TypeNameTree base_layer declarator_layer expr_layer parameters_layer qualifier_layer enumerator_layer member_layer parameter_layer specs_layer type_name_layer (Expr-F.Integer value decimal unsigned long from to)

pub tree-Character : (value : ℤ) (from to : ℕ) → expr_tree (vExpr.Character value from to) ≡ Character value from to
unfolding expr_tree type_name_tree specs_tree qualifier_tree base_tree member_tree enumerator_tree declarator_tree parameters_tree parameter_tree
tree-Character value from to = ap (fold-Expr BaseTree DeclaratorTree ExprTree ParametersTree QualifierTree EnumeratorTree MemberTree ParameterTree SpecsTree TypeNameTree base_layer declarator_layer expr_layer parameters_layer qualifier_layer enumerator_layer member_layer parameter_layer specs_layer type_name_layer) (sym (vExpr.rolls-Character value from to)) ∙ fold-roll-Expr BaseTree DeclaratorTree ExprTree ParametersTree QualifierTree EnumeratorTree MemberTree ParameterTree SpecsTree TypeNameTree base_layer declarator_layer expr_layer parameters_layer qualifier_layer enumerator_layer member_layer parameter_layer specs_layer type_name_layer (Expr-F.Character value from to)

pub tree-Text : (bytes : List ℕ) (from to : ℕ) → expr_tree (vExpr.Text bytes from to) ≡ Text bytes from to
unfolding expr_tree type_name_tree specs_tree qualifier_tree base_tree member_tree enumerator_tree declarator_tree parameters_tree parameter_tree
tree-Text bytes from to = ap (fold-Expr BaseTree DeclaratorTree ExprTree ParametersTree QualifierTree EnumeratorTree MemberTree ParameterTree SpecsTree TypeNameTree base_layer declarator_layer expr_layer parameters_layer qualifier_layer enumerator_layer member_layer parameter_layer specs_layer type_name_layer) (sym (vExpr.rolls-Text bytes from to)) ∙ fold-roll-Expr BaseTree DeclaratorTree ExprTree ParametersTree QualifierTree EnumeratorTree MemberTree ParameterTree SpecsTree TypeNameTree base_layer declarator_layer expr_layer parameters_layer qualifier_layer enumerator_layer member_layer parameter_layer specs_layer type_name_layer (Expr-F.Text bytes from to)

pub tree-Paren : (inner : Expr) (from to : ℕ) → expr_tree (vExpr.Paren inner from to) ≡ Paren (expr_tree inner) from to
unfolding expr_tree type_name_tree specs_tree qualifier_tree base_tree member_tree enumerator_tree declarator_tree parameters_tree parameter_tree
tree-Paren inner from to = ap (fold-Expr BaseTree DeclaratorTree ExprTree ParametersTree QualifierTree EnumeratorTree MemberTree ParameterTree SpecsTree TypeNameTree base_layer declarator_layer expr_layer parameters_layer qualifier_layer enumerator_layer member_layer parameter_layer specs_layer type_name_layer) (sym (vExpr.rolls-Paren inner from to)) ∙ fold-roll-Expr BaseTree DeclaratorTree ExprTree ParametersTree QualifierTree EnumeratorTree MemberTree ParameterTree SpecsTree TypeNameTree base_layer declarator_layer expr_layer parameters_layer qualifier_layer enumerator_layer member_layer parameter_layer specs_layer type_name_layer (Expr-F.Paren inner from to)

pub tree-Index : (of : Expr) (at : Expr) (from to : ℕ) → expr_tree (vExpr.Index of at from to) ≡ Index (expr_tree of) (expr_tree at) from to
unfolding expr_tree type_name_tree specs_tree qualifier_tree base_tree member_tree enumerator_tree declarator_tree parameters_tree parameter_tree
tree-Index of at from to = ap (fold-Expr BaseTree DeclaratorTree ExprTree ParametersTree QualifierTree EnumeratorTree MemberTree ParameterTree SpecsTree TypeNameTree base_layer declarator_layer expr_layer parameters_layer qualifier_layer enumerator_layer member_layer parameter_layer specs_layer type_name_layer) (sym (vExpr.rolls-Index of at from to)) ∙ fold-roll-Expr BaseTree DeclaratorTree ExprTree ParametersTree QualifierTree EnumeratorTree MemberTree ParameterTree SpecsTree TypeNameTree base_layer declarator_layer expr_layer parameters_layer qualifier_layer enumerator_layer member_layer parameter_layer specs_layer type_name_layer (Expr-F.Index of at from to)

pub tree-Call : (of : Expr) (arguments : List Expr) (from to : ℕ) → expr_tree (vExpr.Call of arguments from to) ≡ Call (expr_tree of) (exprs_of (map expr_tree arguments)) from to
unfolding expr_tree type_name_tree specs_tree qualifier_tree base_tree member_tree enumerator_tree declarator_tree parameters_tree parameter_tree
tree-Call of arguments from to = ap (fold-Expr BaseTree DeclaratorTree ExprTree ParametersTree QualifierTree EnumeratorTree MemberTree ParameterTree SpecsTree TypeNameTree base_layer declarator_layer expr_layer parameters_layer qualifier_layer enumerator_layer member_layer parameter_layer specs_layer type_name_layer) (sym (vExpr.rolls-Call of arguments from to)) ∙ fold-roll-Expr BaseTree DeclaratorTree ExprTree ParametersTree QualifierTree EnumeratorTree MemberTree ParameterTree SpecsTree TypeNameTree base_layer declarator_layer expr_layer parameters_layer qualifier_layer enumerator_layer member_layer parameter_layer specs_layer type_name_layer (Expr-F.Call of arguments from to)

pub tree-Dot : (of : Expr) (member : ℕ) (from to : ℕ) → expr_tree (vExpr.Dot of member from to) ≡ Dot (expr_tree of) member from to
unfolding expr_tree type_name_tree specs_tree qualifier_tree base_tree member_tree enumerator_tree declarator_tree parameters_tree parameter_tree
tree-Dot of member from to = ap (fold-Expr BaseTree DeclaratorTree ExprTree ParametersTree QualifierTree EnumeratorTree MemberTree ParameterTree SpecsTree TypeNameTree base_layer declarator_layer expr_layer parameters_layer qualifier_layer enumerator_layer member_layer parameter_layer specs_layer type_name_layer) (sym (vExpr.rolls-Dot of member from to)) ∙ fold-roll-Expr BaseTree DeclaratorTree ExprTree ParametersTree QualifierTree EnumeratorTree MemberTree ParameterTree SpecsTree TypeNameTree base_layer declarator_layer expr_layer parameters_layer qualifier_layer enumerator_layer member_layer parameter_layer specs_layer type_name_layer (Expr-F.Dot of member from to)

pub tree-Arrow : (of : Expr) (member : ℕ) (from to : ℕ) → expr_tree (vExpr.Arrow of member from to) ≡ Arrow (expr_tree of) member from to
unfolding expr_tree type_name_tree specs_tree qualifier_tree base_tree member_tree enumerator_tree declarator_tree parameters_tree parameter_tree
tree-Arrow of member from to = ap (fold-Expr BaseTree DeclaratorTree ExprTree ParametersTree QualifierTree EnumeratorTree MemberTree ParameterTree SpecsTree TypeNameTree base_layer declarator_layer expr_layer parameters_layer qualifier_layer enumerator_layer member_layer parameter_layer specs_layer type_name_layer) (sym (vExpr.rolls-Arrow of member from to)) ∙ fold-roll-Expr BaseTree DeclaratorTree ExprTree ParametersTree QualifierTree EnumeratorTree MemberTree ParameterTree SpecsTree TypeNameTree base_layer declarator_layer expr_layer parameters_layer qualifier_layer enumerator_layer member_layer parameter_layer specs_layer type_name_layer (Expr-F.Arrow of member from to)

pub tree-Postfix : (op : Step) (of : Expr) (from to : ℕ) → expr_tree (vExpr.Postfix op of from to) ≡ Postfix op (expr_tree of) from to
unfolding expr_tree type_name_tree specs_tree qualifier_tree base_tree member_tree enumerator_tree declarator_tree parameters_tree parameter_tree
tree-Postfix op of from to = ap (fold-Expr BaseTree DeclaratorTree ExprTree ParametersTree QualifierTree EnumeratorTree MemberTree ParameterTree SpecsTree TypeNameTree base_layer declarator_layer expr_layer parameters_layer qualifier_layer enumerator_layer member_layer parameter_layer specs_layer type_name_layer) (sym (vExpr.rolls-Postfix op of from to)) ∙ fold-roll-Expr BaseTree DeclaratorTree ExprTree ParametersTree QualifierTree EnumeratorTree MemberTree ParameterTree SpecsTree TypeNameTree base_layer declarator_layer expr_layer parameters_layer qualifier_layer enumerator_layer member_layer parameter_layer specs_layer type_name_layer (Expr-F.Postfix op of from to)

pub tree-Prefix : (op : PrefixOperator) (of : Expr) (from to : ℕ) → expr_tree (vExpr.Prefix op of from to) ≡ Prefix op (expr_tree of) from to
unfolding expr_tree type_name_tree specs_tree qualifier_tree base_tree member_tree enumerator_tree declarator_tree parameters_tree parameter_tree
tree-Prefix op of from to = ap (fold-Expr BaseTree DeclaratorTree ExprTree ParametersTree QualifierTree EnumeratorTree MemberTree ParameterTree SpecsTree TypeNameTree base_layer declarator_layer expr_layer parameters_layer qualifier_layer enumerator_layer member_layer parameter_layer specs_layer type_name_layer) (sym (vExpr.rolls-Prefix op of from to)) ∙ fold-roll-Expr BaseTree DeclaratorTree ExprTree ParametersTree QualifierTree EnumeratorTree MemberTree ParameterTree SpecsTree TypeNameTree base_layer declarator_layer expr_layer parameters_layer qualifier_layer enumerator_layer member_layer parameter_layer specs_layer type_name_layer (Expr-F.Prefix op of from to)

pub tree-SizeofExpr : (of : Expr) (from to : ℕ) → expr_tree (vExpr.SizeofExpr of from to) ≡ SizeofExpr (expr_tree of) from to
unfolding expr_tree type_name_tree specs_tree qualifier_tree base_tree member_tree enumerator_tree declarator_tree parameters_tree parameter_tree
tree-SizeofExpr of from to = ap (fold-Expr BaseTree DeclaratorTree ExprTree ParametersTree QualifierTree EnumeratorTree MemberTree ParameterTree SpecsTree TypeNameTree base_layer declarator_layer expr_layer parameters_layer qualifier_layer enumerator_layer member_layer parameter_layer specs_layer type_name_layer) (sym (vExpr.rolls-SizeofExpr of from to)) ∙ fold-roll-Expr BaseTree DeclaratorTree ExprTree ParametersTree QualifierTree EnumeratorTree MemberTree ParameterTree SpecsTree TypeNameTree base_layer declarator_layer expr_layer parameters_layer qualifier_layer enumerator_layer member_layer parameter_layer specs_layer type_name_layer (Expr-F.SizeofExpr of from to)

pub tree-SizeofType : (of : TypeName) (from to : ℕ) → expr_tree (vExpr.SizeofType of from to) ≡ SizeofType (type_name_tree of) from to
unfolding expr_tree type_name_tree specs_tree qualifier_tree base_tree member_tree enumerator_tree declarator_tree parameters_tree parameter_tree
tree-SizeofType of from to = ap (fold-Expr BaseTree DeclaratorTree ExprTree ParametersTree QualifierTree EnumeratorTree MemberTree ParameterTree SpecsTree TypeNameTree base_layer declarator_layer expr_layer parameters_layer qualifier_layer enumerator_layer member_layer parameter_layer specs_layer type_name_layer) (sym (vExpr.rolls-SizeofType of from to)) ∙ fold-roll-Expr BaseTree DeclaratorTree ExprTree ParametersTree QualifierTree EnumeratorTree MemberTree ParameterTree SpecsTree TypeNameTree base_layer declarator_layer expr_layer parameters_layer qualifier_layer enumerator_layer member_layer parameter_layer specs_layer type_name_layer (Expr-F.SizeofType of from to)

pub tree-Cast : (wanted : TypeName) (of : Expr) (from to : ℕ) → expr_tree (vExpr.Cast wanted of from to) ≡ Cast (type_name_tree wanted) (expr_tree of) from to
unfolding expr_tree type_name_tree specs_tree qualifier_tree base_tree member_tree enumerator_tree declarator_tree parameters_tree parameter_tree
tree-Cast wanted of from to = ap (fold-Expr BaseTree DeclaratorTree ExprTree ParametersTree QualifierTree EnumeratorTree MemberTree ParameterTree SpecsTree TypeNameTree base_layer declarator_layer expr_layer parameters_layer qualifier_layer enumerator_layer member_layer parameter_layer specs_layer type_name_layer) (sym (vExpr.rolls-Cast wanted of from to)) ∙ fold-roll-Expr BaseTree DeclaratorTree ExprTree ParametersTree QualifierTree EnumeratorTree MemberTree ParameterTree SpecsTree TypeNameTree base_layer declarator_layer expr_layer parameters_layer qualifier_layer enumerator_layer member_layer parameter_layer specs_layer type_name_layer (Expr-F.Cast wanted of from to)

pub tree-Binary : (op : BinaryOperator) (left : Expr) (right : Expr) (from to : ℕ) → expr_tree (vExpr.Binary op left right from to) ≡ Binary op (expr_tree left) (expr_tree right) from to
unfolding expr_tree type_name_tree specs_tree qualifier_tree base_tree member_tree enumerator_tree declarator_tree parameters_tree parameter_tree
tree-Binary op left right from to = ap (fold-Expr BaseTree DeclaratorTree ExprTree ParametersTree QualifierTree EnumeratorTree MemberTree ParameterTree SpecsTree TypeNameTree base_layer declarator_layer expr_layer parameters_layer qualifier_layer enumerator_layer member_layer parameter_layer specs_layer type_name_layer) (sym (vExpr.rolls-Binary op left right from to)) ∙ fold-roll-Expr BaseTree DeclaratorTree ExprTree ParametersTree QualifierTree EnumeratorTree MemberTree ParameterTree SpecsTree TypeNameTree base_layer declarator_layer expr_layer parameters_layer qualifier_layer enumerator_layer member_layer parameter_layer specs_layer type_name_layer (Expr-F.Binary op left right from to)

pub tree-Conditional : (test : Expr) (when_true : Expr) (when_false : Expr) (from to : ℕ) → expr_tree (vExpr.Conditional test when_true when_false from to) ≡ Conditional (expr_tree test) (expr_tree when_true) (expr_tree when_false) from to
unfolding expr_tree type_name_tree specs_tree qualifier_tree base_tree member_tree enumerator_tree declarator_tree parameters_tree parameter_tree
tree-Conditional test when_true when_false from to = ap (fold-Expr BaseTree DeclaratorTree ExprTree ParametersTree QualifierTree EnumeratorTree MemberTree ParameterTree SpecsTree TypeNameTree base_layer declarator_layer expr_layer parameters_layer qualifier_layer enumerator_layer member_layer parameter_layer specs_layer type_name_layer) (sym (vExpr.rolls-Conditional test when_true when_false from to)) ∙ fold-roll-Expr BaseTree DeclaratorTree ExprTree ParametersTree QualifierTree EnumeratorTree MemberTree ParameterTree SpecsTree TypeNameTree base_layer declarator_layer expr_layer parameters_layer qualifier_layer enumerator_layer member_layer parameter_layer specs_layer type_name_layer (Expr-F.Conditional test when_true when_false from to)

pub tree-OfTypeName : (specs : Specs) (declarator : Declarator) (from to : ℕ) → type_name_tree (roll-TypeName (record { specs = specs; declarator = declarator; from = from; to = to })) ≡ OfTypeName (specs_tree specs) (declarator_tree declarator) from to
unfolding expr_tree type_name_tree specs_tree qualifier_tree base_tree member_tree enumerator_tree declarator_tree parameters_tree parameter_tree
tree-OfTypeName specs declarator from to = fold-roll-TypeName BaseTree DeclaratorTree ExprTree ParametersTree QualifierTree EnumeratorTree MemberTree ParameterTree SpecsTree TypeNameTree base_layer declarator_layer expr_layer parameters_layer qualifier_layer enumerator_layer member_layer parameter_layer specs_layer type_name_layer (record { specs = specs; declarator = declarator; from = from; to = to })

pub tree-OfSpecs : (before : List Qualifier) (base : Base) (after : List Qualifier) (from to : ℕ) → specs_tree (roll-Specs (record { before = before; base = base; after = after; from = from; to = to })) ≡ OfSpecs (qualifiers_of (map qualifier_tree before)) (base_tree base) (qualifiers_of (map qualifier_tree after)) from to
unfolding expr_tree type_name_tree specs_tree qualifier_tree base_tree member_tree enumerator_tree declarator_tree parameters_tree parameter_tree
tree-OfSpecs before base after from to = fold-roll-Specs BaseTree DeclaratorTree ExprTree ParametersTree QualifierTree EnumeratorTree MemberTree ParameterTree SpecsTree TypeNameTree base_layer declarator_layer expr_layer parameters_layer qualifier_layer enumerator_layer member_layer parameter_layer specs_layer type_name_layer (record { before = before; base = base; after = after; from = from; to = to })

pub tree-Const : (from to : ℕ) → qualifier_tree (vQualifier.Const from to) ≡ Const from to
unfolding expr_tree type_name_tree specs_tree qualifier_tree base_tree member_tree enumerator_tree declarator_tree parameters_tree parameter_tree
tree-Const from to = ap (fold-Qualifier BaseTree DeclaratorTree ExprTree ParametersTree QualifierTree EnumeratorTree MemberTree ParameterTree SpecsTree TypeNameTree base_layer declarator_layer expr_layer parameters_layer qualifier_layer enumerator_layer member_layer parameter_layer specs_layer type_name_layer) (sym (vQualifier.rolls-Const from to)) ∙ fold-roll-Qualifier BaseTree DeclaratorTree ExprTree ParametersTree QualifierTree EnumeratorTree MemberTree ParameterTree SpecsTree TypeNameTree base_layer declarator_layer expr_layer parameters_layer qualifier_layer enumerator_layer member_layer parameter_layer specs_layer type_name_layer (Qualifier-F.Const from to)

pub tree-Ptrauth : (arguments : List Expr) (from to : ℕ) → qualifier_tree (vQualifier.Ptrauth arguments from to) ≡ Ptrauth (exprs_of (map expr_tree arguments)) from to
unfolding expr_tree type_name_tree specs_tree qualifier_tree base_tree member_tree enumerator_tree declarator_tree parameters_tree parameter_tree
tree-Ptrauth arguments from to = ap (fold-Qualifier BaseTree DeclaratorTree ExprTree ParametersTree QualifierTree EnumeratorTree MemberTree ParameterTree SpecsTree TypeNameTree base_layer declarator_layer expr_layer parameters_layer qualifier_layer enumerator_layer member_layer parameter_layer specs_layer type_name_layer) (sym (vQualifier.rolls-Ptrauth arguments from to)) ∙ fold-roll-Qualifier BaseTree DeclaratorTree ExprTree ParametersTree QualifierTree EnumeratorTree MemberTree ParameterTree SpecsTree TypeNameTree base_layer declarator_layer expr_layer parameters_layer qualifier_layer enumerator_layer member_layer parameter_layer specs_layer type_name_layer (Qualifier-F.Ptrauth arguments from to)

pub tree-Void : (from to : ℕ) → base_tree (vBase.Void from to) ≡ Void from to
unfolding expr_tree type_name_tree specs_tree qualifier_tree base_tree member_tree enumerator_tree declarator_tree parameters_tree parameter_tree
tree-Void from to = ap (fold-Base BaseTree DeclaratorTree ExprTree ParametersTree QualifierTree EnumeratorTree MemberTree ParameterTree SpecsTree TypeNameTree base_layer declarator_layer expr_layer parameters_layer qualifier_layer enumerator_layer member_layer parameter_layer specs_layer type_name_layer) (sym (vBase.rolls-Void from to)) ∙ fold-roll-Base BaseTree DeclaratorTree ExprTree ParametersTree QualifierTree EnumeratorTree MemberTree ParameterTree SpecsTree TypeNameTree base_layer declarator_layer expr_layer parameters_layer qualifier_layer enumerator_layer member_layer parameter_layer specs_layer type_name_layer (Base-F.Void from to)

pub tree-Boolean : (from to : ℕ) → base_tree (vBase.Boolean from to) ≡ Boolean from to
unfolding expr_tree type_name_tree specs_tree qualifier_tree base_tree member_tree enumerator_tree declarator_tree parameters_tree parameter_tree
tree-Boolean from to = ap (fold-Base BaseTree DeclaratorTree ExprTree ParametersTree QualifierTree EnumeratorTree MemberTree ParameterTree SpecsTree TypeNameTree base_layer declarator_layer expr_layer parameters_layer qualifier_layer enumerator_layer member_layer parameter_layer specs_layer type_name_layer) (sym (vBase.rolls-Boolean from to)) ∙ fold-roll-Base BaseTree DeclaratorTree ExprTree ParametersTree QualifierTree EnumeratorTree MemberTree ParameterTree SpecsTree TypeNameTree base_layer declarator_layer expr_layer parameters_layer qualifier_layer enumerator_layer member_layer parameter_layer specs_layer type_name_layer (Base-F.Boolean from to)

pub tree-Words : (words : List IntegerWord) (from to : ℕ) → base_tree (vBase.Words words from to) ≡ Words words from to
unfolding expr_tree type_name_tree specs_tree qualifier_tree base_tree member_tree enumerator_tree declarator_tree parameters_tree parameter_tree
tree-Words words from to = ap (fold-Base BaseTree DeclaratorTree ExprTree ParametersTree QualifierTree EnumeratorTree MemberTree ParameterTree SpecsTree TypeNameTree base_layer declarator_layer expr_layer parameters_layer qualifier_layer enumerator_layer member_layer parameter_layer specs_layer type_name_layer) (sym (vBase.rolls-Words words from to)) ∙ fold-roll-Base BaseTree DeclaratorTree ExprTree ParametersTree QualifierTree EnumeratorTree MemberTree ParameterTree SpecsTree TypeNameTree base_layer declarator_layer expr_layer parameters_layer qualifier_layer enumerator_layer member_layer parameter_layer specs_layer type_name_layer (Base-F.Words words from to)

pub tree-TypedefName : (name : ℕ) (from to : ℕ) → base_tree (vBase.TypedefName name from to) ≡ TypedefName name from to
unfolding expr_tree type_name_tree specs_tree qualifier_tree base_tree member_tree enumerator_tree declarator_tree parameters_tree parameter_tree
tree-TypedefName name from to = ap (fold-Base BaseTree DeclaratorTree ExprTree ParametersTree QualifierTree EnumeratorTree MemberTree ParameterTree SpecsTree TypeNameTree base_layer declarator_layer expr_layer parameters_layer qualifier_layer enumerator_layer member_layer parameter_layer specs_layer type_name_layer) (sym (vBase.rolls-TypedefName name from to)) ∙ fold-roll-Base BaseTree DeclaratorTree ExprTree ParametersTree QualifierTree EnumeratorTree MemberTree ParameterTree SpecsTree TypeNameTree base_layer declarator_layer expr_layer parameters_layer qualifier_layer enumerator_layer member_layer parameter_layer specs_layer type_name_layer (Base-F.TypedefName name from to)

pub tree-StructTag : (tag : Tag) (from to : ℕ) → base_tree (vBase.StructTag tag from to) ≡ StructTag tag from to
unfolding expr_tree type_name_tree specs_tree qualifier_tree base_tree member_tree enumerator_tree declarator_tree parameters_tree parameter_tree
tree-StructTag tag from to = ap (fold-Base BaseTree DeclaratorTree ExprTree ParametersTree QualifierTree EnumeratorTree MemberTree ParameterTree SpecsTree TypeNameTree base_layer declarator_layer expr_layer parameters_layer qualifier_layer enumerator_layer member_layer parameter_layer specs_layer type_name_layer) (sym (vBase.rolls-StructTag tag from to)) ∙ fold-roll-Base BaseTree DeclaratorTree ExprTree ParametersTree QualifierTree EnumeratorTree MemberTree ParameterTree SpecsTree TypeNameTree base_layer declarator_layer expr_layer parameters_layer qualifier_layer enumerator_layer member_layer parameter_layer specs_layer type_name_layer (Base-F.StructTag tag from to)

pub tree-StructBody : (tag : Option Tag) (members : List Member) (from to : ℕ) → base_tree (vBase.StructBody tag members from to) ≡ StructBody tag (members_of (map member_tree members)) from to
unfolding expr_tree type_name_tree specs_tree qualifier_tree base_tree member_tree enumerator_tree declarator_tree parameters_tree parameter_tree
tree-StructBody tag members from to = ap (fold-Base BaseTree DeclaratorTree ExprTree ParametersTree QualifierTree EnumeratorTree MemberTree ParameterTree SpecsTree TypeNameTree base_layer declarator_layer expr_layer parameters_layer qualifier_layer enumerator_layer member_layer parameter_layer specs_layer type_name_layer) (sym (vBase.rolls-StructBody tag members from to)) ∙ fold-roll-Base BaseTree DeclaratorTree ExprTree ParametersTree QualifierTree EnumeratorTree MemberTree ParameterTree SpecsTree TypeNameTree base_layer declarator_layer expr_layer parameters_layer qualifier_layer enumerator_layer member_layer parameter_layer specs_layer type_name_layer (Base-F.StructBody tag members from to)

pub tree-EnumTag : (tag : Tag) (from to : ℕ) → base_tree (vBase.EnumTag tag from to) ≡ EnumTag tag from to
unfolding expr_tree type_name_tree specs_tree qualifier_tree base_tree member_tree enumerator_tree declarator_tree parameters_tree parameter_tree
tree-EnumTag tag from to = ap (fold-Base BaseTree DeclaratorTree ExprTree ParametersTree QualifierTree EnumeratorTree MemberTree ParameterTree SpecsTree TypeNameTree base_layer declarator_layer expr_layer parameters_layer qualifier_layer enumerator_layer member_layer parameter_layer specs_layer type_name_layer) (sym (vBase.rolls-EnumTag tag from to)) ∙ fold-roll-Base BaseTree DeclaratorTree ExprTree ParametersTree QualifierTree EnumeratorTree MemberTree ParameterTree SpecsTree TypeNameTree base_layer declarator_layer expr_layer parameters_layer qualifier_layer enumerator_layer member_layer parameter_layer specs_layer type_name_layer (Base-F.EnumTag tag from to)

pub tree-EnumBody : (tag : Option Tag) (enumerators : List Enumerator) (from to : ℕ) → base_tree (vBase.EnumBody tag enumerators from to) ≡ EnumBody tag (enumerators_of (map enumerator_tree enumerators)) from to
unfolding expr_tree type_name_tree specs_tree qualifier_tree base_tree member_tree enumerator_tree declarator_tree parameters_tree parameter_tree
tree-EnumBody tag enumerators from to = ap (fold-Base BaseTree DeclaratorTree ExprTree ParametersTree QualifierTree EnumeratorTree MemberTree ParameterTree SpecsTree TypeNameTree base_layer declarator_layer expr_layer parameters_layer qualifier_layer enumerator_layer member_layer parameter_layer specs_layer type_name_layer) (sym (vBase.rolls-EnumBody tag enumerators from to)) ∙ fold-roll-Base BaseTree DeclaratorTree ExprTree ParametersTree QualifierTree EnumeratorTree MemberTree ParameterTree SpecsTree TypeNameTree base_layer declarator_layer expr_layer parameters_layer qualifier_layer enumerator_layer member_layer parameter_layer specs_layer type_name_layer (Base-F.EnumBody tag enumerators from to)

pub tree-OfMember : (specs : Specs) (declarators : List Declarator) (from to : ℕ) → member_tree (roll-Member (record { specs = specs; declarators = declarators; from = from; to = to })) ≡ OfMember (specs_tree specs) (declarators_of (map declarator_tree declarators)) from to
unfolding expr_tree type_name_tree specs_tree qualifier_tree base_tree member_tree enumerator_tree declarator_tree parameters_tree parameter_tree
tree-OfMember specs declarators from to = fold-roll-Member BaseTree DeclaratorTree ExprTree ParametersTree QualifierTree EnumeratorTree MemberTree ParameterTree SpecsTree TypeNameTree base_layer declarator_layer expr_layer parameters_layer qualifier_layer enumerator_layer member_layer parameter_layer specs_layer type_name_layer (record { specs = specs; declarators = declarators; from = from; to = to })

pub tree-OfEnumerator : (name : ℕ) (value : Option Expr) (from to : ℕ) → enumerator_tree (roll-Enumerator (record { name = name; value = value; from = from; to = to })) ≡ OfEnumerator name (maybe_expr (option_map expr_tree value)) from to
unfolding expr_tree type_name_tree specs_tree qualifier_tree base_tree member_tree enumerator_tree declarator_tree parameters_tree parameter_tree
tree-OfEnumerator name None from to = fold-roll-Enumerator BaseTree DeclaratorTree ExprTree ParametersTree QualifierTree EnumeratorTree MemberTree ParameterTree SpecsTree TypeNameTree base_layer declarator_layer expr_layer parameters_layer qualifier_layer enumerator_layer member_layer parameter_layer specs_layer type_name_layer (record { name = name; value = None; from = from; to = to })
tree-OfEnumerator name (Some x) from to = fold-roll-Enumerator BaseTree DeclaratorTree ExprTree ParametersTree QualifierTree EnumeratorTree MemberTree ParameterTree SpecsTree TypeNameTree base_layer declarator_layer expr_layer parameters_layer qualifier_layer enumerator_layer member_layer parameter_layer specs_layer type_name_layer (record { name = name; value = (Some x); from = from; to = to })

pub tree-Named : (name : ℕ) (from to : ℕ) → declarator_tree (vDeclarator.Named name from to) ≡ Named name from to
unfolding expr_tree type_name_tree specs_tree qualifier_tree base_tree member_tree enumerator_tree declarator_tree parameters_tree parameter_tree
tree-Named name from to = ap (fold-Declarator BaseTree DeclaratorTree ExprTree ParametersTree QualifierTree EnumeratorTree MemberTree ParameterTree SpecsTree TypeNameTree base_layer declarator_layer expr_layer parameters_layer qualifier_layer enumerator_layer member_layer parameter_layer specs_layer type_name_layer) (sym (vDeclarator.rolls-Named name from to)) ∙ fold-roll-Declarator BaseTree DeclaratorTree ExprTree ParametersTree QualifierTree EnumeratorTree MemberTree ParameterTree SpecsTree TypeNameTree base_layer declarator_layer expr_layer parameters_layer qualifier_layer enumerator_layer member_layer parameter_layer specs_layer type_name_layer (Declarator-F.Named name from to)

pub tree-Absent : (from to : ℕ) → declarator_tree (vDeclarator.Absent from to) ≡ Absent from to
unfolding expr_tree type_name_tree specs_tree qualifier_tree base_tree member_tree enumerator_tree declarator_tree parameters_tree parameter_tree
tree-Absent from to = ap (fold-Declarator BaseTree DeclaratorTree ExprTree ParametersTree QualifierTree EnumeratorTree MemberTree ParameterTree SpecsTree TypeNameTree base_layer declarator_layer expr_layer parameters_layer qualifier_layer enumerator_layer member_layer parameter_layer specs_layer type_name_layer) (sym (vDeclarator.rolls-Absent from to)) ∙ fold-roll-Declarator BaseTree DeclaratorTree ExprTree ParametersTree QualifierTree EnumeratorTree MemberTree ParameterTree SpecsTree TypeNameTree base_layer declarator_layer expr_layer parameters_layer qualifier_layer enumerator_layer member_layer parameter_layer specs_layer type_name_layer (Declarator-F.Absent from to)

pub tree-Pointer : (qualifiers : List Qualifier) (of : Declarator) (from to : ℕ) → declarator_tree (vDeclarator.Pointer qualifiers of from to) ≡ Pointer (qualifiers_of (map qualifier_tree qualifiers)) (declarator_tree of) from to
unfolding expr_tree type_name_tree specs_tree qualifier_tree base_tree member_tree enumerator_tree declarator_tree parameters_tree parameter_tree
tree-Pointer qualifiers of from to = ap (fold-Declarator BaseTree DeclaratorTree ExprTree ParametersTree QualifierTree EnumeratorTree MemberTree ParameterTree SpecsTree TypeNameTree base_layer declarator_layer expr_layer parameters_layer qualifier_layer enumerator_layer member_layer parameter_layer specs_layer type_name_layer) (sym (vDeclarator.rolls-Pointer qualifiers of from to)) ∙ fold-roll-Declarator BaseTree DeclaratorTree ExprTree ParametersTree QualifierTree EnumeratorTree MemberTree ParameterTree SpecsTree TypeNameTree base_layer declarator_layer expr_layer parameters_layer qualifier_layer enumerator_layer member_layer parameter_layer specs_layer type_name_layer (Declarator-F.Pointer qualifiers of from to)

pub tree-Grouped : (inner : Declarator) (from to : ℕ) → declarator_tree (vDeclarator.Grouped inner from to) ≡ Grouped (declarator_tree inner) from to
unfolding expr_tree type_name_tree specs_tree qualifier_tree base_tree member_tree enumerator_tree declarator_tree parameters_tree parameter_tree
tree-Grouped inner from to = ap (fold-Declarator BaseTree DeclaratorTree ExprTree ParametersTree QualifierTree EnumeratorTree MemberTree ParameterTree SpecsTree TypeNameTree base_layer declarator_layer expr_layer parameters_layer qualifier_layer enumerator_layer member_layer parameter_layer specs_layer type_name_layer) (sym (vDeclarator.rolls-Grouped inner from to)) ∙ fold-roll-Declarator BaseTree DeclaratorTree ExprTree ParametersTree QualifierTree EnumeratorTree MemberTree ParameterTree SpecsTree TypeNameTree base_layer declarator_layer expr_layer parameters_layer qualifier_layer enumerator_layer member_layer parameter_layer specs_layer type_name_layer (Declarator-F.Grouped inner from to)

pub tree-Array : (of : Declarator) (length : Option Expr) (from to : ℕ) → declarator_tree (vDeclarator.Array of length from to) ≡ Array (declarator_tree of) (maybe_expr (option_map expr_tree length)) from to
unfolding expr_tree type_name_tree specs_tree qualifier_tree base_tree member_tree enumerator_tree declarator_tree parameters_tree parameter_tree
tree-Array of None from to = ap (fold-Declarator BaseTree DeclaratorTree ExprTree ParametersTree QualifierTree EnumeratorTree MemberTree ParameterTree SpecsTree TypeNameTree base_layer declarator_layer expr_layer parameters_layer qualifier_layer enumerator_layer member_layer parameter_layer specs_layer type_name_layer) (sym (vDeclarator.rolls-Array of None from to)) ∙ fold-roll-Declarator BaseTree DeclaratorTree ExprTree ParametersTree QualifierTree EnumeratorTree MemberTree ParameterTree SpecsTree TypeNameTree base_layer declarator_layer expr_layer parameters_layer qualifier_layer enumerator_layer member_layer parameter_layer specs_layer type_name_layer (Declarator-F.Array of None from to)
tree-Array of (Some x) from to = ap (fold-Declarator BaseTree DeclaratorTree ExprTree ParametersTree QualifierTree EnumeratorTree MemberTree ParameterTree SpecsTree TypeNameTree base_layer declarator_layer expr_layer parameters_layer qualifier_layer enumerator_layer member_layer parameter_layer specs_layer type_name_layer) (sym (vDeclarator.rolls-Array of (Some x) from to)) ∙ fold-roll-Declarator BaseTree DeclaratorTree ExprTree ParametersTree QualifierTree EnumeratorTree MemberTree ParameterTree SpecsTree TypeNameTree base_layer declarator_layer expr_layer parameters_layer qualifier_layer enumerator_layer member_layer parameter_layer specs_layer type_name_layer (Declarator-F.Array of (Some x) from to)

pub tree-Function : (of : Declarator) (parameters : Parameters) (from to : ℕ) → declarator_tree (vDeclarator.Function of parameters from to) ≡ Function (declarator_tree of) (parameters_tree parameters) from to
unfolding expr_tree type_name_tree specs_tree qualifier_tree base_tree member_tree enumerator_tree declarator_tree parameters_tree parameter_tree
tree-Function of parameters from to = ap (fold-Declarator BaseTree DeclaratorTree ExprTree ParametersTree QualifierTree EnumeratorTree MemberTree ParameterTree SpecsTree TypeNameTree base_layer declarator_layer expr_layer parameters_layer qualifier_layer enumerator_layer member_layer parameter_layer specs_layer type_name_layer) (sym (vDeclarator.rolls-Function of parameters from to)) ∙ fold-roll-Declarator BaseTree DeclaratorTree ExprTree ParametersTree QualifierTree EnumeratorTree MemberTree ParameterTree SpecsTree TypeNameTree base_layer declarator_layer expr_layer parameters_layer qualifier_layer enumerator_layer member_layer parameter_layer specs_layer type_name_layer (Declarator-F.Function of parameters from to)

pub tree-Empty : (from to : ℕ) → parameters_tree (vParameters.Empty from to) ≡ Empty from to
unfolding expr_tree type_name_tree specs_tree qualifier_tree base_tree member_tree enumerator_tree declarator_tree parameters_tree parameter_tree
tree-Empty from to = ap (fold-Parameters BaseTree DeclaratorTree ExprTree ParametersTree QualifierTree EnumeratorTree MemberTree ParameterTree SpecsTree TypeNameTree base_layer declarator_layer expr_layer parameters_layer qualifier_layer enumerator_layer member_layer parameter_layer specs_layer type_name_layer) (sym (vParameters.rolls-Empty from to)) ∙ fold-roll-Parameters BaseTree DeclaratorTree ExprTree ParametersTree QualifierTree EnumeratorTree MemberTree ParameterTree SpecsTree TypeNameTree base_layer declarator_layer expr_layer parameters_layer qualifier_layer enumerator_layer member_layer parameter_layer specs_layer type_name_layer (Parameters-F.Empty from to)

pub tree-OnlyVoid : (from to : ℕ) → parameters_tree (vParameters.OnlyVoid from to) ≡ OnlyVoid from to
unfolding expr_tree type_name_tree specs_tree qualifier_tree base_tree member_tree enumerator_tree declarator_tree parameters_tree parameter_tree
tree-OnlyVoid from to = ap (fold-Parameters BaseTree DeclaratorTree ExprTree ParametersTree QualifierTree EnumeratorTree MemberTree ParameterTree SpecsTree TypeNameTree base_layer declarator_layer expr_layer parameters_layer qualifier_layer enumerator_layer member_layer parameter_layer specs_layer type_name_layer) (sym (vParameters.rolls-OnlyVoid from to)) ∙ fold-roll-Parameters BaseTree DeclaratorTree ExprTree ParametersTree QualifierTree EnumeratorTree MemberTree ParameterTree SpecsTree TypeNameTree base_layer declarator_layer expr_layer parameters_layer qualifier_layer enumerator_layer member_layer parameter_layer specs_layer type_name_layer (Parameters-F.OnlyVoid from to)

pub tree-Listed : (parameters : List Parameter) (from to : ℕ) → parameters_tree (vParameters.Listed parameters from to) ≡ Listed (parameters_of (map parameter_tree parameters)) from to
unfolding expr_tree type_name_tree specs_tree qualifier_tree base_tree member_tree enumerator_tree declarator_tree parameters_tree parameter_tree
tree-Listed parameters from to = ap (fold-Parameters BaseTree DeclaratorTree ExprTree ParametersTree QualifierTree EnumeratorTree MemberTree ParameterTree SpecsTree TypeNameTree base_layer declarator_layer expr_layer parameters_layer qualifier_layer enumerator_layer member_layer parameter_layer specs_layer type_name_layer) (sym (vParameters.rolls-Listed parameters from to)) ∙ fold-roll-Parameters BaseTree DeclaratorTree ExprTree ParametersTree QualifierTree EnumeratorTree MemberTree ParameterTree SpecsTree TypeNameTree base_layer declarator_layer expr_layer parameters_layer qualifier_layer enumerator_layer member_layer parameter_layer specs_layer type_name_layer (Parameters-F.Listed parameters from to)

pub tree-OfParameter : (specs : Specs) (declarator : Declarator) (from to : ℕ) → parameter_tree (roll-Parameter (record { specs = specs; declarator = declarator; from = from; to = to })) ≡ OfParameter (specs_tree specs) (declarator_tree declarator) from to
unfolding expr_tree type_name_tree specs_tree qualifier_tree base_tree member_tree enumerator_tree declarator_tree parameters_tree parameter_tree
tree-OfParameter specs declarator from to = fold-roll-Parameter BaseTree DeclaratorTree ExprTree ParametersTree QualifierTree EnumeratorTree MemberTree ParameterTree SpecsTree TypeNameTree base_layer declarator_layer expr_layer parameters_layer qualifier_layer enumerator_layer member_layer parameter_layer specs_layer type_name_layer (record { specs = specs; declarator = declarator; from = from; to = to })

pub tree-Value : (value : Expr) (from to : ℕ) → initializer_tree (vInitializer.Value value from to) ≡ Value (expr_tree value) from to
unfolding initializer_tree
tree-Value value from to = ap (fold-Initializer InitializerTree initializer_layer) (sym (vInitializer.rolls-Value value from to)) ∙ fold-roll-Initializer InitializerTree initializer_layer (Initializer-F.Value value from to)

pub tree-Braced : (items : List Initializer) (from to : ℕ) → initializer_tree (vInitializer.Braced items from to) ≡ Braced (initializers_of (map initializer_tree items)) from to
unfolding initializer_tree
tree-Braced items from to = ap (fold-Initializer InitializerTree initializer_layer) (sym (vInitializer.rolls-Braced items from to)) ∙ fold-roll-Initializer InitializerTree initializer_layer (Initializer-F.Braced items from to)

pub tree-Compound : (items : List BlockItem) (from to : ℕ) → stmt_tree (vStmt.Compound items from to) ≡ Compound (block_items_of (map block_item_tree items)) from to
unfolding stmt_tree block_item_tree
tree-Compound items from to = ap (fold-Stmt BlockItemTree StmtTree block_item_layer stmt_layer) (sym (vStmt.rolls-Compound items from to)) ∙ fold-roll-Stmt BlockItemTree StmtTree block_item_layer stmt_layer (Stmt-F.Compound items from to)

pub tree-Expression : (value : Option Expr) (from to : ℕ) → stmt_tree (vStmt.Expression value from to) ≡ Expression (option_map expr_tree value) from to
unfolding stmt_tree block_item_tree
tree-Expression value from to = ap (fold-Stmt BlockItemTree StmtTree block_item_layer stmt_layer) (sym (vStmt.rolls-Expression value from to)) ∙ fold-roll-Stmt BlockItemTree StmtTree block_item_layer stmt_layer (Stmt-F.Expression value from to)

pub tree-If : (test : Expr) (when_true : Stmt) (from to : ℕ) → stmt_tree (vStmt.If test when_true from to) ≡ If (expr_tree test) (stmt_tree when_true) from to
unfolding stmt_tree block_item_tree
tree-If test when_true from to = ap (fold-Stmt BlockItemTree StmtTree block_item_layer stmt_layer) (sym (vStmt.rolls-If test when_true from to)) ∙ fold-roll-Stmt BlockItemTree StmtTree block_item_layer stmt_layer (Stmt-F.If test when_true from to)

pub tree-IfElse : (test : Expr) (when_true : Stmt) (when_false : Stmt) (from to : ℕ) → stmt_tree (vStmt.IfElse test when_true when_false from to) ≡ IfElse (expr_tree test) (stmt_tree when_true) (stmt_tree when_false) from to
unfolding stmt_tree block_item_tree
tree-IfElse test when_true when_false from to = ap (fold-Stmt BlockItemTree StmtTree block_item_layer stmt_layer) (sym (vStmt.rolls-IfElse test when_true when_false from to)) ∙ fold-roll-Stmt BlockItemTree StmtTree block_item_layer stmt_layer (Stmt-F.IfElse test when_true when_false from to)

pub tree-While : (test : Expr) (body : Stmt) (from to : ℕ) → stmt_tree (vStmt.While test body from to) ≡ While (expr_tree test) (stmt_tree body) from to
unfolding stmt_tree block_item_tree
tree-While test body from to = ap (fold-Stmt BlockItemTree StmtTree block_item_layer stmt_layer) (sym (vStmt.rolls-While test body from to)) ∙ fold-roll-Stmt BlockItemTree StmtTree block_item_layer stmt_layer (Stmt-F.While test body from to)

pub tree-DoWhile : (body : Stmt) (test : Expr) (from to : ℕ) → stmt_tree (vStmt.DoWhile body test from to) ≡ DoWhile (stmt_tree body) (expr_tree test) from to
unfolding stmt_tree block_item_tree
tree-DoWhile body test from to = ap (fold-Stmt BlockItemTree StmtTree block_item_layer stmt_layer) (sym (vStmt.rolls-DoWhile body test from to)) ∙ fold-roll-Stmt BlockItemTree StmtTree block_item_layer stmt_layer (Stmt-F.DoWhile body test from to)

pub tree-For : (start : ForStart) (test : Option Expr) (step : Option Expr) (body : Stmt) (from to : ℕ) → stmt_tree (vStmt.For start test step body from to) ≡ For (for_start_tree start) (option_map expr_tree test) (option_map expr_tree step) (stmt_tree body) from to
unfolding stmt_tree block_item_tree
tree-For start test step body from to = ap (fold-Stmt BlockItemTree StmtTree block_item_layer stmt_layer) (sym (vStmt.rolls-For start test step body from to)) ∙ fold-roll-Stmt BlockItemTree StmtTree block_item_layer stmt_layer (Stmt-F.For start test step body from to)

pub tree-Switch : (value : Expr) (body : Stmt) (from to : ℕ) → stmt_tree (vStmt.Switch value body from to) ≡ Switch (expr_tree value) (stmt_tree body) from to
unfolding stmt_tree block_item_tree
tree-Switch value body from to = ap (fold-Stmt BlockItemTree StmtTree block_item_layer stmt_layer) (sym (vStmt.rolls-Switch value body from to)) ∙ fold-roll-Stmt BlockItemTree StmtTree block_item_layer stmt_layer (Stmt-F.Switch value body from to)

pub tree-Case : (value : Expr) (body : Stmt) (from to : ℕ) → stmt_tree (vStmt.Case value body from to) ≡ Case (expr_tree value) (stmt_tree body) from to
unfolding stmt_tree block_item_tree
tree-Case value body from to = ap (fold-Stmt BlockItemTree StmtTree block_item_layer stmt_layer) (sym (vStmt.rolls-Case value body from to)) ∙ fold-roll-Stmt BlockItemTree StmtTree block_item_layer stmt_layer (Stmt-F.Case value body from to)

pub tree-Default : (body : Stmt) (from to : ℕ) → stmt_tree (vStmt.Default body from to) ≡ Default (stmt_tree body) from to
unfolding stmt_tree block_item_tree
tree-Default body from to = ap (fold-Stmt BlockItemTree StmtTree block_item_layer stmt_layer) (sym (vStmt.rolls-Default body from to)) ∙ fold-roll-Stmt BlockItemTree StmtTree block_item_layer stmt_layer (Stmt-F.Default body from to)

pub tree-Break : (from to : ℕ) → stmt_tree (vStmt.Break from to) ≡ Break from to
unfolding stmt_tree block_item_tree
tree-Break from to = ap (fold-Stmt BlockItemTree StmtTree block_item_layer stmt_layer) (sym (vStmt.rolls-Break from to)) ∙ fold-roll-Stmt BlockItemTree StmtTree block_item_layer stmt_layer (Stmt-F.Break from to)

pub tree-Continue : (from to : ℕ) → stmt_tree (vStmt.Continue from to) ≡ Continue from to
unfolding stmt_tree block_item_tree
tree-Continue from to = ap (fold-Stmt BlockItemTree StmtTree block_item_layer stmt_layer) (sym (vStmt.rolls-Continue from to)) ∙ fold-roll-Stmt BlockItemTree StmtTree block_item_layer stmt_layer (Stmt-F.Continue from to)

pub tree-Return : (value : Option Expr) (from to : ℕ) → stmt_tree (vStmt.Return value from to) ≡ Return (option_map expr_tree value) from to
unfolding stmt_tree block_item_tree
tree-Return value from to = ap (fold-Stmt BlockItemTree StmtTree block_item_layer stmt_layer) (sym (vStmt.rolls-Return value from to)) ∙ fold-roll-Stmt BlockItemTree StmtTree block_item_layer stmt_layer (Stmt-F.Return value from to)

pub tree-DeclarationItem : (declaration : BlockDeclaration) (from to : ℕ) → block_item_tree (vBlockItem.DeclarationItem declaration from to) ≡ DeclarationItem (block_declaration_tree declaration) from to
unfolding stmt_tree block_item_tree
tree-DeclarationItem declaration from to = ap (fold-BlockItem BlockItemTree StmtTree block_item_layer stmt_layer) (sym (vBlockItem.rolls-DeclarationItem declaration from to)) ∙ fold-roll-BlockItem BlockItemTree StmtTree block_item_layer stmt_layer (BlockItem-F.DeclarationItem declaration from to)

pub tree-StatementItem : (statement : Stmt) (from to : ℕ) → block_item_tree (vBlockItem.StatementItem statement from to) ≡ StatementItem (stmt_tree statement) from to
unfolding stmt_tree block_item_tree
tree-StatementItem statement from to = ap (fold-BlockItem BlockItemTree StmtTree block_item_layer stmt_layer) (sym (vBlockItem.rolls-StatementItem statement from to)) ∙ fold-roll-BlockItem BlockItemTree StmtTree block_item_layer stmt_layer (BlockItem-F.StatementItem statement from to)

pub ruleset expr_views = (tree-Void, tree-Boolean, tree-Words, tree-TypedefName, tree-StructTag, tree-StructBody, tree-EnumTag, tree-EnumBody, tree-Named, tree-Absent, tree-Pointer, tree-Grouped, tree-Array, tree-Function, tree-Identifier, tree-Integer, tree-Character, tree-Text, tree-Paren, tree-Index, tree-Call, tree-Dot, tree-Arrow, tree-Postfix, tree-Prefix, tree-SizeofExpr, tree-SizeofType, tree-Cast, tree-Binary, tree-Conditional, tree-Empty, tree-OnlyVoid, tree-Listed, tree-Const, tree-Ptrauth, tree-OfEnumerator, tree-OfMember, tree-OfParameter, tree-OfSpecs, tree-OfTypeName)

pub ruleset initializer_views = (tree-Value, tree-Braced)

pub ruleset stmt_views = (tree-DeclarationItem, tree-StatementItem, tree-Compound, tree-Expression, tree-If, tree-IfElse, tree-While, tree-DoWhile, tree-For, tree-Switch, tree-Case, tree-Default, tree-Break, tree-Continue, tree-Return)
