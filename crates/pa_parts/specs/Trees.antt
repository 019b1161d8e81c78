-- The parts of a tree as the program has them: the tree that each is, and that tree's height.
use Rattle.std.specs.Prelude.{ℕ, List, drop, map, Option}
use Rattle.std.specs.Option.{option_map}
use Rattle.pa_tree.specs.declared.expr.Base.{Base}
use Rattle.pa_tree.specs.declared.expr.Declarator.{Declarator}
use Rattle.pa_tree.specs.declared.expr.Enumerator.{Enumerator}
use Rattle.pa_tree.specs.declared.expr.Expr.{Expr}
use Rattle.pa_tree.specs.declared.expr.Member.{Member}
use Rattle.pa_tree.specs.declared.expr.Parameter.{Parameter}
use Rattle.pa_tree.specs.declared.expr.Parameters.{Parameters}
use Rattle.pa_tree.specs.declared.expr.Qualifier.{Qualifier}
use Rattle.pa_tree.specs.declared.expr.Specs.{Specs}
use Rattle.pa_tree.specs.declared.expr.TypeName.{TypeName}
use Rattle.pa_tree.specs.Exprs.{ExprTree, SpecsTree, BaseTree, QualifierTree, MemberTree, EnumeratorTree, DeclaratorTree, ParametersTree, ParameterTree, MaybeExprTree, TypeNameTree}
use Rattle.pa_tree.specs.Heights as heights
use Rattle.pa_tree.specs.Views as views
use Rattle.pa_grammar.specs.Parts as parts

pub record Tree (A T : Type 0) : Type 0 where
  pub view : A → T
  pub height : T → ℕ

abbrev pub expr : Tree Expr ExprTree
expr = record { view = views.expr_tree; height = heights.expr_height }

abbrev pub exprs : Tree (List Expr) (List ExprTree)
exprs = record { view = map views.expr_tree; height = parts.height_of_exprs }

abbrev pub maybe_expr : Tree (Option Expr) MaybeExprTree
maybe_expr = record { view = parts.maybe_expr_tree; height = heights.maybe_expr_height }

abbrev pub type_name : Tree TypeName TypeNameTree
type_name = record { view = views.type_name_tree; height = heights.type_name_height }

abbrev pub specs : Tree Specs SpecsTree
specs = record { view = views.specs_tree; height = heights.specs_height }

abbrev pub base : Tree Base BaseTree
base = record { view = views.base_tree; height = heights.base_height }

abbrev pub qualifier : Tree Qualifier QualifierTree
qualifier = record { view = views.qualifier_tree; height = heights.qualifier_height }

abbrev pub qualifiers : Tree (List Qualifier) (List QualifierTree)
qualifiers = record { view = map views.qualifier_tree; height = parts.height_of_qualifiers }

abbrev pub member : Tree Member MemberTree
member = record { view = views.member_tree; height = heights.member_height }

abbrev pub members : Tree (List Member) (List MemberTree)
members = record { view = map views.member_tree; height = parts.height_of_members }

abbrev pub enumerator : Tree Enumerator EnumeratorTree
enumerator = record { view = views.enumerator_tree; height = heights.enumerator_height }

abbrev pub enumerators : Tree (List Enumerator) (List EnumeratorTree)
enumerators = record { view = map views.enumerator_tree; height = parts.height_of_enumerators }

abbrev pub declarator : Tree Declarator DeclaratorTree
declarator = record { view = views.declarator_tree; height = heights.declarator_height }

abbrev pub declarators : Tree (List Declarator) (List DeclaratorTree)
declarators = record { view = map views.declarator_tree; height = parts.height_of_declarators }

abbrev pub parameter : Tree Parameter ParameterTree
parameter = record { view = views.parameter_tree; height = heights.parameter_height }

abbrev pub parameter_list : Tree (List Parameter) (List ParameterTree)
parameter_list = record { view = map views.parameter_tree; height = parts.height_of_parameters }

abbrev pub parameters : Tree Parameters ParametersTree
parameters = record { view = views.parameters_tree; height = heights.parameters_height }
