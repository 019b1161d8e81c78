-- Parts of a tree that stand in lists or may be missing: their trees and heights.
use Rattle.std.specs.Prelude.{ℕ, List, Option}
use Rattle.std.specs.Option.{option_map}
use Rattle.pa_tree.specs.declared.expr.Expr.{Expr}
use Rattle.pa_tree.specs.Exprs.{ExprTree, QualifierTree, MemberTree, EnumeratorTree, DeclaratorTree, ParameterTree, MaybeExprTree}
use Rattle.pa_tree.specs.Heights.{exprs_height, qualifiers_height, members_height, enumerators_height, declarators_height, parameter_list_height}
use Rattle.pa_tree.specs.Views.{expr_tree, maybe_expr, exprs_of, qualifiers_of, members_of, enumerators_of, declarators_of, parameters_of}

-- the greatest height in a list
abbrev pub height_of_exprs : List ExprTree → ℕ
height_of_exprs es = exprs_height (exprs_of es)

abbrev pub height_of_qualifiers : List QualifierTree → ℕ
height_of_qualifiers qs = qualifiers_height (qualifiers_of qs)

abbrev pub height_of_members : List MemberTree → ℕ
height_of_members ms = members_height (members_of ms)

abbrev pub height_of_enumerators : List EnumeratorTree → ℕ
height_of_enumerators es = enumerators_height (enumerators_of es)

abbrev pub height_of_declarators : List DeclaratorTree → ℕ
height_of_declarators ds = declarators_height (declarators_of ds)

abbrev pub height_of_parameters : List ParameterTree → ℕ
height_of_parameters ps = parameter_list_height (parameters_of ps)

abbrev pub maybe_expr_tree : Option Expr → MaybeExprTree
maybe_expr_tree value = maybe_expr (option_map expr_tree value)
