-- The greatest height in a list, with one more item at its end.
use Rattle.std.proofs.Common.{◌≡◌, ℕ, List, [], ◌∷◌, ◌++◌, map, max, ◌∙◌, ap, arith}
use Rattle.std.proofs.lemmas.List.{map-append}
use Rattle.pa_tree.specs.declared.expr.Expr.{Expr}
use Rattle.pa_tree.specs.declared.expr.Qualifier.{Qualifier}
use Rattle.pa_tree.specs.declared.expr.Member.{Member}
use Rattle.pa_tree.specs.declared.expr.Enumerator.{Enumerator}
use Rattle.pa_tree.specs.declared.expr.Declarator.{Declarator}
use Rattle.pa_tree.specs.declared.expr.Parameter.{Parameter}
use Rattle.pa_tree.specs.Exprs.{ExprTree, QualifierTree, MemberTree, EnumeratorTree, DeclaratorTree, ParameterTree}
use Rattle.pa_tree.specs.Heights.{expr_height, qualifier_height, member_height, enumerator_height, declarator_height, parameter_height}
use Rattle.pa_tree.specs.Views.{expr_tree, qualifier_tree, member_tree, enumerator_tree, declarator_tree, parameter_tree}
use Rattle.pa_grammar.specs.Parts.{height_of_exprs, height_of_qualifiers, height_of_members, height_of_enumerators, height_of_declarators, height_of_parameters}

end_of_exprs : (xs : List ExprTree) (x : ExprTree) → height_of_exprs (xs ++ x ∷ []) ≡ max (height_of_exprs xs) (expr_height x)
end_of_exprs [] x = omega arith
end_of_exprs (y ∷ ys) x = omega (arith, end_of_exprs ys x)

pub exprs_height : (all every : List Expr) (x : Expr) → every ≡ all ++ x ∷ [] → height_of_exprs (map expr_tree every) ≡ max (height_of_exprs (map expr_tree all)) (expr_height (expr_tree x))
exprs_height all every x e = ap height_of_exprs (ap (map expr_tree) e ∙ map-append expr_tree all (x ∷ [])) ∙ end_of_exprs (map expr_tree all) (expr_tree x)

end_of_qualifiers : (xs : List QualifierTree) (x : QualifierTree) → height_of_qualifiers (xs ++ x ∷ []) ≡ max (height_of_qualifiers xs) (qualifier_height x)
end_of_qualifiers [] x = omega arith
end_of_qualifiers (y ∷ ys) x = omega (arith, end_of_qualifiers ys x)

pub qualifiers_height : (all every : List Qualifier) (x : Qualifier) → every ≡ all ++ x ∷ [] → height_of_qualifiers (map qualifier_tree every) ≡ max (height_of_qualifiers (map qualifier_tree all)) (qualifier_height (qualifier_tree x))
qualifiers_height all every x e = ap height_of_qualifiers (ap (map qualifier_tree) e ∙ map-append qualifier_tree all (x ∷ [])) ∙ end_of_qualifiers (map qualifier_tree all) (qualifier_tree x)

end_of_members : (xs : List MemberTree) (x : MemberTree) → height_of_members (xs ++ x ∷ []) ≡ max (height_of_members xs) (member_height x)
end_of_members [] x = omega arith
end_of_members (y ∷ ys) x = omega (arith, end_of_members ys x)

pub members_height : (all every : List Member) (x : Member) → every ≡ all ++ x ∷ [] → height_of_members (map member_tree every) ≡ max (height_of_members (map member_tree all)) (member_height (member_tree x))
members_height all every x e = ap height_of_members (ap (map member_tree) e ∙ map-append member_tree all (x ∷ [])) ∙ end_of_members (map member_tree all) (member_tree x)

end_of_enumerators : (xs : List EnumeratorTree) (x : EnumeratorTree) → height_of_enumerators (xs ++ x ∷ []) ≡ max (height_of_enumerators xs) (enumerator_height x)
end_of_enumerators [] x = omega arith
end_of_enumerators (y ∷ ys) x = omega (arith, end_of_enumerators ys x)

pub enumerators_height : (all every : List Enumerator) (x : Enumerator) → every ≡ all ++ x ∷ [] → height_of_enumerators (map enumerator_tree every) ≡ max (height_of_enumerators (map enumerator_tree all)) (enumerator_height (enumerator_tree x))
enumerators_height all every x e = ap height_of_enumerators (ap (map enumerator_tree) e ∙ map-append enumerator_tree all (x ∷ [])) ∙ end_of_enumerators (map enumerator_tree all) (enumerator_tree x)

end_of_declarators : (xs : List DeclaratorTree) (x : DeclaratorTree) → height_of_declarators (xs ++ x ∷ []) ≡ max (height_of_declarators xs) (declarator_height x)
end_of_declarators [] x = omega arith
end_of_declarators (y ∷ ys) x = omega (arith, end_of_declarators ys x)

pub declarators_height : (all every : List Declarator) (x : Declarator) → every ≡ all ++ x ∷ [] → height_of_declarators (map declarator_tree every) ≡ max (height_of_declarators (map declarator_tree all)) (declarator_height (declarator_tree x))
declarators_height all every x e = ap height_of_declarators (ap (map declarator_tree) e ∙ map-append declarator_tree all (x ∷ [])) ∙ end_of_declarators (map declarator_tree all) (declarator_tree x)

end_of_parameters : (xs : List ParameterTree) (x : ParameterTree) → height_of_parameters (xs ++ x ∷ []) ≡ max (height_of_parameters xs) (parameter_height x)
end_of_parameters [] x = omega arith
end_of_parameters (y ∷ ys) x = omega (arith, end_of_parameters ys x)

pub parameters_height : (all every : List Parameter) (x : Parameter) → every ≡ all ++ x ∷ [] → height_of_parameters (map parameter_tree every) ≡ max (height_of_parameters (map parameter_tree all)) (parameter_height (parameter_tree x))
parameters_height all every x e = ap height_of_parameters (ap (map parameter_tree) e ∙ map-append parameter_tree all (x ∷ [])) ∙ end_of_parameters (map parameter_tree all) (parameter_tree x)
