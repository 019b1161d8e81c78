-- A parameter that is `void` alone, by its parts.
use Rattle.std.proofs.Common.{◌≡◌, ◌≤◌, arith, ℕ, List, [], ◌∷◌, length, map, Bool, true, false, ◌&&◌, ◌==◌, refl, sym, ◌∙◌, ap}
use Rattle.std.proofs.Math.Dec.{eqb-suc-zero}
use Rattle.pa_tree.specs.declared.expr.Parameter.{Parameter, out-Parameter, fold_out-Parameter}
use Rattle.pa_tree.specs.declared.expr.Qualifier.{Qualifier}
use Rattle.pa_tree.specs.declared.expr.Specs.{Specs, out-Specs, fold_out-Specs}
use Rattle.pa_tree.specs.Exprs.{BaseTree, DeclaratorTree, ExprTree, ParametersTree, QualifierTree, EnumeratorTree, MemberTree, ParameterTree, SpecsTree, TypeNameTree, OfParameter, OfSpecs, Void, Boolean, Words, TypedefName, StructTag, StructBody, EnumTag, EnumBody, Named, Absent, Pointer, Grouped, Array, Function, ParameterTrees, ConsParameter, NoParameters, NoQualifiers, ConsQualifier}
use Rattle.pa_tree.specs.Spells.{is_only_void}
use Rattle.pa_tree.specs.Views.{expr_tree, type_name_tree, specs_tree, qualifier_tree, base_tree, member_tree, enumerator_tree, declarator_tree, parameters_tree, parameter_tree, parameters_of, qualifiers_of, base_layer, declarator_layer, expr_layer, parameters_layer, qualifier_layer, enumerator_layer, member_layer, parameter_layer, specs_layer, type_name_layer}
use Rattle.pa_pspec.specs.Voids.{is_void_tree, is_absent_tree}

parameter_out : (t : Parameter) → parameter_tree t ≡ OfParameter (specs_tree (out-Parameter t).specs) (declarator_tree (out-Parameter t).declarator) (out-Parameter t).from (out-Parameter t).to
unfolding expr_tree type_name_tree specs_tree qualifier_tree base_tree member_tree enumerator_tree declarator_tree parameters_tree parameter_tree
parameter_out t = fold_out-Parameter BaseTree DeclaratorTree ExprTree ParametersTree QualifierTree EnumeratorTree MemberTree ParameterTree SpecsTree TypeNameTree base_layer declarator_layer expr_layer parameters_layer qualifier_layer enumerator_layer member_layer parameter_layer specs_layer type_name_layer t

specs_out : (t : Specs) → specs_tree t ≡ OfSpecs (qualifiers_of (map qualifier_tree (out-Specs t).before)) (base_tree (out-Specs t).base) (qualifiers_of (map qualifier_tree (out-Specs t).after)) (out-Specs t).from (out-Specs t).to
unfolding expr_tree type_name_tree specs_tree qualifier_tree base_tree member_tree enumerator_tree declarator_tree parameters_tree parameter_tree
specs_out t = fold_out-Specs BaseTree DeclaratorTree ExprTree ParametersTree QualifierTree EnumeratorTree MemberTree ParameterTree SpecsTree TypeNameTree base_layer declarator_layer expr_layer parameters_layer qualifier_layer enumerator_layer member_layer parameter_layer specs_layer type_name_layer t

by_parts : (before : List Qualifier) (base : BaseTree) (after : List Qualifier) (declarator : DeclaratorTree) (a z e f : ℕ)
    → is_only_void (ConsParameter (OfParameter (OfSpecs (qualifiers_of (map qualifier_tree before)) base (qualifiers_of (map qualifier_tree after)) a z) declarator e f) NoParameters)
    ≡ (length before == 0) && (is_void_tree base && ((length after == 0) && is_absent_tree declarator))
by_parts (q ∷ qs) base after declarator a z e f = ap (λ b. b && (is_void_tree base && ((length after == 0) && is_absent_tree declarator))) (sym (eqb-suc-zero (length qs)))
by_parts [] (Void x y) [] (Absent u v) a z e f = refl
by_parts [] (Void x y) [] (Named n u v) a z e f = refl
by_parts [] (Void x y) [] (Pointer qs of u v) a z e f = refl
by_parts [] (Void x y) [] (Grouped of u v) a z e f = refl
by_parts [] (Void x y) [] (Array of n u v) a z e f = refl
by_parts [] (Void x y) [] (Function of ps u v) a z e f = refl
by_parts [] (Void x y) (q ∷ qs) declarator a z e f = ap (λ b. b && is_absent_tree declarator) (sym (eqb-suc-zero (length qs)))
by_parts [] (Boolean x y) after declarator a z e f = refl
by_parts [] (Words ws x y) after declarator a z e f = refl
by_parts [] (TypedefName n x y) after declarator a z e f = refl
by_parts [] (StructTag t x y) after declarator a z e f = refl
by_parts [] (StructBody t ms x y) after declarator a z e f = refl
by_parts [] (EnumTag t x y) after declarator a z e f = refl
by_parts [] (EnumBody t es x y) after declarator a z e f = refl

longer : (t s : ParameterTree) (rest : ParameterTrees) → false ≡ is_only_void (ConsParameter t (ConsParameter s rest))
longer (OfParameter (OfSpecs (ConsQualifier q qs) base after a z) declarator e f) s rest = refl
longer (OfParameter (OfSpecs NoQualifiers (Boolean x y) after a z) declarator e f) s rest = refl
longer (OfParameter (OfSpecs NoQualifiers (Words ws x y) after a z) declarator e f) s rest = refl
longer (OfParameter (OfSpecs NoQualifiers (TypedefName n x y) after a z) declarator e f) s rest = refl
longer (OfParameter (OfSpecs NoQualifiers (StructTag t x y) after a z) declarator e f) s rest = refl
longer (OfParameter (OfSpecs NoQualifiers (StructBody t ms x y) after a z) declarator e f) s rest = refl
longer (OfParameter (OfSpecs NoQualifiers (EnumTag t x y) after a z) declarator e f) s rest = refl
longer (OfParameter (OfSpecs NoQualifiers (EnumBody t es x y) after a z) declarator e f) s rest = refl
longer (OfParameter (OfSpecs NoQualifiers (Void x y) (ConsQualifier q qs) a z) declarator e f) s rest = refl
longer (OfParameter (OfSpecs NoQualifiers (Void x y) NoQualifiers a z) (Absent u v) e f) s rest = refl
longer (OfParameter (OfSpecs NoQualifiers (Void x y) NoQualifiers a z) (Named n u v) e f) s rest = refl
longer (OfParameter (OfSpecs NoQualifiers (Void x y) NoQualifiers a z) (Pointer qs of u v) e f) s rest = refl
longer (OfParameter (OfSpecs NoQualifiers (Void x y) NoQualifiers a z) (Grouped of u v) e f) s rest = refl
longer (OfParameter (OfSpecs NoQualifiers (Void x y) NoQualifiers a z) (Array of n u v) e f) s rest = refl
longer (OfParameter (OfSpecs NoQualifiers (Void x y) NoQualifiers a z) (Function of ps u v) e f) s rest = refl

-- two parameters or more are no lone `void`
pub two_or_more : (ps : List Parameter) → 2 ≤ length ps → false ≡ is_only_void (parameters_of (map parameter_tree ps))
two_or_more [] h = absurd (omega arith)
two_or_more (x ∷ []) h = absurd (omega arith)
two_or_more (x ∷ y ∷ ps) h = longer (parameter_tree x) (parameter_tree y) (parameters_of (map parameter_tree ps))

pub lone_void : (t : Parameter) → is_only_void (parameters_of (parameter_tree t ∷ []))
    ≡ (length (out-Specs (out-Parameter t).specs).before == 0) && (is_void_tree (base_tree (out-Specs (out-Parameter t).specs).base) && ((length (out-Specs (out-Parameter t).specs).after == 0) && is_absent_tree (declarator_tree (out-Parameter t).declarator)))
lone_void t = ap (λ x. is_only_void (ConsParameter x NoParameters)) (parameter_out t)
    ∙ ap (λ x. is_only_void (ConsParameter (OfParameter x (declarator_tree (out-Parameter t).declarator) (out-Parameter t).from (out-Parameter t).to) NoParameters)) (specs_out (out-Parameter t).specs)
    ∙ by_parts (out-Specs (out-Parameter t).specs).before (base_tree (out-Specs (out-Parameter t).specs).base) (out-Specs (out-Parameter t).specs).after (declarator_tree (out-Parameter t).declarator) _ _ _ _
