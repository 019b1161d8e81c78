-- The typed form of an expression (C11 6.5), or the first rule that it breaks: inner constructs before the one that holds them, the
-- left one of two first.
use Rattle.std.specs.Prelude.{ℕ, ◌+◌, ℤ, Bool, true, false, ◌&&◌, List, [], ◌∷◌, length, map, Option, Some, None, Ok, codes}
use Rattle.pa_tree.specs.declared.operator.PrefixOperator.{PrefixOperator}
use Rattle.pa_tree.specs.declared.operator.PrefixOperator.TheVariants as prefix
use Rattle.pa_tree.specs.declared.operator.Step.TheVariants as step
use Rattle.pa_tree.specs.Exprs.{ExprTree, ExprTrees, TypeNameTree, SpecsTree, QualifierTree, QualifierTrees, DeclaratorTree, ParametersTree, ParameterTree, ParameterTrees, MaybeExprTree}
use Rattle.pa_tree.specs.Exprs as tree
use Rattle.pa_ctype.specs.Types.{TypeTree}
use Rattle.pa_ctype.specs.Layouts.{Table}
use Rattle.pa_typed.specs.Typed.{TypedExpr}
use Rattle.pa_typed.specs.declared.expr.UnaryOperation.TheVariants as unary
use Rattle.pa_scope.specs.declared.rule.TypeRule.TheVariants.{C24}
use Rattle.pa_scope.specs.Answers.{Answer, breaks_at, then_with, in_order, checked}
use Rattle.pa_scope.specs.Scope.{Spelling, Scope, Meaning, Discriminator, meaning, entered, left}
use Rattle.pa_rexpr.specs.Values.{Typed, read}
use Rattle.pa_rexpr.specs.Constants.{constant_at}
use Rattle.pa_rexpr.specs.Operators.{plus, with_sign, negated, conditional}
use Rattle.pa_rexpr.specs.Places.{subscript, member, arrow, address, indirection, stepped, size_of, binary}
use Rattle.pa_rexpr.specs.Calls.{call, cast}
use Rattle.pa_rexpr.specs.Names.{named, integer_literal, character, string, is_discriminator_name, only_text, discriminator_value, is_name, texts, from_of, places_of}
use Rattle.pa_rexpr.specs.Declarators.{Use, Parameter, CastTarget, Operand, Around, Base, APointer, AnArray, AFunction, Qualifiers, unqualified, Bearer, with_ptrauth, front_type, front_qualifiers, bearer_of, Based, qualified_base, base_type, forbids_schema, name_of, name_place, PointerPart, built, Walked, behind, pointer_bearer, array_part, array_of_length, function_part, Params, parameter_of, with_params, type_name_rule}

abbrev pub prefixed : Table → PrefixOperator → ℕ → Typed → Answer Typed
prefixed table prefix.Increment place e = stepped table place step.Increment false e
prefixed table prefix.Decrement place e = stepped table place step.Decrement false e
prefixed table prefix.Address place e = address place e
prefixed table prefix.Indirection place e = indirection place (read e)
prefixed table prefix.Plus place e = plus place (read e)
prefixed table prefix.Minus place e = with_sign unary.Minus place (read e)
prefixed table prefix.Complement place e = with_sign unary.Complement place (read e)
prefixed table prefix.Not place e = negated place (read e)

abbrev pub is_brought : Option Meaning → Bool
is_brought (Some Discriminator) = true
is_brought _ = false

-- `ptrauth_string_discriminator`, brought in by its header
abbrev pub is_discriminator : Spelling → Scope → ExprTree → Bool
is_discriminator spelling s e = is_discriminator_name spelling e && is_brought (meaning s (codes "ptrauth_string_discriminator"))

-- it is called with one string; other arguments are looked at first
abbrev pub discriminator_call : ℕ → Option (List ℕ) → List (Answer Typed) → Answer Typed
discriminator_call place (Some bytes) arguments = Ok (discriminator_value bytes)
discriminator_call place None arguments = then_with (in_order arguments) (λ es. breaks_at C24 place)

abbrev pub call_by : Bool → Table → ℕ → Bool → Option (List ℕ) → Answer Typed → List (Answer Typed) → Answer Typed
call_by true table place by_name text function arguments = discriminator_call place text arguments
call_by false table place by_name text function arguments =
    then_with function (λ f. then_with (in_order arguments) (λ es. call table place by_name (read f) (map read es)))

-- expressions that have to be integer constants, with their places
abbrev pub constants : List ℕ → List (Answer Typed) → List (Answer ℤ)
constants [] es = []
constants (place ∷ places) [] = []
constants (place ∷ places) (e ∷ es) = then_with e (λ x. constant_at place (read x)) ∷ constants places es

-- how many string literals lie in memory behind an expression, where so many do in front of it
abbrev pub behind_texts : Spelling → ℕ → ExprTree → ℕ
behind_texts spelling n e = n + length (texts spelling e)

abbrev pub has_length : MaybeExprTree → Bool
has_length tree.NoExpr = false
has_length (tree.SomeExpr e) = true

-- `s`: what names mean there; `n`: how many string literals that lie in memory stand in front; `grows`: the tag of a struct may be new
unfoldable mutual
  pub typing : Spelling → Scope → ℕ → ExprTree → Answer Typed
  typing spelling s n (tree.Identifier name a z) = named s (spelling name) a
  typing spelling s n (tree.Integer value decimal unsigned long a z) = integer_literal value decimal unsigned long a
  typing spelling s n (tree.Character value a z) = Ok (character value)
  typing spelling s n (tree.Text bytes a z) = Ok (string n bytes)
  typing spelling s n (tree.Paren inner a z) = typing spelling s n inner
  typing spelling s n (tree.Index of at a z) = then_with (typing spelling s n of) (λ x. then_with (typing spelling s (behind_texts spelling n of) at) (λ y. subscript s.structs a (read x) (read y)))
  typing spelling s n (tree.Call of arguments a z) = call_by (is_discriminator spelling s of) s.structs a (is_name of) (only_text arguments) (typing spelling s n of) (typing_each spelling s (behind_texts spelling n of) arguments)
  typing spelling s n (tree.Dot of name a z) = then_with (typing spelling s n of) (member s.structs a (spelling name))
  typing spelling s n (tree.Arrow of name a z) = then_with (typing spelling s n of) (λ x. arrow s.structs a (spelling name) (read x))
  typing spelling s n (tree.Postfix op of a z) = then_with (typing spelling s n of) (stepped s.structs a op true)
  typing spelling s n (tree.Prefix op of a z) = then_with (typing spelling s n of) (prefixed s.structs op a)
  typing spelling s n (tree.SizeofExpr of a z) = then_with (typing spelling s n of) (λ x. size_of s.structs a x.of)
  typing spelling s n (tree.SizeofType of a z) = then_with (type_name spelling Operand s of) (size_of s.structs a)
  typing spelling s n (tree.Cast wanted of a z) = then_with (type_name spelling CastTarget s wanted) (λ t. then_with (typing spelling s n of) (λ x. cast s.structs a t (read x)))
  typing spelling s n (tree.Binary op left right a z) = then_with (typing spelling s n left) (λ x. then_with (typing spelling s (behind_texts spelling n left) right) (binary s.structs op a x))
  typing spelling s n (tree.Conditional test when_true when_false a z) =
      then_with (typing spelling s n test) (λ x. then_with (typing spelling s (behind_texts spelling n test) when_true) (λ y. then_with (typing spelling s (behind_texts spelling (behind_texts spelling n test) when_true) when_false) (λ w. conditional s.structs a (read x) (read y) (read w))))

  pub typing_each : Spelling → Scope → ℕ → ExprTrees → List (Answer Typed)
  typing_each spelling s n tree.NoExprs = []
  typing_each spelling s n (tree.ConsExpr e es) = typing spelling s n e ∷ typing_each spelling s (behind_texts spelling n e) es

  -- the type of a type name in an expression
  pub type_name : Spelling → Use → Scope → TypeNameTree → Answer TypeTree
  type_name spelling purpose s (tree.OfTypeName sp declarator a z) =
      then_with (specs spelling false (forbids_schema purpose declarator) s sp) (λ b. then_with (parts_of spelling false purpose (Base b.of) b.scope declarator) (λ w. checked a (type_name_rule s.structs purpose (built b.of w.parts)) (built b.of w.parts)))

  -- specifiers without a body; `forbidden`: the type may have no `__ptrauth`
  pub specs : Spelling → Bool → Bool → Scope → SpecsTree → Answer Based
  specs spelling grows forbidden s (tree.OfSpecs before base after a z) =
      qualified_base (qualifiers spelling s (bearer_of forbidden (front_type spelling s base)) (front_qualifiers spelling s base) before) (base_type spelling grows s base) (λ q b. qualifiers spelling b.scope (bearer_of forbidden b.of) q after)

  pub qualifier : Spelling → Scope → Bearer → Qualifiers → QualifierTree → Answer Qualifiers
  qualifier spelling s on q (tree.Const a z) = Ok (record q { constant = true })
  qualifier spelling s on q (tree.Ptrauth arguments a z) = then_with (in_order (constants (places_of arguments) (typing_each spelling s 0 arguments))) (λ zs. with_ptrauth a (places_of arguments) zs on q)

  pub qualifiers : Spelling → Scope → Bearer → Qualifiers → QualifierTrees → Answer Qualifiers
  qualifiers spelling s on q tree.NoQualifiers = Ok q
  qualifiers spelling s on q (tree.ConsQualifier first rest) = then_with (qualifier spelling s on q first) (λ r. qualifiers spelling s on r rest)

  -- the parts of a declarator, in the order of the source
  pub parts_of : Spelling → Bool → Use → Around → Scope → DeclaratorTree → Answer Walked
  parts_of spelling grows purpose around s (tree.Named name a z) = Ok (record { parts = []; scope = s })
  parts_of spelling grows purpose around s (tree.Absent a z) = Ok (record { parts = []; scope = s })
  parts_of spelling grows purpose around s (tree.Grouped inner a z) = parts_of spelling grows purpose around s inner
  parts_of spelling grows purpose around s (tree.Pointer qs of a z) = then_with (qualifiers spelling s (pointer_bearer purpose around of) unqualified qs) (λ q. then_with (parts_of spelling grows purpose APointer s of) (λ w. Ok (behind w (PointerPart q) w.scope)))
  parts_of spelling grows purpose around s (tree.Array of length a z) = then_with (parts_of spelling grows purpose (AnArray (has_length length)) s of) (λ w. array_by spelling a around w length)
  parts_of spelling grows purpose around s (tree.Function of params a z) = then_with (parts_of spelling grows purpose AFunction s of) (λ w. then_with (parameters spelling grows w.scope params) (function_part a around w))

  -- an array's length, where it has one, and the array
  pub array_by : Spelling → ℕ → Around → Walked → MaybeExprTree → Answer Walked
  array_by spelling place around w tree.NoExpr = array_part place around w None
  array_by spelling place around w (tree.SomeExpr e) = then_with (then_with (typing spelling w.scope 0 e) (λ x. constant_at (from_of e) (read x))) (array_of_length place around w (from_of e))

  -- parameters are in scope from the end of their declarator to that of the list (6.2.1p4)
  pub parameters : Spelling → Bool → Scope → ParametersTree → Answer Params
  parameters spelling grows s (tree.Empty a z) = Ok (record { params = []; scope = s })
  parameters spelling grows s (tree.OnlyVoid a z) = Ok (record { params = []; scope = s })
  parameters spelling grows s (tree.Listed list a z) = then_with (parameter_list spelling grows (entered s) list) (λ p. Ok (record p { scope = left p.scope }))

  pub parameter : Spelling → Bool → Scope → ParameterTree → Answer Params
  parameter spelling grows s (tree.OfParameter sp declarator a z) =
      then_with (specs spelling grows (forbids_schema Parameter declarator) s sp) (λ b. then_with (parts_of spelling grows Parameter (Base b.of) b.scope declarator) (λ w. parameter_of a (name_of spelling declarator) (name_place declarator) (built b.of w.parts) w.scope))

  pub parameter_list : Spelling → Bool → Scope → ParameterTrees → Answer Params
  parameter_list spelling grows s tree.NoParameters = Ok (record { params = []; scope = s })
  parameter_list spelling grows s (tree.ConsParameter first rest) = then_with (parameter spelling grows s first) (λ p. then_with (parameter_list spelling grows p.scope rest) (λ ps. Ok (with_params p ps)))

-- what stands for an expression by itself: its value, or its place where it is a struct
abbrev pub elaborated : Spelling → Scope → ℕ → ExprTree → Answer TypedExpr
elaborated spelling s n e = then_with (typing spelling s n e) (λ x. Ok (read x).tree)
