-- The typed form that an expression has, and the first rule that it breaks with its place, as two relations by cases on trees
-- (C11 6.5). `typing` has both as one function.
use Rattle.std.specs.Prelude.{◌≡◌, ℕ, Bool, true, false, List, [], ◌∷◌, map, Some, None, Ok, ◌⊎◌}
use Rattle.pa_tree.specs.Exprs.{ExprTree, ExprTrees}
use Rattle.pa_tree.specs.Exprs as tree
use Rattle.pa_ctype.specs.Types.{TypeTree}
use Rattle.pa_scope.specs.declared.rule.TypeRule.{TypeRule}
use Rattle.pa_scope.specs.declared.rule.TypeRule.TheVariants.{C24}
use Rattle.pa_scope.specs.Answers.{Answer, breaks_at}
use Rattle.pa_scope.specs.Scope.{Spelling, Scope}
use Rattle.pa_rexpr.specs.Values.{Typed, read}
use Rattle.pa_rexpr.specs.Operators.{conditional}
use Rattle.pa_rexpr.specs.Places.{subscript, member, arrow, stepped, size_of, binary}
use Rattle.pa_rexpr.specs.Calls.{call, cast}
use Rattle.pa_rexpr.specs.Names.{named, integer_literal, character, string, only_text, discriminator_value, is_name}
use Rattle.pa_rexpr.specs.Declarators.{CastTarget, Operand}
use Rattle.pa_rexpr.specs.Typing.{prefixed, is_discriminator, behind_texts, type_name}

-- ---- what a construct makes of its parts; a part is told by the forms that it has

abbrev pub One : (Typed → Type 0) → (Typed → Answer Typed) → Answer Typed → Type 0
One Part made answer = (x : Typed) × Part x × (made x ≡ answer)

abbrev pub Two : (Typed → Type 0) → (Typed → Type 0) → (Typed → Typed → Answer Typed) → Answer Typed → Type 0
Two Left Right made answer = (x y : Typed) × Left x × Right y × (made x y ≡ answer)

abbrev pub Three : (Typed → Type 0) → (Typed → Type 0) → (Typed → Type 0) → (Typed → Typed → Typed → Answer Typed) → Answer Typed → Type 0
Three First Second Third made answer = (x y w : Typed) × First x × Second y × Third w × (made x y w ≡ answer)

-- the left part has a form, and the right one breaks a rule
abbrev pub Then : (Typed → Type 0) → Type 0 → Type 0
Then Left Right = (x : Typed) × Left x × Right

abbrev pub Case : Bool → Type 0 → Type 0 → Type 0
Case true A B = A
Case false A B = B

-- the type name is of a type, and what is made of it has a form, or breaks a rule
abbrev pub OfType : Answer TypeTree → (TypeTree → Type 0) → Type 0
OfType named Rest = (of : TypeTree) × (named ≡ Ok of) × Rest of

-- ---- forms

abbrev mutual
  pub Has : Spelling → Scope → ℕ → ExprTree → Typed → Type 0
  Has spelling s n (tree.Identifier name a z) t = named s (spelling name) a ≡ Ok t
  Has spelling s n (tree.Integer value decimal unsigned long a z) t = integer_literal value decimal unsigned long a ≡ Ok t
  Has spelling s n (tree.Character value a z) t = character value ≡ t
  Has spelling s n (tree.Text bytes a z) t = string n bytes ≡ t
  Has spelling s n (tree.Paren inner a z) t = Has spelling s n inner t
  Has spelling s n (tree.Index of at a z) t = Two (Has spelling s n of) (Has spelling s (behind_texts spelling n of) at) (λ x y. subscript s.structs a (read x) (read y)) (Ok t)
  Has spelling s n (tree.Call of arguments a z) t =
      Case (is_discriminator spelling s of) ((bytes : List ℕ) × (only_text arguments ≡ Some bytes) × (discriminator_value bytes ≡ t))
      ((f : Typed) × (es : List Typed) × Has spelling s n of f × HasEach spelling s (behind_texts spelling n of) arguments es × (call s.structs a (is_name of) (read f) (map read es) ≡ Ok t))
  Has spelling s n (tree.Dot of name a z) t = One (Has spelling s n of) (member s.structs a (spelling name)) (Ok t)
  Has spelling s n (tree.Arrow of name a z) t = One (Has spelling s n of) (λ x. arrow s.structs a (spelling name) (read x)) (Ok t)
  Has spelling s n (tree.Postfix op of a z) t = One (Has spelling s n of) (stepped s.structs a op true) (Ok t)
  Has spelling s n (tree.Prefix op of a z) t = One (Has spelling s n of) (prefixed s.structs op a) (Ok t)
  Has spelling s n (tree.SizeofExpr of a z) t = One (Has spelling s n of) (λ x. size_of s.structs a x.of) (Ok t)
  Has spelling s n (tree.SizeofType of a z) t = OfType (type_name spelling Operand s of) (λ w. size_of s.structs a w ≡ Ok t)
  Has spelling s n (tree.Cast wanted of a z) t = OfType (type_name spelling CastTarget s wanted) (λ w. One (Has spelling s n of) (λ x. cast s.structs a w (read x)) (Ok t))
  Has spelling s n (tree.Binary op left right a z) t = Two (Has spelling s n left) (Has spelling s (behind_texts spelling n left) right) (binary s.structs op a) (Ok t)
  Has spelling s n (tree.Conditional test when_true when_false a z) t =
      Three (Has spelling s n test) (Has spelling s (behind_texts spelling n test) when_true) (Has spelling s (behind_texts spelling (behind_texts spelling n test) when_true) when_false) (λ x y w. conditional s.structs a (read x) (read y) (read w)) (Ok t)

  pub HasEach : Spelling → Scope → ℕ → ExprTrees → List Typed → Type 0
  HasEach spelling s n tree.NoExprs ts = [] ≡ ts
  HasEach spelling s n (tree.ConsExpr e es) ts = (x : Typed) × (xs : List Typed) × Has spelling s n e x × HasEach spelling s (behind_texts spelling n e) es xs × (x ∷ xs ≡ ts)

-- ---- broken rules

abbrev mutual
  pub Breaks : Spelling → Scope → ℕ → ExprTree → TypeRule → ℕ → Type 0
  Breaks spelling s n (tree.Identifier name a z) rule at = named s (spelling name) a ≡ breaks_at rule at
  Breaks spelling s n (tree.Integer value decimal unsigned long a z) rule at = integer_literal value decimal unsigned long a ≡ breaks_at rule at
  Breaks spelling s n (tree.Character value a z) rule at = ⊥
  Breaks spelling s n (tree.Text bytes a z) rule at = ⊥
  Breaks spelling s n (tree.Paren inner a z) rule at = Breaks spelling s n inner rule at
  Breaks spelling s n (tree.Index of index a z) rule at =
      Breaks spelling s n of rule at ⊎ (Then (Has spelling s n of) (Breaks spelling s (behind_texts spelling n of) index rule at) ⊎ Two (Has spelling s n of) (Has spelling s (behind_texts spelling n of) index) (λ x y. subscript s.structs a (read x) (read y)) (breaks_at rule at))
  Breaks spelling s n (tree.Call of arguments a z) rule at =
      Case (is_discriminator spelling s of)
      ((only_text arguments ≡ None) × (BreaksEach spelling s (behind_texts spelling n of) arguments rule at ⊎ ((es : List Typed) × HasEach spelling s (behind_texts spelling n of) arguments es × (C24 ≡ rule) × (a ≡ at))))
      (Breaks spelling s n of rule at ⊎ (Then (Has spelling s n of) (BreaksEach spelling s (behind_texts spelling n of) arguments rule at) ⊎ ((f : Typed) × (es : List Typed) × Has spelling s n of f × HasEach spelling s (behind_texts spelling n of) arguments es × (call s.structs a (is_name of) (read f) (map read es) ≡ breaks_at rule at))))
  Breaks spelling s n (tree.Dot of name a z) rule at = Breaks spelling s n of rule at ⊎ One (Has spelling s n of) (member s.structs a (spelling name)) (breaks_at rule at)
  Breaks spelling s n (tree.Arrow of name a z) rule at = Breaks spelling s n of rule at ⊎ One (Has spelling s n of) (λ x. arrow s.structs a (spelling name) (read x)) (breaks_at rule at)
  Breaks spelling s n (tree.Postfix op of a z) rule at = Breaks spelling s n of rule at ⊎ One (Has spelling s n of) (stepped s.structs a op true) (breaks_at rule at)
  Breaks spelling s n (tree.Prefix op of a z) rule at = Breaks spelling s n of rule at ⊎ One (Has spelling s n of) (prefixed s.structs op a) (breaks_at rule at)
  Breaks spelling s n (tree.SizeofExpr of a z) rule at = Breaks spelling s n of rule at ⊎ One (Has spelling s n of) (λ x. size_of s.structs a x.of) (breaks_at rule at)
  Breaks spelling s n (tree.SizeofType of a z) rule at = (type_name spelling Operand s of ≡ breaks_at rule at) ⊎ OfType (type_name spelling Operand s of) (λ w. size_of s.structs a w ≡ breaks_at rule at)
  Breaks spelling s n (tree.Cast wanted of a z) rule at =
      (type_name spelling CastTarget s wanted ≡ breaks_at rule at)
      ⊎ OfType (type_name spelling CastTarget s wanted) (λ w. Breaks spelling s n of rule at ⊎ One (Has spelling s n of) (λ x. cast s.structs a w (read x)) (breaks_at rule at))
  Breaks spelling s n (tree.Binary op left right a z) rule at =
      Breaks spelling s n left rule at ⊎ (Then (Has spelling s n left) (Breaks spelling s (behind_texts spelling n left) right rule at) ⊎ Two (Has spelling s n left) (Has spelling s (behind_texts spelling n left) right) (binary s.structs op a) (breaks_at rule at))
  Breaks spelling s n (tree.Conditional test when_true when_false a z) rule at =
      Breaks spelling s n test rule at
      ⊎ (Then (Has spelling s n test) (Breaks spelling s (behind_texts spelling n test) when_true rule at)
      ⊎ (Then (Has spelling s n test) (Then (Has spelling s (behind_texts spelling n test) when_true) (Breaks spelling s (behind_texts spelling (behind_texts spelling n test) when_true) when_false rule at))
      ⊎ Three (Has spelling s n test) (Has spelling s (behind_texts spelling n test) when_true) (Has spelling s (behind_texts spelling (behind_texts spelling n test) when_true) when_false) (λ x y w. conditional s.structs a (read x) (read y) (read w)) (breaks_at rule at)))

  pub BreaksEach : Spelling → Scope → ℕ → ExprTrees → TypeRule → ℕ → Type 0
  BreaksEach spelling s n tree.NoExprs rule at = ⊥
  BreaksEach spelling s n (tree.ConsExpr e es) rule at = Breaks spelling s n e rule at ⊎ Then (Has spelling s n e) (BreaksEach spelling s (behind_texts spelling n e) es rule at)
