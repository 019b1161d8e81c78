-- At which nonterminals a tree is spelled, and where its last operand ends.
use Rattle.std.proofs.Common.{◌≡◌, ◌≤◌, ℕ, suc, List, Bool, true, false, Option, Some, None, refl, sym, ◌∙◌, ap, arith}
use Rattle.pa_lex.specs.declared.token.Punct.{Punct}
use Rattle.pa_lex.specs.declared.token.Punct.TheVariants as p
use Rattle.pa_tree.specs.declared.operator.BinaryOperator.{BinaryOperator}
use Rattle.pa_tree.specs.declared.operator.BinaryOperator.TheVariants as b
use Rattle.pa_tree.specs.declared.operator.Step.TheVariants as step
use Rattle.pa_lex.specs.declared.token.Kind.{Kind}
use Rattle.pa_lex.specs.declared.token.Kind.TheVariants as kind
use Rattle.pa_lex.specs.declared.token.Token.{Token}
use Rattle.pa_tree.specs.declared.operator.PrefixOperator.{PrefixOperator}
use Rattle.pa_tree.specs.declared.operator.PrefixOperator.TheVariants as prefix
use Rattle.std.proofs.lemmas.Bool.{eqb-true, eq-eqb}
use Rattle.std.proofs.Math.Dec.{eqb}
use Rattle.pa_tree.specs.Cursors.{Cursor, head, Mark}
use Rattle.pa_tree.specs.Exprs.{ExprTree, Identifier, Integer, Character, Text, Paren, Index, Call, Dot, Arrow, Postfix, Prefix, SizeofExpr, SizeofType, Cast, Binary, Conditional}
use Rattle.pa_tree.specs.Heights.{expr_height}
use Rattle.pa_tree.specs.Operators.{cond_level, cast_level, unary_level, level_of, right_level, prefix_level}
use Rattle.pa_tree.specs.Spells.{ExprSpells}
use Rattle.pa_tree.proofs.Operators.{levels}
use Rattle.pa_grammar.specs.Infixes.{Infix, Between, Choice, Indexed, Called, Dotted, Arrowed, Stepped, infix_of, infix_sign, infix_in, infix_level, infix_left, tree_level}

pub height_pos : (t : ExprTree) → 1 ≤ expr_height t
height_pos (Identifier name a z) = omega arith
height_pos (Integer value decimal unsigned long a z) = omega arith
height_pos (Character value a z) = omega arith
height_pos (Text bytes a z) = omega arith
height_pos (Paren inner a z) = omega arith
height_pos (Index of at a z) = omega arith
height_pos (Call of arguments a z) = omega arith
height_pos (Dot of member a z) = omega arith
height_pos (Arrow of member a z) = omega arith
height_pos (Postfix op of a z) = omega arith
height_pos (Prefix op of a z) = omega arith
height_pos (SizeofExpr of a z) = omega arith
height_pos (SizeofType of a z) = omega arith
height_pos (Cast wanted of a z) = omega arith
height_pos (Binary op left right a z) = omega arith
height_pos (Conditional test when_true when_false a z) = omega arith

module _ (names : List ℕ) where
  -- a tree is spelled at each nonterminal that is no tighter than its own
  pub at_level : (t : ExprTree) (l m : ℕ) (c d : Cursor) → ExprSpells names l t c d → m ≤ tree_level t → ExprSpells names m t c d
  at_level (Identifier name a z) l m c d h k = h
  at_level (Integer value decimal unsigned long a z) l m c d h k = h
  at_level (Character value a z) l m c d h k = h
  at_level (Text bytes a z) l m c d h k = h
  at_level (Paren inner a z) l m c d h k = h
  at_level (Index of at a z) l m c d h k = h
  at_level (Call of arguments a z) l m c d h k = h
  at_level (Dot of member a z) l m c d h k = h
  at_level (Arrow of member a z) l m c d h k = h
  at_level (Postfix op of a z) l m c d h k = h
  at_level (Prefix op of a z) l m c d h k = (h.0, k, h.2, h.3, h.4)
  at_level (SizeofExpr of a z) l m c d h k = (h.0, k, h.2, h.3, h.4)
  at_level (SizeofType of a z) l m c d h k = (h.0, h.1, h.2, k, h.4, h.5, h.6, h.7, h.8)
  at_level (Cast wanted of a z) l m c d h k = (h.0, h.1, h.2, k, h.4, h.5, h.6, h.7, h.8)
  at_level (Binary op left right a z) l m c d h k = (h.0, h.1, k, h.3, h.4, h.5, h.6)
  at_level (Conditional test when_true when_false a z) l m c d h k = (h.0, h.1, h.2, h.3, k, h.5, h.6, h.7, h.8, h.9, h.10)

  pub its_level : (t : ExprTree) (l : ℕ) (c d : Cursor) → l ≤ 15 → ExprSpells names l t c d → l ≤ tree_level t
  its_level (Identifier name a z) l c d k h = k
  its_level (Integer value decimal unsigned long a z) l c d k h = k
  its_level (Character value a z) l c d k h = k
  its_level (Text bytes a z) l c d k h = k
  its_level (Paren inner a z) l c d k h = k
  its_level (Index of at a z) l c d k h = k
  its_level (Call of arguments a z) l c d k h = k
  its_level (Dot of member a z) l c d k h = k
  its_level (Arrow of member a z) l c d k h = k
  its_level (Postfix op of a z) l c d k h = k
  its_level (Prefix op of a z) l c d k h = h.1
  its_level (SizeofExpr of a z) l c d k h = h.1
  its_level (SizeofType of a z) l c d k h = h.3
  its_level (Cast wanted of a z) l c d k h = h.3
  its_level (Binary op left right a z) l c d k h = h.2
  its_level (Conditional test when_true when_false a z) l c d k h = h.4

-- the sign that an operator is written with
pub sign_of_infix : (x : Infix) → infix_of (infix_sign x) ≡ Some x
sign_of_infix (Between b.Comma) = refl
sign_of_infix (Between b.Assign) = refl
sign_of_infix (Between b.MultiplyAssign) = refl
sign_of_infix (Between b.DivideAssign) = refl
sign_of_infix (Between b.RemainderAssign) = refl
sign_of_infix (Between b.AddAssign) = refl
sign_of_infix (Between b.SubtractAssign) = refl
sign_of_infix (Between b.ShiftLeftAssign) = refl
sign_of_infix (Between b.ShiftRightAssign) = refl
sign_of_infix (Between b.AndAssign) = refl
sign_of_infix (Between b.XorAssign) = refl
sign_of_infix (Between b.OrAssign) = refl
sign_of_infix (Between b.LogicalOr) = refl
sign_of_infix (Between b.LogicalAnd) = refl
sign_of_infix (Between b.Or) = refl
sign_of_infix (Between b.Xor) = refl
sign_of_infix (Between b.And) = refl
sign_of_infix (Between b.Equal) = refl
sign_of_infix (Between b.NotEqual) = refl
sign_of_infix (Between b.Less) = refl
sign_of_infix (Between b.Greater) = refl
sign_of_infix (Between b.LessEqual) = refl
sign_of_infix (Between b.GreaterEqual) = refl
sign_of_infix (Between b.ShiftLeft) = refl
sign_of_infix (Between b.ShiftRight) = refl
sign_of_infix (Between b.Add) = refl
sign_of_infix (Between b.Subtract) = refl
sign_of_infix (Between b.Multiply) = refl
sign_of_infix (Between b.Divide) = refl
sign_of_infix (Between b.Remainder) = refl
sign_of_infix Choice = refl
sign_of_infix Indexed = refl
sign_of_infix Called = refl
sign_of_infix Dotted = refl
sign_of_infix Arrowed = refl
sign_of_infix (Stepped step.Increment) = refl
sign_of_infix (Stepped step.Decrement) = refl

pub infix_of_sign : (q : Punct) (x : Infix) → infix_of q ≡ Some x → q ≡ infix_sign x
infix_of_sign p.Comma x e = let h : Between b.Comma ≡ x = cc in rw (← h) refl
infix_of_sign p.Assign x e = let h : Between b.Assign ≡ x = cc in rw (← h) refl
infix_of_sign p.MultiplyAssign x e = let h : Between b.MultiplyAssign ≡ x = cc in rw (← h) refl
infix_of_sign p.DivideAssign x e = let h : Between b.DivideAssign ≡ x = cc in rw (← h) refl
infix_of_sign p.RemainderAssign x e = let h : Between b.RemainderAssign ≡ x = cc in rw (← h) refl
infix_of_sign p.AddAssign x e = let h : Between b.AddAssign ≡ x = cc in rw (← h) refl
infix_of_sign p.SubtractAssign x e = let h : Between b.SubtractAssign ≡ x = cc in rw (← h) refl
infix_of_sign p.ShiftLeftAssign x e = let h : Between b.ShiftLeftAssign ≡ x = cc in rw (← h) refl
infix_of_sign p.ShiftRightAssign x e = let h : Between b.ShiftRightAssign ≡ x = cc in rw (← h) refl
infix_of_sign p.AndAssign x e = let h : Between b.AndAssign ≡ x = cc in rw (← h) refl
infix_of_sign p.XorAssign x e = let h : Between b.XorAssign ≡ x = cc in rw (← h) refl
infix_of_sign p.OrAssign x e = let h : Between b.OrAssign ≡ x = cc in rw (← h) refl
infix_of_sign p.LogicalOr x e = let h : Between b.LogicalOr ≡ x = cc in rw (← h) refl
infix_of_sign p.LogicalAnd x e = let h : Between b.LogicalAnd ≡ x = cc in rw (← h) refl
infix_of_sign p.Bar x e = let h : Between b.Or ≡ x = cc in rw (← h) refl
infix_of_sign p.Caret x e = let h : Between b.Xor ≡ x = cc in rw (← h) refl
infix_of_sign p.Ampersand x e = let h : Between b.And ≡ x = cc in rw (← h) refl
infix_of_sign p.Equal x e = let h : Between b.Equal ≡ x = cc in rw (← h) refl
infix_of_sign p.NotEqual x e = let h : Between b.NotEqual ≡ x = cc in rw (← h) refl
infix_of_sign p.Less x e = let h : Between b.Less ≡ x = cc in rw (← h) refl
infix_of_sign p.Greater x e = let h : Between b.Greater ≡ x = cc in rw (← h) refl
infix_of_sign p.LessEqual x e = let h : Between b.LessEqual ≡ x = cc in rw (← h) refl
infix_of_sign p.GreaterEqual x e = let h : Between b.GreaterEqual ≡ x = cc in rw (← h) refl
infix_of_sign p.ShiftLeft x e = let h : Between b.ShiftLeft ≡ x = cc in rw (← h) refl
infix_of_sign p.ShiftRight x e = let h : Between b.ShiftRight ≡ x = cc in rw (← h) refl
infix_of_sign p.Plus x e = let h : Between b.Add ≡ x = cc in rw (← h) refl
infix_of_sign p.Minus x e = let h : Between b.Subtract ≡ x = cc in rw (← h) refl
infix_of_sign p.Star x e = let h : Between b.Multiply ≡ x = cc in rw (← h) refl
infix_of_sign p.Slash x e = let h : Between b.Divide ≡ x = cc in rw (← h) refl
infix_of_sign p.Percent x e = let h : Between b.Remainder ≡ x = cc in rw (← h) refl
infix_of_sign p.Question x e = let h : Choice ≡ x = cc in rw (← h) refl
infix_of_sign p.LeftBracket x e = let h : Indexed ≡ x = cc in rw (← h) refl
infix_of_sign p.LeftParenthesis x e = let h : Called ≡ x = cc in rw (← h) refl
infix_of_sign p.Dot x e = let h : Dotted ≡ x = cc in rw (← h) refl
infix_of_sign p.Arrow x e = let h : Arrowed ≡ x = cc in rw (← h) refl
infix_of_sign p.Increment x e = let h : Stepped step.Increment ≡ x = cc in rw (← h) refl
infix_of_sign p.Decrement x e = let h : Stepped step.Decrement ≡ x = cc in rw (← h) refl
infix_of_sign _ x e = cc

-- what is known of its levels
pub record Known (x : Infix) : Type 0 where
  pub level_max : infix_level x ≤ 15
  pub left_max : infix_left x ≤ 15
  pub left : infix_level x ≤ infix_left x
  pub loose : infix_left x ≤ 2 → infix_level x ≡ 0
  pub tight : infix_left x ≤ 14 → infix_level x ≤ 12
  pub gap : infix_level x ≤ 14 → infix_level x ≤ 12

pub known : (x : Infix) → Known x
known (Between b.Comma) = record { level_max = omega arith; left_max = omega arith; left = omega arith; loose = λ e. omega arith; tight = λ e. omega arith; gap = λ e. omega arith }
known (Between b.Assign) = record { level_max = omega arith; left_max = omega arith; left = omega arith; loose = λ e. omega arith; tight = λ e. omega arith; gap = λ e. omega arith }
known (Between b.MultiplyAssign) = record { level_max = omega arith; left_max = omega arith; left = omega arith; loose = λ e. omega arith; tight = λ e. omega arith; gap = λ e. omega arith }
known (Between b.DivideAssign) = record { level_max = omega arith; left_max = omega arith; left = omega arith; loose = λ e. omega arith; tight = λ e. omega arith; gap = λ e. omega arith }
known (Between b.RemainderAssign) = record { level_max = omega arith; left_max = omega arith; left = omega arith; loose = λ e. omega arith; tight = λ e. omega arith; gap = λ e. omega arith }
known (Between b.AddAssign) = record { level_max = omega arith; left_max = omega arith; left = omega arith; loose = λ e. omega arith; tight = λ e. omega arith; gap = λ e. omega arith }
known (Between b.SubtractAssign) = record { level_max = omega arith; left_max = omega arith; left = omega arith; loose = λ e. omega arith; tight = λ e. omega arith; gap = λ e. omega arith }
known (Between b.ShiftLeftAssign) = record { level_max = omega arith; left_max = omega arith; left = omega arith; loose = λ e. omega arith; tight = λ e. omega arith; gap = λ e. omega arith }
known (Between b.ShiftRightAssign) = record { level_max = omega arith; left_max = omega arith; left = omega arith; loose = λ e. omega arith; tight = λ e. omega arith; gap = λ e. omega arith }
known (Between b.AndAssign) = record { level_max = omega arith; left_max = omega arith; left = omega arith; loose = λ e. omega arith; tight = λ e. omega arith; gap = λ e. omega arith }
known (Between b.XorAssign) = record { level_max = omega arith; left_max = omega arith; left = omega arith; loose = λ e. omega arith; tight = λ e. omega arith; gap = λ e. omega arith }
known (Between b.OrAssign) = record { level_max = omega arith; left_max = omega arith; left = omega arith; loose = λ e. omega arith; tight = λ e. omega arith; gap = λ e. omega arith }
known (Between b.LogicalOr) = record { level_max = omega arith; left_max = omega arith; left = omega arith; loose = λ e. omega arith; tight = λ e. omega arith; gap = λ e. omega arith }
known (Between b.LogicalAnd) = record { level_max = omega arith; left_max = omega arith; left = omega arith; loose = λ e. omega arith; tight = λ e. omega arith; gap = λ e. omega arith }
known (Between b.Or) = record { level_max = omega arith; left_max = omega arith; left = omega arith; loose = λ e. omega arith; tight = λ e. omega arith; gap = λ e. omega arith }
known (Between b.Xor) = record { level_max = omega arith; left_max = omega arith; left = omega arith; loose = λ e. omega arith; tight = λ e. omega arith; gap = λ e. omega arith }
known (Between b.And) = record { level_max = omega arith; left_max = omega arith; left = omega arith; loose = λ e. omega arith; tight = λ e. omega arith; gap = λ e. omega arith }
known (Between b.Equal) = record { level_max = omega arith; left_max = omega arith; left = omega arith; loose = λ e. omega arith; tight = λ e. omega arith; gap = λ e. omega arith }
known (Between b.NotEqual) = record { level_max = omega arith; left_max = omega arith; left = omega arith; loose = λ e. omega arith; tight = λ e. omega arith; gap = λ e. omega arith }
known (Between b.Less) = record { level_max = omega arith; left_max = omega arith; left = omega arith; loose = λ e. omega arith; tight = λ e. omega arith; gap = λ e. omega arith }
known (Between b.Greater) = record { level_max = omega arith; left_max = omega arith; left = omega arith; loose = λ e. omega arith; tight = λ e. omega arith; gap = λ e. omega arith }
known (Between b.LessEqual) = record { level_max = omega arith; left_max = omega arith; left = omega arith; loose = λ e. omega arith; tight = λ e. omega arith; gap = λ e. omega arith }
known (Between b.GreaterEqual) = record { level_max = omega arith; left_max = omega arith; left = omega arith; loose = λ e. omega arith; tight = λ e. omega arith; gap = λ e. omega arith }
known (Between b.ShiftLeft) = record { level_max = omega arith; left_max = omega arith; left = omega arith; loose = λ e. omega arith; tight = λ e. omega arith; gap = λ e. omega arith }
known (Between b.ShiftRight) = record { level_max = omega arith; left_max = omega arith; left = omega arith; loose = λ e. omega arith; tight = λ e. omega arith; gap = λ e. omega arith }
known (Between b.Add) = record { level_max = omega arith; left_max = omega arith; left = omega arith; loose = λ e. omega arith; tight = λ e. omega arith; gap = λ e. omega arith }
known (Between b.Subtract) = record { level_max = omega arith; left_max = omega arith; left = omega arith; loose = λ e. omega arith; tight = λ e. omega arith; gap = λ e. omega arith }
known (Between b.Multiply) = record { level_max = omega arith; left_max = omega arith; left = omega arith; loose = λ e. omega arith; tight = λ e. omega arith; gap = λ e. omega arith }
known (Between b.Divide) = record { level_max = omega arith; left_max = omega arith; left = omega arith; loose = λ e. omega arith; tight = λ e. omega arith; gap = λ e. omega arith }
known (Between b.Remainder) = record { level_max = omega arith; left_max = omega arith; left = omega arith; loose = λ e. omega arith; tight = λ e. omega arith; gap = λ e. omega arith }
known Choice = record { level_max = omega arith; left_max = omega arith; left = omega arith; loose = λ e. omega arith; tight = λ e. omega arith; gap = λ e. omega arith }
known Indexed = record { level_max = omega arith; left_max = omega arith; left = omega arith; loose = λ e. omega arith; tight = λ e. omega arith; gap = λ e. omega arith }
known Called = record { level_max = omega arith; left_max = omega arith; left = omega arith; loose = λ e. omega arith; tight = λ e. omega arith; gap = λ e. omega arith }
known Dotted = record { level_max = omega arith; left_max = omega arith; left = omega arith; loose = λ e. omega arith; tight = λ e. omega arith; gap = λ e. omega arith }
known Arrowed = record { level_max = omega arith; left_max = omega arith; left = omega arith; loose = λ e. omega arith; tight = λ e. omega arith; gap = λ e. omega arith }
known (Stepped s) = record { level_max = omega arith; left_max = omega arith; left = omega arith; loose = λ e. omega arith; tight = λ e. omega arith; gap = λ e. omega arith }

abbrev pub follow_by : Option Infix → ℕ
follow_by None = 0
follow_by (Some x) = suc (infix_level x)

-- a token goes on behind an expression of the nonterminals below this number
abbrev pub follow_kind : Kind → ℕ
follow_kind (kind.Text bytes) = 17
follow_kind (kind.Punct x) = follow_by (infix_of x)
follow_kind _ = 0

abbrev pub follow : Option Token → ℕ
follow None = 0
follow (Some t) = follow_kind t.kind

-- no next token goes on behind an expression of this nonterminal
abbrev pub Quiet : ℕ → Cursor → Type 0
Quiet level c = follow (head c.ahead) ≤ level

-- the nonterminal of the last operand, or a number above all where nothing goes on in it
abbrev pub right_of : ExprTree → ℕ
right_of (Text bytes a z) = 16
right_of (Prefix op of a z) = prefix_level op
right_of (SizeofExpr of a z) = unary_level
right_of (Cast wanted of a z) = cast_level
right_of (Binary op left right a z) = right_level op
right_of (Conditional test when_true when_false a z) = cond_level
right_of _ = 17

-- the last operand ends here
abbrev pub Calm : ExprTree → Cursor → Type 0
Calm t c = follow (head c.ahead) ≤ right_of t

follow_by_gap : (o : Option Infix) → follow_by o ≤ 15 → follow_by o ≤ 13
follow_by_gap None h = omega arith
follow_by_gap (Some x) h = let k = (known x).gap (omega (arith, h)) in omega (arith, k)

follow_kind_gap : (k : Kind) → follow_kind k ≤ 15 → follow_kind k ≤ 13
follow_kind_gap (kind.Text bytes) h = absurd (omega (arith, h))
follow_kind_gap (kind.Punct x) h = follow_by_gap (infix_of x) h
follow_kind_gap (kind.Name n) h = omega arith
follow_kind_gap (kind.Keyword x) h = omega arith
follow_kind_gap (kind.Integer value decimal unsigned long) h = omega arith
follow_kind_gap (kind.Character value) h = omega arith
follow_kind_gap (kind.Include x) h = omega arith

follow_gap : (h : Option Token) → follow h ≤ 15 → follow h ≤ 13
follow_gap None e = omega arith
follow_gap (Some t) e = follow_kind_gap t.kind e

prefix_tight : (op : PrefixOperator) → 13 ≤ prefix_level op
prefix_tight prefix.Increment = omega arith
prefix_tight prefix.Decrement = omega arith
prefix_tight prefix.Address = omega arith
prefix_tight prefix.Indirection = omega arith
prefix_tight prefix.Plus = omega arith
prefix_tight prefix.Minus = omega arith
prefix_tight prefix.Complement = omega arith
prefix_tight prefix.Not = omega arith

calm_by : (t : ExprTree) (level n : ℕ) → level ≤ tree_level t → n ≤ level → (n ≤ 15 → n ≤ 13) → n ≤ right_of t
calm_by (Identifier name a z) level n k h g = omega (arith, k, h)
calm_by (Integer value decimal unsigned long a z) level n k h g = omega (arith, k, h)
calm_by (Character value a z) level n k h g = omega (arith, k, h)
calm_by (Text bytes a z) level n k h g = omega (arith, k, h)
calm_by (Paren inner a z) level n k h g = omega (arith, k, h)
calm_by (Index of at a z) level n k h g = omega (arith, k, h)
calm_by (Call of arguments a z) level n k h g = omega (arith, k, h)
calm_by (Dot of member a z) level n k h g = omega (arith, k, h)
calm_by (Arrow of member a z) level n k h g = omega (arith, k, h)
calm_by (Postfix op of a z) level n k h g = omega (arith, k, h)
calm_by (Prefix op of a z) level n k h g = let q = prefix_tight op in let r = g (omega (arith, k, h)) in omega (arith, q, r)
calm_by (SizeofExpr of a z) level n k h g = omega (arith, k, h)
calm_by (SizeofType of a z) level n k h g = omega (arith, k, h)
calm_by (Cast wanted of a z) level n k h g = omega (arith, k, h)
calm_by (Binary op left right a z) level n k h g = let q = levels op in omega (arith, k, h, q)
calm_by (Conditional test when_true when_false a z) level n k h g = omega (arith, k, h)

pub calm_of : (t : ExprTree) (level : ℕ) (c : Cursor) → level ≤ tree_level t → Quiet level c → Calm t c
calm_of t level c k h = calm_by t level (follow (head c.ahead)) k h (follow_gap (head c.ahead))

binary_behind : (op : BinaryOperator) (x : Infix) (b : Bool) → eqb (level_of op) 1 ≡ b → infix_left x ≤ level_of op → suc (infix_level x) ≤ right_level op
binary_behind op x true e h = let one = eqb-true (level_of op) 1 e in let q = known x in let r = ((levels op).right_one one).1 in let z = q.loose (omega (arith, one, h)) in omega (arith, r, z)
binary_behind op x false e h = let q = known x in let r = ((levels op).right_next (λ y. let bad : true ≡ false = sym (eq-eqb (level_of op) 1 y) ∙ e in cc)).1 in omega (arith, r, q, h)

behind_by : (t : ExprTree) (x : Infix) → infix_left x ≤ tree_level t → suc (infix_level x) ≤ right_of t
behind_by (Identifier name a z) x k = let q = known x in omega (arith, q)
behind_by (Integer value decimal unsigned long a z) x k = let q = known x in omega (arith, q)
behind_by (Character value a z) x k = let q = known x in omega (arith, q)
behind_by (Text bytes a z) x k = let q = known x in omega (arith, q)
behind_by (Paren inner a z) x k = let q = known x in omega (arith, q)
behind_by (Index of at a z) x k = let q = known x in omega (arith, q)
behind_by (Call of arguments a z) x k = let q = known x in omega (arith, q)
behind_by (Dot of member a z) x k = let q = known x in omega (arith, q)
behind_by (Arrow of member a z) x k = let q = known x in omega (arith, q)
behind_by (Postfix op of a z) x k = let q = known x in omega (arith, q)
behind_by (Prefix op of a z) x k = let q = known x in let r = q.tight (omega (arith, k)) in let y = prefix_tight op in omega (arith, r, y)
behind_by (SizeofExpr of a z) x k = let q = known x in let r = q.tight (omega (arith, k)) in omega (arith, r)
behind_by (SizeofType of a z) x k = let q = known x in omega (arith, q)
behind_by (Cast wanted of a z) x k = let q = known x in let r = q.tight (omega (arith, k)) in omega (arith, r)
behind_by (Binary op left right a z) x k = binary_behind op x (eqb (level_of op) 1) refl k
behind_by (Conditional test when_true when_false a z) x k = let q = known x in let r = q.loose (omega (arith, k)) in omega (arith, r)

follow_sign : (x : Infix) (c d : Cursor) → Mark (infix_sign x) c d → follow (head c.ahead) ≡ suc (infix_level x)
follow_sign x c d h = rw ((h.takes).ahead, sign_of_infix x) refl

-- in front of an operator, which goes on behind the whole tree
pub calm_behind : (t : ExprTree) (x : Infix) (c d : Cursor) → infix_left x ≤ tree_level t → Mark (infix_sign x) c d → Calm t c
calm_behind t x c d k h = let e = follow_sign x c d h in let q = behind_by t x k in omega (arith, e, q)

-- in front of a mark that goes on behind nothing
pub quiet_mark : (x : Punct) (level : ℕ) (c d : Cursor) → infix_of x ≡ None → Mark x c d → Quiet level c
quiet_mark x level c d e h = let q : follow (head c.ahead) ≡ 0 = rw ((h.takes).ahead, e) refl in omega (arith, q)

pub quiet_comma : (level : ℕ) (c d : Cursor) → 1 ≤ level → Mark p.Comma c d → Quiet level c
quiet_comma level c d l h = let q = follow_sign (Between b.Comma) c d h in omega (arith, q, l)

pub follow_of : (x : Infix) (t : Token) → infix_in t.kind ≡ Some x → follow (Some t) ≡ suc (infix_level x)
follow_of x t e = by_kind t.kind e
  where
    by_kind : (k : Kind) → infix_in k ≡ Some x → follow_kind k ≡ suc (infix_level x)
    by_kind (kind.Punct y) q = ap follow_by q
    by_kind _ q = cc
