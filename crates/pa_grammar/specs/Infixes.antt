-- Operators that go on behind an operand, and how tightly they bind.
use Rattle.std.specs.Prelude.{ℕ, suc, Option, Some, None}
use Rattle.pa_lex.specs.declared.token.Kind.{Kind}
use Rattle.pa_lex.specs.declared.token.Kind.TheVariants as kind
use Rattle.pa_lex.specs.declared.token.Punct.{Punct}
use Rattle.pa_lex.specs.declared.token.Punct.TheVariants as p
use Rattle.pa_tree.specs.declared.operator.Step.{Step}
use Rattle.pa_tree.specs.declared.operator.Step.TheVariants as step
use Rattle.pa_tree.specs.declared.operator.BinaryOperator.{BinaryOperator}
use Rattle.pa_tree.specs.declared.operator.BinaryOperator.TheVariants as b
use Rattle.pa_tree.specs.Operators.{cond_level, cast_level, unary_level, postfix_level, level_of, left_level, sign, step_sign}
use Rattle.pa_tree.specs.Exprs.{ExprTree, Cast, Prefix, SizeofExpr, SizeofType, Binary, Conditional}

-- what may stand behind an operand: an operator between two, `?`, `[`, `(`, `.`, `->`, `++` or `--`
pub data Infix : Type 0 where
  Between : BinaryOperator → Infix
  Choice : Infix
  Indexed : Infix
  Called : Infix
  Dotted : Infix
  Arrowed : Infix
  Stepped : Step → Infix

abbrev pub infix_of : Punct → Option Infix
infix_of p.Question = Some Choice
infix_of p.LeftBracket = Some Indexed
infix_of p.LeftParenthesis = Some Called
infix_of p.Dot = Some Dotted
infix_of p.Arrow = Some Arrowed
infix_of p.Increment = Some (Stepped step.Increment)
infix_of p.Decrement = Some (Stepped step.Decrement)
infix_of p.Comma = Some (Between b.Comma)
infix_of p.Assign = Some (Between b.Assign)
infix_of p.MultiplyAssign = Some (Between b.MultiplyAssign)
infix_of p.DivideAssign = Some (Between b.DivideAssign)
infix_of p.RemainderAssign = Some (Between b.RemainderAssign)
infix_of p.AddAssign = Some (Between b.AddAssign)
infix_of p.SubtractAssign = Some (Between b.SubtractAssign)
infix_of p.ShiftLeftAssign = Some (Between b.ShiftLeftAssign)
infix_of p.ShiftRightAssign = Some (Between b.ShiftRightAssign)
infix_of p.AndAssign = Some (Between b.AndAssign)
infix_of p.XorAssign = Some (Between b.XorAssign)
infix_of p.OrAssign = Some (Between b.OrAssign)
infix_of p.LogicalOr = Some (Between b.LogicalOr)
infix_of p.LogicalAnd = Some (Between b.LogicalAnd)
infix_of p.Bar = Some (Between b.Or)
infix_of p.Caret = Some (Between b.Xor)
infix_of p.Ampersand = Some (Between b.And)
infix_of p.Equal = Some (Between b.Equal)
infix_of p.NotEqual = Some (Between b.NotEqual)
infix_of p.Less = Some (Between b.Less)
infix_of p.Greater = Some (Between b.Greater)
infix_of p.LessEqual = Some (Between b.LessEqual)
infix_of p.GreaterEqual = Some (Between b.GreaterEqual)
infix_of p.ShiftLeft = Some (Between b.ShiftLeft)
infix_of p.ShiftRight = Some (Between b.ShiftRight)
infix_of p.Plus = Some (Between b.Add)
infix_of p.Minus = Some (Between b.Subtract)
infix_of p.Star = Some (Between b.Multiply)
infix_of p.Slash = Some (Between b.Divide)
infix_of p.Percent = Some (Between b.Remainder)
infix_of _ = None

abbrev pub infix_in : Kind → Option Infix
infix_in (kind.Punct x) = infix_of x
infix_in _ = None

abbrev pub infix_sign : Infix → Punct
infix_sign (Between op) = sign op
infix_sign Choice = p.Question
infix_sign Indexed = p.LeftBracket
infix_sign Called = p.LeftParenthesis
infix_sign Dotted = p.Dot
infix_sign Arrowed = p.Arrow
infix_sign (Stepped s) = step_sign s

-- the nonterminal that has it, by its number
abbrev pub infix_level : Infix → ℕ
infix_level (Between op) = level_of op
infix_level Choice = cond_level
infix_level _ = postfix_level

-- the nonterminal of its left operand
abbrev pub infix_left : Infix → ℕ
infix_left (Between op) = left_level op
infix_left Choice = suc cond_level
infix_left _ = postfix_level

-- the tightest nonterminal that the tree is a case of
abbrev pub tree_level : ExprTree → ℕ
tree_level (Prefix op of a z) = unary_level
tree_level (SizeofExpr of a z) = unary_level
tree_level (SizeofType of a z) = unary_level
tree_level (Cast wanted of a z) = cast_level
tree_level (Binary op left right a z) = level_of op
tree_level (Conditional test when_true when_false a z) = cond_level
tree_level _ = postfix_level
