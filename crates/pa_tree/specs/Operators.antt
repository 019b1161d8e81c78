-- How tightly the operators of C bind (C11 6.5), and their tokens.
use Rattle.std.specs.Prelude.{ℕ, suc, ◌+◌, Bool, true, false, ◌&&◌, ◌==◌, nat_le, if◌then◌else◌, List, [], ◌∷◌, Option, Some, None}
use Rattle.pa_lex.specs.declared.token.Punct.{Punct}
use Rattle.pa_lex.specs.declared.token.Punct.TheVariants as p
use Rattle.pa_lex.specs.declared.token.Keyword.{Keyword}
use Rattle.pa_lex.specs.declared.token.Keyword.TheVariants as w
use Rattle.pa_tree.specs.declared.operator.Step.{Step}
use Rattle.pa_tree.specs.declared.operator.Step.TheVariants as step
use Rattle.pa_tree.specs.declared.operator.PrefixOperator.{PrefixOperator}
use Rattle.pa_tree.specs.declared.operator.PrefixOperator.TheVariants as prefix
use Rattle.pa_tree.specs.declared.operator.BinaryOperator.{BinaryOperator}
use Rattle.pa_tree.specs.declared.operator.BinaryOperator.TheVariants as b
use Rattle.pa_tree.specs.declared.operator.IntegerWord.{IntegerWord}
use Rattle.pa_tree.specs.declared.operator.IntegerWord.TheVariants as word

-- the nonterminals of C11 6.5.1 to 6.5.17 and 6.6 by numbers, the loosest first: 0 expression, 1 assignment, 2 conditional,
-- 3 logical or, 4 logical and, 5 or, 6 xor, 7 and, 8 equality, 9 relational, 10 shift, 11 additive, 12 multiplicative, 13 cast,
-- 14 unary, 15 postfix
abbrev pub cond_level : ℕ
cond_level = 2

abbrev pub cast_level : ℕ
cast_level = 13

abbrev pub unary_level : ℕ
unary_level = 14

abbrev pub postfix_level : ℕ
postfix_level = 15

-- the nonterminal that has the operator
abbrev pub level_of : BinaryOperator → ℕ
level_of b.Comma = 0
level_of b.LogicalOr = 3
level_of b.LogicalAnd = 4
level_of b.Or = 5
level_of b.Xor = 6
level_of b.And = 7
level_of b.Equal = 8
level_of b.NotEqual = 8
level_of b.Less = 9
level_of b.Greater = 9
level_of b.LessEqual = 9
level_of b.GreaterEqual = 9
level_of b.ShiftLeft = 10
level_of b.ShiftRight = 10
level_of b.Add = 11
level_of b.Subtract = 11
level_of b.Multiply = 12
level_of b.Divide = 12
level_of b.Remainder = 12
level_of _ = 1

abbrev left_from : ℕ → ℕ
left_from level = if level == 1 then unary_level else level

-- the nonterminal of its left operand: an assignment has a unary expression there, the others group from the left
abbrev pub left_level : BinaryOperator → ℕ
left_level op = left_from (level_of op)

abbrev right_from : ℕ → ℕ
right_from level = if level == 1 then 1 else level + 1

-- the nonterminal of its right operand: assignments group from the right
abbrev pub right_level : BinaryOperator → ℕ
right_level op = right_from (level_of op)

abbrev pub sign : BinaryOperator → Punct
sign b.Comma = p.Comma
sign b.Assign = p.Assign
sign b.MultiplyAssign = p.MultiplyAssign
sign b.DivideAssign = p.DivideAssign
sign b.RemainderAssign = p.RemainderAssign
sign b.AddAssign = p.AddAssign
sign b.SubtractAssign = p.SubtractAssign
sign b.ShiftLeftAssign = p.ShiftLeftAssign
sign b.ShiftRightAssign = p.ShiftRightAssign
sign b.AndAssign = p.AndAssign
sign b.XorAssign = p.XorAssign
sign b.OrAssign = p.OrAssign
sign b.LogicalOr = p.LogicalOr
sign b.LogicalAnd = p.LogicalAnd
sign b.Or = p.Bar
sign b.Xor = p.Caret
sign b.And = p.Ampersand
sign b.Equal = p.Equal
sign b.NotEqual = p.NotEqual
sign b.Less = p.Less
sign b.Greater = p.Greater
sign b.LessEqual = p.LessEqual
sign b.GreaterEqual = p.GreaterEqual
sign b.ShiftLeft = p.ShiftLeft
sign b.ShiftRight = p.ShiftRight
sign b.Add = p.Plus
sign b.Subtract = p.Minus
sign b.Multiply = p.Star
sign b.Divide = p.Slash
sign b.Remainder = p.Percent

abbrev pub step_sign : Step → Punct
step_sign step.Increment = p.Increment
step_sign step.Decrement = p.Decrement

abbrev pub prefix_sign : PrefixOperator → Punct
prefix_sign prefix.Increment = p.Increment
prefix_sign prefix.Decrement = p.Decrement
prefix_sign prefix.Address = p.Ampersand
prefix_sign prefix.Indirection = p.Star
prefix_sign prefix.Plus = p.Plus
prefix_sign prefix.Minus = p.Minus
prefix_sign prefix.Complement = p.Tilde
prefix_sign prefix.Not = p.Exclamation

-- the nonterminal of the operand behind it
abbrev pub prefix_level : PrefixOperator → ℕ
prefix_level prefix.Increment = unary_level
prefix_level prefix.Decrement = unary_level
prefix_level _ = cast_level

abbrev pub word_of : IntegerWord → Keyword
word_of word.Char = w.Char
word_of word.Short = w.Short
word_of word.Int = w.Int
word_of word.Long = w.Long
word_of word.Signed = w.Signed
word_of word.Unsigned = w.Unsigned

-- how often each word of an integer type stands in a list
pub record Words : Type 0 where
  pub chars : ℕ
  pub shorts : ℕ
  pub ints : ℕ
  pub longs : ℕ
  pub signs : ℕ

abbrev pub no_words : Words
no_words = record { chars = 0; shorts = 0; ints = 0; longs = 0; signs = 0 }

abbrev pub with_word : Words → IntegerWord → Words
with_word n word.Char = record n { chars = suc n.chars }
with_word n word.Short = record n { shorts = suc n.shorts }
with_word n word.Int = record n { ints = suc n.ints }
with_word n word.Long = record n { longs = suc n.longs }
with_word n word.Signed = record n { signs = suc n.signs }
with_word n word.Unsigned = record n { signs = suc n.signs }

-- no word stands too often or beside one that it does not go with
abbrev pub is_integer_type : Words → Bool
is_integer_type n =
    nat_le n.signs 1
    && (if n.chars == 0 then nat_le n.ints 1 && (if n.shorts == 0 then nat_le n.longs 2 else n.shorts == 1 && n.longs == 0)
    else n.chars == 1 && (n.ints == 0 && (n.shorts == 0 && n.longs == 0)))

-- each word goes with those before it
abbrev pub goes_with : Words → List IntegerWord → Bool
goes_with n [] = true
goes_with n (x ∷ xs) = is_integer_type (with_word n x) && goes_with (with_word n x) xs

-- the words are a list of C11 6.7.2 for an integer type, in some order
abbrev pub are_integer_type : List IntegerWord → Bool
are_integer_type [] = false
are_integer_type (x ∷ xs) = goes_with no_words (x ∷ xs)

-- the operator between operands that a punctuator is
abbrev pub operator_of : Punct → Option BinaryOperator
operator_of p.Comma = Some b.Comma
operator_of p.Assign = Some b.Assign
operator_of p.MultiplyAssign = Some b.MultiplyAssign
operator_of p.DivideAssign = Some b.DivideAssign
operator_of p.RemainderAssign = Some b.RemainderAssign
operator_of p.AddAssign = Some b.AddAssign
operator_of p.SubtractAssign = Some b.SubtractAssign
operator_of p.ShiftLeftAssign = Some b.ShiftLeftAssign
operator_of p.ShiftRightAssign = Some b.ShiftRightAssign
operator_of p.AndAssign = Some b.AndAssign
operator_of p.XorAssign = Some b.XorAssign
operator_of p.OrAssign = Some b.OrAssign
operator_of p.LogicalOr = Some b.LogicalOr
operator_of p.LogicalAnd = Some b.LogicalAnd
operator_of p.Bar = Some b.Or
operator_of p.Caret = Some b.Xor
operator_of p.Ampersand = Some b.And
operator_of p.Equal = Some b.Equal
operator_of p.NotEqual = Some b.NotEqual
operator_of p.Less = Some b.Less
operator_of p.Greater = Some b.Greater
operator_of p.LessEqual = Some b.LessEqual
operator_of p.GreaterEqual = Some b.GreaterEqual
operator_of p.ShiftLeft = Some b.ShiftLeft
operator_of p.ShiftRight = Some b.ShiftRight
operator_of p.Plus = Some b.Add
operator_of p.Minus = Some b.Subtract
operator_of p.Star = Some b.Multiply
operator_of p.Slash = Some b.Divide
operator_of p.Percent = Some b.Remainder
operator_of _ = None

-- the operator in front of an operand that a punctuator is
abbrev pub prefix_of : Punct → Option PrefixOperator
prefix_of p.Increment = Some prefix.Increment
prefix_of p.Decrement = Some prefix.Decrement
prefix_of p.Ampersand = Some prefix.Address
prefix_of p.Star = Some prefix.Indirection
prefix_of p.Plus = Some prefix.Plus
prefix_of p.Minus = Some prefix.Minus
prefix_of p.Tilde = Some prefix.Complement
prefix_of p.Exclamation = Some prefix.Not
prefix_of _ = None

-- the word of an integer type that a keyword is
abbrev pub word_in : Keyword → Option IntegerWord
word_in w.Char = Some word.Char
word_in w.Short = Some word.Short
word_in w.Int = Some word.Int
word_in w.Long = Some word.Long
word_in w.Signed = Some word.Signed
word_in w.Unsigned = Some word.Unsigned
word_in _ = None
