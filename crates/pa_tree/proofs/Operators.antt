-- Operators and their tokens, both ways.
use Rattle.std.proofs.Common.{◌≡◌, ◌≤◌, suc, Some, refl, arith}
use Rattle.pa_lex.specs.declared.token.Punct.{Punct}
use Rattle.pa_lex.specs.declared.token.Punct.TheVariants as p
use Rattle.pa_lex.specs.declared.token.Keyword.{Keyword}
use Rattle.pa_lex.specs.declared.token.Keyword.TheVariants as w
use Rattle.pa_tree.specs.declared.operator.PrefixOperator.{PrefixOperator}
use Rattle.pa_tree.specs.declared.operator.PrefixOperator.TheVariants as prefix
use Rattle.pa_tree.specs.declared.operator.BinaryOperator.{BinaryOperator}
use Rattle.pa_tree.specs.declared.operator.BinaryOperator.TheVariants as b
use Rattle.pa_tree.specs.declared.operator.IntegerWord.{IntegerWord}
use Rattle.pa_tree.specs.declared.operator.IntegerWord.TheVariants as word
use Rattle.pa_tree.specs.Operators.{level_of, left_level, right_level, sign, operator_of, prefix_sign, prefix_of, word_of, word_in}

pub operator_of_sign : (op : BinaryOperator) → operator_of (sign op) ≡ Some op
operator_of_sign b.Comma = refl
operator_of_sign b.Assign = refl
operator_of_sign b.MultiplyAssign = refl
operator_of_sign b.DivideAssign = refl
operator_of_sign b.RemainderAssign = refl
operator_of_sign b.AddAssign = refl
operator_of_sign b.SubtractAssign = refl
operator_of_sign b.ShiftLeftAssign = refl
operator_of_sign b.ShiftRightAssign = refl
operator_of_sign b.AndAssign = refl
operator_of_sign b.XorAssign = refl
operator_of_sign b.OrAssign = refl
operator_of_sign b.LogicalOr = refl
operator_of_sign b.LogicalAnd = refl
operator_of_sign b.Or = refl
operator_of_sign b.Xor = refl
operator_of_sign b.And = refl
operator_of_sign b.Equal = refl
operator_of_sign b.NotEqual = refl
operator_of_sign b.Less = refl
operator_of_sign b.Greater = refl
operator_of_sign b.LessEqual = refl
operator_of_sign b.GreaterEqual = refl
operator_of_sign b.ShiftLeft = refl
operator_of_sign b.ShiftRight = refl
operator_of_sign b.Add = refl
operator_of_sign b.Subtract = refl
operator_of_sign b.Multiply = refl
operator_of_sign b.Divide = refl
operator_of_sign b.Remainder = refl

pub sign_of_operator : (x : Punct) (op : BinaryOperator) → operator_of x ≡ Some op → x ≡ sign op
sign_of_operator p.Comma op e = let h : b.Comma ≡ op = cc in rw (← h) refl
sign_of_operator p.Assign op e = let h : b.Assign ≡ op = cc in rw (← h) refl
sign_of_operator p.MultiplyAssign op e = let h : b.MultiplyAssign ≡ op = cc in rw (← h) refl
sign_of_operator p.DivideAssign op e = let h : b.DivideAssign ≡ op = cc in rw (← h) refl
sign_of_operator p.RemainderAssign op e = let h : b.RemainderAssign ≡ op = cc in rw (← h) refl
sign_of_operator p.AddAssign op e = let h : b.AddAssign ≡ op = cc in rw (← h) refl
sign_of_operator p.SubtractAssign op e = let h : b.SubtractAssign ≡ op = cc in rw (← h) refl
sign_of_operator p.ShiftLeftAssign op e = let h : b.ShiftLeftAssign ≡ op = cc in rw (← h) refl
sign_of_operator p.ShiftRightAssign op e = let h : b.ShiftRightAssign ≡ op = cc in rw (← h) refl
sign_of_operator p.AndAssign op e = let h : b.AndAssign ≡ op = cc in rw (← h) refl
sign_of_operator p.XorAssign op e = let h : b.XorAssign ≡ op = cc in rw (← h) refl
sign_of_operator p.OrAssign op e = let h : b.OrAssign ≡ op = cc in rw (← h) refl
sign_of_operator p.LogicalOr op e = let h : b.LogicalOr ≡ op = cc in rw (← h) refl
sign_of_operator p.LogicalAnd op e = let h : b.LogicalAnd ≡ op = cc in rw (← h) refl
sign_of_operator p.Bar op e = let h : b.Or ≡ op = cc in rw (← h) refl
sign_of_operator p.Caret op e = let h : b.Xor ≡ op = cc in rw (← h) refl
sign_of_operator p.Ampersand op e = let h : b.And ≡ op = cc in rw (← h) refl
sign_of_operator p.Equal op e = let h : b.Equal ≡ op = cc in rw (← h) refl
sign_of_operator p.NotEqual op e = let h : b.NotEqual ≡ op = cc in rw (← h) refl
sign_of_operator p.Less op e = let h : b.Less ≡ op = cc in rw (← h) refl
sign_of_operator p.Greater op e = let h : b.Greater ≡ op = cc in rw (← h) refl
sign_of_operator p.LessEqual op e = let h : b.LessEqual ≡ op = cc in rw (← h) refl
sign_of_operator p.GreaterEqual op e = let h : b.GreaterEqual ≡ op = cc in rw (← h) refl
sign_of_operator p.ShiftLeft op e = let h : b.ShiftLeft ≡ op = cc in rw (← h) refl
sign_of_operator p.ShiftRight op e = let h : b.ShiftRight ≡ op = cc in rw (← h) refl
sign_of_operator p.Plus op e = let h : b.Add ≡ op = cc in rw (← h) refl
sign_of_operator p.Minus op e = let h : b.Subtract ≡ op = cc in rw (← h) refl
sign_of_operator p.Star op e = let h : b.Multiply ≡ op = cc in rw (← h) refl
sign_of_operator p.Slash op e = let h : b.Divide ≡ op = cc in rw (← h) refl
sign_of_operator p.Percent op e = let h : b.Remainder ≡ op = cc in rw (← h) refl
sign_of_operator _ op e = cc

pub prefix_of_sign : (op : PrefixOperator) → prefix_of (prefix_sign op) ≡ Some op
prefix_of_sign prefix.Increment = refl
prefix_of_sign prefix.Decrement = refl
prefix_of_sign prefix.Address = refl
prefix_of_sign prefix.Indirection = refl
prefix_of_sign prefix.Plus = refl
prefix_of_sign prefix.Minus = refl
prefix_of_sign prefix.Complement = refl
prefix_of_sign prefix.Not = refl

pub sign_of_prefix : (x : Punct) (op : PrefixOperator) → prefix_of x ≡ Some op → x ≡ prefix_sign op
sign_of_prefix p.Increment op e = let h : prefix.Increment ≡ op = cc in rw (← h) refl
sign_of_prefix p.Decrement op e = let h : prefix.Decrement ≡ op = cc in rw (← h) refl
sign_of_prefix p.Ampersand op e = let h : prefix.Address ≡ op = cc in rw (← h) refl
sign_of_prefix p.Star op e = let h : prefix.Indirection ≡ op = cc in rw (← h) refl
sign_of_prefix p.Plus op e = let h : prefix.Plus ≡ op = cc in rw (← h) refl
sign_of_prefix p.Minus op e = let h : prefix.Minus ≡ op = cc in rw (← h) refl
sign_of_prefix p.Tilde op e = let h : prefix.Complement ≡ op = cc in rw (← h) refl
sign_of_prefix p.Exclamation op e = let h : prefix.Not ≡ op = cc in rw (← h) refl
sign_of_prefix _ op e = cc

pub word_in_of : (x : IntegerWord) → word_in (word_of x) ≡ Some x
word_in_of word.Char = refl
word_in_of word.Short = refl
word_in_of word.Int = refl
word_in_of word.Long = refl
word_in_of word.Signed = refl
word_in_of word.Unsigned = refl

pub word_of_in : (k : Keyword) (x : IntegerWord) → word_in k ≡ Some x → k ≡ word_of x
word_of_in w.Char x e = let h : word.Char ≡ x = cc in rw (← h) refl
word_of_in w.Short x e = let h : word.Short ≡ x = cc in rw (← h) refl
word_of_in w.Int x e = let h : word.Int ≡ x = cc in rw (← h) refl
word_of_in w.Long x e = let h : word.Long ≡ x = cc in rw (← h) refl
word_of_in w.Signed x e = let h : word.Signed ≡ x = cc in rw (← h) refl
word_of_in w.Unsigned x e = let h : word.Unsigned ≡ x = cc in rw (← h) refl
word_of_in _ x e = cc

-- what is known of an operator's levels
pub record Levels (op : BinaryOperator) : Type 0 where
  pub level_max : level_of op ≤ 12
  pub left_max : left_level op ≤ 14
  pub left : level_of op ≤ left_level op
  pub right : level_of op ≤ right_level op
  pub right_max : right_level op ≤ 13
  pub right_le : right_level op ≤ suc (level_of op)
  pub right_one : level_of op ≡ 1 → (left_level op ≡ 14) × (right_level op ≡ 1)
  pub right_next : (level_of op ≡ 1 → ⊥) → (left_level op ≡ level_of op) × (right_level op ≡ suc (level_of op))

pub levels : (op : BinaryOperator) → Levels op
levels b.Comma = record { level_max = omega arith; left_max = omega arith; left = omega arith; right = omega arith; right_max = omega arith; right_le = omega arith; right_one = λ e. absurd (omega (arith, e)); right_next = λ _. (refl, refl) }
levels b.Assign = record { level_max = omega arith; left_max = omega arith; left = omega arith; right = omega arith; right_max = omega arith; right_le = omega arith; right_one = λ _. (refl, refl); right_next = λ n. absurd (n refl) }
levels b.MultiplyAssign = record { level_max = omega arith; left_max = omega arith; left = omega arith; right = omega arith; right_max = omega arith; right_le = omega arith; right_one = λ _. (refl, refl); right_next = λ n. absurd (n refl) }
levels b.DivideAssign = record { level_max = omega arith; left_max = omega arith; left = omega arith; right = omega arith; right_max = omega arith; right_le = omega arith; right_one = λ _. (refl, refl); right_next = λ n. absurd (n refl) }
levels b.RemainderAssign = record { level_max = omega arith; left_max = omega arith; left = omega arith; right = omega arith; right_max = omega arith; right_le = omega arith; right_one = λ _. (refl, refl); right_next = λ n. absurd (n refl) }
levels b.AddAssign = record { level_max = omega arith; left_max = omega arith; left = omega arith; right = omega arith; right_max = omega arith; right_le = omega arith; right_one = λ _. (refl, refl); right_next = λ n. absurd (n refl) }
levels b.SubtractAssign = record { level_max = omega arith; left_max = omega arith; left = omega arith; right = omega arith; right_max = omega arith; right_le = omega arith; right_one = λ _. (refl, refl); right_next = λ n. absurd (n refl) }
levels b.ShiftLeftAssign = record { level_max = omega arith; left_max = omega arith; left = omega arith; right = omega arith; right_max = omega arith; right_le = omega arith; right_one = λ _. (refl, refl); right_next = λ n. absurd (n refl) }
levels b.ShiftRightAssign = record { level_max = omega arith; left_max = omega arith; left = omega arith; right = omega arith; right_max = omega arith; right_le = omega arith; right_one = λ _. (refl, refl); right_next = λ n. absurd (n refl) }
levels b.AndAssign = record { level_max = omega arith; left_max = omega arith; left = omega arith; right = omega arith; right_max = omega arith; right_le = omega arith; right_one = λ _. (refl, refl); right_next = λ n. absurd (n refl) }
levels b.XorAssign = record { level_max = omega arith; left_max = omega arith; left = omega arith; right = omega arith; right_max = omega arith; right_le = omega arith; right_one = λ _. (refl, refl); right_next = λ n. absurd (n refl) }
levels b.OrAssign = record { level_max = omega arith; left_max = omega arith; left = omega arith; right = omega arith; right_max = omega arith; right_le = omega arith; right_one = λ _. (refl, refl); right_next = λ n. absurd (n refl) }
levels b.LogicalOr = record { level_max = omega arith; left_max = omega arith; left = omega arith; right = omega arith; right_max = omega arith; right_le = omega arith; right_one = λ e. absurd (omega (arith, e)); right_next = λ _. (refl, refl) }
levels b.LogicalAnd = record { level_max = omega arith; left_max = omega arith; left = omega arith; right = omega arith; right_max = omega arith; right_le = omega arith; right_one = λ e. absurd (omega (arith, e)); right_next = λ _. (refl, refl) }
levels b.Or = record { level_max = omega arith; left_max = omega arith; left = omega arith; right = omega arith; right_max = omega arith; right_le = omega arith; right_one = λ e. absurd (omega (arith, e)); right_next = λ _. (refl, refl) }
levels b.Xor = record { level_max = omega arith; left_max = omega arith; left = omega arith; right = omega arith; right_max = omega arith; right_le = omega arith; right_one = λ e. absurd (omega (arith, e)); right_next = λ _. (refl, refl) }
levels b.And = record { level_max = omega arith; left_max = omega arith; left = omega arith; right = omega arith; right_max = omega arith; right_le = omega arith; right_one = λ e. absurd (omega (arith, e)); right_next = λ _. (refl, refl) }
levels b.Equal = record { level_max = omega arith; left_max = omega arith; left = omega arith; right = omega arith; right_max = omega arith; right_le = omega arith; right_one = λ e. absurd (omega (arith, e)); right_next = λ _. (refl, refl) }
levels b.NotEqual = record { level_max = omega arith; left_max = omega arith; left = omega arith; right = omega arith; right_max = omega arith; right_le = omega arith; right_one = λ e. absurd (omega (arith, e)); right_next = λ _. (refl, refl) }
levels b.Less = record { level_max = omega arith; left_max = omega arith; left = omega arith; right = omega arith; right_max = omega arith; right_le = omega arith; right_one = λ e. absurd (omega (arith, e)); right_next = λ _. (refl, refl) }
levels b.Greater = record { level_max = omega arith; left_max = omega arith; left = omega arith; right = omega arith; right_max = omega arith; right_le = omega arith; right_one = λ e. absurd (omega (arith, e)); right_next = λ _. (refl, refl) }
levels b.LessEqual = record { level_max = omega arith; left_max = omega arith; left = omega arith; right = omega arith; right_max = omega arith; right_le = omega arith; right_one = λ e. absurd (omega (arith, e)); right_next = λ _. (refl, refl) }
levels b.GreaterEqual = record { level_max = omega arith; left_max = omega arith; left = omega arith; right = omega arith; right_max = omega arith; right_le = omega arith; right_one = λ e. absurd (omega (arith, e)); right_next = λ _. (refl, refl) }
levels b.ShiftLeft = record { level_max = omega arith; left_max = omega arith; left = omega arith; right = omega arith; right_max = omega arith; right_le = omega arith; right_one = λ e. absurd (omega (arith, e)); right_next = λ _. (refl, refl) }
levels b.ShiftRight = record { level_max = omega arith; left_max = omega arith; left = omega arith; right = omega arith; right_max = omega arith; right_le = omega arith; right_one = λ e. absurd (omega (arith, e)); right_next = λ _. (refl, refl) }
levels b.Add = record { level_max = omega arith; left_max = omega arith; left = omega arith; right = omega arith; right_max = omega arith; right_le = omega arith; right_one = λ e. absurd (omega (arith, e)); right_next = λ _. (refl, refl) }
levels b.Subtract = record { level_max = omega arith; left_max = omega arith; left = omega arith; right = omega arith; right_max = omega arith; right_le = omega arith; right_one = λ e. absurd (omega (arith, e)); right_next = λ _. (refl, refl) }
levels b.Multiply = record { level_max = omega arith; left_max = omega arith; left = omega arith; right = omega arith; right_max = omega arith; right_le = omega arith; right_one = λ e. absurd (omega (arith, e)); right_next = λ _. (refl, refl) }
levels b.Divide = record { level_max = omega arith; left_max = omega arith; left = omega arith; right = omega arith; right_max = omega arith; right_le = omega arith; right_one = λ e. absurd (omega (arith, e)); right_next = λ _. (refl, refl) }
levels b.Remainder = record { level_max = omega arith; left_max = omega arith; left = omega arith; right = omega arith; right_max = omega arith; right_le = omega arith; right_one = λ e. absurd (omega (arith, e)); right_next = λ _. (refl, refl) }
