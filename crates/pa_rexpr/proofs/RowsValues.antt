-- The typed forms of operators on values, by hand.
use Rattle.std.proofs.Common.{◌≡◌, true, false, [], ◌∷◌, Ok, refl, codes}
use Rattle.pa_tree.specs.declared.operator.Step.TheVariants as step
use Rattle.pa_tree.specs.declared.operator.PrefixOperator.TheVariants as prefix
use Rattle.pa_tree.specs.declared.operator.BinaryOperator.TheVariants as op
use Rattle.pa_tree.specs.declared.operator.IntegerWord.TheVariants as word
use Rattle.pa_tree.specs.Exprs as tree
use Rattle.pa_ctype.specs.Types.{Of, Boolean, Integer}
use Rattle.pa_typed.specs.declared.expr.UnaryOperation.TheVariants as unary
use Rattle.pa_typed.specs.declared.expr.BinaryOperation.TheVariants as binary
use Rattle.pa_typed.specs.declared.expr.Comparison.TheVariants as comparison
use Rattle.pa_typed.specs.Typed.{Same, Number, Load, Store, AddressOf, Convert, Unary, Binary, PointerAdd, PointerSub, Compare, And, Choose, Comma}
use Rattle.pa_convert.specs.Conversions.{char, int, unsigned_int, long, pointer_to}
use Rattle.pa_rexpr.specs.Values.{value}
use Rattle.pa_rexpr.specs.Typing.{typing}
use Rattle.pa_rexpr.proofs.Computing.{computing}
use Rattle.pa_rexpr.proofs.Sample.{int_pointer, scope, c_place, x_place, l_place, p_place, a_place, b_place, one}
use Rattle.pa_rexpr.proofs.Spelled.{names}

-- five string literals that lie in memory stand in front of each

-- `l = x`
widened_row : typing (names (codes "l" ∷ codes "x" ∷ [])) scope 5 (tree.Binary op.Assign (tree.Identifier 8 0 1) (tree.Identifier 9 4 5) 0 5)
    ≡ Ok (value (Store l_place (Convert (Load x_place int) long) false long) long)
unfolding computing
widened_row = refl

-- `x + l`
sum_widened_row : typing (names (codes "x" ∷ codes "l" ∷ [])) scope 5 (tree.Binary op.Add (tree.Identifier 8 0 1) (tree.Identifier 9 4 5) 0 5)
    ≡ Ok (value (Binary binary.Add (Convert (Load x_place int) long) (Load l_place long) long) long)
unfolding computing
sum_widened_row = refl

-- `c + c`
sum_promoted_row : typing (names (codes "c" ∷ [])) scope 5 (tree.Binary op.Add (tree.Identifier 8 0 1) (tree.Identifier 8 4 5) 0 5)
    ≡ Ok (value (Binary binary.Add (Convert (Load c_place char) int) (Convert (Load c_place char) int) int) int)
unfolding computing
sum_promoted_row = refl

-- `c + l`
one_conversion_row : typing (names (codes "c" ∷ codes "l" ∷ [])) scope 5 (tree.Binary op.Add (tree.Identifier 8 0 1) (tree.Identifier 9 4 5) 0 5)
    ≡ Ok (value (Binary binary.Add (Convert (Load c_place char) long) (Load l_place long) long) long)
unfolding computing
one_conversion_row = refl

-- `x << l`
shift_promoted_row : typing (names (codes "x" ∷ codes "l" ∷ [])) scope 5 (tree.Binary op.ShiftLeft (tree.Identifier 8 0 1) (tree.Identifier 9 5 6) 0 6)
    ≡ Ok (value (Binary binary.ShiftLeft (Load x_place int) (Load l_place long) int) int)
unfolding computing
shift_promoted_row = refl

-- `x < 1u`
unsigned_comparison_row : typing (names (codes "x" ∷ [])) scope 5 (tree.Binary op.Less (tree.Identifier 8 0 1) (tree.Integer 1 true true false 4 6) 0 6)
    ≡ Ok (value (Compare comparison.Less (Convert (Load x_place int) unsigned_int) (Number 1 unsigned_int) int) int)
unfolding computing
unsigned_comparison_row = refl

-- `+c`
plus_alone_row : typing (names (codes "c" ∷ [])) scope 5 (tree.Prefix prefix.Plus (tree.Identifier 8 1 2) 0 2)
    ≡ Ok (value (Convert (Load c_place char) int) int)
unfolding computing
plus_alone_row = refl

-- `-x`
minus_row : typing (names (codes "x" ∷ [])) scope 5 (tree.Prefix prefix.Minus (tree.Identifier 8 1 2) 0 2)
    ≡ Ok (value (Unary unary.Minus (Load x_place int) int) int)
unfolding computing
minus_row = refl

-- `!p`
not_row : typing (names (codes "p" ∷ [])) scope 5 (tree.Prefix prefix.Not (tree.Identifier 8 1 2) 0 2)
    ≡ Ok (value (Unary unary.Not (Load p_place int_pointer) int) int)
unfolding computing
not_row = refl

-- `x++`
postfix_row : typing (names (codes "x" ∷ [])) scope 5 (tree.Postfix step.Increment (tree.Identifier 8 0 1) 0 3)
    ≡ Ok (value (Store x_place (Binary binary.Add (Load (Same int) int) one int) true int) int)
unfolding computing
postfix_row = refl

-- `--l`
prefix_long_row : typing (names (codes "l" ∷ [])) scope 5 (tree.Prefix prefix.Decrement (tree.Identifier 8 2 3) 0 3)
    ≡ Ok (value (Store l_place (Binary binary.Subtract (Load (Same long) long) (Convert one long) long) false long) long)
unfolding computing
prefix_long_row = refl

-- `c += l`
compound_row : typing (names (codes "c" ∷ codes "l" ∷ [])) scope 5 (tree.Binary op.AddAssign (tree.Identifier 8 0 1) (tree.Identifier 9 5 6) 0 6)
    ≡ Ok (value (Store c_place (Convert (Binary binary.Add (Convert (Load (Same char) char) long) (Load l_place long) long) char) false char) char)
unfolding computing
compound_row = refl

-- `p++`
pointer_step_row : typing (names (codes "p" ∷ [])) scope 5 (tree.Postfix step.Increment (tree.Identifier 8 0 1) 0 3)
    ≡ Ok (value (Store p_place (PointerAdd (Load (Same int_pointer) int_pointer) one true false int_pointer) true int_pointer) int_pointer)
unfolding computing
pointer_step_row = refl

-- `1 + p`
pointer_sum_row : typing (names (codes "p" ∷ [])) scope 5 (tree.Binary op.Add (tree.Integer 1 true false false 0 1) (tree.Identifier 8 4 5) 0 5)
    ≡ Ok (value (PointerAdd one (Load p_place int_pointer) false false int_pointer) int_pointer)
unfolding computing
pointer_sum_row = refl

-- `p - l`
pointer_minus_row : typing (names (codes "p" ∷ codes "l" ∷ [])) scope 5 (tree.Binary op.Subtract (tree.Identifier 8 0 1) (tree.Identifier 9 4 5) 0 5)
    ≡ Ok (value (PointerAdd (Load p_place int_pointer) (Load l_place long) true true int_pointer) int_pointer)
unfolding computing
pointer_minus_row = refl

-- `p - a`
distance_row : typing (names (codes "p" ∷ codes "a" ∷ [])) scope 5 (tree.Binary op.Subtract (tree.Identifier 8 0 1) (tree.Identifier 9 4 5) 0 5)
    ≡ Ok (value (PointerSub (Load p_place int_pointer) (AddressOf a_place int_pointer) long) long)
unfolding computing
distance_row = refl

-- `p == (0)`
null_compared_row : typing (names (codes "p" ∷ [])) scope 5 (tree.Binary op.Equal (tree.Identifier 8 0 1) (tree.Paren (tree.Integer 0 false false false 6 7) 5 8) 0 8)
    ≡ Ok (value (Compare comparison.Equal (Load p_place int_pointer) (Convert (Number 0 int) int_pointer) int) int)
unfolding computing
null_compared_row = refl

-- `p = NULL`
null_named_row : typing (names (codes "p" ∷ codes "NULL" ∷ [])) scope 5 (tree.Binary op.Assign (tree.Identifier 8 0 1) (tree.Identifier 9 4 8) 0 8)
    ≡ Ok (value (Store p_place (Convert (Number 0 int) int_pointer) false int_pointer) int_pointer)
unfolding computing
null_named_row = refl

-- `x ? p : 0`
null_chosen_row : typing (names (codes "x" ∷ codes "p" ∷ [])) scope 5 (tree.Conditional (tree.Identifier 8 0 1) (tree.Identifier 9 4 5) (tree.Integer 0 false false false 8 9) 0 9)
    ≡ Ok (value (Choose (Load x_place int) (Load p_place int_pointer) (Convert (Number 0 int) int_pointer) int_pointer) int_pointer)
unfolding computing
null_chosen_row = refl

-- `p ? x : l`
chosen_widened_row : typing (names (codes "p" ∷ codes "x" ∷ codes "l" ∷ [])) scope 5 (tree.Conditional (tree.Identifier 8 0 1) (tree.Identifier 9 4 5) (tree.Identifier 10 8 9) 0 9)
    ≡ Ok (value (Choose (Load p_place int_pointer) (Convert (Load x_place int) long) (Load l_place long) long) long)
unfolding computing
chosen_widened_row = refl

-- `x && p`
both_row : typing (names (codes "x" ∷ codes "p" ∷ [])) scope 5 (tree.Binary op.LogicalAnd (tree.Identifier 8 0 1) (tree.Identifier 9 5 6) 0 6)
    ≡ Ok (value (And (Load x_place int) (Load p_place int_pointer) int) int)
unfolding computing
both_row = refl

-- `x, l`
comma_row : typing (names (codes "x" ∷ codes "l" ∷ [])) scope 5 (tree.Binary op.Comma (tree.Identifier 8 0 1) (tree.Identifier 9 3 4) 0 4)
    ≡ Ok (value (Comma (Load x_place int) (Load l_place long) long) long)
unfolding computing
comma_row = refl

-- `(char)x`
cast_row : typing (names (codes "x" ∷ [])) scope 5 (tree.Cast (tree.OfTypeName (tree.OfSpecs tree.NoQualifiers (tree.Words (word.Char ∷ []) 1 5) tree.NoQualifiers 1 5) (tree.Absent 5 5) 1 5) (tree.Identifier 8 6 7) 0 7)
    ≡ Ok (value (Convert (Load x_place int) char) char)
unfolding computing
cast_row = refl

-- `(int)x`
cast_to_the_same_row : typing (names (codes "x" ∷ [])) scope 5 (tree.Cast (tree.OfTypeName (tree.OfSpecs tree.NoQualifiers (tree.Words (word.Int ∷ []) 1 4) tree.NoQualifiers 1 4) (tree.Absent 4 4) 1 4) (tree.Identifier 8 5 6) 0 6)
    ≡ Ok (value (Load x_place int) int)
unfolding computing
cast_to_the_same_row = refl

-- `(char *)p`
cast_of_pointers_row : typing (names (codes "p" ∷ [])) scope 5 (tree.Cast (tree.OfTypeName (tree.OfSpecs tree.NoQualifiers (tree.Words (word.Char ∷ []) 1 5) tree.NoQualifiers 1 5) (tree.Pointer tree.NoQualifiers (tree.Absent 7 7) 6 7) 1 7) (tree.Identifier 8 8 9) 0 9)
    ≡ Ok (value (Convert (Load p_place int_pointer) (pointer_to char)) (pointer_to char))
unfolding computing
cast_of_pointers_row = refl

-- `(const int *)p`
constant_added_row : typing (names (codes "p" ∷ [])) scope 5 (tree.Cast (tree.OfTypeName (tree.OfSpecs (tree.ConsQualifier (tree.Const 1 6) tree.NoQualifiers) (tree.Words (word.Int ∷ []) 7 10) tree.NoQualifiers 1 10) (tree.Pointer tree.NoQualifiers (tree.Absent 12 12) 11 12) 1 12) (tree.Identifier 8 13 14) 0 14)
    ≡ Ok (value (Load p_place int_pointer) (pointer_to (Of true (Integer 32 true))))
unfolding computing
constant_added_row = refl

-- `b = p`
truth_of_a_pointer_row : typing (names (codes "b" ∷ codes "p" ∷ [])) scope 5 (tree.Binary op.Assign (tree.Identifier 8 0 1) (tree.Identifier 9 4 5) 0 5)
    ≡ Ok (value (Store b_place (Convert (Load p_place int_pointer) (Of false Boolean)) false (Of false Boolean)) (Of false Boolean))
unfolding computing
truth_of_a_pointer_row = refl
