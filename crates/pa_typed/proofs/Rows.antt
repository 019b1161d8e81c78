-- What is counted on small trees, by hand.
use Rattle.std.proofs.Common.{◌≡◌, ℕ, Bool, true, false, List, [], ◌∷◌, Option, Some, None, refl, codes}
use Rattle.pa_ctype.specs.Types.{TypeTree, Of, Integer}
use Rattle.pa_typed.specs.declared.expr.BinaryOperation.TheVariants.{Add}
use Rattle.pa_typed.specs.declared.expr.Comparison.TheVariants.{Less}
use Rattle.pa_typed.specs.Counts.{expr_pend, parts_pend, part_count, stmt_pend, name_pend, given_pend}
use Rattle.pa_typed.specs.Typed.{TypedExpr, TypedExprs, LocalPlace, GlobalPlace, StringPlace, Same, Member, Index, Deref, Number, Load, Store, AddressOf, FunctionValue, Convert, Binary, PointerAdd, Compare, And, Choose, Comma, CallDirect, CallPointer, NoTExprs, ConsTExpr, GivenValue, GivenText, TypedInitial, TypedLocalInit, Declares, Evaluates, TypedStmt, Compound, InitLocal, Expression, IfElse, While, For, Case, Break, Return, NoTStmts, ConsTStmt}

abbrev int : TypeTree
int = Of false (Integer 32 true)

abbrev one : TypedExpr
one = Number 1 int

abbrev sum : TypedExpr → TypedExpr → TypedExpr
sum a b = Binary Add a b int

-- `1 + (1 + (1 + 1))`: each left part waits for the right one
right_sum : expr_pend (sum one (sum one (sum one one))) ≡ 4
right_sum = refl

-- `((1 + 1) + 1) + 1`
left_sum : expr_pend (sum (sum (sum one one) one) one) ≡ 2
left_sum = refl

-- `x++`, where the new value is built over a read of the place that is stored to
abbrev increment : TypedExpr
increment = Store (LocalPlace 0 int) (sum (Load (Same int) int) one) true int

increments : expr_pend increment ≡ 3
increments = refl

-- `f(1, 1, 1)`, and `f()`
arguments : expr_pend (CallDirect (codes "f") 0 (ConsTExpr one (ConsTExpr one (ConsTExpr one NoTExprs))) int) ≡ 3
arguments = refl

no_arguments : expr_pend (CallDirect (codes "f") 0 NoTExprs int) ≡ 1
no_arguments = refl

-- `p(1, 1)`: the called pointer comes behind the arguments
by_pointer : expr_pend (CallPointer (ConsTExpr one (ConsTExpr one NoTExprs)) (Load (LocalPlace 0 int) int) int) ≡ 3
by_pointer = refl

-- no part of these waits for another
choices : expr_pend (Choose (And one one int) (Comma one one int) one int) ≡ 1
choices = refl

-- `&s.a[1] + 1`, and `"ab"` as a pointer
places : expr_pend (PointerAdd (AddressOf (Index (AddressOf (Member (LocalPlace 0 int) 0 0 int) int) one true int) int) one true false int) ≡ 2
places = refl

text : expr_pend (AddressOf (StringPlace 0 int) int) ≡ 1
text = refl

-- a text that is given to an array is no expression, the value of a cell is
given_text : stmt_pend (InitLocal (record { local = 0; initials = Some (record { at = 0; of = int; given = GivenText 0 } ∷ []) })) ≡ 0
given_text = refl

given_value : stmt_pend (InitLocal (record { local = 0; initials = Some (record { at = 0; of = int; given = GivenText 0 } ∷ record { at = 4; of = int; given = GivenValue (sum one one) } ∷ []) })) ≡ 2
given_value = refl

no_initializer : stmt_pend (InitLocal (record { local = 0; initials = None })) ≡ 0
no_initializer = refl

-- `for (int i = 0; i < 1; i++) { break; }`
loop : stmt_pend (For (Declares (record { local = 0; initials = Some (record { at = 0; of = int; given = GivenValue one } ∷ []) } ∷ [])) (Some (Compare Less (Load (LocalPlace 0 int) int) one int)) (Some increment) (Compound (ConsTStmt Break NoTStmts))) ≡ 3
loop = refl

-- the number of a `case` is an expression
cases : stmt_pend (Case 3 int (Return None)) ≡ 1
cases = refl
