-- How many temporaries the flat code of an expression needs: from the first free one on at most twice as many as values may wait
-- while it is evaluated, and one less where there is a spare one.
use Rattle.std.proofs.Common.{◌≡◌, ℕ, suc, ◌+◌, ◌*◌, ◌≤◌, max, Bool, true, false, List, [], ◌∷◌, ◌++◌, Option, Some, None, arith}
use Rattle.std.specs.Prelude.{unwrap_or}
use Rattle.std.specs.Option.{option_to_list}
use Rattle.pa_ctype.specs.Types.{TypeTree, Of, Void, Boolean, Integer, Pointer, Array, Struct, Function}
use Rattle.pa_typed.specs.declared.expr.UnaryOperation.{UnaryOperation}
use Rattle.pa_typed.specs.declared.expr.UnaryOperation.TheVariants.{Minus, Complement, Not}
use Rattle.pa_typed.specs.declared.expr.Comparison.{Comparison}
use Rattle.pa_typed.specs.declared.expr.Comparison.TheVariants.{Less, Greater, LessEqual, GreaterEqual, Equal, NotEqual}
use Rattle.pa_typed.specs.Typed.{TypedExpr, TypedExprs, LocalPlace, GlobalPlace, StringPlace, Same, Member, Index, Deref, Number, Load, LoadSigned, Store, StoreSigned, AddressOf, FunctionValue, Convert, Unary, Binary, PointerAdd, PointerSub, Compare, And, Or, Choose, Comma, CallDirect, CallPointer, NoTExprs, ConsTExpr}
use Rattle.pa_typed.specs.Counts.{expr_pend, parts_pend}
use Rattle.pa_cmean.specs.ExprTypes.{type_of}
use Rattle.pa_lir.specs.declared.op.Op.{Op}
use Rattle.pa_lir.specs.declared.op.Op.TheVariants as op
use Rattle.pa_lir.specs.Parts.{above, above_all}
use Rattle.pa_lower.specs.Temporaries.{Room, next_room, free_after, place_room, value_room, other_room, whole_room}
use Rattle.pa_lower.specs.Operations.{truth_ops, convert_ops, wrap_ops, wrap_if, may_leave, unary_ops, binary_ops, compare_op, is_signed, is_void, load_op, same_ops, result_temp}
use Rattle.pa_lower.specs.Expressions.{expr_labels, either_ops, argument_temps, stored_ops, expr_ops, exprs_ops}

-- ---- rooms

-- one where there is a spare temporary
abbrev spares : Option ℕ → ℕ
spares None = 0
spares (Some spare) = 1

few : (s : Option ℕ) → spares s ≤ 1
few None = omega arith
few (Some spare) = omega arith

-- the given temporaries are below those that are free
pub record IsRoom (r : Room) : Type 0 where
  pub to : suc r.to ≤ r.free
  pub spare : above (option_to_list r.spare) ≤ r.free
  pub same : above (option_to_list r.same) ≤ r.free

after_is : (s : Option ℕ) (free : ℕ) → free_after s free + spares s ≡ suc free
after_is None free = omega arith
after_is (Some spare) free = omega arith

place_below : (s : Option ℕ) (free : ℕ) → above (option_to_list s) ≤ free → suc (unwrap_or s free) ≤ free_after s free
unfolding above
place_below None free h = omega arith
place_below (Some spare) free h = omega (arith, h)

next_is : (r : Room) → IsRoom r → IsRoom (next_room r)
unfolding above
next_is r h = record { to = omega arith; spare = omega arith; same = let s = h.same in omega (arith, s) }

place_is : (r : Room) → IsRoom r → IsRoom (place_room r)
unfolding above
place_is r h = let a = after_is r.spare r.free in let f = few r.spare in let t = h.to in let s = h.same in
    record { to = place_below r.spare r.free h.spare; spare = omega (arith, a, f, t); same = omega (arith, a, f, s) }

value_is : (r : Room) → IsRoom r → IsRoom (value_room r)
unfolding above
value_is r h = let a = after_is r.spare r.free in let f = few r.spare in let t = h.to in let p = place_below r.spare r.free h.spare in
    record { to = omega (arith, a, f, t); spare = omega arith; same = omega (arith, p) }

other_is : (r : Room) → IsRoom r → IsRoom (other_room r)
unfolding above
other_is r h = let p = place_below r.spare r.free h.spare in record { to = omega arith; spare = omega arith; same = omega (arith, p) }

-- ---- operations

pub append_is : (a b : List Op) → above_all (a ++ b) ≡ max (above_all a) (above_all b)
unfolding above_all
append_is [] b = omega arith
append_is (o ∷ a) b = omega (arith, append_is a b)

pub either_is : (n t : ℕ) (f g : List Op) → above_all (either_ops n t f g) ≡ max (suc t) (max (above_all f) (above_all g))
unfolding above above_all
either_is n t f g = let a = append_is f (op.Jump (suc n) ∷ op.Label n ∷ (g ++ op.Label (suc n) ∷ [])) in let b = append_is g (op.Label (suc n) ∷ []) in omega (arith, a, b)

truth_below : (t free : ℕ) → suc t ≤ free → above_all (truth_ops t free) ≤ suc free
unfolding above above_all
truth_below t free h = omega (arith, h)

same_below : (s : Option ℕ) (t free : ℕ) → suc t ≤ free → above (option_to_list s) ≤ free → above_all (same_ops s t) ≤ free
unfolding above above_all
same_below None t free h g = omega (arith, h)
same_below (Some place) t free h g = omega (arith, h, g)

convert_below : (of : TypeTree) (t free : ℕ) → suc t ≤ free → above_all (convert_ops of t free) ≤ suc free
unfolding above above_all
convert_below (Of c Void) t free h = omega arith
convert_below (Of c Boolean) t free h = omega (arith, h)
convert_below (Of c (Integer bits signed)) t free h = omega (arith, h)
convert_below (Of c (Pointer to schema)) t free h = omega arith
convert_below (Of c (Array of count)) t free h = omega arith
convert_below (Of c (Struct id)) t free h = omega arith
convert_below (Of c (Function params result)) t free h = omega arith

wrap_below : (of : TypeTree) (t : ℕ) → above_all (wrap_ops of t) ≤ suc t
unfolding above above_all
wrap_below (Of c Void) t = omega arith
wrap_below (Of c Boolean) t = omega arith
wrap_below (Of c (Integer bits false)) t = omega arith
wrap_below (Of c (Integer bits true)) t = omega arith
wrap_below (Of c (Pointer to schema)) t = omega arith
wrap_below (Of c (Array of count)) t = omega arith
wrap_below (Of c (Struct id)) t = omega arith
wrap_below (Of c (Function params result)) t = omega arith

wrap_if_below : (b : Bool) (of : TypeTree) (t : ℕ) → above_all (wrap_if b of t) ≤ suc t
unfolding above_all
wrap_if_below true of t = wrap_below of t
wrap_if_below false of t = omega arith

unary_below : (o : UnaryOperation) (of : TypeTree) (t free : ℕ) → suc t ≤ free → above_all (unary_ops o of t free) ≤ suc free
unfolding above above_all
unary_below Not of t free h = omega (arith, h)
unary_below Minus of t free h = let w = wrap_below of t in omega (arith, h, w)
unary_below Complement of t free h = let w = wrap_below of t in omega (arith, h, w)

compare_below : (o : Comparison) (signed : Bool) (t free : ℕ) → suc t ≤ free → above_all (compare_op o signed t t free ∷ []) ≤ suc free
unfolding above above_all
compare_below Less signed t free h = omega (arith, h)
compare_below Greater signed t free h = omega (arith, h)
compare_below LessEqual signed t free h = omega (arith, h)
compare_below GreaterEqual signed t free h = omega (arith, h)
compare_below Equal signed t free h = omega (arith, h)
compare_below NotEqual signed t free h = omega (arith, h)

result_below : (void : Bool) (t : ℕ) → above (option_to_list (result_temp void t)) ≤ suc t
unfolding above
result_below true t = omega arith
result_below false t = omega arith

-- ---- expressions

-- one value waits at least
pend_some : (e : TypedExpr) → 1 ≤ expr_pend e
pend_some (LocalPlace local of) = omega arith
pend_some (GlobalPlace name place of) = omega arith
pend_some (StringPlace text of) = omega arith
pend_some (Same of) = omega arith
pend_some (Member owner index offset of) = let i = pend_some owner in omega (arith, i)
pend_some (Index left right pointer_left of) = let i = pend_some left in omega (arith, i)
pend_some (Deref pointer of) = let i = pend_some pointer in omega (arith, i)
pend_some (Number value of) = omega arith
pend_some (Load from of) = let i = pend_some from in omega (arith, i)
pend_some (LoadSigned from schema of) = let i = pend_some from in omega (arith, i)
pend_some (Store to value old of) = let i = pend_some to in omega (arith, i)
pend_some (StoreSigned to value old schema of) = let i = pend_some to in omega (arith, i)
pend_some (AddressOf at of) = let i = pend_some at in omega (arith, i)
pend_some (FunctionValue name place of) = omega arith
pend_some (Convert value of) = let i = pend_some value in omega (arith, i)
pend_some (Unary o value of) = let i = pend_some value in omega (arith, i)
pend_some (Binary o left right of) = let i = pend_some left in omega (arith, i)
pend_some (PointerAdd left right pointer_left subtracts of) = let i = pend_some left in omega (arith, i)
pend_some (PointerSub left right of) = let i = pend_some left in omega (arith, i)
pend_some (Compare o left right of) = let i = pend_some left in omega (arith, i)
pend_some (And left right of) = let i = pend_some left in omega (arith, i)
pend_some (Or left right of) = let i = pend_some left in omega (arith, i)
pend_some (Choose test when_true when_false of) = let i = pend_some test in omega (arith, i)
pend_some (Comma first second of) = let i = pend_some first in omega (arith, i)
pend_some (CallDirect name place arguments of) = omega arith
pend_some (CallPointer arguments function of) = let i = pend_some function in omega (arith, i)

mutual
  unfolding above above_all expr_ops exprs_ops

  pub expr_held : (n : ℕ) (r : Room) (e : TypedExpr) → IsRoom r → above_all (expr_ops n r e) + spares r.spare ≤ r.free + 2 * expr_pend e
  expr_held n r (LocalPlace local of) h = let f = few r.spare in let t = h.to in omega (arith, f, t)
  expr_held n r (Number value of) h = let f = few r.spare in let t = h.to in omega (arith, f, t)
  expr_held n r (Same of) h = let f = few r.spare in let t = h.to in let s = same_below r.same r.to r.free t h.same in omega (arith, f, s)
  expr_held n r (Load from of) h = let f = few r.spare in let t = h.to in let i = expr_held n r from h in let p = pend_some from in let a = append_is (expr_ops n r from) (load_op (type_of from) r.to r.to ∷ []) in omega (arith, f, t, i, p, a)
  expr_held n r (Store to value false of) h = let f = few r.spare in let t = h.to in let z = after_is r.spare r.free in let q = place_below r.spare r.free h.spare in let i = expr_held n (place_room r) to (place_is r h) in let j = expr_held (n + expr_labels to) (value_room r) value (value_is r h) in let p = pend_some value in let a = append_is (expr_ops n (place_room r) to) (expr_ops (n + expr_labels to) (value_room r) value ++ stored_ops false to r) in let b = append_is (expr_ops (n + expr_labels to) (value_room r) value) (stored_ops false to r) in omega (arith, f, t, z, q, i, j, p, a, b)
  expr_held n r (Store to value true of) h = let f = few r.spare in let t = h.to in let z = after_is r.spare r.free in let q = place_below r.spare r.free h.spare in let i = expr_held n (place_room r) to (place_is r h) in let j = expr_held (n + expr_labels to) (other_room r) value (other_is r h) in let p = pend_some value in let a = append_is (expr_ops n (place_room r) to) (expr_ops (n + expr_labels to) (other_room r) value ++ stored_ops true to r) in let b = append_is (expr_ops (n + expr_labels to) (other_room r) value) (stored_ops true to r) in omega (arith, f, t, z, q, i, j, p, a, b)
  expr_held n r (Convert value of) h = let f = few r.spare in let t = h.to in let i = expr_held n r value h in let p = pend_some value in let c = convert_below of r.to r.free t in let a = append_is (expr_ops n r value) (convert_ops of r.to r.free) in omega (arith, f, i, p, c, a)
  expr_held n r (Unary o value of) h = let f = few r.spare in let t = h.to in let i = expr_held n r value h in let p = pend_some value in let c = unary_below o of r.to r.free t in let a = append_is (expr_ops n r value) (unary_ops o of r.to r.free) in omega (arith, f, i, p, c, a)
  expr_held n r (Binary o left right of) h = let f = few r.spare in let t = h.to in let i = expr_held n r left h in let j = expr_held (n + expr_labels left) (next_room r) right (next_is r h) in let p = pend_some right in let w = wrap_if_below (may_leave o) of r.to in let a = append_is (expr_ops n r left) (expr_ops (n + expr_labels left) (next_room r) right ++ binary_ops o of r.to r.free) in let b = append_is (expr_ops (n + expr_labels left) (next_room r) right) (binary_ops o of r.to r.free) in omega (arith, f, t, i, j, p, w, a, b)
  expr_held n r (Compare o left right of) h = let f = few r.spare in let t = h.to in let i = expr_held n r left h in let j = expr_held (n + expr_labels left) (next_room r) right (next_is r h) in let p = pend_some right in let c = compare_below o (is_signed (type_of left)) r.to r.free t in let a = append_is (expr_ops n r left) (expr_ops (n + expr_labels left) (next_room r) right ++ compare_op o (is_signed (type_of left)) r.to r.to r.free ∷ []) in let b = append_is (expr_ops (n + expr_labels left) (next_room r) right) (compare_op o (is_signed (type_of left)) r.to r.to r.free ∷ []) in omega (arith, f, i, j, p, c, a, b)
  expr_held n r (And left right of) h = let f = few r.spare in let t = h.to in let i = expr_held n r left h in let j = expr_held (n + expr_labels left + 2) r right h in let p = pend_some right in let c = truth_below r.to r.free t in let a = append_is (expr_ops n r left) (either_ops (n + expr_labels left) r.to (op.Const r.to 0 ∷ []) (expr_ops (n + expr_labels left + 2) r right ++ truth_ops r.to r.free)) in let b = either_is (n + expr_labels left) r.to (op.Const r.to 0 ∷ []) (expr_ops (n + expr_labels left + 2) r right ++ truth_ops r.to r.free) in let d = append_is (expr_ops (n + expr_labels left + 2) r right) (truth_ops r.to r.free) in omega (arith, f, t, i, j, p, c, a, b, d)
  expr_held n r (Or left right of) h = let f = few r.spare in let t = h.to in let i = expr_held n r left h in let j = expr_held (n + expr_labels left + 2) r right h in let p = pend_some right in let c = truth_below r.to r.free t in let a = append_is (expr_ops n r left) (either_ops (n + expr_labels left) r.to (expr_ops (n + expr_labels left + 2) r right ++ truth_ops r.to r.free) (op.Const r.to 1 ∷ [])) in let b = either_is (n + expr_labels left) r.to (expr_ops (n + expr_labels left + 2) r right ++ truth_ops r.to r.free) (op.Const r.to 1 ∷ []) in let d = append_is (expr_ops (n + expr_labels left + 2) r right) (truth_ops r.to r.free) in omega (arith, f, t, i, j, p, c, a, b, d)
  expr_held n r (Choose test when_true when_false of) h = let f = few r.spare in let t = h.to in let i = expr_held n r test h in let j = expr_held (n + expr_labels test + 2) r when_false h in let k = expr_held (n + expr_labels test + 2 + expr_labels when_false) r when_true h in let p = pend_some test in let a = append_is (expr_ops n r test) (either_ops (n + expr_labels test) r.to (expr_ops (n + expr_labels test + 2) r when_false) (expr_ops (n + expr_labels test + 2 + expr_labels when_false) r when_true)) in let b = either_is (n + expr_labels test) r.to (expr_ops (n + expr_labels test + 2) r when_false) (expr_ops (n + expr_labels test + 2 + expr_labels when_false) r when_true) in omega (arith, f, t, i, j, k, p, a, b)
  expr_held n r (Comma first second of) h = let i = expr_held n r first h in let j = expr_held (n + expr_labels first) r second h in let a = append_is (expr_ops n r first) (expr_ops (n + expr_labels first) r second) in omega (arith, i, j, a)
  expr_held n r (CallDirect name place arguments of) h = let f = few r.spare in let t = h.to in let i = exprs_held n 0 r arguments h in let j = arguments_held 0 r arguments h in let v = result_below (is_void of) r.to in let a = append_is (exprs_ops n r arguments) (op.Call (result_temp (is_void of) r.to) name (argument_temps r arguments) ∷ []) in omega (arith, f, t, i, j, v, a)
  expr_held n r (GlobalPlace name place of) h = let f = few r.spare in let p = pend_some (GlobalPlace name place of) in omega (arith, f, p)
  expr_held n r (StringPlace text of) h = let f = few r.spare in let p = pend_some (StringPlace text of) in omega (arith, f, p)
  expr_held n r (Member owner index offset of) h = let f = few r.spare in let p = pend_some (Member owner index offset of) in omega (arith, f, p)
  expr_held n r (Index left right pointer_left of) h = let f = few r.spare in let p = pend_some (Index left right pointer_left of) in omega (arith, f, p)
  expr_held n r (Deref pointer of) h = let f = few r.spare in let p = pend_some (Deref pointer of) in omega (arith, f, p)
  expr_held n r (LoadSigned from schema of) h = let f = few r.spare in let p = pend_some (LoadSigned from schema of) in omega (arith, f, p)
  expr_held n r (StoreSigned to value old schema of) h = let f = few r.spare in let p = pend_some (StoreSigned to value old schema of) in omega (arith, f, p)
  expr_held n r (AddressOf at of) h = let f = few r.spare in let p = pend_some (AddressOf at of) in omega (arith, f, p)
  expr_held n r (FunctionValue name place of) h = let f = few r.spare in let p = pend_some (FunctionValue name place of) in omega (arith, f, p)
  expr_held n r (PointerAdd left right pointer_left subtracts of) h = let f = few r.spare in let p = pend_some (PointerAdd left right pointer_left subtracts of) in omega (arith, f, p)
  expr_held n r (PointerSub left right of) h = let f = few r.spare in let p = pend_some (PointerSub left right of) in omega (arith, f, p)
  expr_held n r (CallPointer arguments function of) h = let f = few r.spare in let p = pend_some (CallPointer arguments function of) in omega (arith, f, p)

  -- parts behind so many others
  exprs_held : (n before : ℕ) (r : Room) (es : TypedExprs) → IsRoom r → above_all (exprs_ops n r es) + (spares r.spare + 2 * before) ≤ max (r.free + 2 * parts_pend before es) (spares r.spare + 2 * before)
  exprs_held n before r NoTExprs h = omega arith
  exprs_held n before r (ConsTExpr e es) h = let f = few r.spare in let i = expr_held n r e h in let p = pend_some e in let j = exprs_held (n + expr_labels e) (suc before) (next_room r) es (next_is r h) in let a = append_is (expr_ops n r e) (exprs_ops (n + expr_labels e) (next_room r) es) in omega (arith, f, i, p, j, a)

  arguments_held : (before : ℕ) (r : Room) (es : TypedExprs) → IsRoom r → above (argument_temps r es) + (spares r.spare + 2 * before) ≤ max (r.free + 2 * parts_pend before es) (spares r.spare + 2 * before)
  arguments_held before r NoTExprs h = omega arith
  arguments_held before r (ConsTExpr e es) h = let f = few r.spare in let t = h.to in let p = pend_some e in let j = arguments_held (suc before) (next_room r) es (next_is r h) in omega (arith, f, t, p, j)

-- of a whole expression in a statement: within twice as many as values may wait, and one more
pub whole_held : (n : ℕ) (e : TypedExpr) → above_all (expr_ops n whole_room e) ≤ 1 + 2 * expr_pend e
unfolding above
whole_held n e = let i = expr_held n whole_room e (record { to = omega arith; spare = omega arith; same = omega arith }) in omega (arith, i)
