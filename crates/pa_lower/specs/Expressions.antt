-- The flat code of an expression (C11 6.5). Its parts stand in the order in which they are evaluated. Forms that no program of
-- integers has are left out.
use Rattle.std.specs.Prelude.{ℕ, suc, ◌+◌, Bool, true, false, List, [], ◌∷◌, ◌++◌}
use Rattle.pa_typed.specs.Typed.{TypedExpr, TypedExprs, LocalPlace, Same, Number, Load, Store, Convert, Unary, Binary, Compare, And, Or, Choose, Comma, CallDirect, NoTExprs, ConsTExpr}
use Rattle.pa_cmean.specs.ExprTypes.{type_of}
use Rattle.pa_lir.specs.declared.op.Op.{Op}
use Rattle.pa_lir.specs.declared.op.Op.TheVariants as op
use Rattle.pa_lower.specs.Temporaries.{Room, next_room, place_temp, free_after_place, place_room, value_room, other_room}
use Rattle.pa_lower.specs.Operations.{truth_ops, convert_ops, unary_ops, binary_ops, compare_op, is_signed, is_void, load_op, store_op, same_ops, result_temp}

-- how many labels the code has
abbrev mutual
  pub expr_labels : TypedExpr → ℕ
  expr_labels (Load from of) = expr_labels from
  expr_labels (Store to value old of) = expr_labels to + expr_labels value
  expr_labels (Convert value of) = expr_labels value
  expr_labels (Unary o value of) = expr_labels value
  expr_labels (Binary o left right of) = expr_labels left + expr_labels right
  expr_labels (Compare o left right of) = expr_labels left + expr_labels right
  expr_labels (And left right of) = expr_labels left + (2 + expr_labels right)
  expr_labels (Or left right of) = expr_labels left + (2 + expr_labels right)
  expr_labels (Choose test when_true when_false of) = expr_labels test + (2 + (expr_labels when_false + expr_labels when_true))
  expr_labels (Comma first second of) = expr_labels first + expr_labels second
  expr_labels (CallDirect name place arguments of) = exprs_labels arguments
  expr_labels _ = 0

  pub exprs_labels : TypedExprs → ℕ
  exprs_labels NoTExprs = 0
  exprs_labels (ConsTExpr e es) = expr_labels e + exprs_labels es

-- One of two codes, by the number in t: the one for 0 stands first. The labels are n and the next.
abbrev pub either_ops : (n t : ℕ) → List Op → List Op → List Op
either_ops n t on_false on_true = op.Branch t n ∷ (on_false ++ (op.Jump (suc n) ∷ op.Label n ∷ (on_true ++ op.Label (suc n) ∷ [])))

-- the temporaries of arguments
abbrev pub argument_temps : Room → TypedExprs → List ℕ
argument_temps r NoTExprs = []
argument_temps r (ConsTExpr e es) = r.to ∷ argument_temps (next_room r) es

-- the store of a value, behind the codes of its place and of the value: the value is given, or the one that stood there before
abbrev pub stored_ops : Bool → TypedExpr → Room → List Op
stored_ops false to r = store_op (type_of to) (place_temp r) r.to ∷ []
stored_ops true to r = load_op (type_of to) r.to (place_temp r) ∷ store_op (type_of to) (place_temp r) (free_after_place r) ∷ []

abbrev pub stored_room : Bool → Room → Room
stored_room false r = value_room r
stored_room true r = other_room r

-- with labels from n on
unfoldable mutual
  pub expr_ops : ℕ → Room → TypedExpr → List Op
  -- places (6.5.1p2), constants (6.4.4), reads (6.3.2.1p2), assignments (6.5.16, 6.5.2.4, 6.5.3.1), conversions (6.3)
  expr_ops n r (LocalPlace local of) = op.Local r.to local ∷ []
  expr_ops n r (Same of) = same_ops r.same r.to
  expr_ops n r (Number value of) = op.Const r.to value ∷ []
  expr_ops n r (Load from of) = expr_ops n r from ++ load_op (type_of from) r.to r.to ∷ []
  expr_ops n r (Store to value old of) = expr_ops n (place_room r) to ++ (expr_ops (n + expr_labels to) (stored_room old r) value ++ stored_ops old to r)
  expr_ops n r (Convert value of) = expr_ops n r value ++ convert_ops of r.to r.free
  -- operators (6.5.3.3, 6.5.5 to 6.5.12)
  expr_ops n r (Unary o value of) = expr_ops n r value ++ unary_ops o of r.to r.free
  expr_ops n r (Binary o left right of) = expr_ops n r left ++ (expr_ops (n + expr_labels left) (next_room r) right ++ binary_ops o of r.to r.free)
  expr_ops n r (Compare o left right of) = expr_ops n r left ++ (expr_ops (n + expr_labels left) (next_room r) right ++ compare_op o (is_signed (type_of left)) r.to r.to r.free ∷ [])
  -- `&&` and `||` (6.5.13, 6.5.14), `?:` (6.5.15), the comma (6.5.17)
  expr_ops n r (And left right of) = expr_ops n r left ++ either_ops (n + expr_labels left) r.to (op.Const r.to 0 ∷ []) (expr_ops (n + expr_labels left + 2) r right ++ truth_ops r.to r.free)
  expr_ops n r (Or left right of) = expr_ops n r left ++ either_ops (n + expr_labels left) r.to (expr_ops (n + expr_labels left + 2) r right ++ truth_ops r.to r.free) (op.Const r.to 1 ∷ [])
  expr_ops n r (Choose test when_true when_false of) = expr_ops n r test ++ either_ops (n + expr_labels test) r.to (expr_ops (n + expr_labels test + 2) r when_false) (expr_ops (n + expr_labels test + 2 + expr_labels when_false) r when_true)
  expr_ops n r (Comma first second of) = expr_ops n r first ++ expr_ops (n + expr_labels first) r second
  -- calls (6.5.2.2)
  expr_ops n r (CallDirect name place arguments of) = exprs_ops n r arguments ++ op.Call (result_temp (is_void of) r.to) name (argument_temps r arguments) ∷ []
  expr_ops n r _ = []

  -- each value into a temporary of its own
  pub exprs_ops : ℕ → Room → TypedExprs → List Op
  exprs_ops n r NoTExprs = []
  exprs_ops n r (ConsTExpr e es) = expr_ops n r e ++ exprs_ops (n + expr_labels e) (next_room r) es

-- ---- parts of these, by name

-- two values, the second one into the first free temporary
abbrev pub operands_ops : ℕ → Room → (left right : TypedExpr) → List Op
operands_ops n r left right = expr_ops n r left ++ expr_ops (n + expr_labels left) (next_room r) right

abbrev pub store_ops : ℕ → Room → (to value : TypedExpr) → Bool → List Op
store_ops n r to value old = expr_ops n (place_room r) to ++ (expr_ops (n + expr_labels to) (stored_room old r) value ++ stored_ops old to r)

abbrev pub and_ops : ℕ → Room → (left right : TypedExpr) → List Op
and_ops n r left right = expr_ops n r left ++ either_ops (n + expr_labels left) r.to (op.Const r.to 0 ∷ []) (expr_ops (n + expr_labels left + 2) r right ++ truth_ops r.to r.free)

abbrev pub or_ops : ℕ → Room → (left right : TypedExpr) → List Op
or_ops n r left right = expr_ops n r left ++ either_ops (n + expr_labels left) r.to (expr_ops (n + expr_labels left + 2) r right ++ truth_ops r.to r.free) (op.Const r.to 1 ∷ [])
