-- How many temporaries the flat code of a function holds: at most twice as many as values may wait in its expressions, and four.
use Rattle.std.proofs.Common.{◌≡◌, refl, ap, ◌∙◌, sum_by, map, ℕ, zero, suc, ◌+◌, ◌*◌, ◌≤◌, Bool, true, false, List, [], ◌∷◌, ◌++◌, Option, Some, None, arith}
use Rattle.std.specs.Prelude.{unwrap_or, if◌then◌else◌}
use Rattle.std.specs.Int.{next_multiple_of}
use Rattle.std.proofs.lemmas.List.Sums.{sum_by-cons}
use Rattle.pa_ctype.specs.Types.{TypeTree}
use Rattle.pa_typed.specs.Typed.{TypedExpr, TypedGiven, GivenValue, GivenText, TypedInitial, TypedLocalInit, TypedForStart, Declares, Evaluates, TypedStmt, TypedStmts, Compound, InitLocal, Expression, If, IfElse, While, DoWhile, For, Switch, Case, Default, Break, Continue, Return, NoTStmts, ConsTStmt}
use Rattle.pa_typed.specs.Counts.{maybe_pend, given_pend, initials_pend, name_initials_pend, names_pend, start_pend, stmt_pend, stmts_pend}
use Rattle.pa_typed.specs.Units.{LocalTree, FunctionTree, sizes_of, weight_of}
use Rattle.pa_cmean.specs.Calls.{gives_nothing}
use Rattle.pa_lir.specs.declared.op.Op.TheVariants as op
use Rattle.pa_lir.specs.Parts.{above, above_all, held, bytes, rounded, frame_bound}
use Rattle.pa_lower.specs.Operations.{store_op}
use Rattle.pa_lower.specs.Expressions.{expr_labels, either_ops}
use Rattle.pa_lower.specs.Statements.{whole_ops, maybe_labels, maybe_ops, given_labels, given_ops, initials_ops, local_labels, locals_ops, start_labels, start_ops, Ways, jump_ops, loop_ways, switch_ways, stmt_cases, body_cases, case_labels, stmt_tests, item_tests, body_tests, body_default, stmt_labels, branch_ops, enter_ops, turn_ops, return_ops, stmt_ops, stmts_ops, switched_ops, items_ops}
use Rattle.pa_lower.specs.Programs.{end_ops, no_ways, lowered_local, lowered_function}
use Rattle.pa_lower.proofs.Held.{append_is, either_is, whole_held}

maybe_held : (n : ℕ) (e : Option TypedExpr) → above_all (maybe_ops n e) ≤ 1 + 2 * maybe_pend e
unfolding above_all
maybe_held n None = omega arith
maybe_held n (Some e) = whole_held n e

given_held : (n local : ℕ) (of : TypeTree) (g : TypedGiven) → above_all (given_ops n local of g) ≤ 2 + 2 * given_pend g
unfolding above above_all
given_held n local of (GivenValue value) = let i = whole_held n value in let a = append_is (whole_ops n value) (op.Local 1 local ∷ store_op of 1 0 ∷ []) in omega (arith, i, a)
given_held n local of (GivenText text) = omega arith

initials_held : (n local : ℕ) (is : List TypedInitial) → above_all (initials_ops n local is) ≤ 2 + 2 * initials_pend is
unfolding above_all initials_ops
initials_held n local [] = omega arith
initials_held n local (i ∷ is) = let g = given_held n local i.of i.given in let j = initials_held (n + given_labels i.given) local is in let a = append_is (given_ops n local i.of i.given) (initials_ops (n + given_labels i.given) local is) in omega (arith, g, j, a)

local_held : (n local : ℕ) (is : Option (List TypedInitial)) → above_all (initials_ops n local (unwrap_or is [])) ≤ 2 + 2 * name_initials_pend is
unfolding above_all initials_ops
local_held n local None = omega arith
local_held n local (Some is) = initials_held n local is

locals_held : (n : ℕ) (ls : List TypedLocalInit) → above_all (locals_ops n ls) ≤ 2 + 2 * names_pend ls
unfolding above_all locals_ops
locals_held n [] = omega arith
locals_held n (l ∷ ls) = let i = local_held n l.local l.initials in let j = locals_held (n + local_labels l) ls in let a = append_is (initials_ops n l.local (unwrap_or l.initials [])) (locals_ops (n + local_labels l) ls) in omega (arith, i, j, a)

start_held : (n : ℕ) (s : TypedForStart) → above_all (start_ops n s) ≤ 2 + 2 * start_pend s
start_held n (Declares names) = locals_held n names
start_held n (Evaluates value) = let i = maybe_held n value in omega (arith, i)

jump_held : (l : Option ℕ) → above_all (jump_ops l) ≤ 0
unfolding above above_all
jump_held None = omega arith
jump_held (Some label) = omega arith

return_held : (n : ℕ) (e : Option TypedExpr) → above_all (return_ops n e) ≤ 2 + 2 * maybe_pend e
unfolding above above_all
return_held n None = omega arith
return_held n (Some e) = let i = whole_held n e in let a = append_is (whole_ops n e) (op.Return (Some 0) ∷ []) in omega (arith, i, a)

cases_held : (c count : ℕ) → above_all (case_labels c count) ≤ 0
unfolding above above_all case_labels
cases_held c zero = omega arith
cases_held c (suc count) = let i = cases_held (suc c) count in omega (arith, i)

tests_held : (c : ℕ) (s : TypedStmt) → above_all (stmt_tests c s) ≤ 2
unfolding above above_all stmt_tests
tests_held c (Case value of body) = let i = tests_held (suc c) body in omega (arith, i)
tests_held c (Default body) = tests_held (suc c) body
tests_held c (Compound items) = omega arith
tests_held c (InitLocal name) = omega arith
tests_held c (Expression value) = omega arith
tests_held c (If test body) = omega arith
tests_held c (IfElse test when_true when_false) = omega arith
tests_held c (While test body) = omega arith
tests_held c (DoWhile body test) = omega arith
tests_held c (For start test step body) = omega arith
tests_held c (Switch value body) = omega arith
tests_held c Break = omega arith
tests_held c Continue = omega arith
tests_held c (Return value) = omega arith

item_tests_held : (c : ℕ) (ss : TypedStmts) → above_all (item_tests c ss) ≤ 2
unfolding above_all item_tests
item_tests_held c NoTStmts = omega arith
item_tests_held c (ConsTStmt s ss) = let i = tests_held c s in let j = item_tests_held (c + stmt_cases s) ss in let a = append_is (stmt_tests c s) (item_tests (c + stmt_cases s) ss) in omega (arith, i, j, a)

body_tests_held : (c : ℕ) (s : TypedStmt) → above_all (body_tests c s) ≤ 2
unfolding above_all
body_tests_held c (Compound items) = item_tests_held c items
body_tests_held c (InitLocal name) = omega arith
body_tests_held c (Expression value) = omega arith
body_tests_held c (If test body) = omega arith
body_tests_held c (IfElse test when_true when_false) = omega arith
body_tests_held c (While test body) = omega arith
body_tests_held c (DoWhile body test) = omega arith
body_tests_held c (For start test step body) = omega arith
body_tests_held c (Switch value body) = omega arith
body_tests_held c Break = omega arith
body_tests_held c Continue = omega arith
body_tests_held c (Return value) = omega arith
body_tests_held c (Case value of body) = omega arith
body_tests_held c (Default body) = omega arith

turn_held : (n : ℕ) (test : Option TypedExpr) (body otherwise : ℕ) → above_all (turn_ops n test body otherwise) ≤ 2 + 2 * maybe_pend test
unfolding above above_all
turn_held n None body otherwise = omega arith
turn_held n (Some test) body otherwise = let i = whole_held n test in let a = append_is (whole_ops n test) (branch_ops body otherwise) in omega (arith, i, a)

enter_held : (test : Option TypedExpr) (head : ℕ) → above_all (enter_ops test head) ≤ 0
unfolding above above_all
enter_held None head = omega arith
enter_held (Some test) head = omega arith

mutual
  unfolding above above_all stmt_ops stmts_ops switched_ops items_ops

  stmt_held : (n : ℕ) (w : Ways) (s : TypedStmt) → above_all (stmt_ops n w s) ≤ 2 + 2 * stmt_pend s
  stmt_held n w (Compound items) = stmts_held n w items
  stmt_held n w (InitLocal name) = local_held n name.local name.initials
  stmt_held n w (Expression value) = let i = maybe_held n value in omega (arith, i)
  stmt_held n w (If test body) = let i = whole_held n test in let j = stmt_held (n + expr_labels test + 2) w body in let a0 = append_is (whole_ops n test) ((branch_ops (n + expr_labels test) (n + expr_labels test + 1)) ++ ((stmt_ops (n + expr_labels test + 2) w body) ++ (op.Label (n + expr_labels test + 1) ∷ []))) in let a1 = append_is (branch_ops (n + expr_labels test) (n + expr_labels test + 1)) ((stmt_ops (n + expr_labels test + 2) w body) ++ (op.Label (n + expr_labels test + 1) ∷ [])) in let a2 = append_is (stmt_ops (n + expr_labels test + 2) w body) (op.Label (n + expr_labels test + 1) ∷ []) in omega (arith, i, j, a0, a1, a2)
  stmt_held n w (IfElse test when_true when_false) = let i = whole_held n test in let j = stmt_held (n + expr_labels test + 2) w when_false in let k = stmt_held (n + expr_labels test + 2 + stmt_labels when_false) w when_true in let e = either_is (n + expr_labels test) 0 (stmt_ops (n + expr_labels test + 2) w when_false) (stmt_ops (n + expr_labels test + 2 + stmt_labels when_false) w when_true) in let a0 = append_is (whole_ops n test) (either_ops (n + expr_labels test) 0 (stmt_ops (n + expr_labels test + 2) w when_false) (stmt_ops (n + expr_labels test + 2 + stmt_labels when_false) w when_true)) in omega (arith, i, j, k, e, a0)
  stmt_held n w (While test body) = let i = whole_held (n + 3) test in let j = stmt_held (n + 3 + expr_labels test) (loop_ways (n + 2) n) body in let a0 = append_is (whole_ops (n + 3) test) ((branch_ops (n + 1) (n + 2)) ++ ((stmt_ops (n + 3 + expr_labels test) (loop_ways (n + 2) n) body) ++ (op.Jump n ∷ op.Label (n + 2) ∷ []))) in let a1 = append_is (branch_ops (n + 1) (n + 2)) ((stmt_ops (n + 3 + expr_labels test) (loop_ways (n + 2) n) body) ++ (op.Jump n ∷ op.Label (n + 2) ∷ [])) in let a2 = append_is (stmt_ops (n + 3 + expr_labels test) (loop_ways (n + 2) n) body) (op.Jump n ∷ op.Label (n + 2) ∷ []) in omega (arith, i, j, a0, a1, a2)
  stmt_held n w (DoWhile body test) =
      let i = stmt_held (n + 3) (loop_ways (n + 2) (n + 1)) body in let j = whole_held (n + 3 + stmt_labels body) test in
      let b = append_is (whole_ops (n + 3 + stmt_labels body) test) (op.Branch 0 n ∷ op.Label (n + 2) ∷ []) in
      let a = append_is (stmt_ops (n + 3) (loop_ways (n + 2) (n + 1)) body) (op.Label (n + 1) ∷ (whole_ops (n + 3 + stmt_labels body) test ++ (op.Branch 0 n ∷ op.Label (n + 2) ∷ []))) in
      omega (arith, i, j, a, b)
  stmt_held n w (For start test step body) =
      let i = start_held (n + 4) start in let e = enter_held test n in let t = turn_held (n + 4 + start_labels start) test (n + 1) (n + 2) in
      let j = stmt_held (n + 4 + start_labels start + maybe_labels test) (loop_ways (n + 2) (n + 3)) body in let k = maybe_held (n + 4 + start_labels start + maybe_labels test + stmt_labels body) step in
      let a = append_is (maybe_ops (n + 4 + start_labels start + maybe_labels test + stmt_labels body) step) (op.Jump n ∷ op.Label (n + 2) ∷ []) in
      let b = append_is (stmt_ops (n + 4 + start_labels start + maybe_labels test) (loop_ways (n + 2) (n + 3)) body) (op.Label (n + 3) ∷ ((maybe_ops (n + 4 + start_labels start + maybe_labels test + stmt_labels body) step) ++ (op.Jump n ∷ op.Label (n + 2) ∷ []))) in
      let c = append_is (turn_ops (n + 4 + start_labels start) test (n + 1) (n + 2)) ((stmt_ops (n + 4 + start_labels start + maybe_labels test) (loop_ways (n + 2) (n + 3)) body) ++ (op.Label (n + 3) ∷ ((maybe_ops (n + 4 + start_labels start + maybe_labels test + stmt_labels body) step) ++ (op.Jump n ∷ op.Label (n + 2) ∷ [])))) in
      let d = append_is (enter_ops test n) ((turn_ops (n + 4 + start_labels start) test (n + 1) (n + 2)) ++ ((stmt_ops (n + 4 + start_labels start + maybe_labels test) (loop_ways (n + 2) (n + 3)) body) ++ (op.Label (n + 3) ∷ ((maybe_ops (n + 4 + start_labels start + maybe_labels test + stmt_labels body) step) ++ (op.Jump n ∷ op.Label (n + 2) ∷ []))))) in
      let f = append_is (start_ops (n + 4) start) (enter_ops test n ++ ((turn_ops (n + 4 + start_labels start) test (n + 1) (n + 2)) ++ ((stmt_ops (n + 4 + start_labels start + maybe_labels test) (loop_ways (n + 2) (n + 3)) body) ++ (op.Label (n + 3) ∷ ((maybe_ops (n + 4 + start_labels start + maybe_labels test + stmt_labels body) step) ++ (op.Jump n ∷ op.Label (n + 2) ∷ [])))))) in
      omega (arith, i, e, t, j, k, a, b, c, d, f)
  stmt_held n w (Switch value body) =
      let i = whole_held n value in let t = body_tests_held (n + expr_labels value + 1) body in let j = switched_held (n + expr_labels value + 1 + body_cases body) (n + expr_labels value + 1) (switch_ways (n + expr_labels value) w) body in
      let a = append_is (switched_ops (n + expr_labels value + 1 + body_cases body) (n + expr_labels value + 1) (switch_ways (n + expr_labels value) w) body) (op.Label (n + expr_labels value) ∷ []) in
      let b = append_is (body_tests (n + expr_labels value + 1) body) (op.Jump (unwrap_or (body_default (n + expr_labels value + 1) body) (n + expr_labels value)) ∷ ((switched_ops (n + expr_labels value + 1 + body_cases body) (n + expr_labels value + 1) (switch_ways (n + expr_labels value) w) body) ++ op.Label (n + expr_labels value) ∷ [])) in
      let c = append_is (whole_ops n value) (body_tests (n + expr_labels value + 1) body ++ (op.Jump (unwrap_or (body_default (n + expr_labels value + 1) body) (n + expr_labels value)) ∷ ((switched_ops (n + expr_labels value + 1 + body_cases body) (n + expr_labels value + 1) (switch_ways (n + expr_labels value) w) body) ++ op.Label (n + expr_labels value) ∷ []))) in
      omega (arith, i, t, j, a, b, c)
  stmt_held n w (Case value of body) = let i = stmt_held n w body in omega (arith, i)
  stmt_held n w (Default body) = stmt_held n w body
  stmt_held n w Break = let i = jump_held w.leave in omega (arith, i)
  stmt_held n w Continue = let i = jump_held w.proceed in omega (arith, i)
  stmt_held n w (Return value) = return_held n value

  stmts_held : (n : ℕ) (w : Ways) (ss : TypedStmts) → above_all (stmts_ops n w ss) ≤ 2 + 2 * stmts_pend ss
  stmts_held n w NoTStmts = omega arith
  stmts_held n w (ConsTStmt s ss) = let i = stmt_held n w s in let j = stmts_held (n + stmt_labels s) w ss in let a = append_is (stmt_ops n w s) (stmts_ops (n + stmt_labels s) w ss) in omega (arith, i, j, a)

  switched_held : (n c : ℕ) (w : Ways) (s : TypedStmt) → above_all (switched_ops n c w s) ≤ 2 + 2 * stmt_pend s
  switched_held n c w (Compound items) = items_held n c w items
  switched_held n c w (InitLocal name) = omega arith
  switched_held n c w (Expression value) = omega arith
  switched_held n c w (If test body) = omega arith
  switched_held n c w (IfElse test when_true when_false) = omega arith
  switched_held n c w (While test body) = omega arith
  switched_held n c w (DoWhile body test) = omega arith
  switched_held n c w (For start test step body) = omega arith
  switched_held n c w (Switch value body) = omega arith
  switched_held n c w Break = omega arith
  switched_held n c w Continue = omega arith
  switched_held n c w (Return value) = omega arith
  switched_held n c w (Case value of body) = omega arith
  switched_held n c w (Default body) = omega arith

  items_held : (n c : ℕ) (w : Ways) (ss : TypedStmts) → above_all (items_ops n c w ss) ≤ 2 + 2 * stmts_pend ss
  items_held n c w NoTStmts = omega arith
  items_held n c w (ConsTStmt s ss) =
      let l = cases_held c (stmt_cases s) in let i = stmt_held n w s in let j = items_held (n + stmt_labels s) (c + stmt_cases s) w ss in
      let a = append_is (stmt_ops n w s) (items_ops (n + stmt_labels s) (c + stmt_cases s) w ss) in
      let b = append_is (case_labels c (stmt_cases s)) (stmt_ops n w s ++ items_ops (n + stmt_labels s) (c + stmt_cases s) w ss) in
      omega (arith, l, i, j, a, b)

end_held : (f : FunctionTree) → above_all (end_ops f) ≤ 1
unfolding above above_all
end_held f = by_void (gives_nothing f.of)
  where
    by_void : (void : Bool) → above_all (if void then op.Return None ∷ [] else op.Const 0 0 ∷ op.Return (Some 0) ∷ []) ≤ 1
    by_void true = omega arith
    by_void false = omega arith

-- the layer below has a frame for it within what an open call weighs: its locals and these temporaries
pub function_held : (f : FunctionTree) → held (lowered_function f) ≤ 2 * stmt_pend f.body + 4
function_held f = let i = stmt_held 0 no_ways f.body in let e = end_held f in let a = append_is (stmt_ops 0 no_ways f.body) (end_ops f) in omega (arith, i, e, a)

locals_are : (ls : List LocalTree) → sum_by rounded (map lowered_local ls) ≡ sizes_of ls
unfolding sizes_of
locals_are [] = refl
locals_are (l ∷ ls) = sum_by-cons rounded (lowered_local l) (map lowered_local ls) ∙ ap (λ n. next_multiple_of l.size 8 + n) (locals_are ls)

pub function_bytes : (f : FunctionTree) → bytes (lowered_function f) ≡ sizes_of f.locals
function_bytes f = locals_are f.locals

pub frame_within : (f : FunctionTree) → frame_bound (lowered_function f) ≤ weight_of f
frame_within f = let h = function_held f in let b = function_bytes f in omega (arith, h, b)
