-- What is counted on a function of the code is what is counted on it as plain data, whatever names and types stand for.
use Rattle.std.proofs.Common.{◌≡◌, ℕ, suc, ◌+◌, ◌*◌, max, List, [], ◌∷◌, map, Option, Some, None, option_map, refl, sym, ap, ◌∙◌, subst}
use Rattle.std.specs.Int.{next_multiple_of}
use Rattle.pa_ctype.specs.Types.{TypeTree}
use Rattle.pa_typed.specs.declared.expr.TExpr.{TExpr, fold-TExpr, fold-roll-TExpr}
use Rattle.pa_typed.specs.declared.expr.TExpr.TheOpen.{TExpr-F}
use Rattle.pa_typed.specs.declared.expr.TExpr.TheFolds.{ind-TExpr, map-TExpr}
use Rattle.pa_typed.specs.declared.stmt.Given.{Given}
use Rattle.pa_typed.specs.declared.stmt.Given.TheVariants as vGiven
use Rattle.pa_typed.specs.declared.stmt.Initial.{Initial}
use Rattle.pa_typed.specs.declared.stmt.LocalInit.{LocalInit}
use Rattle.pa_typed.specs.declared.stmt.TForStart.{TForStart}
use Rattle.pa_typed.specs.declared.stmt.TForStart.TheVariants as vTForStart
use Rattle.pa_typed.specs.declared.stmt.TStmt.{TStmt, fold-TStmt, fold-roll-TStmt}
use Rattle.pa_typed.specs.declared.stmt.TStmt.TheOpen.{TStmt-F}
use Rattle.pa_typed.specs.declared.stmt.TStmt.TheFolds.{ind-TStmt, map-TStmt}
use Rattle.pa_typed.specs.declared.unit.CLocal.{CLocal}
use Rattle.pa_typed.specs.declared.unit.Function.{Function}
use Rattle.pa_typed.specs.Typed.{TypedExpr, TypedStmt}
use Rattle.pa_typed.specs.Counts.{expr_pend, parts_pend, part_count, maybe_pend, given_pend, initials_pend, name_initials_pend, names_pend, start_pend, stmt_pend, stmts_pend, locals_bytes, pend, weight}
use Rattle.pa_typed.specs.Units.{sizes_of, weight_of, local_tree, function_tree}
use Rattle.pa_typed.specs.Views.{t_exprs_of, t_stmts_of, t_expr_layer, t_expr_tree, given_tree, initial_tree, local_init_tree, t_for_start_tree, t_stmt_layer, t_stmt_tree, no_name, no_type, bare_expr, bare_given, bare_initial, bare_local_init, bare_for_start, bare_stmt}

module _ (names : ℕ → List ℕ) (m : ℕ → TypeTree) where
  abbrev tree : TExpr → TypedExpr
  tree = t_expr_tree names m

  abbrev IsPend : TExpr → Type 0
  IsPend e = expr_pend (tree e) ≡ expr_pend (bare_expr e)

  -- an expression with what is to be shown of it
  abbrev Shown : Type 0
  Shown = (e : TExpr) × IsPend e

  parts_are : (before : ℕ) (es : List Shown) → parts_pend before (t_exprs_of (map tree (map (λ e. e.0) es))) ≡ parts_pend before (t_exprs_of (map bare_expr (map (λ e. e.0) es)))
  parts_are before [] = refl
  parts_are before (e ∷ es) = rw (e.1, parts_are (suc before) es) refl

  count_is : (es : List Shown) → part_count (t_exprs_of (map tree (map (λ e. e.0) es))) ≡ part_count (t_exprs_of (map bare_expr (map (λ e. e.0) es)))
  count_is [] = refl
  count_is (e ∷ es) = ap suc (count_is es)

  abbrev AreSame : TExpr-F TExpr → Type 0
  AreSame x = expr_pend (t_expr_layer names m (map-TExpr TExpr TypedExpr tree x)) ≡ expr_pend (t_expr_layer no_name no_type (map-TExpr TExpr TypedExpr bare_expr x))

  layer_is : (y : TExpr-F Shown) → AreSame (map-TExpr Shown TExpr (λ e. e.0) y)
  layer_is (TExpr-F.LocalPlace local of) = refl
  layer_is (TExpr-F.GlobalPlace name place of) = refl
  layer_is (TExpr-F.StringPlace text of) = refl
  layer_is (TExpr-F.Same of) = refl
  layer_is (TExpr-F.Member owner index offset of) = owner.1
  layer_is (TExpr-F.Index left right pointer_left of) = rw (left.1, right.1) refl
  layer_is (TExpr-F.Deref pointer of) = pointer.1
  layer_is (TExpr-F.Number value of) = refl
  layer_is (TExpr-F.Load from of) = from.1
  layer_is (TExpr-F.LoadSigned from schema of) = from.1
  layer_is (TExpr-F.Store to value old of) = rw (to.1, value.1) refl
  layer_is (TExpr-F.StoreSigned to value old schema of) = rw (to.1, value.1) refl
  layer_is (TExpr-F.AddressOf at of) = at.1
  layer_is (TExpr-F.FunctionValue name place of) = refl
  layer_is (TExpr-F.Convert value of) = value.1
  layer_is (TExpr-F.Unary op value of) = value.1
  layer_is (TExpr-F.Binary op left right of) = rw (left.1, right.1) refl
  layer_is (TExpr-F.PointerAdd left right pointer_left subtracts of) = rw (left.1, right.1) refl
  layer_is (TExpr-F.PointerSub left right of) = rw (left.1, right.1) refl
  layer_is (TExpr-F.Compare op left right of) = rw (left.1, right.1) refl
  layer_is (TExpr-F.And left right of) = rw (left.1, right.1) refl
  layer_is (TExpr-F.Or left right of) = rw (left.1, right.1) refl
  layer_is (TExpr-F.Choose test when_true when_false of) = rw (test.1, when_true.1, when_false.1) refl
  layer_is (TExpr-F.Comma first second of) = rw (first.1, second.1) refl
  layer_is (TExpr-F.CallDirect name place arguments of) = ap (max 1) (parts_are 0 arguments)
  layer_is (TExpr-F.CallPointer arguments function of) = rw (parts_are 0 arguments, count_is arguments, function.1) refl

  pub expr_pend_is : (e : TExpr) → IsPend e
  unfolding t_expr_tree
  expr_pend_is = ind-TExpr IsPend (λ x y is.
      ap expr_pend (fold-roll-TExpr TypedExpr (t_expr_layer names m) x) ∙ subst AreSame is (layer_is y) ∙ sym (ap expr_pend (fold-roll-TExpr TypedExpr (t_expr_layer no_name no_type) x)))

  maybe_is : (e : Option TExpr) → maybe_pend (option_map tree e) ≡ maybe_pend (option_map bare_expr e)
  maybe_is None = refl
  maybe_is (Some e) = expr_pend_is e

  given_is : (g : Given) → given_pend (given_tree names m g) ≡ given_pend (bare_given g)
  given_is (vGiven.Value value) = expr_pend_is value
  given_is (vGiven.Text text) = refl

  initials_are : (is : List Initial) → initials_pend (map (initial_tree names m) is) ≡ initials_pend (map bare_initial is)
  initials_are [] = refl
  initials_are (i ∷ is) = rw (given_is i.given, initials_are is) refl

  name_is : (is : Option (List Initial)) → name_initials_pend (option_map (map (initial_tree names m)) is) ≡ name_initials_pend (option_map (map bare_initial) is)
  name_is None = refl
  name_is (Some is) = initials_are is

  names_are : (ls : List LocalInit) → names_pend (map (local_init_tree names m) ls) ≡ names_pend (map bare_local_init ls)
  names_are [] = refl
  names_are (l ∷ ls) = rw (name_is l.initials, names_are ls) refl

  start_is : (s : TForStart) → start_pend (t_for_start_tree names m s) ≡ start_pend (bare_for_start s)
  start_is (vTForStart.Declares ls) = names_are ls
  start_is (vTForStart.Evaluates value) = maybe_is value

  abbrev stmt_tree : TStmt → TypedStmt
  stmt_tree = t_stmt_tree names m

  abbrev IsStmtPend : TStmt → Type 0
  IsStmtPend s = stmt_pend (stmt_tree s) ≡ stmt_pend (bare_stmt s)

  abbrev ShownStmt : Type 0
  ShownStmt = (s : TStmt) × IsStmtPend s

  stmts_are : (ss : List ShownStmt) → stmts_pend (t_stmts_of (map stmt_tree (map (λ s. s.0) ss))) ≡ stmts_pend (t_stmts_of (map bare_stmt (map (λ s. s.0) ss)))
  stmts_are [] = refl
  stmts_are (s ∷ ss) = rw (s.1, stmts_are ss) refl

  abbrev AreSameStmts : TStmt-F TStmt → Type 0
  AreSameStmts x = stmt_pend (t_stmt_layer names m (map-TStmt TStmt TypedStmt stmt_tree x)) ≡ stmt_pend (t_stmt_layer no_name no_type (map-TStmt TStmt TypedStmt bare_stmt x))

  stmt_layer_is : (y : TStmt-F ShownStmt) → AreSameStmts (map-TStmt ShownStmt TStmt (λ s. s.0) y)
  stmt_layer_is (TStmt-F.Compound items) = stmts_are items
  stmt_layer_is (TStmt-F.InitLocal name) = name_is name.initials
  stmt_layer_is (TStmt-F.Expression value) = maybe_is value
  stmt_layer_is (TStmt-F.If test body) = rw (expr_pend_is test, body.1) refl
  stmt_layer_is (TStmt-F.IfElse test when_true when_false) = rw (expr_pend_is test, when_true.1, when_false.1) refl
  stmt_layer_is (TStmt-F.While test body) = rw (expr_pend_is test, body.1) refl
  stmt_layer_is (TStmt-F.DoWhile body test) = rw (expr_pend_is test, body.1) refl
  stmt_layer_is (TStmt-F.For start test step body) = rw (start_is start, maybe_is test, maybe_is step, body.1) refl
  stmt_layer_is (TStmt-F.Switch value body) = rw (expr_pend_is value, body.1) refl
  stmt_layer_is (TStmt-F.Case value of body) = ap (max 1) body.1
  stmt_layer_is (TStmt-F.Default body) = body.1
  stmt_layer_is TStmt-F.Break = refl
  stmt_layer_is TStmt-F.Continue = refl
  stmt_layer_is (TStmt-F.Return value) = maybe_is value

  pub stmt_pend_is : (s : TStmt) → IsStmtPend s
  unfolding t_stmt_tree
  stmt_pend_is = ind-TStmt IsStmtPend (λ x y is.
      ap stmt_pend (fold-roll-TStmt TypedStmt (t_stmt_layer names m) x) ∙ subst AreSameStmts is (stmt_layer_is y) ∙ sym (ap stmt_pend (fold-roll-TStmt TypedStmt (t_stmt_layer no_name no_type) x)))

  sizes_are : (ls : List CLocal) → sizes_of (map (local_tree names m) ls) ≡ locals_bytes ls
  unfolding sizes_of
  sizes_are [] = refl
  sizes_are (l ∷ ls) = ap (λ n. next_multiple_of l.size 8 + n) (sizes_are ls)

  pub weight_is : (f : Function) → weight f ≡ weight_of (function_tree names m f)
  unfolding pend
  weight_is f = rw (sizes_are f.locals, stmt_pend_is f.body) refl
