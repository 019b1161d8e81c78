-- A numbered tree is the moved tree of the file, where the numbers stand for what they stood for in the file.
use Rattle.std.proofs.Common.{◌≡◌, ℕ, ◌+◌, List, [], ◌∷◌, map, Option, Some, None, refl, sym, ap, ◌∙◌, subst}
use Rattle.std.specs.Option.{option_map}
use Rattle.pa_ctype.specs.Types.{TypeTree}
use Rattle.pa_typed.specs.declared.expr.TExpr.{TExpr, fold-roll-TExpr}
use Rattle.pa_typed.specs.declared.expr.TExpr.TheOpen.{TExpr-F}
use Rattle.pa_typed.specs.declared.expr.TExpr.TheFolds.{ind-TExpr, map-TExpr}
use Rattle.pa_typed.specs.declared.stmt.Given.{Given}
use Rattle.pa_typed.specs.declared.stmt.Given.TheVariants as vGiven
use Rattle.pa_typed.specs.declared.stmt.Initial.{Initial}
use Rattle.pa_typed.specs.declared.stmt.LocalInit.{LocalInit}
use Rattle.pa_typed.specs.declared.stmt.TForStart.{TForStart}
use Rattle.pa_typed.specs.declared.stmt.TForStart.TheVariants as vTForStart
use Rattle.pa_typed.specs.declared.stmt.TStmt.{TStmt, fold-roll-TStmt}
use Rattle.pa_typed.specs.declared.stmt.TStmt.TheOpen.{TStmt-F}
use Rattle.pa_typed.specs.declared.stmt.TStmt.TheFolds.{ind-TStmt, map-TStmt}
use Rattle.pa_typed.specs.declared.unit.Cell.{Cell}
use Rattle.pa_typed.specs.declared.unit.CLocal.{CLocal}
use Rattle.pa_typed.specs.declared.unit.CGlobal.{CGlobal}
use Rattle.pa_typed.specs.declared.unit.Declared.{Declared}
use Rattle.pa_typed.specs.declared.unit.Function.{Function}
use Rattle.pa_typed.specs.Typed as ty
use Rattle.pa_typed.specs.Typed.{TypedExpr, TypedStmt}
use Rattle.pa_typed.specs.Units.{local_tree, function_tree, cell_tree, global_tree, declared_tree}
use Rattle.pa_typed.specs.Views.{t_exprs_of, t_stmts_of, t_expr_layer, t_expr_tree, given_tree, initial_tree, local_init_tree, t_for_start_tree, t_stmt_layer, t_stmt_tree}
use Rattle.pa_typed.proofs.Views.{tree-LocalPlace, tree-GlobalPlace, tree-StringPlace, tree-Same, tree-Member, tree-Index, tree-Deref, tree-Number, tree-Load, tree-LoadSigned, tree-Store, tree-StoreSigned, tree-AddressOf, tree-FunctionValue, tree-Convert, tree-Unary, tree-Binary, tree-PointerAdd, tree-PointerSub, tree-Compare, tree-And, tree-Or, tree-Choose, tree-Comma, tree-CallDirect, tree-CallPointer, tree-Compound, tree-InitLocal, tree-Expression, tree-If, tree-IfElse, tree-While, tree-DoWhile, tree-For, tree-Switch, tree-Case, tree-Default, tree-Break, tree-Continue, tree-Return}
use Rattle.pa_link.specs.declared.numbering.Numbering.{Numbering}
use Rattle.pa_link.specs.Moved.{Move, moved_expr, moved_exprs, moved_given, moved_initial, moved_local_init, moved_start, moved_stmt, moved_stmts, moved_local, moved_function, moved_cell, moved_global, moved_declared}
use Rattle.pa_link.specs.Numbering.{name_number, numbered_type, expr_layer, numbered_expr, numbered_given, numbered_initial, numbered_local_init, numbered_start, stmt_layer, numbered_stmt, numbered_local, numbered_function, numbered_cell, numbered_global, numbered_declared}
use Rattle.pa_link.specs.Agreeing.{Agrees}

module _ (n : Numbering) (mv : Move) (nu np : ℕ → List ℕ) (mu mp : ℕ → TypeTree) (agrees : Agrees n mv nu np mu mp) where
  abbrev before : TExpr → TypedExpr
  before = t_expr_tree nu mu

  abbrev after : TExpr → TypedExpr
  after = t_expr_tree np mp

  abbrev IsMoved : TExpr → Type 0
  IsMoved e = after (numbered_expr n e) ≡ moved_expr mv (before e)

  -- an expression with what is to be shown of it
  abbrev Shown : Type 0
  Shown = (e : TExpr) × IsMoved e

  exprs_are : (es : List Shown) → t_exprs_of (map after (map (numbered_expr n) (map (λ e. e.0) es))) ≡ moved_exprs mv (t_exprs_of (map before (map (λ e. e.0) es)))
  unfolding moved_exprs
  exprs_are [] = refl
  exprs_are (e ∷ es) = rw (e.1, exprs_are es) refl

  abbrev AreMoved : TExpr-F TExpr → Type 0
  AreMoved x = after (expr_layer n (map-TExpr TExpr TExpr (numbered_expr n) x)) ≡ moved_expr mv (t_expr_layer nu mu (map-TExpr TExpr TypedExpr before x))

  layer_is : (y : TExpr-F Shown) → AreMoved (map-TExpr Shown TExpr (λ e. e.0) y)
  unfolding moved_expr
  layer_is (TExpr-F.LocalPlace local of) = tree-LocalPlace np mp local (numbered_type n of) ∙ rw (agrees.types of.number) refl
  layer_is (TExpr-F.GlobalPlace name place of) = tree-GlobalPlace np mp (name_number n name) place (numbered_type n of) ∙ rw (agrees.names name, agrees.types of.number) refl
  layer_is (TExpr-F.StringPlace text of) = tree-StringPlace np mp (n.texts + text) (numbered_type n of) ∙ rw (agrees.texts, agrees.types of.number) refl
  layer_is (TExpr-F.Same of) = tree-Same np mp (numbered_type n of) ∙ rw (agrees.types of.number) refl
  layer_is (TExpr-F.Member owner index offset of) = tree-Member np mp (numbered_expr n owner.0) index offset (numbered_type n of) ∙ rw (owner.1, agrees.types of.number) refl
  layer_is (TExpr-F.Index left right pointer_left of) = tree-Index np mp (numbered_expr n left.0) (numbered_expr n right.0) pointer_left (numbered_type n of) ∙ rw (left.1, right.1, agrees.types of.number) refl
  layer_is (TExpr-F.Deref pointer of) = tree-Deref np mp (numbered_expr n pointer.0) (numbered_type n of) ∙ rw (pointer.1, agrees.types of.number) refl
  layer_is (TExpr-F.Number value of) = tree-Number np mp value (numbered_type n of) ∙ rw (agrees.types of.number) refl
  layer_is (TExpr-F.Load from of) = tree-Load np mp (numbered_expr n from.0) (numbered_type n of) ∙ rw (from.1, agrees.types of.number) refl
  layer_is (TExpr-F.LoadSigned from schema of) = tree-LoadSigned np mp (numbered_expr n from.0) schema (numbered_type n of) ∙ rw (from.1, agrees.types of.number) refl
  layer_is (TExpr-F.Store to value old of) = tree-Store np mp (numbered_expr n to.0) (numbered_expr n value.0) old (numbered_type n of) ∙ rw (to.1, value.1, agrees.types of.number) refl
  layer_is (TExpr-F.StoreSigned to value old schema of) = tree-StoreSigned np mp (numbered_expr n to.0) (numbered_expr n value.0) old schema (numbered_type n of) ∙ rw (to.1, value.1, agrees.types of.number) refl
  layer_is (TExpr-F.AddressOf at of) = tree-AddressOf np mp (numbered_expr n at.0) (numbered_type n of) ∙ rw (at.1, agrees.types of.number) refl
  layer_is (TExpr-F.FunctionValue name place of) = tree-FunctionValue np mp (name_number n name) place (numbered_type n of) ∙ rw (agrees.names name, agrees.types of.number) refl
  layer_is (TExpr-F.Convert value of) = tree-Convert np mp (numbered_expr n value.0) (numbered_type n of) ∙ rw (value.1, agrees.types of.number) refl
  layer_is (TExpr-F.Unary op value of) = tree-Unary np mp op (numbered_expr n value.0) (numbered_type n of) ∙ rw (value.1, agrees.types of.number) refl
  layer_is (TExpr-F.Binary op left right of) = tree-Binary np mp op (numbered_expr n left.0) (numbered_expr n right.0) (numbered_type n of) ∙ rw (left.1, right.1, agrees.types of.number) refl
  layer_is (TExpr-F.PointerAdd left right pointer_left subtracts of) = tree-PointerAdd np mp (numbered_expr n left.0) (numbered_expr n right.0) pointer_left subtracts (numbered_type n of) ∙ rw (left.1, right.1, agrees.types of.number) refl
  layer_is (TExpr-F.PointerSub left right of) = tree-PointerSub np mp (numbered_expr n left.0) (numbered_expr n right.0) (numbered_type n of) ∙ rw (left.1, right.1, agrees.types of.number) refl
  layer_is (TExpr-F.Compare op left right of) = tree-Compare np mp op (numbered_expr n left.0) (numbered_expr n right.0) (numbered_type n of) ∙ rw (left.1, right.1, agrees.types of.number) refl
  layer_is (TExpr-F.And left right of) = tree-And np mp (numbered_expr n left.0) (numbered_expr n right.0) (numbered_type n of) ∙ rw (left.1, right.1, agrees.types of.number) refl
  layer_is (TExpr-F.Or left right of) = tree-Or np mp (numbered_expr n left.0) (numbered_expr n right.0) (numbered_type n of) ∙ rw (left.1, right.1, agrees.types of.number) refl
  layer_is (TExpr-F.Choose test when_true when_false of) = tree-Choose np mp (numbered_expr n test.0) (numbered_expr n when_true.0) (numbered_expr n when_false.0) (numbered_type n of) ∙ rw (test.1, when_true.1, when_false.1, agrees.types of.number) refl
  layer_is (TExpr-F.Comma first second of) = tree-Comma np mp (numbered_expr n first.0) (numbered_expr n second.0) (numbered_type n of) ∙ rw (first.1, second.1, agrees.types of.number) refl
  layer_is (TExpr-F.CallDirect name place arguments of) = tree-CallDirect np mp (name_number n name) place (map (numbered_expr n) (map (λ e. e.0) arguments)) (numbered_type n of) ∙ rw (agrees.names name, exprs_are arguments, agrees.types of.number) refl
  layer_is (TExpr-F.CallPointer arguments function of) = tree-CallPointer np mp (map (numbered_expr n) (map (λ e. e.0) arguments)) (numbered_expr n function.0) (numbered_type n of) ∙ rw (exprs_are arguments, function.1, agrees.types of.number) refl

  pub expr_moved : (e : TExpr) → IsMoved e
  unfolding numbered_expr t_expr_tree
  expr_moved = ind-TExpr IsMoved (λ x y is.
      ap after (fold-roll-TExpr TExpr (expr_layer n) x) ∙ subst AreMoved is (layer_is y) ∙ sym (ap (moved_expr mv) (fold-roll-TExpr TypedExpr (t_expr_layer nu mu) x)))

  maybe_moved : (e : Option TExpr) → option_map after (option_map (numbered_expr n) e) ≡ option_map (moved_expr mv) (option_map before e)
  maybe_moved None = refl
  maybe_moved (Some e) = ap Some (expr_moved e)

  given_moved : (g : Given) → given_tree np mp (numbered_given n g) ≡ moved_given mv (given_tree nu mu g)
  given_moved (vGiven.Value value) = ap ty.GivenValue (expr_moved value)
  given_moved (vGiven.Text text) = rw agrees.texts refl

  initials_moved : (is : List Initial) → map (initial_tree np mp) (map (numbered_initial n) is) ≡ map (moved_initial mv) (map (initial_tree nu mu) is)
  initials_moved [] = refl
  initials_moved (i ∷ is) = rw (agrees.types i.of.number, given_moved i.given, initials_moved is) refl

  local_init_moved : (l : LocalInit) → local_init_tree np mp (numbered_local_init n l) ≡ moved_local_init mv (local_init_tree nu mu l)
  local_init_moved l = rw (by l.initials) refl
    where
      by : (o : Option (List Initial)) → option_map (map (initial_tree np mp)) (option_map (map (numbered_initial n)) o) ≡ option_map (map (moved_initial mv)) (option_map (map (initial_tree nu mu)) o)
      by None = refl
      by (Some is) = ap Some (initials_moved is)

  local_inits_moved : (ls : List LocalInit) → map (local_init_tree np mp) (map (numbered_local_init n) ls) ≡ map (moved_local_init mv) (map (local_init_tree nu mu) ls)
  local_inits_moved [] = refl
  local_inits_moved (l ∷ ls) = rw (local_init_moved l, local_inits_moved ls) refl

  start_moved : (s : TForStart) → t_for_start_tree np mp (numbered_start n s) ≡ moved_start mv (t_for_start_tree nu mu s)
  start_moved (vTForStart.Declares names) = ap ty.Declares (local_inits_moved names)
  start_moved (vTForStart.Evaluates value) = ap ty.Evaluates (maybe_moved value)

  abbrev stmt_before : TStmt → TypedStmt
  stmt_before = t_stmt_tree nu mu

  abbrev stmt_after : TStmt → TypedStmt
  stmt_after = t_stmt_tree np mp

  abbrev IsMovedStmt : TStmt → Type 0
  IsMovedStmt s = stmt_after (numbered_stmt n s) ≡ moved_stmt mv (stmt_before s)

  abbrev ShownStmt : Type 0
  ShownStmt = (s : TStmt) × IsMovedStmt s

  stmts_are : (ss : List ShownStmt) → t_stmts_of (map stmt_after (map (numbered_stmt n) (map (λ s. s.0) ss))) ≡ moved_stmts mv (t_stmts_of (map stmt_before (map (λ s. s.0) ss)))
  unfolding moved_stmts
  stmts_are [] = refl
  stmts_are (s ∷ ss) = rw (s.1, stmts_are ss) refl

  abbrev AreMovedStmts : TStmt-F TStmt → Type 0
  AreMovedStmts x = stmt_after (stmt_layer n (map-TStmt TStmt TStmt (numbered_stmt n) x)) ≡ moved_stmt mv (t_stmt_layer nu mu (map-TStmt TStmt TypedStmt stmt_before x))

  stmt_layer_is : (y : TStmt-F ShownStmt) → AreMovedStmts (map-TStmt ShownStmt TStmt (λ s. s.0) y)
  unfolding moved_stmt
  stmt_layer_is (TStmt-F.Compound items) = tree-Compound np mp (map (numbered_stmt n) (map (λ s. s.0) items)) ∙ rw (stmts_are items) refl
  stmt_layer_is (TStmt-F.InitLocal name) = tree-InitLocal np mp (numbered_local_init n name) ∙ rw (local_init_moved name) refl
  stmt_layer_is (TStmt-F.Expression value) = tree-Expression np mp (option_map (numbered_expr n) value) ∙ rw (maybe_moved value) refl
  stmt_layer_is (TStmt-F.If test body) = tree-If np mp (numbered_expr n test) (numbered_stmt n body.0) ∙ rw (expr_moved test, body.1) refl
  stmt_layer_is (TStmt-F.IfElse test when_true when_false) = tree-IfElse np mp (numbered_expr n test) (numbered_stmt n when_true.0) (numbered_stmt n when_false.0) ∙ rw (expr_moved test, when_true.1, when_false.1) refl
  stmt_layer_is (TStmt-F.While test body) = tree-While np mp (numbered_expr n test) (numbered_stmt n body.0) ∙ rw (expr_moved test, body.1) refl
  stmt_layer_is (TStmt-F.DoWhile body test) = tree-DoWhile np mp (numbered_stmt n body.0) (numbered_expr n test) ∙ rw (body.1, expr_moved test) refl
  stmt_layer_is (TStmt-F.For start test step body) = tree-For np mp (numbered_start n start) (option_map (numbered_expr n) test) (option_map (numbered_expr n) step) (numbered_stmt n body.0) ∙ rw (start_moved start, maybe_moved test, maybe_moved step, body.1) refl
  stmt_layer_is (TStmt-F.Switch value body) = tree-Switch np mp (numbered_expr n value) (numbered_stmt n body.0) ∙ rw (expr_moved value, body.1) refl
  stmt_layer_is (TStmt-F.Case value of body) = tree-Case np mp value (numbered_type n of) (numbered_stmt n body.0) ∙ rw (agrees.types of.number, body.1) refl
  stmt_layer_is (TStmt-F.Default body) = tree-Default np mp (numbered_stmt n body.0) ∙ rw (body.1) refl
  stmt_layer_is TStmt-F.Break = tree-Break np mp
  stmt_layer_is TStmt-F.Continue = tree-Continue np mp
  stmt_layer_is (TStmt-F.Return value) = tree-Return np mp (option_map (numbered_expr n) value) ∙ rw (maybe_moved value) refl

  pub stmt_moved : (s : TStmt) → IsMovedStmt s
  unfolding numbered_stmt t_stmt_tree
  stmt_moved = ind-TStmt IsMovedStmt (λ x y is.
      ap stmt_after (fold-roll-TStmt TStmt (stmt_layer n) x) ∙ subst AreMovedStmts is (stmt_layer_is y) ∙ sym (ap (moved_stmt mv) (fold-roll-TStmt TypedStmt (t_stmt_layer nu mu) x)))

  locals_moved : (ls : List CLocal) → map (local_tree np mp) (map (numbered_local n) ls) ≡ map (moved_local mv) (map (local_tree nu mu) ls)
  locals_moved [] = refl
  locals_moved (l ∷ ls) = rw (agrees.types l.of, locals_moved ls) refl

  function_moved : (f : Function) → function_tree np mp (numbered_function n f) ≡ moved_function mv (function_tree nu mu f)
  function_moved f = rw (agrees.names f.name, agrees.types f.of, locals_moved f.locals, stmt_moved f.body) refl

  pub functions_moved : (fs : List Function) → map (function_tree np mp) (map (numbered_function n) fs) ≡ map (moved_function mv) (map (function_tree nu mu) fs)
  functions_moved [] = refl
  functions_moved (f ∷ fs) = rw (function_moved f, functions_moved fs) refl

  cells_moved : (cs : List Cell) → map (cell_tree np mp) (map (numbered_cell n) cs) ≡ map (moved_cell mv) (map (cell_tree nu mu) cs)
  cells_moved [] = refl
  cells_moved (c ∷ cs) = rw (agrees.types c.of.number, expr_moved c.value, cells_moved cs) refl

  global_moved : (g : CGlobal) → global_tree np mp (numbered_global n g) ≡ moved_global mv (global_tree nu mu g)
  global_moved g = rw (agrees.names g.name, agrees.types g.of, cells_moved g.cells) refl

  pub globals_moved : (gs : List CGlobal) → map (global_tree np mp) (map (numbered_global n) gs) ≡ map (moved_global mv) (map (global_tree nu mu) gs)
  globals_moved [] = refl
  globals_moved (g ∷ gs) = rw (global_moved g, globals_moved gs) refl

  pub declareds_moved : (ds : List Declared) → map (declared_tree np mp) (map (numbered_declared n) ds) ≡ map (moved_declared mv) (map (declared_tree nu mu) ds)
  declareds_moved [] = refl
  declareds_moved (d ∷ ds) = rw (agrees.names d.name, agrees.types d.of, declareds_moved ds) refl
