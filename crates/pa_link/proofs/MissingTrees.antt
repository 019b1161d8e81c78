-- The first use of a name that isn't defined, on trees of the code and on those as plain data.
use Rattle.std.proofs.Common.{◌≡◌, ℕ, min, nat_lt, Bool, List, [], ◌∷◌, ◌++◌, map, Option, Some, None, refl, sym, ap, ◌∙◌, subst, arith}
use Rattle.std.specs.Option.{option_map}
use Rattle.std.specs.Prelude.{flat_map, filter_map, if◌then◌else◌}
use Rattle.std.specs.List.{cons_option}
use Rattle.std.proofs.lemmas.Bool.Decides.{nat_tests}
use Rattle.pa_ctype.specs.Types.{TypeTree}
use Rattle.pa_typed.specs.declared.expr.TExpr.{TExpr, fold-roll-TExpr}
use Rattle.pa_typed.specs.declared.expr.TExpr.TheOpen.{TExpr-F}
use Rattle.pa_typed.specs.declared.expr.TExpr.TheFolds.{ind-TExpr, map-TExpr}
use Rattle.pa_typed.specs.declared.stmt.Given.{Given}
use Rattle.pa_typed.specs.declared.stmt.Given.TheVariants as vGiven
use Rattle.pa_typed.specs.declared.stmt.Initial.{Initial}
use Rattle.pa_typed.specs.declared.stmt.LocalInit.{LocalInit}
use Rattle.pa_typed.specs.declared.stmt.TForStart.{TForStart}
use Rattle.pa_typed.specs.declared.stmt.TForStart.TheVariants as vTForStart
use Rattle.pa_typed.specs.declared.stmt.TStmt.{TStmt, fold-roll-TStmt}
use Rattle.pa_typed.specs.declared.stmt.TStmt.TheOpen.{TStmt-F}
use Rattle.pa_typed.specs.declared.stmt.TStmt.TheFolds.{ind-TStmt, map-TStmt}
use Rattle.pa_typed.specs.declared.unit.Cell.{Cell}
use Rattle.pa_typed.specs.declared.unit.CGlobal.{CGlobal}
use Rattle.pa_typed.specs.declared.unit.Function.{Function}
use Rattle.pa_typed.specs.Typed.{TypedExpr, TypedStmt}
use Rattle.pa_typed.specs.Units.{ProgramTree, function_tree, cell_tree, global_tree}
use Rattle.pa_typed.specs.Views.{t_exprs_of, t_stmts_of, t_expr_layer, t_expr_tree, given_tree, initial_tree, local_init_tree, t_for_start_tree, t_stmt_layer, t_stmt_tree}
use Rattle.pa_link.specs.declared.definitions.Definitions.{Definitions}
use Rattle.pa_link.specs.Uses.{Use, expr_uses, exprs_uses, maybe_uses, given_uses, initial_uses, initials_uses, local_init_uses, start_uses, stmt_uses, stmts_uses, function_uses, cell_uses, global_uses, uses}
use Rattle.pa_link.specs.Program.{is_defined, missing, less, least}
use Rattle.pa_link.specs.Missing.{earlier, earliest, has, use_missing, expr_layer, expr_missing, maybe_missing, given_missing, initial_missing, initials_missing, local_init_missing, start_missing, stmt_layer, stmt_missing, function_missing, cell_missing, global_missing}
use Rattle.pa_link.proofs.Earlier.{earlier-none, earlier-assoc}

less-min : (a b : ℕ) → (if nat_lt a b then a else b) ≡ min b a
less-min a b = grind (arith, nat_tests)

less-earlier : (a : Option ℕ) (n : ℕ) → Some (less a n) ≡ earlier (Some n) a
less-earlier None n = refl
less-earlier (Some a) n = ap Some (less-min a n)

module _ (d : Definitions) (program : ProgramTree) (names : ℕ → List ℕ) (m : ℕ → TypeTree)
    (knows : (i : ℕ) → has d i ≡ is_defined program (names i)) where
  -- the first place of uses
  abbrev first_of : List Use → Option ℕ
  first_of us = least (filter_map (missing program) us)

  first-cons : (u : Use) (us : List Use) → first_of (u ∷ us) ≡ earlier (missing program u) (first_of us)
  unfolding least
  first-cons u us = by (missing program u)
    where
      by : (o : Option ℕ) → least (cons_option o (filter_map (missing program) us)) ≡ earlier o (first_of us)
      by None = refl
      by (Some n) = less-earlier (first_of us) n

  pub first-append : (us vs : List Use) → first_of (us ++ vs) ≡ earlier (first_of us) (first_of vs)
  unfolding least
  first-append [] vs = refl
  first-append (u ∷ us) vs = first-cons u (us ++ vs) ∙ ap (earlier (missing program u)) (first-append us vs) ∙ sym (earlier-assoc (missing program u) (first_of us) (first_of vs)) ∙ ap (λ o. earlier o (first_of vs)) (sym (first-cons u us))

  use_is : (name place : ℕ) → first_of (record { name = names name; place = place } ∷ []) ≡ use_missing d name place
  unfolding least
  use_is name place =
      let u : Use = record { name = names name; place = place } in
      let choice : Bool → Option ℕ = λ b. if b then None else Some place in
      first-cons u [] ∙ earlier-none (missing program u) ∙ sym (ap choice (knows name))

  abbrev tree : TExpr → TypedExpr
  tree = t_expr_tree names m

  abbrev IsFirst : TExpr → Type 0
  IsFirst e = first_of (expr_uses (tree e)) ≡ expr_missing d e

  abbrev Shown : Type 0
  Shown = (e : TExpr) × IsFirst e

  exprs_are : (es : List Shown) → first_of (exprs_uses (t_exprs_of (map tree (map (λ e. e.0) es)))) ≡ earliest (map (expr_missing d) (map (λ e. e.0) es))
  unfolding exprs_uses least
  exprs_are [] = refl
  exprs_are (e ∷ es) = first-append (expr_uses (tree e.0)) (exprs_uses (t_exprs_of (map tree (map (λ e. e.0) es)))) ∙ rw (e.1, exprs_are es) refl

  -- of two parts, and of three
  two : (us vs : List Use) (a b : Option ℕ) → first_of us ≡ a → first_of vs ≡ b → first_of (us ++ vs) ≡ earlier a b
  two us vs a b p q = first-append us vs ∙ rw (p, q) refl

  abbrev AreFirst : TExpr-F TExpr → Type 0
  AreFirst x = first_of (expr_uses (t_expr_layer names m (map-TExpr TExpr TypedExpr tree x))) ≡ expr_layer d (map-TExpr TExpr (Option ℕ) (expr_missing d) x)

  layer_is : (y : TExpr-F Shown) → AreFirst (map-TExpr Shown TExpr (λ e. e.0) y)
  unfolding expr_uses least
  layer_is (TExpr-F.LocalPlace local of) = refl
  layer_is (TExpr-F.GlobalPlace name place of) = use_is name place
  layer_is (TExpr-F.StringPlace text of) = refl
  layer_is (TExpr-F.Same of) = refl
  layer_is (TExpr-F.Member owner index offset of) = owner.1
  layer_is (TExpr-F.Index left right pointer_left of) = two _ _ _ _ left.1 right.1
  layer_is (TExpr-F.Deref pointer of) = pointer.1
  layer_is (TExpr-F.Number value of) = refl
  layer_is (TExpr-F.Load from of) = from.1
  layer_is (TExpr-F.LoadSigned from schema of) = from.1
  layer_is (TExpr-F.Store to value old of) = two _ _ _ _ to.1 value.1
  layer_is (TExpr-F.StoreSigned to value old schema of) = two _ _ _ _ to.1 value.1
  layer_is (TExpr-F.AddressOf at of) = at.1
  layer_is (TExpr-F.FunctionValue name place of) = use_is name place
  layer_is (TExpr-F.Convert value of) = value.1
  layer_is (TExpr-F.Unary op value of) = value.1
  layer_is (TExpr-F.Binary op left right of) = two _ _ _ _ left.1 right.1
  layer_is (TExpr-F.PointerAdd left right pointer_left subtracts of) = two _ _ _ _ left.1 right.1
  layer_is (TExpr-F.PointerSub left right of) = two _ _ _ _ left.1 right.1
  layer_is (TExpr-F.Compare op left right of) = two _ _ _ _ left.1 right.1
  layer_is (TExpr-F.And left right of) = two _ _ _ _ left.1 right.1
  layer_is (TExpr-F.Or left right of) = two _ _ _ _ left.1 right.1
  layer_is (TExpr-F.Choose test when_true when_false of) = two _ _ _ _ test.1 (two _ _ _ _ when_true.1 when_false.1)
  layer_is (TExpr-F.Comma first second of) = two _ _ _ _ first.1 second.1
  layer_is (TExpr-F.CallDirect name place arguments of) = two (record { name = names name; place = place } ∷ []) (exprs_uses (t_exprs_of (map tree (map (λ e. e.0) arguments)))) _ _ (use_is name place) (exprs_are arguments)
  layer_is (TExpr-F.CallPointer arguments function of) = two _ _ _ _ function.1 (exprs_are arguments)

  pub expr_first : (e : TExpr) → IsFirst e
  unfolding t_expr_tree expr_missing
  expr_first = ind-TExpr IsFirst (λ x y is.
      ap (λ t. first_of (expr_uses t)) (fold-roll-TExpr TypedExpr (t_expr_layer names m) x) ∙ subst AreFirst is (layer_is y) ∙ sym (fold-roll-TExpr (Option ℕ) (expr_layer d) x))

  maybe_first : (e : Option TExpr) → first_of (maybe_uses (option_map tree e)) ≡ maybe_missing d e
  unfolding least
  maybe_first None = refl
  maybe_first (Some e) = expr_first e

  given_first : (g : Given) → first_of (given_uses (given_tree names m g)) ≡ given_missing d g
  unfolding least
  given_first (vGiven.Value value) = expr_first value
  given_first (vGiven.Text text) = refl

  initials_first : (is : List Initial) → first_of (flat_map initial_uses (map (initial_tree names m) is)) ≡ earliest (map (initial_missing d) is)
  unfolding least
  initials_first [] = refl
  initials_first (i ∷ is) = two _ _ _ _ (given_first i.given) (initials_first is)

  local_init_first : (l : LocalInit) → first_of (local_init_uses (local_init_tree names m l)) ≡ local_init_missing d l
  unfolding least
  local_init_first l = by l.initials
    where
      by : (o : Option (List Initial)) → first_of (initials_uses (option_map (map (initial_tree names m)) o)) ≡ initials_missing d o
      by None = refl
      by (Some is) = initials_first is

  local_inits_first : (ls : List LocalInit) → first_of (flat_map local_init_uses (map (local_init_tree names m) ls)) ≡ earliest (map (local_init_missing d) ls)
  unfolding least
  local_inits_first [] = refl
  local_inits_first (l ∷ ls) = two _ _ _ _ (local_init_first l) (local_inits_first ls)

  start_first : (s : TForStart) → first_of (start_uses (t_for_start_tree names m s)) ≡ start_missing d s
  start_first (vTForStart.Declares ls) = local_inits_first ls
  start_first (vTForStart.Evaluates value) = maybe_first value

  abbrev stmt_tree : TStmt → TypedStmt
  stmt_tree = t_stmt_tree names m

  abbrev IsFirstStmt : TStmt → Type 0
  IsFirstStmt s = first_of (stmt_uses (stmt_tree s)) ≡ stmt_missing d s

  abbrev ShownStmt : Type 0
  ShownStmt = (s : TStmt) × IsFirstStmt s

  stmts_are : (ss : List ShownStmt) → first_of (stmts_uses (t_stmts_of (map stmt_tree (map (λ s. s.0) ss)))) ≡ earliest (map (stmt_missing d) (map (λ s. s.0) ss))
  unfolding stmts_uses least
  stmts_are [] = refl
  stmts_are (s ∷ ss) = two _ _ _ _ s.1 (stmts_are ss)

  abbrev AreFirstStmts : TStmt-F TStmt → Type 0
  AreFirstStmts x = first_of (stmt_uses (t_stmt_layer names m (map-TStmt TStmt TypedStmt stmt_tree x))) ≡ stmt_layer d (map-TStmt TStmt (Option ℕ) (stmt_missing d) x)

  stmt_layer_is : (y : TStmt-F ShownStmt) → AreFirstStmts (map-TStmt ShownStmt TStmt (λ s. s.0) y)
  unfolding stmt_uses least
  stmt_layer_is (TStmt-F.Compound items) = stmts_are items
  stmt_layer_is (TStmt-F.InitLocal name) = local_init_first name
  stmt_layer_is (TStmt-F.Expression value) = maybe_first value
  stmt_layer_is (TStmt-F.If test body) = two _ _ _ _ (expr_first test) body.1
  stmt_layer_is (TStmt-F.IfElse test when_true when_false) = two _ _ _ _ (expr_first test) (two _ _ _ _ when_true.1 when_false.1)
  stmt_layer_is (TStmt-F.While test body) = two _ _ _ _ (expr_first test) body.1
  stmt_layer_is (TStmt-F.DoWhile body test) = two _ _ _ _ body.1 (expr_first test)
  stmt_layer_is (TStmt-F.For start test step body) = two _ _ _ _ (start_first start) (two _ _ _ _ (maybe_first test) (two _ _ _ _ (maybe_first step) body.1))
  stmt_layer_is (TStmt-F.Switch value body) = two _ _ _ _ (expr_first value) body.1
  stmt_layer_is (TStmt-F.Case value of body) = body.1
  stmt_layer_is (TStmt-F.Default body) = body.1
  stmt_layer_is TStmt-F.Break = refl
  stmt_layer_is TStmt-F.Continue = refl
  stmt_layer_is (TStmt-F.Return value) = maybe_first value

  pub stmt_first : (s : TStmt) → IsFirstStmt s
  unfolding t_stmt_tree stmt_missing
  stmt_first = ind-TStmt IsFirstStmt (λ x y is.
      ap (λ t. first_of (stmt_uses t)) (fold-roll-TStmt TypedStmt (t_stmt_layer names m) x) ∙ subst AreFirstStmts is (stmt_layer_is y) ∙ sym (fold-roll-TStmt (Option ℕ) (stmt_layer d) x))

  pub functions_first : (fs : List Function) → first_of (flat_map function_uses (map (function_tree names m) fs)) ≡ earliest (map (function_missing d) fs)
  unfolding least
  functions_first [] = refl
  functions_first (f ∷ fs) = two _ _ _ _ (stmt_first f.body) (functions_first fs)

  cells_first : (cs : List Cell) → first_of (flat_map cell_uses (map (cell_tree names m) cs)) ≡ earliest (map (cell_missing d) cs)
  unfolding least
  cells_first [] = refl
  cells_first (c ∷ cs) = two _ _ _ _ (expr_first c.value) (cells_first cs)

  pub globals_first : (gs : List CGlobal) → first_of (flat_map global_uses (map (global_tree names m) gs)) ≡ earliest (map (global_missing d) gs)
  unfolding least
  globals_first [] = refl
  globals_first (g ∷ gs) = two _ _ _ _ (cells_first g.cells) (globals_first gs)

  -- the first use of a file
  pub unit_first : (gs : List CGlobal) (fs : List Function) → first_of (uses (map (global_tree names m) gs) (map (function_tree names m) fs)) ≡ earlier (earliest (map (global_missing d) gs)) (earliest (map (function_missing d) fs))
  unit_first gs fs = two _ _ _ _ (globals_first gs) (functions_first fs)
