-- The first place of the trees of a file where a name is used that isn't defined.
use Rattle.std.specs.Prelude.{ℕ, min, Bool, List, [], ◌∷◌, map, slice_get, unwrap_or, if◌then◌else◌, Option, Some, None}
use Rattle.pa_typed.specs.declared.expr.TExpr.{TExpr, fold-TExpr}
use Rattle.pa_typed.specs.declared.expr.TExpr.TheOpen.{TExpr-F}
use Rattle.pa_typed.specs.declared.stmt.Given.{Given}
use Rattle.pa_typed.specs.declared.stmt.Given.TheVariants as vGiven
use Rattle.pa_typed.specs.declared.stmt.Initial.{Initial}
use Rattle.pa_typed.specs.declared.stmt.LocalInit.{LocalInit}
use Rattle.pa_typed.specs.declared.stmt.TForStart.{TForStart}
use Rattle.pa_typed.specs.declared.stmt.TForStart.TheVariants as vTForStart
use Rattle.pa_typed.specs.declared.stmt.TStmt.{TStmt, fold-TStmt}
use Rattle.pa_typed.specs.declared.stmt.TStmt.TheOpen.{TStmt-F}
use Rattle.pa_typed.specs.declared.unit.Cell.{Cell}
use Rattle.pa_typed.specs.declared.unit.CGlobal.{CGlobal}
use Rattle.pa_typed.specs.declared.unit.Function.{Function}
use Rattle.pa_link.specs.declared.definitions.Definitions.{Definitions}

-- the first of two places that may be there
abbrev pub earlier : Option ℕ → Option ℕ → Option ℕ
earlier None b = b
earlier (Some a) None = Some a
earlier (Some a) (Some b) = Some (min a b)

abbrev pub earliest : List (Option ℕ) → Option ℕ
earliest [] = None
earliest (p ∷ ps) = earlier p (earliest ps)

module _ (d : Definitions) where
  -- the name of this number is defined
  abbrev pub has : ℕ → Bool
  has name = unwrap_or (slice_get d.defined name) d.unnamed

  abbrev pub use_missing : ℕ → ℕ → Option ℕ
  use_missing name place = if has name then None else Some place

  abbrev pub expr_layer : TExpr-F (Option ℕ) → Option ℕ
  expr_layer (TExpr-F.LocalPlace local of) = None
  expr_layer (TExpr-F.GlobalPlace name place of) = use_missing name place
  expr_layer (TExpr-F.StringPlace text of) = None
  expr_layer (TExpr-F.Same of) = None
  expr_layer (TExpr-F.Member owner index offset of) = owner
  expr_layer (TExpr-F.Index left right pointer_left of) = earlier left right
  expr_layer (TExpr-F.Deref pointer of) = pointer
  expr_layer (TExpr-F.Number value of) = None
  expr_layer (TExpr-F.Load from of) = from
  expr_layer (TExpr-F.LoadSigned from schema of) = from
  expr_layer (TExpr-F.Store to value old of) = earlier to value
  expr_layer (TExpr-F.StoreSigned to value old schema of) = earlier to value
  expr_layer (TExpr-F.AddressOf at of) = at
  expr_layer (TExpr-F.FunctionValue name place of) = use_missing name place
  expr_layer (TExpr-F.Convert value of) = value
  expr_layer (TExpr-F.Unary op value of) = value
  expr_layer (TExpr-F.Binary op left right of) = earlier left right
  expr_layer (TExpr-F.PointerAdd left right pointer_left subtracts of) = earlier left right
  expr_layer (TExpr-F.PointerSub left right of) = earlier left right
  expr_layer (TExpr-F.Compare op left right of) = earlier left right
  expr_layer (TExpr-F.And left right of) = earlier left right
  expr_layer (TExpr-F.Or left right of) = earlier left right
  expr_layer (TExpr-F.Choose test when_true when_false of) = earlier test (earlier when_true when_false)
  expr_layer (TExpr-F.Comma first second of) = earlier first second
  expr_layer (TExpr-F.CallDirect name place arguments of) = earlier (use_missing name place) (earliest arguments)
  expr_layer (TExpr-F.CallPointer arguments function of) = earlier function (earliest arguments)

  unfoldable pub expr_missing : TExpr → Option ℕ
  expr_missing = fold-TExpr (Option ℕ) expr_layer

  abbrev pub maybe_missing : Option TExpr → Option ℕ
  maybe_missing None = None
  maybe_missing (Some e) = expr_missing e

  abbrev pub given_missing : Given → Option ℕ
  given_missing (vGiven.Value value) = expr_missing value
  given_missing (vGiven.Text text) = None

  abbrev pub initial_missing : Initial → Option ℕ
  initial_missing i = given_missing i.given

  abbrev pub initials_missing : Option (List Initial) → Option ℕ
  initials_missing None = None
  initials_missing (Some is) = earliest (map initial_missing is)

  abbrev pub local_init_missing : LocalInit → Option ℕ
  local_init_missing name = initials_missing name.initials

  abbrev pub start_missing : TForStart → Option ℕ
  start_missing (vTForStart.Declares names) = earliest (map local_init_missing names)
  start_missing (vTForStart.Evaluates value) = maybe_missing value

  abbrev pub stmt_layer : TStmt-F (Option ℕ) → Option ℕ
  stmt_layer (TStmt-F.Compound items) = earliest items
  stmt_layer (TStmt-F.InitLocal name) = local_init_missing name
  stmt_layer (TStmt-F.Expression value) = maybe_missing value
  stmt_layer (TStmt-F.If test body) = earlier (expr_missing test) body
  stmt_layer (TStmt-F.IfElse test when_true when_false) = earlier (expr_missing test) (earlier when_true when_false)
  stmt_layer (TStmt-F.While test body) = earlier (expr_missing test) body
  stmt_layer (TStmt-F.DoWhile body test) = earlier body (expr_missing test)
  stmt_layer (TStmt-F.For start test step body) = earlier (start_missing start) (earlier (maybe_missing test) (earlier (maybe_missing step) body))
  stmt_layer (TStmt-F.Switch value body) = earlier (expr_missing value) body
  stmt_layer (TStmt-F.Case value of body) = body
  stmt_layer (TStmt-F.Default body) = body
  stmt_layer TStmt-F.Break = None
  stmt_layer TStmt-F.Continue = None
  stmt_layer (TStmt-F.Return value) = maybe_missing value

  unfoldable pub stmt_missing : TStmt → Option ℕ
  stmt_missing = fold-TStmt (Option ℕ) stmt_layer

  abbrev pub function_missing : Function → Option ℕ
  function_missing f = stmt_missing f.body

  abbrev pub cell_missing : Cell → Option ℕ
  cell_missing c = expr_missing c.value

  abbrev pub global_missing : CGlobal → Option ℕ
  global_missing g = earliest (map cell_missing g.cells)
