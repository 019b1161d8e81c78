-- The flat code of functions and programs, and which programs are of integers alone.
use Rattle.std.specs.Prelude.{◌≡◌, ◌==◌, Bool, true, false, ◌&&◌, IsTrue, if◌then◌else◌, All, List, [], ◌∷◌, ◌++◌, map, Option, Some, None}
use Rattle.pa_ctype.specs.Types.{TypeTree, Of, Void, Boolean, Integer}
use Rattle.pa_typed.specs.Typed.{TypedExpr, TypedExprs, LocalPlace, Same, Number, Load, Store, Convert, Unary, Binary, Compare, And, Or, Choose, Comma, CallDirect, NoTExprs, ConsTExpr, TypedGiven, GivenValue, GivenText, TypedInitial, TypedLocalInit, TypedForStart, Declares, Evaluates, TypedStmt, TypedStmts, Compound, InitLocal, Expression, If, IfElse, While, DoWhile, For, Switch, Case, Default, Break, Continue, Return, NoTStmts, ConsTStmt}
use Rattle.pa_typed.specs.Units.{LocalTree, FunctionTree, ProgramTree}
use Rattle.pa_cmean.specs.Calls.{gives_nothing}
use Rattle.pa_lir.specs.declared.op.Op.{Op}
use Rattle.pa_lir.specs.declared.op.Op.TheVariants as op
use Rattle.pa_lir.specs.declared.function.LirLocal.{LirLocal}
use Rattle.pa_lir.specs.declared.function.LirFn.{LirFn}
use Rattle.pa_lir.specs.declared.function.Lir.{Lir}
use Rattle.pa_lower.specs.Statements.{Ways, stmt_ops}

-- The end of a body (C11 6.9.1p12): `main` gives 0 (5.1.2.2.3), one that gives nothing ends. The end of any other is undefined.
abbrev pub end_ops : FunctionTree → List Op
end_ops f = if gives_nothing f.of then op.Return None ∷ [] else op.Const 0 0 ∷ op.Return (Some 0) ∷ []

abbrev pub no_ways : Ways
no_ways = record { leave = None; proceed = None }

abbrev pub lowered_local : LocalTree → LirLocal
lowered_local l = record { size = l.size; align = l.align }

abbrev pub lowered_function : FunctionTree → LirFn
lowered_function f = record {
  name = f.name;
  public = f.public;
  parameters = f.parameters;
  locals = map lowered_local f.locals;
  ops = stmt_ops 0 no_ways f.body ++ end_ops f;
}

-- of a program of integers, which has no globals
abbrev pub lowered : ProgramTree → Lir
lowered p = record { functions = map lowered_function p.functions; globals = [] }

-- ---- programs of integers

abbrev pub is_integer : TypeTree → Bool
is_integer (Of constant Boolean) = true
is_integer (Of constant (Integer bits signed)) = true
is_integer _ = false

abbrev pub is_value : TypeTree → Bool
is_value (Of constant Void) = true
is_value of = is_integer of

-- an expression all of whose parts are numbers, places of integers, or of type void
abbrev mutual
  pub are_integers : TypedExprs → Bool
  are_integers NoTExprs = true
  are_integers (ConsTExpr e es) = is_of_integers e && are_integers es

  pub is_of_integers : TypedExpr → Bool
  is_of_integers (LocalPlace local of) = is_integer of
  is_of_integers (Same of) = is_integer of
  is_of_integers (Number value of) = is_integer of
  is_of_integers (Load from of) = is_of_integers from && is_integer of
  is_of_integers (Store to value old of) = is_of_integers to && (is_of_integers value && is_integer of)
  is_of_integers (Convert value of) = is_of_integers value && is_value of
  is_of_integers (Unary o value of) = is_of_integers value && is_integer of
  is_of_integers (Binary o left right of) = is_of_integers left && (is_of_integers right && is_integer of)
  is_of_integers (Compare o left right of) = is_of_integers left && (is_of_integers right && is_integer of)
  is_of_integers (And left right of) = is_of_integers left && (is_of_integers right && is_integer of)
  is_of_integers (Or left right of) = is_of_integers left && (is_of_integers right && is_integer of)
  is_of_integers (Choose test when_true when_false of) = is_of_integers test && (is_of_integers when_true && (is_of_integers when_false && is_value of))
  is_of_integers (Comma first second of) = is_of_integers first && (is_of_integers second && is_value of)
  is_of_integers (CallDirect name place arguments of) = are_integers arguments && is_value of
  is_of_integers _ = false

abbrev pub maybe_integers : Option TypedExpr → Bool
maybe_integers None = true
maybe_integers (Some e) = is_of_integers e

abbrev pub gives_integer : TypedGiven → Bool
gives_integer (GivenValue value) = is_of_integers value
gives_integer (GivenText text) = false

-- an integer has one part, at its beginning
abbrev pub is_one_part : List TypedInitial → Bool
is_one_part (i ∷ []) = i.at == 0 && (is_integer i.of && gives_integer i.given)
is_one_part _ = false

abbrev pub is_integer_part : Option (List TypedInitial) → Bool
is_integer_part None = true
is_integer_part (Some is) = is_one_part is

abbrev pub are_integer_parts : List TypedLocalInit → Bool
are_integer_parts [] = true
are_integer_parts (name ∷ names) = is_integer_part name.initials && are_integer_parts names

abbrev pub starts_with_integers : TypedForStart → Bool
starts_with_integers (Declares names) = are_integer_parts names
starts_with_integers (Evaluates value) = maybe_integers value

abbrev mutual
  pub does_integers : TypedStmt → Bool
  does_integers (Compound items) = do_integers items
  does_integers (InitLocal name) = is_integer_part name.initials
  does_integers (Expression value) = maybe_integers value
  does_integers (If test body) = is_of_integers test && does_integers body
  does_integers (IfElse test when_true when_false) = is_of_integers test && (does_integers when_true && does_integers when_false)
  does_integers (While test body) = is_of_integers test && does_integers body
  does_integers (DoWhile body test) = does_integers body && is_of_integers test
  does_integers (For start test step body) = starts_with_integers start && (maybe_integers test && (maybe_integers step && does_integers body))
  does_integers (Switch value body) = is_of_integers value && does_integers body
  does_integers (Case value of body) = is_integer of && does_integers body
  does_integers (Default body) = does_integers body
  does_integers Break = true
  does_integers Continue = true
  does_integers (Return value) = maybe_integers value

  pub do_integers : TypedStmts → Bool
  do_integers NoTStmts = true
  do_integers (ConsTStmt s ss) = does_integers s && do_integers ss

pub record IsFunctionOfIntegers (f : FunctionTree) : Type 0 where
  pub locals : All (λ l. IsTrue (is_integer l.of)) f.locals
  pub body : IsTrue (does_integers f.body)

-- no globals, no local that isn't an integer, and no expression of another type or form
pub record IsOfIntegers (p : ProgramTree) : Type 0 where
  pub no_globals : p.globals ≡ []
  pub functions : All IsFunctionOfIntegers p.functions
