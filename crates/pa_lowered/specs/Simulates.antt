-- What it is that the flat code of an expression or a statement does what C's meaning says of it. The runs behind are given: if flat
-- code follows them, it follows the whole.
use Rattle.std.specs.Prelude.{◌≡◌, ◌≤◌, ◌<◌, ℕ, suc, ◌+◌, false, List, [], ◌∷◌, length, slice_get, Option, Some, None}
use Rattle.pa_ctype.specs.Types.{TypeTree, Of, Void, Pointer}
use Rattle.pa_ctype.specs.Values.{Place, CValue}
use Rattle.pa_typed.specs.Typed.{TypedExpr, LocalPlace, GlobalPlace, StringPlace, Same, Member, Index, Deref, TypedExprs, NoTExprs, ConsTExpr, TypedStmt}
use Rattle.pa_typed.specs.Units.{ProgramTree}
use Rattle.pa_cmean.specs.Results.{Meaning, undefined}
use Rattle.pa_cmean.specs.State.{State, Cont, Exits, Again}
use Rattle.pa_cmean.specs.ExprTypes.{type_of}
use Rattle.pa_cmean.specs.Expressions.{eval, evals}
use Rattle.pa_cmean.specs.Statements.{exec}
use Rattle.pa_lir.specs.declared.op.Op.{Op}
use Rattle.pa_lir.specs.declared.op.Op.TheVariants as op
use Rattle.pa_lir.specs.declared.function.Lir.{Lir}
use Rattle.pa_lir.specs.Values.{FlatValue}
use Rattle.pa_lir.specs.Meaning.{Flat, temp_in}
use Rattle.pa_lir.specs.Parts.{cost}
use Rattle.pa_lir.specs.Flow.{place_of_label}
use Rattle.pa_lower.specs.Temporaries.{Room, next_room}
use Rattle.pa_lower.specs.Expressions.{expr_ops, exprs_ops}
use Rattle.pa_lower.specs.Statements.{Ways, stmt_ops}
use Rattle.pa_lowered.specs.Objects.{Map, Grows, Stands, IsPlace}
use Rattle.pa_lowered.specs.Results.{Follows}
use Rattle.pa_lowered.specs.Calls.{Temps, Entered, At}

-- ---- code that stands in a function

-- a label is where it is found
abbrev pub IsFound : List Op → ℕ → Op → Type 0
IsFound ops at (op.Label label) = place_of_label ops label ≡ Some at
IsFound ops at _ = Unit {0}

abbrev pub Contains : List Op → ℕ → List Op → Type 0
Contains ops at [] = Unit {0}
Contains ops at (o ∷ os) = (slice_get ops at ≡ Some o) × IsFound ops at o × Contains ops (suc at) os

-- ---- temporaries

-- the value of an expression, for which there is no temporary where its type is void
abbrev pub IsIn : Map → TypeTree → CValue → Option FlatValue → Type 0
IsIn m (Of constant Void) v o = Unit {0}
IsIn m of v o = (u : FlatValue) × (o ≡ Some u) × Stands m of v u

-- the type of what an expression gives: one that stands for a place gives that place
abbrev pub address_type : TypeTree → TypeTree
address_type of = Of false (Pointer of None)

abbrev pub value_type : TypedExpr → TypeTree
value_type (LocalPlace local of) = address_type of
value_type (GlobalPlace name place of) = address_type of
value_type (StringPlace text of) = address_type of
value_type (Same of) = address_type of
value_type (Member owner index offset of) = address_type of
value_type (Index left right pointer_left of) = address_type of
value_type (Deref pointer of) = address_type of
value_type e = type_of e

-- the temporaries of a room are apart, and below the free ones
pub record IsRoom (r : Room) : Type 0 where
  pub to : r.to < r.free
  pub spare : (t : ℕ) → r.spare ≡ Some t → (t < r.free) × (t ≡ r.to → ⊥)
  pub same : (t : ℕ) → r.same ≡ Some t → (t < r.free) × (t ≡ r.to → ⊥) × (r.spare ≡ Some t → ⊥)

-- those that an expression in the room may not write have what they had
abbrev pub Keeps : Room → Temps → Temps → Type 0
Keeps r before after = (t : ℕ) → t < r.free → (t ≡ r.to → ⊥) → (r.spare ≡ Some t → ⊥) → temp_in after t ≡ temp_in before t

-- the place of the store around the expression is where the room says
abbrev pub HasSame : Map → Option Place → Room → Temps → Type 0
HasSame m None r ts = Unit {0}
HasSame m (Some place) r ts = (t : ℕ) × (u : FlatValue) × (r.same ≡ Some t) × (temp_in ts t ≡ Some u) × IsPlace m place u

-- ---- what goes on behind

-- costs that an expression or a statement pays beyond its own
abbrev pub spare_cost : ℕ
spare_cost = 20

-- the values of arguments, each in the room behind that of the one before
abbrev pub AreIn : Map → TypedExprs → Room → List CValue → Temps → Type 0
AreIn m NoTExprs r vs ts = vs ≡ []
AreIn m (ConsTExpr e es) r vs ts = (v : CValue) × (rest : List CValue) × (vs ≡ v ∷ rest) × IsIn m (value_type e) v (temp_in ts r.to) × AreIn m es (next_room r) rest ts

-- what a function gives back, none where its type is void
abbrev pub IsGiven : Map → TypeTree → CValue → Option ℕ → Temps → Type 0
IsGiven m (Of constant Void) v from ts = from ≡ None
IsGiven m of v from ts = (t : ℕ) × (from ≡ Some t) × IsIn m of v (temp_in ts t)

-- In a program, for runs with less than so much work left, and in an open call some locals of which may live.
module _ (program : ProgramTree) (lir : Lir) (again : Again) (bound : ℕ) (w : Entered) (live : List ℕ) where
  -- flat code at that place follows, whatever its temporaries have
  pub record Goes (at paid turned : ℕ) (go : State → Meaning) : Type 0 where
    pub by : (ts : Temps) (m : Map) (st : State) (s : Flat) → st.left < bound → At w live at ts m st s → Follows lir m paid turned (go st) s

  -- it follows with a value of a type in the room, and with the other temporaries as they were
  pub record Takes (at : ℕ) (r : Room) (of : TypeTree) (before : Temps) (b : Map) (paid turned : ℕ) (go : Cont) : Type 0 where
    pub by : (v : CValue) (ts : Temps) (m : Map) (st : State) (s : Flat) → st.left < bound → Grows b m → At w live at ts m st s → IsIn m of v (temp_in ts r.to) → Keeps r before ts → Follows lir m paid turned (go v st) s

  -- with the values of arguments
  pub record TakesAll (at : ℕ) (r : Room) (es : TypedExprs) (before : Temps) (b : Map) (paid turned : ℕ) (go : List CValue → State → Meaning) : Type 0 where
    pub by : (vs : List CValue) (ts : Temps) (m : Map) (st : State) (s : Flat) → st.left < bound → Grows b m → At w live at ts m st s → AreIn m es r vs ts → Keeps r before ts → Follows lir m paid turned (go vs st) s

  -- at the function's return, wherever it stands, with what it gives back
  pub record Returns (paid turned : ℕ) (give : Cont) : Type 0 where
    pub by : (v : CValue) (at : ℕ) (from : Option ℕ) (ts : Temps) (m : Map) (st : State) (s : Flat) → st.left < bound → At w live at ts m st s → slice_get w.function.ops at ≡ Some (op.Return from) → IsGiven m w.result v from ts → Follows lir m (paid + cost (op.Return from)) turned (give v st) s

  -- at the label of `break` or `continue`; outside of what they leave it is undefined
  abbrev pub Leads : Option ℕ → (paid turned : ℕ) → (State → Meaning) → Type 0
  Leads None paid turned go = (st : State) → go st ≡ undefined
  Leads (Some label) paid turned go = (at : ℕ) × (place_of_label w.function.ops label ≡ Some at) × Goes at paid turned go

  -- the ways out of a statement that ends at that place
  pub record Follow (at : ℕ) (ways : Ways) (paid turned : ℕ) (x : Exits) : Type 0 where
    pub next : Goes at paid turned x.next
    pub leave : Leads ways.leave paid turned x.leave
    pub proceed : Leads ways.proceed paid turned x.proceed
    pub give : Returns paid turned x.give

  -- The flat code of the expression, from the place of its first operation on, does what C's meaning says.
  pub record SimulatesExpr (e : TypedExpr) : Type 0 where
    pub by : (labels : ℕ) (r : Room) (same : Option Place) (at paid after turned : ℕ) (go : Cont) (ts : Temps) (m : Map) (st : State) (s : Flat)
        → IsRoom r → after ≤ paid + spare_cost → Contains w.function.ops at (expr_ops labels r e)
        → Takes (at + length (expr_ops labels r e)) r (value_type e) ts m after turned go
        → st.left ≤ bound → At w live at ts m st s → HasSame m same r ts
        → Follows lir m paid turned (eval program again same e go st) s

  -- that of arguments; without any there is no work that pays
  pub record SimulatesExprs (es : TypedExprs) : Type 0 where
    pub by : (labels : ℕ) (r : Room) (same : Option Place) (at paid turned : ℕ) (go : List CValue → State → Meaning) (ts : Temps) (m : Map) (st : State) (s : Flat)
        → IsRoom r → Contains w.function.ops at (exprs_ops labels r es)
        → TakesAll (at + length (exprs_ops labels r es)) r es ts m paid turned go
        → st.left < bound → At w live at ts m st s → HasSame m same r ts
        → Follows lir m paid turned (evals program again same es go st) s

  -- and that of the statement
  pub record SimulatesStmt (t : TypedStmt) : Type 0 where
    pub by : (labels : ℕ) (ways : Ways) (at paid after turned : ℕ) (x : Exits) (ts : Temps) (m : Map) (st : State) (s : Flat)
        → after ≤ paid + spare_cost → Contains w.function.ops at (stmt_ops labels ways t)
        → Follow (at + length (stmt_ops labels ways t)) ways after turned x
        → st.left ≤ bound → At w live at ts m st s
        → Follows lir m paid turned (exec program again t x st) s
