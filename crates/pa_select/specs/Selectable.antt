-- Which functions have code yet.
use Rattle.std.specs.Prelude.{◌≤◌, ◌<◌, All, length}
use Rattle.pa_lir.specs.declared.op.Op.{Op}
use Rattle.pa_lir.specs.declared.op.Op.TheVariants as op
use Rattle.pa_lir.specs.declared.function.LirFn.{LirFn}
use Rattle.pa_lir.specs.declared.function.Lir.{Lir}
use Rattle.pa_lir.specs.Parts.{held, above_op}
use Rattle.pa_lir.specs.WellFormed.{IsWellFormed}
use Rattle.pa_lir.specs.Ready.{HasFrame}

-- an operation on numbers and places in locals, on labels, and direct calls
abbrev pub IsDirect : Op → Type 0
IsDirect (op.Global to name) = ⊥
IsDirect (op.Code to name) = ⊥
IsDirect (op.LoadSigned to at schema) = ⊥
IsDirect (op.StoreSigned at from schema) = ⊥
IsDirect (op.CallPlain to called arguments) = ⊥
IsDirect (op.CallSigned to at schema arguments) = ⊥
IsDirect _ = Unit {0}

-- Numbers are in their ranges.
abbrev pub IsInRange : LirFn → Op → Type 0
IsInRange f (op.Extend to from bits signed) = (1 ≤ bits) × (bits ≤ 64)
IsInRange f (op.Local to local) = local < length f.locals
IsInRange f (op.Call to name arguments) = length arguments ≤ 8
IsInRange f _ = Unit {0}

-- what the code of an operation rests on
pub record IsSelectableOp (f : LirFn) (o : Op) : Type 0 where
  pub direct : IsDirect o
  pub in_range : IsInRange f o
  pub temps : above_op o ≤ held f

pub record IsSelectable (f : LirFn) : Type 0 where
  pub well_formed : IsWellFormed f
  pub frame : HasFrame f
  pub direct : All IsDirect f.ops

-- each function is well formed and small enough for a frame, and its operations are direct
abbrev pub Selectable : Lir → Type 0
Selectable lir = All IsSelectable lir.functions
