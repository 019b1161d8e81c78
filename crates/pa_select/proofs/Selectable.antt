-- Each operation of a well-formed function is selectable.
use Rattle.std.proofs.Common.{◌≡◌, ℕ, suc, ◌+◌, ◌≤◌, List, [], ◌∷◌, length, Some, refl, sym, arith}
use Rattle.std.specs.List.{slice_get, AllByRecursion}
use Rattle.std.proofs.lemmas.List.Elements.{recursion_from_All}
use Rattle.pa_lir.specs.declared.op.Op.{Op}
use Rattle.pa_lir.specs.declared.op.Op.TheVariants as op
use Rattle.pa_lir.specs.declared.function.LirFn.{LirFn}
use Rattle.pa_lir.specs.Parts.{above_op, above_all, held}
use Rattle.pa_lir.specs.WellFormed.{IsSoundAt}
use Rattle.pa_select.specs.Selectable.{IsDirect, IsInRange, IsSelectableOp, IsSelectable}

in_range : (f : LirFn) (at : ℕ) (o : Op) → IsSoundAt f.ops (length f.locals) at o → IsInRange f o
in_range f at (op.Const to value) h = tt
in_range f at (op.Bin to operator left right) h = tt
in_range f at (op.Un to operator from) h = tt
in_range f at (op.Extend to from bits signed) h = h
in_range f at (op.Local to local) h = h
in_range f at (op.Global to name) h = tt
in_range f at (op.Code to name) h = tt
in_range f at (op.Load to place bytes signed) h = tt
in_range f at (op.Store place from bytes) h = tt
in_range f at (op.LoadSigned to place schema) h = tt
in_range f at (op.StoreSigned place from schema) h = tt
in_range f at (op.Call to name arguments) h = h
in_range f at (op.CallPlain to called arguments) h = tt
in_range f at (op.CallSigned to place schema arguments) h = tt
in_range f at (op.Label label) h = tt
in_range f at (op.Jump label) h = tt
in_range f at (op.Branch on label) h = tt
in_range f at (op.Return from) h = tt

-- operations from a place on
selectable_from : (f : LirFn) (at : ℕ) (os : List Op) → above_all os ≤ held f
    → ((k : ℕ) (o : Op) → slice_get os k ≡ Some o → IsSoundAt f.ops (length f.locals) (at + k) o)
    → AllByRecursion IsDirect os → AllByRecursion (IsSelectableOp f) os
unfolding above_all
selectable_from f at [] few sound direct = tt
selectable_from f at (o ∷ os) few sound direct =
    let own : above_op o ≤ held f = omega arith in
    let others : above_all os ≤ held f = omega arith in (
      record { direct = direct.0; in_range = in_range f (at + 0) o (sound 0 o refl); temps = own },
      selectable_from f (suc at) os others (λ k p e. let place : at + suc k ≡ suc at + k = omega arith in rw (sym place) (sound (suc k) p e)) direct.1,
    )

pub all_selectable : (f : LirFn) → IsSelectable f → AllByRecursion (IsSelectableOp f) f.ops
all_selectable f h =
    selectable_from f 0 f.ops (omega arith)
    (λ k o e. let place : 0 + k ≡ k = omega arith in rw place (h.well_formed.sound k o e))
    (recursion_from_All IsDirect f.ops h.direct)
