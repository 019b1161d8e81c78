-- The objects of a program: one of each function, and one of the globals.
use Rattle.std.specs.Prelude.{ℕ, ◌+◌, List, [], ◌∷◌, ◌++◌, length, map, Option, option_and_then}
use Rattle.pa_a64.specs.Decoding.{encoded}
use Rattle.pa_object.specs.declared.object.Object.{Object}
use Rattle.pa_object.specs.declared.object.Mark.{Mark}
use Rattle.pa_object.specs.declared.object.Ref.{Ref}
use Rattle.pa_object.specs.declared.object.RefKind.TheVariants.{Call}
use Rattle.pa_lir.specs.declared.op.Op.{Op}
use Rattle.pa_lir.specs.declared.op.Op.TheVariants as op
use Rattle.pa_lir.specs.declared.function.LirFn.{LirFn}
use Rattle.pa_lir.specs.declared.function.Lir.{Lir}
use Rattle.pa_lir.specs.Placing.{Places, kept}
use Rattle.pa_lir.specs.Ready.{symbol, symbol_global}
use Rattle.pa_select.specs.Selected.{prologue, load_arguments, words_of, label_of, function_code}
use Rattle.pa_select.specs.Registers.{x0}

-- the reference of a call that begins at a place, at its BL
abbrev pub refs_of_call : LirFn → (at : ℕ) → (name arguments : List ℕ) → List Ref
refs_of_call f at name arguments =
    record { at = at + length (load_arguments f x0 arguments); kind = Call; name = symbol name } ∷ []

-- what an operation that begins at a place refers to
abbrev pub refs_of : LirFn → (at : ℕ) → Op → List Ref
refs_of f at (op.Call to name arguments) = refs_of_call f at name arguments
refs_of f at _ = []

unfoldable pub refs_from : LirFn → (at : ℕ) → List Op → List Ref
refs_from f at [] = []
refs_from f at (o ∷ os) = refs_of f at o ++ refs_from f (at + words_of f o) os

abbrev pub function_refs : LirFn → List Ref
function_refs f = refs_from f (length (prologue f)) f.ops

abbrev pub mark_of : LirFn → Mark
mark_of f = record { name = symbol f.name; at = 0; public = f.public }

abbrev pub object_of : LirFn → Object
object_of f =
    record {
      code = map encoded (function_code f);
      marks = mark_of f ∷ [];
      refs = function_refs f;
      globals = [];
    }

abbrev pub data_of : Lir → Object
data_of lir = record { code = []; marks = []; refs = []; globals = map symbol_global lir.globals }

abbrev pub objects_of : Lir → List Object
objects_of lir = map object_of lir.functions ++ data_of lir ∷ []

-- where an operation goes by the places that are kept for labels
abbrev pub target_in : Places → Op → Option ℕ
target_in labels o = option_and_then (kept labels) (label_of o)
