-- Code with its calls filled is as long as code without.
use Rattle.std.proofs.Common.{◌≡◌, ◌≤◌, ℕ, ◌+◌, ◌-◌, ◌/◌, ◌%◌, Bool, true, false, cond, ltb, List, [], ◌∷◌, ◌++◌, length, refl, sym, ◌∙◌, arith}
use Rattle.std.specs.Prelude.{pos}
use Rattle.std.proofs.lemmas.List.{length-append}
use Rattle.pa_a64.specs.declared.instr.Instr.{Instr}
use Rattle.pa_a64.specs.declared.instr.Instr.TheVariants.{Branch, LoadStore, SumImmediate}
use Rattle.pa_a64.specs.declared.instr.LoadStoreOp.{LoadStoreOp}
use Rattle.pa_a64.specs.declared.instr.LoadStoreOp.TheVariants.{Str}
use Rattle.pa_a64.specs.declared.instr.SumImmediateOp.TheVariants.{Add}
use Rattle.pa_a64.specs.declared.instr.BranchOp.TheVariants.{Bl}
use Rattle.pa_lir.specs.declared.op.Op.{Op}
use Rattle.pa_lir.specs.declared.op.Op.TheVariants as op
use Rattle.pa_lir.specs.declared.function.LirFn.{LirFn}
use Rattle.pa_select.specs.Selected.{store_temp, load_arguments, store_result, words_of, target_of, words_to}
use Rattle.pa_select.specs.Accesses.{access}
use Rattle.pa_frame.specs.Frames.{place_of_temp}
use Rattle.pa_select.proofs.Lengths.{length-code_of}
use Rattle.pa_selected.specs.Worlds.{World, call_of, linked}

pub length-linked : (w : World) (f : LirFn) (at : ℕ) (o : Op) → length (linked w f at o) ≡ words_of f o
length-linked w f at (op.Const to value) = refl
length-linked w f at (op.Bin to operator left right) = refl
length-linked w f at (op.Un to operator from) = refl
length-linked w f at (op.Extend to from bits signed) = refl
length-linked w f at (op.Local to local) = refl
length-linked w f at (op.Global to name) = refl
length-linked w f at (op.Code to name) = refl
length-linked w f at (op.Load to from bytes signed) = refl
length-linked w f at (op.Store from value bytes) = refl
length-linked w f at (op.LoadSigned to from schema) = refl
length-linked w f at (op.StoreSigned from value schema) = refl
length-linked w f at (op.Call to name arguments) =
    let loads = load_arguments f 0 arguments in
    length-append loads (call_of w f (at + length loads) name ∷ store_result f to) ∙ sym (length-append loads (Branch Bl (pos 0) ∷ store_result f to))
length-linked w f at (op.CallPlain to called arguments) = refl
length-linked w f at (op.CallSigned to from schema arguments) = refl
length-linked w f at (op.Label label) = refl
length-linked w f at (op.Jump label) = refl
length-linked w f at (op.Branch on label) = length-code_of f (words_to (at + words_of f (op.Branch on label) - 1) (target_of f (op.Branch on label))) (op.Branch on label)
length-linked w f at (op.Return from) = refl

-- ---- an access has an instruction

some_access : (op : LoadStoreOp) (register place : ℕ) → 1 ≤ length (access op register place)
some_access op register place = go (ltb place 32768)
  where
    go : (b : Bool) → 1 ≤ length (cond b (LoadStore op register 31 (place / 8) ∷ []) (SumImmediate Add 12 31 (place / 4096) true ∷ LoadStore op register 12 (place % 4096 / 8) ∷ []))
    go true = omega arith
    go false = omega arith

-- and so has what ends in one
pub some_stored : (f : LirFn) (is : List Instr) (to : ℕ) → 1 ≤ length (is ++ store_temp f 9 to)
some_stored f is to = omega (arith, length-append is (store_temp f 9 to), some_access Str 9 (place_of_temp f to))
