-- How many words operations have, wherever their labels lie.
use Rattle.std.proofs.Common.{◌≡◌, ℕ, ◌+◌, ◌-◌, ◌≤◌, Bool, true, false, cond, List, [], ◌∷◌, length, Some, refl, sym, ap, ◌∙◌, arith}
use Rattle.std.specs.Prelude.{ℤ, pos, unwrap_or}
use Rattle.std.specs.List.{sum_by}
use Rattle.std.proofs.lemmas.List.{length-append}
use Rattle.std.proofs.lemmas.List.Sums.{sum_by-cons}
use Rattle.pa_a64.specs.declared.instr.Instr.TheVariants.{Branch, CompareBranch}
use Rattle.pa_a64.specs.declared.instr.BranchOp.TheVariants.{B}
use Rattle.pa_a64.specs.declared.instr.CompareBranchOp.TheVariants.{Cbz}
use Rattle.pa_lir.specs.declared.op.Op.{Op}
use Rattle.pa_lir.specs.declared.op.Op.TheVariants as op
use Rattle.pa_lir.specs.declared.function.LirFn.{LirFn}
use Rattle.pa_lir.specs.Flow.{is_label}
use Rattle.pa_select.specs.Registers.{x9}
use Rattle.pa_select.specs.Selected.{load_temp, branch, code_of, words_of, words_to, target_of, label_from, placed_code, body, prologue, function_code, count_of_words}

length-branch : (f : LirFn) (temp : ℕ) (words : ℤ) → length (branch f temp words) ≡ length (load_temp f x9 temp) + 2
length-branch f temp words = length-append (load_temp f x9 temp) (CompareBranch Cbz x9 (pos 2) ∷ Branch B words ∷ [])

pub length-code_of : (f : LirFn) (words : ℤ) (o : Op) → length (code_of f words o) ≡ words_of f o
length-code_of f words (op.Const to value) = refl
length-code_of f words (op.Bin to operator left right) = refl
length-code_of f words (op.Un to operator from) = refl
length-code_of f words (op.Extend to from bits signed) = refl
length-code_of f words (op.Local to local) = refl
length-code_of f words (op.Global to name) = refl
length-code_of f words (op.Code to name) = refl
length-code_of f words (op.Load to at bytes signed) = refl
length-code_of f words (op.Store at from bytes) = refl
length-code_of f words (op.LoadSigned to at schema) = refl
length-code_of f words (op.StoreSigned at from schema) = refl
length-code_of f words (op.Call to name arguments) = refl
length-code_of f words (op.CallPlain to called arguments) = refl
length-code_of f words (op.CallSigned to at schema arguments) = refl
length-code_of f words (op.Label label) = refl
length-code_of f words (op.Jump label) = refl
length-code_of f words (op.Branch on label) = length-branch f on words ∙ sym (length-branch f on (pos 0))
length-code_of f words (op.Return from) = refl

-- the last instruction of a branch is its B
pub last_of_branch : (f : LirFn) (on label : ℕ) → words_of f (op.Branch on label) ≡ length (load_temp f x9 on) + 2
last_of_branch f on label = length-branch f on (pos 0)

pub length-body : (f : LirFn) (at : ℕ) (os : List Op) → length (body f at os) ≡ sum_by (words_of f) os
unfolding body
length-body f at [] = refl
length-body f at (o ∷ os) =
    omega (
      arith,
      length-append (placed_code f at o) (body f (at + words_of f o) os),
      length-code_of f (words_to (at + words_of f o - 1) (target_of f o)) o,
      length-body f (at + words_of f o) os,
      sum_by-cons (words_of f) o os,
    )

pub length-function_code : (f : LirFn) → length (function_code f) ≡ count_of_words f
length-function_code f = length-append (prologue f) (body f (length (prologue f)) f.ops) ∙ ap (λ n. length (prologue f) + n) (length-body f (length (prologue f)) f.ops)

-- a label lies in the code, or at its end
pub label_within : (f : LirFn) (at : ℕ) (os : List Op) (label to : ℕ) → label_from f at os label ≡ Some to → to ≤ at + sum_by (words_of f) os
unfolding label_from
label_within f at [] label to e = cc
label_within f at (o ∷ os) label to e = go (is_label label o) (λ h. label_within f (at + words_of f o) os label to h) e
  where
    go : (b : Bool) → (label_from f (at + words_of f o) os label ≡ Some to → to ≤ at + words_of f o + sum_by (words_of f) os)
        → cond b (Some at) (label_from f (at + words_of f o) os label) ≡ Some to → to ≤ at + sum_by (words_of f) (o ∷ os)
    go true later h = let same : at ≡ to = ap (λ o. unwrap_or o at) h in omega arith
    go false later h = omega (arith, later h, sum_by-cons (words_of f) o os)

-- not before the first operation
pub label_behind : (f : LirFn) (at : ℕ) (os : List Op) (label to : ℕ) → label_from f at os label ≡ Some to → at ≤ to
unfolding label_from
label_behind f at [] label to e = cc
label_behind f at (o ∷ os) label to e = go (is_label label o) (λ h. label_behind f (at + words_of f o) os label to h) e
  where
    go : (b : Bool) → (label_from f (at + words_of f o) os label ≡ Some to → at + words_of f o ≤ to) → cond b (Some at) (label_from f (at + words_of f o) os label) ≡ Some to → at ≤ to
    go true later h = let same : at ≡ to = ap (λ o. unwrap_or o at) h in omega arith
    go false later h = omega (arith, later h)
