-- How many words code has at most.
use Rattle.std.proofs.Common.{◌≡◌, ℕ, suc, ◌+◌, ◌*◌, ◌≤◌, Bool, true, false, cond, eqb, ltb, List, [], ◌∷◌, ◌++◌, length, take, Option, Some, None, refl, arith}
use Rattle.std.specs.Prelude.{pos, not}
use Rattle.std.specs.List.{sum_by, filter}
use Rattle.std.proofs.lemmas.List.{length-append, length-take}
use Rattle.std.proofs.lemmas.List.Sums.{sum_by-cons}
use Rattle.pa_a64.specs.declared.instr.Instr.{Instr}
use Rattle.pa_a64.specs.declared.instr.SumImmediateOp.{SumImmediateOp}
use Rattle.pa_a64.specs.declared.instr.SumImmediateOp.TheVariants as immediate
use Rattle.pa_a64.specs.declared.instr.LoadStoreOp.{LoadStoreOp}
use Rattle.pa_a64.specs.declared.instr.LoadStoreOp.TheVariants.{Ldr, Str}
use Rattle.pa_lir.specs.declared.op.Op.{Op}
use Rattle.pa_lir.specs.declared.op.Op.TheVariants as op
use Rattle.pa_lir.specs.declared.op.BinOp.{BinOp}
use Rattle.pa_lir.specs.declared.op.BinOp.TheVariants as bin
use Rattle.pa_lir.specs.declared.function.LirLocal.{LirLocal}
use Rattle.pa_lir.specs.declared.function.LirFn.{LirFn}
use Rattle.pa_lir.specs.Parts.{cost, costs}
use Rattle.pa_frame.specs.Frames.{place_of_temp, place_of_local, size_of_frame}
use Rattle.pa_a64.specs.declared.instr.Instr.TheVariants.{Branch, LoadStorePair, Stack}
use Rattle.pa_a64.specs.declared.instr.BranchOp.TheVariants.{Bl}
use Rattle.pa_a64.specs.declared.instr.LoadStorePairOp.TheVariants.{Stp}
use Rattle.pa_a64.specs.declared.instr.StackOp.TheVariants.{Retab}
use Rattle.pa_select.specs.Registers.{x0, x9, x10, x29, x30, sp}
use Rattle.pa_select.specs.Accesses.{access, store, moved_by, address}
use Rattle.pa_select.specs.Constants.{part, left_by, others, more_moves, moves, is_inverted, constant}
use Rattle.pa_select.specs.Computing.{binary, store_sized}
use Rattle.pa_select.specs.Selected.{load_temp, store_temp, store_parameter, store_parameters, prologue, epilogue, load_arguments, load_result, store_result, computed, operands, words_of, count_of_words}
use Rattle.pa_select.specs.Selectable.{IsInRange, IsSelectable, IsSelectableOp}
use Rattle.pa_select.proofs.Lengths.{last_of_branch}
use Rattle.pa_select.proofs.Selectable.{all_selectable}
use Rattle.std.specs.List.{AllByRecursion}

by_test : (b : Bool) (short long : List Instr) → length short ≤ 2 → length long ≤ 2 → length (cond b short long) ≤ 2
by_test true short long h k = h
by_test false short long h k = k

pub length-access : (op : LoadStoreOp) (register place : ℕ) → length (access op register place) ≤ 2
length-access op register place = by_test (ltb place 32768) _ _ (omega arith) (omega arith)

pub length-moved_by : (op : SumImmediateOp) (to from amount : ℕ) → length (moved_by op to from amount) ≤ 2
length-moved_by op to from amount = by_test (ltb amount 4096) _ _ (omega arith) (omega arith)

length-filter : (p : ℕ → Bool) (xs : List ℕ) → length (filter p xs) ≤ length xs
length-filter p [] = omega arith
length-filter p (x ∷ xs) = go (p x) (length-filter p xs)
  where
    go : (b : Bool) → length (filter p xs) ≤ length xs → length (cond b (x ∷ filter p xs) (filter p xs)) ≤ suc (length xs)
    go true rest = omega (arith, rest)
    go false rest = omega (arith, rest)

length-more : (register value : ℕ) (ks : List ℕ) → length (more_moves register value ks) ≡ length ks
length-more register value [] = refl
length-more register value (k ∷ ks) = omega (arith, length-more register value ks)

few_moves : (inverted : Bool) (register value : ℕ) (ks : List ℕ) → length ks ≤ 4 → length (moves inverted register value ks) ≤ 4
few_moves inverted register value [] h = omega arith
few_moves inverted register value (k ∷ ks) h = omega (arith, h, length-more register value ks)

pub length-constant : (register value : ℕ) → length (constant register value) ≤ 4
length-constant register value = few_moves (is_inverted value) register value (others (is_inverted value) value) (length-filter (λ k. not (eqb (part value k) (left_by (is_inverted value)))) (0 ∷ 1 ∷ 2 ∷ 3 ∷ []))

pub length-binary : (operator : BinOp) → length (binary operator) ≤ 2
length-binary bin.Add = omega arith
length-binary bin.Sub = omega arith
length-binary bin.Mul = omega arith
length-binary bin.SDiv = omega arith
length-binary bin.UDiv = omega arith
length-binary bin.SRem = omega arith
length-binary bin.URem = omega arith
length-binary bin.And = omega arith
length-binary bin.Or = omega arith
length-binary bin.Xor = omega arith
length-binary bin.Shl = omega arith
length-binary bin.Lsr = omega arith
length-binary bin.Asr = omega arith
length-binary bin.Eq = omega arith
length-binary bin.Ne = omega arith
length-binary bin.SLt = omega arith
length-binary bin.SLe = omega arith
length-binary bin.ULt = omega arith
length-binary bin.ULe = omega arith

module _ (f : LirFn) where
  loaded : (register t : ℕ) → length (load_temp f register t) ≤ 2
  loaded register t = length-access Ldr register (place_of_temp f t)

  stored : (register t : ℕ) → length (store_temp f register t) ≤ 2
  stored register t = length-access Str register (place_of_temp f t)

  length-computed : (instr : Instr) (from to : ℕ) → length (computed f instr from to) ≤ 5
  length-computed instr from to = omega (arith, length-append (load_temp f x9 from) (instr ∷ store_temp f x9 to), loaded x9 from, stored x9 to)

  length-operands : (left right : ℕ) → length (operands f left right) ≤ 4
  length-operands left right = omega (arith, length-append (load_temp f x9 left) (load_temp f x10 right), loaded x9 left, loaded x10 right)

  pub length-arguments : (register : ℕ) (ts : List ℕ) → length (load_arguments f register ts) ≤ 2 * length ts
  unfolding load_arguments
  length-arguments register [] = omega arith
  length-arguments register (t ∷ ts) =
      omega (arith, length-append (load_temp f register t) (load_arguments f (suc register) ts), loaded register t, length-arguments (suc register) ts)

  length-store_result : (to : Option ℕ) → length (store_result f to) ≤ 2
  length-store_result None = omega arith
  length-store_result (Some t) = stored x0 t

  length-load_result : (from : Option ℕ) → length (load_result f from) ≤ 2
  length-load_result None = omega arith
  length-load_result (Some t) = loaded x0 t

  -- an operation has no more words than its cost
  pub words_at_most : (o : Op) → IsInRange f o → words_of f o ≤ cost o
  words_at_most (op.Const to value) h = omega (arith, length-append (constant x9 value) (store_temp f x9 to), length-constant x9 value, stored x9 to)
  words_at_most (op.Bin to operator left right) h =
      omega (
        arith,
        length-append (operands f left right) (binary operator ++ store_temp f x9 to),
        length-append (binary operator) (store_temp f x9 to),
        length-operands left right,
        length-binary operator,
        stored x9 to,
      )
  words_at_most (op.Un to operator from) h = length-computed _ from to
  words_at_most (op.Extend to from bits signed) h = length-computed _ from to
  words_at_most (op.Local to local) h =
      omega (arith, length-append (address x9 (place_of_local f local)) (store_temp f x9 to), length-moved_by immediate.Add x9 sp (place_of_local f local), stored x9 to)
  words_at_most (op.Global to name) h = omega arith
  words_at_most (op.Code to name) h = omega arith
  words_at_most (op.Load to at bytes signed) h = length-computed _ at to
  words_at_most (op.Store at from bytes) h = omega (arith, length-append (operands f at from) (store_sized bytes ∷ []), length-operands at from)
  words_at_most (op.LoadSigned to at schema) h = omega arith
  words_at_most (op.StoreSigned at from schema) h = omega arith
  words_at_most (op.Call to name arguments) h =
      omega (arith, length-append (load_arguments f x0 arguments) (Branch Bl (pos 0) ∷ store_result f to), length-arguments x0 arguments, length-store_result to, h)
  words_at_most (op.CallPlain to called arguments) h = omega arith
  words_at_most (op.CallSigned to at schema arguments) h = omega arith
  words_at_most (op.Label label) h = omega arith
  words_at_most (op.Jump label) h = omega arith
  words_at_most (op.Branch on label) h = omega (arith, last_of_branch f on label, loaded x9 on)
  words_at_most (op.Return from) h =
      omega (
        arith,
        length-append (load_result f from) (epilogue f),
        length-append (moved_by immediate.Add sp sp (size_of_frame f)) (Stack Retab ∷ []),
        length-load_result from,
        length-moved_by immediate.Add sp sp (size_of_frame f),
      )

  length-parameters : (number : ℕ) (ls : List LirLocal) → length (store_parameters f number ls) ≤ 2 * length ls
  unfolding store_parameters
  length-parameters number [] = omega arith
  length-parameters number (l ∷ ls) =
      omega (
        arith,
        length-append (store_parameter f number l) (store_parameters f (suc number) ls),
        by_test (eqb l.size 0) [] (store number (place_of_local f number)) (omega arith) (length-access Str number (place_of_local f number)),
        length-parameters (suc number) ls,
      )

  pub length-prologue : f.parameters ≤ 8 → length (prologue f) ≤ 20
  length-prologue few =
      omega (
        arith,
        few,
        length-append (moved_by immediate.Sub sp sp (size_of_frame f)) (LoadStorePair Stp x29 x30 sp (pos 0) ∷ store_parameters f 0 (take f.parameters f.locals)),
        length-moved_by immediate.Sub sp sp (size_of_frame f),
        length-parameters 0 (take f.parameters f.locals),
        length-take f.parameters f.locals,
      )

  sums_at_most : (os : List Op) → AllByRecursion (IsSelectableOp f) os → sum_by (words_of f) os ≤ sum_by cost os
  sums_at_most [] h = omega arith
  sums_at_most (o ∷ os) h =
      omega (arith, sum_by-cons (words_of f) o os, sum_by-cons cost o os, words_at_most o h.0.in_range, sums_at_most os h.1)

  pub words_of_function : IsSelectable f → count_of_words f ≤ costs f + 64
  words_of_function h = omega (arith, length-prologue h.well_formed.parameters.few, sums_at_most f.ops (all_selectable f h))
