-- Each instruction of a function's code fits its word.
use Rattle.std.proofs.Common.{◌≡◌, ℕ, suc, ◌+◌, ◌-◌, ◌^◌, ◌≤◌, ◌<◌, ◌⊎◌, inl, inr, Bool, true, false, cond, eqb, List, [], ◌∷◌, ◌++◌, length, take, Option, Some, None, refl, arith}
use Rattle.std.specs.Prelude.{ℤ, not, option_and_then}
use Rattle.std.specs.Option.{option_to_list}
use Rattle.std.specs.List.{AllByRecursion, sum_by, filter}
use Rattle.std.proofs.lemmas.Bool.{cases_lt, lt-ltb, le-ltb, le-leb, lt-leb}
use Rattle.std.proofs.lemmas.List.Sums.{sum_by-cons, sum_by-take-le}
use Rattle.std.proofs.lemmas.List.{length-take}
use Rattle.pa_a64.specs.declared.instr.Instr.{Instr}
use Rattle.pa_a64.specs.declared.instr.Instr.TheVariants.{LoadStore, LoadStoreWord, LoadStoreHalf, LoadStoreByte}
use Rattle.pa_a64.specs.declared.instr.SumImmediateOp.{SumImmediateOp}
use Rattle.pa_a64.specs.declared.instr.SumImmediateOp.TheVariants as immediate
use Rattle.pa_a64.specs.declared.instr.LoadStoreOp.{LoadStoreOp}
use Rattle.pa_a64.specs.declared.instr.LoadStoreOp.TheVariants.{Ldr, Str}
use Rattle.pa_a64.specs.declared.instr.LoadStoreWordOp.TheVariants.{Ldrw, Strw, Ldrsw}
use Rattle.pa_a64.specs.declared.instr.LoadStoreHalfOp.TheVariants.{Ldrh, Strh, Ldrsh}
use Rattle.pa_a64.specs.declared.instr.LoadStoreByteOp.TheVariants.{Ldrb, Strb, Ldrsb}
use Rattle.pa_a64.specs.Decoding.{InRange, IsSigned}
use Rattle.pa_object.specs.Filled.{distance}
use Rattle.pa_lir.specs.declared.op.Op.{Op}
use Rattle.pa_lir.specs.declared.op.Op.TheVariants as op
use Rattle.pa_lir.specs.declared.op.BinOp.{BinOp}
use Rattle.pa_lir.specs.declared.op.BinOp.TheVariants as bin
use Rattle.pa_lir.specs.declared.op.UnOp.{UnOp}
use Rattle.pa_lir.specs.declared.op.UnOp.TheVariants as un
use Rattle.pa_lir.specs.declared.function.LirLocal.{LirLocal}
use Rattle.pa_lir.specs.declared.function.LirFn.{LirFn}
use Rattle.pa_lir.specs.Parts.{above, held, bytes, rounded}
use Rattle.pa_lir.specs.Ready.{HasFrame, most_words}
use Rattle.pa_frame.specs.Frames.{place_of_temp, place_of_local, size_of_frame}
use Rattle.pa_frame.proofs.Taken.{temp_bytes_most}
use Rattle.pa_select.specs.Registers.{x0, x9, x10, sp}
use Rattle.pa_select.specs.Accesses.{access, store, moved_by, address}
use Rattle.pa_select.specs.Constants.{part, left_by, others, first_move, more_moves, moves, is_inverted, constant}
use Rattle.pa_select.specs.Computing.{comparison, binary, unary, extended, load_sized, store_sized}
use Rattle.pa_select.specs.Selected.{load_temp, store_temp, store_parameter, store_parameters, prologue, epilogue, load_arguments, load_result, store_result, computed, operands, called, code_of, words_of, words_to, label_at, label_of, target_of, placed_code, body, function_code, count_of_words}
use Rattle.pa_select.specs.Selectable.{IsSelectableOp, IsSelectable}
use Rattle.pa_select.proofs.Lengths.{label_within}
use Rattle.pa_select.proofs.Selectable.{all_selectable}

abbrev pub Fit : List Instr → Type 0
Fit is = AllByRecursion InRange is

pub fit_append : (is js : List Instr) → Fit is → Fit js → Fit (is ++ js)
fit_append [] js h k = k
fit_append (i ∷ is) js h k = (h.0, fit_append is js h.1 k)

-- ---- places in the frame

pub temp_near : (f : LirFn) (t : ℕ) → HasFrame f → t < held f → place_of_temp f t < 2 ^ 24
temp_near f t h less = omega (arith, h.bytes, h.held, sum_by-take-le rounded f.locals f.parameters)

pub local_near : (f : LirFn) (l : ℕ) → HasFrame f → place_of_local f l < 2 ^ 24
local_near f l h = omega (arith, h.bytes, h.held, sum_by-take-le rounded f.locals l, temp_bytes_most f l)

pub size_near : (f : LirFn) → HasFrame f → size_of_frame f < 2 ^ 24
size_near f h = omega (arith, h.bytes, h.held)

-- ---- accesses

pub fit_access : (op : LoadStoreOp) (register place : ℕ) → register < 32 → place < 2 ^ 24 → Fit (access op register place)
fit_access op register place r h = go (cases_lt place 32768)
  where
    go : ((place < 32768) ⊎ (32768 ≤ place)) → Fit (access op register place)
    go (inl near) = rw (lt-ltb place 32768 near) (((r, omega arith, omega arith), tt))
    go (inr far) = rw (le-ltb place 32768 far) ((omega arith, omega arith, omega arith), ((r, omega arith, omega arith), tt))

pub fit_moved_by : (op : SumImmediateOp) (to from amount : ℕ) → to < 32 → from < 32 → amount < 2 ^ 24 → Fit (moved_by op to from amount)
fit_moved_by op to from amount t f h = go (cases_lt amount 4096)
  where
    go : ((amount < 4096) ⊎ (4096 ≤ amount)) → Fit (moved_by op to from amount)
    go (inl near) = rw (lt-ltb amount 4096 near) ((t, f, omega arith), tt)
    go (inr far) = rw (le-ltb amount 4096 far) ((t, f, omega arith), ((t, t, omega arith), tt))

-- ---- constants

fit_first : (inverted : Bool) (register value k : ℕ) → register < 32 → k < 4 → InRange (first_move inverted register value k)
fit_first true register value k r h = (r, omega arith, h)
fit_first false register value k r h = (r, omega arith, h)

fit_more : (register value : ℕ) (ks : List ℕ) → register < 32 → AllByRecursion (λ k. k < 4) ks → Fit (more_moves register value ks)
fit_more register value [] r h = tt
fit_more register value (k ∷ ks) r h = ((r, omega arith, h.0), fit_more register value ks r h.1)

fit_moves : (inverted : Bool) (register value : ℕ) (ks : List ℕ) → register < 32 → AllByRecursion (λ k. k < 4) ks → Fit (moves inverted register value ks)
fit_moves inverted register value [] r h = (fit_first inverted register value 0 r (omega arith), tt)
fit_moves inverted register value (k ∷ ks) r h = (fit_first inverted register value k r h.0, fit_more register value ks r h.1)

filter_keeps : (p : ℕ → Bool) (P : ℕ → Type 0) (xs : List ℕ) → AllByRecursion P xs → AllByRecursion P (filter p xs)
filter_keeps p P [] h = tt
filter_keeps p P (x ∷ xs) h = go (p x) (filter_keeps p P xs h.1)
  where
    go : (b : Bool) → AllByRecursion P (filter p xs) → AllByRecursion P (cond b (x ∷ filter p xs) (filter p xs))
    go true rest = (h.0, rest)
    go false rest = rest

pub few_others : (inverted : Bool) (value : ℕ) → AllByRecursion (λ k. k < 4) (others inverted value)
few_others inverted value = filter_keeps (λ k. not (eqb (part value k) (left_by inverted))) (λ k. k < 4) (0 ∷ 1 ∷ 2 ∷ 3 ∷ []) (omega arith, (omega arith, (omega arith, (omega arith, tt))))

pub fit_constant : (register value : ℕ) → register < 32 → Fit (constant register value)
fit_constant register value r = fit_moves (is_inverted value) register value (others (is_inverted value) value) r (few_others (is_inverted value) value)

-- ---- on registers

fit_comparison : (unless : ℕ) → unless < 16 → Fit (comparison unless)
fit_comparison unless h = ((omega arith, omega arith, omega arith), ((omega arith, omega arith, omega arith, h), tt))

fit_binary : (operator : BinOp) → Fit (binary operator)
fit_binary bin.Add = ((omega arith, omega arith, omega arith), tt)
fit_binary bin.Sub = ((omega arith, omega arith, omega arith), tt)
fit_binary bin.Mul = ((omega arith, omega arith, omega arith, omega arith), tt)
fit_binary bin.SDiv = ((omega arith, omega arith, omega arith), tt)
fit_binary bin.UDiv = ((omega arith, omega arith, omega arith), tt)
fit_binary bin.SRem = ((omega arith, omega arith, omega arith), ((omega arith, omega arith, omega arith, omega arith), tt))
fit_binary bin.URem = ((omega arith, omega arith, omega arith), ((omega arith, omega arith, omega arith, omega arith), tt))
fit_binary bin.And = ((omega arith, omega arith, omega arith), tt)
fit_binary bin.Or = ((omega arith, omega arith, omega arith), tt)
fit_binary bin.Xor = ((omega arith, omega arith, omega arith), tt)
fit_binary bin.Shl = ((omega arith, omega arith, omega arith), tt)
fit_binary bin.Lsr = ((omega arith, omega arith, omega arith), tt)
fit_binary bin.Asr = ((omega arith, omega arith, omega arith), tt)
fit_binary bin.Eq = fit_comparison 1 (omega arith)
fit_binary bin.Ne = fit_comparison 0 (omega arith)
fit_binary bin.SLt = fit_comparison 10 (omega arith)
fit_binary bin.SLe = fit_comparison 12 (omega arith)
fit_binary bin.ULt = fit_comparison 2 (omega arith)
fit_binary bin.ULe = fit_comparison 8 (omega arith)

fit_unary : (operator : UnOp) → InRange (unary operator)
fit_unary un.Neg = (omega arith, omega arith, omega arith)
fit_unary un.Not = (omega arith, omega arith, omega arith)

fit_extended : (bits : ℕ) (signed : Bool) → 1 ≤ bits → bits ≤ 64 → InRange (extended bits signed)
fit_extended bits true some few = (omega arith, omega arith, omega arith, omega arith)
fit_extended bits false some few = (omega arith, omega arith, omega arith, omega arith)

fit_load_sized : (n : ℕ) (signed : Bool) → InRange (load_sized n signed)
fit_load_sized n signed = one (eqb n 1)
  where
    four : (c : Bool) → InRange (cond c (LoadStoreWord (cond signed Ldrsw Ldrw) x9 x9 0) (LoadStore Ldr x9 x9 0))
    four true = (omega arith, omega arith, omega arith)
    four false = (omega arith, omega arith, omega arith)

    two : (b : Bool) → InRange (cond b (LoadStoreHalf (cond signed Ldrsh Ldrh) x9 x9 0) (cond (eqb n 4) (LoadStoreWord (cond signed Ldrsw Ldrw) x9 x9 0) (LoadStore Ldr x9 x9 0)))
    two true = (omega arith, omega arith, omega arith)
    two false = four (eqb n 4)

    one : (a : Bool) → InRange (cond a (LoadStoreByte (cond signed Ldrsb Ldrb) x9 x9 0) (cond (eqb n 2) (LoadStoreHalf (cond signed Ldrsh Ldrh) x9 x9 0) (cond (eqb n 4) (LoadStoreWord (cond signed Ldrsw Ldrw) x9 x9 0) (LoadStore Ldr x9 x9 0))))
    one true = (omega arith, omega arith, omega arith)
    one false = two (eqb n 2)

fit_store_sized : (n : ℕ) → InRange (store_sized n)
fit_store_sized n = one (eqb n 1)
  where
    four : (c : Bool) → InRange (cond c (LoadStoreWord Strw x10 x9 0) (LoadStore Str x10 x9 0))
    four true = (omega arith, omega arith, omega arith)
    four false = (omega arith, omega arith, omega arith)

    two : (b : Bool) → InRange (cond b (LoadStoreHalf Strh x10 x9 0) (cond (eqb n 4) (LoadStoreWord Strw x10 x9 0) (LoadStore Str x10 x9 0)))
    two true = (omega arith, omega arith, omega arith)
    two false = four (eqb n 4)

    one : (a : Bool) → InRange (cond a (LoadStoreByte Strb x10 x9 0) (cond (eqb n 2) (LoadStoreHalf Strh x10 x9 0) (cond (eqb n 4) (LoadStoreWord Strw x10 x9 0) (LoadStore Str x10 x9 0))))
    one true = (omega arith, omega arith, omega arith)
    one false = two (eqb n 2)

-- ---- operations

module _ (f : LirFn) (small : HasFrame f) where
  fit_load_temp : (register t : ℕ) → register < 32 → t < held f → Fit (load_temp f register t)
  fit_load_temp register t r h = fit_access Ldr register (place_of_temp f t) r (temp_near f t small h)

  fit_store_temp : (register t : ℕ) → register < 32 → t < held f → Fit (store_temp f register t)
  fit_store_temp register t r h = fit_access Str register (place_of_temp f t) r (temp_near f t small h)

  fit_computed : (instr : Instr) (from to : ℕ) → InRange instr → from < held f → to < held f → Fit (computed f instr from to)
  fit_computed instr from to i a b = fit_append (load_temp f x9 from) _ (fit_load_temp x9 from (omega arith) a) ((i, fit_store_temp x9 to (omega arith) b))

  fit_operands : (left right : ℕ) → left < held f → right < held f → Fit (operands f left right)
  fit_operands left right a b = fit_append (load_temp f x9 left) _ (fit_load_temp x9 left (omega arith) a) (fit_load_temp x10 right (omega arith) b)

  fit_arguments : (register : ℕ) (ts : List ℕ) → register + length ts ≤ 32 → above ts ≤ held f → Fit (load_arguments f register ts)
  unfolding load_arguments above
  fit_arguments register [] r h = tt
  fit_arguments register (t ∷ ts) r h =
      let own : t < held f = omega arith in
      let others : above ts ≤ held f = omega arith in
      fit_append (load_temp f register t) _ (fit_load_temp register t (omega arith) own) (fit_arguments (suc register) ts (omega arith) others)

  fit_store_result : (to : Option ℕ) → above (option_to_list to) ≤ held f → Fit (store_result f to)
  unfolding above
  fit_store_result None h = tt
  fit_store_result (Some t) h = fit_store_temp x0 t (omega arith) (omega arith)

  fit_load_result : (from : Option ℕ) → above (option_to_list from) ≤ held f → Fit (load_result f from)
  unfolding above
  fit_load_result None h = tt
  fit_load_result (Some t) h = fit_load_temp x0 t (omega arith) (omega arith)

  fit_epilogue : Fit (epilogue f)
  fit_epilogue = ((omega arith, omega arith, omega arith, omega arith, refl), fit_append (moved_by immediate.Add sp sp (size_of_frame f)) _ (fit_moved_by immediate.Add sp sp (size_of_frame f) (omega arith) (omega arith) (size_near f small)) ((tt, tt)))

  fit_parameters : (number : ℕ) (ls : List LirLocal) → number + length ls ≤ 32 → Fit (store_parameters f number ls)
  unfolding store_parameters
  fit_parameters number [] h = tt
  fit_parameters number (l ∷ ls) h = fit_append (store_parameter f number l) _ (one (eqb l.size 0)) (fit_parameters (suc number) ls (omega arith))
    where
      one : (b : Bool) → Fit (cond b [] (store number (place_of_local f number)))
      one true = tt
      one false = fit_access Str number (place_of_local f number) (omega arith) (local_near f number small)

  fit_prologue : f.parameters ≤ 8 → Fit (prologue f)
  fit_prologue few =
      let taken : length (take f.parameters f.locals) ≤ 8 = omega (arith, length-take f.parameters f.locals) in (
        tt,
        fit_append (moved_by immediate.Sub sp sp (size_of_frame f)) _ (fit_moved_by immediate.Sub sp sp (size_of_frame f) (omega arith) (omega arith) (size_near f small))
            ((omega arith, omega arith, omega arith, omega arith, refl), fit_parameters 0 (take f.parameters f.locals) (omega arith)),
      )

  -- an operation whose label is near enough for B
  fit_code_of : (words : ℤ) (o : Op) → IsSigned 26 words → IsSelectableOp f o → Fit (code_of f words o)
  unfolding above
  fit_code_of words (op.Const to value) w h = fit_append (constant x9 value) _ (fit_constant x9 value (omega arith)) (fit_store_temp x9 to (omega arith) (omega (arith, h.temps)))
  fit_code_of words (op.Bin to operator left right) w h =
      fit_append (operands f left right) _ (fit_operands left right (omega (arith, h.temps)) (omega (arith, h.temps)))
      (fit_append (binary operator) _ (fit_binary operator) (fit_store_temp x9 to (omega arith) (omega (arith, h.temps))))
  fit_code_of words (op.Un to operator from) w h = fit_computed (unary operator) from to (fit_unary operator) (omega (arith, h.temps)) (omega (arith, h.temps))
  fit_code_of words (op.Extend to from bits signed) w h = fit_computed (extended bits signed) from to (fit_extended bits signed h.in_range.0 h.in_range.1) (omega (arith, h.temps)) (omega (arith, h.temps))
  fit_code_of words (op.Local to local) w h =
      fit_append (address x9 (place_of_local f local)) _ (fit_moved_by immediate.Add x9 sp (place_of_local f local) (omega arith) (omega arith) (local_near f local small))
      (fit_store_temp x9 to (omega arith) (omega (arith, h.temps)))
  fit_code_of words (op.Global to name) w h = tt
  fit_code_of words (op.Code to name) w h = tt
  fit_code_of words (op.Load to at bytes signed) w h = fit_computed (load_sized bytes signed) at to (fit_load_sized bytes signed) (omega (arith, h.temps)) (omega (arith, h.temps))
  fit_code_of words (op.Store at from bytes) w h =
      fit_append (operands f at from) _ (fit_operands at from (omega (arith, h.temps)) (omega (arith, h.temps))) ((fit_store_sized bytes, tt))
  fit_code_of words (op.LoadSigned to at schema) w h = tt
  fit_code_of words (op.StoreSigned at from schema) w h = tt
  fit_code_of words (op.Call to name arguments) w h =
      fit_append (load_arguments f x0 arguments) _ (fit_arguments x0 arguments (omega (arith, h.in_range)) (omega (arith, h.temps)))
      ((omega arith, fit_store_result to (omega (arith, h.temps))))
  fit_code_of words (op.CallPlain to called arguments) w h = tt
  fit_code_of words (op.CallSigned to at schema arguments) w h = tt
  fit_code_of words (op.Label label) w h = tt
  fit_code_of words (op.Jump label) w h = (w, tt)
  fit_code_of words (op.Branch on label) w h = fit_append (load_temp f x9 on) _ (fit_load_temp x9 on (omega arith) (omega (arith, h.temps))) ((omega arith, omega arith), (w, tt))
  fit_code_of words (op.Return from) w h = fit_append (load_result f from) _ (fit_load_result from (omega (arith, h.temps))) fit_epilogue

-- ---- distances

signed_distance : (from to : ℕ) → from ≤ most_words → to ≤ most_words → IsSigned 26 (distance from to)
signed_distance from to h k = go (cases_lt to from)
  where
    go : ((to < from) ⊎ (from ≤ to)) → IsSigned 26 (distance from to)
    go (inl lt) = rw (lt-leb from to lt) (omega arith)
    go (inr le) = rw (le-leb from to le) (omega arith)

signed_words : (last : ℕ) (to : Option ℕ) → last ≤ most_words → ((k : ℕ) → to ≡ Some k → k ≤ most_words) → IsSigned 26 (words_to last to)
signed_words last None h k = omega arith
signed_words last (Some to) h k = signed_distance last to h (k to refl)

module _ (f : LirFn) (h : IsSelectable f) (few : count_of_words f ≤ most_words) where
  pub target_near : (o : Op) (k : ℕ) → target_of f o ≡ Some k → k ≤ most_words
  target_near o k e = go (label_of o) e
    where
      go : (label : Option ℕ) → option_and_then (label_at f) label ≡ Some k → k ≤ most_words
      go None e = cc
      go (Some label) e = let within = label_within f (length (prologue f)) f.ops label k e in omega arith

  fit_body : (at : ℕ) (os : List Op) → at + sum_by (words_of f) os ≤ most_words → AllByRecursion (IsSelectableOp f) os → Fit (body f at os)
  unfolding body
  fit_body at [] room selectable = tt
  fit_body at (o ∷ os) room selectable =
      let sum = sum_by-cons (words_of f) o os in
      fit_append (placed_code f at o) _
      (fit_code_of f h.frame _ o (signed_words (at + words_of f o - 1) (target_of f o) (omega arith) (target_near o)) selectable.0)
      (fit_body (at + words_of f o) os (omega arith) selectable.1)

  pub fit_function : Fit (function_code f)
  fit_function =
      fit_append (prologue f) _ (fit_prologue f h.frame h.well_formed.parameters.few)
      (fit_body (length (prologue f)) f.ops few (all_selectable f h))
