-- An operation of an open call that computes numbers, from the code of its function in memory: the machine runs its instructions
-- and stands to the call, which has the result of the operation, as before.
use Rattle.std.proofs.Common.{◌≡◌, ℕ, zero, suc, ◌+◌, ◌*◌, ◌^◌, ◌≤◌, ◌<◌, Bool, List, [], ◌∷◌, length, take, Some, sym, ap, subst, arith}
use Rattle.std.specs.Prelude.{pos, slice_get, unwrap_or}
use Rattle.std.specs.List.{sum_by}
use Rattle.std.proofs.lemmas.List.Sums.{sum_by-cons, sum_by-take-le}
use Rattle.pa_mem.specs.Memory.{Region}
use Rattle.pa_object.specs.Machine.{Machine}
use Rattle.pa_object.specs.Placed.{HasCode}
use Rattle.pa_object.proofs.Placed.{HasCode-append}
use Rattle.pa_lir.specs.declared.op.Op.{Op}
use Rattle.pa_lir.specs.declared.op.Op.TheVariants as op
use Rattle.pa_lir.specs.declared.op.BinOp.{BinOp}
use Rattle.pa_lir.specs.declared.op.UnOp.{UnOp}
use Rattle.pa_lir.specs.declared.function.LirFn.{LirFn}
use Rattle.pa_lir.specs.Parts.{held, above, above_op, above_all}
use Rattle.pa_lir.specs.Operators.{of_numbers, of_number}
use Rattle.pa_lir.specs.Values.{FlatValue, Number, At, extended}
use Rattle.pa_lir.specs.Meaning.{Open, temp, with_temp}
use Rattle.pa_selected.specs.Calls.{IsOpen, IsAt}
use Rattle.pa_selected.specs.Values.{Addresses}
use Rattle.pa_selected.specs.Worlds.{World, IsPlaced, linked, linked_body, place_of_op}
use Rattle.pa_select.specs.Selected.{prologue, words_of}
use Rattle.pa_selected.proofs.Linked.{length-linked}
use Rattle.pa_selected.proofs.Storing.{Gives, const_follows, bin_follows, un_follows, extend_follows, local_follows}

-- ---- the code of an operation

some_op : (a b : Op) → Some a ≡ Some b → a ≡ b
some_op a b e = ap (λ o. unwrap_or o a) e

module _ (w : World) (f : LirFn) where
  in_body : (memory : List Region) (base at k : ℕ) (os : List Op) (o : Op) → slice_get os k ≡ Some o → HasCode memory base (linked_body w f at os)
      → HasCode memory (base + 4 * sum_by (words_of f) (take k os)) (linked w f (at + sum_by (words_of f) (take k os)) o)
  unfolding linked_body
  in_body memory base at k [] o e c = cc
  in_body memory base at zero (p ∷ os) o e c =
      let here = (HasCode-append memory base (linked w f at p) (linked_body w f (at + words_of f p) os) c).0 in
      let start : base + 4 * 0 ≡ base = omega arith in
      let first : at + 0 ≡ at = omega arith in
      subst (λ x. HasCode memory (base + 4 * 0) (linked w f (at + 0) x)) (some_op p o e)
      (subst (λ b. HasCode memory b (linked w f (at + 0) p)) (sym start) (subst (λ a. HasCode memory base (linked w f a p)) (sym first) here))
  in_body memory base at (suc k) (p ∷ os) o e c =
      let rest = (HasCode-append memory base (linked w f at p) (linked_body w f (at + words_of f p) os) c).1 in
      let sum = sum_by-cons (words_of f) p (take k os) in
      let next : base + 4 * length (linked w f at p) ≡ base + 4 * words_of f p = ap (λ n. base + 4 * n) (length-linked w f at p) in
      let there = in_body memory (base + 4 * words_of f p) (at + words_of f p) k os o e (subst (λ b. HasCode memory b (linked_body w f (at + words_of f p) os)) next rest) in
      let place : base + 4 * words_of f p + 4 * sum_by (words_of f) (take k os) ≡ base + 4 * sum_by (words_of f) (p ∷ take k os) = omega (arith, sum) in
      let word : at + words_of f p + sum_by (words_of f) (take k os) ≡ at + sum_by (words_of f) (p ∷ take k os) = omega (arith, sum) in
      subst (λ b. HasCode memory b (linked w f (at + sum_by (words_of f) (p ∷ take k os)) o)) place
      (subst (λ a. HasCode memory (base + 4 * words_of f p + 4 * sum_by (words_of f) (take k os)) (linked w f a o)) word there)

pub code_of_op : (w : World) (o : Open) (m : Machine) (operation : Op) → IsPlaced w m.memory o.function → IsAt w o m → slice_get o.function.ops o.at ≡ Some operation
    → HasCode m.memory m.pc (linked w o.function (place_of_op o.function o.at) operation)
code_of_op w o m operation placed at e =
    let f = o.function in
    let entry = w.entry f.name in
    let rest = (HasCode-append m.memory entry (prologue f) (linked_body w f (length (prologue f)) f.ops) placed.code).1 in
    let there = in_body w f m.memory (entry + 4 * length (prologue f)) (length (prologue f)) o.at f.ops operation e rest in
    let place : entry + 4 * length (prologue f) + 4 * sum_by (words_of f) (take o.at f.ops) ≡ m.pc = omega (arith, at) in
    subst (λ b. HasCode m.memory b (linked w f (place_of_op f o.at) operation)) place there

-- the next operation begins behind it
pub next_place : (f : LirFn) (k : ℕ) (os : List Op) (o : Op) → slice_get os k ≡ Some o → sum_by (words_of f) (take (suc k) os) ≡ sum_by (words_of f) (take k os) + words_of f o
next_place f k [] o e = cc
next_place f zero (p ∷ os) o e =
    let same : words_of f p ≡ words_of f o = ap (words_of f) (some_op p o e) in
    omega (arith, sum_by-cons (words_of f) p [], same)
next_place f (suc k) (p ∷ os) o e = omega (arith, sum_by-cons (words_of f) p (take (suc k) os), sum_by-cons (words_of f) p (take k os), next_place f k os o e)

pub room_at : (w : World) (o : Open) (m : Machine) → IsPlaced w m.memory o.function → IsAt w o m → m.pc + 64 < 2 ^ 47
room_at w o m placed at = let low = placed.low in omega (arith, at, low, sum_by-take-le (words_of o.function) o.function.ops o.at)

-- no operation names a temporary that the function doesn't hold
pub op_below : (os : List Op) (k : ℕ) (o : Op) → slice_get os k ≡ Some o → above_op o ≤ above_all os
unfolding above_all
op_below [] k o e = cc
op_below (p ∷ os) zero o e = let same = some_op p o e in omega (arith, ap above_op same)
op_below (p ∷ os) (suc k) o e = let less = op_below os k o e in omega arith

-- ---- one operation

-- The machine runs the operation's instructions. The call has a value for a temporary, and goes on behind the operation.
pub record Follows (w : World) (addresses : Addresses) (o : Open) (m : Machine) (operation : Op) (to : ℕ) (value : FlatValue) : Type 0 where
  pub few : to < held o.function
  pub gives : Gives w.pac addresses o (words_of o.function operation) m to value
  pub at : IsAt w (with_temp to value o) gives.later

module _ (w : World) (addresses : Addresses) (o : Open) (m : Machine) (call : IsOpen addresses o m) (placed : IsPlaced w m.memory o.function) (at : IsAt w o m) where
  pub follows : (operation : Op) (to : ℕ) (value : FlatValue) → slice_get o.function.ops o.at ≡ Some operation → to < held o.function → Gives w.pac addresses o (words_of o.function operation) m to value → Follows w addresses o m operation to value
  follows operation to value e few g = record { few = few; gives = g; at = let pc = g.goes.pc in omega (arith, pc, at, next_place o.function o.at o.function.ops operation e) }

  pub temp_below : (operation : Op) (to : ℕ) → slice_get o.function.ops o.at ≡ Some operation → to < above_op operation → to < held o.function
  temp_below operation to e h = omega (arith, h, op_below o.function.ops o.at operation e)

  room : m.pc + 64 < 2 ^ 64
  room = omega (arith, room_at w o m placed at)

  pub const_runs : (to value : ℕ) → value < 2 ^ 64 → slice_get o.function.ops o.at ≡ Some (op.Const to value) → Follows w addresses o m (op.Const to value) to (Number value)
  unfolding above
  const_runs to value small e =
      let few = temp_below (op.Const to value) to e (omega arith) in
      follows (op.Const to value) to (Number value) e few
      (const_follows w.pac addresses o m call room (pos 0) to value small few (code_of_op w o m (op.Const to value) placed at e))

  pub bin_runs : (to : ℕ) (operator : BinOp) (left right x y z : ℕ) → slice_get o.function.ops o.at ≡ Some (op.Bin to operator left right) → temp o left ≡ Some (Number x) → temp o right ≡ Some (Number y) → of_numbers operator x y ≡ Some z
      → Follows w addresses o m (op.Bin to operator left right) to (Number z)
  unfolding above
  bin_runs to operator left right x y z e l r means =
      let few = temp_below (op.Bin to operator left right) to e (omega arith) in
      follows (op.Bin to operator left right) to (Number z) e few
      (bin_follows w.pac addresses o m call room (pos 0) to operator left right x y z few l r means (code_of_op w o m (op.Bin to operator left right) placed at e))

  pub un_runs : (to : ℕ) (operator : UnOp) (from x : ℕ) → slice_get o.function.ops o.at ≡ Some (op.Un to operator from) → temp o from ≡ Some (Number x) → Follows w addresses o m (op.Un to operator from) to (Number (of_number operator x))
  unfolding above
  un_runs to operator from x e l =
      let few = temp_below (op.Un to operator from) to e (omega arith) in
      follows (op.Un to operator from) to (Number (of_number operator x)) e few
      (un_follows w.pac addresses o m call room (pos 0) to operator from x few l (code_of_op w o m (op.Un to operator from) placed at e))

  pub extend_runs : (to from bits : ℕ) (signed : Bool) (x : ℕ) → 1 ≤ bits → slice_get o.function.ops o.at ≡ Some (op.Extend to from bits signed) → temp o from ≡ Some (Number x)
      → Follows w addresses o m (op.Extend to from bits signed) to (Number (extended bits signed x))
  unfolding above
  extend_runs to from bits signed x some e l =
      let few = temp_below (op.Extend to from bits signed) to e (omega arith) in
      follows (op.Extend to from bits signed) to (Number (extended bits signed x)) e few
      (extend_follows w.pac addresses o m call room (pos 0) to from bits signed x some few l (code_of_op w o m (op.Extend to from bits signed) placed at e))

  pub local_runs : (to local : ℕ) → local < length o.function.locals → slice_get o.function.ops o.at ≡ Some (op.Local to local) → Follows w addresses o m (op.Local to local) to (At (o.first + local) 0)
  unfolding above
  local_runs to local within e =
      let few = temp_below (op.Local to local) to e (omega arith) in
      follows (op.Local to local) to (At (o.first + local) 0) e few
      (local_follows w.pac addresses o m call room (pos 0) to local within few (code_of_op w o m (op.Local to local) placed at e))
