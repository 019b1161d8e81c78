-- A load from a living object through a place: the whole relation holds behind it.
use Rattle.std.proofs.Common.{◌≡◌, ℕ, ◌+◌, ◌*◌, ◌≤◌, Bool, true, false, cond, leb, List, ◌∷◌, length, take, drop, Some, None, refl, sym, ap, subst, ◌∙◌, arith}
use Rattle.std.specs.Prelude.{pos, slice_get, slice_index, unwrap_or, ◌&&◌}
use Rattle.std.proofs.lemmas.List.{length-append, length-take-le, length-drop}
use Rattle.std.proofs.lemmas.Bool.{and_parts, leb-true}
use Rattle.pa_mem.specs.Memory.{Read, allowed, load}
use Rattle.pa_mem.proofs.Bytes.{allowed-part}
use Rattle.pa_object.specs.Machine.{Machine}
use Rattle.pa_lir.specs.declared.op.Op.TheVariants as op
use Rattle.pa_lir.specs.Parts.{above}
use Rattle.pa_lir.specs.WellFormed.{IsWidth}
use Rattle.pa_lir.specs.Values.{FlatValue, At, Byte, Object, Objects, extended, bytes_at, value_in}
use Rattle.pa_lir.specs.Meaning.{Open, temp, with_temp}
use Rattle.pa_select.specs.Computing as code
use Rattle.pa_select.specs.Selected.{load_temp, store_temp}
use Rattle.pa_select.proofs.Costs.{words_at_most}
use Rattle.pa_selected.specs.Values.{Addresses, StandsFor, HasBytes}
use Rattle.pa_selected.specs.Worlds.{World}
use Rattle.pa_selected.proofs.Bytes.{HasBytes-drop, HasBytes-take}
use Rattle.pa_selected.proofs.Contents.{value_loaded}
use Rattle.pa_selected.proofs.Storing.{load_follows}
use Rattle.pa_selected.proofs.Steps.{follows, temp_below, code_of_op, room_at}
use Rattle.pa_selected.proofs.Giving.{Ready, Moves, open_call, function_placed, follows_ready}

-- bytes of a living object, which reach no further than it does
record Found (n offset : ℕ) (object : Object) (bytes : List Byte) : Type 0 where
  alive : object.alive ≡ true
  inside : offset + n ≤ length object.bytes
  same : bytes ≡ take n (drop offset object.bytes)

found : (n offset : ℕ) (object : Object) (bytes : List Byte) → bytes_at n offset object ≡ Some bytes → Found n offset object bytes
found n offset object bytes e = go (object.alive && leb (offset + n) (length object.bytes)) refl e
  where
    go : (b : Bool) → (object.alive && leb (offset + n) (length object.bytes)) ≡ b → cond b (Some (take n (drop offset object.bytes))) None ≡ Some bytes → Found n offset object bytes
    go true q e =
        let both = and_parts object.alive (leb (offset + n) (length object.bytes)) q in
        record { alive = both.0; inside = leb-true (offset + n) (length object.bytes) both.1; same = sym (ap (λ o. unwrap_or o (take n (drop offset object.bytes))) e) }
    go false q e = cc

module _ (w : World) (addresses : Addresses) (objects : Objects) (o : Open) (os : List Open) (m : Machine) (ready : Ready w addresses objects o os m) where
  pub load_moves : (to at n object offset : ℕ) (signed : Bool) (target : Object) (bytes : List Byte) (value : FlatValue) → slice_get o.function.ops o.at ≡ Some (op.Load to at n signed) → IsWidth n → temp o at ≡ Some (At object offset)
      → slice_get objects object ≡ Some target → bytes_at n offset target ≡ Some bytes → value_in signed bytes ≡ Some value → Moves w addresses objects (with_temp to value o) os m 1 5
  unfolding above
  load_moves to at n object offset signed target bytes value e width v there read means =
      let f = o.function in
      let call = open_call w addresses objects o os m ready in
      let placed = function_placed w addresses objects o os m ready in
      let low = room_at w o m placed ready.at in
      let has = found n offset target bytes read in
      let first = slice_index addresses object in
      let from = first + offset in
      let word = call.temps at (At object offset) v in
      let lies = HasBytes-take addresses m.memory from n (drop offset target.bytes) (HasBytes-drop addresses m.memory first offset target.bytes (ready.lie.bytes object target there has.alive)) in
      let size : length bytes ≡ n = ap length has.same ∙ length-take-le n (drop offset target.bytes) (omega (arith, has.inside, length-drop offset target.bytes)) in
      let may : allowed Read m.memory from n ≡ true = allowed-part Read m.memory first (length target.bytes) offset n (ready.lie.reads object target there has.alive) has.inside in
      let stands : StandsFor addresses value (extended (8 * n) signed (load n m.memory from)) =
      subst (λ k. StandsFor addresses value (extended (8 * k) signed (load k m.memory from))) size
      (value_loaded addresses m.memory from signed bytes value means ready.running.widths.memory (subst (HasBytes addresses m.memory from) (sym has.same) lies)) in
      let few = temp_below w addresses o m call placed ready.at (op.Load to at n signed) to e (omega arith) in
      let given = load_follows w.pac addresses o m call (omega (arith, low)) (pos 0) to at n from signed value few word.0 word.1.1 width may stands (code_of_op w o m (op.Load to at n signed) placed ready.at e) in
      follows_ready w addresses objects o os m ready (op.Load to at n signed) to value 5
      (omega (arith, length-append (load_temp f 9 at) (code.load_sized n signed ∷ store_temp f 9 to))) (words_at_most f (op.Load to at n signed) tt)
      (follows w addresses o m call placed ready.at (op.Load to at n signed) to value e few given)
