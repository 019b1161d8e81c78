-- A store through a place, from the code in memory: the whole relation holds behind it.
use Rattle.std.proofs.Common.{◌≡◌, inl, inr, ℕ, suc, ◌+◌, ◌≤◌, Bool, true, false, cond, leb, List, [], ◌∷◌, length, set, Some, None, refl, sym, ap, subst, ◌∙◌, arith, length-set}
use Rattle.std.specs.Prelude.{slice_get, slice_index, unwrap_or, not, ◌&&◌}
use Rattle.std.proofs.lemmas.List.{length-append}
use Rattle.std.proofs.lemmas.Bool.{and_parts, leb-true}
use Rattle.pa_mem.specs.Memory.{Region, Write, allowed, load, store}
use Rattle.pa_mem.proofs.Bytes.{allowed-part}
use Rattle.pa_mem.proofs.Ranges.{load-lt}
use Rattle.pa_a64.specs.declared.instr.LoadStoreOp.TheVariants.{Ldr}
use Rattle.pa_object.specs.Machine.{Machine, register, next}
use Rattle.pa_object.specs.Effects.{with_memory}
use Rattle.pa_object.proofs.Placed.{HasCode-append}
use Rattle.pa_lir.specs.declared.op.Op.TheVariants as op
use Rattle.pa_lir.specs.WellFormed.{IsWidth}
use Rattle.pa_lir.specs.Values.{FlatValue, At, Byte, Object, Objects, bytes_of, overwritten, written}
use Rattle.pa_lir.specs.Meaning.{Open, temp, putchar, getchar}
use Rattle.pa_frame.specs.Frames.{place_of_temp}
use Rattle.pa_select.specs.Computing as code
use Rattle.pa_select.specs.Selected.{load_temp, operands, words_of}
use Rattle.pa_select.proofs.Costs.{length-access, words_at_most}
use Rattle.pa_selected.specs.Values.{Addresses, HasObjects}
use Rattle.pa_selected.specs.Worlds.{World, IsOff}
use Rattle.pa_selected.specs.Calls.{HasCallFrames}
use Rattle.pa_selected.proofs.Straight.{Goes, goes_then, goes_more, untouched, fine_later, code_later}
use Rattle.pa_selected.proofs.Slots.{scratch}
use Rattle.pa_selected.proofs.Storing.{slot, has_operands}
use Rattle.pa_selected.proofs.Steps.{code_of_op, room_at, next_place}
use Rattle.pa_selected.proofs.Branching.{moved}
use Rattle.pa_selected.proofs.Keeping.{placed_later}
use Rattle.pa_selected.proofs.Changing.{store_makes, value_stored, size_stored, size_overwritten, word_stays, overwritten_lie, was, objects_changed, frames_changed}
use Rattle.pa_selected.proofs.Giving.{Ready, Moves, open_call, function_placed}

-- what it is that an object was written
record Wrote (offset : ℕ) (new : List Byte) (target changed : Object) : Type 0 where
  alive : target.alive ≡ true
  changes : target.constant ≡ false
  inside : offset + length new ≤ length target.bytes
  same : changed ≡ record target { bytes = overwritten target.bytes offset new }

wrote : (offset : ℕ) (new : List Byte) (target changed : Object) → written offset new target ≡ Some changed → Wrote offset new target changed
wrote offset new target changed e = go (target.alive && (not target.constant && leb (offset + length new) (length target.bytes))) refl e
  where
    not_true : (b : Bool) → not b ≡ true → b ≡ false
    not_true true q = cc
    not_true false q = refl

    go : (b : Bool) → (target.alive && (not target.constant && leb (offset + length new) (length target.bytes))) ≡ b → cond b (Some (record target { bytes = overwritten target.bytes offset new })) None ≡ Some changed → Wrote offset new target changed
    go true q e =
        let one = and_parts target.alive (not target.constant && leb (offset + length new) (length target.bytes)) q in
        let two = and_parts (not target.constant) (leb (offset + length new) (length target.bytes)) one.1 in
        record {
          alive = one.0;
          changes = not_true target.constant two.0;
          inside = leb-true (offset + length new) (length target.bytes) two.1;
          same = sym (ap (λ o. unwrap_or o changed) e);
        }
    go false q e = cc

width_some : (n : ℕ) → IsWidth n → 1 ≤ n
width_some n (inl e) = omega arith
width_some n (inr (inl e)) = omega arith
width_some n (inr (inr (inl e))) = omega arith
width_some n (inr (inr (inr e))) = omega arith

-- the newest call at another of its operations
pub frames_at : (w : World) (addresses : Addresses) (objects : Objects) (memory : List Region) (born base : ℕ) (o : Open) (os : List Open) (k : ℕ) → HasCallFrames w addresses objects memory born base (o ∷ os) → HasCallFrames w addresses objects memory born base (moved o k ∷ os)
unfolding HasCallFrames
frames_at w addresses objects memory born base o os k f = (
  record {
    named = f.0.named;
    back = f.0.back;
    saved = f.0.saved;
    caller = f.0.caller;
    temps = f.0.temps;
    locals = record { count = f.0.locals.count; places = f.0.locals.places };
    words = f.0.words;
    older = f.0.older;
    younger = f.0.younger;
  },
  f.1,
)

-- x9 has the address, x10 the value's word, and the low bytes of it are stored
record Through (w : World) (o : Open) (m : Machine) (at from n : ℕ) : Type 0 where
  later : Machine
  goes : Goes w.pac (words_of o.function (op.Store at from n)) m later (store n m.memory (slot o.function m at) (slot o.function m from)) scratch

module _ (w : World) (addresses : Addresses) (objects : Objects) (o : Open) (os : List Open) (m : Machine) (ready : Ready w addresses objects o os m) where
  through : (at from n : ℕ) (u v : FlatValue) → slice_get o.function.ops o.at ≡ Some (op.Store at from n) → IsWidth n → temp o at ≡ Some u → temp o from ≡ Some v → allowed Write m.memory (slot o.function m at) n ≡ true → Through w o m at from n
  through at from n u v e width tu tv may =
      let f = o.function in
      let call = open_call w addresses objects o os m ready in
      let placed = function_placed w addresses objects o os m ready in
      let low = room_at w o m placed ready.at in
      let loaded = operands f at from in
      let parts = HasCode-append m.memory m.pc loaded (code.store_sized n ∷ []) (code_of_op w o m (op.Store at from n) placed ready.at e) in
      let one = has_operands w.pac f m call.running call.frame at from (call.temps at u tu).0 (call.temps from v tv).0 (omega (arith, low)) parts.0 in
      let k = one.later in
      let g = one.goes in
      let sizes = length-append (load_temp f 9 at) (load_temp f 10 from) in
      let near = length-access Ldr 9 (place_of_temp f at) in
      let far = length-access Ldr 10 (place_of_temp f from) in
      let running = fine_later w.pac _ m k m.memory _ call.running g in
      let rest = code_later w.pac _ m k m.memory _ (code.store_sized n ∷ []) call.running g parts.1 in
      let allowed_there : allowed Write k.memory (register 9 k) n ≡ true = ap (λ x. allowed Write x (register 9 k) n) g.memory ∙ (ap (λ a. allowed Write m.memory a n) one.is_left ∙ may) in
      let last = store_makes w.pac k n running (omega (arith, g.pc, sizes, near, far, low)) width allowed_there rest in
      let later = next (with_memory n (register 9 k) (register 10 k) k) in
      let left : store n k.memory (register 9 k) (register 10 k) ≡ store n m.memory (slot f m at) (slot f m from) =
      ap (λ x. store n x (register 9 k) (register 10 k)) g.memory ∙ (ap (λ a. store n m.memory a (register 10 k)) one.is_left ∙ ap (store n m.memory (slot f m at)) one.is_right) in
      let both = goes_then w.pac (length loaded) 1 m k later m.memory _ scratch (λ i. false) g last in
      let less = goes_more w.pac _ m later _ _ scratch (λ i h. untouched (scratch i) false h refl) both in
      record {
        later = later;
        goes = subst (λ c. Goes w.pac c m later (store n m.memory (slot f m at) (slot f m from)) scratch) (sym (length-append loaded (code.store_sized n ∷ [])))
            (subst (λ x. Goes w.pac (length loaded + 1) m later x scratch) left less);
      }

  pub store_moves : (at from n object offset : ℕ) (target changed : Object) (value : FlatValue) (new : List Byte) → slice_get o.function.ops o.at ≡ Some (op.Store at from n) → IsWidth n → temp o at ≡ Some (At object offset) → temp o from ≡ Some value
      → slice_get objects object ≡ Some target → bytes_of n value ≡ Some new → written offset new target ≡ Some changed → Moves w addresses (set objects object changed) (moved o (suc o.at)) os m 1 5
  store_moves at from n object offset target changed value new e width tu tv there means written_to =
      let h = wrote offset new target changed written_to in
      let first = slice_index addresses object in
      let call = open_call w addresses objects o os m ready in
      let place : slot o.function m at ≡ first + offset = (call.temps at (At object offset) tu).1.1 in
      let word = slot o.function m from in
      let stands = (call.temps from value tv).1 in
      let fits = load-lt 8 m.memory (m.sp + place_of_temp o.function from) ready.running.widths.memory in
      let count = size_stored n value new means in
      let inside : offset + n ≤ length target.bytes = omega (arith, h.inside, count) in
      let may : allowed Write m.memory (first + offset) n ≡ true = allowed-part Write m.memory first (length target.bytes) offset n (ready.lie.writes object target there h.alive h.changes) inside in
      let t = through at from n (At object offset) value e width tu tv (ap (λ a. allowed Write m.memory a n) place ∙ may) in
      let memory : t.later.memory ≡ store n m.memory (first + offset) word = t.goes.memory ∙ ap (λ a. store n m.memory a word) place in
      let stored = value_stored addresses m.memory n (first + offset) word value new (omega (arith, fits)) stands means may in
      let bytes = overwritten target.bytes offset new in
      let sizes = size_overwritten target.bytes offset new h.inside in
      let some = width_some n width in
      let now : Object = record target { bytes = bytes } in
      let all = set objects object now in
      let off = ready.slots object target there h.alive in
      let same : (at : ℕ) → IsOff first (length target.bytes) at (at + 8) → load 8 t.later.memory at ≡ load 8 m.memory at = λ at away.
      ap (λ x. load 8 x at) memory ∙ word_stays addresses objects m.memory ready.lie object n offset word target there h.alive bytes sizes some inside at (at + 8) at away (omega arith) (omega arith) in
      let frames = frames_changed addresses objects m.memory ready.lie object n offset word target there h.alive bytes sizes some inside w (length objects) m.sp (o ∷ os) ready.frames in
      subst (λ (x : Object). Moves w addresses (set objects object x) (moved o (suc o.at)) os m 1 5) (sym h.same) (record {
        later = t.later;
        leads = record {
          number = words_of o.function (op.Store at from n);
          runs = t.goes.runs;
          some = omega (arith, length-append (operands o.function at from) (code.store_sized n ∷ []));
          few = words_at_most o.function (op.Store at from n) tt;
          count = t.goes.count;
          input = t.goes.input;
          output = t.goes.output;
          log = t.goes.log;
        };
        ready = record {
          running = fine_later w.pac _ m t.later _ _ ready.running t.goes;
          placed = placed_later w _ m t.later ready.running t.goes.runs (same (w.slot putchar) off.0) (same (w.slot getchar) off.1) ready.placed;
          room = let low = ready.room in omega (arith, t.goes.sp);
          lie = subst (HasObjects addresses all) (sym memory)
              (objects_changed addresses objects m.memory ready.lie object n offset word target there h.alive bytes sizes some inside
              (overwritten_lie addresses m.memory n first offset word target.bytes new inside (ready.lie.bytes object target there h.alive) stored));
          slots = λ p q f a.
              let k = was addresses objects m.memory ready.lie object n offset word target there h.alive bytes sizes some inside p q f in
              let both = ready.slots p k.old k.there (k.alive a) in
              (λ below. let one = both.0 in omega (arith, one, k.size), λ below. let two = both.1 in omega (arith, two, k.size));
          frames = frames_at w addresses all t.later.memory (length all) t.later.sp o os (suc o.at)
              (subst (λ x. HasCallFrames w addresses all x (length all) t.later.sp (o ∷ os)) (sym memory)
              (subst (λ b. HasCallFrames w addresses all (store n m.memory (first + offset) word) (length all) b (o ∷ os)) (sym t.goes.sp)
              (subst (λ c. HasCallFrames w addresses all (store n m.memory (first + offset) word) c m.sp (o ∷ os)) (sym (length-set objects object now)) frames)));
          at = let here = ready.at in omega (arith, t.goes.pc, here, next_place o.function o.at o.function.ops (op.Store at from n) e);
        };
      })
