-- What stays of the relation while instructions run that write inside the newest frame.
use Rattle.std.proofs.Common.{◌≡◌, ℕ, ◌+◌, ◌-◌, ◌≤◌, true, List, [], ◌∷◌, subst, ◌∙◌, arith}
use Rattle.std.specs.Prelude.{slice_index}
use Rattle.pa_mem.specs.Memory.{Region, Right, Read, Write, allowed, load, store}
use Rattle.pa_mem.proofs.Bytes.{allowed-part}
use Rattle.pa_mem.proofs.Ranges.{allowed-store}
use Rattle.pa_a64.specs.declared.instr.Instr.{Instr}
use Rattle.pa_a64.specs.declared.instr.Instr.TheVariants.{Stack, Exception}
use Rattle.pa_a64.specs.declared.instr.StackOp.TheVariants.{Retab, Pacibsp}
use Rattle.pa_a64.specs.declared.instr.ExceptionOp.TheVariants.{Svc}
use Rattle.pa_object.specs.Machine.{Machine}
use Rattle.pa_object.specs.Run.{advance_by}
use Rattle.pa_object.specs.Stub.{stub}
use Rattle.pa_object.specs.Placed.{HasCode}
use Rattle.pa_lir.specs.declared.function.LirFn.{LirFn}
use Rattle.pa_lir.specs.Values.{Objects}
use Rattle.pa_lir.specs.Meaning.{Open, putchar, getchar}
use Rattle.pa_frame.specs.Frames.{place_of_temp, size_of_frame}
use Rattle.pa_selected.specs.Values.{Addresses, Living, HasObjects}
use Rattle.pa_selected.specs.Worlds.{World, IsOff, IsPlaced, IsImported, linked_code, HasStack, HasCodeAndStack}
use Rattle.pa_selected.specs.Calls.{IsRunning, HasFrameAt, HasCallFrames}
use Rattle.pa_selected.proofs.Bytes.{HasBytes-stored}
use Rattle.pa_selected.proofs.Straight.{code_stays, allowed_stays}

-- ---- frames

module _ (w : World) (addresses : Addresses) (objects : Objects) where
  -- they lie on the stack
  pub frames_end : (memory : List Region) (born base : ℕ) (os : List Open) → HasCallFrames w addresses objects memory born base os → base ≤ w.top
  unfolding HasCallFrames
  frames_end memory born base [] h = let e = h.empty in omega (arith, e)
  frames_end memory born base (o ∷ os) h = let above = frames_end memory o.first (base + size_of_frame o.function) os h.1 in omega (arith, above)

  -- and stay where memory is the same from the first on
  pub frames_same : (memory later : List Region) (born base : ℕ) (os : List Open) → ((at : ℕ) → base ≤ at → load 8 later at ≡ load 8 memory at) → HasCallFrames w addresses objects memory born base os → HasCallFrames w addresses objects later born base os
  unfolding HasCallFrames
  frames_same memory later born base [] same h = h
  frames_same memory later born base (o ∷ os) same h = (
    record {
      named = h.0.named;
      back = h.0.back;
      saved = same (base + 8) (omega arith) ∙ h.0.saved;
      caller = h.0.caller;
      temps = λ t value e. let was = h.0.temps t value e in (was.0, rw (same (base + place_of_temp o.function t) (omega arith)) was.1);
      locals = h.0.locals;
      words = h.0.words;
      older = h.0.older;
      younger = h.0.younger;
    },
    frames_same memory later o.first (base + size_of_frame o.function) os (λ at low. same at (omega arith)) h.1,
  )

-- ---- what is placed

module _ (w : World) (n : ℕ) (m later : Machine) (running : IsRunning m) (runs : advance_by w.pac [] n m ≡ later) where
  allowed_later : (right : Right) (at k : ℕ) → allowed right later.memory at k ≡ allowed right m.memory at k
  allowed_later right at k = allowed_stays w.pac n m later runs right at k

  code_later : (is : List Instr) (at : ℕ) → HasCode m.memory at is → HasCode later.memory at is
  code_later is at c = code_stays w.pac n m later running runs is at c

  pub placed_function : (f : LirFn) → IsPlaced w m.memory f → IsPlaced w later.memory f
  placed_function f p = record {
    selectable = p.selectable;
    code = code_later (linked_code w f) (w.entry f.name) p.code;
    aligned = p.aligned;
    low = p.low;
    first = p.first;
  }

  placed_import : (name : List ℕ) (number : ℕ) → load 8 later.memory (w.slot name) ≡ load 8 m.memory (w.slot name) → IsImported w m.memory name number → IsImported w later.memory name number
  placed_import name number same p = record {
    stub = code_later (stub (w.entry name) (w.slot name)) (w.entry name) p.stub;
    code = code_later (Stack Pacibsp ∷ Exception Svc number ∷ Stack Retab ∷ []) (w.first name) p.code;
    low = p.low;
    reads = allowed_later Read (w.slot name) 8 ∙ p.reads;
    accepted = rw same p.accepted;
    off = p.off;
    slot_low = p.slot_low;
  }

  pub placed_later : load 8 later.memory (w.slot putchar) ≡ load 8 m.memory (w.slot putchar) → load 8 later.memory (w.slot getchar) ≡ load 8 m.memory (w.slot getchar)
      → HasCodeAndStack w m.memory → HasCodeAndStack w later.memory
  placed_later one two p = record {
    functions = λ name f e. let was = p.functions name f e in (was.0, placed_function f was.1);
    putchar = placed_import putchar 1 one p.putchar;
    getchar = placed_import getchar 2 two p.getchar;
    entries = p.entries;
    back = p.back;
    stack = record {
      reads = allowed_later Read w.low (w.top - w.low) ∙ p.stack.reads;
      writes = allowed_later Write w.low (w.top - w.low) ∙ p.stack.writes;
      ordered = p.stack.ordered;
      some = p.stack.some;
      low = p.stack.low;
    };
  }

-- ---- the newest frame

-- it can be read and written
pub frame_at : (w : World) (f : LirFn) (m : Machine) → HasStack w m.memory → w.low ≤ m.sp → m.sp + size_of_frame f ≤ w.top → HasFrameAt f m
frame_at w f m stack low high =
    let inside : m.sp - w.low + size_of_frame f ≤ w.top - w.low = omega arith in
    let at : w.low + (m.sp - w.low) ≡ m.sp = omega arith in
    record {
      reads = subst (λ a. allowed Read m.memory a (size_of_frame f) ≡ true) at (allowed-part Read m.memory w.low (w.top - w.low) (m.sp - w.low) (size_of_frame f) stack.reads inside);
      writes = subst (λ a. allowed Write m.memory a (size_of_frame f) ≡ true) at (allowed-part Write m.memory w.low (w.top - w.low) (m.sp - w.low) (size_of_frame f) stack.writes inside);
      low = let top = stack.low in omega arith;
    }

-- objects that live stay where a number is stored that none has a byte of
pub objects_stored : (addresses : Addresses) (objects : Objects) (memory : List Region) (n at value : ℕ) → Living addresses objects (λ p object from size. IsOff from size at (at + n)) → HasObjects addresses objects memory
    → HasObjects addresses objects (store n memory at value)
objects_stored addresses objects memory n at value off h = record {
  count = h.count;
  some = h.some;
  low = h.low;
  bytes = λ o object e alive. HasBytes-stored addresses n memory at value (slice_index addresses o) object.bytes (off o object e alive) (h.bytes o object e alive);
  reads = λ o object e alive. allowed-store n Read memory at value _ _ ∙ h.reads o object e alive;
  writes = λ o object e alive may. allowed-store n Write memory at value _ _ ∙ h.writes o object e alive may;
  apart = h.apart;
}
