-- An operation that gives a temporary a value: the whole relation holds behind it.
use Rattle.std.proofs.Common.{◌≡◌, ℕ, ◌+◌, ◌≤◌, ◌<◌, List, [], ◌∷◌, length, sym, ap, subst, ◌∙◌, arith}
use Rattle.std.specs.Prelude.{slice_index}
use Rattle.pa_pac.specs.declared.key.Key.TheVariants.{IB}
use Rattle.pa_pac.specs.Signing.{sign}
use Rattle.pa_mem.specs.Memory.{load}
use Rattle.pa_mem.proofs.Ranges.{load-store-other}
use Rattle.pa_object.specs.Machine.{Machine}
use Rattle.pa_object.specs.Run.{advance_by}
use Rattle.pa_lir.specs.declared.op.Op.{Op}
use Rattle.pa_lir.specs.Parts.{held}
use Rattle.pa_lir.specs.Values.{FlatValue, Objects}
use Rattle.pa_lir.specs.Meaning.{Open, with_temp, putchar, getchar}
use Rattle.pa_frame.specs.Frames.{place_of_temp, size_of_frame}
use Rattle.pa_select.specs.Selected.{words_of}
use Rattle.pa_selected.specs.Values.{Addresses, Living, HasObjects}
use Rattle.pa_selected.specs.Worlds.{World, IsOff, IsPlaced, HasCodeAndStack}
use Rattle.pa_selected.specs.Calls.{IsRunning, IsOpen, IsAt, IsOffWords, HasCallFrames}
use Rattle.pa_selected.specs.Runs.{IsOffSlots}
use Rattle.pa_selected.proofs.Slots.{slot_inside}
use Rattle.pa_selected.proofs.Storing.{Gives}
use Rattle.pa_selected.proofs.Steps.{Follows}
use Rattle.pa_selected.proofs.Keeping.{frames_end, frames_same, placed_later, frame_at, objects_stored}

-- The relation where the newest open call is at its next operation.
pub record Ready (w : World) (addresses : Addresses) (objects : Objects) (o : Open) (os : List Open) (m : Machine) : Type 0 where
  pub running : IsRunning m
  pub placed : HasCodeAndStack w m.memory
  pub room : w.low ≤ m.sp
  pub lie : HasObjects addresses objects m.memory
  pub slots : Living addresses objects (λ p object at size. IsOffSlots w at size)
  pub frames : HasCallFrames w addresses objects m.memory (length objects) m.sp (o ∷ os)
  pub at : IsAt w o m

-- Instructions that lead from one machine to another: how many, and what they leave.
pub record Leads (w : World) (least most : ℕ) (m later : Machine) : Type 0 where
  pub number : ℕ
  pub runs : advance_by w.pac [] number m ≡ later
  pub some : least ≤ number
  pub few : number ≤ most
  pub count : later.count ≡ m.count + number
  pub input : later.input ≡ m.input
  pub output : later.output ≡ m.output
  pub log : later.log ≡ m.log

-- What holds of memory and of the open calls, wherever the next instruction is.
pub record HasState (w : World) (addresses : Addresses) (objects : Objects) (os : List Open) (m : Machine) : Type 0 where
  pub running : IsRunning m
  pub placed : HasCodeAndStack w m.memory
  pub room : w.low ≤ m.sp
  pub lie : HasObjects addresses objects m.memory
  pub slots : Living addresses objects (λ p object at size. IsOffSlots w at size)
  pub frames : HasCallFrames w addresses objects m.memory (length objects) m.sp os

pub state_of : (w : World) (addresses : Addresses) (objects : Objects) (o : Open) (os : List Open) (m : Machine) → Ready w addresses objects o os m → HasState w addresses objects (o ∷ os) m
state_of w addresses objects o os m ready = record {
  running = ready.running;
  placed = ready.placed;
  room = ready.room;
  lie = ready.lie;
  slots = ready.slots;
  frames = ready.frames;
}

pub ready_at : (w : World) (addresses : Addresses) (objects : Objects) (o : Open) (os : List Open) (m : Machine) → HasState w addresses objects (o ∷ os) m → IsAt w o m → Ready w addresses objects o os m
ready_at w addresses objects o os m state at = record {
  running = state.running;
  placed = state.placed;
  room = state.room;
  lie = state.lie;
  slots = state.slots;
  frames = state.frames;
  at = at;
}

module _ (w : World) (addresses : Addresses) (objects : Objects) (o : Open) (os : List Open) (m : Machine) (state : HasState w addresses objects (o ∷ os) m) where
  pub frame_high : m.sp + size_of_frame o.function ≤ w.top
  unfolding HasCallFrames
  frame_high = frames_end w addresses objects m.memory o.first (m.sp + size_of_frame o.function) os state.frames.1

  pub newest_call : IsOpen addresses o m
  unfolding HasCallFrames
  newest_call = record {
    running = state.running;
    frame = frame_at w o.function m state.placed.stack state.room frame_high;
    temps = state.frames.0.temps;
    locals = state.frames.0.locals;
  }

  pub newest_placed : IsPlaced w m.memory o.function
  unfolding HasCallFrames
  newest_placed = (state.placed.functions o.function.name o.function state.frames.0.named).1

  -- ---- a temporary has a value

  module _ (n to : ℕ) (value : FlatValue) (few : to < held o.function) (g : Gives w.pac addresses o n m to value) where
    abbrev place : ℕ
    place = m.sp + place_of_temp o.function to

    elsewhere : (at : ℕ) → (at < place + 8 → at + 8 ≤ place) → load 8 g.later.memory at ≡ load 8 m.memory at
    elsewhere at off = ap (λ x. load 8 x at) g.goes.memory ∙ load-store-other 8 8 m.memory place g.word at off

    slot_same : (at : ℕ) → IsOff at 8 w.low w.top → load 8 g.later.memory at ≡ load 8 m.memory at
    slot_same at off = elsewhere at (λ below. let inside = slot_inside o.function to few in let high = frame_high in let low = state.room in omega (arith, off))

    frames_given : HasCallFrames w addresses objects g.later.memory (length objects) g.later.sp (with_temp to value o ∷ os)
    unfolding HasCallFrames
    frames_given = (
      record {
        named = state.frames.0.named;
        back = state.frames.0.back;
        saved = ap (λ s. load 8 g.later.memory (s + 8)) g.goes.sp ∙ (elsewhere (m.sp + 8) (λ below. omega arith) ∙ (state.frames.0.saved ∙ ap (λ s. sign w.pac IB (s + size_of_frame o.function) state.frames.0.back) (sym g.goes.sp)));
        caller = state.frames.0.caller;
        temps = g.call.temps;
        locals = g.call.locals;
        words = λ p object e alive. subst (λ b. IsOffWords o.function b (slice_index addresses p) (length object.bytes)) (sym g.goes.sp) (state.frames.0.words p object e alive);
        older = λ p object e alive before. subst (λ b. IsOff (slice_index addresses p) (length object.bytes) w.low (b + size_of_frame o.function)) (sym g.goes.sp) (state.frames.0.older p object e alive before);
        younger = state.frames.0.younger;
      },
      subst (λ b. HasCallFrames w addresses objects g.later.memory o.first (b + size_of_frame o.function) os) (sym g.goes.sp)
          (frames_same w addresses objects m.memory g.later.memory o.first (m.sp + size_of_frame o.function) os (λ at low. elsewhere at (λ below. let inside = slot_inside o.function to few in omega arith)) state.frames.1),
    )

    -- no object has a byte of the slot
    off_slot : Living addresses objects (λ p object at size. IsOff at size place (place + 8))
    unfolding HasCallFrames
    off_slot p object e alive = λ below. let off = (state.frames.0.words p object e alive).temps in omega (arith, off, few)

    pub gives_state : HasState w addresses objects (with_temp to value o ∷ os) g.later
    gives_state = record {
      running = g.call.running;
      placed = placed_later w n m g.later state.running g.goes.runs (slot_same (w.slot putchar) state.placed.putchar.off) (slot_same (w.slot getchar) state.placed.getchar.off) state.placed;
      room = let low = state.room in omega (arith, g.goes.sp);
      lie = subst (HasObjects addresses objects) (sym g.goes.memory) (objects_stored addresses objects m.memory 8 place g.word off_slot state.lie);
      slots = state.slots;
      frames = frames_given;
    }

module _ (w : World) (addresses : Addresses) (objects : Objects) (o : Open) (os : List Open) (m : Machine) (ready : Ready w addresses objects o os m) where
  pub open_call : IsOpen addresses o m
  open_call = newest_call w addresses objects o os m (state_of w addresses objects o os m ready)

  pub function_placed : IsPlaced w m.memory o.function
  function_placed = newest_placed w addresses objects o os m (state_of w addresses objects o os m ready)

-- ---- one unit

-- So many instructions, at least and at most, lead to a machine at the next operation of this open call. Nothing is printed,
-- read or logged.
pub record Moves (w : World) (addresses : Addresses) (objects : Objects) (o : Open) (os : List Open) (m : Machine) (least most : ℕ) : Type 0 where
  pub later : Machine
  pub leads : Leads w least most m later
  pub ready : Ready w addresses objects o os later

module _ (w : World) (addresses : Addresses) (objects : Objects) (o : Open) (os : List Open) (m : Machine) (ready : Ready w addresses objects o os m) where
  pub follows_ready : (operation : Op) (to : ℕ) (value : FlatValue) (most : ℕ) → 1 ≤ words_of o.function operation → words_of o.function operation ≤ most → Follows w addresses o m operation to value
      → Moves w addresses objects (with_temp to value o) os m 1 most
  follows_ready operation to value most some few h = record {
    later = h.gives.later;
    leads = record {
      number = words_of o.function operation;
      runs = h.gives.goes.runs;
      some = some;
      few = few;
      count = h.gives.goes.count;
      input = h.gives.goes.input;
      output = h.gives.goes.output;
      log = h.gives.goes.log;
    };
    ready = ready_at w addresses objects (with_temp to value o) os h.gives.later (gives_state w addresses objects o os m (state_of w addresses objects o os m ready) (words_of o.function operation) to value h.few h.gives) h.at;
  }
