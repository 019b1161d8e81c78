-- The relation of a whole state, and that of the newest call and of a call that is made.
use Rattle.std.proofs.Common.{◌≡◌, ℕ, ◌+◌, ◌-◌, ◌≤◌, List, [], ◌∷◌, length, Option, Some, None, sym, subst, arith}
use Rattle.pa_mem.specs.Memory.{Region}
use Rattle.pa_object.specs.Machine.{Machine}
use Rattle.pa_lir.specs.declared.function.LirFn.{LirFn}
use Rattle.pa_lir.specs.Parts.{frame_bound}
use Rattle.pa_lir.specs.Values.{Objects}
use Rattle.pa_lir.specs.Meaning.{Open, Coming, Flat, depth}
use Rattle.pa_frame.specs.Frames.{size_of_frame}
use Rattle.pa_selected.specs.Values.{Addresses}
use Rattle.pa_selected.specs.Worlds.{World}
use Rattle.pa_selected.specs.Calls.{HasCallFrames}
use Rattle.pa_selected.specs.Runs.{Simulates, IsNext, IsWithinCosts, unspent, entry_cost}
use Rattle.pa_selected.proofs.Giving.{Ready}
use Rattle.pa_selected.proofs.Comings.{Made}

-- ---- how deep the stack is

size_within : (f : LirFn) → size_of_frame f ≤ frame_bound f
size_within f = omega arith

-- the frames of open calls take at most the bytes that flat code counts for them
pub frames_depth : (w : World) (addresses : Addresses) (objects : Objects) (memory : List Region) (born base : ℕ) (os : List Open) → HasCallFrames w addresses objects memory born base os → w.top ≤ base + depth os
unfolding HasCallFrames depth
frames_depth w addresses objects memory born base [] h = let e = h.empty in omega (arith, e)
frames_depth w addresses objects memory born base (o ∷ os) h =
    let above = frames_depth w addresses objects memory o.first (base + size_of_frame o.function) os h.1 in
    omega (arith, above, size_within o.function)

-- one more frame lies on the stack
pub frame_fits : (w : World) (f : LirFn) (sp deep : ℕ) → w.low ≤ w.top → w.top ≤ sp + deep → frame_bound f + deep ≤ w.top - w.low → w.low + size_of_frame f ≤ sp
frame_fits w f sp deep ordered high few = omega (arith, ordered, high, few, size_within f)

-- ---- from and to the relation of the whole

module _ (w : World) (addresses : Addresses) (s : Flat) (m : Machine) where
  pub ready_of : (o : Open) (os : List Open) → Simulates w addresses s m → s.coming ≡ None → s.opens ≡ o ∷ os → Ready w addresses s.objects o os m
  ready_of o os simulates none opens = record {
    running = simulates.running;
    placed = simulates.placed;
    room = simulates.room;
    lie = simulates.objects;
    slots = simulates.slots;
    frames = subst (HasCallFrames w addresses s.objects m.memory (length s.objects) m.sp) opens simulates.frames;
    at = subst (IsNext w addresses m None) opens (subst (λ c. IsNext w addresses m c s.opens) none simulates.next);
  }

  pub made_of : (c : Coming) → Simulates w addresses s m → s.coming ≡ Some c → Made w addresses s.objects s.opens c m
  made_of c simulates some = record {
    running = simulates.running;
    placed = simulates.placed;
    room = simulates.room;
    lie = simulates.objects;
    slots = simulates.slots;
    frames = simulates.frames;
    coming = subst (λ c. IsNext w addresses m c s.opens) some simulates.next;
  }

  pub ready_simulates : (o : Open) (os : List Open) → Ready w addresses s.objects o os m → s.coming ≡ None → s.opens ≡ o ∷ os → m.input ≡ s.input → m.output ≡ s.output → Simulates w addresses s m
  ready_simulates o os ready none opens input output = record {
    running = ready.running;
    placed = ready.placed;
    room = ready.room;
    objects = ready.lie;
    slots = ready.slots;
    frames = subst (HasCallFrames w addresses s.objects m.memory (length s.objects) m.sp) (sym opens) ready.frames;
    next = subst (λ c. IsNext w addresses m c s.opens) (sym none) (subst (IsNext w addresses m None) (sym opens) ready.at);
    input = input;
    output = output;
  }

  pub made_simulates : (c : Coming) (os : List Open) → Made w addresses s.objects os c m → s.coming ≡ Some c → s.opens ≡ os → m.input ≡ s.input → m.output ≡ s.output → Simulates w addresses s m
  made_simulates c os made some opens input output = record {
    running = made.running;
    placed = made.placed;
    room = made.room;
    objects = made.lie;
    slots = made.slots;
    frames = subst (HasCallFrames w addresses s.objects m.memory (length s.objects) m.sp) (sym opens) made.frames;
    next = subst (λ c. IsNext w addresses m c s.opens) (sym some) (subst (IsNext w addresses m (Some c)) (sym opens) made.coming);
    input = input;
    output = output;
  }

-- ---- costs

module _ (started : ℕ) (s : Flat) (m : Machine) (c : Option Coming) (os : List Open) (coming : s.coming ≡ c) (opens : s.opens ≡ os) where
  pub most_of : IsWithinCosts started s m → m.count + unspent c os ≤ started + entry_cost + s.cost
  most_of within = subst (λ os. m.count + unspent c os ≤ started + entry_cost + s.cost) opens (subst (λ c. m.count + unspent c s.opens ≤ started + entry_cost + s.cost) coming within.most)

  pub within_of : started + s.operations ≤ m.count → m.count + unspent c os ≤ started + entry_cost + s.cost → IsWithinCosts started s m
  within_of fewest most = record {
    fewest = fewest;
    most = subst (λ c. m.count + unspent c s.opens ≤ started + entry_cost + s.cost) (sym coming) (subst (λ os. m.count + unspent c os ≤ started + entry_cost + s.cost) (sym opens) most);
  }
