-- How a machine stands to the open calls of flat code.
use Rattle.std.specs.Prelude.{◌≡◌, ◌≤◌, ◌<◌, ℕ, suc, ◌+◌, ◌*◌, ◌^◌, true, List, [], ◌∷◌, length, slice_get, slice_index, Option, Some, None}
use Rattle.pa_pac.specs.declared.key.Key.TheVariants.{IB}
use Rattle.pa_pac.specs.Signing.{sign}
use Rattle.pa_mem.specs.Memory.{Region, Read, Write, allowed, load, all_apart, write_xor_run}
use Rattle.pa_object.specs.Machine.{Machine, register}
use Rattle.pa_object.specs.Widths.{HasWidths}
use Rattle.pa_lir.specs.declared.op.Op.TheVariants as op
use Rattle.pa_lir.specs.declared.function.LirFn.{LirFn}
use Rattle.pa_lir.specs.Parts.{held}
use Rattle.pa_lir.specs.Values.{FlatValue, Objects}
use Rattle.pa_lir.specs.Meaning.{Open, Coming, temp}
use Rattle.pa_frame.specs.Frames.{saved_bytes, place_of_temp, place_of_local, size_of_frame}
use Rattle.pa_select.specs.Registers.{x0, x30}
use Rattle.pa_select.specs.Selected.{load_arguments}
use Rattle.pa_selected.specs.Values.{Addresses, StandsFor, Living}
use Rattle.pa_selected.specs.Worlds.{World, IsOff, Names, place_of_op}

-- It goes on, its numbers have 64 bits, and no region of its memory overlaps another or may be both written and run.
pub record IsRunning (m : Machine) : Type 0 where
  pub going : m.ended ≡ None
  pub wide : length m.registers ≡ 31
  pub widths : HasWidths m
  pub apart : all_apart m.memory ≡ true
  pub exclusive : write_xor_run m.memory ≡ true

-- ---- one frame

-- The frame of a function lies from the stack pointer on.
pub record HasFrameAt (f : LirFn) (m : Machine) : Type 0 where
  pub reads : allowed Read m.memory m.sp (size_of_frame f) ≡ true
  pub writes : allowed Write m.memory m.sp (size_of_frame f) ≡ true
  pub low : m.sp + size_of_frame f < 2 ^ 63

-- the value of each temporary stands in its slot, where the frame begins at an address
abbrev pub HasTemps : Addresses → Open → List Region → (base : ℕ) → Type 0
HasTemps addresses o memory base =
    (t : ℕ) (value : FlatValue) → temp o t ≡ Some value
    → (t < held o.function) × StandsFor addresses value (load 8 memory (base + place_of_temp o.function t))

-- each local of the call lies in its place of the frame
pub record HasLocals (addresses : Addresses) (o : Open) (base : ℕ) : Type 0 where
  pub count : o.first + length o.function.locals ≤ length addresses
  pub places : (l : ℕ) → l < length o.function.locals → slice_index addresses (o.first + l) ≡ base + place_of_local o.function l

-- the newest open call, between two operations
pub record IsOpen (addresses : Addresses) (o : Open) (m : Machine) : Type 0 where
  pub running : IsRunning m
  pub frame : HasFrameAt o.function m
  pub temps : HasTemps addresses o m.memory m.sp
  pub locals : HasLocals addresses o m.sp

-- ---- the frames of all open calls

-- Where a call goes back to, if a function is called from there: behind the BL of the caller's operation, which is a call whose
-- result goes into that temporary.
pub record IsWaiting (w : World) (caller : Open) (into : Option ℕ) (back : ℕ) : Type 0 where
  pub name : List ℕ
  pub arguments : List ℕ
  pub calls : slice_get caller.function.ops caller.at ≡ Some (op.Call into name arguments)
  pub behind : back ≡ w.entry caller.function.name + 4 * (place_of_op caller.function caller.at + suc (length (load_arguments caller.function x0 arguments)))

-- by the open calls before: `main` goes back to the program's start
abbrev pub GoesBack : World → List Open → (into : Option ℕ) → (back : ℕ) → Type 0
GoesBack w [] into back = back ≡ w.back
GoesBack w (caller ∷ os) into back = IsWaiting w caller into back

-- An object has no byte among the registers that a frame saves, and none among its slots of temporaries.
pub record IsOffWords (f : LirFn) (base at size : ℕ) : Type 0 where
  pub saved : IsOff at size base (base + saved_bytes)
  pub temps : IsOff at size (base + place_of_temp f 0) (base + place_of_temp f (held f))

-- The frame of an open call from an address on, where so many objects were born before the next call. The return address stands
-- there signed, under the stack pointer that the caller had. Objects that are older than the call lie behind its frame, or not
-- on the stack; of those that are younger, only its own locals live.
pub record HasCallFrame (w : World) (addresses : Addresses) (objects : Objects) (memory : List Region) (born base : ℕ) (o : Open) (before : List Open) : Type 0 where
  pub named : Names w o.function.name o.function
  pub back : ℕ
  pub saved : load 8 memory (base + 8) ≡ sign w.pac IB (base + size_of_frame o.function) back
  pub caller : GoesBack w before o.into back
  pub temps : HasTemps addresses o memory base
  pub locals : HasLocals addresses o base
  pub words : Living addresses objects (λ p object at size. IsOffWords o.function base at size)
  pub older : Living addresses objects (λ p object at size. p < o.first → IsOff at size w.low (base + size_of_frame o.function))
  pub younger : Living addresses objects (λ p object at size. p < born → p < o.first + length o.function.locals)

-- where no call is open: what lives isn't on the stack
pub record HasNoFrame (w : World) (addresses : Addresses) (objects : Objects) (born base : ℕ) : Type 0 where
  pub empty : base ≡ w.top
  pub globals : Living addresses objects (λ p object at size. p < born → IsOff at size w.low w.top)

-- the frames of open calls, the newest first, each before that of its caller, up to the stack's end
unfoldable pub HasCallFrames : World → Addresses → Objects → List Region → (born base : ℕ) → List Open → Type 0
HasCallFrames w addresses objects memory born base [] = HasNoFrame w addresses objects born base
HasCallFrames w addresses objects memory born base (o ∷ os) =
    HasCallFrame w addresses objects memory born base o os
    × HasCallFrames w addresses objects memory o.first (base + size_of_frame o.function) os

-- ---- where the machine goes on

-- registers from a number on have these values
abbrev pub HasArguments : Addresses → Machine → (register : ℕ) → List FlatValue → Type 0
HasArguments addresses m number [] = Unit {0}
HasArguments addresses m number (value ∷ values) =
    StandsFor addresses value (register number m) × HasArguments addresses m (suc number) values

-- a call is made: the next instruction is the first of its function
pub record IsComing (w : World) (addresses : Addresses) (m : Machine) (os : List Open) (c : Coming) : Type 0 where
  pub pc : m.pc ≡ w.entry c.name
  pub back : GoesBack w os c.into (register x30 m)
  pub few : length c.arguments ≤ 8
  pub arguments : HasArguments addresses m x0 c.arguments

-- the next instruction is the first of the open call's next operation
abbrev pub IsAt : World → Open → Machine → Type 0
IsAt w o m = m.pc ≡ w.entry o.function.name + 4 * place_of_op o.function o.at
