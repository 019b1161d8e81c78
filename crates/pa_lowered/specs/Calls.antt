-- How an open call of flat code stands to that of C's meaning.
use Rattle.std.specs.Prelude.{◌≡◌, ◌≤◌, ◌<◌, ℕ, ◌+◌, false, if◌then◌else◌, List, ◌∷◌, length, slice_get, Option, Some, None, option_and_then}
use Rattle.pa_ctype.specs.Values.{Owner, Local}
use Rattle.pa_ctype.specs.Types.{TypeTree}
use Rattle.pa_typed.specs.Units.{LocalTree}
use Rattle.pa_cmean.specs.State.{World, State, owner_of}
use Rattle.pa_lir.specs.declared.function.LirFn.{LirFn}
use Rattle.pa_lir.specs.Values as flat
use Rattle.pa_lir.specs.Values.{FlatValue}
use Rattle.pa_lir.specs.Meaning.{Open, Flat, depth}
use Rattle.pa_lir.specs.Parts.{frame_bound}
use Rattle.pa_lir.specs.Flow.{is_among}
use Rattle.pa_lowered.specs.Objects.{Map, Grows, HasObjects}

-- the values of temporaries, the newest first
abbrev pub Temps : Type 0
Temps = List (ℕ × FlatValue)

-- how many bytes, of an object that lives
abbrev pub room_of : flat.Object → Option ℕ
room_of object = if object.alive then Some (length object.bytes) else None

abbrev pub room_at : flat.Objects → ℕ → Option ℕ
room_at qs p = option_and_then room_of (slice_get qs p)

-- An open call: its function's flat code, locals and type of result, the calls that wait, the number of its first local in flat
-- code, the temporary for its result. And as it was entered: the map, which objects lie in those before its own, and how many bytes these have.
pub record Entered : Type 0 where
  pub function : LirFn
  pub locals : List LocalTree
  pub result : TypeTree
  pub waiting : List Open
  pub first : ℕ
  pub into : Option ℕ
  pub map : Map
  pub who : ℕ → Option ℕ
  pub rooms : ℕ → Option ℕ

-- it stands at a place of its code
abbrev pub at_place : Entered → ℕ → Temps → Open
at_place w at temps = record { function = w.function; at = at; temps = temps; first = w.first; into = w.into }

-- its local is of that number
abbrev pub local_at : Entered → ℕ → ℕ
local_at w x = w.first + x

-- the object that a local of the open call is, by its number; none where the local doesn't live
abbrev pub number_of : Option Owner → Option ℕ
number_of (Some (Local o)) = Some o
number_of _ = None

-- The objects of both meanings, where these locals of the open call may live and no others: each lies in its own object of flat
-- code, which lives from the entry to the return. What is before the call's first object stands as it was at the entry.
pub record Sees (w : Entered) (live : List ℕ) (m : Map) (world : World) (qs : flat.Objects) : Type 0 where
  pub who : ℕ → Option ℕ
  pub objects : HasObjects m who world.objects qs
  pub grown : Grows w.map m
  pub locals : world.here.locals ≡ w.locals
  pub owners : length world.here.owners ≡ length w.locals
  pub count : length w.function.locals ≡ length w.locals
  pub lives : (x : ℕ) (owner : Owner) → owner_of world x ≡ Some owner → (o : ℕ) × (owner ≡ Local o) × (m o ≡ Some (local_at w x))
  pub others : (x : ℕ) → is_among live x ≡ false → owner_of world x ≡ None
  pub own : (x : ℕ) → x < length w.locals → who (local_at w x) ≡ number_of (owner_of world x)
  pub rooms : (x : ℕ) (l : LocalTree) → slice_get w.locals x ≡ Some l → room_at qs (local_at w x) ≡ Some l.size
  pub first : w.first ≤ length qs
  pub older : (p : ℕ) → p < w.first → who p ≡ w.who p
  pub older_rooms : (p : ℕ) → p < w.first → room_at qs p ≡ w.rooms p

-- the bytes of the frames of the open calls
abbrev pub stack : Entered → ℕ
stack w = frame_bound w.function + depth w.waiting

-- The open call at that place of its code with these temporaries, in step with that of C's meaning.
pub record At (w : Entered) (live : List ℕ) (at : ℕ) (temps : Temps) (m : Map) (st : State) (s : Flat) : Type 0 where
  pub opens : s.opens ≡ at_place w at temps ∷ w.waiting
  pub coming : s.coming ≡ None
  pub ended : s.ended ≡ None
  pub input : s.input ≡ st.world.input
  pub weight : stack w ≤ st.world.here.depth
  pub sees : Sees w live m st.world s.objects
