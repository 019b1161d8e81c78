-- What a run shows of its calls: functions entered, qualified pointers loaded, and calls through pointers. All lists have
-- the newest first.
use Rattle.std.specs.Prelude.{ℕ, Bool, true, not, ◌&&◌, ◌||◌, ◌==◌, if◌then◌else◌, List, [], ◌∷◌, ◌++◌, length, Option, Some, None}
use Rattle.std.specs.List.{list_any}
use Rattle.pa_pac.specs.declared.key.Key.{Key}
use Rattle.pa_pac.specs.declared.key.Key.TheVariants.{IA, IB}
use Rattle.pa_pac.specs.declared.event.Way.{Way}
use Rattle.pa_pac.specs.declared.event.Way.TheVariants as way
use Rattle.pa_pac.specs.declared.event.Event.{Event}
use Rattle.pa_pac.specs.declared.event.Event.TheVariants as event
use Rattle.pa_pac.specs.declared.event.When.{When}
use Rattle.pa_pac.specs.declared.event.When.TheVariants as moment
use Rattle.pa_pac.specs.Key.{same_key}
use Rattle.pa_pac.specs.Log.{Log}
use Rattle.pa_object.specs.Run.{Place}

-- what an accepted authentication tells
pub record Taken : Type 0 where
  pub key : Key
  pub modifier : ℕ
  pub raw : ℕ

pub data Shown : Type 0 where
  -- a function was entered: its first instruction signed the return address, at this place
  Enter : (at : ℕ) → Shown
  -- a qualified pointer was loaded
  Load : (taken : Taken) → Shown
  -- a call through a pointer went to this place, and this was the last authentication before it
  Call : (target : ℕ) (under : Option Taken) → Shown

-- the place of the instruction of this number, counted from the oldest of a trail
unfoldable pub place_of : List Place → ℕ → ℕ
place_of [] number = 0
place_of (place ∷ older) number = if number == length older then place.at else place_of older number

abbrev pub taken_by : Event → Option Taken → Option Taken
taken_by (event.Take key modifier raw known) before = Some (record { key = key; modifier = modifier; raw = raw })
taken_by (event.Sign key modifier raw signed) before = before
taken_by (event.Land way target) before = before

-- the last authentication that was accepted
unfoldable pub last_taken : Log → Option Taken
last_taken [] = None
last_taken (entry ∷ older) = taken_by entry.event (last_taken older)

-- signing under IB enters a function; loading signs too, and enters none
abbrev pub entered : List Place → Key → When → List Shown
entered trail key moment.Load = []
entered trail key (moment.Step number) = if same_key key IB then Enter (place_of trail number) ∷ [] else []

-- an authentication under IA is a qualified load, unless it is of a plain pointer or of an import's slot
abbrev pub loaded : List ℕ → Key → ℕ → ℕ → List Shown
loaded got key modifier raw =
    if same_key key IA && not (modifier == 0 || list_any (λ slot. slot == modifier) got)
    then Load (record { key = key; modifier = modifier; raw = raw }) ∷ [] else []

abbrev pub landed : Way → ℕ → Option Taken → List Shown
landed way.Call target under = Call target under ∷ []
landed way.Jump target under = []
landed way.Return target under = []

abbrev pub shown_by : List ℕ → List Place → When → Event → Log → List Shown
shown_by got trail when (event.Sign key modifier raw signed) older = entered trail key when
shown_by got trail when (event.Take key modifier raw known) older = loaded got key modifier raw
shown_by got trail when (event.Land way target) older = landed way target (last_taken older)

-- the shape of a run with this trail and log, where these are the addresses of the imports' slots
unfoldable pub shape : List ℕ → List Place → Log → List Shown
shape got trail [] = []
shape got trail (entry ∷ older) = shown_by got trail entry.when entry.event older ++ shape got trail older

-- no authentication that isn't known
abbrev pub is_known_take : Event → Bool
is_known_take (event.Take key modifier raw known) = known
is_known_take (event.Sign key modifier raw signed) = true
is_known_take (event.Land way target) = true

-- each accepted authentication is known
unfoldable pub all_known : Log → Bool
all_known [] = true
all_known (entry ∷ older) = is_known_take entry.event && all_known older
