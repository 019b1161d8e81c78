-- Kept control flow: what holds of a run's log and of its instructions before the first authentication that accepted what
-- was never signed. Logs and trails have the newest first.
use Rattle.std.specs.Prelude.{◌⊎◌, ◌≡◌, ℕ, zero, suc, ◌≤◌, Bool, true, false, not, ◌&&◌, ◌||◌, nat_le, if◌then◌else◌, List, [], ◌∷◌, length, Option, Some, None}
use Rattle.std.specs.Option.{option_map_or}
use Rattle.pa_pac.specs.declared.key.Key.{Key}
use Rattle.pa_pac.specs.declared.key.Key.TheVariants.{IA, IB, DA, DB, GA}
use Rattle.pa_pac.specs.declared.event.Way.{Way}
use Rattle.pa_pac.specs.declared.event.Way.TheVariants as way
use Rattle.pa_pac.specs.declared.event.Event.{Event}
use Rattle.pa_pac.specs.declared.event.Event.TheVariants as event
use Rattle.pa_pac.specs.declared.event.Entry.{Entry}
use Rattle.pa_pac.specs.declared.event.When.{When}
use Rattle.pa_pac.specs.declared.event.When.TheVariants as moment
use Rattle.pa_pac.specs.Log.{Log}
use Rattle.pa_a64.specs.declared.instr.Instr.{Instr}
use Rattle.pa_a64.specs.Decoding.{decoded}
use Rattle.pa_object.specs.Run.{Place, Watched}
use Rattle.pa_object.specs.Shape.{Taken, last_taken, is_known_take, all_known}
use Rattle.pa_object.specs.Rows.{writes_memory}
use Rattle.pa_kept.specs.Rows.{begins_raw, ends_raw}

-- where code stands: its words, the first words of functions, and the words behind calls
pub record CodeAt : Type 0 where
  pub word : ℕ → Option ℕ
  pub is_entry : ℕ → Bool
  pub is_after : ℕ → Bool

-- ---- what is known

-- the event came by this instruction or an earlier one, or while the images were loaded
abbrev pub is_by : (number : ℕ) → When → Bool
is_by number moment.Load = true
is_by number (moment.Step step) = nat_le step number

-- each authentication up to the instruction of this number was known
abbrev pub all_known_by : (number : ℕ) → Log → Bool
all_known_by number [] = true
all_known_by number (entry ∷ older) =
    (not (is_by number entry.when) || is_known_take entry.event) && all_known_by number older

-- ---- how long a raw code pointer may stand

abbrev pub one_more : Option ℕ → Option ℕ
one_more None = None
one_more (Some n) = Some (suc n)

abbrev pub begun_raw : Option ℕ → Option ℕ
begun_raw None = Some 0
begun_raw (Some n) = Some (suc n)

-- how many instructions ran since the oldest one that left a raw code pointer, counted on by one more
abbrev pub raw_next : Instr → Option ℕ → Option ℕ
raw_next instr before =
    if ends_raw instr then (if begins_raw instr then Some 0 else None)
    else (if begins_raw instr then begun_raw before else one_more before)

abbrev pub raw_step : Option Instr → Option ℕ → Option ℕ
raw_step None before = one_more before
raw_step (Some instr) before = raw_next instr before

unfoldable pub raw_since : List Place → Option ℕ
raw_since [] = None
raw_since (place ∷ older) = raw_step (decoded place.word) (raw_since older)

-- while one stands no instruction writes memory, and at most six run before the one that signs it or calls
abbrev pub RawIsShort : Option Instr → Option ℕ → Type 0
RawIsShort instr None = Unit {0}
RawIsShort instr (Some n) =
    (option_map_or writes_memory instr false ≡ false) × (option_map_or ends_raw instr false ≡ false → suc n ≤ 6)

-- the instruction of this number, counted from the oldest, stood there
abbrev pub RanAt : List Place → (number at : ℕ) → Type 0
RanAt [] number at = ⊥
RanAt (place ∷ older) number at = ((number ≡ length older) × (place.at ≡ at)) ⊎ RanAt older number at

-- ---- kept control flow

module _ (code : CodeAt) where
  -- an indirect branch goes to the raw address of the last authentication, under IB to a place behind a call where it
  -- returns, else under IA to a function
  abbrev pub LandsRight : Way → (target : ℕ) → Option Taken → Type 0
  LandsRight w target None = ⊥
  LandsRight way.Return target (Some taken) = (taken.raw ≡ target) × (taken.key ≡ IB) × (code.is_after target ≡ true)
  LandsRight way.Call target (Some taken) = (taken.raw ≡ target) × (taken.key ≡ IA) × (code.is_entry target ≡ true)
  LandsRight way.Jump target (Some taken) = (taken.raw ≡ target) × (taken.key ≡ IA) × (code.is_entry target ≡ true)

  -- made by the first instruction of a function
  abbrev pub AtEntry : List Place → When → Type 0
  AtEntry trail moment.Load = ⊥
  AtEntry trail (moment.Step number) = (at : ℕ) × RanAt trail number at × (code.is_entry at ≡ true)

  -- what is signed is a function under IA, or a place behind a call under IB where a function begins
  abbrev pub SignsRight : List Place → When → Key → (raw : ℕ) → Type 0
  SignsRight trail when IA raw = code.is_entry raw ≡ true
  SignsRight trail when IB raw = (code.is_after raw ≡ true) × AtEntry trail when
  SignsRight trail when other raw = ⊥

  abbrev pub EventKept : List Place → When → Event → Log → Type 0
  EventKept trail when (event.Land w target) older = LandsRight w target (last_taken older)
  EventKept trail when (event.Sign key modifier raw signed) older = SignsRight trail when key raw
  EventKept trail when (event.Take key modifier raw known) older = Unit {0}

  abbrev pub LogKept : List Place → Log → Type 0
  LogKept trail [] = Unit {0}
  LogKept trail (entry ∷ older) =
      (all_known (entry ∷ older) ≡ true → EventKept trail entry.when entry.event older) × LogKept trail older

  -- an instruction is a word of the code that stands there
  abbrev pub PlaceKept : Place → List Place → Type 0
  PlaceKept place older = (code.word place.at ≡ Some place.word) × RawIsShort (decoded place.word) (raw_since older)

  abbrev pub TrailKept : Log → List Place → Type 0
  TrailKept log [] = Unit {0}
  TrailKept log (place ∷ older) = (all_known_by (length older) log ≡ true → PlaceKept place older) × TrailKept log older

  abbrev pub IsKept : Watched → Type 0
  IsKept w = LogKept w.trail w.machine.log × TrailKept w.machine.log w.trail
