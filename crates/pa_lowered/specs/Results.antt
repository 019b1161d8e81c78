-- When a run of flat code gives what C's meaning gives from a moment on, within its costs (C11 5.1.2.3).
use Rattle.std.specs.Prelude.{◌≡◌, ◌≤◌, ℕ, ◌+◌, ◌*◌, max, ◌++◌, map, reverse, Option, Some, None, option_map, unwrap_or}
use Rattle.pa_ctype.specs.Values.{Owner, Local, Place}
use Rattle.pa_ctype.specs.Traces.{Under, Seen, Enter, Load, Call, Trace}
use Rattle.pa_cmean.specs.Results.{Meaning, End, Done, Stop, Undefined}
use Rattle.pa_lir.specs.declared.function.Lir.{Lir}
use Rattle.pa_lir.specs.Meaning as flat
use Rattle.pa_lir.specs.Meaning.{FlatEnd, Flat, run}
use Rattle.pa_lowered.specs.Objects.{Map, Grows}

-- ---- traces, with the numbers of local objects mapped

abbrev pub moved_owner : Map → Owner → Owner
moved_owner m (Local o) = Local (unwrap_or (m o) o)
moved_owner m owner = owner

abbrev pub moved_place : Map → Place → Place
moved_place m place = record place { owner = moved_owner m place.owner }

abbrev pub moved_under : Map → Under → Under
moved_under m under = record under { place = moved_place m under.place }

abbrev pub moved_item : Map → Seen → Seen
moved_item m (Enter name) = Enter name
moved_item m (Load schema place name) = Load schema (moved_place m place) name
moved_item m (Call name under) = Call name (option_map (moved_under m) under)

abbrev pub moved : Map → Trace → Trace
moved m trace = map (moved_item m) trace

-- ---- what a run gives

-- the end, none where the bound of work is reached
abbrev pub end_of : End → Option FlatEnd
end_of (Done status) = Some (flat.Done status)
end_of Stop = None
end_of Undefined = Some flat.Undefined

-- the most that operations cost for a unit of work
abbrev pub unit_cost : ℕ
unit_cost = 64

-- What is given between two states of flat code, the later one's trace being the newest first. So much of the costs is paid
-- before, and so many of the turns have had their operation before.
pub record Fits (m : Map) (paid turned : ℕ) (r : Meaning) (before after : Flat) : Type 0 where
  pub end : after.ended ≡ end_of r.end
  pub output : after.output ≡ before.output ++ r.output
  pub trace : reverse after.trace ≡ reverse before.trace ++ moved m r.trace
  pub cost : after.cost ≤ before.cost + (paid + unit_cost * r.work)
  pub turns : before.operations + r.turns ≤ after.operations + turned
  pub deep : after.deep ≤ max before.deep r.deep

-- From this state on flat code gives that, unless it is undefined. Where m is the map so far, there is one of the whole run.
pub record Follows (lir : Lir) (m : Map) (paid turned : ℕ) (r : Meaning) (s : Flat) : Type 0 where
  pub by : (r.end ≡ Undefined → ⊥) → (units : ℕ) × (k : Map) × Grows m k × Fits k paid turned r s (run lir units s)
