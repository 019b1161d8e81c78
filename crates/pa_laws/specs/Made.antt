-- Which instructions of a run made which entries of its log.
use Rattle.std.specs.Prelude.{◌≡◌, ℕ, Bool, true, false, ◌==◌, ◌&&◌, if◌then◌else◌, List, [], ◌∷◌, length, Option, Some, None}
use Rattle.std.specs.List.{list_any}
use Rattle.pa_pac.specs.declared.event.Event.{Event}
use Rattle.pa_pac.specs.declared.event.When.{When}
use Rattle.pa_pac.specs.declared.event.When.TheVariants as moment
use Rattle.pa_pac.specs.Log.{Log}
use Rattle.pa_a64.specs.declared.instr.Instr.{Instr}
use Rattle.pa_a64.specs.Decoding.{decoded}
use Rattle.pa_object.specs.Run.{Place}

abbrev pub is_some_and : {A : Type 0} → (A → Bool) → Option A → Bool
is_some_and q None = false
is_some_and q (Some x) = q x

-- the instruction of this number, counted from the oldest of a trail, is there and of such a row
unfoldable pub ran : (Instr → Bool) → List Place → ℕ → Bool
ran q [] number = false
ran q (place ∷ older) number = if number == length older then is_some_and q (decoded place.word) else ran q older number

abbrev pub is_loading : When → Bool
is_loading moment.Load = true
is_loading (moment.Step number) = false

abbrev pub is_step : ℕ → When → Bool
is_step number moment.Load = false
is_step number (moment.Step step) = step == number

-- an entry of such a moment is such an event
abbrev pub noted_at : (When → Bool) → (Event → Bool) → Log → Bool
noted_at at p log = list_any (λ entry. at entry.when && p entry.event) log

-- such an event stands at exactly the instructions of such rows
abbrev pub ComesOf : (Event → Bool) → (Instr → Bool) → List Place → Log → Type 0
ComesOf p q trail log = (number : ℕ) → noted_at (is_step number) p log ≡ ran q trail number
