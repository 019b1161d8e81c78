-- What a run gives.
use Rattle.std.specs.Prelude.{ℕ, suc, max, ℤ, List, [], ◌∷◌, Option, Some, None}
use Rattle.pa_ctype.specs.Traces.{Seen, Trace, Enter}

-- how a run ends: `main` returned, the next unit of work would pass the fuel, or the behaviour is undefined
pub data End : Type 0 where
  Done : (status : ℤ) → End
  Stop : End
  Undefined : End

-- what a run gives from a moment on: the bytes that it prints, what it shows, how many units of work and turns it takes, and the
-- largest sum of the weights of the calls that are open
pub record Meaning : Type 0 where
  pub end : End
  pub output : List ℕ
  pub trace : Trace
  pub work : ℕ
  pub turns : ℕ
  pub deep : ℕ

-- it ends, and nothing comes before
abbrev pub ends : End → Meaning
ends e = record { end = e; output = []; trace = []; work = 0; turns = 0; deep = 0 }

abbrev pub undefined : Meaning
undefined = ends Undefined

-- one thing comes before: a unit of work, a turn, a printed byte, an item of the trace
abbrev pub worked : Meaning → Meaning
worked m = record m { work = suc m.work }

abbrev pub turned : Meaning → Meaning
turned m = record m { turns = suc m.turns }

abbrev pub printed : ℕ → Meaning → Meaning
printed byte m = record m { output = byte ∷ m.output }

abbrev pub shown : Seen → Meaning → Meaning
shown item m = record m { trace = item ∷ m.trace }

-- a function is entered, which is a turn; so much the open calls weigh with it
abbrev pub entered : List ℕ → ℕ → Meaning → Meaning
entered name depth m = record m { trace = Enter name ∷ m.trace; turns = suc m.turns; deep = max depth m.deep }

-- undefined where there is none
abbrev pub given : {A : Type 0} → Option A → (A → Meaning) → Meaning
given None go = undefined
given (Some a) go = go a
