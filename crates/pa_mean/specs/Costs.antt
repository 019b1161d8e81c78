-- How many steps a run takes: each unit of work pays for so many.
use Rattle.std.specs.Prelude.{ℕ, ◌+◌, ◌*◌, Bool, true, false, length}
use Rattle.pa_mean.specs.Frames.{Now, Machine}
use Rattle.pa_mean.specs.Frames as f

abbrev pub is_going : Now → Bool
is_going (f.Ended end) = false
is_going _ = true

-- what is done next, by how much of it may be done before the next unit of work
abbrev pub effort : Now → ℕ
effort (f.Ended end) = 0
effort (f.Eval same e) = 1
effort (f.Called name vs) = 1
effort (f.Exec s) = 1
effort (f.GiveCell v cell rest) = 1
effort (f.Enter target items) = 1
effort (f.EnterAmong target ss) = 1
effort (f.Gave v) = 4
effort f.Next = 4
effort f.Leave = 4
effort f.Proceed = 4
effort (f.Give v) = 4
effort _ = 12

-- no run takes more steps than this, and each step lowers it
abbrev pub rank : Machine → ℕ
rank m = 40 * m.state.left + (10 * length m.frames + effort m.now)
