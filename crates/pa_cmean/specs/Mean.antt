-- What a program does with an input and so much work (C11 5.1.2.3): it calls `main`, whose value is the status.
use Rattle.std.specs.Prelude.{ℕ, zero, suc, true, if◌then◌else◌, List, [], None}
use Rattle.pa_ctype.specs.Values.{Number, Objects}
use Rattle.pa_integer.specs.Integers.{is_in_range}
use Rattle.pa_cmean.specs.Results.{Meaning, ends, undefined, Done, Stop, given}
use Rattle.pa_typed.specs.Units.{ProgramTree}
use Rattle.pa_cmean.specs.State.{World, Cont, Body, Turn, Redo, Again}
use Rattle.pa_cmean.specs.Calls.{call, main}
use Rattle.pa_cmean.specs.Statements.{evaluate, loop, redo, exec}
use Rattle.pa_cmean.specs.Statics.{statics}

-- a job, where jobs in it are done by `again`
unfoldable pub perform : ProgramTree → Again → Again
perform program again (Body body) x = exec program again body x
perform program again (Turn test step body) x = loop program again test (evaluate program again step (again (Turn test step body) x)) (exec program again body) x
perform program again (Redo body test) x = redo program again (exec program again body) test (again (Redo body test) x) x

-- a job, where jobs lie in one another that deep at most
unfoldable pub level : ProgramTree → ℕ → Again
level program zero j x st = ends Stop
level program (suc n) j x st = perform program (level program n) j x st

-- a job; each job in it takes a unit of work at least, so the work that is left bounds how deep they lie
unfoldable pub run : ProgramTree → Again
run program j x st = level program (suc st.left) j x st

-- `main` gives an `int`
abbrev pub status : Cont
status (Number n) st = if is_in_range 32 true n then ends (Done n) else undefined
status _ st = undefined

-- no function is open
abbrev pub at_start : List ℕ → Objects → World
at_start input objects = record { input = input; objects = objects; loaded = None; here = record { locals = []; owners = []; depth = 0 } }

unfoldable pub mean : ProgramTree → List ℕ → ℕ → Meaning
mean program input fuel =
    given (statics program) (λ objects. call program (run program) main [] status (record { left = fuel; world = at_start input objects }))
