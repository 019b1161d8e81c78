-- Where a run stands, and what goes on from there.
use Rattle.std.specs.Prelude.{ℕ, zero, suc, ◌+◌, ◌==◌, Bool, true, false, if◌then◌else◌, List, [], ◌∷◌, ◌++◌, length, get_or, set, replicate, Option, Some, None, option_map, option_and_then, slice_get}
use Rattle.pa_ctype.specs.Types.{TypeTree}
use Rattle.pa_ctype.specs.Layouts.{Table}
use Rattle.pa_ctype.specs.Traces.{Under}
use Rattle.pa_ctype.specs.Values.{Owner, Place, CValue, At, Object, Objects, fresh, next_local, read, written, initialised, without}
use Rattle.pa_typed.specs.Typed.{TypedExpr, TypedStmt}
use Rattle.pa_cmean.specs.Results.{Meaning, ends, Stop, worked, turned, given}
use Rattle.pa_typed.specs.Units.{LocalTree, FunctionTree, weight_of}

-- the open call: its function's locals, which objects they are (none outside their block), and what all open calls weigh
pub record Here : Type 0 where
  pub locals : List LocalTree
  pub owners : List (Option Owner)
  pub depth : ℕ

-- What a run has in hand: the input that is left, all objects, the schema and the place of the qualified pointer that was loaded
-- last, and the open call.
pub record World : Type 0 where
  pub input : List ℕ
  pub objects : Objects
  pub loaded : Option Under
  pub here : Here

-- and how much work is left
pub record State : Type 0 where
  pub left : ℕ
  pub world : World

-- what takes the value of an expression
abbrev pub Cont : Type 0
Cont = CValue → State → Meaning

-- the ways out of a statement: behind it, `break`, `continue`, and `return` with a value
pub record Exits : Type 0 where
  pub next : State → Meaning
  pub leave : State → Meaning
  pub proceed : State → Meaning
  pub give : Cont

-- What is run again: a function's body; a turn of a loop, whose test and step may be left out; a `do` loop.
pub data Job : Type 0 where
  Body : (body : TypedStmt) → Job
  Turn : (test : Option TypedExpr) (step : Option TypedExpr) (body : TypedStmt) → Job
  Redo : (body : TypedStmt) (test : TypedExpr) → Job

abbrev pub Again : Type 0
Again = Job → Exits → State → Meaning

-- a unit of work, or the end where none is left
abbrev pub ticked : ℕ → (ℕ → Meaning) → Meaning
ticked zero go = ends Stop
ticked (suc n) go = worked (go n)

unfoldable pub tick : State → (State → Meaning) → Meaning
tick st go = ticked st.left (λ n. go (record st { left = n }))

-- a turn counts with its first unit of work
abbrev pub turned_with : ℕ → Meaning → Meaning
turned_with zero m = ends Stop
turned_with (suc n) m = turned m

unfoldable pub turn : (State → Meaning) → State → Meaning
turn go st = turned_with st.left (go st)

unfoldable pub choose : Bool → (State → Meaning) → (State → Meaning) → State → Meaning
choose true on_true on_false st = on_true st
choose false on_true on_false st = on_false st

-- an object's first byte
abbrev pub start : Owner → Place
start owner = record { owner = owner; offset = 0 }

-- the place that a value is
abbrev pub place_of : CValue → Option Place
place_of (At place) = Some place
place_of _ = None

-- what a read of that type gives (C11 6.5p7)
unfoldable pub value_at : World → TypeTree → CValue → Option CValue
value_at w of at = option_and_then (λ place. read w.objects place of) (place_of at)

abbrev pub with_objects : World → Objects → World
with_objects w objects = record w { objects = objects }

-- what is in hand after a write of that type, or after an initializer gives a cell its value
unfoldable pub stored : World → TypeTree → CValue → CValue → Option World
stored w of at value = option_and_then (λ place. option_map (with_objects w) (written w.objects place of value)) (place_of at)

unfoldable pub initialised_at : World → Place → TypeTree → CValue → Option World
initialised_at w place of value = option_map (with_objects w) (initialised w.objects place of value)

-- it goes on with that in hand; undefined where there is nothing
abbrev pub with_world : (State → Meaning) → State → World → Meaning
with_world next st w = next (record st { world = w })

abbrev pub onward : Option World → (State → Meaning) → State → Meaning
onward w next st = given w (with_world next st)

-- ---- locals

-- the object of a local
abbrev pub owner_of : World → ℕ → Option Owner
owner_of w local = get_or w.here.owners local None

abbrev pub with_owner : World → ℕ → Option Owner → World
with_owner w local owner = record w { here = record w.here { owners = set w.here.owners local owner } }

-- a local comes to life (6.2.4p6)
abbrev pub born_object : World → ℕ → Object → World
born_object w local object = with_owner (with_objects w (w.objects ++ object ∷ [])) local (Some object.owner)

unfoldable pub born_one : Table → ℕ → World → Option World
born_one table local w = option_and_then (λ l. option_map (born_object w local) (fresh table (next_local w.objects) l.of)) (slice_get w.here.locals local)

unfoldable pub born : Table → List ℕ → World → Option World
born table [] w = Some w
born table (l ∷ ls) w = option_and_then (born table ls) (born_one table l w)

-- and dies
abbrev pub without_owner : World → ℕ → Option Owner → World
without_owner w local None = w
without_owner w local (Some owner) = with_owner (with_objects w (without w.objects owner)) local None

unfoldable pub died : List ℕ → World → World
died [] w = w
died (l ∷ ls) w = died ls (without_owner w l (owner_of w l))

-- the ways out of a block whose locals die
abbrev pub after_death : List ℕ → State → State
after_death locals st = record st { world = died locals st.world }

abbrev pub closing : List ℕ → Exits → Exits
closing locals x = record {
  next = λ st. x.next (after_death locals st);
  leave = λ st. x.leave (after_death locals st);
  proceed = λ st. x.proceed (after_death locals st);
  give = λ v st. x.give v (after_death locals st);
}

-- a local that comes to life with a value: a parameter (6.5.2.2p4)
abbrev pub with_its_value : ℕ → CValue → World → Option World
with_its_value local v w = option_and_then (λ owner. option_and_then (λ l. initialised_at w (start owner) l.of v) (slice_get w.here.locals local)) (owner_of w local)

unfoldable pub given_parameters : Table → ℕ → List CValue → World → Option World
given_parameters table local [] w = Some w
given_parameters table local (v ∷ vs) w = option_and_then (given_parameters table (suc local) vs) (option_and_then (with_its_value local v) (born_one table local w))

-- so many locals from a number on
unfoldable pub numbered : ℕ → ℕ → List ℕ
numbered from zero = []
numbered from (suc n) = from ∷ numbered (suc from) n

-- ---- calls

-- the open call of a function that is entered, none of its locals alive
abbrev pub opened : FunctionTree → ℕ → Here
opened f depth = record { locals = f.locals; owners = replicate (length f.locals) None; depth = depth + weight_of f }

-- the function is entered with these values, as many as it has parameters (6.5.2.2p2)
abbrev pub entering : Table → FunctionTree → List CValue → World → Option World
entering table f vs w = if length vs == f.parameters then given_parameters table 0 vs (record w { here = opened f w.here.depth }) else None

-- and left: its parameters die
abbrev pub left_behind : FunctionTree → Here → State → State
left_behind f caller st = record st { world = record (died (numbered 0 f.parameters) st.world) { here = caller } }
