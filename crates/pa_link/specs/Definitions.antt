-- Which names the files and the runtime define, by their numbers.
use Rattle.std.specs.Prelude.{ℕ, nat_lt, Bool, true, false, List, length, slice_get, slice_set, unwrap_or, fold, replicate, if◌then◌else◌}
use Rattle.pa_typed.specs.declared.unit.CGlobal.{CGlobal}
use Rattle.pa_typed.specs.declared.unit.Function.{Function}
use Rattle.pa_link.specs.declared.definitions.Definitions.{Definitions}
use Rattle.pa_link.specs.declared.parts.Part.{Part as CPart}

abbrev pub marked : List Bool → ℕ → List Bool
marked defined name = if nat_lt name (length defined) then slice_set defined name true else defined

abbrev pub marked_function : List Bool → Function → List Bool
marked_function defined f = marked defined f.name

abbrev pub marked_global : List Bool → CGlobal → List Bool
marked_global defined g = marked defined g.name

abbrev pub marked_part : List Bool → CPart → List Bool
marked_part defined p = fold marked_global (fold marked_function defined p.functions) p.globals

-- `putchar` and `getchar` are 1 and 2, and the empty name is 0
abbrev pub marked_all : ℕ → List CPart → List Bool
marked_all names ps = fold marked_part (marked (marked (replicate names false) 1) 2) ps

abbrev pub definitions : ℕ → List CPart → Definitions
definitions names ps = record { defined = marked_all names ps; unnamed = unwrap_or (slice_get (marked_all names ps) 0) false }
