-- What a program as a whole has to have, on the parts of its files.
use Rattle.std.specs.Prelude.{ℕ, suc, ◌+◌, nat_eq, List, [], ◌∷◌, length, Option, Some, None, if◌then◌else◌}
use Rattle.std.specs.Option.{option_or}
use Rattle.pa_typed.specs.declared.unit.Function.{Function}
use Rattle.pa_typed.specs.declared.unit.Unit.{Unit as CUnit}
use Rattle.pa_link.specs.declared.parts.Part.{Part as CPart}
use Rattle.pa_link.specs.declared.rule.LinkFault.{LinkFault}
use Rattle.pa_link.specs.Limits.{globals_bytes, texts_bytes, wide_fault}

-- the type of the first function of a name
abbrev pub type_named : ℕ → List Function → Option ℕ
type_named name [] = None
type_named name (f ∷ fs) = if nat_eq f.name name then Some f.of else type_named name fs

-- `main` is 3
abbrev pub main_type : List CPart → Option ℕ
main_type [] = None
main_type (p ∷ ps) = option_or (type_named 3 p.functions) (main_type ps)

-- the first function whose objects have too many bytes, from the file of a number on
abbrev pub wide_from : ℕ → List CPart → Option LinkFault
wide_from file [] = None
wide_from file (p ∷ ps) = option_or (wide_fault file p.functions) (wide_from (suc file) ps)

abbrev pub all_globals_bytes : List CPart → ℕ
all_globals_bytes [] = 0
all_globals_bytes (p ∷ ps) = globals_bytes p.globals + all_globals_bytes ps

abbrev pub all_texts_bytes : List CUnit → ℕ
all_texts_bytes [] = 0
all_texts_bytes (u ∷ us) = texts_bytes u.texts + all_texts_bytes us

abbrev pub all_nodes : List CUnit → ℕ
all_nodes [] = 0
all_nodes (u ∷ us) = u.nodes + all_nodes us

abbrev pub function_count : List CPart → ℕ
function_count [] = 0
function_count (p ∷ ps) = length p.functions + function_count ps
