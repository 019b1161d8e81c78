-- The names of the program by number, and which names of a file are internal.
use Rattle.std.specs.Prelude.{◌≡◌, ℕ, suc, Bool, ◌||◌, List, [], ◌∷◌, ◌++◌, map, filter_map, codes, decimal, if◌then◌else◌, Option, Some, None}
use Rattle.std.specs.List.{list_any}
use Rattle.std.specs.Str.{bytes_eq}
use denote.Ref.{Bor}
use Rattle.pa_typed.specs.declared.unit.Declared.{Declared}
use Rattle.pa_typed.specs.declared.unit.Unit.{Unit as CUnit}
use Rattle.pa_typed.specs.Units.{name_in}

abbrev pub texts_of : List (Bor (List ℕ)) → List (List ℕ)
texts_of = map (λ name. name.now)

-- one of the names is that text
abbrev pub is_noted : List (Bor (List ℕ)) → List ℕ → Bool
is_noted names text = list_any (λ name. bytes_eq text name.now) names

-- with this name, which goes last if it is new
abbrev pub with_name : List (List ℕ) → List ℕ → List (List ℕ)
with_name names name = if list_any (bytes_eq name) names then names else names ++ name ∷ []

-- the names only grow, at the end
abbrev pub IsGrown : List (Bor (List ℕ)) → List (Bor (List ℕ)) → Type 0
IsGrown old new = (more : List (List ℕ)) × (texts_of new ≡ texts_of old ++ more)

-- the name to which a declaration gives internal linkage
abbrev pub internal_text : List (List ℕ) → Declared → Option (List ℕ)
internal_text names d = if d.public then None else Some (name_in names d.name)

-- whether a text is a name that was noted, or is now
abbrev pub noted_by : List (List ℕ) → Declared → List ℕ → Bool → Bool
noted_by names d text noted = if d.public then noted else (bytes_eq text (name_in names d.name) || noted)

abbrev pub is_internal : List (List ℕ) → List Declared → List ℕ → Bool
is_internal names declared text = list_any (bytes_eq text) (filter_map (internal_text names) declared)

-- a name in the program of a function or global
abbrev pub linkage_name : ℕ → List (List ℕ) → List Declared → List ℕ → List ℕ
linkage_name file names declared name = if is_internal names declared name then name ++ (codes "." ++ decimal file) else name

abbrev pub linkage_names : ℕ → List (List ℕ) → List Declared → List (List ℕ)
linkage_names file names declared = map (linkage_name file names declared) names ++ linkage_name file names declared [] ∷ []

-- those of the files from a number on
abbrev pub linkages_from : ℕ → List CUnit → List (List (List ℕ))
linkages_from file [] = []
linkages_from file (unit ∷ units) = linkage_names file unit.names unit.declared ∷ linkages_from (suc file) units
