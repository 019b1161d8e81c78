-- What a file defines, by name and place.
use Rattle.std.specs.Prelude.{ℕ, nat_eq, Bool, ◌&&◌, ◌||◌, List}
use Rattle.std.specs.List.{list_any}
use Rattle.pa_typed.specs.declared.unit.CGlobal.{CGlobal}
use Rattle.pa_typed.specs.declared.unit.Function.{Function}
use Rattle.pa_link.specs.declared.declared.Definition.{Definition}
use Rattle.pa_link.specs.declared.parts.Part.{Part as CPart}

-- a definition of that name at that place
abbrev pub is_at : ℕ → ℕ → ℕ → ℕ → Bool
is_at n p name place = nat_eq name n && nat_eq place p

abbrev pub is_noted : List Definition → ℕ → ℕ → Bool
is_noted keys n p = list_any (λ d. nat_eq n d.name && nat_eq p d.place) keys

abbrev pub has_function : ℕ → ℕ → List Function → Bool
has_function n p fs = list_any (λ f. is_at n p f.name f.place) fs

abbrev pub has_global : ℕ → ℕ → List CGlobal → Bool
has_global n p gs = list_any (λ g. is_at n p g.name g.place) gs

abbrev pub defines : ℕ → ℕ → CPart → Bool
defines n p part = has_function n p part.functions || has_global n p part.globals
