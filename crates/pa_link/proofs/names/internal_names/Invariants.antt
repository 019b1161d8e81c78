use Rattle.std.proofs.Common.{◌≡◌, ◌||◌, ℕ, List, length, filter_map}
use Rattle.std.specs.List.{list_any}
use Rattle.std.specs.Str.{bytes_eq}
use Rattle.pa_link.specs.Names.{internal_text, is_noted, is_internal}
use Rattle.pa_link.proofs.names.internal_names.Given as goal

abbrev pub invariant-declared : goal.invariant-declared
invariant-declared l = (text : List ℕ) → (list_any (bytes_eq text) (filter_map (internal_text l.unit.names) l.rest) || is_noted l.internal.keys text) ≡ is_internal l.unit.names l.unit.declared text

abbrev pub decreases-declared : goal.decreases-declared
decreases-declared l = length l.rest
