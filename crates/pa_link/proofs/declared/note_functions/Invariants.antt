use Rattle.std.proofs.Common.{◌≡◌, ◌||◌, ℕ, length}
use Rattle.pa_link.specs.FileDefinitions.{is_noted, has_function}
use Rattle.pa_link.proofs.declared.note_functions.Given as goal

abbrev pub invariant-functions : goal.invariant-functions
invariant-functions l = (n p : ℕ) → (has_function n p l.rest || is_noted l.made.keys n p) ≡ (has_function n p l.functions || is_noted l.initial.made.keys n p)

abbrev pub decreases-functions : goal.decreases-functions
decreases-functions l = length l.rest
