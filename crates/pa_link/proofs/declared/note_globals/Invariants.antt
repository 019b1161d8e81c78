use Rattle.std.proofs.Common.{◌≡◌, ◌||◌, ℕ, length}
use Rattle.pa_link.specs.FileDefinitions.{is_noted, has_global}
use Rattle.pa_link.proofs.declared.note_globals.Given as goal

abbrev pub invariant-globals : goal.invariant-globals
invariant-globals l = (n p : ℕ) → (has_global n p l.rest || is_noted l.made.keys n p) ≡ (has_global n p l.globals || is_noted l.initial.made.keys n p)

abbrev pub decreases-globals : goal.decreases-globals
decreases-globals l = length l.rest
