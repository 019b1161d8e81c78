use Rattle.std.proofs.Common.{◌≡◌, fold, length}
use Rattle.pa_link.specs.Definitions.{marked_part}
use Rattle.pa_link.proofs.definitions.mark_parts.Given as goal

abbrev pub invariant-parts : goal.invariant-parts
invariant-parts l = fold marked_part l.defined l.rest ≡ fold marked_part l.initial.defined l.parts

abbrev pub decreases-parts : goal.decreases-parts
decreases-parts l = length l.rest
