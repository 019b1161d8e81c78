use Rattle.std.proofs.Common.{◌≡◌, length}
use Rattle.pa_link.specs.Whole.{main_type}
use Rattle.pa_link.proofs.whole.main_type.Given as goal

abbrev pub invariant-parts : goal.invariant-parts
invariant-parts l = main_type l.rest ≡ main_type l.parts

abbrev pub decreases-parts : goal.decreases-parts
decreases-parts l = length l.rest
