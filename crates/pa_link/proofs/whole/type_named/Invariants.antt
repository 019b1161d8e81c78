use Rattle.std.proofs.Common.{◌≡◌, length}
use Rattle.pa_link.specs.Whole.{type_named}
use Rattle.pa_link.proofs.whole.type_named.Given as goal

abbrev pub invariant-functions : goal.invariant-functions
invariant-functions l = type_named l.name l.rest ≡ type_named l.name l.functions

abbrev pub decreases-functions : goal.decreases-functions
decreases-functions l = length l.rest
