use Rattle.std.proofs.Common.{◌≡◌}
use Rattle.pa_cmean.specs.Calls.{gives_nothing}
use Rattle.pa_lower.specs.Sources.{type_in}
use Rattle.pa_lower.proofs.source.Source.gives_nothing.Given as goal

abbrev pub invariant-parameters : goal.invariant-parameters
invariant-parameters l = gives_nothing (type_in l.self l.rest) ≡ gives_nothing (type_in l.self l.number)

abbrev pub decreases-parameters : goal.decreases-parameters
decreases-parameters l = l.rest
