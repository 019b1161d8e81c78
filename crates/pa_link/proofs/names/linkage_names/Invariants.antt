use Rattle.std.proofs.Common.{◌≡◌, ◌++◌, length, map}
use Rattle.pa_link.specs.Names.{linkage_name}
use Rattle.pa_link.proofs.names.linkage_names.Given as goal

abbrev pub invariant-names : goal.invariant-names
invariant-names l = l.made ++ map (linkage_name l.file l.unit.names l.unit.declared) l.rest ≡ map (linkage_name l.file l.unit.names l.unit.declared) l.unit.names

abbrev pub decreases-names : goal.decreases-names
decreases-names l = length l.rest
