use Rattle.std.proofs.Common.{◌≡◌, ◌++◌, ◌+◌, length}
use Rattle.pa_link.specs.Names.{linkages_from}
use Rattle.pa_link.proofs.names.all_linkage_names.Given as goal

abbrev pub invariant-units : goal.invariant-units
invariant-units l = record {
  same : l.made ++ linkages_from l.file l.rest ≡ linkages_from 1 l.units;
  count : l.file + length l.rest ≡ 1 + length l.units;
}

abbrev pub decreases-units : goal.decreases-units
decreases-units l = length l.rest
