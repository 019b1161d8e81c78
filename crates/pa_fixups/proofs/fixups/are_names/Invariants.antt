use Rattle.std.proofs.Common.{◌≡◌, drop}
use Rattle.pa_layout.specs.Names.{are_names}
use Rattle.pa_fixups.proofs.fixups.are_names.Given as goal

abbrev pub invariant-loop-name : goal.invariant-loop-name
invariant-loop-name l = are_names (drop l.name-index l.names) ≡ are_names l.names
