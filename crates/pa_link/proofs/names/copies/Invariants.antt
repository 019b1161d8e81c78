use Rattle.std.proofs.Common.{◌≡◌, ◌≤◌, ◌-◌, ◌++◌, length, drop}
use Rattle.pa_link.specs.Names.{texts_of}
use Rattle.pa_link.proofs.names.copies.Given as goal

abbrev pub invariant-names : goal.invariant-names
invariant-names l = record {
  within : l.index ≤ length l.table.keys;
  same : l.names ++ texts_of (drop l.index l.table.keys) ≡ texts_of l.table.keys;
}

abbrev pub decreases-names : goal.decreases-names
decreases-names l = length l.table.keys - l.index
