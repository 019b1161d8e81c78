use Rattle.std.proofs.Common.{◌≡◌, ◌≤◌, ◌+◌, length}
use Rattle.pa_ctype.specs.Nodes.{AllBelow}
use Rattle.pa_type_rows.proofs.joined.same_measures.Given as goal

abbrev pub invariant-types : goal.invariant-types
invariant-types l = record {
  same : l.same ≤ l.index;
  few : l.index ≤ 100;
  count : l.index + length l.rest ≡ length l.file.nodes;
  known : AllBelow (length l.both.nodes) l.rest;
}

abbrev pub decreases-types : goal.decreases-types
decreases-types l = length l.rest
