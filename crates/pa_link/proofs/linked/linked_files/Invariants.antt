use Rattle.std.proofs.Common.{◌≡◌, ◌≤◌, ◌-◌, length}
use Rattle.pa_link.specs.Linked.{AreKnownParts, AreFirstOf}
use Rattle.pa_link.proofs.LinkedSteps.{AreSoFar}
use Rattle.pa_link.proofs.linked.linked_files.Given as goal

abbrev pub invariant-units : goal.invariant-units
invariant-units l = record {
  within : l.index ≤ length l.units;
  count : length l.parts ≡ l.index;
  names : l.types.names ≡ length l.names.names;
  known : AreKnownParts (length l.names.names) (length l.types.nodes) l.parts;
  first : AreFirstOf l.types l.first_types;
  so_far : AreSoFar l.names.names l.units l.index l.types l.texts l.parts;
}

abbrev pub decreases-units : goal.decreases-units
decreases-units l = length l.units - l.index
