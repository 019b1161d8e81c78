use Rattle.std.proofs.Common.{◌≡◌, ◌≤◌, ◌+◌, ◌*◌, ◌-◌, ◌^◌, length}
use Rattle.indexmap.specs.IndexMap.{keys, values, spare}
use Rattle.pa_ctype.specs.Nodes.{at, AllBelow, IsTable, Grown}
use Rattle.pa_ctype.specs.Joined.{AreRaised, InheritsRaised}
use Rattle.pa_ctype.proofs.joined.put_raised.Given as goal

abbrev pub invariant-others : goal.invariant-others
invariant-others l = record {
  table : IsTable (keys l.nodes) (values l.nodes);
  grown : Grown (keys l.fn.nodes) (keys l.nodes);
  each : InheritsRaised l.structs (keys l.fn.nodes) (keys l.others) (keys l.nodes);
  count : length l.numbers ≡ l.index;
  within : l.index ≤ length (keys l.others);
  known : AllBelow (length (keys l.nodes)) l.numbers;
  is : AreRaised l.structs l.numbers (at (keys l.others)) (at (keys l.nodes));
  few : length (keys l.nodes) + 2 * (length (keys l.others) - l.index) ≤ 2 ^ 32;
  room : 2 * (length (keys l.others) - l.index) ≤ spare l.nodes;
}

abbrev pub decreases-others : goal.decreases-others
decreases-others l = length (keys l.others) - l.index
