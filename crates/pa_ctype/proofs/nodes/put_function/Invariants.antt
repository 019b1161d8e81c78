use Rattle.std.proofs.Common.{◌≡◌, ◌<◌, ◌≤◌, ◌+◌, ◌*◌, ◌^◌, true, false, length, map, take}
use Rattle.indexmap.specs.IndexMap.{keys, values, spare}
use Rattle.pa_ctype.specs.Types.{Of, Function, trees_of}
use Rattle.pa_ctype.specs.Nodes.{at, is_function, IsTable, Grown, Inherits}
use Rattle.pa_ctype.proofs.KindLaws.{onto}
use Rattle.pa_ctype.proofs.nodes.put_function.Given as goal

abbrev pub invariant-params : goal.invariant-params
invariant-params l = record {
  table : IsTable (keys l.nodes) (values l.nodes);
  grown : Grown (keys l.fn.nodes) (keys l.nodes);
  each : Inherits (keys l.fn.nodes) (keys l.nodes);
  known : l.number < length (keys l.nodes);
  within : l.left ≤ length l.params;
  function : is_function (at (keys l.nodes) l.number) ≡ true;
  is : onto (map (at (keys l.fn.nodes)) (take l.left l.params)) (at (keys l.nodes) l.number)
      ≡ Of false (Function (trees_of (map (at (keys l.fn.nodes)) l.params)) (at (keys l.fn.nodes) l.result_type));
  few : length (keys l.nodes) + 2 * l.left ≤ 2 ^ 32;
  room : 2 * l.left ≤ spare l.nodes;
}

abbrev pub decreases-params : goal.decreases-params
decreases-params l = l.left
