use Rattle.std.proofs.Common.{◌≡◌, ◌≤◌, ℕ, length, nat_eq}
use Rattle.indexmap.specs.IndexMap.{keys, get}
use Rattle.pa_ctype.specs.Nodes.{at}
use Rattle.pa_ctype.specs.Tables.{types_bound}
use Rattle.pa_ctype.specs.Kept.{kept_layout, EndsWithin, unnamed, lay, place_from, or_else}
use Rattle.pa_ctype.specs.Layouts.{layout_by, empty}
use Rattle.pa_ctype.proofs.structs.places.Given as goal

abbrev pub invariant-members : goal.invariant-members
invariant-members l = record {
  known : types_bound l.rest ≤ length (keys l.nodes);
  same : (name : ℕ) → or_else (get nat_eq l.found name) (place_from (lay (at (keys l.nodes)) l.bodies) name l.so_far l.index l.rest)
      ≡ place_from (lay (at (keys l.nodes)) l.bodies) name empty 0 l.members;
  few : EndsWithin (layout_by (kept_layout l.bodies)) l.so_far (unnamed (at (keys l.nodes)) l.rest);
  count : l.index ≤ l.so_far.size;
}

abbrev pub decreases-members : goal.decreases-members
decreases-members l = length l.rest
