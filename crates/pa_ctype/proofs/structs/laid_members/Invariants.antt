use Rattle.std.proofs.Common.{◌≡◌, ◌≤◌, length}
use Rattle.std.specs.Option.{option_and_then}
use Rattle.indexmap.specs.IndexMap.{keys}
use Rattle.pa_ctype.specs.Nodes.{at}
use Rattle.pa_ctype.specs.Tables.{types_bound}
use Rattle.pa_ctype.specs.Kept.{kept_layout, unnamed}
use Rattle.pa_ctype.specs.Layouts.{layout_by, members_from, padded, empty, most_bytes}
use Rattle.pa_ctype.proofs.structs.laid_members.Given as goal

abbrev pub invariant-members : goal.invariant-members
invariant-members l = record {
  known : types_bound l.rest ≤ length (keys l.nodes);
  same : option_and_then padded (members_from (layout_by (kept_layout l.bodies)) l.so_far (unnamed (at (keys l.nodes)) l.rest))
      ≡ option_and_then padded (members_from (layout_by (kept_layout l.bodies)) empty (unnamed (at (keys l.nodes)) l.members));
  bytes : l.so_far.size ≤ most_bytes;
  positive : 1 ≤ l.so_far.align;
  align : l.so_far.align ≤ 8;
}

abbrev pub decreases-members : goal.decreases-members
decreases-members l = length l.rest
