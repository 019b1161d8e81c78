use Rattle.std.proofs.Common.{◌≡◌, ◌≤◌, ◌-◌, length, map, take, option_map}
use Rattle.indexmap.specs.IndexMap.{keys}
use Rattle.pa_ctype.specs.Joined.{renumbered}
use Rattle.pa_ctype.specs.Kept.{members_of, AreRaisedBodies}
use Rattle.pa_ctype.proofs.joined.raised_bodies.Given as goal

abbrev pub invariant-bodies : goal.invariant-bodies
invariant-bodies l = record {
  within : l.id ≤ length l.bodies;
  members : members_of l.made ≡ map (option_map (renumbered l.numbers l.names)) (take l.id (members_of l.bodies));
  raised : AreRaisedBodies (keys l.nodes) l.bodies l.numbers l.names l.made;
}

abbrev pub decreases-bodies : goal.decreases-bodies
decreases-bodies l = length l.bodies - l.id
