use Rattle.std.proofs.Common.{◌≡◌, ℕ, List}
use Rattle.pa_ctype.specs.Nodes.{at}
use Rattle.pa_cmean.specs.Finding as spec
use Rattle.pa_store.specs.Found.{structs_in, find_inside, IsWell, rank_inside}
use Rattle.pa_store.proofs.finding.find_cell.Given as goal

abbrev pub invariant-down : goal.invariant-down
invariant-down l = record {
  well : IsWell l.types l.now;
  same : (names : ℕ → List ℕ) → find_inside names l.types l.now ≡ spec.find_cell (structs_in names l.types) (at l.types.nodes l.of) l.offset;
}

abbrev pub decreases-down : goal.decreases-down
decreases-down l = rank_inside l.types l.now
