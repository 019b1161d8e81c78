use Rattle.std.proofs.Common.{◌<◌, ◌≤◌, length}
use Rattle.bench_types.proofs.chain.Given as goal

abbrev pub invariant-lines : goal.invariant-lines
invariant-lines l = record {
  known : l.number < length l.types.nodes;
  longer : length l.fn.types.nodes ≤ length l.types.nodes;
}

abbrev pub decreases-lines : goal.decreases-lines
decreases-lines l = l.left
