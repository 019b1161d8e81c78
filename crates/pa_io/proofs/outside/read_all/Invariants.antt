use Rattle.std.proofs.Common.{◌≡◌, ◌+◌, vec_len}
use Rattle.pa_io.specs.Outside.{Came, source_seen}
use Rattle.pa_io.proofs.outside.read_all.Given as goal

abbrev pub invariant-loop-bytes : goal.invariant-loop-bytes
invariant-loop-bytes g l =
    Came (source_seen g.S.Source.left g.S.Source.given g.S.Source.faults l.initial.input)
    (source_seen g.S.Source.left g.S.Source.given g.S.Source.faults l.input) l.bytes.items
    × (vec_len l.bytes + l.budget ≡ l.limit)

abbrev pub decreases-loop-bytes : goal.decreases-loop-bytes
decreases-loop-bytes g l = l.budget
