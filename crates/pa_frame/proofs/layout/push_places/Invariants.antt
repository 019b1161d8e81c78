use Rattle.std.proofs.Common.{◌≡◌, ◌+◌, ◌++◌, length}
use Rattle.std.specs.List.{sum_by}
use Rattle.pa_lir.specs.Parts.{rounded}
use Rattle.pa_frame.specs.Frames.{places_from}
use Rattle.pa_frame.proofs.layout.push_places.Given as goal

abbrev pub invariant-locals : goal.invariant-locals
invariant-locals l = record {
  places : l.places ++ places_from l.at l.rest ≡ l.fn.places ++ places_from l.from l.locals;
  end : l.at + sum_by rounded l.rest ≡ l.from + sum_by rounded l.locals;
}

abbrev pub decreases-locals : goal.decreases-locals
decreases-locals l = length l.rest
