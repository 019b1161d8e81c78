use Rattle.std.proofs.Common.{◌≡◌, ◌+◌, ℕ, length}
use Rattle.pa_lir.specs.Flow.{place_of_label}
use Rattle.pa_lir.specs.Placing.{kept, or_else, place_from}
use Rattle.pa_lir.proofs.code.places_of.Given as goal

abbrev pub invariant-ops : goal.invariant-ops
invariant-ops l = record {
  placed : (label : ℕ) → or_else (kept l.places label) (place_from l.at l.rest label) ≡ place_of_label l.fn.ops label;
  count : l.at + length l.rest ≡ length l.fn.ops;
}

abbrev pub decreases-ops : goal.decreases-ops
decreases-ops l = length l.rest
