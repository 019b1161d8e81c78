use Rattle.std.proofs.Common.{◌≡◌, ◌<◌, ◌*◌, ◌-◌, ◌/◌, ℕ}
use Rattle.std.specs.Prelude.{slice_index_or}
use Rattle.pa_check.specs.Slots.{first_no_import, no_fix}
use Rattle.pa_check.proofs.slots.first_no_import.Given as goal

abbrev pub invariant-loop-i : goal.invariant-loop-i
invariant-loop-i l = record {
  seen : first_no_import l.fixes 0 (l.got / 8) ≡ first_no_import l.fixes (8 * l.i) (l.got / 8 - l.i);
  before : (j : ℕ) → j < l.i → (slice_index_or l.fixes j no_fix).at ≡ 8 * j;
}
