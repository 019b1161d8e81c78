use Rattle.std.proofs.Common.{◌≡◌, length}
use Rattle.pa_fixups.specs.Chain.{without_slots, AreWritable}
use Rattle.pa_fixups.proofs.write.erase_slots.Given as goal

abbrev pub invariant-loop-fix : goal.invariant-loop-fix
invariant-loop-fix l =
    AreWritable (length l.page) l.rest × (without_slots l.page l.rest ≡ without_slots l.fn.page l.fixes)

abbrev pub decreases-loop-fix : goal.decreases-loop-fix
decreases-loop-fix l = length l.rest
