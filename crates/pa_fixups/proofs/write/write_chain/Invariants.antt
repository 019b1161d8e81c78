use Rattle.std.proofs.Common.{◌≡◌, ◌≤◌, length}
use Rattle.pa_fixups.specs.Chain.{with_slots, AreWritable}
use Rattle.pa_fixups.proofs.write.write_chain.Given as goal

abbrev pub invariant-loop-fix : goal.invariant-loop-fix
invariant-loop-fix l =
    (length l.page ≤ 0x4000) × AreWritable (length l.page) l.rest × (with_slots l.page l.rest ≡ with_slots l.fn.page l.fixes)

abbrev pub decreases-loop-fix : goal.decreases-loop-fix
decreases-loop-fix l = length l.rest
