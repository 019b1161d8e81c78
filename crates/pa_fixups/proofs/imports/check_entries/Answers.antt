use Rattle.pa_layout.specs.Flaws.{first}
use Rattle.pa_fixups.specs.Fixups.{entry_checks}
use Rattle.pa_fixups.proofs.Cuts.{entries_on}
use Rattle.pa_fixups.proofs.imports.check_entries.Goals as goal

pub loop-k-preserved : goal.loop-k-preserved
loop-k-preserved c =
    entries_on c.args.count c.loop-k.k c.args.at c.args.part.now (first (entry_checks c.args.count c.args.at c.args.part.now) c.args.part.now) c.loop-k-test.true (rw c.number_of_four.ensures at c.in_ok-check.ensures) c.loop-k.invariant
