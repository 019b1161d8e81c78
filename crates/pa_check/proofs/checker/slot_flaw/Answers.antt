use Rattle.pa_check.proofs.Legal.{fixes_aligned}
use Rattle.pa_check.proofs.checker.slot_flaw.Goals as goal

pub first_no_import-requires-clause-aligned : goal.first_no_import-requires-clause-aligned
first_no_import-requires-clause-aligned c = rw c.as_slice.ensures (fixes_aligned c.args.image.now c.requires.legal)
