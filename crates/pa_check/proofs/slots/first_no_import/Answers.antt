use Rattle.std.proofs.Common.{sym, ◌∙◌, ◌/◌}
use Rattle.pa_check.proofs.Lists.{no_import_stops, no_import_goes, no_import_ends, one_more}
use Rattle.pa_check.proofs.slots.first_no_import.Goals as goal

pub returns-then-not-has_import-clause-value : goal.returns-then-not-has_import-clause-value
returns-then-not-has_import-clause-value c = sym (c.loop-i.invariant.seen ∙ no_import_stops c.args.fixes.now c.loop-i.i (c.args.got / 8) c.loop-i-test.true (sym c.has_import.ensures.value ∙ c.if-not-has_import.true))

pub loop-i-preserved : goal.loop-i-preserved
loop-i-preserved c = record {
  seen = c.loop-i.invariant.seen ∙ no_import_goes c.args.fixes.now c.loop-i.i (c.args.got / 8) c.loop-i-test.true (sym c.has_import.ensures.value ∙ c.if-not-has_import.false);
  before = one_more c.args.fixes.now c.loop-i.i c.loop-i.invariant.before (rw c.if-not-has_import.false at c.has_import.ensures.there);
}

pub returns-clause-value : goal.returns-clause-value
returns-clause-value c = sym (c.loop-i.invariant.seen ∙ no_import_ends c.args.fixes.now c.loop-i.i (c.args.got / 8) c.loop-i-test.false)
