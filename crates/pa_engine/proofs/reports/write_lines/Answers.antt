use Rattle.std.proofs.Common.{rules, length, arith, ◌<◌}
use Rattle.std.proofs.lemmas.Result.{on_err_weaker}
use Rattle.pa_engine.proofs.PieceLemmas.{Written-item, Written-cut}
use Rattle.pa_engine.proofs.reports.write_lines.Goals as goal

pub returns-in_err-put_entry-clause-prefix : goal.returns-in_err-put_entry-clause-prefix
returns-in_err-put_entry-clause-prefix g c =
    search (rules, Written-cut _ _ _ _ _ _ c.loop-entry.invariant.0 c.in_err-put_entry.ensures.prefix)

pub loop-entry-preserved : goal.loop-entry-preserved
loop-entry-preserved g c =
    let within : c.loop-entry.entry-index < length c.args.entries.now = omega arith in
    (Written-item _ _ _ _ _ _ _ _ _ _ within c.loop-entry.invariant.0 c.in_ok-put_entry.ensures.all, search (rules, arith))

pub returns-clause-prefix : goal.returns-clause-prefix
returns-clause-prefix g c =
    on_err_weaker c.flush.result (λ p. Written-cut _ _ _ _ _ _ c.loop-entry.invariant.0 p) c.flush.ensures.prefix
