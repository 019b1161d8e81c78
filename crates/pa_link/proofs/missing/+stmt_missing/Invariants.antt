use Rattle.std.proofs.Common.{◌≡◌, ◌≤◌, length, map}
use Rattle.pa_typed.specs.Views.{bare_stmt, t_stmts_of}
use Rattle.pa_typed.proofs.Sizes.{stmt_size, stmts_size}
use Rattle.pa_link.specs.Missing.{earlier, earliest, stmt_missing}
use Rattle.pa_link.proofs.missing.+stmt_missing.Given as goal

abbrev pub invariant-stmts_missing-stmts : goal.invariant-stmts_missing-stmts
invariant-stmts_missing-stmts l = record {
  same : earlier l.least (earliest (map (stmt_missing l.defined) l.rest)) ≡ earliest (map (stmt_missing l.defined) l.stmts);
  size : stmts_size (t_stmts_of (map bare_stmt l.rest)) ≤ stmts_size (t_stmts_of (map bare_stmt l.stmts));
}

abbrev pub decreases-stmts_missing-stmts : goal.decreases-stmts_missing-stmts
decreases-stmts_missing-stmts l = length l.rest

abbrev pub decreases-stmt_missing : goal.decreases-stmt_missing
decreases-stmt_missing l = stmt_size (bare_stmt l.stmt.now)

abbrev pub decreases-stmts_missing : goal.decreases-stmts_missing
decreases-stmts_missing l = stmts_size (t_stmts_of (map bare_stmt l.stmts.now))
