use Rattle.std.proofs.Common.{◌≡◌, ◌≤◌, length, map, max}
use Rattle.pa_typed.specs.Counts.{stmts_pend}
use Rattle.pa_typed.specs.Views.{bare_stmt, t_stmts_of}
use Rattle.pa_typed.proofs.Sizes.{stmt_size, stmts_size}
use Rattle.pa_typed.proofs.counts.+stmt_pend.Given as goal

abbrev pub invariant-stmts_pend-stmts : goal.invariant-stmts_pend-stmts
invariant-stmts_pend-stmts l = record {
  same : max l.largest (stmts_pend (t_stmts_of (map bare_stmt l.rest))) ≡ stmts_pend (t_stmts_of (map bare_stmt l.stmts));
  size : stmts_size (t_stmts_of (map bare_stmt l.rest)) ≤ stmts_size (t_stmts_of (map bare_stmt l.stmts));
}

abbrev pub decreases-stmts_pend-stmts : goal.decreases-stmts_pend-stmts
decreases-stmts_pend-stmts l = length l.rest

abbrev pub decreases-stmt_pend : goal.decreases-stmt_pend
decreases-stmt_pend l = stmt_size (bare_stmt l.stmt.now)

abbrev pub decreases-stmts_pend : goal.decreases-stmts_pend
decreases-stmts_pend l = stmts_size (t_stmts_of (map bare_stmt l.stmts.now))
