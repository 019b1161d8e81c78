use Rattle.std.proofs.Common.{◌≡◌, ◌≤◌, ◌*◌, ◌++◌, suc, length, map}
use Rattle.pa_typed.specs.Views.{bare_stmt, t_stmts_of}
use Rattle.pa_typed.proofs.Sizes.{stmt_size, stmts_size}
use Rattle.pa_link.specs.Numbering.{numbered_stmt}
use Rattle.pa_link.proofs.numbered_stmt.+numbered_stmt.Given as goal

abbrev pub invariant-numbered_stmts-stmts : goal.invariant-numbered_stmts-stmts
invariant-numbered_stmts-stmts l = record {
  same : l.made ++ map (numbered_stmt l.n) l.rest ≡ map (numbered_stmt l.n) l.stmts;
  size : stmts_size (t_stmts_of (map bare_stmt l.rest)) ≤ stmts_size (t_stmts_of (map bare_stmt l.stmts));
}

abbrev pub decreases-numbered_stmts-stmts : goal.decreases-numbered_stmts-stmts
decreases-numbered_stmts-stmts l = length l.rest

abbrev pub decreases-numbered_stmt : goal.decreases-numbered_stmt
decreases-numbered_stmt l = 2 * stmt_size (bare_stmt l.stmt.now)

abbrev pub decreases-numbered_stmts : goal.decreases-numbered_stmts
decreases-numbered_stmts l = suc (2 * stmts_size (t_stmts_of (map bare_stmt l.stmts.now)))

abbrev pub decreases-boxed : goal.decreases-boxed
decreases-boxed l = suc (2 * stmt_size (bare_stmt l.stmt.now))
