use Rattle.std.proofs.Common.{◌≡◌, ◌≤◌, ◌+◌, ◌<◌, ◌^◌, suc, length, map, max}
use Rattle.pa_typed.specs.Counts.{parts_pend}
use Rattle.pa_typed.specs.Views.{bare_expr, t_exprs_of}
use Rattle.pa_typed.proofs.Sizes.{expr_size, parts_size}
use Rattle.pa_typed.proofs.counts.+pend.Given as goal

abbrev pub invariant-parts_pend-parts : goal.invariant-parts_pend-parts
invariant-parts_pend-parts l = record {
  same : max l.largest (parts_pend l.before (t_exprs_of (map bare_expr l.rest))) ≡ parts_pend 0 (t_exprs_of (map bare_expr l.parts));
  many : l.before + length l.rest ≡ length l.parts;
  size : parts_size (t_exprs_of (map bare_expr l.rest)) ≤ parts_size (t_exprs_of (map bare_expr l.parts));
}

abbrev pub decreases-parts_pend-parts : goal.decreases-parts_pend-parts
decreases-parts_pend-parts l = length l.rest

abbrev pub decreases-expr_pend : goal.decreases-expr_pend
decreases-expr_pend l = expr_size (bare_expr l.e.now)

abbrev pub decreases-parts_pend : goal.decreases-parts_pend
decreases-parts_pend l = parts_size (t_exprs_of (map bare_expr l.parts.now))

abbrev pub decreases-two_pend : goal.decreases-two_pend
decreases-two_pend l = suc (expr_size (bare_expr l.left.now) + expr_size (bare_expr l.right.now))
