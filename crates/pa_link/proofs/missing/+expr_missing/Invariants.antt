use Rattle.std.proofs.Common.{◌≡◌, ◌≤◌, ◌+◌, suc, length, map}
use Rattle.pa_typed.specs.Views.{bare_expr, t_exprs_of}
use Rattle.pa_typed.proofs.Sizes.{expr_size, parts_size}
use Rattle.pa_link.specs.Missing.{earlier, earliest, expr_missing}
use Rattle.pa_link.proofs.missing.+expr_missing.Given as goal

abbrev pub invariant-exprs_missing-items : goal.invariant-exprs_missing-items
invariant-exprs_missing-items l = record {
  same : earlier l.least (earliest (map (expr_missing l.defined) l.rest)) ≡ earliest (map (expr_missing l.defined) l.items);
  size : parts_size (t_exprs_of (map bare_expr l.rest)) ≤ parts_size (t_exprs_of (map bare_expr l.items));
}

abbrev pub decreases-exprs_missing-items : goal.decreases-exprs_missing-items
decreases-exprs_missing-items l = length l.rest

abbrev pub decreases-expr_missing : goal.decreases-expr_missing
decreases-expr_missing l = expr_size (bare_expr l.e.now)

abbrev pub decreases-exprs_missing : goal.decreases-exprs_missing
decreases-exprs_missing l = parts_size (t_exprs_of (map bare_expr l.items.now))

abbrev pub decreases-two_missing : goal.decreases-two_missing
decreases-two_missing l = suc (expr_size (bare_expr l.first.now) + expr_size (bare_expr l.second.now))
