use Rattle.std.proofs.Common.{◌≡◌, ◌≤◌, ◌+◌, ◌*◌, ◌++◌, suc, length, map}
use Rattle.pa_typed.specs.Views.{bare_expr, t_exprs_of}
use Rattle.pa_typed.proofs.Sizes.{expr_size, parts_size}
use Rattle.pa_link.specs.Numbering.{numbered_expr}
use Rattle.pa_link.proofs.numbered_expr.+numbered_expr.Given as goal

abbrev pub invariant-numbered_exprs-items : goal.invariant-numbered_exprs-items
invariant-numbered_exprs-items l = record {
  same : l.made ++ map (numbered_expr l.n) l.rest ≡ map (numbered_expr l.n) l.items;
  size : parts_size (t_exprs_of (map bare_expr l.rest)) ≤ parts_size (t_exprs_of (map bare_expr l.items));
}

abbrev pub decreases-numbered_exprs-items : goal.decreases-numbered_exprs-items
decreases-numbered_exprs-items l = length l.rest

abbrev pub decreases-numbered_expr : goal.decreases-numbered_expr
decreases-numbered_expr l = 2 * expr_size (bare_expr l.e.now)

abbrev pub decreases-numbered_exprs : goal.decreases-numbered_exprs
decreases-numbered_exprs l = suc (2 * parts_size (t_exprs_of (map bare_expr l.items.now)))

abbrev pub decreases-boxed : goal.decreases-boxed
decreases-boxed l = suc (2 * expr_size (bare_expr l.e.now))

abbrev pub decreases-two : goal.decreases-two
decreases-two l = suc (suc (2 * (expr_size (bare_expr l.first.now) + expr_size (bare_expr l.second.now))))
