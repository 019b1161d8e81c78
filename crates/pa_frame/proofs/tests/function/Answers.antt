use Rattle.std.proofs.Common.{◌≡◌, ◌≤◌, [], ◌∷◌, ◌++◌, sym, ◌∙◌, ap, subst, arith}
use Rattle.std.specs.List.{sum_by}
use Rattle.pa_lir.specs.declared.op.Op.TheVariants as op
use Rattle.pa_lir.specs.Parts.{rounded, above, above_all}
use Rattle.pa_lir.specs.Ready.{most_held}
use Rattle.pa_frame.proofs.tests.function.Goals as goal

pub returns : goal.returns
unfolding above above_all
returns c = record {
  bytes =
      let same : sum_by rounded c.in_ok-locals.locals ≡ sum_by rounded (c.local.result ∷ c.local-2.result ∷ c.local-3.result ∷ []) = ap (sum_by rounded) c.in_ok-locals.ensures in
      omega (arith, same, c.local.ensures, c.local-2.ensures, c.local-3.ensures, c.element_fits.fits, c.element_fits2.fits, c.element_fits3.fits);
  held =
      subst (λ os. above_all os ≤ most_held)
      (sym (c.in_ok-push.ensures.ok ∙ ap (λ os. os ++ op.Const c.from.result 0 ∷ []) c.new-ops.ensures))
      (omega (arith, c.from.ensures, c.ranges.temp.fits));
}
