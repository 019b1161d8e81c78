use Rattle.std.proofs.Common.{arith}
use Rattle.std.proofs.lemmas.Grind.{common_steps}
use Rattle.pa_ctype.proofs.Functions.{below_push}
use Rattle.pa_link.proofs.NameNumbers.{grown-length, grown-trans, pushed_names}
use Rattle.pa_link.proofs.names.numbers_of.Goals as goal

pub names-preserved : goal.names-preserved
names-preserved c =
    let more = c.in_ok-number_of.ensures.grows in
    let step = pushed_names c.names.table.keys c.number_of.new.table.keys c.names.numbers c.in_ok-number_of.field-0 c.as_slice.result.now more c.names.invariant.known c.in_ok-number_of.ensures.is in
    record {
      known = rw c.in_ok-push.ensures.ok (below_push _ _ (grown-length _ _ more) c.names.numbers c.in_ok-number_of.field-0 c.names.invariant.known c.in_ok-number_of.ensures.number);
      are = grind (arith, common_steps, step, c.names.invariant.are);
      grows = grown-trans _ _ _ c.names.invariant.grows more;
    }
