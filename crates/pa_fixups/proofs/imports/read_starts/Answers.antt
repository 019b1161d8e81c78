use Rattle.pa_fixups.proofs.Cuts.{numbers_push}
use Rattle.pa_fixups.proofs.imports.read_starts.Goals as goal

pub loop-page-preserved : goal.loop-page-preserved
loop-page-preserved c =
    let e = c.in_ok-push.ensures.ok in let y = c.number_of_two.ensures in
    rw (e, y) (numbers_push c.args.pages c.loop-page.page c.args.at c.args.part.now c.loop-page.starts c.loop-page-test.true c.loop-page.invariant)
