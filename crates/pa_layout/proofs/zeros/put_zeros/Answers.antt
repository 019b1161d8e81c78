use Rattle.std.proofs.Common.{◌++◌, replicate}
use Rattle.pa_layout.proofs.Pushed.{zeros_push}
use Rattle.pa_layout.proofs.zeros.put_zeros.Goals as goal

pub loop-preserved : goal.loop-preserved
loop-preserved c =
    rw c.in_ok-push.ensures.items (zeros_push c.args.count c.loop.counter c.loop.out.items (c.args.out.now.items ++ replicate c.args.count 0) c.loop-test.true c.loop.invariant)
