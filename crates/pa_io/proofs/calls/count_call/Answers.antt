use Rattle.std.proofs.Common.{arith}
use Rattle.pa_io.proofs.Failures.{failures-next, failures-rose}
use Rattle.pa_io.proofs.calls.count_call.Goals as goal

pub returns-clause-fault : goal.returns-clause-fault
returns-clause-fault c = let rose = failures-rose _ c.args.calls.now c.type_inv.fails in grind (arith, c.is_listed-listed.ensures)

pub returns-clause-others : goal.returns-clause-others
returns-clause-others c = grind (arith, failures-next)
