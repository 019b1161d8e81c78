use Rattle.std.proofs.Common.{arith}
use Rattle.bench_machine.proofs.Below.{below_more}
use Rattle.bench_machine.proofs.space.Goals as goal

pub add-requires-2 : goal.add-requires-2
add-requires-2 c = below_more _ _ _ (omega (arith, c.in_ok-code.ensures, c.requires)) c.in_ok-add.ensures

pub add-requires-4 : goal.add-requires-4
add-requires-4 c = below_more _ _ _ (omega (arith, c.in_ok-zeros-2.ensures)) c.in_ok-add-3.ensures

pub add-requires-5 : goal.add-requires-5
add-requires-5 c = below_more _ _ _ (omega (arith, c.in_ok-zeros-3.ensures)) c.in_ok-add-4.ensures
