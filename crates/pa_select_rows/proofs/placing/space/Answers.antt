use Rattle.std.proofs.Common.{arith}
use Rattle.pa_machine.proofs.Regions.{apart_first, apart_next}
use Rattle.pa_select_rows.proofs.placing.space.Goals as goal

pub add-requires : goal.add-requires
add-requires c = record { apart = apart_first _ _ c.new-space.ensures }

pub add-requires-2 : goal.add-requires-2
add-requires-2 c = record {
  apart = rw c.in_ok-add.ensures.ok (apart_next _ _ _ (apart_first _ _ c.new-space.ensures) (omega (arith, c.in_ok-stack.ensures)));
}
