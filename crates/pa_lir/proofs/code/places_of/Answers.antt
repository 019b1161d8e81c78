use Rattle.std.proofs.Common.{arith}
use Rattle.std.proofs.lemmas.Grind.{common_steps}
use Rattle.pa_lir.proofs.Placing.{place_more, place_none}
use Rattle.pa_lir.proofs.code.places_of.Goals as goal

pub ops-preserved : goal.ops-preserved
ops-preserved c = record {
  placed = λ label. grind (arith, common_steps, place_more, c.in_ok-note_op.ensures label, c.ops.invariant.placed label);
  count = grind (arith, common_steps);
}

pub returns : goal.returns
returns c = λ label. grind (arith, common_steps, place_none, c.ops.invariant.placed label)
