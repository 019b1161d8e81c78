use Rattle.std.proofs.Common.{◌<◌, refl, arith}
use Rattle.pa_lir.proofs.Below.{read_below}
use Rattle.pa_lir.proofs.checks.are_written_first.Goals as goal

pub returns : goal.returns
returns c = (
  λ _ t at before path reads.
      let below = read_below c.args.code.now.ops.now t at reads in
      let seen : t < c.loop-temp.temp = omega (arith, below, c.above_all-temp-end.ensures.value, c.loop-temp-test.false) in
      c.loop-temp.invariant t seen at before path reads,
  λ _. refl,
)
