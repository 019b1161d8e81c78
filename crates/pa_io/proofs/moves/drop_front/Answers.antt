use Rattle.std.proofs.Common.{arith}
use Rattle.std.proofs.lemmas.Grind.{common_steps}
use Rattle.pa_io.proofs.Shifted.{Shifted-all}
use Rattle.pa_io.proofs.moves.drop_front.Goals as goal

pub returns : goal.returns
returns c = grind (arith, common_steps, Shifted-all)
