use Rattle.std.proofs.Common.{◌∙◌, arith}
use Rattle.std.proofs.lemmas.Nat.{and_mask}
use Rattle.pa_pac.specs.Schema.{blend}
use Rattle.pa_pac.proofs.schema.blend.Goals as goal

pub returns : goal.returns
unfolding blend
returns c = c.put.ensures.value ∙ rw (and_mask c.args.integer 16) (omega arith)
