use Rattle.std.proofs.Common.{◌∙◌}
use Rattle.pa_shapes.proofs.Weights.{weight_is}
use Rattle.pa_shapes.proofs.call_weight.Goals as goal

pub returns : goal.returns
returns c names m = c.weight.ensures ∙ weight_is names m c.args.function.now
