use Rattle.std.proofs.Common.{◌∙◌}
use Rattle.pa_load.specs.Loaded.{blank}
use Rattle.pa_load.proofs.segments.zeros.Goals as goal

pub returns : goal.returns
unfolding blank
returns c = c.from_vec.ensures ∙ c.in_ok-vec.ensures.items_if_clones_equal (λ y h. h)
