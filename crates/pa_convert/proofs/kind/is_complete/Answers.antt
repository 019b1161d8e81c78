use Rattle.std.proofs.Common.{ap, ◌∙◌, is_some}
use Rattle.pa_convert.proofs.kind.is_complete.Goals as goal

pub returns : goal.returns
returns c names m fits = c.is_some.ensures ∙ ap is_some (c.layout_of.ensures.value names m fits)
