use Rattle.std.proofs.Common.{refl}
use Rattle.pa_words.specs.Usage.{value_of}
use Rattle.pa_words.proofs.given.Given.none.Goals as goal

pub returns : goal.returns
unfolding value_of
returns c = refl
