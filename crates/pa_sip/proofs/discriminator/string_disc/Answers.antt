use Rattle.pa_sip.specs.Discriminator.{discriminator}
use Rattle.pa_sip.specs.Sip.{word}
use Rattle.pa_sip.proofs.discriminator.string_disc.Goals as goal

pub returns : goal.returns
unfolding discriminator word
returns c = simp c.sip24.ensures
