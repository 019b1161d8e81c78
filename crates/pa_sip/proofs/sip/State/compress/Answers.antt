use Rattle.pa_sip.specs.Sip.{compressed}
use Rattle.pa_sip.proofs.sip.State.compress.Goals as goal

pub returns : goal.returns
unfolding compressed
returns c = simp c.rounds.ensures
