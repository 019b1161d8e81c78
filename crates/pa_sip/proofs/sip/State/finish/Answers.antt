use Rattle.pa_sip.specs.Sip.{finalized}
use Rattle.pa_sip.proofs.sip.State.finish.Goals as goal

pub returns : goal.returns
unfolding finalized
returns c = simp c.rounds.ensures
