use Rattle.pa_sip.specs.Sip.{sip_round}
use Rattle.pa_sip.proofs.sip.State.round.Goals as goal

pub returns : goal.returns
unfolding sip_round
returns c = simp (c.rotate_left-self-2.ensures, c.rotate_left-4.ensures, c.rotate_left-3.ensures, c.rotate_left-self.ensures, c.rotate_left-2.ensures, c.rotate_left.ensures)
