use Rattle.pa_pac.proofs.Laws.{auth-sign}
use Rattle.pa_pac.proofs.signing.sign.Goals as goal

pub returns-clause-accepted : goal.returns-clause-accepted
returns-clause-accepted g c h = rw (c.covered.ensures) (auth-sign (g.P.Pac.code c.args.p.now) c.args.key c.args.modifier c.args.raw h)
