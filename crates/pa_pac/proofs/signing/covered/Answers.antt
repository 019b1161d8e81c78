use Rattle.std.proofs.Common.{rules}
use Rattle.pa_pac.specs.Signing.{covered}
use Rattle.pa_pac.proofs.signing.covered.Goals as goal

pub returns : goal.returns
unfolding covered
returns g c = search rules
