use Rattle.std.proofs.Common.{◌∙◌, sym, ap}
use Rattle.pa_pac.specs.Signing.{covered}
use Rattle.pa_pac.proofs.Laws.{covered-covered}
use Rattle.pa_pac.proofs.signing.auth.Goals as goal

pub returns-then-raw-canonical-clause-signed : goal.returns-then-raw-canonical-clause-signed
returns-then-raw-canonical-clause-signed g c =
    let code = g.P.Pac.code c.args.p.now in (
      sym c.canonical.ensures ∙ sym c.if-raw-canonical.true,
      ap (covered code c.args.key c.args.modifier) c.covered-raw.ensures ∙ covered-covered code c.args.key c.args.modifier c.args.value,
    )
